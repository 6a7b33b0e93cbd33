-- Opening (document 01, "Opening and memory"), over bases and lengths, without the bytes.
use Rattle.std.specs.Prelude.{Bool, true, false, ◌&&◌, List, [], ◌∷◌, ◌≡◌, ℕ, ◌+◌, ◌-◌, ◌^◌, length}
use Rattle.mem.specs.Memory.{lent}
use Rattle.mem.specs.Opening.{bounded, apart, opens}
use Rattle.arch.specs.Arch.{is_known}
use Rattle.boundaries.specs.Row.{Row, ◌gives◌, Right}

-- so many bytes at an address
pub record Range : Type 0 where
  pub size : ℕ
  pub base : ℕ

infix 80 ◌bytes_at◌
abbrev pub ◌bytes_at◌ : ℕ → ℕ → Range
◌bytes_at◌ size base = record { size = size; base = base }

-- a section and a stack with these bases and lengths are accepted
abbrev pub accepts : Range → Range → Bool
accepts section stack =
    bounded section.base section.size && bounded stack.base stack.size &&
    apart section.base section.size stack.base stack.size

-- that is what `opens` says of every section and stack
abbrev pub OpensByLength : Type 0
OpensByLength =
    (section stack : List ℕ) (section_base stack_base : ℕ) →
    opens (lent section section_base stack stack_base) ≡ accepts (length section bytes_at section_base) (length stack bytes_at stack_base)

-- "A base address is 1 to 2^62": the section's, then the stack's; also where there are no bytes
abbrev pub bases : List (Row Bool)
bases =
    accepts (16 bytes_at 0) (16 bytes_at 0x8000) gives false ∷
    accepts (16 bytes_at 1) (16 bytes_at 0x8000) gives true ∷
    accepts (16 bytes_at (2 ^ 62)) (16 bytes_at 0x8000) gives true ∷
    accepts (16 bytes_at (2 ^ 62 + 1)) (16 bytes_at 0x8000) gives false ∷
    accepts (16 bytes_at (2 ^ 64 - 1)) (16 bytes_at 0x8000) gives false ∷
    accepts (16 bytes_at 0x1000) (16 bytes_at 0) gives false ∷
    accepts (16 bytes_at 0x1000) (16 bytes_at 1) gives true ∷
    accepts (16 bytes_at 0x1000) (16 bytes_at (2 ^ 62)) gives true ∷
    accepts (16 bytes_at 0x1000) (16 bytes_at (2 ^ 62 + 1)) gives false ∷
    accepts (16 bytes_at 0x1000) (16 bytes_at (2 ^ 64 - 1)) gives false ∷
    accepts (0 bytes_at 0) (16 bytes_at 0x8000) gives false ∷
    accepts (0 bytes_at 1) (16 bytes_at 0x8000) gives true ∷
    accepts (0 bytes_at (2 ^ 62)) (16 bytes_at 0x8000) gives true ∷
    accepts (0 bytes_at (2 ^ 62 + 1)) (16 bytes_at 0x8000) gives false ∷
    accepts (16 bytes_at 0x1000) (0 bytes_at 0) gives false ∷
    accepts (16 bytes_at 0x1000) (0 bytes_at 1) gives true ∷
    accepts (16 bytes_at 0x1000) (0 bytes_at (2 ^ 62)) gives true ∷
    accepts (16 bytes_at 0x1000) (0 bytes_at (2 ^ 62 + 1)) gives false ∷ []

-- "a length 0 to 2^31"
abbrev pub lengths : List (Row Bool)
lengths =
    accepts (0 bytes_at 0x1000) (0 bytes_at 0x8000) gives true ∷
    accepts ((2 ^ 31) bytes_at 0x1000) (0 bytes_at 1) gives true ∷
    accepts ((2 ^ 31 + 1) bytes_at 0x1000) (0 bytes_at 1) gives false ∷
    accepts (0 bytes_at 1) ((2 ^ 31) bytes_at 0x1000) gives true ∷
    accepts (0 bytes_at 1) ((2 ^ 31 + 1) bytes_at 0x1000) gives false ∷
    accepts ((2 ^ 31) bytes_at 1) ((2 ^ 31) bytes_at (2 ^ 62)) gives true ∷
    accepts ((2 ^ 31) bytes_at (2 ^ 62)) ((2 ^ 31) bytes_at 1) gives true ∷
    accepts ((2 ^ 31 + 1) bytes_at 1) ((2 ^ 31) bytes_at (2 ^ 62)) gives false ∷
    accepts ((2 ^ 31) bytes_at (2 ^ 62)) ((2 ^ 31 + 1) bytes_at 1) gives false ∷
    accepts ((2 ^ 32) bytes_at 1) (0 bytes_at 1) gives false ∷
    accepts (0 bytes_at 1) ((2 ^ 32) bytes_at 1) gives false ∷ []

-- "section and stack share no address (an empty one shares none)"
abbrev pub shared : List (Row Bool)
shared =
    -- the stack after the section: touching, then meeting by one byte
    accepts (16 bytes_at 0x1000) (16 bytes_at 0x1011) gives true ∷
    accepts (16 bytes_at 0x1000) (16 bytes_at 0x1010) gives true ∷
    accepts (16 bytes_at 0x1000) (16 bytes_at 0x100f) gives false ∷
    -- before it
    accepts (16 bytes_at 0x1000) (16 bytes_at 0xfef) gives true ∷
    accepts (16 bytes_at 0x1000) (16 bytes_at 0xff0) gives true ∷
    accepts (16 bytes_at 0x1000) (16 bytes_at 0xff1) gives false ∷
    -- the same bytes, one within the other, a single byte
    accepts (16 bytes_at 0x1000) (16 bytes_at 0x1000) gives false ∷
    accepts (16 bytes_at 0x1000) (4 bytes_at 0x1004) gives false ∷
    accepts (4 bytes_at 0x1004) (16 bytes_at 0x1000) gives false ∷
    accepts (1 bytes_at 0x1000) (1 bytes_at 0xfff) gives true ∷
    accepts (1 bytes_at 0x1000) (1 bytes_at 0x1000) gives false ∷
    accepts (1 bytes_at 0x1000) (1 bytes_at 0x1001) gives true ∷
    -- an empty one
    accepts (16 bytes_at 0x1000) (0 bytes_at 0x1000) gives true ∷
    accepts (16 bytes_at 0x1000) (0 bytes_at 0x1008) gives true ∷
    accepts (0 bytes_at 0x1008) (16 bytes_at 0x1000) gives true ∷
    accepts (0 bytes_at 0x1000) (0 bytes_at 0x1000) gives true ∷
    -- the longest, which touch and meet
    accepts ((2 ^ 31) bytes_at 1) ((2 ^ 31) bytes_at (2 ^ 31 + 1)) gives true ∷
    accepts ((2 ^ 31) bytes_at 1) ((2 ^ 31) bytes_at (2 ^ 31)) gives false ∷
    accepts ((2 ^ 31) bytes_at (2 ^ 62)) ((2 ^ 31) bytes_at (2 ^ 62 - 2 ^ 31)) gives true ∷
    accepts ((2 ^ 31) bytes_at (2 ^ 62)) ((2 ^ 31) bytes_at (2 ^ 62 - 2 ^ 31 + 1)) gives false ∷ []

-- "architecture 1 aarch64, 2 x86-64", and no other
abbrev pub architectures : List (Row Bool)
architectures =
    is_known 0 gives false ∷
    is_known 1 gives true ∷
    is_known 2 gives true ∷
    is_known 3 gives false ∷
    is_known 255 gives false ∷ []

-- the rows are right
abbrev pub Openings : Type 0
Openings = OpensByLength × Right bases × Right lengths × Right shared × Right architectures
