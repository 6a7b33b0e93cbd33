-- Where the program, the limit and the table of a record lie: in the section, whose sums do not wrap. Assumes nothing.
use Rattle.std.specs.Prelude.{if◌then◌else◌}
use mathlib.Core.Path.{◌≡◌, refl, sym, ap, subst}
use mathlib.Core.Bool.{Bool, true, false}
use mathlib.Core.List.Memᴰ
use mathlib.Core.List.{List, [], ◌∷◌}
use mathlib.Core.Logic.{◌⊎◌, inl, inr}
use Prim.Native.Nat.{ℕ, zero, suc, ◌+◌, ◌-◌, ◌^◌, ◌≤◌, ◌<◌}
use native.Mathlib.Nat.{pow-suc}
use native.Mathlib.Omega.{arith}
use lib.Dec.{eqb, ltb, lit<}
use lib.ListN.{get_or, take, drop}
use lib.Seq.{get_or-drop}
use Rattle.mem.specs.Memory.{Region, Memory, size}
use Rattle.mem.specs.Opening.{opens}
use Rattle.mem.specs.Word.{little_endian}
use Rattle.mem.specs.Wrapping.{sum}
use Rattle.mem.proofs.Accepted.{bounded_range, accepted_parts}
use Rattle.arch.specs.Arch.{Arch, numbers}
use Rattle.lookup.specs.Field.{word}
use Rattle.lookup.specs.Record.{start_at, end_at, address_of, offset_of, handlers_of, place_of, record_at, record_at2, record_of}
use Rattle.lookup.specs.Steps.{Inside}
use Rattle.lookup.specs.Tables.{Chunks, End, Fault, ◌▸◌, Entry, entry, entries_of, entries, chunks, records}
use Rattle.lookup.specs.Sound.{◌∈◌}
use Rattle.lookup.specs.declared.Chunk.{Chunk}
use Rattle.lookup.specs.declared.Record.{Record}
use Rattle.lookup.proofs.Places.{AllIn, chunks_in}
use Rattle.program.specs.Run.{run}
use Rattle.program.proofs.Section.{run-same}
use Rattle.model.specs.Machine.{Tables, records_of, memory_with, tables_alone, lending}

-- a number in n bytes is below 256 ^ n
little_below : (n : ℕ) (bs : List ℕ) → ((k : ℕ) → get_or bs k 0 < 256) → little_endian (take n bs) < 256 ^ n
little_below zero bs h = lit< tt
little_below (suc n) [] h = omega (arith, pow-suc 256 n, little_below n [] h)
little_below (suc n) (b ∷ bs) h = omega (arith, pow-suc 256 n, h 0, little_below n bs (λ k. h (suc k)))

-- so is a word of n bytes
word_below : (bytes : List ℕ) → ((k : ℕ) → get_or bytes k 0 < 256) → (k n : ℕ) → word bytes k n < 256 ^ n
unfolding word
word_below bytes h k n = little_below n (drop k bytes) (λ i. subst (λ (x : ℕ). x < 256) (sym (get_or-drop k bytes i 0)) (h (k + i)))

-- an accepted section: base 1 to 2^62, at most 2^31 bytes
pub record Bounds (section : Region) : Type 0 where
  pub above : 1 ≤ section.base
  pub below : section.base ≤ 2 ^ 62
  pub small : size section ≤ 2 ^ 31

-- what is lent is accepted only with such a section
section_bounds : (section : Region) (m : Memory) → opens (record { regions = section ∷ m }) ≡ true → Bounds section
unfolding opens
section_bounds section m e =
    let (above, below, small) = bounded_range section.base (size section) (accepted_parts section m e).0 in
    record { above = above; below = below; small = small }

-- a record of a part is record number i of a chunk that lies in the part
record Whence (bytes : List ℕ) (base : ℕ) (e : Entry) : Type 0 where
  pub chunk : Chunk
  pub inside : Inside bytes chunk
  pub index : ℕ
  pub is : e.function ≡ record_of bytes base chunk index

module _ (bytes : List ℕ) (base : ℕ) (e : Entry) where
  -- one of a chunk's
  of_chunk : (m : ℕ) (c : Chunk) (n i : ℕ) → Inside bytes c → e ∈ entries_of bytes base m c n i → Whence bytes base e
  of_chunk m c zero i h p = absurd (Memᴰ.not-nil p)
  of_chunk m c (suc n) i h p = go (Memᴰ.cases_cons p) (λ q. of_chunk m c n (i + 1) h q)
    where
      go : (e ≡ entry bytes base m c i) ⊎ (e ∈ entries_of bytes base m c n (i + 1)) →
          (e ∈ entries_of bytes base m c n (i + 1) → Whence bytes base e) → Whence bytes base e
      go (inl q) rest = record { chunk = c; inside = h; index = i; is = ap (λ (x : Entry). x.function) q }
      go (inr q) rest = rest q

  -- one of those of chunks that lie in the part
  of_chunks : (m : ℕ) (cs : Chunks) → AllIn bytes cs → e ∈ entries bytes base m cs → Whence bytes base e
  of_chunks m End h p = absurd (Memᴰ.not-nil p)
  of_chunks m Fault h p = absurd (Memᴰ.not-nil p)
  of_chunks m (c ▸ cs) h p =
      go (Memᴰ.append_cases (entries_of bytes base m c c.count 0) p) (λ q. of_chunks (m + 1) cs h.1 q)
    where
      go : (e ∈ entries_of bytes base m c c.count 0) ⊎ (e ∈ entries bytes base (m + 1) cs) →
          (e ∈ entries bytes base (m + 1) cs → Whence bytes base e) → Whence bytes base e
      go (inl q) rest = of_chunk m c c.count 0 h.0 q
      go (inr q) rest = rest q

  -- one of the part's
  whence : (arch : ℕ) → e ∈ records bytes base arch → Whence bytes base e
  unfolding records
  whence arch p = of_chunks 0 (chunks bytes arch) (chunks_in bytes arch) p

-- where a record's program, if it has one, and its limit lie
pub record Lies (section : Region) (r : Record) : Type 0 where
  pub program : (r.program ≡ 0) ⊎ (section.base ≤ r.program)
  pub limit : r.limit ≤ section.base + size section

-- where its table, if it has one, lies, and how long its code is
pub record Holds (section : Region) (r : Record) : Type 0 where
  pub handlers : (r.handlers ≡ 0) ⊎ (section.base ≤ r.handlers)
  pub short : r.start ≤ r.end → r.end - r.start < 2 ^ 32

-- the record at a place of a chunk of the section, in each version
abbrev one : Region → Chunk → ℕ → Record
one s c k = record_at s.bytes s.base (sum s.base c.offset) k

abbrev two : Region → Chunk → ℕ → Record
two s c k = record_at2 s.bytes s.base (sum s.base c.offset) (sum (sum s.base c.offset) c.size) k

-- what holds of both holds of every record of the section
of_both : (P : Record → Type 0) (section : Region) (arch : ℕ) →
    ((c : Chunk) (k : ℕ) → c.offset + c.size ≤ size section → P (one section c k) × P (two section c k)) →
    (e : Entry) → e ∈ records section.bytes section.base arch → P e.function
unfolding record_of
of_both P section arch each e p =
    let w = whence section.bytes section.base e arch p in
    let c = w.chunk in
    let k = place_of c w.index in
    subst P (sym w.is) (go (eqb c.version 1) (one section c k) (two section c k) (each c k w.inside.whole))
  where
    go : (t : Bool) (r s : Record) → P r × P s → P (if t then r else s)
    go true r s (x, y) = x
    go false r s (x, y) = y

module _ (section : Region) (b : Bounds section) where
  -- an offset from a chunk, or none
  none_or_in : (t : Bool) (k off : ℕ) → k ≤ size section → off < 2 ^ 32 →
      ((if t then 0 else sum (sum section.base k) off) ≡ 0) ⊎ (section.base ≤ (if t then 0 else sum (sum section.base k) off))
  none_or_in true k off h l = inl refl
  none_or_in false k off h l = inr (omega (arith, b.below, b.small))

  -- a record has no program or one from the section's base on, and its limit is at most the section's end
  pub record_lies : (arch : ℕ) (e : Entry) → e ∈ records section.bytes section.base arch → Lies section e.function
  unfolding record_at record_at2 address_of
  record_lies arch = of_both (λ (r : Record). Lies section r) section arch each
    where
      each : (c : Chunk) (k : ℕ) → c.offset + c.size ≤ size section →
          Lies section (one section c k) × Lies section (two section c k)
      each c k h =
          let off = offset_of (word section.bytes (k + 8) 4) in (
            record { program = inl refl; limit = omega arith },
            record {
              program = none_or_in (eqb off 0) c.offset off (omega arith) (omega arith);
              limit = omega (arith, b.below, b.small);
            },
          )

  module _ (bytes : (k : ℕ) → get_or section.bytes k 0 < 256) where
    -- the length is a u32: an end that wrapped is below the start
    short-code : (k : ℕ) → start_at section.bytes section.base k ≤ end_at section.bytes section.base k →
        end_at section.bytes section.base k - start_at section.bytes section.base k < 2 ^ 32
    unfolding end_at start_at
    short-code k h = omega (arith, word_below section.bytes bytes (k + 4) 4)

    -- a record has no table or one from the section's base on, and its code is shorter than 2^32
    pub record-holds : (arch : ℕ) (e : Entry) → e ∈ records section.bytes section.base arch → Holds section e.function
    unfolding record_at record_at2 address_of handlers_of
    record-holds arch = of_both (λ (r : Record). Holds section r) section arch each
      where
        each : (c : Chunk) (k : ℕ) → c.offset + c.size ≤ size section →
            Holds section (one section c k) × Holds section (two section c k)
        each c k h =
            let v = word section.bytes (k + 12) 4 in
            let w = word section.bytes (k + 8) 4 in (
              record {
                handlers = none_or_in (eqb v 0) c.offset v (omega arith) (word_below section.bytes bytes (k + 12) 4);
                short = short-code k;
              },
              record {
                handlers = none_or_in (ltb w (2 ^ 31)) c.offset (offset_of w) (omega arith) (omega arith);
                short = short-code k;
              },
            )

-- the run of a record's program is the same whatever else is lent
pub run_lies : (section : Region) (m m' : Memory) (a : Arch) (r : Record) → Lies section r → (off : ℕ) →
    run (section ∷ m) a r.program r.limit off ≡ run (section ∷ m') a r.program r.limit off
unfolding run
run_lies section m m' a r l off = go l.program
  where
    go : (r.program ≡ 0) ⊎ (section.base ≤ r.program) →
        run (section ∷ m) a r.program r.limit off ≡ run (section ∷ m') a r.program r.limit off
    go (inl e) = rw e
    go (inr h) = run-same section m m' r.limit l.limit a off r.program h

-- tables that are lent have such a section
pub lent_bounds : (ts : Tables) (stack : Region) → opens (lending ts stack) ≡ true → Bounds ts.section
lent_bounds ts stack o = section_bounds ts.section (stack ∷ []) o

-- so the run does not depend on the stack
pub run_in_section : (ts : Tables) (stack : Region) (e : Entry) → opens (lending ts stack) ≡ true → e ∈ records_of ts → (off : ℕ) →
    run (memory_with ts stack) (numbers ts.arch) e.function.program e.function.limit off
    ≡ run (tables_alone ts) (numbers ts.arch) e.function.program e.function.limit off
run_in_section ts stack e o p off =
    run_lies ts.section (stack ∷ []) [] (numbers ts.arch) e.function
    (record_lies ts.section (lent_bounds ts stack o) ts.arch e p) off
