-- `lookup::faulty` meets its contract: each test is one of the definition's. Assumes nothing.
use mathlib.Core.Path.{◌≡◌, refl, sym, ◌∙◌}
use mathlib.Core.List.{[], ◌∷◌}
use Prim.Native.Nat.{ℕ, ◌+◌, ◌*◌}
use Rattle.std.specs.Int.{w32, from_le_bytes}
use Rattle.mem.proofs.LittleEndian.{of_4}
use native.Mathlib.Omega.{arith}
use Rattle.lookup.proofs.Headers.{fault_magic, fault_version, fault_marks, marks_passed, fault_small, fault_odd, fault_end}
use Rattle.lookup.proofs.faulty.Goals as goal

pub returns-then-magic-ne-MAGIC : goal.returns-then-magic-ne-MAGIC
returns-then-magic-ne-MAGIC c =
    sym (fault_magic _ _ _ _ (λ e. c.if-magic-ne-MAGIC.true (c.requires.1 ∙ e)))

pub returns-then-c-eq0 : goal.returns-then-c-eq0
returns-then-c-eq0 c = sym (fault_version _ _ _ _ c.if-c-eq0.true)

-- version, architecture and flags in one word
marks : (v a : ℕ) → from_le_bytes w32 (v ∷ a ∷ 1 ∷ 0 ∷ []) ≡ v + 256 * a + 65536
marks v a = of_4 (v ∷ a ∷ 1 ∷ 0 ∷ []) refl ∙ omega arith

pub returns-then-u32_at-from_le_bytes : goal.returns-then-u32_at-from_le_bytes
returns-then-u32_at-from_le_bytes c =
    sym
    (fault_marks _ _ _ _ (omega (arith, c.requires.0)) _ _ c.u32_at.ensures c.requires.2
    (λ e. c.if-u32_at-from_le_bytes.true (e ∙ sym (c.from_le_bytes.ensures ∙ marks _ _))))

pub returns-then-c : goal.returns-then-c
returns-then-c c = sym (fault_small _ _ _ _ c.if-c.true)

pub returns-then-c-ne0 : goal.returns-then-c-ne0
returns-then-c-ne0 c = sym (fault_odd _ _ _ _ c.if-c-ne0.true)

pub returns : goal.returns
returns c =
    let (own, flags) =
    marks_passed c.args.part.now c.args.arch c.args.k c.args.c (omega (arith, c.requires.0)) _ _ c.u32_at.ensures c.requires.2
    (c.type_inv.part (c.args.k + 5)).fits (omega arith)
    (c.if-u32_at-from_le_bytes.false ∙ c.from_le_bytes.ensures ∙ marks _ _) in
    fault_end _ _ _ _
    (sym c.requires.1 ∙ c.if-magic-ne-MAGIC.false)
    c.if-c-eq0.false
    own
    flags
    c.if-c.false
    c.if-c-ne0.false
    (omega (arith, c.requires.0))
