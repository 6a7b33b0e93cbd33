-- Laws of `form_of` at the runs of first bytes that share a form. Assumes nothing.
use Rattle.std.specs.Prelude.{if◌then◌else◌}
use mathlib.Core.Path.{◌≡◌}
use Prim.Native.Nat.{ℕ, ◌-◌, ◌≤◌, ◌<◌}
use native.Mathlib.Omega.{arith}
use lib.Dec.{ltb}
use borrow.Author.Tests.{lt-ltb, le-ltb, ne_eqb}
use Rattle.program.specs.declared.decode.Rule.TheVariants as rule
use Rattle.program.specs.declared.decode.Op.TheVariants.{Advance, Set}
use Rattle.program.specs.declared.decode.Incomplete.TheVariants as incomplete
use Rattle.program.specs.declared.decode.Form.TheVariants.{Whole, WithNumber, Unknown}
use Rattle.program.specs.Operation.{form_of}

-- a byte that is at least n and is not n is above it
pub past : (n code : ℕ) → n ≤ code → (code ≡ n → ⊥) → n < code
past n code h e = omega arith

module _ (code : ℕ) where
  pub form_advance : (code ≡ 0 → ⊥) → code < 0x40 → Whole (Advance code) ≡ form_of code
  unfolding form_of
  form_advance z h = simp (ne_eqb code 0 z, lt-ltb code 0x40 h)

  module _ (some : code ≡ 0 → ⊥) where
    pub form_units : 0x40 ≤ code → code < 0x80 → Whole (Set (rule.Units (code - 0x40))) ≡ form_of code
    unfolding form_of
    form_units l h = simp (ne_eqb code 0 some, le-ltb code 0x40 l, lt-ltb code 0x80 h)

    pub form_save : 0x80 ≤ code → code < 0xc0 → WithNumber (incomplete.Save (code - 0x80)) ≡ form_of code
    unfolding form_of
    form_save l h = simp (ne_eqb code 0 some, le-ltb code 0x40 (omega arith), le-ltb code 0x80 l, lt-ltb code 0xc0 h)

  -- any byte above ca
  module _ (above : 0xca < code) where
    -- none of the codes up to ca: only the test against e0 is left
    left_over : form_of code ≡ (if ltb code 0xe0 then Unknown else Whole (Set (rule.Restore (code - 0xe0))))
    unfolding form_of
    left_over =
        simp (
          ne_eqb code 0 (λ e. omega arith),
          le-ltb code 0x40 (omega arith),
          le-ltb code 0x80 (omega arith),
          le-ltb code 0xc0 (omega arith),
          ne_eqb code 0xc0 (λ e. omega arith),
          ne_eqb code 0xc1 (λ e. omega arith),
          ne_eqb code 0xc2 (λ e. omega arith),
          ne_eqb code 0xc3 (λ e. omega arith),
          ne_eqb code 0xc4 (λ e. omega arith),
          ne_eqb code 0xc5 (λ e. omega arith),
          ne_eqb code 0xc6 (λ e. omega arith),
          ne_eqb code 0xc7 (λ e. omega arith),
          ne_eqb code 0xc8 (λ e. omega arith),
          ne_eqb code 0xc9 (λ e. omega arith),
          ne_eqb code 0xca (λ e. omega arith),
        )

    pub form_unknown : code < 0xe0 → Unknown ≡ form_of code
    form_unknown h = rw left_over (rw (lt-ltb code 0xe0 h))

    pub form_restore : 0xe0 ≤ code → Whole (Set (rule.Restore (code - 0xe0))) ≡ form_of code
    form_restore h = rw left_over (rw (le-ltb code 0xe0 h))
