-- Laws of `lookup_arch`. Assumes nothing.
use Rattle.std.specs.Prelude.{if◌then◌else◌}
use mathlib.Core.Path.{◌≡◌}
use mathlib.Core.Bool.{Bool, true, false, not}
use mathlib.Core.List.{List}
use Rattle.std.specs.Prelude.{Option, Some}
use Prim.Native.Nat.{ℕ}
use native.Mathlib.Omega.{arith}
use Rattle.failure.specs.Outcome.{Outcome, Refused, Answer}
use Rattle.failure.specs.Failure.{BadOpening}
use Rattle.mem.specs.Memory.{lent}
use Rattle.mem.specs.Opening.{opens}
use Rattle.arch.specs.Arch.{is_known}
use Rattle.lookup.specs.Steps.{Inside}
use Rattle.lookup.specs.Lookup.{Found, lookup, lookup_arch}
use Rattle.lookup.proofs.Places.{lookup_in}

-- 28 comes first
module _ (section : List ℕ) (section_base : ℕ) (stack : List ℕ) (stack_base pc arch : ℕ) where
  pub arch_closed : opens (lent section section_base stack stack_base) ≡ false →
      Refused BadOpening ≡ lookup_arch section section_base stack stack_base pc arch
  unfolding lookup_arch
  arch_closed o = simp o

  pub arch_unknown : opens (lent section section_base stack stack_base) ≡ true → is_known arch ≡ false →
      Refused BadOpening ≡ lookup_arch section section_base stack stack_base pc arch
  unfolding lookup_arch
  arch_unknown o k = rw (o, k)

  pub arch_open : opens (lent section section_base stack stack_base) ≡ true → is_known arch ≡ true →
      lookup section section_base pc arch ≡ lookup_arch section section_base stack stack_base pc arch
  unfolding lookup_arch
  arch_open o k = rw (o, k)

  -- a chunk that is found lies in the section
  pub arch_in : (f : Found) → lookup_arch section section_base stack stack_base pc arch ≡ Answer (Some f) → Inside section f.chunk
  unfolding lookup_arch
  arch_in f e = go (opens (lent section section_base stack stack_base)) (is_known arch) e
    where
      clash : ◌≡◌ {A = Outcome (Option Found)} (Refused BadOpening) (Answer (Some f)) → ⊥
      clash p = let z : ◌≡◌ {A = ℕ} 0 1 = cc in omega arith

      go : (o k : Bool) →
          (if not o then Refused BadOpening else if not k then Refused BadOpening else lookup section section_base pc arch) ≡ Answer (Some f) →
          Inside section f.chunk
      go false k p = absurd (clash p)
      go true false p = absurd (clash p)
      go true true p = lookup_in section section_base pc arch f p

-- lookup reads nothing but the section: it is the same for every stack and base that the opening accepts
pub section_only : (section : List ℕ) (section_base : ℕ) (stack stack' : List ℕ) (stack_base stackBase' pc arch : ℕ) →
    opens (lent section section_base stack stack_base) ≡ true → opens (lent section section_base stack' stackBase') ≡ true →
    lookup_arch section section_base stack stack_base pc arch ≡ lookup_arch section section_base stack' stackBase' pc arch
unfolding lookup_arch
section_only section section_base stack stack' stack_base stackBase' pc arch o o' = rw (o, o')
