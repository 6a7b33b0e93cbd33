-- Laws of `opened`, the test for 28 that the public functions make first. Assumes nothing.
use Rattle.std.proofs.Common.{◌≡◌, Bool, true, false, ℕ, refl, ap, ◌∙◌}
use Rattle.failure.specs.Outcome.{Outcome, ◌>>=◌}
use Rattle.mem.specs.Memory.{Lent}
use Rattle.mem.specs.Opening.{opens}
use Rattle.arch.specs.Arch.{known, is_known}
use Rattle.frame.specs.Public as frame
use Rattle.model.specs.Unwinding.{opened}
use Rattle.unwind.specs.Answers.{accepts}

-- it is what goes on with a test that came to p
pub opened_by : {A : Type 0} (l : Lent) (arch : ℕ) (o : Outcome A) (p : Outcome (Unit {0})) → p ≡ accepts l arch →
    (p >>= λ x. o) ≡ opened l arch o
unfolding opened frame.opened known
opened_by l arch o p e = ap (λ (y : Outcome (Unit {0})). y >>= λ x. o) e ∙ go (opens l) (is_known arch) refl refl
  where
    go : (s t : Bool) → opens l ≡ s → is_known arch ≡ t → (accepts l arch >>= λ x. o) ≡ opened l arch o
    go true true p q = rw (p, q) refl
    go true false p q = rw (p, q) refl
    go false t p q = rw p refl
