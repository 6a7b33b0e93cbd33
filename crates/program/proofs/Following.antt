-- Laws of `follow` and `frame_regs`. Assumes nothing.
use mathlib.Core.Path.{◌≡◌, sym, ◌∙◌, ap}
use Prim.Native.Nat.{ℕ}
use Rattle.failure.specs.Outcome.{Outcome, Refused, Answer}
use Rattle.arch.specs.Arch.{Arch}
use Rattle.arch.specs.Answers.{in_code}
use Rattle.arch.specs.declared.Arch2.{Arch2}
use Rattle.state.specs.declared.State.{State}
use Rattle.state.specs.Save.{save}
use Rattle.state.specs.Answers.{changed}
use Rattle.program.specs.declared.decode.Rule.{Rule}
use Rattle.program.specs.Rule.{frame_regs, follow}

-- the rule that was found is the one that was given
pub follow-found : (a : Arch) (st : State) (r found : Rule) (o : Outcome State) → r ≡ found → o ≡ follow a found st → o ≡ follow a r st
follow-found a st r found o e p = p ∙ sym (ap (λ (x : Rule). follow a x st) e)

-- the two saves, over the numbers of an architecture as the code holds them
module _ (a : Arch) (r : Arch2) (e : r ≡ in_code a) (st : State) where
  pub frame_on :
      (mid : State) (o : Outcome State) → Answer mid ≡ changed (save st r.fp 2) → o ≡ changed (save mid r.ra 1) →
      o ≡ frame_regs a st
  unfolding frame_regs
  frame_on mid o p q =
      let first : Answer mid ≡ changed (save st a.fp 2) = p ∙ ap (λ (x : Arch2). changed (save st x.fp 2)) e in
      rw (sym first) (q ∙ ap (λ (x : Arch2). changed (save mid x.ra 1)) e)

  pub frame_refused : (n : ℕ) → Refused n ≡ changed (save st r.fp 2) → Refused n ≡ frame_regs a st
  unfolding frame_regs
  frame_refused n p =
      let first : Refused n ≡ changed (save st a.fp 2) = p ∙ ap (λ (x : Arch2). changed (save st x.fp 2)) e in
      rw (sym first)
