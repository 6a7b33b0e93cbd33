-- Laws of the unwinding that a throw hands back. Assumes nothing.
use Rattle.std.proofs.Common.{◌≡◌, Bool, List, ℕ, Ok, refl, ap}
use Rattle.failure.specs.Outcome.{Beside}
use Rattle.arch.specs.File.{set_pc}
use Rattle.arch.specs.declared.Regs.{Regs}
use Rattle.model.specs.declared.Unwinding.{Unwinding}
use Rattle.model.specs.Search.{Searched}
use Rattle.model.specs.Unwinding.{unchosen}
use Rattle.unwind.specs.Answers.{frame_with, searched, raised_by}
use Rattle.unwind.specs.declared.RaiseAnswer.{RaiseAnswer}
use Rattle.unwind.specs.declared.RaiseAnswer.TheVariants as answer

-- an answer that chooses no frame is beside an unwinding that has none
pub begun_unchosen : (file : List ℕ) (at : ℕ) (interrupted : Bool) (exception : ℕ) (x : RaiseAnswer) →
    ((number sp : ℕ) → x ≡ answer.Chosen number sp → ⊥) → (regs : Regs) → regs.r ≡ set_pc file at →
    ◌≡◌ {A = Beside Searched Unwinding}
    (record { answer = searched (Ok x); state = unchosen (frame_with 0 interrupted regs.r) exception })
    (raised_by file at interrupted exception (searched (Ok x)))
begun_unchosen file at interrupted exception (answer.Chosen number sp) k regs e = absurd (k number sp refl)
begun_unchosen file at interrupted exception answer.Stopped k regs e =
    ap (λ (r : List ℕ). record { answer = searched (Ok answer.Stopped); state = unchosen (frame_with 0 interrupted r) exception }) e
begun_unchosen file at interrupted exception answer.Ended k regs e =
    ap (λ (r : List ℕ). record { answer = searched (Ok answer.Ended); state = unchosen (frame_with 0 interrupted r) exception }) e
