-- `mem::Memory::array_at` meets its contract. Assumes nothing.
use Rattle.std.proofs.Common.{⊎_elim, ap, ◌∙◌, arith, sym}
use Rattle.std.proofs.lemmas.Result.{MatchResult-at_ok, MatchResult-at_err}
use Rattle.failure.specs.Outcome.{Answer}
use Rattle.mem.proofs.Part.{part_shows}
use Rattle.mem.proofs.Memory.array_at.Goals as goal

pub returns-in-Ok : goal.returns-in-Ok
returns-in-Ok g c =
    let whole = MatchResult-at_ok _ _ _ c.in-Ok.is c.try_from.ensures.1 in
    ⊎_elim (λ s. ap Answer whole.same ∙ sym s.1) (λ s. absurd (omega (arith, whole.long, s.0)))
    (part_shows _ _ _ _ _ _ _ c.requires c.bytes_at.ensures)

pub returns-in-Err : goal.returns-in-Err
returns-in-Err g c =
    let part = MatchResult-at_err _ _ _ c.in-Err.is c.try_from.ensures.1 in
    ⊎_elim (λ s. absurd (part s.0)) (λ s. sym s.1)
    (part_shows _ _ _ _ _ _ _ c.requires c.bytes_at.ensures)
