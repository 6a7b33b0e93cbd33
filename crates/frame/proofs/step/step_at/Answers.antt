-- `frame::step::step_at` meets its contract. Assumes nothing.
use Rattle.std.proofs.Common.{arith}
use Rattle.frame.proofs.Saves.{saves-few}
use Rattle.frame.proofs.Partly.{partly_answered}
use Rattle.frame.proofs.Unrefused.{near_steps}
use Rattle.frame.proofs.step.step_at.Goals as goal

pub deepest-requires : goal.deepest-requires
deepest-requires c = saves-few _ _ _ c.requires

pub returns-in-Some : goal.returns-in-Some
returns-in-Some c =
    let x = c.args in
    let s = c.in-Some.slots in
    let is = c.in-Some.ensures in
    let near = rw (is.0, is.1, is.2, c.deepest.ensures.0) at s.near in
    let answer = near_steps x.arch x.memory.now x.cfa (omega arith) x.frame x.n c.requires near x.file.now in
    partly_answered _ _ _ _ answer.0 answer.1 (rw (is.0, is.1) at c.step_from.ensures)
