-- `frame::ra_column` meets its contract. Assumes nothing.
use Rattle.std.proofs.Common.{ap}
use Rattle.arch.specs.declared.Arch2.{Arch2}
use Rattle.frame.proofs.Ra.{ra-known}
use Rattle.frame.proofs.Columns.{column-told, column_there}
use Rattle.frame.proofs.ra_column.Goals as goal

pub unwrap-requires : goal.unwrap-requires
unwrap-requires c = column_there _ _ (ra-known _) _ (ap (λ (a : Arch2). a.ra) c.numbers.ensures) _ c.column_of.ensures

pub returns : goal.returns
returns c = column-told _ _ (ra-known _) _ (ap (λ (a : Arch2). a.ra) c.numbers.ensures) _ c.column_of.ensures _ c.unwrap.ensures
