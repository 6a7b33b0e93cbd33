-- `frame::saved_column` meets its contract. Assumes nothing.
use Rattle.frame.proofs.Columns.{saved-known, column-told, column_there}
use Rattle.frame.proofs.saved_column.Goals as goal

pub unwrap-requires : goal.unwrap-requires
unwrap-requires c = column_there _ _ (saved-known _ _ c.requires) _ c.saved.ensures _ c.column_of.ensures

pub returns : goal.returns
returns c = column-told _ _ (saved-known _ _ c.requires) _ c.saved.ensures _ c.column_of.ensures _ c.unwrap.ensures
