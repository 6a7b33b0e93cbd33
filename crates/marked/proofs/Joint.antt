-- Every marked example of document 01 follows from the definitions. Assumes nothing.
use mathlib.Core.Path.{refl}
use Rattle.mem.specs.Place.{holds, bytes_at}
use Rattle.mem.specs.Word.{load}
use Rattle.leb.specs.Reader.{read_byte, read_number}
use Rattle.arch.specs.Arch.{numbers}
use Rattle.state.specs.State.{overfull, entry}
use Rattle.state.specs.Save.{save}
use Rattle.state.specs.Restore.{without, return_saved, restore}
use Rattle.program.specs.Operation.{form_of, decode}
use Rattle.program.specs.Rule.{frame_regs, follow}
use Rattle.program.specs.Run.{act, run}
use Rattle.frame.specs.Frame.{saved_pairs}
use Rattle.rows.specs.Row.{valid, checked}
use Rattle.rows.specs.Handler2.{next_delta, matched, handler2}
use Rattle.marked.specs.Example.{Hold}
use Rattle.marked.specs.Table.{table}

pub examples_hold : Hold table
unfolding holds bytes_at load read_byte read_number numbers overfull entry save without return_saved restore form_of decode frame_regs follow act run saved_pairs valid checked next_delta matched handler2
examples_hold =
    (refl, (refl, (refl, (refl, (refl, (refl, (refl, (refl, (refl, (refl, (refl, (refl, (refl, (refl, (refl, (refl, (refl, (refl, (refl, (refl, tt))))))))))))))))))))
