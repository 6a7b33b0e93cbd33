-- Every event keeps the invariant, and so does every list of events. Assumes nothing.
use mathlib.Core.List.{List, [], ◌∷◌}
use Rattle.lookup.specs.Tables.{Entry, named}
use Rattle.lookup.proofs.Sounds.{named_in}
use Rattle.model.specs.Machine.{Machine, Fresh, records_of}
use Rattle.model.specs.Event.{Event, Call, Spill, Change, Reload, Move, Write, step, steps}
use Rattle.model.proofs.Chain.{Inv}
use Rattle.model.proofs.Fresh.{fresh_inv}
use Rattle.model.proofs.Changes.{change_keeps, reload_keeps, move_keeps}
use Rattle.model.proofs.Writes.{write_keeps, spill_keeps}
use Rattle.model.proofs.Entering.{call_keeps}

-- an event keeps the invariant
pub step_keeps : (m : Machine) (e : Event) → Inv m → Inv (step m e)
step_keeps m (Call chunk index ret) i =
    let es : List Entry = records_of m.tables in
    call_keeps m ret (named chunk index es) (named_in chunk index es) i
step_keeps m (Spill reg slot) i = spill_keeps m reg slot i
step_keeps m (Change reg v) i = change_keeps m reg v i
step_keeps m (Reload reg) i = reload_keeps m reg i
step_keeps m (Move to) i = move_keeps m to i
step_keeps m (Write x v) i = write_keeps m x v i

-- a list of events keeps it
pub steps_keep : (m : Machine) (es : List Event) → Inv m → Inv (steps m es)
steps_keep m [] i = i
steps_keep m (e ∷ es) i = steps_keep (step m e) es (step_keeps m e i)

-- so after every list of events from a fresh machine it holds
pub steps_inv : (m : Machine) → Fresh m → (es : List Event) → Inv (steps m es)
steps_inv m f es = steps_keep m es (fresh_inv m f)
