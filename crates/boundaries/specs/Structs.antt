-- The structs of the C interface, by their fields: the status first, which is 0 for an answer, 1 for none, else the number of the refusal.
use Rattle.std.specs.Prelude.{Bool, false, List, ◌++◌, ℕ, ◌-◌, length, replicate}
use Rattle.lookup.specs.declared.Record.{Record}
use Rattle.state.specs.declared.State.{State}
use Rattle.model.specs.declared.Unwinding.{Unwinding}
use Rattle.unwind.specs.declared.Frames.{Frames}
use Rattle.answers.specs.declared.Number.{Number}
use Rattle.answers.specs.declared.File.{File}
use Rattle.answers.specs.declared.Function.{Function}
use Rattle.answers.specs.declared.Read.{Read}
use Rattle.answers.specs.declared.Changed.{Changed}
use Rattle.answers.specs.declared.Ended.{Ended}
use Rattle.answers.specs.declared.Decided.{Decided}
use Rattle.answers.specs.declared.Stepped.{Stepped}
use Rattle.answers.specs.declared.Batch.{Batch}
use Rattle.answers.specs.declared.Raised.{Raised}
use Rattle.answers.specs.declared.Resumed.{Resumed}
use Rattle.answers.specs.declared.RowFound.{RowFound}

abbrev pub number : ℕ → ℕ → Number
number status value = record { status = status; value = value }

abbrev pub file_is : ℕ → List ℕ → File
file_is status file = record { status = status; regs = record { r = file } }

abbrev pub function : ℕ → Record → Function
function status r = record { status = status; found = r }

abbrev pub read : ℕ → ℕ → ℕ → Read
read status value next = record { status = status; value = value; next = next }

abbrev pub changed : ℕ → State → Changed
changed status st = record { status = status; state = st }

abbrev pub ended : ℕ → State → ℕ → Ended
ended status st after = record { status = status; state = st; after = after }

abbrev pub row : ℕ → ℕ → ℕ → RowFound
row status pad action = record { status = status; pad = pad; action = action }

abbrev pub decided : ℕ → ℕ → List ℕ → Decided
decided status reason file = record { status = status; reason = reason; regs = record { r = file } }

abbrev pub stepped : ℕ → Record → ℕ → Bool → List ℕ → Stepped
stepped status r number interrupted file =
    record { status = status; function = r; number = number; interrupted = interrupted; regs = record { r = file } }

abbrev pub batch : ℕ → Frames → ℕ → Bool → List ℕ → Batch
batch status frames number interrupted file =
    record { status = status; frames = frames; number = number; interrupted = interrupted; regs = record { r = file } }

abbrev pub raised : ℕ → ℕ → ℕ → ℕ → Unwinding → Raised
raised status reason number sp u = record { status = status; reason = reason; number = number; sp = sp; unwinding = u }

abbrev pub resumed : ℕ → ℕ → ℕ → List ℕ → Unwinding → Resumed
resumed status reason number file u =
    record { status = status; reason = reason; number = number; regs = record { r = file }; unwinding = u }

-- what stands for a record where there is none
abbrev pub no_record : Record
no_record = record { start = 0; end = 0; frame = 0; handlers = 0; program = 0; limit = 0; version = 0 }

-- an array: these numbers, and 0 in the places after them
abbrev pub array : ℕ → List ℕ → List ℕ
array n xs = xs ++ replicate (n - length xs) 0

-- the frames of a walk: the starts of their records, pcs and sps
abbrev pub frames : ℕ → List ℕ → List ℕ → List ℕ → Frames
frames count starts pcs sps = record { count = count; starts = array 16 starts; pcs = array 16 pcs; sps = array 16 sps }

-- a state: base, units, and the registers and slots of its pairs
abbrev pub state : Bool → ℕ → ℕ → List ℕ → List ℕ → State
state on_fp units count regs slots =
    record { cfa_fp = on_fp; cfa_units = units; count = count; regs = array 32 regs; slots = array 32 slots }

-- a state with this count whose pairs are all of register 5, in slot 1
abbrev pub counting : ℕ → State
counting count = record { cfa_fp = false; cfa_units = 4; count = count; regs = replicate 32 5; slots = replicate 32 1 }
