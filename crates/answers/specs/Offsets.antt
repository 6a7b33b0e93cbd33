-- The value of each struct that a function of the C interface returns in which every number is the offset at which it stands in that
-- struct; a byte is it modulo 256. A bool is the flag, but `chosen` the other.
use Rattle.std.specs.Prelude.{Bool, not, ℕ, ◌+◌, ◌%◌, List, map}
use Rattle.arch.specs.declared.Regs.{Regs}
use Rattle.lookup.specs.declared.Record.{Record}
use Rattle.state.specs.declared.State.{State}
use Rattle.model.specs.declared.Unwinding.{Unwinding}
use Rattle.unwind.specs.declared.Frames.{Frames}
use Rattle.answers.specs.declared.Number.{Number}
use Rattle.answers.specs.declared.File.{File}
use Rattle.answers.specs.declared.Function.{Function}
use Rattle.answers.specs.declared.Read.{Read}
use Rattle.answers.specs.declared.Changed.{Changed}
use Rattle.answers.specs.declared.Ended.{Ended}
use Rattle.answers.specs.declared.RowFound.{RowFound}
use Rattle.answers.specs.declared.Decided.{Decided}
use Rattle.answers.specs.declared.Stepped.{Stepped}
use Rattle.answers.specs.declared.Batch.{Batch}
use Rattle.answers.specs.declared.Raised.{Raised}
use Rattle.answers.specs.declared.Resumed.{Resumed}
use Rattle.answers.specs.declared.layout.Layout.{Layout}
use Rattle.answers.specs.Layout as C
use Rattle.answers.specs.Layout.{offset, elements}

-- a register file that stands at n
abbrev pub regs_at : ℕ → Regs
regs_at n = record { r = elements 41 8 (n + offset 0 C.regs) }

-- a record that stands at n
abbrev pub record_at : ℕ → Record
record_at n =
    record {
      start = n + offset 0 C.function_record;
      end = n + offset 1 C.function_record;
      frame = n + offset 2 C.function_record;
      handlers = n + offset 3 C.function_record;
      program = n + offset 4 C.function_record;
      limit = n + offset 5 C.function_record;
      version = (n + offset 6 C.function_record) % 256;
    }

-- a state that stands at n
abbrev pub state_at : ℕ → Bool → State
state_at n flag =
    record {
      cfa_fp = flag;
      cfa_units = n + offset 1 C.state;
      count = n + offset 2 C.state;
      regs = elements 32 2 (n + offset 3 C.state);
      slots = elements 32 2 (n + offset 4 C.state);
    }

-- an unwinding that stands at n
abbrev pub unwinding_at : ℕ → Bool → Unwinding
unwinding_at n flag =
    record {
      regs = regs_at (n + offset 0 C.unwinding);
      number = n + offset 1 C.unwinding;
      exception = n + offset 2 C.unwinding;
      chosen_number = n + offset 3 C.unwinding;
      chosen_sp = n + offset 4 C.unwinding;
      interrupted = flag;
      chosen = not flag;
    }

-- frames that stand at n
abbrev pub frames_at : ℕ → Frames
frames_at n =
    record {
      count = n + offset 0 C.frames;
      starts = elements 16 8 (n + offset 1 C.frames);
      pcs = elements 16 8 (n + offset 2 C.frames);
      sps = elements 16 8 (n + offset 3 C.frames);
    }

-- the answers
abbrev pub number : Number
number = record { status = offset 0 C.number; value = offset 1 C.number }

abbrev pub file : File
file = record { regs = regs_at (offset 0 C.file); status = offset 1 C.file }

abbrev pub function : Function
function = record { status = offset 0 C.function; found = record_at (offset 1 C.function) }

abbrev pub read : Read
read = record { status = offset 0 C.read; value = offset 1 C.read; next = offset 2 C.read }

abbrev pub changed : Bool → Changed
changed flag = record { status = offset 0 C.changed; state = state_at (offset 1 C.changed) flag }

abbrev pub ended : Bool → Ended
ended flag = record { status = offset 0 C.ended; state = state_at (offset 1 C.ended) flag; after = offset 2 C.ended }

abbrev pub row : RowFound
row = record { status = offset 0 C.row; pad = offset 1 C.row; action = offset 2 C.row }

abbrev pub decided : Decided
decided = record { regs = regs_at (offset 0 C.decided); status = offset 1 C.decided; reason = offset 2 C.decided }

abbrev pub stepped : Bool → Stepped
stepped flag =
    record {
      regs = regs_at (offset 0 C.stepped);
      function = record_at (offset 1 C.stepped);
      number = offset 2 C.stepped;
      interrupted = flag;
      status = offset 4 C.stepped;
    }

abbrev pub batch : Bool → Batch
batch flag =
    record {
      regs = regs_at (offset 0 C.batch);
      frames = frames_at (offset 1 C.batch);
      number = offset 2 C.batch;
      interrupted = flag;
      status = offset 4 C.batch;
    }

abbrev pub raised : Bool → Raised
raised flag =
    record {
      unwinding = unwinding_at (offset 0 C.raised) flag;
      number = offset 1 C.raised;
      sp = offset 2 C.raised;
      status = offset 3 C.raised;
      reason = offset 4 C.raised;
    }

abbrev pub resumed : Bool → Resumed
resumed flag =
    record {
      regs = regs_at (offset 0 C.resumed);
      unwinding = unwinding_at (offset 1 C.resumed) flag;
      number = offset 2 C.resumed;
      status = offset 3 C.resumed;
      reason = offset 4 C.resumed;
    }

-- all of them, and the sizes and alignments of all structs
abbrev pub layout : Bool → Layout
layout flag =
    record {
      number = number;
      file = file;
      function = function;
      read = read;
      changed = changed flag;
      ended = ended flag;
      row = row;
      decided = decided;
      stepped = stepped flag;
      batch = batch flag;
      raised = raised flag;
      resumed = resumed flag;
      sizes = map (λ (fs : List C.Field). (C.struct fs).size) C.crossing;
      alignments = map (λ (fs : List C.Field). (C.struct fs).alignment) C.crossing;
    }
