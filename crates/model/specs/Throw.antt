-- The throw or interrupt that comes last, the frames that it finds, and their rows (document 01: "Throw or Interrupt (pc), last").
use Rattle.std.specs.Prelude.{Bool, false, ◌&&◌, ◌||◌, List, [], ◌∷◌, ℕ, zero, suc, ◌+◌, ◌-◌, ◌^◌, eqb, ltb, if◌then◌else◌}
use Rattle.failure.specs.Outcome.{Outcome, Refused, Answer}
use Rattle.mem.specs.Memory.{Memory}
use Rattle.mem.specs.Word.{load}
use Rattle.arch.specs.Arch.{Arch, numbers}
use Rattle.arch.specs.File.{pc, set_pc}
use Rattle.lookup.specs.Record.{holds}
use Rattle.lookup.specs.declared.Record.{Record}
use Rattle.program.specs.Run.{run}
use Rattle.rows.specs.Row.{Found, None}
use Rattle.rows.specs.Handler.{Entry, entry_at}
use Rattle.rows.specs.Prefix.{rows_of, row_at}
use Rattle.model.specs.Machine.{Open, Tables, Machine, caller_interrupted, looked_at, tables_alone}
use Rattle.model.specs.Described.{described}

-- a Throw (pc) or an Interrupt (pc)
pub record Throw : Type 0 where
  pub pc : ℕ
  pub interrupted : Bool

-- frame 0's registers at its call: those at the throw, with its pc
abbrev pub thrown : Machine → Throw → List ℕ
thrown m t = set_pc m.registers t.pc

-- the rules, one test a line: pc above 0; looked up in the innermost record; that frame is described
abbrev pub throwable : Machine → Throw → List Open → Bool
throwable m t [] = false
throwable m t (f ∷ fs) =
    ltb 0 t.pc
    && holds f.entry.function (looked_at t.interrupted t.pc)
    && described m.tables f (thrown m t) t.interrupted (looked_at t.interrupted t.pc)

-- a throw or interrupt is within the rules
unfoldable pub throw_allowed : Machine → Throw → Bool
throw_allowed m t = throwable m t m.frames

-- an open frame, its registers at its call, and whether it is interrupted
pub record Standing : Type 0 where
  pub frame : Open
  pub file : List ℕ
  pub interrupted : Bool

-- frames with their registers at their calls: the first one's are given, and whether it is interrupted; every other's are the kept file
-- of the call that it made, and it is interrupted if the frame that it opened says so
abbrev pub standing : Bool → List ℕ → List Open → List Standing
standing interrupted file [] = []
standing interrupted file (f ∷ fs) =
    record { frame = f; file = file; interrupted = interrupted } ∷ standing (caller_interrupted f) f.kept fs

-- the machine's frames at a throw, counted from 0, the innermost
abbrev pub frames_at : Machine → Throw → List Standing
frames_at m t = standing t.interrupted (thrown m t) m.frames

-- the record of a frame
abbrev pub record_of : Standing → Record
record_of s = s.frame.entry.function

-- what follows a read that is not refused
abbrev pub readable : {A : Type 0} → Outcome A → (A → List Entry) → List Entry
readable (Refused n) f = []
readable (Answer x) f = f x

-- n rows of a version 1 table, from row i on, as they stand, up to one that cannot be read
abbrev pub rows_from1 : ℕ → Memory → ℕ → ℕ → List Entry
rows_from1 zero m table i = []
rows_from1 (suc n) m table i = readable (entry_at m table i) (λ e. e ∷ rows_from1 n m table (i + 1))

-- the rows of a version 1 table
unfoldable pub rows1 : Memory → ℕ → List Entry
rows1 m table = readable (load m 4 table) (λ count. rows_from1 count m table 0)

-- the rows of a version 2 table, which follows its program
unfoldable pub rows2 : Arch → Memory → Record → List Entry
rows2 a m r = readable (run m a r.program r.limit (2 ^ 32 - 1)) (λ ran. rows_of m ran.after r.limit)

-- the rows of a record's table, in the section
unfoldable pub rows_in : Tables → Record → List Entry
rows_in ts r = if eqb r.version 2 then rows2 (numbers ts.arch) (tables_alone ts) r else rows1 (tables_alone ts) r.handlers

-- a frame's row: that at its pc minus its record's start; none if interrupted or without a table
unfoldable pub row_of : Tables → Standing → Found
row_of ts s =
    if s.interrupted || eqb (record_of s).handlers 0 then None
    else row_at (pc s.file - (record_of s).start) (rows_in ts (record_of s))
