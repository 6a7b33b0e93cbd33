-- A sound section (document 01: "Sound section"): its tables, and the row tables of the open frames.
use Rattle.std.specs.Prelude.{Bool, true, false, not, ◌&&◌, ◌||◌, List, [], ◌∷◌, ◌≡◌, ℕ, ◌-◌, ◌^◌, eqb, ltb, length, if◌then◌else◌}
use Rattle.failure.specs.Outcome.{Outcome, Refused, Answer}
use Rattle.mem.specs.Memory.{Memory}
use Rattle.mem.specs.Word.{load}
use Rattle.arch.specs.Arch.{Arch, numbers}
use Rattle.arch.specs.File.{pc}
use Rattle.lookup.specs.declared.Record.{Record}
use Rattle.lookup.specs.Sound.{IsSound}
use Rattle.program.specs.Run.{Ran, run}
use Rattle.rows.specs.Handler.{Entry}
use Rattle.rows.specs.Prefix.{row_at}
use Rattle.rows.specs.NotRefused.{Ending, Cut, ending_of, answered, none_or_well_formed}
use Rattle.model.specs.Machine.{Tables, Machine, tables_alone}
use Rattle.model.specs.Throw.{Throw, Standing, frames_at, record_of, rows1, rows_in}

-- offsets rise strictly after a row
abbrev pub rises_from : Entry → List Entry → Bool
rises_from e [] = true
rises_from e (f ∷ es) = ltb e.offset f.offset && rises_from f es

-- offsets rise strictly
abbrev pub rises : List Entry → Bool
rises [] = true
rises (e ∷ es) = rises_from e es

-- as many rows as the table counts
abbrev pub counts : Outcome ℕ → List Entry → Bool
counts (Refused n) es = false
counts (Answer count) es = eqb (length es) count

-- a version 1 row table lies whole in the section and rises strictly
unfoldable pub whole_table : Memory → ℕ → Bool
whole_table m table = counts (load m 4 table) (rows1 m table) && rises (rows1 m table)

-- a run reads to END
abbrev pub reads_to_end : Outcome Ran → Bool
reads_to_end (Refused n) = false
reads_to_end (Answer ran) = not (eqb ran.after 0)

-- a frame's table, if it has one: version 1's is whole and rises strictly; the program before version 2's reads to END at offset
-- 2^32 - 1
unfoldable pub good_table : Tables → Record → Bool
good_table ts r =
    if eqb r.handlers 0 then true
    else if eqb r.version 2 then reads_to_end (run (tables_alone ts) (numbers ts.arch) r.program r.limit (2 ^ 32 - 1))
    else whole_table (tables_alone ts) r.handlers

-- how the readable rows of a version 2 table end, its program's run being given
abbrev pub ending_after : Memory → ℕ → Outcome Ran → Ending
ending_after m limit (Refused n) = Cut
ending_after m limit (Answer ran) = ending_of m ran.after limit

-- how those of a record's end
unfoldable pub ending2 : Arch → Memory → Record → Ending
ending2 a m r = ending_after m r.limit (run m a r.program r.limit (2 ^ 32 - 1))

-- the row of an offset in a record's table is not refused, said of the table's rows: version 2's is answered; version 1's table has no
-- row with the offset, or a well-formed one
unfoldable pub good_row : Tables → Record → ℕ → Bool
good_row ts r ret =
    if eqb r.version 2 then answered ret (rows_in ts r) (ending2 (numbers ts.arch) (tables_alone ts) r)
    else none_or_well_formed (row_at ret (rows_in ts r))

-- a frame's table is good, and its row is not refused: interrupted or without a table it has none
unfoldable pub good_frame : Tables → Standing → Bool
good_frame ts s =
    good_table ts (record_of s)
    && (s.interrupted || eqb (record_of s).handlers 0 || good_row ts (record_of s) (pc s.file - (record_of s).start))

-- that holds of each frame
abbrev pub good_frames : Tables → List Standing → Bool
good_frames ts [] = true
good_frames ts (s ∷ ss) = good_frame ts s && good_frames ts ss

-- the tables of the section are sound
abbrev pub SoundTables : Tables → Type 0
SoundTables ts = IsSound ts.section.bytes ts.section.base ts.arch

-- the section is sound for a throw
pub record Sound (m : Machine) (t : Throw) : Type 0 where
  pub tables : SoundTables m.tables
  pub frames : good_frames m.tables (frames_at m t) ≡ true
