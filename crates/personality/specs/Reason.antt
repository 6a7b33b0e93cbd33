-- `personality`: what a frame's row means in each phase (document 01, "Rows and reasons"; Itanium C++ ABI codes).
use Rattle.std.specs.Prelude.{Bool, ◌||◌, List, ℕ, ◌-◌, ◌^◌, ◌%◌, eqb, ltb, if◌then◌else◌}
use Rattle.failure.specs.Outcome.{Outcome, Refused, Answer, ◌>>=◌}
use Rattle.failure.specs.Failure.{BadOpening}
use Rattle.mem.specs.Memory.{Memory, Lent}
use Rattle.mem.specs.Opening.{opens}
use Rattle.mem.specs.Wrapping.{sum}
use Rattle.arch.specs.Arch.{Arch, known}
use Rattle.arch.specs.File.{set, pc, set_pc}
use Rattle.program.specs.Run.{run}
use Rattle.rows.specs.Row.{Found, None, Pad, cleanup, catch}
use Rattle.rows.specs.Handler.{handler}
use Rattle.rows.specs.Handler2.{handler2}
use Rattle.lookup.specs.declared.Record.{Record}
use Rattle.personality.specs.declared.Phase.{Phase}
use Rattle.personality.specs.declared.Phase.TheVariants.{Search, Cleanup}

-- the codes
abbrev pub fatal_phase2 : ℕ
fatal_phase2 = 2

abbrev pub fatal_phase1 : ℕ
fatal_phase1 = 3

abbrev pub handler_found : ℕ
handler_found = 6

abbrev pub install_context : ℕ
install_context = 7

abbrev pub continue_unwind : ℕ
continue_unwind = 8

-- interrupted, no table or pc below start means no row
unfoldable pub rowless : Bool → Record → ℕ → Bool
rowless interrupted r at = interrupted || eqb r.handlers 0 || ltb at r.start

-- a frame's return offset: pc - start modulo 2^32
abbrev pub offset_in : Record → ℕ → ℕ
offset_in r at = (at - r.start) % 2 ^ 32

-- version 2: the row table follows the program, which is run to its END
unfoldable pub row_after : Arch → Memory → Record → ℕ → Outcome Found
row_after a m r ret = do
  ran ← run m a r.program r.limit (2 ^ 64 - 1)
  handler2 m ran.after r.limit ret

-- the row of a frame whose pc is `at`; a version other than 2 counts as 1
unfoldable pub row_of : Arch → Memory → Bool → Record → ℕ → Outcome Found
row_of a m interrupted r at =
    if rowless interrupted r at then Answer None
    else if eqb r.version 2 then row_after a m r (offset_in r at)
    else handler m r.handlers (offset_in r at)

-- a code, and the register file that goes with it
pub record Reason : Type 0 where
  pub code : ℕ
  pub file : List ℕ

-- the reason with this code and file
abbrev pub reason : ℕ → List ℕ → Reason
reason code file = record { code = code; file = file }

-- the landing pad's file: register 0 the exception, 1 zero, pc start + pad modulo 2^64
unfoldable pub installed : Arch → ℕ → ℕ → ℕ → List ℕ → Outcome Reason
installed a exception start pad file = do
  one ← set a file 0 exception
  two ← set a one 1 0
  Answer (reason install_context (set_pc two (sum start pad)))

-- the code of an action in the search phase: cleanup 8, catch 6, terminate 3
unfoldable pub searched_code : ℕ → ℕ
searched_code action = if eqb action cleanup then continue_unwind else if eqb action catch then handler_found else fatal_phase1

-- search: none or cleanup 8, catch 6, terminate 3; the file stays
abbrev pub searched : Found → List ℕ → Outcome Reason
searched None file = Answer (reason continue_unwind file)
searched (Pad pad action) file = Answer (reason (searched_code action) file)

-- cleanup phase: none 8, cleanup and catch 7, terminate 2
unfoldable pub cleaned : Arch → ℕ → ℕ → Found → List ℕ → Outcome Reason
cleaned a exception start None file = Answer (reason continue_unwind file)
cleaned a exception start (Pad pad action) file =
    if eqb action cleanup then installed a exception start pad file
    else if eqb action catch then installed a exception start pad file
    else Answer (reason fatal_phase2 file)

-- what a row means in a phase
abbrev pub meant : Phase → Arch → ℕ → ℕ → Found → List ℕ → Outcome Reason
meant Search a exception start row file = searched row file
meant Cleanup a exception start row file = cleaned a exception start row file

-- the same of a row that may be refused
abbrev pub meant_by : Phase → Arch → ℕ → ℕ → Outcome Found → List ℕ → Outcome Reason
meant_by phase a exception start row file = row >>= λ f. meant phase a exception start f file

-- the reason of a frame
unfoldable pub personality : Arch → Memory → Phase → ℕ → Bool → Record → List ℕ → Outcome Reason
personality a m phase exception interrupted r file = meant_by phase a exception r.start (row_of a m interrupted r (pc file)) file

-- the same in what is lent: 28 first, for the opening and then for the architecture
unfoldable pub personality_in : Lent → ℕ → Phase → ℕ → Bool → Record → List ℕ → Outcome Reason
personality_in l arch phase exception interrupted r file =
    if opens l then (known arch >>= λ a. personality a l.regions phase exception interrupted r file)
    else Refused BadOpening
