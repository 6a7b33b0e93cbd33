-- The functions that hosts call, by the contracts of `capi` and, below them, of `unwind` and `lookup`.
use Rattle.std.specs.Prelude.{Bool, List, ℕ}
use Rattle.std.specs.Borrow.{Bor}
use Rattle.arch.specs.Arch.{numbers}
use Rattle.arch.specs.Public as Arch
use Rattle.lookup.specs.declared.Record.{Record}
use Rattle.lookup.specs.Lookup.{lookup_arch, ChunkOf}
use Rattle.leb.specs.Reader as Reader
use Rattle.state.specs.declared.State.{State}
use Rattle.state.specs.State.{entry}
use Rattle.state.specs.Save as Save
use Rattle.state.specs.Public as Change
use Rattle.program.specs.Public as Program
use Rattle.program.specs.Answers as ProgramAnswers
use Rattle.frame.specs.Public as Frame
use Rattle.rows.specs.Handler as Handler
use Rattle.rows.specs.Handler2 as Handler2
use Rattle.personality.specs.Reason as Reason
use Rattle.personality.specs.Answers as PersonalityAnswers
use Rattle.model.specs.declared.Unwinding.{Unwinding}
use Rattle.model.specs.Unwinding as Spec
use Rattle.unwind.specs.Answers as UnwindAnswers
use Rattle.unwind.specs.Answers.{Called}
use Rattle.unwind.specs.Batches as Batches
use Rattle.answers.specs.Interface as Interface
use Rattle.answers.specs.declared.Number.{Number}
use Rattle.answers.specs.declared.File.{File}
use Rattle.answers.specs.declared.Function.{Function}
use Rattle.answers.specs.declared.Read.{Read}
use Rattle.answers.specs.declared.Changed.{Changed}
use Rattle.answers.specs.declared.Ended.{Ended}
use Rattle.answers.specs.declared.Decided.{Decided}
use Rattle.answers.specs.declared.Stepped.{Stepped}
use Rattle.answers.specs.declared.Batch.{Batch}
use Rattle.answers.specs.declared.Raised.{Raised}
use Rattle.answers.specs.declared.Resumed.{Resumed}
use Rattle.answers.specs.declared.RowFound.{RowFound}
use Rattle.boundaries.specs.Lending.{Lending, lent_by, frame}

-- registers
abbrev pub eko_strip_pac : ℕ → ℕ → Number
eko_strip_pac arch address = Interface.number (Arch.strip_pac arch address)

abbrev pub eko_get : ℕ → List ℕ → ℕ → Number
eko_get arch file reg = Interface.number (Arch.get arch file reg)

abbrev pub eko_fp : ℕ → List ℕ → Number
eko_fp arch file = Interface.number (Arch.fp arch file)

abbrev pub eko_sp : ℕ → List ℕ → Number
eko_sp arch file = Interface.number (Arch.sp arch file)

abbrev pub eko_set : ℕ → List ℕ → ℕ → ℕ → File
eko_set arch file reg value = Interface.file file (Arch.set arch file reg value)

abbrev pub eko_set_sp : ℕ → List ℕ → ℕ → File
eko_set_sp arch file value = Interface.file file (Arch.set_sp arch file value)

-- records and numbers
abbrev pub eko_lookup : Lending → ℕ → ℕ → Function
eko_lookup g arch pc =
    Interface.function (lookup_arch g.section g.section_base g.stack g.stack_base pc arch)

abbrev pub eko_read_uleb : Lending → ℕ → ℕ → Read
eko_read_uleb g pos limit = Interface.read (Reader.read_uleb (lent_by g) limit pos)

-- states
abbrev pub eko_entry : ℕ → Changed
eko_entry arch = Interface.changed (entry (numbers arch)) (Change.entry arch)

abbrev pub eko_slot : State → ℕ → Number
eko_slot st reg = Interface.slot (Change.slot st reg)

abbrev pub eko_save : State → ℕ → ℕ → Changed
eko_save st reg slot = Interface.changed st (Save.save st reg slot)

abbrev pub eko_restore : ℕ → State → ℕ → Changed
eko_restore arch st reg = Interface.changed st (Change.restore arch st reg)

abbrev pub eko_run : Lending → ℕ → ℕ → ℕ → ℕ → Ended
eko_run g arch program limit off =
    Interface.ended (ProgramAnswers.ended (entry (numbers arch)) (Program.run (lent_by g) arch program limit off))

-- frames
abbrev pub eko_apply : Lending → ℕ → State → List ℕ → File
eko_apply g arch st file = Interface.file file (Frame.apply (lent_by g) arch st file)

abbrev pub eko_step : Lending → ℕ → ℕ → Bool → List ℕ → File
eko_step g arch word first file = Interface.file file (Frame.step (lent_by g) arch word first file)

-- rows and reasons
abbrev pub eko_handler : Lending → ℕ → ℕ → RowFound
eko_handler g table ret = Interface.row (Handler.handler_in (lent_by g) table ret)

abbrev pub eko_handler2 : Lending → ℕ → ℕ → ℕ → RowFound
eko_handler2 g table limit ret = Interface.row (Handler2.handler2_in (lent_by g) table limit ret)

abbrev pub eko_personality : Lending → ℕ → Bool → ℕ → Bool → Record → List ℕ → Decided
eko_personality g arch cleanup exception interrupted r file =
    Interface.decided (PersonalityAnswers.decided (record { r = file })
    (Reason.personality_in (lent_by g) arch (Interface.phase cleanup) exception interrupted r file))

-- walk, throw and sweep
abbrev pub eko_next_frame : Lending → ℕ → ℕ → Bool → List ℕ → Stepped
eko_next_frame g arch number interrupted file =
    Interface.stepped (UnwindAnswers.stepped (frame number interrupted file) (Spec.next_frame (lent_by g) arch (frame number interrupted file)))

abbrev pub eko_walk : Lending → ℕ → ℕ → Bool → List ℕ → Batch
eko_walk g arch number interrupted file =
    Interface.batch
    (Batches.walked_by (frame number interrupted file) (Batches.walking (lent_by g) arch (frame number interrupted file)))

abbrev pub eko_raise : Lending → ℕ → List ℕ → ℕ → Bool → ℕ → Raised
eko_raise g arch file pc interrupted exception =
    Interface.raised
    (UnwindAnswers.raised_by file pc interrupted exception (Spec.raise (lent_by g) arch file pc interrupted))

abbrev pub eko_resume : Lending → ℕ → Unwinding → Resumed
eko_resume g arch u = Interface.resumed (UnwindAnswers.resumed_by u (Spec.resume (lent_by g) arch u))

-- `unwind`: a throw and the sweep call with this number after it
abbrev pub unwind : Lending → ℕ → List ℕ → ℕ → Bool → ℕ → ℕ → Called
unwind g arch file pc interrupted exception n = UnwindAnswers.unwound_by n (lent_by g) arch file pc interrupted exception

-- `chunk_of`: the part r of the section s that it hands back
abbrev pub ChunkOfPc : Lending → ℕ → ℕ → Bor (List ℕ) → Bor (List ℕ) → Type 0
ChunkOfPc g arch pc s r = ChunkOf s (lookup_arch g.section g.section_base g.stack g.stack_base pc arch) r
