-- Why a program is refused with 30, 31 or 32, exactly (document 02 (c): "Programs and rows pass the number reader's finer answer up"): a run
-- carries out operation after operation, up to one that is cut, has a bad number, or saves a 33rd register. The law is `run_faults` of
-- proofs/Faults.antt.
use Rattle.std.specs.Prelude.{◌≡◌, true, ◌⊎◌, ◌↔◌, ◌≢◌, ℕ, ◌+◌, ◌≤◌}
use Rattle.failure.specs.Outcome.{Refused, Answer}
use Rattle.mem.specs.Memory.{Memory, Bytes}
use Rattle.arch.specs.Arch.{Arch, numbers}
use Rattle.leb.specs.Reader.{read_byte, Read, read_number}
use Rattle.leb.specs.Meaning.{Cut, Endless}
use Rattle.leb.specs.Faults.{AboveAll}
use Rattle.state.specs.declared.State.{State}
use Rattle.state.specs.Save.{Done, save}
use Rattle.state.specs.Faults.{Beyond32, Unfit}
use Rattle.program.specs.declared.decode.Rule.{Rule}
use Rattle.program.specs.declared.decode.Rule.TheVariants.{Units, Sp, Fp, Save, Restore, Entry, Frame, FrameRegs}
use Rattle.program.specs.declared.decode.Op.TheVariants.{Set}
use Rattle.program.specs.declared.decode.Incomplete.{Incomplete}
use Rattle.program.specs.declared.decode.Form.TheVariants.{WithNumber, WithPair}
use Rattle.program.specs.Operation.{form_of, Decoding, decode}
use Rattle.program.specs.Rule.{with_cfa}
use Rattle.program.specs.Run.{Stand, On, act, begin, run}

-- a run comes to the operation at pos, and stands so before it: it has carried out those before it, and goes on
pub data Comes (m : Memory) (a : Arch) (program limit off : ℕ) : ℕ → Stand → Type 0 where
  first : Comes m a program limit off program (begin a)
  later :
      (pos : ℕ) (s : Stand) → Comes m a program limit off pos s → (d : Decoding) → decode m limit pos ≡ Answer d → (s' : Stand) →
      act a off d.next d.op s ≡ On s' → Comes m a program limit off d.next s'

-- the operation at pos has a number at q: after its byte, or the slot after a register
pub data NumberAt (m : Memory) (limit pos : ℕ) : ℕ → Type 0 where
  single : (code : ℕ) (o : Incomplete) → read_byte m limit pos ≡ Answer code → form_of code ≡ WithNumber o → NumberAt m limit pos (pos + 1)
  of_register : (code : ℕ) → read_byte m limit pos ≡ Answer code → form_of code ≡ WithPair → NumberAt m limit pos (pos + 1)
  of_slot :
      (code : ℕ) (r : Read) → read_byte m limit pos ≡ Answer code → form_of code ≡ WithPair → read_number m limit (pos + 1) ≡ Answer r →
      NumberAt m limit pos r.next

-- the operation at pos is cut by the limit: its own byte, or a number of it
abbrev pub CutAt : Memory → ℕ → ℕ → Type 0
CutAt m limit pos = (limit ≤ pos) ⊎ ((q : ℕ) × NumberAt m limit pos q × Cut m limit 5 q)

-- a number of the operation at pos has no end in five bytes or is above 4294967295
abbrev pub BadNumberAt : Memory → ℕ → ℕ → Type 0
BadNumberAt m limit pos = (q : ℕ) × NumberAt m limit pos q × (Endless m limit 5 q ⊎ AboveAll m limit q)

-- of fp and then the return register, saved in a state, one is a 33rd
abbrev pub FrameBeyond32 : Arch → State → Type 0
FrameBeyond32 a st = Beyond32 st a.fp ⊎ ((st' : State) × (save st a.fp 2 ≡ Done st') × Beyond32 st' a.ra)

-- an operation that sets the rules of a state saves a 33rd register in it
abbrev pub Saves33rd : Arch → Rule → State → Type 0
Saves33rd a (Save reg slot) st = Beyond32 st reg × (Unfit reg slot → ⊥)
Saves33rd a (Restore reg) st = (reg ≡ a.ra) × (a.entry_slot ≢ 0) × Beyond32 st reg
Saves33rd a Frame st = FrameBeyond32 a (with_cfa true 2 st)
Saves33rd a FrameRegs st = FrameBeyond32 a st
Saves33rd a (Units n) st = ⊥
Saves33rd a (Sp n) st = ⊥
Saves33rd a (Fp n) st = ⊥
Saves33rd a Entry st = ⊥

-- the operation at pos is such a one
abbrev pub Saves33rdAt : Memory → Arch → ℕ → ℕ → State → Type 0
Saves33rdAt m a limit pos st =
    (r : Rule) × (next : ℕ) × (decode m limit pos ≡ Answer (record { op = Set r; next = next })) × Saves33rd a r st

-- a run up to an offset
pub record RunFaults (m : Memory) (a : Arch) (program limit off : ℕ) : Type 0 where
  pub truncated :
      (run m a program limit off ≡ Refused 30)
      ↔ ((pos : ℕ) × (s : Stand) × Comes m a program limit off pos s × CutAt m limit pos)
  pub bad_uleb :
      (run m a program limit off ≡ Refused 31)
      ↔ ((pos : ℕ) × (s : Stand) × Comes m a program limit off pos s × BadNumberAt m limit pos)
  pub too_many :
      (run m a program limit off ≡ Refused 32)
      ↔ ((pos : ℕ) × (s : Stand) × Comes m a program limit off pos s × Saves33rdAt m a limit pos s.state)

-- of every program, at every offset, in every memory of bytes and on both architectures
abbrev pub ProgramFaults : Type 0
ProgramFaults = (m : Memory) → Bytes m → (n program limit off : ℕ) → program ≢ 0 → RunFaults m (numbers n) program limit off
