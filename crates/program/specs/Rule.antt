-- What the operations that set the state's rules come to.
use Rattle.std.specs.Prelude.{Bool, true, false, ℕ}
use Rattle.failure.specs.Outcome.{Outcome, Answer, ◌>>=◌}
use Rattle.arch.specs.Arch.{Arch}
use Rattle.state.specs.declared.State.{State}
use Rattle.state.specs.State.{entry}
use Rattle.state.specs.Save.{save}
use Rattle.state.specs.Restore.{restore}
use Rattle.state.specs.Answers.{changed}
use Rattle.program.specs.declared.decode.Rule.{Rule}
use Rattle.program.specs.declared.decode.Rule.TheVariants.{Units, Sp, Fp, Save, Restore, Entry, Frame, FrameRegs}

-- the state with another base and units
abbrev pub with_cfa : Bool → ℕ → State → State
with_cfa fp units st =
    record { cfa_fp = fp; cfa_units = units; count = st.count; regs = st.regs; slots = st.slots }

-- fp saved at 2, then the return register at 1
unfoldable pub frame_regs : Arch → State → Outcome State
frame_regs a st = do
  st' ← changed (save st a.fp 2)
  changed (save st' a.ra 1)

-- the next state, or the refusal of a save
unfoldable pub follow : Arch → Rule → State → Outcome State
follow a (Units n) st = Answer (with_cfa st.cfa_fp n st)
follow a (Save reg slot) st = changed (save st reg slot)
follow a (Sp n) st = Answer (with_cfa false n st)
follow a (Fp n) st = Answer (with_cfa true n st)
follow a (Restore reg) st = changed (restore a st reg)
follow a Entry st = Answer (entry a)
follow a Frame st = frame_regs a (with_cfa true 2 st)
follow a FrameRegs st = frame_regs a st
