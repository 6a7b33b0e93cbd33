-- `step`: the caller's registers from a version 1 frame word (document 01, "Version 1 frames").
use Rattle.std.specs.Prelude.{Bool, not, ◌&&◌, ◌||◌, List, ℕ, ◌+◌, ◌*◌, ◌/◌, ◌^◌, eqb, ltb, length, if◌then◌else◌}
use Rattle.failure.specs.Outcome.{Outcome, Refused, Answer, ◌>>=◌}
use Rattle.failure.specs.Failure.{BadEkoRecord, EkoAsyncFrame, Misaligned}
use Rattle.mem.specs.Memory.{Memory}
use Rattle.mem.specs.Wrapping.{sum}
use Rattle.arch.specs.Arch.{Arch}
use Rattle.arch.specs.File.{fp, sp, get, set}
use Rattle.frame.specs.Apply.{bad_fp, load_slot, restore_pairs, returned}
use Rattle.frame.specs.Frame.{kind, leaf, on_fp, on_sp, mask, param, saved_pairs, fp_pair, ra_slot}

-- the mask has a bit past the SAVED table
unfoldable pub past_table : Arch → ℕ → Bool
past_table a frame = not (eqb (mask frame / 2 ^ length a.saved) 0)

-- leaf: sp + 16 * param, and what entry has above sp (8 on x86-64)
unfoldable pub leaf_cfa : Arch → ℕ → Bool → ℕ → Outcome ℕ
leaf_cfa a frame first s =
    if not (eqb (mask frame) 0) || not first then Refused BadEkoRecord
    else Answer (sum s (8 * a.entry_units + 16 * param frame))

-- kind 1: fp + 16
unfoldable pub fp_cfa : ℕ → Bool → ℕ → Outcome ℕ
fp_cfa frame first f =
    if first then Refused EkoAsyncFrame
    else if ltb (param frame) 3 && not (eqb (mask frame) 0) then Refused BadEkoRecord
    else if bad_fp f then Refused Misaligned
    else Answer (sum f 16)

-- kind 2: sp + 16 * param
unfoldable pub sp_cfa : ℕ → Bool → ℕ → Outcome ℕ
sp_cfa frame first s =
    if first then Refused EkoAsyncFrame
    else Answer (sum s (16 * param frame))

-- the CFA, or what the word or fp is turned back with
unfoldable pub frame_cfa : Arch → ℕ → Bool → List ℕ → Outcome ℕ
frame_cfa a frame first file =
    if past_table a frame then Refused BadEkoRecord
    else if eqb (kind frame) leaf then leaf_cfa a frame first (sp a file)
    else if eqb (kind frame) on_fp then fp_cfa frame first (fp a file)
    else if eqb (kind frame) on_sp then sp_cfa frame first (sp a file)
    else Refused BadEkoRecord

-- the return address, from its slot or still from its register
unfoldable pub return_address : Arch → Memory → ℕ → ℕ → List ℕ → Outcome ℕ
return_address a m at slot file =
    if eqb slot 0 then get a file a.ra else load_slot m at slot

-- the return register is set to the whole return address (30 on aarch64; on x86-64 it is pc, which is set last on both), then sp and pc
unfoldable pub set_return : Arch → ℕ → ℕ → List ℕ → Outcome (List ℕ)
set_return a at ra file = do
  next ← set a file a.ra ra
  Answer (returned a at ra next)

-- fp is read and set where the frame saves it
unfoldable pub set_frame : Arch → Memory → ℕ → ℕ → ℕ → List ℕ → Outcome (List ℕ)
set_frame a m frame at ra file = do
  next ← restore_pairs a m at (fp_pair a frame) file
  set_return a at ra next

-- the return address is read, from memory or the file that came in
unfoldable pub set_caller : Arch → Memory → ℕ → ℕ → List ℕ → List ℕ → Outcome (List ℕ)
set_caller a m frame at file next = do
  ra ← return_address a m at (ra_slot a frame) file
  set_frame a m frame at ra next

-- past the tests: the saved registers, the return address, fp, then the return register, sp and pc are set
unfoldable pub step_at : Arch → Memory → ℕ → ℕ → List ℕ → Outcome (List ℕ)
step_at a m frame at file = do
  next ← restore_pairs a m at (saved_pairs a frame) file
  set_caller a m frame at file next

-- the caller's registers from a word; first means interrupted
unfoldable pub step : Arch → Memory → ℕ → Bool → List ℕ → Outcome (List ℕ)
step a m frame first file = do
  at ← frame_cfa a frame first file
  step_at a m frame at file
