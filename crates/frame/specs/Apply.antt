-- `apply`: the caller's registers from a frame's base, units and pairs (document 01, "The state program").
use Rattle.std.specs.Prelude.{Bool, not, ◌&&◌, ◌||◌, List, [], ◌∷◌, ℕ, ◌*◌, ◌%◌, eqb, if◌then◌else◌}
use Rattle.failure.specs.Outcome.{Outcome, Refused, Answer, ◌>>=◌}
use Rattle.failure.specs.Failure.{Misaligned, BadCfaRule}
use Rattle.mem.specs.Memory.{Memory}
use Rattle.mem.specs.Word.{load}
use Rattle.mem.specs.Wrapping.{sum, difference}
use Rattle.arch.specs.Arch.{Arch, strip_pac}
use Rattle.arch.specs.File.{get, set, set_sp, set_pc}
use Rattle.frame.specs.Layout.{Pair, Layout, base, cfa}

-- fp is 0 or no multiple of 8
unfoldable pub bad_fp : ℕ → Bool
bad_fp f = eqb f 0 || not (eqb (f % 8) 0)

-- the number in a slot, the 8 bytes at CFA - 8 * slot modulo 2^64, or 27
unfoldable pub load_slot : Memory → ℕ → ℕ → Outcome ℕ
load_slot m at slot = load m 8 (difference at (8 * slot))

-- each pair in order is read (27), then set (11)
abbrev pub restore_pairs : Arch → Memory → ℕ → List Pair → List ℕ → Outcome (List ℕ)
restore_pairs a m at [] file = Answer file
restore_pairs a m at (p ∷ ps) file = do
  v ← load_slot m at p.slot
  next ← set a file p.reg v
  restore_pairs a m at ps next

-- sp is the CFA, pc the stripped return address
abbrev pub returned : Arch → ℕ → ℕ → List ℕ → List ℕ
returned a at ra file = set_pc (set_sp a file at) (strip_pac a ra)

-- past the tests: each pair, then the return address from its register
unfoldable pub apply_at : Arch → Memory → ℕ → List Pair → List ℕ → Outcome (List ℕ)
apply_at a m at pairs file = do
  next ← restore_pairs a m at pairs file
  ra ← get a next a.ra
  Answer (returned a at ra next)

-- the CFA so many units above a base: fp as base and bad gets 23, then a CFA of 0 gets 12
unfoldable pub cfa_above : Bool → ℕ → ℕ → Outcome ℕ
cfa_above on_fp units b =
    if on_fp && bad_fp b then Refused Misaligned
    else if eqb (sum b (8 * units)) 0 then Refused BadCfaRule
    else Answer (sum b (8 * units))

-- the caller's registers: fp as base and bad gets 23, then a CFA of 0 gets 12
unfoldable pub apply : Arch → Memory → Layout → List ℕ → Outcome (List ℕ)
apply a m l file =
    if l.on_fp && bad_fp (base a l.on_fp file) then Refused Misaligned
    else if eqb (cfa a l file) 0 then Refused BadCfaRule
    else apply_at a m (cfa a l file) l.pairs file
