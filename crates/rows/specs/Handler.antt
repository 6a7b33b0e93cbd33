-- Version 1 tables: u32 count, then rows of 12 bytes (return offset, pad, action), found by halving.
use Rattle.std.specs.Prelude.{Bool, false, ℕ, zero, suc, ◌+◌, ◌-◌, ◌*◌, ◌/◌, leb, ltb, eqb, if◌then◌else◌}
use Rattle.failure.specs.Outcome.{Outcome, Refused, Answer, ◌>>=◌}
use Rattle.failure.specs.Failure.{EkoAmbiguousCallSite, BadOpening}
use Rattle.mem.specs.Memory.{Memory, Lent}
use Rattle.mem.specs.Opening.{opens}
use Rattle.mem.specs.Word.{load}
use Rattle.mem.specs.Wrapping.{sum}
use Rattle.rows.specs.Row.{Found, None, checked}

-- a row as it stands in the table
pub record Entry : Type 0 where
  pub offset : ℕ
  pub pad : ℕ
  pub action : ℕ

-- the row with these numbers
abbrev pub row : ℕ → ℕ → ℕ → Entry
row offset pad action = record { offset = offset; pad = pad; action = action }

-- row i: three u32
unfoldable pub entry_at : Memory → ℕ → ℕ → Outcome Entry
entry_at m table i = do
  offset ← load m 4 (sum table (4 + 12 * i))
  pad ← load m 4 (sum table (8 + 12 * i))
  action ← load m 4 (sum table (12 + 12 * i))
  Answer (row offset pad action)

-- the left neighbour, if there is one, is not below the row
unfoldable pub left_breaks : Memory → ℕ → ℕ → ℕ → Outcome Bool
left_breaks m table i offset =
    if eqb i 0 then Answer false
    else (do
      left ← entry_at m table (i - 1)
      Answer (leb offset left.offset))

-- the right neighbour, if there is one, is not above the row
unfoldable pub right_breaks : Memory → ℕ → ℕ → ℕ → ℕ → Outcome Bool
right_breaks m table count i offset =
    if ltb (i + 1) count then (do
      right ← entry_at m table (i + 1)
      Answer (leb right.offset offset))
    else Answer false

-- a row that was found: its neighbours, left first, must keep strict order (24); then it must be valid (18)
unfoldable pub judged : Memory → ℕ → ℕ → ℕ → Entry → Outcome Found
judged m table count i e = do
  left ← left_breaks m table i e.offset
  if left then Refused EkoAmbiguousCallSite
      else (do
        right ← right_breaks m table count i e.offset
        if right then Refused EkoAmbiguousCallSite else checked e.pad e.action)

-- halving over the rows from lo to hi; the first number is at least their count
abbrev pub halve : ℕ → Memory → ℕ → ℕ → ℕ → ℕ → ℕ → Outcome Found
halve zero m table count ret lo hi = Answer None
halve (suc k) m table count ret lo hi =
    if leb hi lo then Answer None
    else (do
      e ← entry_at m table (lo + (hi - lo) / 2)
      if eqb e.offset ret then judged m table count (lo + (hi - lo) / 2) e
          else halve k m table count ret
          (if ltb e.offset ret then lo + (hi - lo) / 2 + 1 else lo)
          (if ltb e.offset ret then hi else lo + (hi - lo) / 2))

-- the row of a return offset in the table
unfoldable pub handler : Memory → ℕ → ℕ → Outcome Found
handler m table ret = do
  count ← load m 4 table
  halve count m table count ret 0 count

-- the same in what is lent: 28 first
unfoldable pub handler_in : Lent → ℕ → ℕ → Outcome Found
handler_in l table ret = if opens l then handler l.regions table ret else Refused BadOpening
