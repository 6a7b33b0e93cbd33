-- Version 2 tables: uleb rows, then for each a uleb delta (from the return offset before it, the first from 0) and a uleb pad times 4
-- + action.
use Rattle.std.specs.Prelude.{ℕ, zero, suc, ◌+◌, ◌/◌, ◌%◌, ltb, eqb, if◌then◌else◌}
use Rattle.failure.specs.Outcome.{Outcome, Refused, Answer, ◌>>=◌}
use Rattle.failure.specs.Failure.{EkoAmbiguousCallSite, BadOpening}
use Rattle.mem.specs.Memory.{Memory, Lent}
use Rattle.mem.specs.Opening.{opens}
use Rattle.leb.specs.Reader.{Read, read_number}
use Rattle.rows.specs.Row.{Found, None, checked}

-- the number at pos
abbrev pub uleb : Memory → ℕ → ℕ → Outcome Read
uleb m limit pos = read_number m limit pos

-- the next row's delta, 1 where no row is left
unfoldable pub next_delta : Memory → ℕ → ℕ → ℕ → Outcome ℕ
next_delta m limit left pos =
    if eqb left 0 then Answer 1
    else (do
      delta ← uleb m limit pos
      Answer delta.value)

-- a row that was found: the refusal of the next delta, 24 where it is 0, then 18
unfoldable pub matched : Memory → ℕ → ℕ → ℕ → ℕ → Outcome Found
matched m limit left pos word = do
  next ← next_delta m limit left pos
  if eqb next 0 then Refused EkoAmbiguousCallSite else checked (word / 4) (word % 4)

-- what a row's two numbers say, the row before it having the return offset at and so many rows being left at next: the rest is
-- looked for only where the row comes before ret
abbrev pub decide : Memory → ℕ → ℕ → ℕ → ℕ → ℕ → ℕ → ℕ → Outcome Found → Outcome Found
decide m limit ret left at delta word next rest =
    if eqb delta 0 then Refused EkoAmbiguousCallSite
    else if ltb ret (at + delta) then Answer None
    else if eqb (at + delta) ret then matched m limit left next word
    else rest

-- the row of ret among the rows left at pos, of which the one before has the return offset at
abbrev pub rows_from : ℕ → Memory → ℕ → ℕ → ℕ → ℕ → Outcome Found
rows_from zero m limit pos at ret = Answer None
rows_from (suc left) m limit pos at ret = do
  delta ← uleb m limit pos
  word ← uleb m limit delta.next
  decide m limit ret left at delta.value word.value word.next
      (rows_from left m limit word.next (at + delta.value) ret)

-- the row of a return offset in the table
unfoldable pub handler2 : Memory → ℕ → ℕ → ℕ → Outcome Found
handler2 m table limit ret = do
  rows ← uleb m limit table
  rows_from rows.value m limit rows.next 0 ret

-- the same in what is lent: 28 first
unfoldable pub handler2_in : Lent → ℕ → ℕ → ℕ → Outcome Found
handler2_in l table limit ret = if opens l then handler2 l.regions table limit ret else Refused BadOpening
