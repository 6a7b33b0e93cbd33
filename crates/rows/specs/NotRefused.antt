-- When the row of a return offset is not refused (document 01, "Rows and reasons"), said of a table's rows as a list and of how they
-- end, and not by the searches of `handler` and `handler2`.
use Rattle.std.specs.Prelude.{Bool, true, false, ◌&&◌, ◌||◌, List, [], ◌∷◌, ℕ, zero, suc, ◌+◌, eqb, leb, ltb, if◌then◌else◌}
use Rattle.failure.specs.Outcome.{Outcome, Refused, Answer}
use Rattle.mem.specs.Memory.{Memory}
use Rattle.leb.specs.Reader.{Read}
use Rattle.rows.specs.Row.{Found, None, Pad}
use Rattle.rows.specs.Handler.{Entry}
use Rattle.rows.specs.Handler2.{uleb}
use Rattle.rows.specs.Prefix.{row_at}

-- a row is not refused
abbrev pub not_refused : Outcome Found → Bool
not_refused (Refused n) = false
not_refused (Answer row) = true

-- actions 0 and 1 with a pad above 0, action 2 with a pad of 0
unfoldable pub well_formed : ℕ → ℕ → Bool
well_formed pad action = (ltb action 2 && ltb 0 pad) || (eqb action 2 && eqb pad 0)

-- there is no row, or a well-formed one; in a version 1 table that is whole and rises strictly nothing else is asked
abbrev pub none_or_well_formed : Found → Bool
none_or_well_formed None = true
none_or_well_formed (Pad pad action) = well_formed pad action

-- how the readable rows of a version 2 table end
pub data Ending : Type 0 where
  -- no row is left
  Complete : Ending
  -- the next row's delta cannot be read, or not even the count of rows
  Cut : Ending
  -- the next row's delta can be read and gives this return offset, but its pad and action cannot be read
  CutAfter : ℕ → Ending

-- what follows a read that is not refused; else the table is cut
abbrev pub unless_cut : Ending → Outcome Read → (Read → Ending) → Ending
unless_cut cut (Refused n) f = cut
unless_cut cut (Answer r) f = f r

-- how the readable ones of so many rows at pos end, the row before them having the return offset at
abbrev pub ending : ℕ → Memory → ℕ → ℕ → ℕ → Ending
ending zero m limit pos at = Complete
ending (suc left) m limit pos at =
    unless_cut Cut (uleb m limit pos)
    (λ delta.
    unless_cut (CutAfter (at + delta.value)) (uleb m limit delta.next)
    (λ word. ending left m limit word.next (at + delta.value)))

-- how the readable rows of the table end
unfoldable pub ending_of : Memory → ℕ → ℕ → Ending
ending_of m table limit = unless_cut Cut (uleb m limit table) (λ rows. ending rows.value m limit rows.next 0)

-- no row is left
abbrev pub complete : Ending → Bool
complete Complete = true
complete Cut = false
complete (CutAfter next) = false

-- the rows up to the first one at or past an offset, that one included
abbrev pub through : ℕ → List Entry → List Entry
through ret [] = []
through ret (e ∷ es) = e ∷ (if ltb e.offset ret then through ret es else [])

-- each delta is above 0, the row before having the return offset at
abbrev pub deltas_above0 : ℕ → List Entry → Bool
deltas_above0 at [] = true
deltas_above0 at (e ∷ es) = ltb at e.offset && deltas_above0 e.offset es

-- a row is at or past an offset
abbrev pub reached : ℕ → List Entry → Bool
reached ret [] = false
reached ret (e ∷ es) = leb ret e.offset || reached ret es

-- after a row with an offset: the next row's delta, if a row is left, can be read and is above 0
abbrev pub next_above : ℕ → List Entry → Ending → Bool
next_above ret (e ∷ es) end = ltb ret e.offset
next_above ret [] Complete = true
next_above ret [] Cut = false
next_above ret [] (CutAfter next) = ltb ret next

-- so after the row of an offset, if there is one
abbrev pub followed : ℕ → List Entry → Ending → Bool
followed ret [] end = true
followed ret (e ∷ es) end = if eqb e.offset ret then next_above ret es end else followed ret es end

-- the row of an offset is not refused by the rows after one with the return offset at, one test a line: each row up to the first at or
-- past the offset has a delta above 0; such a row can be read, or no row is left; the next row's delta after a match; the row itself
abbrev pub answered_after : ℕ → ℕ → List Entry → Ending → Bool
answered_after at ret rows end =
    deltas_above0 at (through ret rows)
    && (reached ret rows || complete end)
    && followed ret rows end
    && none_or_well_formed (row_at ret rows)

-- the row of an offset in a version 2 table is not refused; the first delta counts from 0
unfoldable pub answered : ℕ → List Entry → Ending → Bool
answered ret rows end = answered_after 0 ret rows end
