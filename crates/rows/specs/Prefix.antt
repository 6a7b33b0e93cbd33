-- The rows of a version 2 table as a list: the longest readable prefix of its rows, as they stand, valid or not.
use Rattle.std.specs.Prelude.{List, [], ◌∷◌, ℕ, zero, suc, ◌+◌, ◌/◌, ◌%◌, eqb, if◌then◌else◌}
use Rattle.failure.specs.Outcome.{Outcome, Refused, Answer}
use Rattle.mem.specs.Memory.{Memory}
use Rattle.leb.specs.Reader.{Read}
use Rattle.rows.specs.Row.{Found, None, Pad}
use Rattle.rows.specs.Handler.{Entry, row}
use Rattle.rows.specs.Handler2.{uleb}

-- what follows a read that is not refused
abbrev pub readable : Outcome Read → (Read → List Entry) → List Entry
readable (Refused n) f = []
readable (Answer r) f = f r

-- the readable ones of so many rows at pos, the row before them having the return offset at
abbrev pub prefix : ℕ → Memory → ℕ → ℕ → ℕ → List Entry
prefix zero m limit pos at = []
prefix (suc left) m limit pos at =
    readable (uleb m limit pos)
    (λ delta.
    readable (uleb m limit delta.next)
    (λ word.
    row (at + delta.value) (word.value / 4) (word.value % 4)
    ∷ prefix left m limit word.next (at + delta.value)))

-- the readable rows of the table
unfoldable pub rows_of : Memory → ℕ → ℕ → List Entry
rows_of m table limit = readable (uleb m limit table) (λ rows. prefix rows.value m limit rows.next 0)

-- the row of a return offset in a list of rows
abbrev pub row_at : ℕ → List Entry → Found
row_at ret [] = None
row_at ret (e ∷ es) = if eqb e.offset ret then Pad e.pad e.action else row_at ret es
