-- Document 01's number and values for each case of the answers between this crate's functions.
use Rattle.std.specs.Prelude.{◌≡◌, ℕ, ◌/◌, ◌%◌, Result, Ok, Err, Option}
use Rattle.failure.specs.Outcome.{Outcome, Refused, Answer, outcome, map}
use Rattle.failure.specs.declared.Failure.{Failure}
use Rattle.leb.specs.Reader.{Read}
use Rattle.rows.specs.Row.{Found, None, checked}
use Rattle.rows.specs.Handler.{Entry, row}
use Rattle.rows.specs.declared.handler.Entry as code-entry

-- a row as it stands in the table, by the code's struct
abbrev pub row_of : code-entry.Entry → Entry
row_of e = row e.offset e.pad e.action

abbrev pub entry : Result code-entry.Entry Failure → Outcome Entry
entry r = map row_of (outcome r)

-- what a reader of numbers leaves in the place of an answer: a refusal, or nothing is said
abbrev pub LeftOf : {A : Type 0} → Option ℕ → Outcome A → Type 0
LeftOf (Option.Some n) o = Refused n ≡ o
LeftOf Option.None o = Unit

-- a number is the one there, and after it stands the position; else what is left
abbrev pub NumberOf : {Left : Type 0} → (Left → Option ℕ) → (ℕ → ℕ) → Result (ℕ × ℕ) Left → Outcome Read → Type 0
NumberOf refusal address (Ok x) o = Answer (record { value = x.0; next = address x.1 }) ≡ o
NumberOf refusal address (Err l) o = LeftOf (refusal l) o

-- the row of a word, or none
abbrev pub worded : Option ℕ → Outcome Found
worded (Option.Some w) = checked (w / 4) (w % 4)
worded Option.None = Answer None

-- a word is that of the row; else what is left
abbrev pub WordOf : {Left : Type 0} → (Left → Option ℕ) → Result (Option ℕ) Left → Outcome Found → Type 0
WordOf refusal (Ok w) o = worded w ≡ o
WordOf refusal (Err l) o = LeftOf (refusal l) o
