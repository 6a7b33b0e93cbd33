-- Document 01's number and values for each case of this crate's answers.
use Rattle.std.specs.Prelude.{List, ◌≡◌, ℕ, Result}
use Rattle.failure.specs.Outcome.{Outcome, Answer, outcome, settled}
use Rattle.failure.specs.declared.Failure.{Failure}
use Rattle.arch.specs.Arch.{Arch}
use Rattle.arch.specs.declared.Arch2.{Arch2}

-- the numbers of an architecture as the code holds them
abbrev pub in_code : Arch → Arch2
in_code a =
    record {
      unit = a.unit;
      sp = a.sp;
      fp = a.fp;
      ra = a.ra;
      entry_cfa = a.entry_units;
      entry_ra_slot = a.entry_slot;
      low = a.low;
      high = a.high;
      high_count = a.high_count;
      high_column = a.high_column;
    }

-- the file that a call leaves: the next one, or for a refusal the one that came in
abbrev pub file_after : List ℕ → Outcome (List ℕ) → List ℕ
file_after entry (Outcome.Refused n) = entry
file_after entry (Answer file) = file

-- a call on a file comes to the outcome: its status and the file that it leaves
pub record InPlace (entry : List ℕ) (o : Outcome (List ℕ)) (s : Result (Unit {0}) Failure) (exit : List ℕ) : Type 0 where
  pub status : outcome s ≡ settled o
  pub file : exit ≡ file_after entry o
