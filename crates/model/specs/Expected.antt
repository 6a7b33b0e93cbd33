-- What a throw and its sweep calls must give, computed from the machine's frames and their rows alone.
use Rattle.std.specs.Prelude.{List, [], ◌∷◌, map, ℕ, zero, suc, ◌+◌, ◌%◌, ◌^◌, eqb, if◌then◌else◌}
use Rattle.arch.specs.Arch.{Arch, numbers}
use Rattle.arch.specs.File.{sp}
use Rattle.rows.specs.Row.{Found, None, Pad, cleanup, catch}
use Rattle.model.specs.Search.{Searched, Chosen, Stopped, Ended}
use Rattle.model.specs.Machine.{Tables, Machine, value}
use Rattle.model.specs.Throw.{Throw, Standing, frames_at, record_of, row_of}

-- a landing, as it is compared: the frame's number, and sp, pc and preserved registers at the pad
pub record LandingPad : Type 0 where
  pub number : ℕ
  pub sp : ℕ
  pub pc : ℕ
  pub preserved : List ℕ

-- a frame's landing: sp and preserved registers as at its call, pc its record's start + pad modulo 2^64
unfoldable pub pad_of : Arch → ℕ → Standing → ℕ → LandingPad
pad_of a n s pad =
    record {
      number = n;
      sp = sp a s.file;
      pc = ((record_of s).start + pad) % 2 ^ 64;
      preserved = map (value a s.file) a.preserved;
    }

-- frame n by its row: a catch is chosen, by its number and sp; terminate is 3; with none or a cleanup the frames after it decide
abbrev pub outcome_by : Arch → ℕ → Standing → Found → Searched → Searched
outcome_by a n s None rest = rest
outcome_by a n s (Pad pad action) rest =
    if eqb action cleanup then rest else if eqb action catch then Chosen n (sp a s.file) else Stopped

-- what a search over the frames from number n on answers: the first catch, by its number and sp; 3 for a terminate row before any
-- catch; 5 where there is neither
abbrev pub outcome_from : Tables → ℕ → List Standing → Searched
outcome_from ts n [] = Ended
outcome_from ts n (s ∷ ss) = outcome_by (numbers ts.arch) n s (row_of ts s) (outcome_from ts (n + 1) ss)

-- frame n by its row: a cleanup lands before the frames after it, a catch lands last, terminate ends the list
abbrev pub pads_by : Arch → ℕ → Standing → Found → List LandingPad → List LandingPad
pads_by a n s None rest = rest
pads_by a n s (Pad pad action) rest =
    if eqb action cleanup then pad_of a n s pad ∷ rest
    else if eqb action catch then pad_of a n s pad ∷ []
    else []

-- the landings of the frames from number n on, up to the first catch: those with a cleanup row, innermost first, then the catch
abbrev pub pads_from : Tables → ℕ → List Standing → List LandingPad
pads_from ts n [] = []
pads_from ts n (s ∷ ss) = pads_by (numbers ts.arch) n s (row_of ts s) (pads_from ts (n + 1) ss)

-- landings are due only where a catch was chosen
abbrev pub due_by : Searched → List LandingPad → List LandingPad
due_by (Chosen n sp) ls = ls
due_by Stopped ls = []
due_by Ended ls = []

-- what the throw must answer
unfoldable pub outcome : Machine → Throw → Searched
outcome m t = outcome_from m.tables 0 (frames_at m t)

-- the landings that are due after it
unfoldable pub due : Machine → Throw → List LandingPad
due m t = due_by (outcome m t) (pads_from m.tables 0 (frames_at m t))

-- an answer of a sweep call, as it is compared: a landing with its number, another answer's number, or finished
pub data Compared : Type 0 where
  Installed : (code : ℕ) (pad : LandingPad) → Compared
  Fatal : (code : ℕ) → Compared
  Finished : Compared

-- the first n answers: the landings, each with 7, then finished for ever
abbrev pub first_of : ℕ → List LandingPad → List Compared
first_of zero ls = []
first_of (suc n) [] = Finished ∷ first_of n []
first_of (suc n) (l ∷ ls) = Installed 7 l ∷ first_of n ls
