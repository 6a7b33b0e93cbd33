-- What exactly a throw answers, and exactly which landings are due, in words of the rows of the frames (document 01: "the throw's chosen
-- number and sp (the first catch's), or 3 or 5").
use mathlib.Core.List.{List, [], ◌∷◌, ◌++◌, Memᴰ}
use Rattle.std.specs.Prelude.{◌⊎◌, ◌↔◌, ◌≢◌, ◌≡◌, ℕ, ◌+◌, ◌≤◌, ◌<◌}
use Rattle.arch.specs.Arch.{numbers}
use Rattle.arch.specs.File as File
use Rattle.rows.specs.Row as Row
use Rattle.rows.specs.Row.{Found, None, Pad, cleanup}
use Rattle.model.specs.Search.{reason_of, coded, told}
use Rattle.model.specs.Machine.{Tables, Machine}
use Rattle.model.specs.Throw.{Throw, Standing, frames_at, row_of}
use Rattle.model.specs.Expected.{LandingPad, pad_of, outcome, due}

-- a row that a search passes over: none, or cleanup
abbrev pub Passed : Found → Type 0
Passed None = Unit
Passed (Pad pad action) = action ≡ cleanup

-- a catch row
abbrev pub Catch : Found → Type 0
Catch None = ⊥
Catch (Pad pad action) = action ≡ Row.catch

-- a terminate row: one that is neither cleanup nor catch; in a sound section its action is 2 (proofs/ValidRows)
abbrev pub Terminate : Found → Type 0
Terminate None = ⊥
Terminate (Pad pad action) = (action ≢ cleanup) × (action ≢ Row.catch)

-- frame number k of frames whose first has number n
abbrev pub Numbered : ℕ → List Standing → ℕ → Standing → Type 0
Numbered n [] k s = ⊥
Numbered n (x ∷ xs) k s = ((k ≡ n) × (s ≡ x)) ⊎ Numbered (n + 1) xs k s

-- frames with numbers, the first of which is n
module _ (ts : Tables) (n : ℕ) (ss : List Standing) where
  -- the first row that is catch or terminate: every frame below its own is passed over
  pub record First (Kind : Found → Type 0) : Type 0 where
    pub number : ℕ
    pub frame : Standing
    pub numbered : Numbered n ss number frame
    pub row : Kind (row_of ts frame)
    pub below : (k : ℕ) (s : Standing) → k < number → Numbered n ss k s → Passed (row_of ts s)

  -- no row is catch or terminate
  abbrev pub Neither : Type 0
  Neither = (k : ℕ) (s : Standing) → Numbered n ss k s → Passed (row_of ts s)

  -- the first such row is a catch, with this number and with this sp at its frame's call
  pub record FirstCatch (number sp : ℕ) : Type 0 where
    pub first : First Catch
    pub is_number : first.number ≡ number
    pub is_sp : File.sp (numbers ts.arch) first.frame.file ≡ sp

  -- a landing is that of frame number k, whose row has this action
  pub record PadAt (action k : ℕ) (l : LandingPad) : Type 0 where
    pub frame : Standing
    pub pad : ℕ
    pub numbered : Numbered n ss k frame
    pub row : row_of ts frame ≡ Pad pad action
    pub is : l ≡ pad_of (numbers ts.arch) k frame pad

  -- a landing is that of a frame with a cleanup row, its number below k
  pub record CleanupBelow (k : ℕ) (l : LandingPad) : Type 0 where
    pub number : ℕ
    pub under : number < k
    pub landing : PadAt cleanup number l

-- numbers rise strictly, from k on
abbrev pub Rising : ℕ → List LandingPad → Type 0
Rising k [] = Unit
Rising k (l ∷ ls) = (k ≤ l.number) × Rising (l.number + 1) ls

-- exactly the landings of the frames with a cleanup row below number k, innermost first, then that of the catch of frame number k
pub record UpToCatch (ts : Tables) (n : ℕ) (ss : List Standing) (k : ℕ) (ls : List LandingPad) : Type 0 where
  pub cleanups : List LandingPad
  pub last : LandingPad
  pub split : ls ≡ cleanups ++ last ∷ []
  pub each : (l : LandingPad) → Memᴰ l cleanups ↔ CleanupBelow ts n ss k l
  pub catch : PadAt ts n ss Row.catch k last
  pub rises : Rising n ls

-- exactly, by document 01's numbers: 3 where the first row that is catch or terminate is terminate; 5 where there is neither; otherwise
-- 6 with that catch's number and sp. No landing is due where 3 or 5 is answered; otherwise those up to the catch
pub record Exactly (m : Machine) (t : Throw) : Type 0 where
  pub stops : reason_of (outcome m t) ≡ 3 ↔ First m.tables 0 (frames_at m t) Terminate
  pub ends : reason_of (outcome m t) ≡ 5 ↔ Neither m.tables 0 (frames_at m t)
  pub chooses : (k sp : ℕ) → told (outcome m t) ≡ coded 6 (k ∷ sp ∷ []) ↔ FirstCatch m.tables 0 (frames_at m t) k sp
  pub nothing : due m t ≡ [] ↔ (reason_of (outcome m t) ≡ 3) ⊎ (reason_of (outcome m t) ≡ 5)
  pub lands : (k sp : ℕ) → told (outcome m t) ≡ coded 6 (k ∷ sp ∷ []) → UpToCatch m.tables 0 (frames_at m t) k (due m t)
