-- A throw answers 3, 5 or a catch exactly by the first row that is catch or terminate. Assumes nothing.
use mathlib.Core.Bool.{Bool, true, false}
use mathlib.Core.List.{List, [], ◌∷◌}
use mathlib.Core.Logic.{inl, inr, ◌↔◌}
use mathlib.Core.Path.{◌≡◌, refl, sym, ◌∙◌, subst}
use Prim.Native.Nat.{ℕ, ◌+◌, ◌≤◌}
use native.Mathlib.Omega.{arith}
use lib.Dec.{eqb}
use borrow.Author.Tests.{eqb-true, eqb-false, ne_eqb}
use Rattle.arch.specs.Arch.{Arch, numbers}
use Rattle.arch.specs.File.{sp}
use Rattle.rows.specs.Row.{Found, None, Pad, cleanup, catch}
use Rattle.model.specs.Search.{Searched, Chosen, Stopped, Ended}
use Rattle.model.specs.Throw.{Standing, row_of}
use Rattle.model.specs.Expected.{outcome_by, outcome_from}
use Rattle.model.specs.Exactly.{Passed, Catch, Terminate, Numbered, First, Neither, FirstCatch}
use Rattle.model.specs.Machine.{Tables}

-- a row is of one of three kinds
pub data Kind (row : Found) : Type 0 where
  Passes : Passed row → Kind row
  Catches : Catch row → Kind row
  Terminates : Terminate row → Kind row

-- each has one
pub kind : (row : Found) → Kind row
kind None = Passes tt
kind (Pad pad action) = go (eqb action cleanup) (eqb action catch) refl refl
  where
    go : (t u : Bool) → eqb action cleanup ≡ t → eqb action catch ≡ u → Kind (Pad pad action)
    go true u p q = Passes (eqb-true action cleanup p)
    go false true p q = Catches (eqb-true action catch q)
    go false false p q = Terminates (eqb-false action cleanup p, eqb-false action catch q)

-- frames are counted upwards
pub numbered-above : (n : ℕ) (ss : List Standing) (k : ℕ) (s : Standing) → Numbered n ss k s → n ≤ k
numbered-above n [] k s i = absurd i
numbered-above n (x ∷ ss) k s (inl e) = let same : k ≡ n = e.0 in omega arith
numbered-above n (x ∷ ss) k s (inr i) = let later = numbered-above (n + 1) ss k s i in omega arith

module _ (a : Arch) where
  -- what each kind of row says to a search
  pub on-passed : (n : ℕ) (s : Standing) (row : Found) (rest : Searched) → Passed row → outcome_by a n s row rest ≡ rest
  on-passed n s None rest e = refl
  on-passed n s (Pad pad action) rest e = rw e

  pub on-catch : (n : ℕ) (s : Standing) (row : Found) (rest : Searched) → Catch row → outcome_by a n s row rest ≡ Chosen n (sp a s.file)
  on-catch n s None rest e = absurd e
  on-catch n s (Pad pad action) rest e = rw e

  pub on-terminate : (n : ℕ) (s : Standing) (row : Found) (rest : Searched) → Terminate row → outcome_by a n s row rest ≡ Stopped
  on-terminate n s None rest e = absurd e
  on-terminate n s (Pad pad action) rest e = rw (ne_eqb action cleanup e.0, ne_eqb action catch e.1)

module _ (ts : Tables) where
  abbrev a : Arch
  a = numbers ts.arch

  module _ (n : ℕ) (x : Standing) (ss : List Standing) where
    -- a frame that is passed over, and one of those after it
    passed_or : Passed (row_of ts x) → (k : ℕ) (s : Standing) → (Numbered (n + 1) ss k s → Passed (row_of ts s)) →
        Numbered n (x ∷ ss) k s → Passed (row_of ts s)
    passed_or p k s later (inl e) = subst (λ (y : Standing). Passed (row_of ts y)) (sym e.1) p
    passed_or p k s later (inr i) = later i

    -- the first after a frame that is passed over is the first
    first_past : (K : Found → Type 0) → Passed (row_of ts x) → First ts (n + 1) ss K → First ts n (x ∷ ss) K
    first_past K p f =
        record {
          number = f.number;
          frame = f.frame;
          numbered = inr f.numbered;
          row = f.row;
          below = λ k s less. passed_or p k s (f.below k s less);
        }

    -- a frame that is not passed over is the first
    first_here : (K : Found → Type 0) → K (row_of ts x) → First ts n (x ∷ ss) K
    first_here K p =
        record {
          number = n;
          frame = x;
          numbered = inl (refl, refl);
          row = p;
          below = λ k s less i. let above = numbered-above n (x ∷ ss) k s i in absurd (omega arith);
        }

  -- what a search comes to, by the first row that is catch or terminate
  data Says (n : ℕ) (ss : List Standing) (o : Searched) : Type 0 where
    Chooses : (f : First ts n ss Catch) → o ≡ Chosen f.number (sp a f.frame.file) → Says n ss o
    Stops : First ts n ss Terminate → o ≡ Stopped → Says n ss o
    Ends : Neither ts n ss → o ≡ Ended → Says n ss o

  says : (n : ℕ) (ss : List Standing) → Says n ss (outcome_from ts n ss)
  unfolding first_past first_here
  says n [] = Ends (λ k s i. absurd i) refl
  says n (x ∷ ss) = here (kind (row_of ts x)) (says (n + 1) ss)
    where
      rest : Searched
      rest = outcome_from ts (n + 1) ss

      past : Passed (row_of ts x) → Says (n + 1) ss rest → Says n (x ∷ ss) (outcome_from ts n (x ∷ ss))
      past p (Chooses f e) = Chooses (first_past n x ss Catch p f) (on-passed a n x (row_of ts x) rest p ∙ e)
      past p (Stops f e) = Stops (first_past n x ss Terminate p f) (on-passed a n x (row_of ts x) rest p ∙ e)
      past p (Ends none e) = Ends (λ k s. passed_or n x ss p k s (none k s)) (on-passed a n x (row_of ts x) rest p ∙ e)

      here : Kind (row_of ts x) → Says (n + 1) ss rest → Says n (x ∷ ss) (outcome_from ts n (x ∷ ss))
      here (Passes p) later = past p later
      here (Catches p) later = Chooses (first_here n x ss Catch p) (on-catch a n x (row_of ts x) rest p)
      here (Terminates p) later = Stops (first_here n x ss Terminate p) (on-terminate a n x (row_of ts x) rest p)

  -- where the first such row is of a kind, the search comes to what that kind says
  first_says : (K : Found → Type 0) (say : ℕ → Standing → Searched) →
      ((n : ℕ) (s : Standing) (row : Found) (rest : Searched) → K row → outcome_by a n s row rest ≡ say n s) → (n : ℕ) (ss : List Standing)
      (f : First ts n ss K) → outcome_from ts n ss ≡ say f.number f.frame
  first_says K say law n [] f = absurd f.numbered
  first_says K say law n (x ∷ ss) f = go f.numbered (λ i. first_says K say law (n + 1) ss (after i))
    where
      rest : Searched
      rest = outcome_from ts (n + 1) ss

      after : Numbered (n + 1) ss f.number f.frame → First ts (n + 1) ss K
      after i =
          record {
            number = f.number;
            frame = f.frame;
            numbered = i;
            row = f.row;
            below = λ k s less j. f.below k s less (inr j);
          }

      go : Numbered n (x ∷ ss) f.number f.frame →
          (Numbered (n + 1) ss f.number f.frame → rest ≡ say f.number f.frame) →
          outcome_from ts n (x ∷ ss) ≡ say f.number f.frame
      go (inl e) later =
          let number : f.number ≡ n = e.0 in
          let here : f.frame ≡ x = e.1 in
          law n x (row_of ts x) rest (subst (λ (y : Standing). K (row_of ts y)) here f.row) ∙ rw (number, here)
      go (inr i) later =
          let above = numbered-above (n + 1) ss f.number f.frame i in
          on-passed a n x (row_of ts x) rest (f.below n x (omega arith) (inl (refl, refl))) ∙ later i

  -- where there is none, it ends
  neither_says : (n : ℕ) (ss : List Standing) → Neither ts n ss → outcome_from ts n ss ≡ Ended
  neither_says n [] none = refl
  neither_says n (x ∷ ss) none =
      on-passed a n x (row_of ts x) (outcome_from ts (n + 1) ss) (none n x (inl (refl, refl)))
      ∙ neither_says (n + 1) ss (λ k s i. none k s (inr i))

  module _ (n : ℕ) (ss : List Standing) where
    -- 3 exactly where the first row that is catch or terminate is terminate
    pub stops : outcome_from ts n ss ≡ Stopped ↔ First ts n ss Terminate
    stops = (λ e. go e (says n ss), first_says Terminate (λ k s. Stopped) (on-terminate a) n ss)
      where
        go : outcome_from ts n ss ≡ Stopped → Says n ss (outcome_from ts n ss) → First ts n ss Terminate
        go e (Chooses f p) = let z : ◌≡◌ {A = ℕ} 0 1 = cc in absurd (omega arith)
        go e (Stops f p) = f
        go e (Ends none p) = let z : ◌≡◌ {A = ℕ} 0 1 = cc in absurd (omega arith)

    -- 5 exactly where there is neither
    pub ends : outcome_from ts n ss ≡ Ended ↔ Neither ts n ss
    ends = (λ e. go e (says n ss), neither_says n ss)
      where
        go : outcome_from ts n ss ≡ Ended → Says n ss (outcome_from ts n ss) → Neither ts n ss
        go e (Chooses f p) = let z : ◌≡◌ {A = ℕ} 0 1 = cc in absurd (omega arith)
        go e (Stops f p) = let z : ◌≡◌ {A = ℕ} 0 1 = cc in absurd (omega arith)
        go e (Ends none p) = none

    -- a number and an sp exactly where the first such row is a catch, with that number and that sp at its frame's call
    pub chooses : (k p : ℕ) → outcome_from ts n ss ≡ Chosen k p ↔ FirstCatch ts n ss k p
    chooses k p = (
      λ e. go e (says n ss),
      λ (c : FirstCatch ts n ss k p).
          first_says Catch (λ j s. Chosen j (sp a s.file)) (on-catch a) n ss c.first ∙ rw (c.is_number, c.is_sp),
    )
      where
        go : outcome_from ts n ss ≡ Chosen k p → Says n ss (outcome_from ts n ss) → FirstCatch ts n ss k p
        go e (Chooses f q) =
            let number : f.number ≡ k = cc in
            let pointer : sp a f.frame.file ≡ p = cc in
            record { first = f; is_number = number; is_sp = pointer }
        go e (Stops f q) = let z : ◌≡◌ {A = ℕ} 0 1 = cc in absurd (omega arith)
        go e (Ends none q) = let z : ◌≡◌ {A = ℕ} 0 1 = cc in absurd (omega arith)
