-- Exactly the landings up to the first catch are due, and none where 3 or 5 is answered. Assumes nothing.
use Rattle.std.specs.Prelude.{if◌then◌else◌}
use mathlib.Core.Bool.{Bool, true, false}
use mathlib.Core.List.Memᴰ
use mathlib.Core.List.{List, [], ◌∷◌, ◌++◌, Memᴰ}
use mathlib.Core.Logic.{◌⊎◌, inl, inr, ⊎_elim}
use mathlib.Core.Path.{◌≡◌, refl, sym, ◌∙◌, ap, subst}
use Prim.Native.Nat.{ℕ, ◌+◌, ◌<◌}
use native.Mathlib.Omega.{arith}
use lib.Dec.{eqb}
use Rattle.arch.specs.Arch.{Arch, numbers}
use Rattle.arch.specs.File.{sp}
use Rattle.rows.specs.Row.{Found, None, Pad, cleanup, catch}
use Rattle.model.specs.Search.{Searched, Chosen, Stopped, Ended, reason_of, Coded, coded, told}
use Rattle.model.specs.Machine.{Machine, Tables}
use Rattle.model.specs.Throw.{Throw, Standing, frames_at, row_of}
use Rattle.model.specs.Expected.{LandingPad, pad_of, outcome_by, outcome_from, pads_by, pads_from, outcome, due, due_by}
use Rattle.model.specs.Exactly.{Numbered, PadAt, CleanupBelow, Rising, UpToCatch, Exactly}
use Rattle.model.proofs.Cleaning.{chosen-above}
use Rattle.model.proofs.FirstRow.{Kind, Passes, Catches, Terminates, kind, numbered-above, on-passed, on-catch, on-terminate}
use Rattle.model.proofs.FirstRow.{stops, ends, chooses}

module _ (ts : Tables) where
  abbrev a : Arch
  a = numbers ts.arch

  -- numbers rise strictly along the landings
  rising-from : (n : ℕ) (ls : List LandingPad) → Rising (n + 1) ls → Rising n ls
  rising-from n [] r = tt
  rising-from n (l ∷ ls) r = (let above = r.0 in omega arith, r.1)

  rises : (n : ℕ) (ss : List Standing) → Rising n (pads_from ts n ss)
  unfolding pad_of
  rises n [] = tt
  rises n (x ∷ ss) = go (row_of ts x) (rises (n + 1) ss)
    where
      rest : List LandingPad
      rest = pads_from ts (n + 1) ss

      acts : (pad : ℕ) (t u : Bool) → Rising (n + 1) rest →
          Rising n (if t then pad_of a n x pad ∷ rest else if u then pad_of a n x pad ∷ [] else [])
      acts pad true u r = (omega arith, r)
      acts pad false true r = (omega arith, tt)
      acts pad false false r = tt

      go : (row : Found) → Rising (n + 1) rest → Rising n (pads_by a n x row rest)
      go None r = rising-from n rest r
      go (Pad pad action) r = acts pad (eqb action cleanup) (eqb action catch) r

  module _ (n : ℕ) (x : Standing) (ss : List Standing) where
    -- what the frames after the first come to
    abbrev rest : Searched
    rest = outcome_from ts (n + 1) ss

    abbrev later : List LandingPad
    later = pads_from ts (n + 1) ss

    -- landings of the frames after the first are landings of all
    pad-later : (action k : ℕ) (l : LandingPad) → PadAt ts (n + 1) ss action k l → PadAt ts n (x ∷ ss) action k l
    pad-later action k l i =
        record { frame = i.frame; pad = i.pad; numbered = inr i.numbered; row = i.row; is = i.is }

    below-later : (k : ℕ) (l : LandingPad) → CleanupBelow ts (n + 1) ss k l → CleanupBelow ts n (x ∷ ss) k l
    below-later k l i =
        record { number = i.number; under = i.under; landing = pad-later cleanup i.number l i.landing }

    -- a landing below the catch is the first frame's or a later one's
    below_cases : (R : Type 0) (k : ℕ) (l : LandingPad) →
        (n < k → (pad : ℕ) → row_of ts x ≡ Pad pad cleanup → l ≡ pad_of a n x pad → R) →
        (CleanupBelow ts (n + 1) ss k l → R) → CleanupBelow ts n (x ∷ ss) k l → R
    below_cases R k l here after c = go c.landing.numbered
      where
        i : PadAt ts n (x ∷ ss) cleanup c.number l
        i = c.landing

        go : Numbered n (x ∷ ss) c.number i.frame → R
        go (inl e) =
            let number : c.number ≡ n = e.0 in
            here (subst (λ (j : ℕ). j < k) number c.under) i.pad (ap (row_of ts) (sym e.1) ∙ i.row)
            (i.is
            ∙ (ap (λ (j : ℕ). pad_of a j i.frame i.pad) number ∙ ap (λ (s : Standing). pad_of a n s i.pad) e.1))
        go (inr j) =
            after
            (record {
              number = c.number;
              under = c.under;
              landing = record { frame = i.frame; pad = i.pad; numbered = j; row = i.row; is = i.is };
            })

    abbrev Goal : ℕ → Type 0
    Goal k = UpToCatch ts n (x ∷ ss) k (pads_from ts n (x ∷ ss))

    -- by the row of the first frame: none
    up_past : (k : ℕ) → row_of ts x ≡ None → UpToCatch ts (n + 1) ss k later → Goal k
    up_past k row u =
        record {
          cleanups = u.cleanups;
          last = u.last;
          split = ap (λ (r : Found). pads_by a n x r later) row ∙ u.split;
          each =
              λ l. (
                λ i. below-later k l ((u.each l).0 i),
                below_cases (Memᴰ l u.cleanups) k l
                    (λ less pad e is. let clash : None ≡ Pad pad cleanup = sym row ∙ e in let z : ◌≡◌ {A = ℕ} 0 1 = cc in absurd (omega arith))
                    (u.each l).1,
              );
          catch = pad-later catch k u.last u.catch;
          rises = rises n (x ∷ ss);
        }

    -- cleanup
    up_cleanup : (k pad : ℕ) → row_of ts x ≡ Pad pad cleanup → n < k → UpToCatch ts (n + 1) ss k later → Goal k
    up_cleanup k pad row less u =
        record {
          cleanups = pad_of a n x pad ∷ u.cleanups;
          last = u.last;
          split = ap (λ (r : Found). pads_by a n x r later) row ∙ ap (λ (ls : List LandingPad). pad_of a n x pad ∷ ls) u.split;
          each =
              λ l. (
                λ i.
                    ⊎_elim
                    (λ (e : l ≡ pad_of a n x pad).
                    record {
                      number = n;
                      under = less;
                      landing = record { frame = x; pad = pad; numbered = inl (refl, refl); row = row; is = e };
                    })
                    (λ (j : Memᴰ l u.cleanups). below-later k l ((u.each l).0 j)) (Memᴰ.cases_cons i),
                below_cases (Memᴰ l (pad_of a n x pad ∷ u.cleanups)) k l
                    (λ less pad' e is.
                    let rows : Pad pad cleanup ≡ Pad pad' cleanup = sym row ∙ e in
                    let same : pad ≡ pad' = cc in
                    Memᴰ.head (is ∙ rw same))
                    (λ c. Memᴰ.tail ((u.each l).1 c)),
              );
          catch = pad-later catch k u.last u.catch;
          rises = rises n (x ∷ ss);
        }

    -- catch
    up_catch : (k pad : ℕ) → row_of ts x ≡ Pad pad catch → k ≡ n → Goal k
    up_catch k pad row here =
        record {
          cleanups = [];
          last = pad_of a n x pad;
          split = ap (λ (r : Found). pads_by a n x r later) row;
          each =
              λ l. (
                λ i. absurd (Memᴰ.not-nil i),
                λ (c : CleanupBelow ts n (x ∷ ss) k l).
                    let above = numbered-above n (x ∷ ss) c.number c.landing.frame c.landing.numbered in
                    let under = c.under in
                    absurd (omega arith),
              );
          catch = record { frame = x; pad = pad; numbered = inl (here, refl); row = row; is = rw here };
          rises = rises n (x ∷ ss);
        }

    -- any
    up_by : (k p : ℕ) (row : Found) → row_of ts x ≡ row → outcome_by a n x row rest ≡ Chosen k p →
        (rest ≡ Chosen k p → UpToCatch ts (n + 1) ss k later) → Goal k
    up_by k p None e o u = up_past k e (u o)
    up_by k p (Pad pad action) e o u = go (kind (Pad pad action))
      where
        go : Kind (Pad pad action) → Goal k
        go (Passes q) =
            let after : rest ≡ Chosen k p = sym (on-passed a n x (Pad pad action) rest q) ∙ o in
            let above = chosen-above ts (n + 1) ss k p after in
            up_cleanup k pad (e ∙ ap (Pad pad) q) (omega arith) (u after)
        go (Catches q) =
            let this : Chosen n (sp a x.file) ≡ Chosen k p = sym (on-catch a n x (Pad pad action) rest q) ∙ o in
            let number : n ≡ k = cc in
            up_catch k pad (e ∙ ap (Pad pad) q) (sym number)
        go (Terminates q) =
            let this : Stopped ≡ Chosen k p = sym (on-terminate a n x (Pad pad action) rest q) ∙ o in
            let z : ◌≡◌ {A = ℕ} 0 1 = cc in absurd (omega arith)

  -- where a catch is chosen, the landings are exactly those up to it
  pub up_to : (n : ℕ) (ss : List Standing) (k p : ℕ) → outcome_from ts n ss ≡ Chosen k p →
      UpToCatch ts n ss k (pads_from ts n ss)
  up_to n [] k p e = let z : ◌≡◌ {A = ℕ} 0 1 = cc in absurd (omega arith)
  up_to n (x ∷ ss) k p e = up_by n x ss k p (row_of ts x) refl e (λ q. up_to (n + 1) ss k p q)

-- document 01's numbers tell the cases of a throw apart
is_3 : (o : Searched) → reason_of o ≡ 3 → o ≡ Stopped
is_3 (Chosen k p) e = absurd (omega (arith, e))
is_3 Stopped e = refl
is_3 Ended e = absurd (omega (arith, e))

is_5 : (o : Searched) → reason_of o ≡ 5 → o ≡ Ended
is_5 (Chosen k p) e = absurd (omega (arith, e))
is_5 Stopped e = absurd (omega (arith, e))
is_5 Ended e = refl

is_6 : (o : Searched) (k p : ℕ) → told o ≡ coded 6 (k ∷ p ∷ []) → o ≡ Chosen k p
is_6 (Chosen n s) k p e =
    let values : n ∷ s ∷ [] ≡ k ∷ p ∷ [] = ap (λ (c : Coded). c.values) e in
    let number : n ≡ k = cc in
    let sp : s ≡ p = cc in
    rw (number, sp)
is_6 Stopped k p e = let code : ◌≡◌ {A = ℕ} 3 6 = ap (λ (c : Coded). c.code) e in absurd (omega arith)
is_6 Ended k p e = let code : ◌≡◌ {A = ℕ} 5 6 = ap (λ (c : Coded). c.code) e in absurd (omega arith)

-- exactly, of every machine and throw
pub exactly : (m : Machine) (t : Throw) → Exactly m t
unfolding outcome due
exactly m t =
    record {
      stops = (λ e. (stops ts 0 ss).0 (is_3 o e), λ f. ap reason_of ((stops ts 0 ss).1 f));
      ends = (λ e. (ends ts 0 ss).0 (is_5 o e), λ f. ap reason_of ((ends ts 0 ss).1 f));
      chooses = λ k p. (λ e. (chooses ts 0 ss k p).0 (is_6 o k p e), λ f. ap told ((chooses ts 0 ss k p).1 f));
      nothing = (none o refl, ⊎_elim (λ (e : reason_of o ≡ 3). rw (is_3 o e)) (λ (e : reason_of o ≡ 5). rw (is_5 o e)));
      lands = λ k p e.
          let is : o ≡ Chosen k p = is_6 o k p e in
          subst (UpToCatch ts 0 ss k) (sym (ap (λ (x : Searched). due_by x ls) is)) (up_to ts 0 ss k p is);
    }
  where
    o : Searched
    o = outcome_from m.tables 0 (frames_at m t)

    ts : Tables
    ts = m.tables

    ss : List Standing
    ss = frames_at m t

    ls : List LandingPad
    ls = pads_from ts 0 ss

    some : (ks : List LandingPad) (l : LandingPad) → ks ++ l ∷ [] ≡ [] → ⊥
    some [] l e = let z : ◌≡◌ {A = ℕ} 0 1 = cc in absurd (omega arith)
    some (k ∷ ks) l e = let z : ◌≡◌ {A = ℕ} 0 1 = cc in absurd (omega arith)

    none : (x : Searched) → o ≡ x → due_by x ls ≡ [] → (reason_of x ≡ 3) ⊎ (reason_of x ≡ 5)
    none (Chosen k p) e d =
        let u = up_to ts 0 ss k p e in
        absurd (some u.cleanups u.last (sym u.split ∙ d))
    none Stopped e d = inl refl
    none Ended e d = inr refl
