-- The cleanup phase gives the next landing that is due, over any stack that has the kept values in the live slots of the frames that it
-- passes. Assumes nothing.
use Rattle.std.specs.Prelude.{if◌then◌else◌}
use mathlib.Core.Bool.{Bool, true, false}
use mathlib.Core.List.{List, [], ◌∷◌}
use mathlib.Core.Option.{some}
use mathlib.Core.Path.{◌≡◌, refl, sym, ◌∙◌, ap, subst}
use Prim.Native.Nat.{ℕ, zero, suc, ◌+◌, ◌≤◌, ◌<◌}
use native.Mathlib.Omega.{arith}
use lib.Dec.{eqb, ltb}
use lib.ListN.{length, drop, get_elem?}
use borrow.Author.Tests.{eq-eqb, lt-ltb, le-ltb}
use Rattle.failure.specs.Outcome.{Outcome, Answer}
use Rattle.mem.specs.Memory.{Region}
use Rattle.mem.proofs.Tests.{both}
use Rattle.arch.specs.Arch.{numbers}
use Rattle.arch.specs.File.{sp}
use Rattle.rows.specs.Row.{Found, None, Pad, cleanup, catch}
use Rattle.personality.specs.Reason as Reason
use Rattle.model.specs.FrameStep.{Frame, max_frames}
use Rattle.model.specs.Search.{Chosen, Stopped}
use Rattle.model.specs.Cleanup as Cleanup
use Rattle.model.specs.Cleanup.{Choice, Cleaned, by_row, clean_from}
use Rattle.model.specs.Machine.{Open, Tables, lending, memory_with, caller_interrupted}
use Rattle.model.specs.Throw.{Standing, standing, row_of}
use Rattle.model.specs.Sound.{good_frame, good_frames}
use Rattle.model.specs.Expected.{LandingPad, Installed, pad_of, outcome_by, outcome_from, pads_by, pads_from}
use Rattle.model.specs.Demand.{compared}
use Rattle.model.proofs.Chain.{Live, Chain, Agrees}
use Rattle.model.proofs.Stands.{frame, Goes}
use Rattle.model.proofs.Walks.{Walks, stood}
use Rattle.model.proofs.Landings.{lands}

-- the chosen frame is not below the first that was looked at
pub chosen-above : (ts : Tables) (n : ℕ) (ss : List Standing) (k s : ℕ) → outcome_from ts n ss ≡ Chosen k s → n ≤ k
chosen-above ts n [] k s e = let z : ◌≡◌ {A = ℕ} 0 1 = cc in absurd (omega arith)
chosen-above ts n (x ∷ ss) k s e = go (row_of ts x) e (λ p. chosen-above ts (n + 1) ss k s p)
  where
    acts : (t u : Bool) →
        (if t then outcome_from ts (n + 1) ss else if u then Chosen n (sp (numbers ts.arch) x.file) else Stopped) ≡ Chosen k s →
        (outcome_from ts (n + 1) ss ≡ Chosen k s → n + 1 ≤ k) → n ≤ k
    acts true u p later = let l = later p in omega arith
    acts false true p later = let same : n ≡ k = cc in omega arith
    acts false false p later = let z : ◌≡◌ {A = ℕ} 0 1 = cc in absurd (omega arith)

    go : (row : Found) → outcome_by (numbers ts.arch) n x row (outcome_from ts (n + 1) ss) ≡ Chosen k s →
        (outcome_from ts (n + 1) ss ≡ Chosen k s → n + 1 ≤ k) → n ≤ k
    go None p later = let l = later p in omega arith
    go (Pad pad action) p later = acts (eqb action cleanup) (eqb action catch) p later

-- the frames from number n on: the first has that number
from_first : (n : ℕ) (gs : List Open) (f : Open) (fs : List Open) → drop n gs ≡ f ∷ fs → get_elem? gs n ≡ some f
from_first zero [] f fs e = let z : ◌≡◌ {A = ℕ} 0 1 = cc in absurd (omega arith)
from_first zero (g ∷ gs) f fs e = let same : g ≡ f = cc in ap some same
from_first (suc n) [] f fs e = let z : ◌≡◌ {A = ℕ} 0 1 = cc in absurd (omega arith)
from_first (suc n) (g ∷ gs) f fs e = from_first n gs f fs e

-- and the others are those from the next number on
from_rest : (n : ℕ) (gs : List Open) (f : Open) (fs : List Open) → drop n gs ≡ f ∷ fs → drop (n + 1) gs ≡ fs
from_rest zero [] f fs e = let z : ◌≡◌ {A = ℕ} 0 1 = cc in absurd (omega arith)
from_rest zero (g ∷ gs) f fs e = cc
from_rest (suc n) [] f fs e = let z : ◌≡◌ {A = ℕ} 0 1 = cc in absurd (omega arith)
from_rest (suc n) (g ∷ gs) f fs e =
    let same : suc n + 1 ≡ suc (n + 1) = omega arith in
    ap (λ (k : ℕ). drop k (g ∷ gs)) same ∙ from_rest n gs f fs e

-- a machine's open frames
module _ (ts : Tables) (frames : List Open) where
  -- where an unwinding stands: at the first of these frames, which are those from its number on, with these landings due up to the chosen one
  pub record Stands (c : Choice) (n : ℕ) (first interrupted : Bool) (file file' : List ℕ) (fs : List Open) (ls : List LandingPad) : Type 0 where
    pub few : n + length fs ≤ max_frames
    pub zeroth : first ≡ true → n ≡ 0
    pub chain : Chain ts first interrupted file fs
    pub from : drop n frames ≡ fs
    pub good : good_frames ts (standing interrupted file fs) ≡ true
    pub agrees : Agrees (numbers ts.arch) file' file
    pub chosen : outcome_from ts n (standing interrupted file fs) ≡ Chosen c.number c.sp
    pub due : pads_from ts n (standing interrupted file fs) ≡ ls

  -- at some frames, or past the chosen one
  pub data At (c : Choice) (f : Frame) (ls : List LandingPad) : Type 0 where
    Amid : (first : Bool) (file : List ℕ) (fs : List Open) →
        Stands c f.number first f.interrupted file f.file fs ls → At c f ls
    Over : c.number < f.number → ls ≡ [] → At c f ls

  -- what a sweep from frame number n on comes to: the first landing that is due, and where the unwinding stands after it, further out
  pub record Cleans (c : Choice) (n : ℕ) (o : Outcome Cleaned) (ls : List LandingPad) : Type 0 where
    pub number : ℕ
    pub pad : List ℕ
    pub next : Frame
    pub landing : LandingPad
    pub rest : List LandingPad
    pub is : o ≡ Answer (Cleanup.Install number pad next)
    pub first : ls ≡ landing ∷ rest
    pub same : compared (numbers ts.arch) (Cleanup.Install number pad next) ≡ Installed 7 landing
    pub after : At c next rest
    pub passes : n < next.number

  -- a sweep from the next number on is one from this number on
  earlier : (c : Choice) (n : ℕ) (o : Outcome Cleaned) (ls : List LandingPad) → Cleans c (n + 1) o ls → Cleans c n o ls
  earlier c n o ls x =
      let past = x.passes in
      record {
        number = x.number;
        pad = x.pad;
        next = x.next;
        landing = x.landing;
        rest = x.rest;
        is = x.is;
        first = x.first;
        same = x.same;
        after = x.after;
        passes = omega arith;
      }

  -- a frame that stands, its caller's file, and what the sweep of the frames after it comes to
  module _
      (exception : ℕ) (c : Choice) (n : ℕ) (first interrupted : Bool) (file file' next : List ℕ) (f : Open) (fs : List Open)
      (ls : List LandingPad) (s : Stands c n first interrupted file file' (f ∷ fs) ls) (agrees : Agrees (numbers ts.arch) next f.kept)
      (o : Outcome Cleaned) where
    -- the chosen frame is one of those after this one
    abbrev Later : Type 0
    Later = outcome_from ts (n + 1) (standing (caller_interrupted f) f.kept fs) ≡ Chosen c.number c.sp

    abbrev later_due : List LandingPad
    later_due = pads_from ts (n + 1) (standing (caller_interrupted f) f.kept fs)

    stands : Later → Stands c (n + 1) false (caller_interrupted f) f.kept next fs later_due
    stands e =
        record {
          few = omega (arith, s.few);
          zeroth = λ p. absurd_bool p;
          chain = s.chain.1;
          from = from_rest n frames f fs s.from;
          good = (both (good_frame ts (stood interrupted file f)) _ s.good).1;
          agrees = agrees;
          chosen = e;
          due = refl;
        }
      where
        absurd_bool : false ≡ true → n + 1 ≡ 0
        absurd_bool p = let z : ◌≡◌ {A = ℕ} 0 1 = cc in absurd (omega arith)

    under : Later → ltb n c.number ≡ true
    under e =
        let l = chosen-above ts (n + 1) (standing (caller_interrupted f) f.kept fs) c.number c.sp e in
        lt-ltb n c.number (omega arith)

    -- this frame lands
    landed : (pad : ℕ) (rest : List LandingPad) → ls ≡ pad_of (numbers ts.arch) n (stood interrupted file f) pad ∷ rest →
        At c (frame (n + 1) (caller_interrupted f) next) rest →
        Cleans c n
        (Cleanup.install_pad (numbers ts.arch) exception (frame n interrupted file') f.entry.function pad
        (frame (n + 1) (caller_interrupted f) next))
        ls
    landed pad rest e after =
        let l = lands ts.arch exception n interrupted file file' f pad (frame (n + 1) (caller_interrupted f) next) s.agrees in
        record {
          number = n;
          pad = l.there;
          next = frame (n + 1) (caller_interrupted f) next;
          landing = pad_of (numbers ts.arch) n (stood interrupted file f) pad;
          rest = rest;
          is = l.is;
          first = e;
          same = l.same;
          after = after;
          passes = omega arith;
        }

    abbrev CleanedBy : Found → Type 0
    CleanedBy row =
        Cleans c n
        (by_row (numbers ts.arch) exception c (frame n interrupted file') f.entry.function (frame (n + 1) (caller_interrupted f) next)
        o row)
        ls

    -- by the action of its row
    acts : (pad action : ℕ) (t u : Bool) → eqb action cleanup ≡ t → eqb action catch ≡ u →
        outcome_by (numbers ts.arch) n (stood interrupted file f) (Pad pad action)
        (outcome_from ts (n + 1) (standing (caller_interrupted f) f.kept fs))
        ≡ Chosen c.number c.sp →
        pads_by (numbers ts.arch) n (stood interrupted file f) (Pad pad action) later_due ≡ ls → CleanedBy (Pad pad action)
    acts pad action true u p q e d =
        let later : Later = rw p at e in
        let due = rw p at d in
        rw (under later, p) (landed pad later_due (sym due) (Amid false f.kept fs (stands later)))
    acts pad action false true p q e d =
        let this : Chosen n (sp (numbers ts.arch) file) ≡ Chosen c.number c.sp = rw (p, q) at e in
        let due = rw (p, q) at d in
        let number : n ≡ c.number = cc in
        let pointer : sp (numbers ts.arch) file ≡ c.sp = cc in
        rw (le-ltb n c.number (omega arith), q, eq-eqb (sp (numbers ts.arch) file') c.sp (s.agrees.sp ∙ pointer))
        (landed pad [] (sym due) (Over (omega arith) refl))
    acts pad action false false p q e d =
        let none : Stopped ≡ Chosen c.number c.sp = rw (p, q) at e in
        let z : ◌≡◌ {A = ℕ} 0 1 = cc in absurd (omega arith)

    -- by its row
    by_row_lem : (row : Found) → row_of ts (stood interrupted file f) ≡ row → (Later → Cleans c (n + 1) o later_due) → CleanedBy row
    by_row_lem None e rest =
        let later : Later = rw e at s.chosen in
        let due = rw e at s.due in
        rw (under later) (subst (λ (k : List LandingPad). Cleans c n o k) due (earlier c n o later_due (rest later)))
    by_row_lem (Pad pad action) e rest =
        acts pad action (eqb action cleanup) (eqb action catch) refl refl (rw e at s.chosen) (rw e at s.due)

  -- a stack that has the kept values in the live slots from frame number `least` up to the chosen one
  module _
      (stack : Region) (w : Walks ts stack) (exception : ℕ) (c : Choice) (least : ℕ)
      (live : (k : ℕ) (f : Open) → least ≤ k → k ≤ c.number → get_elem? frames k ≡ some f → Live (numbers ts.arch) stack f) where
    -- what the sweep of these frames comes to, from wherever it stands at the first of them
    abbrev Rest : List Open → ℕ → Type 0
    Rest fs fuel =
        (n : ℕ) (first interrupted : Bool) (file file' : List ℕ) (ls : List LandingPad) → least ≤ n →
        Stands c n first interrupted file file' fs ls →
        Cleans c n (clean_from fuel ts.arch (lending ts stack) exception c (frame n interrupted file')) ls

    -- past a frame
    clean-past :
        (f : Open) (fs : List Open) (fuel n : ℕ) (first interrupted : Bool) (file file' : List ℕ) (ls : List LandingPad) →
        least ≤ n → (s : Stands c n first interrupted file file' (f ∷ fs) ls) → Goes ts stack n interrupted file' f → Rest fs fuel →
        Cleans c n (clean_from (suc fuel) ts.arch (lending ts stack) exception c (frame n interrupted file')) ls
    clean-past f fs fuel n first interrupted file file' ls above s g rest =
        let good = (both (good_frame ts (stood interrupted file f)) _ s.good).0 in
        let o = clean_from fuel ts.arch (lending ts stack) exception c (frame (n + 1) (caller_interrupted f) g.next) in
        rw (
          g.steps,
          ap (λ (x : ℕ). Reason.row_of (numbers ts.arch) (memory_with ts stack) interrupted f.entry.function x) s.agrees.pc,
          w.row first interrupted file f s.chain.0 good,
        )
        (by_row_lem exception c n first interrupted file file' g.next f fs ls s g.agrees o
        (row_of ts (stood interrupted file f)) refl
        (λ later.
        rest (n + 1) false (caller_interrupted f) f.kept g.next _ (omega arith)
        (stands exception c n first interrupted file file' g.next f fs ls s g.agrees o later)))

    pub cleans : (fs : List Open) (fuel : ℕ) → length fs < fuel → Rest fs fuel
    cleans fs zero enough n first interrupted file file' ls above s = absurd (omega arith)
    cleans [] (suc fuel) enough n first interrupted file file' ls above s =
        let e = s.chosen in
        let z : ◌≡◌ {A = ℕ} 0 1 = cc in absurd (omega arith)
    cleans (f ∷ fs) (suc fuel) enough n first interrupted file file' ls above s =
        let few = s.few in
        let under = chosen-above ts n (standing interrupted file (f ∷ fs)) c.number c.sp s.chosen in
        clean-past f fs fuel n first interrupted file file' ls above s
        (w.goes n first interrupted file file' f (omega arith) s.zeroth s.chain.0
        (live n f above under (from_first n frames f fs s.from)) s.agrees)
        (cleans fs fuel (omega arith))
