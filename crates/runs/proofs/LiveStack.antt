-- The part of a closed run over a live stack that is not mere computing. Assumes nothing.
use mathlib.Core.Bool.{Bool, true, false, not, ◌&&◌, ◌||◌}
use mathlib.Core.List.Memᴰ
use mathlib.Core.List.{List, [], ◌∷◌, Memᴰ}
use mathlib.Core.Logic.{⊎_elim}
use mathlib.Core.Option.{some}
use mathlib.Core.Path.{◌≡◌, refl, sym, ◌∙◌, ap, subst}
use Prim.Native.Nat.{ℕ, zero, suc, ◌-◌, ◌≤◌}
use native.Mathlib.Omega.{arith}
use lib.Dec.{eqb}
use lib.ListN.{length, drop, get_elem?}
use borrow.Author.Tests.{eqb-true}
use Rattle.failure.specs.Outcome.{Answer}
use Rattle.mem.specs.Memory.{Region, Lent}
use Rattle.mem.specs.Opening.{opens}
use Rattle.mem.proofs.Tests.{both}
use Rattle.arch.specs.Arch.{Arch}
use Rattle.lookup.specs.Field.{word}
use Rattle.frame.specs.Layout.{Pair}
use Rattle.model.specs.declared.Unwinding.{Unwinding}
use Rattle.model.specs.Unwinding.{raised}
use Rattle.model.specs.Machine.{Open, Machine, arch_of, lent_by, address, inside, Store}
use Rattle.model.specs.Expected.{Compared, first_of}
use Rattle.model.specs.OtherStack.{SameWord, SameSlots, SameLive, with_stack}
use Rattle.model.specs.Demand.{answer_of, call_of, current_by, current, Each, unless_refused, answers, unwinding_of}
use Rattle.model.specs.LiveStack.{Usable}
use Rattle.model.specs.Between.{stored_all, spares_all, SparedBetween, calls_between}
use Rattle.model.proofs.Between.{demand3_between}
use Rattle.runs.specs.Scenario.{Scenario, events, reached, handed_back, Holds}
use Rattle.runs.specs.LiveStack.{Made, call_over, calls_over, same_slots, same_in, same_at, HoldsOver, lent_in, lent_over, HoldsBetween}

-- each of them is true
abbrev pub all_true : List Bool → Bool
all_true [] = true
all_true (b ∷ bs) = b && all_true bs

-- slots that are tested are the same
slots_tested : (stack other : Region) (cfa : ℕ) (ps : List Pair) → same_slots stack other cfa ps ≡ true → (p : Pair) → Memᴰ p ps →
    SameWord stack other (address cfa p.slot)
slots_tested stack other cfa [] h p i = absurd (Memᴰ.not-nil i)
slots_tested stack other cfa (q ∷ ps) h p i =
    let here = inside other (address cfa q.slot) in
    let equal =
    eqb (word other.bytes (address cfa q.slot - other.base) 8) (word stack.bytes (address cfa q.slot - stack.base) 8) in
    let (front, rest) = both (here && equal) (same_slots stack other cfa ps) h in
    let (within, same) = both here equal front in
    ⊎_elim
    (λ (s : p ≡ q).
    subst (λ (o : Pair). SameWord stack other (address cfa o.slot)) (sym s)
    (record { within = within; same = eqb-true _ _ same }))
    (λ (t : Memᴰ p ps). slots_tested stack other cfa ps rest p t)
    (Memᴰ.cases_cons i)

-- and so are those of frames
pub frames_tested : (stack other : Region) (fs : List Open) → all_true (same_in stack other fs) ≡ true → SameLive stack other fs
frames_tested stack other [] h f i = absurd (Memᴰ.not-nil i)
frames_tested stack other (g ∷ fs) h f i =
    let (front, rest) = both (same_slots stack other g.cfa g.spilled) (all_true (same_in stack other fs)) h in
    ⊎_elim
    (λ (s : f ≡ g). subst (SameSlots stack other) (sym s) (slots_tested stack other g.cfa g.spilled front))
    (λ (t : Memᴰ f fs). frames_tested stack other fs rest f t)
    (Memᴰ.cases_cons i)

-- the frames from number n up to number c
abbrev pub up_to : ℕ → ℕ → List Open → List Open
up_to n c [] = []
up_to zero zero (f ∷ fs) = f ∷ []
up_to zero (suc c) (f ∷ fs) = f ∷ up_to zero c fs
up_to (suc n) zero (f ∷ fs) = []
up_to (suc n) (suc c) (f ∷ fs) = up_to n c fs

-- frame number k is one of them
one_up_to : (n c : ℕ) (fs : List Open) (k : ℕ) (f : Open) → n ≤ k → k ≤ c → get_elem? fs k ≡ some f → Memᴰ f (up_to n c fs)
one_up_to n c [] k f least most at = let z : ◌≡◌ {A = ℕ} 0 1 = cc in absurd (omega arith)
one_up_to zero zero (g ∷ fs) zero f least most at = let same : g ≡ f = cc in Memᴰ.head (sym same)
one_up_to zero zero (g ∷ fs) (suc k) f least most at = absurd (omega arith)
one_up_to zero (suc c) (g ∷ fs) zero f least most at = let same : g ≡ f = cc in Memᴰ.head (sym same)
one_up_to zero (suc c) (g ∷ fs) (suc k) f least most at = Memᴰ.tail (one_up_to zero c fs k f (omega arith) (omega arith) at)
one_up_to (suc n) c (g ∷ fs) zero f least most at = absurd (omega arith)
one_up_to (suc n) zero (g ∷ fs) (suc k) f least most at = absurd (omega arith)
one_up_to (suc n) (suc c) (g ∷ fs) (suc k) f least most at = one_up_to n c fs k f (omega arith) (omega arith) at

-- a call passes: its stack opens, and if a frame was chosen, the live slots up to it are the same
abbrev pub passes : Machine → Unwinding → Region → Bool
passes m u other =
    opens (lent_by (with_stack m other))
    && (not u.chosen || all_true (same_in m.stack other (up_to u.number u.chosen_number m.frames)))

-- then it is usable
passes-usable : (m : Machine) (u : Unwinding) (f : Made) → passes m u (f m.stack) ≡ true → Usable m u (call_over m u f)
passes-usable m u f h =
    let other : Region = f m.stack in
    let ahead : List Open = up_to u.number u.chosen_number m.frames in
    let (accepted, same) = both (opens (lent_by (with_stack m other))) (not u.chosen || all_true (same_in m.stack other ahead)) h in
    record {
      stack = other;
      is = refl;
      accepted = accepted;
      same = λ e k g least most at.
          frames_tested m.stack other ahead (if_chosen u.chosen _ e same) g
          (one_up_to u.number u.chosen_number m.frames k g least most at);
    }
  where
    if_chosen : (t s : Bool) → t ≡ true → (not t || s) ≡ true → s ≡ true
    if_chosen true s e h = h
    if_chosen false s e h = let z : ◌≡◌ {A = ℕ} 0 1 = cc in absurd (omega arith)

-- all that computing shows of calls over stacks: whether each passes, and what they give
pub record OverReport : Type 0 where
  pub passed : Bool
  pub gives : List Compared

-- each computed once
abbrev pub report_over : Arch → Machine → Unwinding → List Made → OverReport
report_over a m u [] = record { passed = true; gives = [] }
report_over a m u (f ∷ fs) =
    let o = answer_of (call_over m u f) in
    let r = report_over a m (current_by u u o) fs in
    record { passed = passes m u (f m.stack) && r.passed; gives = unless_refused a o r.gives }

-- what it says of them
pub record OverSays (a : Arch) (m : Machine) (u : Unwinding) (fs : List Made) : Type 0 where
  pub usable : (report_over a m u fs).passed ≡ true → Each (Usable m) u (calls_over m u fs)
  pub gives : answers a (calls_over m u fs) ≡ (report_over a m u fs).gives

over_says : (a : Arch) (m : Machine) (u : Unwinding) (fs : List Made) → OverSays a m u fs
unfolding current
over_says a m u [] = record { usable = λ h. tt; gives = refl }
over_says a m u (f ∷ fs) =
    let rest = over_says a m (current u (call_over m u f)) fs in
    record {
      usable =
          λ h.
          let (here, later) = both (passes m u (f m.stack)) (report_over a m (current u (call_over m u f)) fs).passed h in
          (passes-usable m u f here, rest.usable later);
      gives = ap (unless_refused a (answer_of (call_over m u f))) rest.gives;
    }

-- the unwinding that the throw of a scenario hands back, if it answers so
abbrev pub begun : Scenario → Machine → ℕ → Unwinding
begun s m exception = raised m.registers s.throw.pc s.throw.interrupted exception (Answer s.answer)

-- a scenario that holds, whose report is as expected, holds over such stacks
pub over_reported : (s : Scenario) (stacks : List Made) (same : List (List Bool)) → Holds s → same_at (reached s) stacks ≡ same →
    ((exception : ℕ) →
    (let m = reached s in report_over (arch_of m) m (begun s m exception) stacks)
    ≡ record { passed = true; gives = first_of (length stacks) s.landings }) → HoldsOver s stacks same
unfolding unwinding_of
over_reported s stacks same holds finds e =
    record {
      finds = finds;
      usable = λ exception. rw holds.raises ((said exception).usable (ap (λ (r : OverReport). r.passed) (e exception)));
      cleans = λ exception. rw holds.raises ((said exception).gives ∙ ap (λ (r : OverReport). r.gives) (e exception));
    }
  where
    said : (exception : ℕ) → OverSays (arch_of (reached s)) (reached s) (begun s (reached s) exception) stacks
    said exception = over_says (arch_of (reached s)) (reached s) (begun s (reached s) exception) stacks

-- all that computing shows of calls with stores between them: whether the stores spare, and what the calls are lent
pub record BetweenReport : Type 0 where
  pub spare : Bool
  pub lent : List Lent

-- each call computed once
abbrev pub report_between : Machine → Unwinding → Region → List (List Store) → BetweenReport
report_between m u r [] = record { spare = true; lent = [] }
report_between m u r (ws ∷ wss) =
    let r' = stored_all r ws in
    let t = report_between m (current_by u u (answer_of (call_of (with_stack m r') u))) r' wss in
    record { spare = spares_all r (drop u.number m.frames) ws && t.spare; lent = lent_by (with_stack m r') ∷ t.lent }

-- what it says of them
pub record BetweenSays (m : Machine) (u : Unwinding) (r : Region) (wss : List (List Store)) : Type 0 where
  pub spare : (report_between m u r wss).spare ≡ true → SparedBetween m u r wss
  pub lent : lent_in (calls_between m u r wss) ≡ (report_between m u r wss).lent

between_says : (m : Machine) (u : Unwinding) (r : Region) (wss : List (List Store)) → BetweenSays m u r wss
unfolding current
between_says m u r [] = record { spare = λ h. tt; lent = refl }
between_says m u r (ws ∷ wss) =
    let next = current u (call_of (with_stack m (stored_all r ws)) u) in
    let rest = between_says m next (stored_all r ws) wss in
    record {
      spare =
          λ h.
          let (here, later) = both (spares_all r (drop u.number m.frames) ws) (report_between m next (stored_all r ws) wss).spare h in
          (here, rest.spare later);
      lent = ap (λ (ls : List Lent). lent_by (with_stack m (stored_all r ws)) ∷ ls) rest.lent;
    }

-- a scenario that holds, whose report is as expected, holds with them: the theorem gives the landings
pub between_reported : (s : Scenario) (wss : List (List Store)) (stacks : List Made) → Holds s →
    ((exception : ℕ) →
    (let m = reached s in report_between m (begun s m exception) m.stack wss) ≡ record { spare = true; lent = lent_over (reached s) stacks }) →
    HoldsBetween s wss stacks
unfolding unwinding_of
between_reported s wss stacks holds e =
    record {
      spare = spare;
      lends = λ exception. rw holds.raises ((said exception).lent ∙ ap (λ (t : BetweenReport). t.lent) (e exception));
      cleans = λ exception.
          demand3_between s.machine holds.fresh (events s.labelled) s.throw holds.allowed holds.sound exception wss
          (spare exception)
          ∙ ap (first_of (length wss)) holds.lands;
    }
  where
    said : (exception : ℕ) → BetweenSays (reached s) (begun s (reached s) exception) (reached s).stack wss
    said exception = between_says (reached s) (begun s (reached s) exception) (reached s).stack wss

    spare : (exception : ℕ) → SparedBetween (reached s) (handed_back s exception) (reached s).stack wss
    spare exception = rw holds.raises ((said exception).spare (ap (λ (t : BetweenReport). t.spare) (e exception)))
