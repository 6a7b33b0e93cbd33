-- Demand 3 with stores between the calls: each call is usable. Assumes nothing.
use mathlib.Core.Bool.{true}
use mathlib.Core.List.{List, [], ◌∷◌}
use mathlib.Core.Path.{◌≡◌, refl, sym, ◌∙◌, ap, subst}
use Prim.Native.Nat.{ℕ, suc}
use native.Mathlib.Omega.{arith}
use lib.ListN.{length, drop}
use Rattle.failure.specs.Outcome.{Answer}
use Rattle.mem.specs.Memory.{Region}
use Rattle.model.specs.declared.Unwinding.{Unwinding}
use Rattle.model.specs.Unwinding.{resumed}
use Rattle.model.specs.Machine.{Machine, arch_of, Store}
use Rattle.model.specs.Event.{steps}
use Rattle.model.specs.Throw.{Throw, throw_allowed}
use Rattle.model.specs.Sound.{Sound, SoundTables}
use Rattle.model.specs.Expected.{LandingPad, Compared, due, first_of}
use Rattle.model.specs.OtherStack.{with_stack}
use Rattle.model.specs.Demand.{answer_of, call_of, current, compared, answers, unwinding_of}
use Rattle.model.specs.LiveStack.{Usable}
use Rattle.model.specs.Between.{stored_all, calls_between, SparedBetween, EveryLandingBetween, Demand3Between}
use Rattle.model.proofs.Chain.{Inv}
use Rattle.model.proofs.Stored.{Left, stores_leave}
use Rattle.model.proofs.Live.{from-drop, live_in, live-from}
use Rattle.model.proofs.Calls.{current-answered, Due, Serves, serves}
use Rattle.model.proofs.Usable.{same-usable}
use Rattle.model.proofs.Steps.{steps_inv}
use Rattle.model.proofs.Theorem.{walks, starts}

module _ (m : Machine) (i : Inv m) (tables : SoundTables m.tables) where
  -- a stack that has the kept values in the live slots of the frames not yet passed
  live-usable : (u : Unwinding) (r : Region) → Left (arch_of m) m.tables (drop u.number m.frames) r →
      Usable m u (call_of (with_stack m r) u)
  live-usable u r l =
      same-usable m u r l.accepted λ f j p q.
      let here = live_in (arch_of m) m.stack m.frames i.live f (from-drop u.number m.frames f j) p q in
      let there = live_in (arch_of m) r (drop u.number m.frames) l.live f j p q in
      record { within = there.within; same = there.holding ∙ sym here.holding }

  -- what is to be shown
  abbrev Answered : Unwinding → Region → List LandingPad → List (List Store) → Type 0
  Answered u r ls wss = answers (arch_of m) (calls_between m u r wss) ≡ first_of (length wss) ls

  -- a call that is served, then the rest
  served_first : (u : Unwinding) (r : Region) (ls : List LandingPad) (wss : List (List Store)) →
      (s : Serves m u ls (call_of (with_stack m r) u)) →
      SparedBetween m (current u (call_of (with_stack m r) u)) r wss →
      (SparedBetween m (resumed u (Answer s.answer)) r wss → Answered (resumed u (Answer s.answer)) r s.rest wss) →
      answers (arch_of m) (call_of (with_stack m r) u ∷ calls_between m (current u (call_of (with_stack m r) u)) r wss)
      ≡ first_of (suc (length wss)) ls
  served_first u r ls wss s spared rest =
      let is : answer_of (call_of (with_stack m r) u) ≡ Answer s.answer = s.is in
      let same = current-answered u (call_of (with_stack m r) u) s.answer refl is in
      let later = rest (subst (λ (v : Unwinding). SparedBetween m v r wss) same spared) in
      rw (is, same) (ap (λ (gs : List Compared). compared (arch_of m) s.answer ∷ gs) later ∙ sym (s.next (length wss)))

  answered : (wss : List (List Store)) (u : Unwinding) (r : Region) (ls : List LandingPad) → Due m u ls →
      Left (arch_of m) m.tables (drop u.number m.frames) r → SparedBetween m u r wss → Answered u r ls wss
  answered [] u r ls d l spared = refl
  answered (ws ∷ wss) u r ls d l spared =
      let r' : Region = stored_all r ws in
      let l' : Left (arch_of m) m.tables (drop u.number m.frames) r' =
      stores_leave (arch_of m) m.tables (drop u.number m.frames) r ws spared.0 l in
      let s : Serves m u ls (call_of (with_stack m r') u) =
      serves m i.known i.live (walks m i tables) u ls (call_of (with_stack m r') u) (live-usable u r' l') d in
      let next : Unwinding = resumed u (Answer s.answer) in
      served_first u r' ls wss s spared.1
      (answered wss next r' s.rest s.after
      (record {
        accepted = l'.accepted;
        live = live-from (arch_of m) r' m.frames u.number next.number s.passes l'.live;
      }))

-- every machine that the invariant holds of
pub every_landing_between :
    (m : Machine) → Inv m → (t : Throw) → throw_allowed m t ≡ true → Sound m t → (exception : ℕ) → EveryLandingBetween m t exception
every_landing_between m i t allowed s exception wss spared =
    answered m i s.tables wss (unwinding_of m t exception) m.stack (due m t) (starts m i t allowed s exception)
    (record {
      accepted = i.accepted;
      live = live-from (arch_of m) m.stack m.frames 0 (unwinding_of m t exception).number (omega arith) i.live;
    })
    spared

-- every landing, and no other, with stores between the calls
pub demand3_between : Demand3Between
demand3_between m fresh es t allowed s exception = every_landing_between (steps m es) (steps_inv m fresh es) t allowed s exception
