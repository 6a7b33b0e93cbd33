-- Demand 3: every landing, and no other; over a live stack, and so over the stack of the throw. Assumes nothing.
use mathlib.Core.Bool.{true}
use mathlib.Core.List.{List, [], ◌∷◌}
use mathlib.Core.Path.{◌≡◌, refl, sym, ◌∙◌, subst}
use Prim.Native.Nat.{ℕ, ◌≤◌, ◌<◌}
use native.Mathlib.Omega.{arith}
use lib.Dec.{ltb}
use lib.ListN.{length-set}
use lib.Seq.{get_or-set_same, get_or-set_other}
use borrow.Author.Tests.{ltb-true}
use Rattle.failure.specs.Outcome.{Answer}
use Rattle.mem.specs.Memory.{Region}
use Rattle.mem.specs.Opening.{opens}
use Rattle.arch.specs.File.{pc_column, sp, pc}
use Rattle.lookup.specs.Record.{holds}
use Rattle.model.specs.FrameStep.{looked_up}
use Rattle.model.specs.Search.{Searched, Chosen, Stopped, Ended, search}
use Rattle.model.specs.Unwinding.{raise, raised}
use Rattle.model.specs.Machine.{Open, Machine, lent_by, arch_of, looked_at}
use Rattle.model.specs.Described.{described}
use Rattle.model.specs.Event.{steps}
use Rattle.model.specs.Throw.{Throw, thrown, throwable, throw_allowed, frames_at}
use Rattle.model.specs.Sound.{Sound, SoundTables}
use Rattle.model.specs.Expected.{outcome, due, due_by, pads_from}
use Rattle.model.specs.OtherStack.{with_stack}
use Rattle.model.specs.Demand.{Regular, raised_by, unwinding_of, EveryLanding, Demand3}
use Rattle.model.specs.LiveStack.{Usable, Demand3Live}
use Rattle.model.proofs.Chain.{looked-same, Inner, Chain, Inv, Agrees}
use Rattle.model.proofs.Guard.{each}
use Rattle.model.proofs.Files.{pointers}
use Rattle.model.proofs.InSection.{run_in_section}
use Rattle.model.proofs.Caller.{caller_agrees}
use Rattle.model.proofs.Rows.{row-found}
use Rattle.model.proofs.Stands.{goes, ends}
use Rattle.model.proofs.Walks.{Walks}
use Rattle.model.proofs.Searching.{searches}
use Rattle.model.proofs.Cleaning.{Amid}
use Rattle.model.proofs.Steps.{steps_inv}
use Rattle.model.proofs.Calls.{opened-known, Due, None, Some, calls}
use Rattle.model.proofs.Usable.{regular-usable}
use Rattle.model.proofs.Narrower.{narrower}
use Rattle.model.proofs.Exactly.{exactly}

module _ (m : Machine) (i : Inv m) where
  -- tables and memory serve the phases, beside every stack that opens
  pub walks : SoundTables m.tables → (stack : Region) → opens (lent_by (with_stack m stack)) ≡ true →
      Walks m.tables stack
  walks s stack accepted =
      record {
        goes =
            λ n first interrupted file file' f few zeroth h live agrees.
            let c =
            caller_agrees m.tables stack first interrupted file file' f accepted h live agrees
            (λ v off. run_in_section m.tables stack f.entry accepted h.kept.is_record off) in
            goes m.tables stack s n first interrupted file file' f few zeroth h agrees c.next c.is c.agrees;
        ends = ends m.tables stack s;
        row = λ first interrupted file f h good. row-found m.tables stack first interrupted file f accepted i.bytes s h good;
      }

  -- the registers at a throw are the machine's, with its pc
  thrown-pc : (t : Throw) → pc (thrown m t) ≡ t.pc
  thrown-pc t = let wide = i.wide in get_or-set_same m.registers pc_column t.pc 0 (omega arith)

  thrown-sp : (t : Throw) → sp (arch_of m) (thrown m t) ≡ sp (arch_of m) m.registers
  thrown-sp t =
      let below = (pointers m.tables.arch).sp_below in
      get_or-set_other m.registers pc_column (arch_of m).sp t.pc 0 (λ e. omega arith)

  -- the frames at a throw within the rules
  pub thrown_chain : (t : Throw) → throw_allowed m t ≡ true → Chain m.tables true t.interrupted (thrown m t) m.frames
  unfolding throw_allowed
  thrown_chain t = go m.frames i.inner
    where
      go : (fs : List Open) → Inner m.tables m.registers fs → throwable m t fs ≡ true →
          Chain m.tables true t.interrupted (thrown m t) fs
      go [] inner e = let z : ◌≡◌ {A = ℕ} 0 1 = cc in absurd (omega arith)
      go (f ∷ fs) inner e =
          let (above, (held, (fits, _))) =
          each (ltb 0 t.pc)
          (holds f.entry.function (looked_at t.interrupted t.pc)
          ∷ described m.tables f (thrown m t) t.interrupted (looked_at t.interrupted t.pc) ∷ [])
          e in
          let here : pc (thrown m t) ≡ t.pc = thrown-pc t in
          let looked = looked-same t.interrupted t.pc in (
            record {
              kept = inner.0;
              called = subst (λ (x : ℕ). 0 < x) (sym here) (ltb-true 0 t.pc above);
              held =
                  subst (λ (x : ℕ). holds f.entry.function (looked_up t.interrupted x) ≡ true) (sym here)
                  (subst (λ (x : ℕ). holds f.entry.function x ≡ true) looked held);
              fits =
                  subst (λ (x : ℕ). described m.tables f (thrown m t) t.interrupted (looked_up t.interrupted x) ≡ true) (sym here)
                  (subst (λ (x : ℕ). described m.tables f (thrown m t) t.interrupted x ≡ true) looked fits);
              at_most = subst (λ (x : ℕ). x ≤ f.cfa) (sym (thrown-sp t)) inner.1.0;
              lower = λ p. let z : ◌≡◌ {A = ℕ} 0 1 = cc in absurd (omega arith);
            },
            inner.1.1,
          )

  -- a file agrees with itself
  itself : (t : Throw) → Agrees (arch_of m) (thrown m t) (thrown m t)
  itself t =
      record {
        wide = length-set m.registers pc_column t.pc ∙ i.wide;
        sp = refl;
        pc = refl;
        preserved = λ reg e. refl;
      }

  module _ (t : Throw) (allowed : throw_allowed m t ≡ true) (s : Sound m t) where
    -- the throw
    pub throws : raised_by m t ≡ Answer (outcome m t)
    unfolding raised_by raise search outcome
    throws =
        let few = i.few in
        opened-known m _ i.accepted i.known ∙
        searches m.tables m.stack (walks s.tables m.stack i.accepted) m.frames 1025 0 true t.interrupted (thrown m t)
        (thrown m t) (omega arith) (omega arith) (λ e. refl) (thrown_chain t allowed) i.live s.frames (itself t)

    -- what is due after it
    pub starts : (exception : ℕ) → Due m (unwinding_of m t exception) (due m t)
    unfolding unwinding_of due outcome
    starts exception = rw throws (go (outcome m t) refl)
      where
        go : (o : Searched) → outcome m t ≡ o →
            Due m (raised m.registers t.pc t.interrupted exception (Answer o))
            (due_by o (pads_from m.tables 0 (frames_at m t)))
        go (Chosen k p) e =
            Some refl
            (Amid true (thrown m t) m.frames
            (record {
              few = omega (arith, i.few);
              zeroth = λ p. refl;
              chain = thrown_chain t allowed;
              from = refl;
              good = s.frames;
              agrees = itself t;
              chosen = e;
              due = refl;
            }))
        go Stopped e = None refl refl
        go Ended e = None refl refl

-- every machine that the invariant holds of, over a live stack
pub every_landing_live : (m : Machine) → Inv m → (t : Throw) → throw_allowed m t ≡ true → Sound m t → (exception : ℕ) →
    EveryLanding (Usable m) m t exception
every_landing_live m i t allowed s exception =
    record {
      throws = throws m i t allowed s;
      exactly = exactly m t;
      lands =
          λ cs a.
          calls m i.known i.live (walks m i s.tables) cs (unwinding_of m t exception) (due m t)
          (starts m i t allowed s exception) a;
    }

-- and so over the stack of the throw
pub every_landing : (m : Machine) → Inv m → (t : Throw) → throw_allowed m t ≡ true → Sound m t → (exception : ℕ) →
    EveryLanding (Regular m) m t exception
every_landing m i t allowed s exception =
    narrower (Usable m) (Regular m) (regular-usable m i) m t exception
    (every_landing_live m i t allowed s exception)

-- every landing, and no other, over a live stack
pub demand3_live : Demand3Live
demand3_live m fresh es t allowed s exception = every_landing_live (steps m es) (steps_inv m fresh es) t allowed s exception

-- every landing, and no other
pub demand3 : Demand3
demand3 m fresh es t allowed s exception = every_landing (steps m es) (steps_inv m fresh es) t allowed s exception
