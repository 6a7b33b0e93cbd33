-- The state of a run holds at most 32 pairs, with no register in two. Assumes nothing.
use Rattle.std.specs.Prelude.{if◌then◌else◌}
use mathlib.Core.Path.{◌≡◌, refl, subst}
use mathlib.Core.Bool.{Bool, true, false}
use mathlib.Core.List.{List, [], ◌∷◌}
use Prim.Native.Nat.{ℕ, zero, suc, ◌+◌, ◌-◌, ◌*◌, ◌^◌}
use lib.Dec.{eqb, ltb}
use lib.ListN.{length}
use Rattle.failure.specs.Outcome.{Outcome, Answer, ◌>>=◌}
use Rattle.mem.specs.Memory.{Memory}
use Rattle.arch.specs.Arch.{Arch}
use Rattle.state.specs.declared.State.{State}
use Rattle.state.specs.State.{entry}
use Rattle.state.specs.Save.{Change, Done, OutOfRange, Full, BadOpening, save}
use Rattle.state.specs.Restore.{restore}
use Rattle.state.specs.Answers.{changed}
use Rattle.state.proofs.Proper.{Proper, entry-proper, save-proper, restore-proper}
use Rattle.program.specs.declared.decode.Rule.{Rule}
use Rattle.program.specs.declared.decode.Rule.TheVariants.{Units, Sp, Fp, Save, Restore, Entry, Frame, FrameRegs}
use Rattle.program.specs.declared.decode.Op.{Op}
use Rattle.program.specs.declared.decode.Op.TheVariants.{End, Advance, Set, Remember, Recall}
use Rattle.program.specs.Operation.{Decoding, decode}
use Rattle.program.specs.Rule.{with_cfa, frame_regs, follow}
use Rattle.program.specs.Run.{Stand, Ran, Turn, On, Ends, Refused, max_remember, recall, set, act, turned, run_from, begin, run}

-- what gives a state is a change that was done
pub done : (x : Change) (st : State) → changed x ≡ Answer st → x ≡ Done st
done (Done s) st e = cc
done OutOfRange st e = cc
done Full st e = cc
done BadOpening st e = cc

pub cfa-proper : (fp : Bool) (units : ℕ) (st : State) → Proper st → Proper (with_cfa fp units st)
cfa-proper fp units st p = record { regs = p.regs; slots = p.slots; count = p.count; distinct = p.distinct }

-- a state given as an answer
answer-proper : (st st' : State) → Proper st → ◌≡◌ {A = Outcome State} (Answer st) (Answer st') → Proper st'
answer-proper st st' p e =
    let is : st ≡ st' = cc in
    subst (λ (s : State). Proper s) is p

frame-proper : (a : Arch) (st st' : State) → Proper st → frame_regs a st ≡ Answer st' → Proper st'
unfolding frame_regs
frame-proper a st st' p = go (changed (save st a.fp 2)) refl
  where
    go : (o : Outcome State) → changed (save st a.fp 2) ≡ o → (o >>= λ s. changed (save s a.ra 1)) ≡ Answer st' → Proper st'
    go (Outcome.Refused n) q e = cc
    go (Answer s) q e =
        save-proper s (save-proper st p a.fp 2 s (done (save st a.fp 2) s q)) a.ra 1 st' (done (save s a.ra 1) st' e)

-- an operation on a proper state leaves one
pub follow-proper : (a : Arch) (r : Rule) (st st' : State) → Proper st → follow a r st ≡ Answer st' → Proper st'
unfolding follow
follow-proper a (Units n) st st' p e = answer-proper _ st' (cfa-proper st.cfa_fp n st p) e
follow-proper a (Save reg slot) st st' p e = save-proper st p reg slot st' (done (save st reg slot) st' e)
follow-proper a (Sp n) st st' p e = answer-proper _ st' (cfa-proper false n st p) e
follow-proper a (Fp n) st st' p e = answer-proper _ st' (cfa-proper true n st p) e
follow-proper a (Restore reg) st st' p e = restore-proper a st p reg st' (done (restore a st reg) st' e)
follow-proper a Entry st st' p e = answer-proper _ st' (entry-proper a) e
follow-proper a Frame st st' p e = frame-proper a (with_cfa true 2 st) st' (cfa-proper true 2 st p) e
follow-proper a FrameRegs st st' p e = frame-proper a st st' p e

-- each of them is proper
abbrev pub Each : List State → Type 0
Each [] = Unit
Each (st ∷ sts) = Proper st × Each sts

-- where a run stands
pub record Stands (s : Stand) : Type 0 where
  pub state : Proper s.state
  pub remembered : Each s.remembered

-- what a turn leaves
abbrev pub Leaves : Turn → Type 0
Leaves (On s) = Stands s
Leaves (Ends r) = Proper r.state
Leaves (Refused n) = Unit

pub act_leaves : (a : Arch) (off next : ℕ) (op : Op) (s : Stand) → Stands s → Leaves (act a off next op s)
unfolding act
act_leaves a off next End s p = p.state
act_leaves a off next (Advance n) s p = over (ltb (2 ^ 64 - 1) to) (ltb off to)
  where
    to : ℕ
    to = s.at + n * a.unit

    over : (t u : Bool) →
        Leaves
        (if t then Refused 18
        else if u then Ends (record { state = s.state; after = 0 })
        else On (record { state = s.state; remembered = s.remembered; at = to }))
    over true u = tt
    over false true = p.state
    over false false = record { state = p.state; remembered = p.remembered }
act_leaves a off next (Set r) s p = go (follow a r s.state) refl
  where
    go : (o : Outcome State) → follow a r s.state ≡ o → Leaves (set s o)
    go (Outcome.Refused n) e = tt
    go (Answer st) e = record { state = follow-proper a r s.state st p.state e; remembered = p.remembered }
act_leaves a off next Remember s p = go (eqb (length s.remembered) max_remember)
  where
    go : (t : Bool) →
        Leaves
        (if t then Refused 10 else On (record { state = s.state; remembered = s.state ∷ s.remembered; at = s.at }))
    go true = tt
    go false = record { state = p.state; remembered = (p.state, p.remembered) }
act_leaves a off next Recall s p = go s.remembered p.remembered
  where
    go : (l : List State) → Each l → Leaves (recall l s)
    go [] e = tt
    go (st ∷ sts) e = record { state = e.0; remembered = e.1 }

module _ (m : Memory) (a : Arch) (limit off : ℕ) (r : Ran) where
  proper-from : (left pos : ℕ) (s : Stand) → Stands s → run_from left m a limit off pos s ≡ Answer r → Proper r.state
  proper-from zero pos s p = λ e. cc
  proper-from (suc left) pos s p = opened (decode m limit pos) (λ q s' l e. proper-from left q s' l e)
    where
      turn : (next : ℕ) → ((s' : Stand) → Stands s' → run_from left m a limit off next s' ≡ Answer r → Proper r.state) →
          (t : Turn) → Leaves t → turned t (λ s'. run_from left m a limit off next s') ≡ Answer r → Proper r.state
      turn next f (On s') l e = f s' l e
      turn next f (Ends x) l e =
          let is : x ≡ r = cc in
          subst (λ (y : Ran). Proper y.state) is l
      turn next f (Refused n) l e = cc

      opened : (o : Outcome Decoding) →
          ((q : ℕ) (s' : Stand) → Stands s' → run_from left m a limit off q s' ≡ Answer r → Proper r.state) →
          (o >>= λ d. turned (act a off d.next d.op s) (λ s'. run_from left m a limit off d.next s')) ≡ Answer r →
          Proper r.state
      opened (Outcome.Refused n) f e = cc
      opened (Answer d) f e =
          turn d.next (f d.next) (act a off d.next d.op s) (act_leaves a off d.next d.op s p) e

  -- the state that a run gives
  pub run-proper : (program : ℕ) → run m a program limit off ≡ Answer r → Proper r.state
  unfolding run
  run-proper program = go (eqb program 0) refl
    where
      go : (t : Bool) → eqb program 0 ≡ t → run m a program limit off ≡ Answer r → Proper r.state
      go true p e =
          let q : Answer (record { state = entry a; after = 0 }) ≡ Answer r = rw p at e in
          let is : record { state = entry a; after = 0 } ≡ r = cc in
          subst (λ (y : Ran). Proper y.state) is (entry-proper a)
      go false p e =
          proper-from (limit - program) program (begin a) (record { state = entry-proper a; remembered = tt }) (rw p at e)
