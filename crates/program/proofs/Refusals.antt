-- A run is refused with 10, 18, 27, 30, 31 or 32 and no other number; so 28, which a save gives for a state of more than 32 pairs, never
-- comes.
-- Assumes nothing.
use Rattle.std.specs.Prelude.{if◌then◌else◌}
use mathlib.Core.Path.{◌≡◌, refl, sym, subst}
use mathlib.Core.Bool.{Bool, true, false}
use mathlib.Core.Logic.{◌⊎◌, inl, inr}
use mathlib.Core.List.{List, [], ◌∷◌}
use Prim.Native.Nat.{ℕ, zero, suc, ◌+◌, ◌-◌, ◌*◌, ◌^◌}
use lib.Dec.{eqb, ltb}
use lib.ListN.{length}
use Rattle.failure.specs.Outcome.{Outcome, Answer, ◌>>=◌}
use Rattle.failure.specs.Failure.{RememberStackOverflow, BadEkoRecord, OutsideMemory, EkoTruncated, BadUleb, TooManySaved}
use Rattle.failure.proofs.Outcome.{refused_then}
use Rattle.mem.specs.Memory.{Memory}
use Rattle.arch.specs.Arch.{Arch}
use Rattle.leb.specs.Reader.{read_byte, read_number, Read}
use Rattle.leb.proofs.Faults as Faults
use Rattle.state.specs.declared.State.{State}
use Rattle.state.specs.Save.{Change, Done, OutOfRange, Full, BadOpening, save}
use Rattle.state.specs.Restore.{restore}
use Rattle.state.specs.Answers.{changed}
use Rattle.state.proofs.Proper.{Proper, entry-proper, save-proper, save-opens, restore-opens}
use Rattle.program.specs.declared.decode.Rule.{Rule}
use Rattle.program.specs.declared.decode.Rule.TheVariants.{Units, Sp, Fp, Save, Restore, Entry, Frame, FrameRegs}
use Rattle.program.specs.declared.decode.Op.{Op}
use Rattle.program.specs.declared.decode.Op.TheVariants.{End, Advance, Set, Remember, Recall}
use Rattle.program.specs.declared.decode.Form.{Form}
use Rattle.program.specs.declared.decode.Form.TheVariants.{Whole, WithNumber, WithPair, Unknown}
use Rattle.program.specs.Operation.{form_of, completed, Decoding, rest_at, decode}
use Rattle.program.specs.Rule.{with_cfa, frame_regs, follow}
use Rattle.program.specs.Run.{Stand, Ran, Turn, On, Ends, Refused, max_remember, recall, set, act, turned, run_from, begin, run}
use Rattle.program.proofs.Decoding.{slot_at}
use Rattle.program.proofs.Proper.{done, cfa-proper, Stands, Leaves, act_leaves}

-- the numbers of a refusal
pub data Refusal : ℕ → Type 0 where
  bad_record_lem : Refusal BadEkoRecord
  outside : Refusal OutsideMemory
  overflow : Refusal RememberStackOverflow
  truncated : Refusal EkoTruncated
  bad_uleb_lem : Refusal BadUleb
  too_many_saved : Refusal TooManySaved

-- a refusal carried over
carried : {A : Type 0} (x n : ℕ) → Refusal x → ◌≡◌ {A = Outcome A} (Outcome.Refused x) (Outcome.Refused n) → Refusal n
carried x n r e =
    let same : x ≡ n = cc in
    subst (λ (k : ℕ). Refusal k) same r

-- one of a byte or a number that is not read
module _ (m : Memory) (limit pos n : ℕ) where
  byte_refused : read_byte m limit pos ≡ Outcome.Refused n → Refusal n
  byte_refused e = go (Faults.byte_refused m limit pos n e)
    where
      go : (n ≡ 30) ⊎ (n ≡ 27) → Refusal n
      go (inl p) = subst (λ (k : ℕ). Refusal k) (sym p) truncated
      go (inr p) = subst (λ (k : ℕ). Refusal k) (sym p) outside

  number_refused : read_number m limit pos ≡ Outcome.Refused n → Refusal n
  number_refused e = go (Faults.number_refused m limit pos n e)
    where
      go : (n ≡ 30) ⊎ (n ≡ 31) ⊎ (n ≡ 27) → Refusal n
      go (inl p) = subst (λ (k : ℕ). Refusal k) (sym p) truncated
      go (inr (inl p)) = subst (λ (k : ℕ). Refusal k) (sym p) bad_uleb_lem
      go (inr (inr p)) = subst (λ (k : ℕ). Refusal k) (sym p) outside

rest_refused : (m : Memory) (limit pos : ℕ) (f : Form) (n : ℕ) → rest_at m limit pos f ≡ Outcome.Refused n → Refusal n
rest_refused m limit pos (Whole op) n = λ e. cc
rest_refused m limit pos (WithNumber o) n = λ e.
    go (refused_then (read_number m limit pos) (λ r. Answer (record { op = completed o r.value; next = r.next })) n e)
  where
    go : (read_number m limit pos ≡ Outcome.Refused n)
        ⊎ ((r : Read) × (read_number m limit pos ≡ Answer r)
        × (◌≡◌ {A = Outcome Decoding} (Answer (record { op = completed o r.value; next = r.next })) (Outcome.Refused n))) → Refusal n
    go (inl p) = number_refused m limit pos n p
    go (inr (r, p, q)) = cc
rest_refused m limit pos WithPair n = λ e. go (refused_then (read_number m limit pos) (λ r. slot_at m limit r) n e)
  where
    slot : (r : Read) → (read_number m limit r.next ≡ Outcome.Refused n)
        ⊎ ((s : Read) × (read_number m limit r.next ≡ Answer s)
        × (◌≡◌ {A = Outcome Decoding} (Answer (record { op = Set (Save r.value s.value); next = s.next })) (Outcome.Refused n))) → Refusal n
    slot r (inl p) = number_refused m limit r.next n p
    slot r (inr (s, p, q)) = cc

    go : (read_number m limit pos ≡ Outcome.Refused n)
        ⊎ ((r : Read) × (read_number m limit pos ≡ Answer r) × (slot_at m limit r ≡ Outcome.Refused n)) → Refusal n
    go (inl p) = number_refused m limit pos n p
    go (inr (r, p, q)) =
        slot r (refused_then (read_number m limit r.next) (λ s. Answer (record { op = Set (Save r.value s.value); next = s.next })) n q)
rest_refused m limit pos Unknown n = λ e. carried BadEkoRecord n bad_record_lem e

pub decode_refusal : (m : Memory) (limit pos n : ℕ) → decode m limit pos ≡ Outcome.Refused n → Refusal n
unfolding decode
decode_refusal m limit pos n e =
    go (refused_then (read_byte m limit pos) (λ code. rest_at m limit (pos + 1) (form_of code)) n e)
  where
    go : (read_byte m limit pos ≡ Outcome.Refused n)
        ⊎ ((code : ℕ) × (read_byte m limit pos ≡ Answer code) × (rest_at m limit (pos + 1) (form_of code) ≡ Outcome.Refused n)) → Refusal n
    go (inl p) = byte_refused m limit pos n p
    go (inr (code, p, q)) = rest_refused m limit (pos + 1) (form_of code) n q

-- a change of a proper state
change_refused : (x : Change) → (x ≡ BadOpening → ⊥) → (n : ℕ) → changed x ≡ Outcome.Refused n → Refusal n
change_refused (Done s) f n e = cc
change_refused OutOfRange f n e = carried BadEkoRecord n bad_record_lem e
change_refused Full f n e = carried TooManySaved n too_many_saved e
change_refused BadOpening f n e = absurd (f refl)

frame_refused : (a : Arch) (st : State) → Proper st → (n : ℕ) → frame_regs a st ≡ Outcome.Refused n → Refusal n
unfolding frame_regs
frame_refused a st p n = go (changed (save st a.fp 2)) refl
  where
    go : (x : Outcome State) → changed (save st a.fp 2) ≡ x → (x >>= λ s. changed (save s a.ra 1)) ≡ Outcome.Refused n → Refusal n
    go (Outcome.Refused k) q e =
        carried k n (change_refused (save st a.fp 2) (save-opens st p a.fp 2) k q) e
    go (Answer s) q e =
        let next : Proper s = save-proper st p a.fp 2 s (done (save st a.fp 2) s q) in
        change_refused (save s a.ra 1) (save-opens s next a.ra 1) n e

follow_refused : (a : Arch) (r : Rule) (st : State) → Proper st → (n : ℕ) → follow a r st ≡ Outcome.Refused n → Refusal n
unfolding follow
follow_refused a (Units k) st p n e = cc
follow_refused a (Save reg slot) st p n e = change_refused (save st reg slot) (save-opens st p reg slot) n e
follow_refused a (Sp k) st p n e = cc
follow_refused a (Fp k) st p n e = cc
follow_refused a (Restore reg) st p n e = change_refused (restore a st reg) (restore-opens a st p reg) n e
follow_refused a Entry st p n e = cc
follow_refused a Frame st p n e = frame_refused a (with_cfa true 2 st) (cfa-proper true 2 st p) n e
follow_refused a FrameRegs st p n e = frame_refused a st p n e

-- a turn's refusal
abbrev Bears : Turn → Type 0
Bears (On s) = Unit
Bears (Ends r) = Unit
Bears (Refused n) = Refusal n

act_bears : (a : Arch) (off next : ℕ) (op : Op) (s : Stand) → Stands s → Bears (act a off next op s)
unfolding act
act_bears a off next End s p = tt
act_bears a off next (Advance n) s p = go (ltb (2 ^ 64 - 1) to) (ltb off to)
  where
    to : ℕ
    to = s.at + n * a.unit

    go : (t u : Bool) →
        Bears
        (if t then Refused BadEkoRecord
        else if u then Ends (record { state = s.state; after = 0 })
        else On (record { state = s.state; remembered = s.remembered; at = to }))
    go true u = bad_record_lem
    go false true = tt
    go false false = tt
act_bears a off next (Set r) s p = go (follow a r s.state) refl
  where
    go : (o : Outcome State) → follow a r s.state ≡ o → Bears (set s o)
    go (Outcome.Refused n) e = follow_refused a r s.state p.state n e
    go (Answer st) e = tt
act_bears a off next Remember s p = go (eqb (length s.remembered) max_remember)
  where
    go : (t : Bool) →
        Bears
        (if t then Refused RememberStackOverflow
        else On (record { state = s.state; remembered = s.state ∷ s.remembered; at = s.at }))
    go true = overflow
    go false = tt
act_bears a off next Recall s p = go s.remembered
  where
    go : (l : List State) → Bears (recall l s)
    go [] = bad_record_lem
    go (st ∷ sts) = tt

module _ (m : Memory) (a : Arch) (limit off n : ℕ) where
  refused_from : (left pos : ℕ) (s : Stand) → Stands s → run_from left m a limit off pos s ≡ Outcome.Refused n → Refusal n
  refused_from zero pos s p = λ e. carried EkoTruncated n truncated e
  refused_from (suc left) pos s p = opened (decode m limit pos) refl (λ q s' l e. refused_from left q s' l e)
    where
      turn : (next : ℕ) → ((s' : Stand) → Stands s' → run_from left m a limit off next s' ≡ Outcome.Refused n → Refusal n) →
          (t : Turn) → Leaves t → Bears t → turned t (λ s'. run_from left m a limit off next s') ≡ Outcome.Refused n → Refusal n
      turn next f (On s') l b e = f s' l e
      turn next f (Ends x) l b e = cc
      turn next f (Refused k) l b e = carried k n b e

      opened : (o : Outcome Decoding) → decode m limit pos ≡ o →
          ((q : ℕ) (s' : Stand) → Stands s' → run_from left m a limit off q s' ≡ Outcome.Refused n → Refusal n) →
          (o >>= λ d. turned (act a off d.next d.op s) (λ s'. run_from left m a limit off d.next s')) ≡ Outcome.Refused n →
          Refusal n
      opened (Outcome.Refused k) q f e = carried k n (decode_refusal m limit pos k q) e
      opened (Answer d) q f e =
          turn d.next (f d.next) (act a off d.next d.op s) (act_leaves a off d.next d.op s p)
          (act_bears a off d.next d.op s p) e

  -- a run that is refused
  pub run_refusal : (program : ℕ) → run m a program limit off ≡ Outcome.Refused n → Refusal n
  unfolding run
  run_refusal program = go (eqb program 0) refl
    where
      go : (t : Bool) → eqb program 0 ≡ t → run m a program limit off ≡ Outcome.Refused n → Refusal n
      go true p e =
          let q : ◌≡◌ {A = Outcome Ran} (Answer (record { state = (begin a).state; after = 0 })) (Outcome.Refused n) = rw p at e in
          cc
      go false p e =
          refused_from (limit - program) program (begin a) (record { state = entry-proper a; remembered = tt }) (rw p at e)
