-- A program is refused with 30, 31 and 32 exactly where specs/Faults.antt says. Assumes nothing.
use Rattle.std.specs.Prelude.{if◌then◌else◌}
use mathlib.Core.Path.{◌≡◌, refl, sym, ◌∙◌, ap, subst}
use mathlib.Core.Bool.{Bool, true, false}
use mathlib.Core.Logic.{◌⊎◌, inl, inr, ◌↔◌, ◌≢◌}
use mathlib.Core.List.{List, [], ◌∷◌}
use Prim.Native.Nat.{ℕ, ◌+◌, ◌-◌, ◌*◌, ◌^◌, ◌≤◌}
use native.Mathlib.Omega.{arith}
use lib.Dec.{eqb, ltb, lit≤}
use lib.ListN.{length}
use Rattle.failure.specs.Outcome.{Outcome, Answer, ◌>>=◌}
use Rattle.failure.specs.Failure.{BadEkoRecord, RememberStackOverflow}
use Rattle.failure.proofs.Outcome.{refused_then}
use Rattle.mem.specs.Memory.{Memory, Bytes}
use Rattle.arch.specs.Arch.{Arch, numbers}
use Rattle.arch.proofs.Arch.{of_both}
use Rattle.leb.specs.Reader.{read_byte, Read, read_number}
use Rattle.leb.specs.Faults.{NumberFaults}
use Rattle.leb.proofs.Reader.{byte_cut}
use Rattle.leb.proofs.Faults.{byte_refused, number_faults}
use Rattle.state.specs.declared.State.{State}
use Rattle.state.specs.Save.{Done, save}
use Rattle.state.specs.Answers.{changed}
use Rattle.state.specs.Faults.{Unfit, SaveFaults, RestoreFaults}
use Rattle.state.proofs.Restore.{entry_small}
use Rattle.state.proofs.Proper.{Proper, entry-proper, save-proper}
use Rattle.state.proofs.Faults.{save_faults, restore_faults}
use Rattle.program.specs.declared.decode.Rule.{Rule}
use Rattle.program.specs.declared.decode.Rule.TheVariants.{Units, Sp, Fp, Save, Restore, Entry, Frame, FrameRegs}
use Rattle.program.specs.declared.decode.Op.{Op}
use Rattle.program.specs.declared.decode.Op.TheVariants.{End, Advance, Set, Remember, Recall}
use Rattle.program.specs.declared.decode.Form.{Form}
use Rattle.program.specs.declared.decode.Form.TheVariants.{Whole, WithNumber, WithPair, Unknown}
use Rattle.program.specs.Operation.{form_of, completed, Decoding, rest_at, decode}
use Rattle.program.specs.Rule.{with_cfa, frame_regs, follow}
use Rattle.program.specs.Run.{Stand, On, Ends, Refused, max_remember, recall, set, act, run}
use Rattle.program.specs.Faults.{Comes, first, later, NumberAt, single, of_register, of_slot, CutAt, BadNumberAt, FrameBeyond32, Saves33rd, Saves33rdAt, RunFaults, ProgramFaults}
use Rattle.program.proofs.Decoding.{slot_at, decode-byte, decode-limit, rest_number_refused, rest_reg_refused, rest_slot_refused}
use Rattle.program.proofs.Proper.{done, cfa-proper, Stands, Leaves, act_leaves}
use Rattle.program.proofs.Stops.{Stops, unread, undone, stops-run, run-stops}

-- two numbers of a refusal are one
one : {A : Type 0} (k n : ℕ) → ◌≡◌ {A = Outcome A} (Outcome.Refused k) (Outcome.Refused n) → k ≡ n
one k n e = cc

module _ (m : Memory) (limit pos : ℕ) where
  -- why the operation at pos is not read: its byte is not, it is none, or a number of it is not read
  data Unread (n : ℕ) : Type 0 where
    at-limit : 30 ≡ n → limit ≤ pos → Unread n
    nowhere : 27 ≡ n → Unread n
    unknown : 18 ≡ n → Unread n
    no_number_lem : (q : ℕ) → NumberAt m limit pos q → read_number m limit q ≡ Outcome.Refused n → Unread n

  module _ (n code : ℕ) (b : read_byte m limit pos ≡ Answer code) where
    formed : (f : Form) → form_of code ≡ f → rest_at m limit (pos + 1) f ≡ Outcome.Refused n → Unread n
    formed (Whole op) p = λ e. cc
    formed (WithNumber o) p = λ e.
        go (refused_then (read_number m limit (pos + 1)) (λ r. Answer (record { op = completed o r.value; next = r.next })) n e)
      where
        go : (read_number m limit (pos + 1) ≡ Outcome.Refused n)
            ⊎ ((r : Read) × (read_number m limit (pos + 1) ≡ Answer r)
            × (◌≡◌ {A = Outcome Decoding} (Answer (record { op = completed o r.value; next = r.next })) (Outcome.Refused n))) → Unread n
        go (inl q) = no_number_lem (pos + 1) (single code o b p) q
        go (inr (r, q, e)) = cc
    formed WithPair p = λ e. go (refused_then (read_number m limit (pos + 1)) (λ r. slot_at m limit r) n e)
      where
        slot : (r : Read) → read_number m limit (pos + 1) ≡ Answer r → (read_number m limit r.next ≡ Outcome.Refused n)
            ⊎ ((y : Read) × (read_number m limit r.next ≡ Answer y)
            × (◌≡◌ {A = Outcome Decoding} (Answer (record { op = Set (Save r.value y.value); next = y.next })) (Outcome.Refused n))) →
            Unread n
        slot r w (inl q) = no_number_lem r.next (of_slot code r b p w) q
        slot r w (inr (y, q, e)) = cc

        go : (read_number m limit (pos + 1) ≡ Outcome.Refused n)
            ⊎ ((r : Read) × (read_number m limit (pos + 1) ≡ Answer r) × (slot_at m limit r ≡ Outcome.Refused n)) → Unread n
        go (inl q) = no_number_lem (pos + 1) (of_register code b p) q
        go (inr (r, q, e)) =
            slot r q (refused_then (read_number m limit r.next) (λ y. Answer (record { op = Set (Save r.value y.value); next = y.next })) n e)
    formed Unknown p = λ e. unknown (one 18 n e)

  why_unread : (n : ℕ) → decode m limit pos ≡ Outcome.Refused n → Unread n
  unfolding decode
  why_unread n e = go (refused_then (read_byte m limit pos) (λ code. rest_at m limit (pos + 1) (form_of code)) n e)
    where
      byte : ((n ≡ 30) ⊎ (n ≡ 27)) → read_byte m limit pos ≡ Outcome.Refused n → Unread n
      byte (inl p) e = at-limit (sym p) (byte_cut m limit pos (e ∙ ap Outcome.Refused p))
      byte (inr p) e = nowhere (sym p)

      go : (read_byte m limit pos ≡ Outcome.Refused n)
          ⊎ ((code : ℕ) × (read_byte m limit pos ≡ Answer code) × (rest_at m limit (pos + 1) (form_of code) ≡ Outcome.Refused n)) →
          Unread n
      go (inl p) = byte (byte_refused m limit pos n p) p
      go (inr (code, b, e)) = formed n code b (form_of code) refl e

  -- and the other way round: a number of it that is not read
  number_unread : (n q : ℕ) → NumberAt m limit pos q → read_number m limit q ≡ Outcome.Refused n → decode m limit pos ≡ Outcome.Refused n
  number_unread n q (single code o b p) e =
      sym (rest_number_refused m limit (pos + 1) o n (sym e) ∙ decode-byte m limit pos code (WithNumber o) (sym b) (sym p))
  number_unread n q (of_register code b p) e =
      sym (rest_reg_refused m limit (pos + 1) n (sym e) ∙ decode-byte m limit pos code WithPair (sym b) (sym p))
  number_unread n q (of_slot code r b p w) e =
      sym (rest_slot_refused m limit (pos + 1) r.value r.next n (sym w) (sym e) ∙ decode-byte m limit pos code WithPair (sym b) (sym p))

module _ (n : ℕ) where
  abbrev a : Arch
  a = numbers n

  -- fp and the return register fit in a pair
  fp_small : a.fp ≤ 65535
  fp_small = of_both (λ (x : Arch). x.fp ≤ 65535) (lit≤ tt) (lit≤ tt) n

  fits : (reg slot : ℕ) → reg ≤ 65535 → slot ≢ 0 → slot ≤ 65535 → Unfit reg slot → ⊥
  fits reg slot known some low (inl e) = some e
  fits reg slot known some low (inr (inl h)) = omega arith
  fits reg slot known some low (inr (inr h)) = omega arith

  -- why a save is refused in a proper state
  save_why : (st : State) → Proper st → (reg slot k : ℕ) → changed (save st reg slot) ≡ Outcome.Refused k →
      (18 ≡ k) ⊎ ((32 ≡ k) × Saves33rd a (Save reg slot) st)
  save_why st p reg slot k e = go ((save_faults st reg slot).no_other k e)
    where
      f : SaveFaults st reg slot
      f = save_faults st reg slot

      go : (k ≡ 28) ⊎ (k ≡ 18) ⊎ (k ≡ 32) → (18 ≡ k) ⊎ ((32 ≡ k) × Saves33rd a (Save reg slot) st)
      go (inl q) = absurd (omega (arith, f.overfull.0 (e ∙ ap Outcome.Refused q), p.count))
      go (inr (inl q)) = inl (sym q)
      go (inr (inr q)) = inr (sym q, f.too_many.0 (e ∙ ap Outcome.Refused q))

  frame_why : (st : State) → Proper st → (k : ℕ) → frame_regs a st ≡ Outcome.Refused k → (18 ≡ k) ⊎ ((32 ≡ k) × FrameBeyond32 a st)
  unfolding frame_regs
  frame_why st p k = go (changed (save st a.fp 2)) refl
    where
      early : (18 ≡ k) ⊎ ((32 ≡ k) × Saves33rd a (Save a.fp 2) st) → (18 ≡ k) ⊎ ((32 ≡ k) × FrameBeyond32 a st)
      early (inl q) = inl q
      early (inr q) = inr (q.0, inl q.1.0)

      late : (s : State) → save st a.fp 2 ≡ Done s → (18 ≡ k) ⊎ ((32 ≡ k) × Saves33rd a (Save a.ra 1) s) →
          (18 ≡ k) ⊎ ((32 ≡ k) × FrameBeyond32 a st)
      late s d (inl q) = inl q
      late s d (inr q) = inr (q.0, inr (s, d, q.1.0))

      go : (x : Outcome State) → changed (save st a.fp 2) ≡ x → (x >>= λ s. changed (save s a.ra 1)) ≡ Outcome.Refused k →
          (18 ≡ k) ⊎ ((32 ≡ k) × FrameBeyond32 a st)
      go (Outcome.Refused j) q e = early (save_why st p a.fp 2 k (q ∙ ap Outcome.Refused (one j k e)))
      go (Answer s) q e =
          let d = done (save st a.fp 2) s q in
          late s d (save_why s (save-proper st p a.fp 2 s d) a.ra 1 k e)

  -- why a rule is refused in one
  follow_why : (r : Rule) (st : State) → Proper st → (k : ℕ) → follow a r st ≡ Outcome.Refused k → (18 ≡ k) ⊎ ((32 ≡ k) × Saves33rd a r st)
  unfolding follow
  follow_why (Units u) st p k e = cc
  follow_why (Save reg slot) st p k e = save_why st p reg slot k e
  follow_why (Sp u) st p k e = cc
  follow_why (Fp u) st p k e = cc
  follow_why (Restore reg) st p k e = go (f.no_other k e)
    where
      f : RestoreFaults a st reg
      f = restore_faults n st reg

      go : (k ≡ 28) ⊎ (k ≡ 32) → (18 ≡ k) ⊎ ((32 ≡ k) × Saves33rd a (Restore reg) st)
      go (inl q) = absurd (omega (arith, f.overfull.0 (e ∙ ap Outcome.Refused q), p.count))
      go (inr q) = inr (sym q, f.too_many.0 (e ∙ ap Outcome.Refused q))
  follow_why Entry st p k e = cc
  follow_why Frame st p k e = frame_why (with_cfa true 2 st) (cfa-proper true 2 st p) k e
  follow_why FrameRegs st p k e = frame_why st p k e

  -- and the other way round
  frame-saves : (st : State) → FrameBeyond32 a st → frame_regs a st ≡ Outcome.Refused 32
  unfolding frame_regs
  frame-saves st (inl b) = rw ((save_faults st a.fp 2).too_many.1 (b, fits a.fp 2 fp_small (λ e. omega arith) (lit≤ tt)))
  frame-saves st (inr (s, d, b)) =
      rw (ap changed d) ((save_faults s a.ra 1).too_many.1 (b, fits a.ra 1 (entry_small n).0 (λ e. omega arith) (lit≤ tt)))

  follow-saves : (r : Rule) (st : State) → Saves33rd a r st → follow a r st ≡ Outcome.Refused 32
  unfolding follow
  follow-saves (Units u) st b = absurd b
  follow-saves (Save reg slot) st b = (save_faults st reg slot).too_many.1 b
  follow-saves (Sp u) st b = absurd b
  follow-saves (Fp u) st b = absurd b
  follow-saves (Restore reg) st b = (restore_faults n st reg).too_many.1 b
  follow-saves Entry st b = absurd b
  follow-saves Frame st b = frame-saves (with_cfa true 2 st) b
  follow-saves FrameRegs st b = frame-saves st b

  -- why an operation that is read is not carried out: 10, 18, or 32 for a 33rd register
  abbrev Undone : Op → Stand → ℕ → Type 0
  Undone op s k = (10 ≡ k) ⊎ (18 ≡ k) ⊎ ((32 ≡ k) × (r : Rule) × (op ≡ Set r) × Saves33rd a r s.state)

  why_undone : (off next : ℕ) (op : Op) (s : Stand) → Stands s → (k : ℕ) → act a off next op s ≡ Refused k → Undone op s k
  unfolding act
  why_undone off next End s p k = λ e. cc
  why_undone off next (Advance u) s p k = go (ltb (2 ^ 64 - 1) to) (ltb off to)
    where
      to : ℕ
      to = s.at + u * a.unit

      go : (t v : Bool) →
          (if t then Refused BadEkoRecord
          else if v then Ends (record { state = s.state; after = 0 })
          else On (record { state = s.state; remembered = s.remembered; at = to }))
          ≡ Refused k →
          Undone (Advance u) s k
      go true v e = inr (inl cc)
      go false true e = cc
      go false false e = cc
  why_undone off next (Set r) s p k = go (follow a r s.state) refl
    where
      of : (18 ≡ k) ⊎ ((32 ≡ k) × Saves33rd a r s.state) → Undone (Set r) s k
      of (inl q) = inr (inl q)
      of (inr q) = inr (inr (q.0, r, refl, q.1))

      go : (o : Outcome State) → follow a r s.state ≡ o → set s o ≡ Refused k → Undone (Set r) s k
      go (Outcome.Refused j) q e =
          let same : j ≡ k = cc in
          of (follow_why r s.state p.state k (q ∙ ap Outcome.Refused same))
      go (Answer st) q e = cc
  why_undone off next Remember s p k = go (eqb (length s.remembered) max_remember)
    where
      go : (t : Bool) →
          (if t then Refused RememberStackOverflow
          else On (record { state = s.state; remembered = s.state ∷ s.remembered; at = s.at }))
          ≡ Refused k →
          Undone Remember s k
      go true e = inl cc
      go false e = cc
  why_undone off next Recall s p k = go s.remembered
    where
      go : (l : List State) → recall l s ≡ Refused k → Undone Recall s k
      go [] e = inr (inl cc)
      go (st ∷ sts) e = cc

  act-saves : (off next : ℕ) (r : Rule) (s : Stand) → Saves33rd a r s.state → act a off next (Set r) s ≡ Refused 32
  unfolding act
  act-saves off next r s b = rw (follow-saves r s.state b)

  module _ (m : Memory) (holds : Bytes m) (program limit off : ℕ) (some : program ≢ 0) where
    -- where a run stands its states are proper
    stands : (pos : ℕ) (s : Stand) → Comes m a program limit off pos s → Stands s
    stands pos s first = record { state = entry-proper a; remembered = tt }
    stands pos s (later from s₀ c d e s' t) = subst Leaves t (act_leaves a off d.next d.op s₀ (stands from s₀ c))

    faults : (q : ℕ) → NumberFaults m limit q
    faults q = number_faults m limit q holds

    cut_at : (pos : ℕ) → Unread m limit pos 30 → CutAt m limit pos
    cut_at pos (at-limit e h) = inl h
    cut_at pos (nowhere e) = absurd (omega arith)
    cut_at pos (unknown e) = absurd (omega arith)
    cut_at pos (no_number_lem q at e) = inr (q, at, (faults q).truncated.0 e)

    at_cut : (pos : ℕ) → CutAt m limit pos → decode m limit pos ≡ Outcome.Refused 30
    at_cut pos (inl h) = decode-limit m limit pos h
    at_cut pos (inr (q, at, c)) = number_unread m limit pos 30 q at ((faults q).truncated.1 c)

    bad_at : (pos : ℕ) → Unread m limit pos 31 → BadNumberAt m limit pos
    bad_at pos (at-limit e h) = absurd (omega arith)
    bad_at pos (nowhere e) = absurd (omega arith)
    bad_at pos (unknown e) = absurd (omega arith)
    bad_at pos (no_number_lem q at e) = (q, at, (faults q).bad_uleb.0 e)

    -- 32 is never the number of one that is not read
    read_at : (pos : ℕ) → Unread m limit pos 32 → ⊥
    read_at pos (at-limit e h) = omega arith
    read_at pos (nowhere e) = omega arith
    read_at pos (unknown e) = omega arith
    read_at pos (no_number_lem q at e) = go ((faults q).no_other 32 e)
      where
        go : (◌≡◌ {A = ℕ} 32 30) ⊎ (◌≡◌ {A = ℕ} 32 31) ⊎ (◌≡◌ {A = ℕ} 32 27) → ⊥
        go (inl p) = omega arith
        go (inr (inl p)) = omega arith
        go (inr (inr p)) = omega arith

    -- 30 and 31 are never the number of one that is read
    carried_out : (op : Op) (s : Stand) (k : ℕ) → (32 ≡ k → ⊥) → (18 ≡ k → ⊥) → (10 ≡ k → ⊥) → Undone op s k → ⊥
    carried_out op s k x y z (inl q) = z q
    carried_out op s k x y z (inr (inl q)) = y q
    carried_out op s k x y z (inr (inr q)) = x q.0

    truncated-at : (pos : ℕ) (s : Stand) → Comes m a program limit off pos s → Stops m a limit off pos s 30 → CutAt m limit pos
    truncated-at pos s c (unread e) = cut_at pos (why_unread m limit pos 30 e)
    truncated-at pos s c (undone d e t) =
        absurd (carried_out d.op s 30 (λ q. omega arith) (λ q. omega arith) (λ q. omega arith)
        (why_undone off d.next d.op s (stands pos s c) 30 t))

    bad_uleb_at : (pos : ℕ) (s : Stand) → Comes m a program limit off pos s → Stops m a limit off pos s 31 → BadNumberAt m limit pos
    bad_uleb_at pos s c (unread e) = bad_at pos (why_unread m limit pos 31 e)
    bad_uleb_at pos s c (undone d e t) =
        absurd (carried_out d.op s 31 (λ q. omega arith) (λ q. omega arith) (λ q. omega arith)
        (why_undone off d.next d.op s (stands pos s c) 31 t))

    too_many_at : (pos : ℕ) (s : Stand) → Comes m a program limit off pos s → Stops m a limit off pos s 32 →
        Saves33rdAt m a limit pos s.state
    too_many_at pos s c (unread e) = absurd (read_at pos (why_unread m limit pos 32 e))
    too_many_at pos s c (undone d e t) = go (why_undone off d.next d.op s (stands pos s c) 32 t)
      where
        go : Undone d.op s 32 → Saves33rdAt m a limit pos s.state
        go (inl q) = absurd (omega arith)
        go (inr (inl q)) = absurd (omega arith)
        go (inr (inr (q, r, p, b))) = (r, d.next, e ∙ ap (λ (op : Op). Answer (record { op = op; next = d.next })) p, b)

    at_33rd : (pos : ℕ) (s : Stand) → Saves33rdAt m a limit pos s.state → Stops m a limit off pos s 32
    at_33rd pos s (r, next, e, b) = undone (record { op = Set r; next = next }) e (act-saves off next r s b)

    -- a run is refused with a number exactly where it comes to an operation of a kind
    exactly : (k : ℕ) (P : ℕ → Stand → Type 0) →
        ((pos : ℕ) (s : Stand) → Comes m a program limit off pos s → Stops m a limit off pos s k → P pos s) →
        ((pos : ℕ) (s : Stand) → P pos s → Stops m a limit off pos s k) →
        (run m a program limit off ≡ Outcome.Refused k) ↔ ((pos : ℕ) × (s : Stand) × Comes m a program limit off pos s × P pos s)
    exactly k P to from = (
      λ e. (let r = run-stops m a program limit off some k e in (r.0, r.1, r.2, to r.0 r.1 r.2 r.3)),
      λ x. stops-run m a program limit off some x.0 x.1 x.2 k (from x.0 x.1 x.3),
    )

    faults_of_run : RunFaults m a program limit off
    faults_of_run =
        record {
          truncated = exactly 30 (λ pos s. CutAt m limit pos) truncated-at (λ pos s x. unread (at_cut pos x));
          bad_uleb =
              exactly 31 (λ pos s. BadNumberAt m limit pos) bad_uleb_at
              (λ pos s x. unread (number_unread m limit pos 31 x.0 x.1 ((faults x.0).bad_uleb.1 x.2)));
          too_many = exactly 32 (λ pos s. Saves33rdAt m a limit pos s.state) too_many_at at_33rd;
        }

pub run_faults : ProgramFaults
run_faults = λ m holds n program limit off some. faults_of_run n m holds program limit off some
