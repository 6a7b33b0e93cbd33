-- Laws of a run at two offsets: what differs is only where it ends. Assumes nothing.
use Rattle.std.specs.Prelude.{if◌then◌else◌}
use mathlib.Core.Path.{◌≡◌, refl, sym, ◌∙◌}
use mathlib.Core.Bool.{Bool, true, false}
use mathlib.Core.List.{List, [], ◌∷◌}
use mathlib.Core.Logic.{◌⊎◌, inl, inr}
use Prim.Native.Nat.{ℕ, zero, suc, ◌+◌, ◌-◌, ◌*◌, ◌^◌, ◌≤◌, ◌<◌}
use native.Mathlib.Omega.{arith}
use lib.Dec.{eqb, ltb, lit≤}
use lib.ListN.{length}
use borrow.Author.Tests.{lt-ltb, le-ltb, ltb-true, ltb-false}
use Rattle.failure.specs.Outcome.{Outcome, Answer, ◌>>=◌}
use Rattle.failure.specs.Failure.{BadEkoRecord, RememberStackOverflow}
use Rattle.mem.specs.Memory.{Memory}
use Rattle.arch.specs.Arch.{Arch}
use Rattle.state.specs.declared.State.{State}
use Rattle.program.specs.declared.decode.Op.{Op}
use Rattle.program.specs.declared.decode.Op.TheVariants.{End, Advance, Set, Remember, Recall}
use Rattle.program.specs.Operation.{Decoding, decode}
use Rattle.program.specs.Rule.{follow}
use Rattle.program.specs.Run.{Stand, Ran, Turn, On, Ends, Refused, max_remember, advance, recall, set, act, turned, run_from, begin, run}

-- the run answers
pub record Answered (o : Outcome Ran) : Type 0 where
  pub ran : Ran
  pub is : o ≡ Answer ran

-- where a run stops before the program's END
abbrev pub stopped : Stand → Ran
stopped s = record { state = s.state; after = 0 }

-- at a lower offset an advance comes to the same, or the run ends before it
advance_offsets : (lo hi to : ℕ) (s : Stand) → lo ≤ hi → (advance lo to s ≡ advance hi to s) ⊎ (advance lo to s ≡ Ends (stopped s))
advance_offsets lo hi to s h = over (ltb (2 ^ 64 - 1) to) refl
  where
    low : ltb (2 ^ 64 - 1) to ≡ false → (t : Bool) → ltb lo to ≡ t →
        (advance lo to s ≡ advance hi to s) ⊎ (advance lo to s ≡ Ends (stopped s))
    low o true p = inr (rw (o, p))
    low o false p = inl (rw (o, p, le-ltb hi to (omega (arith, ltb-false lo to p))))

    over : (t : Bool) → ltb (2 ^ 64 - 1) to ≡ t → (advance lo to s ≡ advance hi to s) ⊎ (advance lo to s ≡ Ends (stopped s))
    over true o = inl (rw o)
    over false o = low o (ltb lo to) refl

-- so does every operation
act_offsets :
    (a : Arch) (lo hi next : ℕ) (op : Op) (s : Stand) → lo ≤ hi →
    (act a lo next op s ≡ act a hi next op s) ⊎ (act a lo next op s ≡ Ends (stopped s))
unfolding act
act_offsets a lo hi next End s h = inl refl
act_offsets a lo hi next (Advance n) s h = advance_offsets lo hi (s.at + n * a.unit) s h
act_offsets a lo hi next (Set r) s h = inl refl
act_offsets a lo hi next Remember s h = inl refl
act_offsets a lo hi next Recall s h = inl refl

-- what an operation comes to at an offset not passed yet, where it is known at a higher one
abbrev pub Lower : ℕ → Turn → Turn → Type 0
Lower lo (On s) t = (s.at ≤ lo → t ≡ On s) × (lo < s.at → t ≡ Ends (stopped s))
Lower lo (Ends r) t = t ≡ Ends r
Lower lo (Refused n) t = t ≡ Refused n

pub act_lower :
    (a : Arch) (lo hi next : ℕ) (op : Op) (s : Stand) → lo ≤ hi → s.at ≤ lo → Lower lo (act a hi next op s) (act a lo next op s)
unfolding act
act_lower a lo hi next End s h l = refl
act_lower a lo hi next (Advance n) s h l = over (ltb (2 ^ 64 - 1) to) refl
  where
    to : ℕ
    to = s.at + n * a.unit

    moved : Stand
    moved = record { state = s.state; remembered = s.remembered; at = to }

    choice : Bool → Bool → Turn
    choice x y = if x then Refused BadEkoRecord else if y then Ends (stopped s) else On moved

    past : (y : Bool) → ltb hi to ≡ y → Lower lo (choice false y) (choice false (ltb lo to))
    past true p = rw (lt-ltb lo to (omega (arith, ltb-true hi to p)))
    past false p = (λ q. rw (le-ltb lo to q), λ q. rw (lt-ltb lo to q))

    over : (x : Bool) → ltb (2 ^ 64 - 1) to ≡ x → Lower lo (choice (ltb (2 ^ 64 - 1) to) (ltb hi to)) (choice (ltb (2 ^ 64 - 1) to) (ltb lo to))
    over true p = rw p
    over false p = rw p (past (ltb hi to) refl)
act_lower a lo hi next (Set r) s h l = go (follow a r s.state)
  where
    go : (o : Outcome State) → Lower lo (set s o) (set s o)
    go (Outcome.Refused n) = refl
    go (Answer st) = (λ q. refl, λ q. absurd (omega arith))
act_lower a lo hi next Remember s h l = go (eqb (length s.remembered) max_remember)
  where
    kept : Stand
    kept = record { state = s.state; remembered = s.state ∷ s.remembered; at = s.at }

    go : (x : Bool) → Lower lo (if x then Refused RememberStackOverflow else On kept) (if x then Refused RememberStackOverflow else On kept)
    go true = refl
    go false = (λ q. refl, λ q. absurd (omega arith))
act_lower a lo hi next Recall s h l = go s.remembered
  where
    go : (x : List State) → Lower lo (recall x s) (recall x s)
    go [] = refl
    go (st ∷ sts) = (λ q. refl, λ q. absurd (omega arith))

-- a run that goes on is not past its offset
abbrev pub Within : ℕ → Turn → Type 0
Within off (On s) = s.at ≤ off
Within off (Ends r) = Unit
Within off (Refused n) = Unit

pub act-within : (a : Arch) (off next : ℕ) (op : Op) (s : Stand) → s.at ≤ off → Within off (act a off next op s)
unfolding act
act-within a off next End s l = tt
act-within a off next (Advance n) s l = go (ltb (2 ^ 64 - 1) to) (ltb off to) refl
  where
    to : ℕ
    to = s.at + n * a.unit

    go : (x y : Bool) → ltb off to ≡ y →
        Within off
        (if x then Refused BadEkoRecord
        else if y then Ends (stopped s)
        else On (record { state = s.state; remembered = s.remembered; at = to }))
    go true y p = tt
    go false true p = tt
    go false false p = ltb-false off to p
act-within a off next (Set r) s l = go (follow a r s.state)
  where
    go : (o : Outcome State) → Within off (set s o)
    go (Outcome.Refused n) = tt
    go (Answer st) = l
act-within a off next Remember s l = go (eqb (length s.remembered) max_remember)
  where
    go : (x : Bool) →
        Within off (if x then Refused RememberStackOverflow else On (record { state = s.state; remembered = s.state ∷ s.remembered; at = s.at }))
    go true = tt
    go false = l
act-within a off next Recall s l = go s.remembered
  where
    go : (x : List State) → Within off (recall x s)
    go [] = tt
    go (st ∷ sts) = l

module _ (m : Memory) (a : Arch) (limit lo hi : ℕ) (below : lo ≤ hi) where
  lower_from : (left pos : ℕ) (s : Stand) → Answered (run_from left m a limit hi pos s) → Answered (run_from left m a limit lo pos s)
  lower_from zero pos s = λ r. r
  lower_from (suc left) pos s = opened (decode m limit pos) (λ p s' r. lower_from left p s' r)
    where
      on : (next : ℕ) → ((s' : Stand) → Answered (run_from left m a limit hi next s') → Answered (run_from left m a limit lo next s')) →
          (t : Turn) → Answered (turned t (λ s'. run_from left m a limit hi next s')) →
          Answered (turned t (λ s'. run_from left m a limit lo next s'))
      on next f (On s') r = f s' r
      on next f (Ends e) r = r
      on next f (Refused n) r = r

      either : (d : Decoding) →
          ((s' : Stand) → Answered (run_from left m a limit hi d.next s') → Answered (run_from left m a limit lo d.next s')) →
          (t t' : Turn) → (t' ≡ t) ⊎ (t' ≡ Ends (stopped s)) →
          Answered (turned t (λ s'. run_from left m a limit hi d.next s')) →
          Answered (turned t' (λ s'. run_from left m a limit lo d.next s'))
      either d f t t' (inl e) r = rw e (on d.next f t r)
      either d f t t' (inr e) r = rw e (record { ran = stopped s; is = refl })

      opened : (o : Outcome Decoding) →
          ((p : ℕ) (s' : Stand) → Answered (run_from left m a limit hi p s') → Answered (run_from left m a limit lo p s')) →
          Answered (o >>= λ d. turned (act a hi d.next d.op s) (λ s'. run_from left m a limit hi d.next s')) →
          Answered (o >>= λ d. turned (act a lo d.next d.op s) (λ s'. run_from left m a limit lo d.next s'))
      opened (Outcome.Refused n) f r = record { ran = r.ran; is = r.is }
      opened (Answer d) f r =
          either d (f d.next) (act a hi d.next d.op s) (act a lo d.next d.op s)
          (act_offsets a lo hi d.next d.op s below) r

  -- a run not refused at an offset is not refused at any lower one
  pub lower : (program : ℕ) → Answered (run m a program limit hi) → Answered (run m a program limit lo)
  unfolding run
  lower program = go (eqb program 0) refl
    where
      go : (t : Bool) → eqb program 0 ≡ t → Answered (run m a program limit hi) → Answered (run m a program limit lo)
      go true e = λ r. rw e (rw e at r)
      go false e = λ r. rw e (lower_from (limit - program) program (begin a) (rw e at r))

  higher_from :
      (left pos : ℕ) (s : Stand) (r : Ran) → (r.after ≡ 0 → ⊥) → run_from left m a limit lo pos s ≡ Answer r →
      run_from left m a limit hi pos s ≡ Answer r
  higher_from zero pos s r whole = λ e. e
  higher_from (suc left) pos s r whole = opened (decode m limit pos) (λ p s' e. higher_from left p s' r whole e)
    where
      on : (next : ℕ) →
          ((s' : Stand) → run_from left m a limit lo next s' ≡ Answer r → run_from left m a limit hi next s' ≡ Answer r) →
          (t : Turn) → turned t (λ s'. run_from left m a limit lo next s') ≡ Answer r →
          turned t (λ s'. run_from left m a limit hi next s') ≡ Answer r
      on next f (On s') e = f s' e
      on next f (Ends x) e = e
      on next f (Refused n) e = e

      either : (d : Decoding) →
          ((s' : Stand) → run_from left m a limit lo d.next s' ≡ Answer r → run_from left m a limit hi d.next s' ≡ Answer r) →
          (t t' : Turn) → (t ≡ t') ⊎ (t ≡ Ends (stopped s)) →
          turned t (λ s'. run_from left m a limit lo d.next s') ≡ Answer r →
          turned t' (λ s'. run_from left m a limit hi d.next s') ≡ Answer r
      either d f t t' (inl p) e = on d.next f t' (rw p at e)
      either d f t t' (inr p) e =
          let q : Answer (stopped s) ≡ Answer r = rw p at e in
          let cut : r.after ≡ 0 = cc in
          absurd (whole cut)

      opened : (o : Outcome Decoding) →
          ((p : ℕ) (s' : Stand) → run_from left m a limit lo p s' ≡ Answer r → run_from left m a limit hi p s' ≡ Answer r) →
          (o >>= λ d. turned (act a lo d.next d.op s) (λ s'. run_from left m a limit lo d.next s')) ≡ Answer r →
          (o >>= λ d. turned (act a hi d.next d.op s) (λ s'. run_from left m a limit hi d.next s')) ≡ Answer r
      opened (Outcome.Refused n) f e = e
      opened (Answer d) f e =
          either d (f d.next) (act a lo d.next d.op s) (act a hi d.next d.op s)
          (act_offsets a lo hi d.next d.op s below) e

  -- a run that reads to END at an offset, and so has an after-address, is the same at every higher one
  pub higher :
      (program : ℕ) (r : Ran) → (r.after ≡ 0 → ⊥) → run m a program limit lo ≡ Answer r → run m a program limit hi ≡ Answer r
  unfolding run
  higher program r whole = go (eqb program 0) refl
    where
      go : (t : Bool) → eqb program 0 ≡ t → run m a program limit lo ≡ Answer r → run m a program limit hi ≡ Answer r
      go true p = λ e. rw p (rw p at e)
      go false p = λ e. rw p (higher_from (limit - program) program (begin a) r whole (rw p at e))

-- the run at 2^32 - 1 that reads to END is the run at 2^64 - 1
pub whole_at_32_bits :
    (m : Memory) (a : Arch) (program limit : ℕ) (r : Ran) → (r.after ≡ 0 → ⊥) → run m a program limit (2 ^ 32 - 1) ≡ Answer r →
    run m a program limit (2 ^ 32 - 1) ≡ run m a program limit (2 ^ 64 - 1)
whole_at_32_bits m a program limit r whole e =
    e ∙ sym (higher m a limit (2 ^ 32 - 1) (2 ^ 64 - 1) (lit≤ tt) program r whole e)

-- a program that reads to END at an offset is refused at none
pub whole_never_refused :
    (m : Memory) (a : Arch) (program limit off off' : ℕ) (r : Ran) → (r.after ≡ 0 → ⊥) → run m a program limit off ≡ Answer r →
    Answered (run m a program limit off')
whole_never_refused m a program limit off off' r whole e = go (ltb off off') refl
  where
    go : (t : Bool) → ltb off off' ≡ t → Answered (run m a program limit off')
    go true p =
        let below : off ≤ off' = omega (arith, ltb-true off off' p) in
        record { ran = r; is = higher m a limit off off' below program r whole e }
    go false p = lower m a limit off' off (ltb-false off off' p) program (record { ran = r; is = e })
