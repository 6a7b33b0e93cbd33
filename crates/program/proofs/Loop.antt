-- A run seen from where its loop stands. Assumes nothing.
use mathlib.Core.Path.{◌≡◌, refl, sym, ◌∙◌, ap, subst}
use mathlib.Core.Bool.{Bool, true, false}
use mathlib.Core.List.{List, [], ◌∷◌}
use Prim.Native.Nat.{ℕ, zero, suc, ◌+◌, ◌-◌, ◌*◌, ◌^◌, ◌≤◌, ◌<◌}
use native.Mathlib.Nat.{mul-le-mul_left}
use native.Mathlib.Omega.{arith}
use lib.Dec.{ltb, lit≤}
use lib.ListN.{length, get_or}
use lib.ListN as ListN
use lib.Seq.{get_or-set_same, get_or-set_other}
use borrow.Author.Tests.{lt-ltb, le-ltb, eq-eqb, ne_eqb, ltb-true, ltb-false}
use Rattle.std.proofs.Common.{Result, Option, Some, None, is_some}
use Rattle.std.specs.Result.{IsErrAnd}
use Rattle.failure.specs.Outcome.{Outcome, Answer, outcome}
use Rattle.failure.specs.Failure.{number}
use Rattle.failure.specs.declared.Failure.{Failure}
use Rattle.failure.proofs.Outcome.{exit}
use Rattle.failure.specs.Failure.{BadEkoRecord, RememberStackOverflow, EkoTruncated}
use Rattle.mem.specs.Memory.{Memory}
use Rattle.arch.specs.Arch.{Arch, numbers}
use Rattle.arch.proofs.Arch.{of_both}
use Rattle.state.specs.declared.State.{State}
use Rattle.state.specs.State.{entry}
use Rattle.program.specs.declared.decode.Op.{Op}
use Rattle.program.specs.declared.decode.Op.TheVariants.{End, Advance, Set, Remember, Recall}
use Rattle.program.specs.declared.decode.Rule.{Rule}
use Rattle.program.specs.declared.Step.{Step}
use Rattle.program.specs.declared.Step.TheVariants as step
use Rattle.program.specs.Operation.{Decoding, decode}
use Rattle.program.specs.Rule.{follow}
use Rattle.program.specs.Run.{Stand, Ran, Turn, On, Ends, Refused, advance, remember, recall, set, act, turned, run_from, begin, run, max_remember}
use Rattle.program.specs.Answers.{turn, stepped, Room, finished, stopped, ended, through}
use Rattle.program.proofs.Decoding.{decode-limit, decode-moves}
use Rattle.program.proofs.Offsets.{Lower, act_lower, Within, act-within}

-- what an array of states holds past its end
abbrev pub nothing : State
nothing = record { cfa_fp = false; cfa_units = 0; count = 0; regs = []; slots = [] }

-- the first of an array's states, the last one first
abbrev pub kept : ℕ → List State → List State
kept zero states = []
kept (suc n) states = get_or states n nothing ∷ kept n states

pub kept-length : (n : ℕ) (states : List State) → length (kept n states) ≡ n
kept-length zero states = refl
kept-length (suc n) states = ap suc (kept-length n states)

-- one more
pub kept_more :
    (n : ℕ) (states : List State) (st : State) → n < length states → kept (n + 1) (ListN.set states n st) ≡ st ∷ kept n states
kept_more n states st h =
    let one : n + 1 ≡ suc n = omega arith in
    rw one (rw (get_or-set_same states n st nothing h, others n (omega arith)))
  where
    others : (k : ℕ) → k ≤ n → kept k (ListN.set states n st) ≡ kept k states
    others zero l = refl
    others (suc k) l =
        let differs : k ≡ n → ⊥ = λ e. omega arith in
        rw (get_or-set_other states n k st nothing differs, others k (omega arith))

-- one less
pub kept_less :
    (n : ℕ) (states : List State) → (n ≡ 0 → ⊥) → kept n states ≡ get_or states (n - 1) nothing ∷ kept (n - 1) states
kept_less zero states h = absurd (h refl)
kept_less (suc n) states h =
    let one : suc n - 1 ≡ n = omega arith in
    rw one

-- where the loop stands
abbrev pub stand_at : State → List State → ℕ → ℕ → Stand
stand_at st states depth at = record { state = st; remembered = kept depth states; at = at }

-- the run is what is left of it from where the loop stands
pub record Sofar (m : Memory) (a : Arch) (program limit off : ℕ) (st : State) (states : List State) (depth at pos : ℕ) : Type 0 where
  pub left : ℕ
  pub enough : limit ≤ left + pos
  pub deep : depth ≤ max_remember
  pub room : length states ≡ max_remember
  pub within : at ≤ off
  pub past : program ≤ pos
  pub same : run m a program limit off ≡ run_from left m a limit off pos (stand_at st states depth at)

module _ (m : Memory) (a : Arch) (program limit off : ℕ) where
  pub started : (program ≡ 0 → ⊥) → run m a program limit off ≡ run_from (limit - program) m a limit off program (begin a)
  unfolding run
  started some = simp (ne_eqb program 0 some)

  pub sofar_begin :
      (st : State) (states : List State) → st ≡ entry a → length states ≡ max_remember → (program ≡ 0 → ⊥) →
      Sofar m a program limit off st states 0 0 program
  sofar_begin st states e room some =
      record {
        left = limit - program;
        enough = omega arith;
        deep = omega arith;
        room = room;
        within = omega arith;
        past = omega arith;
        same = started some ∙ ap (λ (s : State). run_from (limit - program) m a limit off program (stand_at s states 0 0)) (sym e);
      }

  pub run_0 : (st : State) → st ≡ entry a → program ≡ 0 → Answer (record { state = st; after = 0 }) ≡ run m a program limit off
  unfolding run
  run_0 st e z = simp (eq-eqb program 0 z) (rw e)

  -- one operation of what is left
  pub record Opened (pos next : ℕ) (op : Op) (left : ℕ) (s : Stand) : Type 0 where
    pub after : ℕ
    pub enough : limit ≤ after + next
    pub same :
        run_from left m a limit off pos s ≡ turned (act a off next op s) (λ s'. run_from after m a limit off next s')

  pub open_op :
      (pos next : ℕ) (op : Op) (left : ℕ) (s : Stand) → limit ≤ left + pos →
      Answer (record { op = op; next = next }) ≡ decode m limit pos → Opened pos next op left s
  open_op pos next op zero s h e = absurd (omega (arith, (decode-moves m limit pos (record { op = op; next = next }) (sym e)).0))
  open_op pos next op (suc k) s h e =
      record {
        after = k;
        enough = omega (arith, (decode-moves m limit pos (record { op = op; next = next }) (sym e)).1);
        same = rw (sym e);
      }

  module _ (st : State) (states : List State) (depth at pos : ℕ) (s : Sofar m a program limit off st states depth at pos) where
    -- no operation is read
    pub sofar_undecoded : (n : ℕ) → Outcome.Refused n ≡ decode m limit pos → run m a program limit off ≡ Outcome.Refused n
    sofar_undecoded n e = s.same ∙ go s.left s.enough
      where
        go : (left : ℕ) → limit ≤ left + pos → run_from left m a limit off pos (stand_at st states depth at) ≡ Outcome.Refused n
        go zero h =
            let cut : ◌≡◌ {A = Outcome Decoding} (Outcome.Refused n) (Outcome.Refused EkoTruncated) =
            e ∙ decode-limit m limit pos (omega arith) in
            let same : EkoTruncated ≡ n = cc in
            ap Outcome.Refused same
        go (suc k) h = rw (sym e)

    -- the operation op, with the address after it
    module _ (next : ℕ) (op : Op) (e : Answer (record { op = op; next = next }) ≡ decode m limit pos) where
      opened : Opened pos next op s.left (stand_at st states depth at)
      opened = open_op pos next op s.left (stand_at st states depth at) s.enough e

      pub sofar_ends : (r : Ran) → act a off next op (stand_at st states depth at) ≡ Ends r → run m a program limit off ≡ Answer r
      sofar_ends r t =
          s.same ∙ opened.same ∙ ap (λ (x : Turn). turned x (λ s'. run_from opened.after m a limit off next s')) t

      pub sofar_refused :
          (n : ℕ) → act a off next op (stand_at st states depth at) ≡ Refused n → run m a program limit off ≡ Outcome.Refused n
      sofar_refused n t =
          s.same ∙ opened.same ∙ ap (λ (x : Turn). turned x (λ s'. run_from opened.after m a limit off next s')) t

      pub sofar_on :
          (st' : State) (states' : List State) (depth' at' : ℕ) →
          act a off next op (stand_at st states depth at) ≡ On (stand_at st' states' depth' at') →
          depth' ≤ max_remember → length states' ≡ max_remember → at' ≤ off →
          Sofar m a program limit off st' states' depth' at' next
      sofar_on st' states' depth' at' t deep room within =
          record {
            left = opened.after;
            enough = opened.enough;
            deep = deep;
            room = room;
            within = within;
            past = omega (arith, s.past, (decode-moves m limit pos (record { op = op; next = next }) (sym e)).1);
            same = s.same ∙ opened.same ∙ ap (λ (x : Turn). turned x (λ s'. run_from opened.after m a limit off next s')) t;
          }

      pub sofar_less : limit - next < limit - pos
      sofar_less =
          let moves = decode-moves m limit pos (record { op = op; next = next }) (sym e) in
          omega (arith, moves.0, moves.1)

-- what each operation comes to
module _ (a : Arch) (off next : ℕ) (s : Stand) where
  -- the operation that was found is the one that was given
  pub act-found : (op found : Op) (t : Turn) → op ≡ found → t ≡ act a off next found s → t ≡ act a off next op s
  act-found op found t e p = p ∙ sym (ap (λ (o : Op). act a off next o s) e)

  pub act-end : Ends (record { state = s.state; after = next }) ≡ act a off next End s
  unfolding act
  act-end = refl

  pub act-advance : (n : ℕ) → advance off (s.at + n * a.unit) s ≡ act a off next (Advance n) s
  unfolding act
  act-advance n = refl

  -- a rule set
  pub act-set :
      (r : Rule) (st : State) → Answer st ≡ follow a r s.state →
      On (record { state = st; remembered = s.remembered; at = s.at }) ≡ act a off next (Set r) s
  unfolding act
  act-set r st e = ap (set s) e

  pub act_set_refused : (r : Rule) (n : ℕ) → Outcome.Refused n ≡ follow a r s.state → Refused n ≡ act a off next (Set r) s
  unfolding act
  act_set_refused r n e = ap (set s) e

  -- a state remembered, and one recalled
  pub act-remember : remember s ≡ act a off next Remember s
  unfolding act
  act-remember = refl

  pub act-recall : recall s.remembered s ≡ act a off next Recall s
  unfolding act
  act-recall = refl

-- an advance by so many bytes
module _ (off : ℕ) (s : Stand) (by to : ℕ) (e : by ≡ to) (low : s.at < 2 ^ 64) where
  pub advance_overflow : 2 ^ 64 - 1 - s.at < by → Refused BadEkoRecord ≡ advance off (s.at + to) s
  advance_overflow h = rw (sym e) (simp (lt-ltb (2 ^ 64 - 1) (s.at + by) (omega arith)))

  module _ (fits : by ≤ 2 ^ 64 - 1 - s.at) where
    pub advance-past : off < s.at + by → Ends (record { state = s.state; after = 0 }) ≡ advance off (s.at + to) s
    advance-past h = rw (sym e) (simp (le-ltb (2 ^ 64 - 1) (s.at + by) (omega arith), lt-ltb off (s.at + by) h))

    pub advance-on :
        s.at + by ≤ off → On (record { state = s.state; remembered = s.remembered; at = s.at + by }) ≡ advance off (s.at + to) s
    advance-on h = rw (sym e) (simp (le-ltb (2 ^ 64 - 1) (s.at + by) (omega arith), le-ltb off (s.at + by) h))

-- a state remembered, unless there are four
pub remember_full : (s : Stand) → length s.remembered ≡ max_remember → Refused RememberStackOverflow ≡ remember s
remember_full s e = simp (eq-eqb (length s.remembered) max_remember e)

pub remember-on :
    (s : Stand) → (length s.remembered ≡ max_remember → ⊥) →
    On (record { state = s.state; remembered = s.state ∷ s.remembered; at = s.at }) ≡ remember s
remember-on s e = simp (ne_eqb (length s.remembered) max_remember e)

-- no state to recall
pub recall_none : (s : Stand) (l : List State) → length l ≡ 0 → Refused BadEkoRecord ≡ recall l s
recall_none s [] e = refl
recall_none s (st ∷ l) e = absurd (omega arith)

-- the exit of a `?` refuses the turn
pub turn_exit : {A : Type 0} (r : Result A Failure) (k : A → Turn) (f : Failure) → IsErrAnd r (λ e. e ≡ f) →
    turn (outcome r) k ≡ Refused (number f)
turn_exit r k f e = ap (λ o. turn o k) (exit r f e)

-- what an operation leaves to the loop, where the loop stands
pub stepped-found :
    (s found : Step) (st : State) (states : List State) (at : ℕ) (t : Turn) →
    s ≡ found → stepped s st states at ≡ t → t ≡ stepped found st states at
stepped-found s found st states at t e p = sym p ∙ ap (λ (x : Step). stepped x st states at) e

pub room-found : (s found : Step) (depth : ℕ) → s ≡ found → Room s depth → Room found depth
room-found s found depth e r = subst (λ (x : Step). Room x depth) e r

module _ (st : State) (states : List State) (depth at : ℕ) where
  pub step-remember :
      depth < max_remember → length states ≡ max_remember → stepped step.Remember st (kept depth states) at ≡ On (stand_at st (ListN.set states depth st) (depth + 1) at)
  step-remember h room =
      ap (λ (l : List State). On (record { state = st; remembered = l; at = at })) (sym (kept_more depth states st (omega arith)))

  pub step-recall :
      (depth ≡ 0 → ⊥) → (last : State) → last ≡ get_or states (depth - 1) nothing →
      stepped step.Recall st (kept depth states) at ≡ On (stand_at last states (depth - 1) at)
  step-recall e last same = rw (kept_less depth states e, same)

-- a state with another's pairs
pub put_state :
    (st : State) (regs slots : List ℕ) → regs ≡ st.regs → slots ≡ st.slots →
    record { cfa_fp = st.cfa_fp; cfa_units = st.cfa_units; count = st.count; regs = regs; slots = slots } ≡ st
put_state st regs slots e f = rw (e, f)

-- the first run: it has ended where the second passed its offset, or stands where the second does
abbrev pub First : Memory → Arch → ℕ → ℕ → ℕ → Option State → State → List State → ℕ → ℕ → ℕ → Type 0
First m a program limit off (Some keep) st states depth at pos = run m a program limit off ≡ Answer (record { state = keep; after = 0 })
First m a program limit off None st states depth at pos = Sofar m a program limit off st states depth at pos

-- both runs, from where the loop stands
pub record Both
    (m : Memory) (a : Arch) (program limit off last : ℕ) (kept : Option State) (st : State) (states : List State) (depth at pos : ℕ)
    : Type 0 where
  pub first : First m a program limit off kept st states depth at pos
  pub second : Sofar m a program limit last st states depth at pos

-- only a run that has passed the offset stands past it
pub both_passed :
    {m : Memory} {a : Arch} {program limit off last : ℕ} {kept : Option State} {st : State} {states : List State} {depth at pos : ℕ} →
    Both m a program limit off last kept st states depth at pos → off < at → is_some kept ≡ true
both_passed {kept = Some keep} b h = refl
both_passed {kept = None} b h = absurd (omega (arith, b.first.within))

-- program 0
pub both_0 :
    (m : Memory) (a : Arch) (program limit off last : ℕ) (st : State) → st ≡ entry a → program ≡ 0 →
    finished st 0 ≡ through (entry a) (run m a program limit off) (run m a program limit last)
both_0 m a program limit off last st e z =
    rw (sym (run_0 m a program limit off st e z), sym (run_0 m a program limit last st e z))

module _ {m : Memory} {a : Arch} {program limit off last : ℕ} (lower : off ≤ last) where
  pub both_begin :
      (st : State) (states : List State) → st ≡ entry a → length states ≡ max_remember → (program ≡ 0 → ⊥) →
      Both m a program limit off last None st states 0 0 program
  both_begin st states e room some =
      record {
        first = sofar_begin m a program limit off st states e room some;
        second = sofar_begin m a program limit last st states e room some;
      }

  module _
      {kept : Option State} {st : State} {states : List State} {depth at pos : ℕ}
      (b : Both m a program limit off last kept st states depth at pos)
    where
      -- no operation is read
      pub both_undecoded :
          (n : ℕ) → Outcome.Refused n ≡ decode m limit pos →
          stopped (entry a) kept n ≡ through (entry a) (run m a program limit off) (run m a program limit last)
      both_undecoded n e = go kept b.first
        where
          second : run m a program limit last ≡ Outcome.Refused n
          second = sofar_undecoded m a program limit last st states depth at pos b.second n e

          go : (t : Option State) → First m a program limit off t st states depth at pos →
              stopped (entry a) t n ≡ through (entry a) (run m a program limit off) (run m a program limit last)
          go (Some keep) f = rw (f, second)
          go None f = rw (sofar_undecoded m a program limit off st states depth at pos f n e, second)

      -- the operation op, with the address after it
      module _ (next : ℕ) (op : Op) (e : Answer (record { op = op; next = next }) ≡ decode m limit pos) where
        pub both_less : limit - next < limit - pos
        both_less = sofar_less m a program limit last st states depth at pos b.second next op e

        -- and what the first run makes of it
        same : Sofar m a program limit off st states depth at pos → Lower off (act a last next op (stand_at st states depth at)) (act a off next op (stand_at st states depth at))
        same f = act_lower a off last next op (stand_at st states depth at) lower f.within

        pub both_ends :
            (r : Ran) → act a last next op (stand_at st states depth at) ≡ Ends r → kept ≡ None →
            finished r.state r.after ≡ through (entry a) (run m a program limit off) (run m a program limit last)
        both_ends r t = go kept b.first
          where
            second : run m a program limit last ≡ Answer r
            second = sofar_ends m a program limit last st states depth at pos b.second next op e r t

            go : (x : Option State) → First m a program limit off x st states depth at pos → x ≡ None →
                finished r.state r.after ≡ through (entry a) (run m a program limit off) (run m a program limit last)
            go (Some keep) f p = cc
            go None f p =
                let low : act a off next op (stand_at st states depth at) ≡ Ends r =
                subst (λ (x : Turn). Lower off x (act a off next op (stand_at st states depth at))) t (same f) in
                rw (sofar_ends m a program limit off st states depth at pos f next op e r low, second)

        pub both_ends_past :
            (r : Ran) (first : State) → act a last next op (stand_at st states depth at) ≡ Ends r → kept ≡ Some first →
            finished first r.after ≡ through (entry a) (run m a program limit off) (run m a program limit last)
        both_ends_past r first t = go kept b.first
          where
            go : (x : Option State) → First m a program limit off x st states depth at pos → x ≡ Some first →
                finished first r.after ≡ through (entry a) (run m a program limit off) (run m a program limit last)
            go (Some keep) f p =
                let same : keep ≡ first = cc in
                rw (f, sofar_ends m a program limit last st states depth at pos b.second next op e r t, same)
            go None f p = cc

        pub both_refused :
            (n : ℕ) → act a last next op (stand_at st states depth at) ≡ Refused n →
            stopped (entry a) kept n ≡ through (entry a) (run m a program limit off) (run m a program limit last)
        both_refused n t = go kept b.first
          where
            second : run m a program limit last ≡ Outcome.Refused n
            second = sofar_refused m a program limit last st states depth at pos b.second next op e n t

            go : (x : Option State) → First m a program limit off x st states depth at pos →
                stopped (entry a) x n ≡ through (entry a) (run m a program limit off) (run m a program limit last)
            go (Some keep) f = rw (f, second)
            go None f =
                let low : act a off next op (stand_at st states depth at) ≡ Refused n =
                subst (λ (x : Turn). Lower off x (act a off next op (stand_at st states depth at))) t (same f) in
                rw (sofar_refused m a program limit off st states depth at pos f next op e n low, second)

        -- it goes on
        module _
            (st' : State) (states' : List State) (depth' at' : ℕ)
            (t : act a last next op (stand_at st states depth at) ≡ On (stand_at st' states' depth' at')) (deep : depth' ≤ max_remember)
            (room : length states' ≡ max_remember)
          where
            second-on : Sofar m a program limit last st' states' depth' at' next
            second-on =
                sofar_on m a program limit last st states depth at pos b.second next op e st' states' depth' at' t deep room
                (subst (λ (x : Turn). Within last x) t (act-within a last next op (stand_at st states depth at) b.second.within))

            low :
                Sofar m a program limit off st states depth at pos →
                Lower off (On (stand_at st' states' depth' at')) (act a off next op (stand_at st states depth at))
            low f = subst (λ (x : Turn). Lower off x (act a off next op (stand_at st states depth at))) t (same f)

            pub both_on : (off < at' → is_some kept ≡ true) → Both m a program limit off last kept st' states' depth' at' next
            both_on h = record { first = go kept b.first h; second = second-on }
              where
                go : (x : Option State) → First m a program limit off x st states depth at pos → (off < at' → is_some x ≡ true) →
                    First m a program limit off x st' states' depth' at' next
                go (Some keep) f g = f
                go None f g = below (ltb off at') refl
                  where
                    below : (y : Bool) → ltb off at' ≡ y → Sofar m a program limit off st' states' depth' at' next
                    below true p =
                        let q : false ≡ true = g (ltb-true off at' p) in
                        cc
                    below false p =
                        let within : at' ≤ off = ltb-false off at' p in
                        sofar_on m a program limit off st states depth at pos f next op e st' states' depth' at' ((low f).0 within)
                        deep room within

            -- past the offset
            pub both_pass : is_some kept ≡ false → off < at' → Both m a program limit off last (Some st') st' states' depth' at' next
            both_pass p h = record { first = go kept b.first p; second = second-on }
              where
                go : (x : Option State) → First m a program limit off x st states depth at pos → is_some x ≡ false →
                    run m a program limit off ≡ Answer (record { state = st'; after = 0 })
                go (Some keep) f q = cc
                go None f q =
                    sofar_ends m a program limit off st states depth at pos f next op e (record { state = st'; after = 0 })
                    ((low f).1 h)

-- a run that was refused, as the code hands it back
pub ended_refused :
    (first : State) (a : Arch) → first ≡ entry a → (o : Outcome Ran) (n : ℕ) → o ≡ Outcome.Refused n →
    record { status = Outcome.Refused n; state = first; after = 0 } ≡ ended (entry a) o
ended_refused first a e o n p = rw (p, e)

-- the bytes of an advance fit, on both architectures
pub unit_small : (arch : ℕ) → (numbers arch).unit ≤ 4
unit_small = of_both (λ (b : Arch). b.unit ≤ 4) (lit≤ tt) (lit≤ tt)

pub advance-fits : (n unit : ℕ) → n < 2 ^ 32 → unit ≤ 4 → n * unit < 2 ^ 64
advance-fits n unit h l = omega (arith, mul-le-mul_left n l)
