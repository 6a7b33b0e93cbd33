-- The stretch of offsets at which a run ends as it does: from the offset reached by the last advance to the target of the advance
-- that ended it. All offsets of a stretch give the same run. Assumes nothing.
use Rattle.std.specs.Prelude.{if◌then◌else◌}
use mathlib.Core.Path.{◌≡◌, refl, sym, ap, subst}
use mathlib.Core.Bool.{Bool, true, false}
use mathlib.Core.Option.{Option, some, none}
use mathlib.Core.List.{List, [], ◌∷◌}
use Prim.Native.Nat.{ℕ, zero, suc, ◌+◌, ◌-◌, ◌*◌, ◌^◌, ◌≤◌, ◌<◌}
use native.Mathlib.Omega.{arith}
use lib.Dec.{eqb, ltb}
use lib.ListN.{length}
use borrow.Author.Tests.{lt-ltb, le-ltb, ltb-true, ltb-false}
use Rattle.failure.specs.Outcome.{Outcome, Answer, ◌>>=◌}
use Rattle.failure.specs.Failure.{BadEkoRecord, EkoTruncated}
use Rattle.mem.specs.Memory.{Memory}
use Rattle.arch.specs.Arch.{Arch}
use Rattle.state.specs.declared.State.{State}
use Rattle.program.specs.declared.decode.Op.{Op}
use Rattle.program.specs.declared.decode.Op.TheVariants.{End, Advance, Set, Remember, Recall}
use Rattle.program.specs.Operation.{Decoding, decode}
use Rattle.program.specs.Rule.{follow}
use Rattle.program.specs.Run.{Stand, Ran, Turn, On, Ends, Refused, max_remember, advance, remember, recall, set, act, turned, run_from, begin, run}

-- the offset reached, and the target of the advance that ended the run, none if END was read
pub record Stretch : Type 0 where
  pub from : ℕ
  pub to : Option ℕ

-- an offset before the target, if there is one
abbrev pub Before : ℕ → Option ℕ → Type 0
Before off none = Unit
Before off (some to) = off < to

-- an offset of the stretch
pub record Of (off : ℕ) (x : Stretch) : Type 0 where
  pub from : x.from ≤ off
  pub to : Before off x.to

-- the target of an operation
abbrev pub target : Arch → Op → Stand → Option ℕ
target a (Advance n) s = some (s.at + n * a.unit)
target a End s = none
target a (Set r) s = none
target a Remember s = none
target a Recall s = none

-- what a turn gives of the stretch
abbrev pub stretched : Turn → Stretch → (Stand → Outcome Stretch) → Outcome Stretch
stretched (On s) x f = f s
stretched (Ends r) x f = Answer x
stretched (Refused n) x f = Outcome.Refused n

-- the stretch of a run from pos on
abbrev pub stretch_from : ℕ → Memory → Arch → ℕ → ℕ → ℕ → Stand → Outcome Stretch
stretch_from zero m a limit off pos s = Outcome.Refused EkoTruncated
stretch_from (suc left) m a limit off pos s = do
  d ← decode m limit pos
  stretched (act a off d.next d.op s) (record { from = s.at; to = target a d.op s })
      (λ s'. stretch_from left m a limit off d.next s')

-- the stretch of a run; of program 0 it is every offset
unfoldable pub stretch : Memory → Arch → ℕ → ℕ → ℕ → Outcome Stretch
stretch m a program limit off =
    if eqb program 0 then Answer (record { from = 0; to = none })
    else stretch_from (limit - program) m a limit off program (begin a)

-- what an operation at one offset says of it at another
record Goes (a : Arch) (off off' next : ℕ) (op : Op) (s s' : Stand) : Type 0 where
  pub later : s.at ≤ s'.at
  pub reached : s.at ≤ off → s'.at ≤ off
  pub same : s'.at ≤ off' → act a off' next op s ≡ On s'

record Stops (a : Arch) (off off' next : ℕ) (op : Op) (s : Stand) (r : Ran) : Type 0 where
  pub before : Before off (target a op s)
  pub same : Before off' (target a op s) → act a off' next op s ≡ Ends r

-- the three turns an advance can take
advance_goes :
    (off off' to : ℕ) (s s' : Stand) → s.at ≤ to → advance off to s ≡ On s' →
    (s'.at ≡ to) × (to ≤ off) × (to ≤ off' → advance off' to s ≡ On s')
advance_goes off off' to s s' l = over (ltb (2 ^ 64 - 1) to) refl
  where
    low : (o : ltb (2 ^ 64 - 1) to ≡ false) (t : Bool) → ltb off to ≡ t → advance off to s ≡ On s' →
        (s'.at ≡ to) × (to ≤ off) × (to ≤ off' → advance off' to s ≡ On s')
    low o true p e =
        let q : Ends (record { state = s.state; after = 0 }) ≡ On s' = rw (o, p) at e in
        cc
    low o false p e =
        let q : On (record { state = s.state; remembered = s.remembered; at = to }) ≡ On s' = rw (o, p) at e in
        let at : s'.at ≡ to = cc in
        (at, ltb-false off to p, λ h. rw (o, le-ltb off' to h) q)

    over : (t : Bool) → ltb (2 ^ 64 - 1) to ≡ t → advance off to s ≡ On s' →
        (s'.at ≡ to) × (to ≤ off) × (to ≤ off' → advance off' to s ≡ On s')
    over true o e =
        let q : Refused BadEkoRecord ≡ On s' = rw o at e in
        cc
    over false o e = low o (ltb off to) refl e

advance-stops :
    (off off' to : ℕ) (s : Stand) (r : Ran) → advance off to s ≡ Ends r → (off < to) × (off' < to → advance off' to s ≡ Ends r)
advance-stops off off' to s r = over (ltb (2 ^ 64 - 1) to) refl
  where
    low : (o : ltb (2 ^ 64 - 1) to ≡ false) (t : Bool) → ltb off to ≡ t → advance off to s ≡ Ends r →
        (off < to) × (off' < to → advance off' to s ≡ Ends r)
    low o true p e =
        let q : Ends (record { state = s.state; after = 0 }) ≡ Ends r = rw (o, p) at e in
        (ltb-true off to p, λ h. rw (o, lt-ltb off' to h) q)
    low o false p e =
        let q : On (record { state = s.state; remembered = s.remembered; at = to }) ≡ Ends r = rw (o, p) at e in
        cc

    over : (t : Bool) → ltb (2 ^ 64 - 1) to ≡ t → advance off to s ≡ Ends r →
        (off < to) × (off' < to → advance off' to s ≡ Ends r)
    over true o e =
        let q : Refused BadEkoRecord ≡ Ends r = rw o at e in
        cc
    over false o e = low o (ltb off to) refl e

-- the other operations leave the offset reached as it is
set_at : (s s' : Stand) (o : Outcome State) → set s o ≡ On s' → s'.at ≡ s.at
set_at s s' (Outcome.Refused n) e = cc
set_at s s' (Answer st) e = cc

remember-at : (s s' : Stand) → remember s ≡ On s' → s'.at ≡ s.at
remember-at s s' = go (eqb (length s.remembered) max_remember) refl
  where
    go : (t : Bool) → eqb (length s.remembered) max_remember ≡ t → remember s ≡ On s' → s'.at ≡ s.at
    go true p e =
        let q = rw p at e in
        cc
    go false p e =
        let q : On (record { state = s.state; remembered = s.state ∷ s.remembered; at = s.at }) ≡ On s' = rw p at e in
        cc

recall-at : (l : List State) (s s' : Stand) → recall l s ≡ On s' → s'.at ≡ s.at
recall-at [] s s' e = cc
recall-at (st ∷ sts) s s' e = cc

goes : (a : Arch) (off off' next : ℕ) (op : Op) (s s' : Stand) → act a off next op s ≡ On s' → Goes a off off' next op s s'
unfolding act
goes a off off' next End s s' e = cc
goes a off off' next (Advance n) s s' e =
    let g = advance_goes off off' (s.at + n * a.unit) s s' (omega arith) e in
    record { later = omega arith; reached = λ h. omega arith; same = λ h. g.2 (omega arith) }
goes a off off' next (Set r) s s' e =
    let at = set_at s s' (follow a r s.state) e in
    record { later = omega arith; reached = λ h. omega arith; same = λ h. e }
goes a off off' next Remember s s' e =
    let at = remember-at s s' e in
    record { later = omega arith; reached = λ h. omega arith; same = λ h. e }
goes a off off' next Recall s s' e =
    let at = recall-at s.remembered s s' e in
    record { later = omega arith; reached = λ h. omega arith; same = λ h. e }

stops : (a : Arch) (off off' next : ℕ) (op : Op) (s : Stand) (r : Ran) → act a off next op s ≡ Ends r → Stops a off off' next op s r
unfolding act
stops a off off' next End s r e = record { before = tt; same = λ h. e }
stops a off off' next (Advance n) s r e =
    let g = advance-stops off off' (s.at + n * a.unit) s r e in
    record { before = g.0; same = g.1 }
stops a off off' next (Set x) s r e = record { before = tt; same = λ h. e }
stops a off off' next Remember s r e = record { before = tt; same = λ h. e }
stops a off off' next Recall s r e = record { before = tt; same = λ h. e }

-- the run at an offset of the stretch is the run that it is the stretch of
module _ (m : Memory) (a : Arch) (limit off off' : ℕ) (x : Stretch) where
  -- what a run that has the stretch says: where it stood, whether the offset is of the stretch, and the run at another one
  record Says (left pos : ℕ) (s : Stand) : Type 0 where
    pub later : s.at ≤ x.from
    pub within : s.at ≤ off → Of off x
    pub same : Of off' x → run_from left m a limit off pos s ≡ run_from left m a limit off' pos s

  says : (left pos : ℕ) (s : Stand) → stretch_from left m a limit off pos s ≡ Answer x → Says left pos s
  says zero pos s = λ e. cc
  says (suc left) pos s = opened (decode m limit pos) refl (λ p s' e. says left p s' e)
    where
      turn : (d : Decoding) → decode m limit pos ≡ Answer d →
          ((s' : Stand) → stretch_from left m a limit off d.next s' ≡ Answer x → Says left d.next s') →
          (t : Turn) → act a off d.next d.op s ≡ t →
          stretched t (record { from = s.at; to = target a d.op s }) (λ s'. stretch_from left m a limit off d.next s') ≡ Answer x →
          Says (suc left) pos s
      turn d p f (On s') q e =
          let g = goes a off off' d.next d.op s s' q in
          let y = f s' e in
          record {
            later = omega (arith, g.later, y.later);
            within = λ h. y.within (g.reached h);
            same = λ o.
                (let there : act a off' d.next d.op s ≡ On s' = g.same (omega (arith, y.later, o.from)) in
                rw (p, q, there) (y.same o));
          }
      turn d p f (Ends r) q e =
          let g = stops a off off' d.next d.op s r q in
          let is : record { from = s.at; to = target a d.op s } ≡ x = cc in
          let from : s.at ≡ x.from = ap (λ (y : Stretch). y.from) is in
          let to : target a d.op s ≡ x.to = ap (λ (y : Stretch). y.to) is in
          record {
            later = omega arith;
            within = λ h. record { from = omega arith; to = subst (λ (y : Option ℕ). Before off y) to g.before };
            same = λ o.
                (let there : act a off' d.next d.op s ≡ Ends r = g.same (subst (λ (y : Option ℕ). Before off' y) (sym to) o.to) in
                rw (p, q, there));
          }
      turn d p f (Refused n) q e = cc

      opened : (o : Outcome Decoding) → decode m limit pos ≡ o →
          ((p : ℕ) (s' : Stand) → stretch_from left m a limit off p s' ≡ Answer x → Says left p s') →
          (o >>= λ d. stretched (act a off d.next d.op s) (record { from = s.at; to = target a d.op s })
          (λ s'. stretch_from left m a limit off d.next s')) ≡ Answer x →
          Says (suc left) pos s
      opened (Outcome.Refused n) p f e = cc
      opened (Answer d) p f e = turn d p (f d.next) (act a off d.next d.op s) refl e

  -- an offset lies in the stretch of its own run
  pub of_stretch : (program : ℕ) → stretch m a program limit off ≡ Answer x → Of off x
  unfolding stretch
  of_stretch program = go (eqb program 0) refl
    where
      go : (t : Bool) → eqb program 0 ≡ t → stretch m a program limit off ≡ Answer x → Of off x
      go true p e =
          let q : Answer (record { from = 0; to = none }) ≡ Answer x = rw p at e in
          let is : record { from = 0; to = none } ≡ x = cc in
          subst (λ (y : Stretch). Of off y) is (record { from = omega arith; to = tt })
      go false p e = (says (limit - program) program (begin a) (rw p at e)).within (omega arith)

  -- every offset of a stretch gives the same run
  pub same_stretch :
      (program : ℕ) → stretch m a program limit off ≡ Answer x → Of off' x → run m a program limit off ≡ run m a program limit off'
  unfolding stretch run
  same_stretch program e o = go (eqb program 0) refl
    where
      go : (t : Bool) → eqb program 0 ≡ t → run m a program limit off ≡ run m a program limit off'
      go true p = rw p
      go false p = rw p ((says (limit - program) program (begin a) (rw p at e)).same o)

-- two offsets that stop at the same advance, or both read to END after the same last advance, give equal runs
pub equal_runs :
    (m : Memory) (a : Arch) (program limit off off' : ℕ) (x : Stretch) → stretch m a program limit off ≡ Answer x →
    stretch m a program limit off' ≡ Answer x → run m a program limit off ≡ run m a program limit off'
equal_runs m a program limit off off' x e e' =
    same_stretch m a limit off off' x program e (of_stretch m a limit off' off x program e')

-- every run that is not refused has a stretch
pub record Has (o : Outcome Stretch) : Type 0 where
  pub stretch : Stretch
  pub is : o ≡ Answer stretch

module _ (m : Memory) (a : Arch) (limit off : ℕ) (r : Ran) where
  has_from : (left pos : ℕ) (s : Stand) → run_from left m a limit off pos s ≡ Answer r → Has (stretch_from left m a limit off pos s)
  has_from zero pos s = λ e. cc
  has_from (suc left) pos s = opened (decode m limit pos) (λ p s' e. has_from left p s' e)
    where
      turn : (next : ℕ) → ((s' : Stand) → run_from left m a limit off next s' ≡ Answer r → Has (stretch_from left m a limit off next s')) →
          (t : Turn) (x : Stretch) → turned t (λ s'. run_from left m a limit off next s') ≡ Answer r →
          Has (stretched t x (λ s'. stretch_from left m a limit off next s'))
      turn next f (On s') x e = f s' e
      turn next f (Ends y) x e = record { stretch = x; is = refl }
      turn next f (Refused n) x e = cc

      opened : (o : Outcome Decoding) →
          ((p : ℕ) (s' : Stand) → run_from left m a limit off p s' ≡ Answer r → Has (stretch_from left m a limit off p s')) →
          (o >>= λ d. turned (act a off d.next d.op s) (λ s'. run_from left m a limit off d.next s')) ≡ Answer r →
          Has (o >>= λ d. stretched (act a off d.next d.op s) (record { from = s.at; to = target a d.op s })
          (λ s'. stretch_from left m a limit off d.next s'))
      opened (Outcome.Refused n) f e = cc
      opened (Answer d) f e = turn d.next (f d.next) (act a off d.next d.op s) _ e

  pub has_stretch : (program : ℕ) → run m a program limit off ≡ Answer r → Has (stretch m a program limit off)
  unfolding stretch run
  has_stretch program = go (eqb program 0) refl
    where
      go : (t : Bool) → eqb program 0 ≡ t → run m a program limit off ≡ Answer r → Has (stretch m a program limit off)
      go true p e = rw p (record { stretch = record { from = 0; to = none }; is = refl })
      go false p e = rw p (has_from (limit - program) program (begin a) (rw p at e))
