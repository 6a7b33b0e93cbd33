-- Laws of `halve`. Assumes nothing.
use Rattle.std.specs.Prelude.{if◌then◌else◌}
use mathlib.Core.Path.{◌≡◌, refl, sym, ◌∙◌, ap, subst}
use mathlib.Core.Bool.{Bool, true, false}
use mathlib.Core.List.{List}
use Prim.Native.Nat.{ℕ, zero, suc, ◌+◌, ◌-◌, ◌/◌, ◌≤◌, ◌<◌}
use native.Mathlib.Omega.{arith}
use lib.Dec.{ltb}
use borrow.Author.Tests.{lt-ltb, le-ltb, le-leb, lt-leb, ltb-true, ltb-false}
use Rattle.lookup.specs.Search.{middle, halve, settle, search}
use Rattle.lookup.specs.Record.{place_of, record_of}
use Rattle.lookup.specs.Steps.{Stands, halved}
use Rattle.lookup.specs.declared.Chunk.{Chunk}
use Rattle.lookup.specs.declared.Record.{Record}

-- one turn goes up or down
pub halve_up : (n : ℕ) (rec : ℕ → Record) (pc lo hi : ℕ) → 1 < hi - lo → (rec (middle lo hi)).start ≤ pc →
    halve (suc n) rec pc lo hi ≡ halve n rec pc (middle lo hi) hi
unfolding halve
halve_up n rec pc lo hi h s = simp (lt-ltb _ _ h, le-leb _ _ s)

pub halve_down : (n : ℕ) (rec : ℕ → Record) (pc lo hi : ℕ) → 1 < hi - lo → pc < (rec (middle lo hi)).start →
    halve (suc n) rec pc lo hi ≡ halve n rec pc lo (middle lo hi)
unfolding halve
halve_down n rec pc lo hi h s = simp (lt-ltb _ _ h, lt-leb _ _ s)

-- the last turn
pub halve-last : (n : ℕ) (rec : ℕ → Record) (pc lo hi : ℕ) → hi - lo ≤ 1 → halve n rec pc lo hi ≡ lo
unfolding halve
halve-last zero rec pc lo hi h = refl
halve-last (suc n) rec pc lo hi h = simp (le-ltb _ _ h)

-- a halving, down where the record in the middle starts above pc; where at most one is left it changes nothing
module _ (rec : ℕ → Record) (pc lo hi m l h : ℕ) (order : lo ≤ hi) (half : m ≡ (lo + hi) / 2) where
  halve_once : (n : ℕ) → hi ≤ lo + n + 1 → (down : Bool) → ltb pc (rec m).start ≡ down →
      l ≡ (if down then lo else m) → h ≡ (if down then m else hi) → halve n rec pc lo hi ≡ halve (n - 1) rec pc l h
  halve_once n f down e p q = go n f (ltb 1 (hi - lo)) refl down e p q
    where
      mid : middle lo hi ≡ m
      mid = omega arith

      stays : (k : ℕ) → hi ≤ lo + 1 → lo ≡ l → h ≤ l + 1 → halve k rec pc lo hi ≡ halve (k - 1) rec pc l h
      stays k f p q = halve-last k rec pc lo hi (omega arith) ∙ p ∙ sym (halve-last (k - 1) rec pc l h (omega arith))

      go : (k : ℕ) → hi ≤ lo + k + 1 → (more : Bool) → ltb 1 (hi - lo) ≡ more → (down : Bool) → ltb pc (rec m).start ≡ down →
          l ≡ (if down then lo else m) → h ≡ (if down then m else hi) → halve k rec pc lo hi ≡ halve (k - 1) rec pc l h
      go k f false g true e p q =
          let few = ltb-false 1 (hi - lo) g in
          stays k (omega arith) (sym p) (omega arith)
      go k f false g false e p q =
          let few = ltb-false 1 (hi - lo) g in
          stays k (omega arith) (omega arith) (omega arith)
      go zero f true g down e p q = absurd (omega (arith, ltb-true 1 (hi - lo) g))
      go (suc k) f true g true e p q =
          let at : middle lo hi ≡ m = mid in
          let left : k ≡ suc k - 1 = omega arith in
          halve_down k rec pc lo hi (ltb-true 1 (hi - lo) g) (rw mid (ltb-true _ _ e)) ∙ cc
      go (suc k) f true g false e p q =
          let at : middle lo hi ≡ m = mid in
          let left : k ≡ suc k - 1 = omega arith in
          halve_up k rec pc lo hi (ltb-true 1 (hi - lo) g) (rw mid (ltb-false _ _ e)) ∙ cc

-- the halving has come to the records from number `lo` on, below `hi`
pub record Halved (bytes : List ℕ) (base : ℕ) (c : Chunk) (pc lo hi turns : ℕ) : Type 0 where
  pub fuel : ℕ
  pub same : halved bytes base c pc ≡ halve fuel (record_of bytes base c) pc lo hi
  pub order : lo ≤ hi
  pub lower : lo < c.count
  pub upper : hi ≤ c.count
  pub enough : hi ≤ lo + fuel + 1
  pub bound : hi ≤ lo + turns + 1

module _ (bytes : List ℕ) (base : ℕ) (c : Chunk) (pc : ℕ) where
  pub halved-begin : 0 < c.count → Halved bytes base c pc 0 c.count (c.count - 1)
  halved-begin h =
      record { fuel = c.count; same = refl; order = omega arith; lower = h; upper = omega arith; enough = omega arith; bound = omega arith }

  module _ (lo hi turns : ℕ) (s : Halved bytes base c pc lo hi turns) where
    -- one halving: `m` is the middle, `r` its start
    halved_once : (m : ℕ) → m ≡ (lo + hi) / 2 → (r : ℕ) → r ≡ (record_of bytes base c m).start →
        (l : ℕ) → l ≡ (if ltb pc r then lo else m) → (h : ℕ) → h ≡ (if ltb pc r then m else hi) →
        Halved bytes base c pc l h (turns / 2)
    halved_once m e r f l p h q = go (ltb pc r) (ap (λ (x : ℕ). ltb pc x) (sym f)) p q
      where
        go : (down : Bool) → ltb pc (record_of bytes base c m).start ≡ down → l ≡ (if down then lo else m) → h ≡ (if down then m else hi) →
            Halved bytes base c pc l h (turns / 2)
        go true t p q =
            record {
              fuel = s.fuel - 1;
              same = s.same ∙ halve_once (record_of bytes base c) pc lo hi m l h s.order e s.fuel s.enough true t p q;
              order = omega (arith, s.order);
              lower = omega (arith, s.lower);
              upper = omega (arith, s.order, s.upper);
              enough = omega (arith, s.order, s.enough);
              bound = omega (arith, s.order, s.bound);
            }
        go false t p q =
            record {
              fuel = s.fuel - 1;
              same = s.same ∙ halve_once (record_of bytes base c) pc lo hi m l h s.order e s.fuel s.enough false t p q;
              order = omega (arith, s.order);
              lower = omega (arith, s.lower, s.upper);
              upper = omega (arith, s.upper);
              enough = omega (arith, s.order, s.enough);
              bound = omega (arith, s.order, s.bound);
            }

    pub halved_over : turns ≤ 0 → Stands c (halved bytes base c pc) (place_of c lo)
    halved_over h =
        let e = s.same ∙ halve-last s.fuel (record_of bytes base c) pc lo hi (omega (arith, s.bound)) in
        record { below = rw e s.lower; place = ap (place_of c) (sym e) }

  -- a turn: `m`, `low` and `high` are the middles of all, of those below and of the rest, each with its start; `next` and `r` are
  -- the middle and the start of those left after the first halving
  pub halved_turn : (lo hi turns : ℕ) → Halved bytes base c pc lo hi turns →
      (m : ℕ) → m ≡ (lo + hi) / 2 → (start below above : ℕ) → start ≡ (record_of bytes base c m).start →
      below ≡ (record_of bytes base c ((lo + m) / 2)).start → above ≡ (record_of bytes base c ((m + hi) / 2)).start →
      (l h next r : ℕ) → l ≡ (if ltb pc start then lo else m) → h ≡ (if ltb pc start then m else hi) →
      next ≡ (if ltb pc start then (lo + m) / 2 else (m + hi) / 2) → r ≡ (if ltb pc start then below else above) →
      (l₂ : ℕ) → l₂ ≡ (if ltb pc r then l else next) → (h₂ : ℕ) → h₂ ≡ (if ltb pc r then next else h) →
      Halved bytes base c pc l₂ h₂ (turns / 4)
  halved_turn lo hi turns s m e start below above f g k l h next r p q u v l₂ p₂ h₂ q₂ =
      subst (λ (t : ℕ). Halved bytes base c pc l₂ h₂ t) (omega arith)
      (halved_once l h (turns / 2) (halved_once lo hi turns s m e start f l p h q) next (mid (ltb pc start) p q u) r
      (read (ltb pc start) u v) l₂ p₂ h₂ q₂)
    where
      mid : (down : Bool) → l ≡ (if down then lo else m) → h ≡ (if down then m else hi) →
          next ≡ (if down then (lo + m) / 2 else (m + hi) / 2) → next ≡ (l + h) / 2
      mid true p q u = omega arith
      mid false p q u = omega arith

      read : (down : Bool) → next ≡ (if down then (lo + m) / 2 else (m + hi) / 2) → r ≡ (if down then below else above) →
          r ≡ (record_of bytes base c next).start
      read true u v = v ∙ g ∙ ap (λ (i : ℕ). (record_of bytes base c i).start) (sym u)
      read false u v = v ∙ k ∙ ap (λ (i : ℕ). (record_of bytes base c i).start) (sym u)

-- the search settles for what halving finds
pub search-halved : (rec : ℕ → Record) (count pc i : ℕ) → i ≡ halve count rec pc 0 count → settle rec count pc i ≡ search rec count pc
unfolding search
search-halved rec count pc i e = rw e
