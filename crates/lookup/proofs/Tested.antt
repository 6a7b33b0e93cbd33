-- Sound tables by a test that computes: enough for closed sections. Assumes nothing.
use Rattle.std.specs.Prelude.{if◌then◌else◌}
use mathlib.Core.Path.{◌≡◌, refl, sym, subst}
use mathlib.Core.Bool.{Bool, true, false, not, ◌&&◌, ◌||◌}
use mathlib.Core.List.Memᴰ
use mathlib.Core.List.{List, [], ◌∷◌}
use Rattle.std.specs.Prelude.{Some}
use mathlib.Core.Logic.{◌⊎◌, inl, inr}
use Prim.Native.Nat.{ℕ, ◌+◌, ◌≤◌, ◌<◌}
use native.Mathlib.Omega.{arith}
use lib.Dec.{eqb, leb}
use borrow.Author.Tests.{eq-eqb, ne_eqb, leb-true, not-true}
use Rattle.failure.specs.Outcome.{Answer}
use Rattle.mem.proofs.Tests.{both}
use Rattle.lookup.specs.Record.{holds, bad_record}
use Rattle.lookup.specs.Tables.{Entry, chunks, faultless, records}
use Rattle.lookup.specs.Lookup.{lookup}
use Rattle.lookup.specs.Sound.{◌∈◌, IsSound}
use Rattle.lookup.specs.declared.Record.{Record}
use Rattle.lookup.proofs.Records.{within-holds}
use Rattle.lookup.proofs.Sounds.{lookup-record}

-- one ends before the other starts, or one is empty
abbrev pub clear : Record → Record → Bool
clear r s = leb r.end s.start || leb s.end r.start || leb r.end r.start || leb s.end s.start

-- a record and the next of its chunk, or a record of another chunk
abbrev pub pair_test : Entry → Entry → Bool
pair_test e f =
    if eqb e.number f.number then
    (if eqb (e.index + 1) f.index then leb e.function.end f.function.start else true)
    else clear e.function f.function

-- all records pass
abbrev pub all : (Entry → Bool) → List Entry → Bool
all p [] = true
all p (e ∷ es) = p e && all p es

-- a record by itself and with each of the list
abbrev pub entry_test : List Entry → Entry → Bool
entry_test es e = leb e.function.start e.function.end && not (bad_record e.function) && all (pair_test e) es

-- the tables in a part
unfoldable pub sound_test : List ℕ → ℕ → ℕ → Bool
sound_test bytes base arch = faultless (chunks bytes arch) && all (entry_test (records bytes base arch)) (records bytes base arch)

all_passed : (p : Entry → Bool) (es : List Entry) (e : Entry) → all p es ≡ true → e ∈ es → p e ≡ true
all_passed p [] e h i = absurd (Memᴰ.not-nil i)
all_passed p (f ∷ es) e h i =
    let (here, rest) = both (p f) (all p es) h in
    go (Memᴰ.cases_cons i) here (λ j. all_passed p es e rest j)
  where
    go : (e ≡ f) ⊎ (e ∈ es) → p f ≡ true → (e ∈ es → p e ≡ true) → p e ≡ true
    go (inl q) here rest = subst (λ (x : Entry). p x ≡ true) (sym q) here
    go (inr j) here rest = rest j

clear_apart : (r s : Record) (a : ℕ) → clear r s ≡ true → holds r a ≡ true → holds s a ≡ true → ⊥
clear_apart r s a c h g =
    let (rl, rh) = within-holds r a h in
    let (sl, sh) = within-holds s a g in
    go (leb r.end s.start) refl (leb s.end r.start) refl (leb r.end r.start) refl (leb s.end s.start) refl c rl rh sl sh
  where
    go : (t : Bool) → leb r.end s.start ≡ t → (u : Bool) → leb s.end r.start ≡ u → (v : Bool) → leb r.end r.start ≡ v →
        (w : Bool) → leb s.end s.start ≡ w → (t || u || v || w) ≡ true → r.start ≤ a → a < r.end → s.start ≤ a → a < s.end → ⊥
    go true e u f v x w y c rl rh sl sh = omega (arith, leb-true r.end s.start e)
    go false e true f v x w y c rl rh sl sh = omega (arith, leb-true s.end r.start f)
    go false e false f true x w y c rl rh sl sh = omega (arith, leb-true r.end r.start x)
    go false e false f false x true y c rl rh sl sh = omega (arith, leb-true s.end s.start y)
    go false e false f false x false y c rl rh sl sh = let z : ◌≡◌ {A = ℕ} 0 1 = cc in omega arith

-- a part that passes is sound
pub sound_tested : (bytes : List ℕ) (base arch : ℕ) → sound_test bytes base arch ≡ true → IsSound bytes base arch
unfolding sound_test records
sound_tested bytes base arch t =
    let (headers, rows) = both (faultless (chunks bytes arch)) (all (entry_test es) es) t in
    record {
      headers = headers;
      proper = λ e i. leb-true _ _ (own e (all_passed (entry_test es) es e rows i)).0;
      ordered = λ e f i j n x. next e f n x (all_passed (pair_test e) es f (own e (all_passed (entry_test es) es e rows i)).2 j);
      apart = λ e f i j n a. other e f n a (all_passed (pair_test e) es f (own e (all_passed (entry_test es) es e rows i)).2 j);
      passes = λ e i. not-true _ (own e (all_passed (entry_test es) es e rows i)).1;
    }
  where
    es : List Entry
    es = records bytes base arch

    own : (e : Entry) → entry_test es e ≡ true →
        (leb e.function.start e.function.end ≡ true) × (not (bad_record e.function) ≡ true) × (all (pair_test e) es ≡ true)
    own e h =
        let (first, pairs) = both (leb e.function.start e.function.end && not (bad_record e.function)) (all (pair_test e) es) h in
        let (proper, passes) = both (leb e.function.start e.function.end) (not (bad_record e.function)) first in
        (proper, passes, pairs)

    next : (e f : Entry) → e.number ≡ f.number → e.index + 1 ≡ f.index → pair_test e f ≡ true → e.function.end ≤ f.function.start
    next e f n x h =
        leb-true _ _ (rw (eq-eqb e.number f.number n, eq-eqb (e.index + 1) f.index x) at h)

    other : (e f : Entry) → (e.number ≡ f.number → ⊥) → (a : ℕ) → pair_test e f ≡ true → holds e.function a ≡ true →
        holds f.function a ≡ true → ⊥
    other e f n a h = clear_apart e.function f.function a (rw (ne_eqb e.number f.number n) at h)

-- in a part that passes, a pc in a record is looked up to that record and its chunk
pub lookup_tested : (bytes : List ℕ) (base arch pc : ℕ) (e : Entry) → sound_test bytes base arch ≡ true →
    e ∈ records bytes base arch → holds e.function pc ≡ true →
    lookup bytes base pc arch ≡ Answer (Some (record { function = e.function; chunk = e.chunk }))
lookup_tested bytes base arch pc e t i h = lookup-record bytes base arch (sound_tested bytes base arch t) pc e i h
