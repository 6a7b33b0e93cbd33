-- Lookup in sound tables. Assumes nothing.
use Rattle.std.specs.Prelude.{if◌then◌else◌}
use mathlib.Core.Path.{◌≡◌, refl, sym, ◌∙◌, ap, subst}
use mathlib.Core.Bool.{Bool, true, false, ◌&&◌}
use mathlib.Core.List.Memᴰ
use mathlib.Core.List.{List, [], ◌∷◌}
use mathlib.Core.Logic.{◌⊎◌, inl, inr}
use Rattle.std.specs.Prelude.{Option, None, Some}
use Prim.Native.Nat.{ℕ, zero, suc, ◌+◌, ◌≤◌, ◌<◌}
use native.Mathlib.Omega.{arith}
use lib.Dec.{eqb}
use borrow.Author.Tests.{eqb-true, eqb-false}
use Rattle.failure.specs.Outcome.{Answer}
use Rattle.lookup.specs.Record.{record_of, holds}
use Rattle.lookup.specs.Tables.{Chunks, End, Fault, ◌▸◌, chunks, Entry, entry, entries_of, entries, records, named}
use Rattle.lookup.specs.Lookup.{in_range, find, lookup}
use Rattle.lookup.specs.Sound.{◌∈◌, SoundFrom, IsSound}
use Rattle.lookup.specs.declared.Chunk.{Chunk}
use Rattle.lookup.proofs.InRange.{search_skips, search_goes}
use Rattle.lookup.proofs.Ordered.{InOrder, fails, search-held, search_not, range_held, range_tells}

-- a named record is in the list
pub named_in : (m i : ℕ) (es : List Entry) (e : Entry) → named m i es ≡ Some e → e ∈ es
named_in m i [] e p = absurd (clash p)
  where
    clash : ◌≡◌ {A = Option Entry} None (Some e) → ⊥
    clash q = let z : ◌≡◌ {A = ℕ} 0 1 = cc in omega arith
named_in m i (f ∷ es) e p = go (eqb m f.number && eqb i f.index) p (λ q. named_in m i es e q)
  where
    go : (t : Bool) → (if t then Some f else named m i es) ≡ Some e → (named m i es ≡ Some e → e ∈ es) → e ∈ (f ∷ es)
    go true q rest = Memᴰ.head (let same : f ≡ e = cc in sym same)
    go false q rest = Memᴰ.tail (rest q)

module _ (bytes : List ℕ) (base : ℕ) where
  -- the records of a chunk are in the list
  entry_in : (m : ℕ) (c : Chunk) (n i j : ℕ) → i ≤ j → j < i + n → entry bytes base m c j ∈ entries_of bytes base m c n i
  entry_in m c zero i j l h = absurd (omega arith)
  entry_in m c (suc n) i j l h = go (eqb j i) refl (λ u v. entry_in m c n (i + 1) j u v)
    where
      go : (t : Bool) → eqb j i ≡ t → (i + 1 ≤ j → j < i + 1 + n → entry bytes base m c j ∈ entries_of bytes base m c n (i + 1)) →
          entry bytes base m c j ∈ entries_of bytes base m c (suc n) i
      go true e rest = Memᴰ.head (ap (λ (x : ℕ). entry bytes base m c x) (eqb-true j i e))
      go false e rest =
          let other : j ≡ i → ⊥ = eqb-false j i e in
          Memᴰ.tail (rest (omega arith) (omega arith))

  -- and there are no others of it
  record EntryAt (m : ℕ) (c : Chunk) (n i : ℕ) (e : Entry) : Type 0 where
    pub at : ℕ
    pub from : i ≤ at
    pub upto : at < i + n
    pub is : e ≡ entry bytes base m c at

  in_entry : (m : ℕ) (c : Chunk) (n i : ℕ) (e : Entry) → e ∈ entries_of bytes base m c n i → EntryAt m c n i e
  in_entry m c zero i e p = absurd (Memᴰ.not-nil p)
  in_entry m c (suc n) i e p = go (Memᴰ.cases_cons p) (λ q. in_entry m c n (i + 1) e q)
    where
      go : (e ≡ entry bytes base m c i) ⊎ (e ∈ entries_of bytes base m c n (i + 1)) →
          (e ∈ entries_of bytes base m c n (i + 1) → EntryAt m c n (i + 1) e) → EntryAt m c (suc n) i e
      go (inl q) rest = record { at = i; from = omega arith; upto = omega arith; is = q }
      go (inr q) rest =
          let f = rest q in
          record { at = f.at; from = omega (arith, f.from); upto = omega (arith, f.upto); is = f.is }

  -- chunks count upwards
  numbers : (m : ℕ) (cs : Chunks) (e : Entry) → e ∈ entries bytes base m cs → m ≤ e.number
  numbers m End e p = absurd (Memᴰ.not-nil p)
  numbers m Fault e p = absurd (Memᴰ.not-nil p)
  numbers m (c ▸ cs) e p = go (Memᴰ.append_cases (entries_of bytes base m c c.count 0) p) (λ q. numbers (m + 1) cs e q)
    where
      go : (e ∈ entries_of bytes base m c c.count 0) ⊎ (e ∈ entries bytes base (m + 1) cs) →
          (e ∈ entries bytes base (m + 1) cs → m + 1 ≤ e.number) → m ≤ e.number
      go (inl q) rest =
          let f = in_entry m c c.count 0 e q in
          let same : e.number ≡ m = ap (λ (x : Entry). x.number) f.is in
          omega arith
      go (inr q) rest = omega (arith, rest q)

  module _ (m : ℕ) (c : Chunk) (cs : Chunks) (s : SoundFrom bytes base m (c ▸ cs)) where
    -- the first chunk's records, and those after it
    here : (j : ℕ) → j < c.count → entry bytes base m c j ∈ entries bytes base m (c ▸ cs)
    here j h = Memᴰ.append_left (entries bytes base (m + 1) cs) (entry_in m c c.count 0 j (omega arith) (omega arith))

    later : (e : Entry) → e ∈ entries bytes base (m + 1) cs → e ∈ entries bytes base m (c ▸ cs)
    later e p = Memᴰ.append_right (entries_of bytes base m c c.count 0) p

    -- the first chunk is in order, and the others are sound
    in_order : InOrder (record_of bytes base c) c.count
    in_order =
        record {
          proper = λ i h. s.proper (entry bytes base m c i) (here i h);
          ordered = λ i h. s.ordered (entry bytes base m c i) (entry bytes base m c (i + 1)) (here i (omega arith)) (here (i + 1) h) refl refl;
        }

    sound_rest : SoundFrom bytes base (m + 1) cs
    sound_rest =
        record {
          headers = s.headers;
          proper = λ e p. s.proper e (later e p);
          ordered = λ e f p q. s.ordered e f (later e p) (later f q);
          apart = λ e f p q. s.apart e f (later e p) (later f q);
          passes = λ e p. s.passes e (later e p);
        }

    -- the first chunk answers with its record that holds pc
    find_here : (pc j : ℕ) → j < c.count → holds (record_of bytes base c j) pc ≡ true →
        find bytes base pc (c ▸ cs) ≡ Answer (Some (record { function = record_of bytes base c j; chunk = c }))
    find_here pc j h e =
        let found = sym (search_goes bytes base pc c (range_held (record_of bytes base c) c.count in_order pc j h e)) ∙
        search-held (record_of bytes base c) c.count in_order pc j h e in
        rw found (rw (s.passes (entry bytes base m c j) (here j h)))

    -- or leaves it to the others
    find-later : (pc : ℕ) → ((j : ℕ) → j < c.count → holds (record_of bytes base c j) pc ≡ false) →
        find bytes base pc (c ▸ cs) ≡ find bytes base pc cs
    find-later pc away = go (in_range (record_of bytes base c) c.count pc) refl
      where
        go : (g : Bool) → in_range (record_of bytes base c) c.count pc ≡ g → find bytes base pc (c ▸ cs) ≡ find bytes base pc cs
        go false g = rw (sym (search_skips bytes base pc c g))
        go true g =
            let t = range_tells (record_of bytes base c) c.count pc g in
            let nothing = sym (search_goes bytes base pc c g) ∙
            search_not (record_of bytes base c) c.count in_order pc t.0 t.1 away in
            rw nothing

  -- a pc that lies in a record of the list is looked up to exactly that record and chunk
  find-record : (m : ℕ) (cs : Chunks) (pc : ℕ) (e : Entry) → SoundFrom bytes base m cs → e ∈ entries bytes base m cs →
      holds e.function pc ≡ true → find bytes base pc cs ≡ Answer (Some (record { function = e.function; chunk = e.chunk }))
  find-record m End pc e s p h = absurd (Memᴰ.not-nil p)
  find-record m Fault pc e s p h = absurd (Memᴰ.not-nil p)
  find-record m (c ▸ cs) pc e s p h =
      go (Memᴰ.append_cases (entries_of bytes base m c c.count 0) p)
      (λ q. find-record (m + 1) cs pc e (sound_rest m c cs s) q h)
    where
      go : (e ∈ entries_of bytes base m c c.count 0) ⊎ (e ∈ entries bytes base (m + 1) cs) →
          (e ∈ entries bytes base (m + 1) cs → find bytes base pc cs ≡ Answer (Some (record { function = e.function; chunk = e.chunk }))) →
          find bytes base pc (c ▸ cs) ≡ Answer (Some (record { function = e.function; chunk = e.chunk }))
      go (inl q) rest =
          let f = in_entry m c c.count 0 e q in
          let there : holds (record_of bytes base c f.at) pc ≡ true = subst (λ (x : Entry). holds x.function pc ≡ true) f.is h in
          find_here m c cs s pc f.at (omega (arith, f.upto)) there ∙
          ap (λ (x : Entry). Answer (Some (record { function = x.function; chunk = x.chunk }))) (sym f.is)
      go (inr q) rest =
          find-later m c cs s pc
          (λ j l. fails (holds (record_of bytes base c j) pc)
          (λ t. s.apart (entry bytes base m c j) e (here m c cs s j l) p (λ n. omega (arith, numbers (m + 1) cs e q)) pc t h)) ∙
          rest q

  -- a pc in no record gives none
  find_no_record : (m : ℕ) (cs : Chunks) (pc : ℕ) → SoundFrom bytes base m cs →
      ((e : Entry) → e ∈ entries bytes base m cs → holds e.function pc ≡ true → ⊥) → find bytes base pc cs ≡ Answer None
  find_no_record m End pc s away = refl
  find_no_record m Fault pc s away = absurd (clash s.headers)
    where
      clash : false ≡ true → ⊥
      clash p = let z : ◌≡◌ {A = ℕ} 0 1 = cc in omega arith
  find_no_record m (c ▸ cs) pc s away =
      find-later m c cs s pc
      (λ j l. fails (holds (record_of bytes base c j) pc) (away (entry bytes base m c j) (here m c cs s j l))) ∙
      find_no_record (m + 1) cs pc (sound_rest m c cs s) (λ e p. away e (later m c cs s e p))

module _ (bytes : List ℕ) (base arch : ℕ) (s : IsSound bytes base arch) (pc : ℕ) where
  -- in a sound part, a pc that lies in a record of the part is looked up to exactly that record and chunk
  pub lookup-record : (e : Entry) → e ∈ records bytes base arch → holds e.function pc ≡ true →
      lookup bytes base pc arch ≡ Answer (Some (record { function = e.function; chunk = e.chunk }))
  unfolding lookup records
  lookup-record e p h = find-record bytes base 0 (chunks bytes arch) pc e s p h

  -- a pc in no record gives none, never a refusal
  pub lookup_no_record : ((e : Entry) → e ∈ records bytes base arch → holds e.function pc ≡ true → ⊥) →
      lookup bytes base pc arch ≡ Answer None
  unfolding lookup records
  lookup_no_record away = find_no_record bytes base 0 (chunks bytes arch) pc s away
