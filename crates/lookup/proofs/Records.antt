-- Laws of `record_of`. Assumes nothing.
use mathlib.Core.Path.{◌≡◌, refl, sym, ◌∙◌, ap}
use mathlib.Core.Bool.{Bool, true, false, and-false, or-true, or-false}
use mathlib.Core.List.{List}
use Prim.Native.Nat.{ℕ, zero, suc, ◌+◌, ◌-◌, ◌*◌, ◌≤◌, ◌<◌}
use native.Mathlib.Omega.{arith}
use native.Mathlib.Nat.{mul-le-mul_right, suc-mul, zero-mul, one-mul, add-mul, le_of_mul-le-mul_right}
use lib.Dec.{eqb, leb, ltb}
use lib.ListN.{length}
use borrow.Author.Tests.{eq-eqb, ne_eqb, le-leb, lt-leb, lt-ltb, le-ltb, leb-true, ltb-true, ltb-false}
use Rattle.mem.specs.Wrapping.{sum, signed32}
use Rattle.lookup.specs.Field.{word}
use Rattle.lookup.specs.Record.{start_at, end_at, address_of, offset_of, handlers_of, record_at, record_at2, place_of, record_in, record_of, holds, bad_record}
use Rattle.lookup.specs.Steps.{Inside, Stands}
use Rattle.mem.proofs.Tests.{both}
use Rattle.lookup.specs.declared.Chunk.{Chunk}
use Rattle.lookup.specs.declared.Record.{Record}

-- a record's start and end, for both versions
module _ (bytes : List ℕ) (base : ℕ) (c : Chunk) (i : ℕ) where
  pub record-start : (record_of bytes base c i).start ≡ start_at bytes base (place_of c i)
  unfolding record_of record_at record_at2
  record-start = go (eqb c.version 1) refl
    where
      go : (t : Bool) → eqb c.version 1 ≡ t → (record_of bytes base c i).start ≡ start_at bytes base (place_of c i)
      go true e = rw e
      go false e = rw e

  pub record-end : (record_of bytes base c i).end ≡ end_at bytes base (place_of c i)
  unfolding record_of record_at record_at2
  record-end = go (eqb c.version 1) refl
    where
      go : (t : Bool) → eqb c.version 1 ≡ t → (record_of bytes base c i).end ≡ end_at bytes base (place_of c i)
      go true e = rw e
      go false e = rw e

-- where records stand
module _ (c : Chunk) where
  pub first-stands : 0 < c.count → Stands c 0 (c.offset + 16)
  first-stands h = record { below = h; place = omega (arith, zero-mul c.stride) }

  pub last-stands : 0 < c.count → Stands c (c.count - 1) (c.offset + 16 + (c.count - 1) * c.stride)
  last-stands h = record { below = omega arith; place = refl }

  module _ (bytes : List ℕ) (inside : Inside bytes c) (k i : ℕ) (s : Stands c i k) where
    -- a record lies in the part
    pub stands-room : k + c.stride ≤ length bytes
    stands-room = omega (arith, mul-le-mul_right c.stride s.below, suc-mul i c.stride, s.place)

    -- the one at the first offset is the first
    pub first-number : k ≡ c.offset + 16 → i ≡ 0
    first-number e = go i s.place
      where
        go : (j : ℕ) → k ≡ place_of c j → j ≡ 0
        go zero p = refl
        go (suc j) p = absurd (omega (arith, suc-mul j c.stride, inside.long))

    -- any other has a left neighbour
    pub left_stands : (k ≡ c.offset + 16 → ⊥) → (0 < i) × (c.stride ≤ k) × Stands c (i - 1) (k - c.stride)
    left_stands n = go i s.below s.place
      where
        go : (j : ℕ) → j < c.count → k ≡ place_of c j → (0 < j) × (c.stride ≤ k) × Stands c (j - 1) (k - c.stride)
        go zero l p = absurd (n (omega (arith, zero-mul c.stride)))
        go (suc j) l p =
            let back : j ≡ suc j - 1 = omega arith in
            let left : k - c.stride ≡ place_of c j = omega (arith, suc-mul j c.stride) in (
              omega arith,
              omega (arith, suc-mul j c.stride),
              record { below = omega arith; place = left ∙ ap (λ (x : ℕ). place_of c x) back },
            )

    -- the one at the last offset is the last
    pub last-number : k + c.stride ≡ c.offset + 16 + c.count * c.stride → c.count ≤ i + 1
    last-number e =
        le_of_mul-le-mul_right {k = c.stride} (omega (arith, add-mul i 1 c.stride, one-mul c.stride, s.place)) (omega (arith, inside.long))

    -- any other has a right neighbour
    pub right_stands : (k + c.stride ≡ c.offset + 16 + c.count * c.stride → ⊥) → Stands c (i + 1) (k + c.stride)
    right_stands n = go (ltb (i + 1) c.count) refl
      where
        next : k + c.stride ≡ place_of c (i + 1)
        next = omega (arith, add-mul i 1 c.stride, one-mul c.stride, s.place)

        go : (t : Bool) → ltb (i + 1) c.count ≡ t → Stands c (i + 1) (k + c.stride)
        go true t = record { below = ltb-true (i + 1) c.count t; place = next }
        go false t =
            let last : i + 1 ≡ c.count = omega (arith, ltb-false (i + 1) c.count t, s.below) in
            absurd (n (next ∙ ap (λ (j : ℕ). place_of c j) last))

  -- what is read there
  module _ (bytes : List ℕ) (base i k : ℕ) (s : Stands c i k) where
    pub stands-start : start_at bytes base k ≡ (record_of bytes base c i).start
    stands-start = ap (start_at bytes base) s.place ∙ sym (record-start bytes base c i)

    pub stands-end : end_at bytes base k ≡ (record_of bytes base c i).end
    stands-end = ap (end_at bytes base) s.place ∙ sym (record-end bytes base c i)

    pub stands-record : record_in bytes base c k ≡ record_of bytes base c i
    unfolding record_of
    stands-record = ap (λ (j : ℕ). record_in bytes base c j) s.place

-- which addresses a record holds, from its start or end
module _ (r : Record) (a : ℕ) where
  pub holds-below : (s : ℕ) → s ≡ r.start → a < s → holds r a ≡ false
  unfolding holds
  holds-below s p h = rw (sym p) (simp (lt-leb _ _ h))

  pub holds-above : (e : ℕ) → e ≡ r.end → e ≤ a → holds r a ≡ false
  unfolding holds
  holds-above e q h = rw (sym q) (simp (le-ltb _ _ h, and-false))

  pub holds-within : (s e : ℕ) → s ≡ r.start → e ≡ r.end → s ≤ a → a < e → holds r a ≡ true
  unfolding holds
  holds-within s e p q l h = rw (sym p, sym q) (simp (le-leb _ _ l, lt-ltb _ _ h))

  pub within-holds : holds r a ≡ true → (r.start ≤ a) × (a < r.end)
  unfolding holds
  within-holds e =
      let (l, h) = both (leb r.start a) (ltb a r.end) e in
      (leb-true _ _ l, ltb-true _ _ h)

-- each test of the rule for 18
module _ (r : Record) where
  pub bad_not : (r.version ≡ 2 → ⊥) → false ≡ bad_record r
  unfolding bad_record
  bad_not v = simp (ne_eqb _ _ v)

  pub bad_limit : r.version ≡ 2 → r.limit ≤ r.program → true ≡ bad_record r
  unfolding bad_record
  bad_limit v p = simp (eq-eqb _ _ v, le-leb _ _ p, or-true)

  pub bad_no_table : r.version ≡ 2 → r.program < r.limit → r.handlers ≡ 0 → false ≡ bad_record r
  unfolding bad_record
  bad_no_table v p h = simp (eq-eqb _ _ v, lt-leb _ _ p, eq-eqb _ _ h)

  pub bad_table : r.version ≡ 2 → r.program < r.limit → (r.handlers ≡ 0 → ⊥) → eqb r.program 0 ≡ bad_record r
  unfolding bad_record
  bad_table v p h = simp (eq-eqb _ _ v, lt-leb _ _ p, ne_eqb _ _ h, or-false)

-- what is made of the fields that were read
module _ (bytes : List ℕ) (base k : ℕ) where
  pub start-made : (a w e r : ℕ) → a ≡ sum base k → w ≡ word bytes k 4 → e ≡ signed32 w → r ≡ sum a e → r ≡ start_at bytes base k
  unfolding start_at
  start-made a w e r p q s t = cc

  pub end-made : (s l r : ℕ) → s ≡ start_at bytes base k → l ≡ word bytes (k + 4) 4 → r ≡ sum s l → r ≡ end_at bytes base k
  unfolding end_at
  end-made s l r p q t = cc

  pub record-made : (chunk s e f w h : ℕ) → s ≡ start_at bytes base k → e ≡ end_at bytes base k → f ≡ word bytes (k + 8) 4 →
      w ≡ word bytes (k + 12) 4 → h ≡ address_of chunk w →
      record { start = s; end = e; frame = f; handlers = h; program = 0; limit = 0; version = 1 } ≡ record_at bytes base chunk k
  unfolding record_at
  record-made chunk s e f w h p q t u v = cc

  pub record2-made : (chunk limit d s e h g : ℕ) → d ≡ word bytes (k + 8) 4 → s ≡ start_at bytes base k → e ≡ end_at bytes base k →
      h ≡ handlers_of chunk d → g ≡ address_of chunk (offset_of d) →
      record { start = s; end = e; frame = 0; handlers = h; program = g; limit = limit; version = 2 } ≡ record_at2 bytes base chunk limit k
  unfolding record_at2
  record2-made chunk limit d s e h g p q t u v = cc
