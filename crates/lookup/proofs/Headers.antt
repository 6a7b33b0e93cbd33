-- Laws of `stride`, `faulty` and `head_at`. Assumes nothing.
use Rattle.std.specs.Prelude.{Option, None, Some, if◌then◌else◌}
use mathlib.Core.Path.{◌≡◌, refl, sym, ◌∙◌, ap, subst}
use mathlib.Core.Bool.{Bool, true, false, not, ◌||◌, or-true}
use mathlib.Core.List.{List}
use Prim.Native.Nat.{ℕ, zero, suc, ◌+◌, ◌-◌, ◌*◌, ◌%◌, ◌≤◌, ◌<◌}
use native.Mathlib.Omega.{arith}
use lib.Dec.{eqb, ltb}
use lib.ListN.{length, get_or}
use borrow.Author.Tests.{eq-eqb, ne_eqb, lt-ltb, le-ltb, eqb-true, eqb-false, ltb-false}
use Rattle.mem.proofs.Tests.{leb_same}
use Rattle.failure.specs.Outcome.{Outcome, Refused, Answer}
use Rattle.failure.specs.Failure.{BadEkoHeader}
use Rattle.failure.proofs.Outcome.{answer-refused}
use Rattle.lookup.specs.Field.{word}
use Rattle.lookup.specs.Header.{stride, chunk_at, faulty, head_at}
use Rattle.lookup.specs.Steps.{Inside}
use Rattle.lookup.specs.declared.Chunk.{Chunk}
use Rattle.lookup.proofs.Fields.{word_none, word_more}

-- neither test of a disjunction holds
neither : (s t : Bool) → (s || t) ≡ false → (s ≡ false) × (t ≡ false)
neither true t e = (e, absurd_true e)
  where
    absurd_true : true ≡ false → t ≡ false
    absurd_true p = cc
neither false t e = (refl, e)

-- what stands above a byte
higher : (n b a : ℕ) → b < 256 → a < 256 → b + 256 * n ≡ a + 256 → n ≡ 1
higher zero b a h g e = absurd (omega arith)
higher (suc zero) b a h g e = refl
higher (suc (suc n)) b a h g e = absurd (omega arith)

-- a record has at most 16 bytes
pub stride_small : (v : ℕ) → stride v ≤ 16
unfolding stride
stride_small v = go (eqb v 1) (eqb v 2)
  where
    go : (s t : Bool) → (if s then 16 else if t then 12 else 0) ≤ 16
    go true t = omega arith
    go false true = omega arith
    go false false = omega arith

-- a known version's has at least 12, one of version 1 has 16, another 12
stride-known : (v : ℕ) → (stride v ≡ 0 → ⊥) → (12 ≤ stride v) × (v ≡ 1 → stride v ≡ 16) × ((v ≡ 1 → ⊥) → stride v ≡ 12)
unfolding stride
stride-known v h = go (eqb v 1) refl (eqb v 2) refl
  where
    go : (s : Bool) → eqb v 1 ≡ s → (t : Bool) → eqb v 2 ≡ t → (12 ≤ stride v) × (v ≡ 1 → stride v ≡ 16) × ((v ≡ 1 → ⊥) → stride v ≡ 12)
    go true e t f = rw e (omega arith, λ _. refl, λ two. absurd (two (eqb-true v 1 e)))
    go false e true f = rw (e, f) (omega arith, λ one. absurd (eqb-false v 1 e one), λ _. refl)
    go false e false f = absurd (h (rw (e, f)))

-- the chunk that is made of the fields that were read
pub chunk-made : (bytes : List ℕ) (k v t n z : ℕ) → v ≡ word bytes (k + 4) 1 → t ≡ stride v → n ≡ word bytes (k + 8) 4 → z ≡ word bytes (k + 12) 4 →
    record { offset = k; version = v; stride = t; count = n; size = z } ≡ chunk_at bytes k
unfolding chunk_at
chunk-made bytes k v t n z p q r s = cc

-- its version
pub chunk-version : (bytes : List ℕ) (k : ℕ) (c : Chunk) → c ≡ chunk_at bytes k → c.version ≡ word bytes (k + 4) 1
unfolding chunk_at
chunk-version bytes k c e = rw e

-- the chunk of a version, with the stride written out; another version's has none
module _ (bytes : List ℕ) (k : ℕ) (c : Chunk) (e : c ≡ chunk_at bytes k) where
  by_version : c.stride ≡ stride c.version
  unfolding chunk_at
  by_version = rw e

  pub chunk_of_1 : c.version ≡ 1 → record { offset = c.offset; version = 1; stride = 16; count = c.count; size = c.size } ≡ chunk_at bytes k
  unfolding stride
  chunk_of_1 v =
      let s : c.stride ≡ 16 = by_version ∙ simp (eq-eqb _ _ v) in
      rw (sym v, sym s) e

  pub chunk_of_2 : c.version ≡ 2 → record { offset = c.offset; version = 2; stride = 12; count = c.count; size = c.size } ≡ chunk_at bytes k
  unfolding stride
  chunk_of_2 v =
      let s : c.stride ≡ 12 = by_version ∙ rw v in
      rw (sym v, sym s) e

  pub chunk_unknown : (c.version ≡ 1 → ⊥) → (c.version ≡ 2 → ⊥) → c.stride ≡ 0
  unfolding stride
  chunk_unknown one two = by_version ∙ simp (ne_eqb _ _ one, ne_eqb _ _ two)

-- what a chunk that does not get 17 passed
faultless_tests : (bytes : List ℕ) (arch k : ℕ) (c : Chunk) → faulty bytes arch k c ≡ false →
    (c.stride ≡ 0 → ⊥) × (16 + c.count * c.stride ≤ c.size) × (k + c.size ≤ length bytes)
unfolding faulty
faultless_tests bytes arch k c f =
    let t = none (not (eqb (word bytes k 4) 0x5755_4b45)) (eqb c.stride 0) (not (eqb (word bytes (k + 5) 1) arch))
    (not (eqb (word bytes (k + 6) 2) 1)) (ltb c.size (16 + c.count * c.stride)) (not (eqb (c.size % 4) 0))
    (ltb (length bytes) (k + c.size)) f in
    (eqb-false _ _ t.0, ltb-false _ _ t.1, ltb-false _ _ t.2)
  where
    none : (magic version code flags small odd over : Bool) →
        (magic || version || code || flags || small || odd || over) ≡ false →
        (version ≡ false) × (small ≡ false) × (over ≡ false)
    none magic version code flags small odd over e =
        let (e₆, ends) = neither (magic || version || code || flags || small || odd) over e in
        let (e₅, even) = neither (magic || version || code || flags || small) odd e₆ in
        let (e₄, room) = neither (magic || version || code || flags) small e₅ in
        let (e₃, one) = neither (magic || version || code) flags e₄ in
        let (e₂, own) = neither (magic || version) code e₃ in
        let (e₁, known) = neither magic version e₂ in
        (known, room, ends)

module _ (bytes : List ℕ) (arch k : ℕ) where
  -- which case holds
  pub head_padding : word bytes k 4 ≡ 0 → Answer None ≡ head_at bytes arch k
  unfolding head_at
  head_padding z = simp (eq-eqb _ _ z)

  pub head_fault : (word bytes k 4 ≡ 0 → ⊥) → (c : Chunk) → c ≡ chunk_at bytes k → faulty bytes arch k c ≡ true → Refused BadEkoHeader ≡ head_at bytes arch k
  unfolding head_at
  head_fault z c e f = simp (ne_eqb _ _ z, rw e at f)

  pub head_here : (word bytes k 4 ≡ 0 → ⊥) → (c : Chunk) → c ≡ chunk_at bytes k → faulty bytes arch k c ≡ false → Answer (Some c) ≡ head_at bytes arch k
  unfolding head_at
  head_here z c e f = simp (ne_eqb _ _ z, rw e at f) (ap (λ (x : Chunk). Answer (Some x)) e)

  -- each test for 17
  module _ (c : Chunk) where
    pub fault_magic : (word bytes k 4 ≡ 0x5755_4b45 → ⊥) → faulty bytes arch k c ≡ true
    unfolding faulty
    fault_magic h = simp (ne_eqb _ _ h)

    pub fault_version : c.stride ≡ 0 → faulty bytes arch k c ≡ true
    unfolding faulty
    fault_version h = simp (eq-eqb _ _ h, or-true)

    fault_arch : (word bytes (k + 5) 1 ≡ arch → ⊥) → faulty bytes arch k c ≡ true
    unfolding faulty
    fault_arch h = simp (ne_eqb _ _ h, or-true)

    fault_flags : (word bytes (k + 6) 2 ≡ 1 → ⊥) → faulty bytes arch k c ≡ true
    unfolding faulty
    fault_flags h = simp (ne_eqb _ _ h, or-true)

    -- version, architecture and flags in one word: `w` where the chunk's is `v`
    module _ (room : k + 8 ≤ length bytes) (w v : ℕ) (e : w ≡ word bytes (k + 4) 4) (f : v ≡ word bytes (k + 4) 1) where
      marks : w ≡ v + 256 * word bytes (k + 5) 1 + 65536 * word bytes (k + 6) 2
      marks =
          omega (arith, word_more bytes (k + 4) (k + 5) 3 (omega arith) (omega arith), word_more bytes (k + 5) (k + 6) 2 (omega arith) (omega arith), word_more bytes (k + 4) (k + 5) 0 (omega arith) (omega arith), word_more bytes (k + 5) (k + 6) 0 (omega arith) (omega arith), word_none bytes (k + 5), word_none bytes (k + 6))

      pub fault_marks : (w ≡ v + 256 * arch + 65536 → ⊥) → faulty bytes arch k c ≡ true
      fault_marks h = go (eqb (word bytes (k + 5) 1) arch) refl (eqb (word bytes (k + 6) 2) 1) refl
        where
          go : (s : Bool) → eqb (word bytes (k + 5) 1) arch ≡ s → (t : Bool) → eqb (word bytes (k + 6) 2) 1 ≡ t → faulty bytes arch k c ≡ true
          go false p t q = fault_arch (eqb-false _ _ p)
          go true p false q = fault_flags (eqb-false _ _ q)
          go true p true q = absurd (h (omega (arith, marks, eqb-true (word bytes (k + 5) 1) arch p, eqb-true (word bytes (k + 6) 2) 1 q)))

      pub marks_passed : get_or bytes (k + 5) 0 < 256 → arch < 256 → w ≡ v + 256 * arch + 65536 →
          (word bytes (k + 5) 1 ≡ arch) × (word bytes (k + 6) 2 ≡ 1)
      marks_passed b a h =
          let byte : word bytes (k + 5) 1 < 256 =
          omega (arith, word_more bytes (k + 5) (k + 6) 0 (omega arith) (omega arith), word_none bytes (k + 6)) in
          let flags = higher (word bytes (k + 6) 2) (word bytes (k + 5) 1) arch byte a (omega (arith, marks)) in
          (omega (arith, marks), flags)

    pub fault_small : c.size < 16 + c.count * c.stride → faulty bytes arch k c ≡ true
    unfolding faulty
    fault_small h = simp (lt-ltb _ _ h, or-true)

    pub fault_odd : (c.size % 4 ≡ 0 → ⊥) → faulty bytes arch k c ≡ true
    unfolding faulty
    fault_odd h = simp (ne_eqb _ _ h, or-true)

    -- the last one decides where no other holds
    pub fault_end : word bytes k 4 ≡ 0x5755_4b45 → (c.stride ≡ 0 → ⊥) → word bytes (k + 5) 1 ≡ arch → word bytes (k + 6) 2 ≡ 1 →
        16 + c.count * c.stride ≤ c.size → c.size % 4 ≡ 0 → k ≤ length bytes →
        ltb (length bytes - k) c.size ≡ faulty bytes arch k c
    unfolding faulty
    fault_end m v a f s o l =
        simp (eq-eqb _ _ m, ne_eqb _ _ v, eq-eqb _ _ a, eq-eqb _ _ f, le-ltb _ _ s, eq-eqb _ _ o)
        (leb_same (suc (length bytes - k)) c.size (suc (length bytes)) (k + c.size) (λ h. omega arith) (λ h. omega arith))

  -- a chunk that does not get 17 lies in the part with its records, and has its header
  chunk_inside : faulty bytes arch k (chunk_at bytes k) ≡ false →
      ((chunk_at bytes k).offset ≡ k) × Inside bytes (chunk_at bytes k) × (16 ≤ (chunk_at bytes k).size)
  unfolding chunk_at
  chunk_inside f =
      let t = faultless_tests bytes arch k (chunk_at bytes k) f in
      let s = stride-known (word bytes (k + 4) 1) t.0 in
      (refl, record { whole = t.2; room = t.1; long = s.0; one = s.1; two = s.2 }, omega (arith, t.1))

  pub header_room : Inside bytes (chunk_at bytes k) → k + 16 ≤ length bytes
  unfolding chunk_at
  header_room h = omega (arith, h.whole, h.room)

  -- no number but 17 is given
  pub head_refused : (n : ℕ) → head_at bytes arch k ≡ Refused n → n ≡ BadEkoHeader
  unfolding head_at
  head_refused n e = go (eqb (word bytes k 4) 0) refl (faulty bytes arch k (chunk_at bytes k)) refl
    where
      go : (z : Bool) → eqb (word bytes k 4) 0 ≡ z → (f : Bool) → faulty bytes arch k (chunk_at bytes k) ≡ f → n ≡ BadEkoHeader
      go true z f h = answer-refused None n (rw z at e)
      go false z true h =
          let p : ◌≡◌ {A = Outcome (Option Chunk)} (Refused BadEkoHeader) (Refused n) = rw (z, h) at e in
          cc
      go false z false h = answer-refused (Some (chunk_at bytes k)) n (rw (z, h) at e)

  -- where a chunk stands, it is the one whose header is read there, and does not get 17
  head_made : (c : Chunk) → head_at bytes arch k ≡ Answer (Some c) → (chunk_at bytes k ≡ c) × (faulty bytes arch k (chunk_at bytes k) ≡ false)
  unfolding head_at
  head_made c e = go (eqb (word bytes k 4) 0) refl (faulty bytes arch k (chunk_at bytes k)) refl
    where
      padding : ◌≡◌ {A = Outcome (Option Chunk)} (Answer None) (Answer (Some c)) → ⊥
      padding p = let z : ◌≡◌ {A = ℕ} 0 1 = cc in omega arith

      fault : ◌≡◌ {A = Outcome (Option Chunk)} (Refused BadEkoHeader) (Answer (Some c)) → ⊥
      fault p = let z : ◌≡◌ {A = ℕ} 0 1 = cc in omega arith

      same : ◌≡◌ {A = Outcome (Option Chunk)} (Answer (Some (chunk_at bytes k))) (Answer (Some c)) → chunk_at bytes k ≡ c
      same p = cc

      go : (z : Bool) → eqb (word bytes k 4) 0 ≡ z → (f : Bool) → faulty bytes arch k (chunk_at bytes k) ≡ f →
          (chunk_at bytes k ≡ c) × (faulty bytes arch k (chunk_at bytes k) ≡ false)
      go true z f h = absurd (padding (rw z at e))
      go false z true h = absurd (fault (rw (z, h) at e))
      go false z false h = (same (rw (z, h) at e), h)

  -- it starts there, lies in the part with its records, and has its header
  pub head_inside : (c : Chunk) → head_at bytes arch k ≡ Answer (Some c) → (c.offset ≡ k) × Inside bytes c × (16 ≤ c.size)
  head_inside c e =
      let (same, passed) = head_made c e in
      subst (λ (x : Chunk). (x.offset ≡ k) × Inside bytes x × (16 ≤ x.size)) same (chunk_inside passed)

  pub head_chunk : (c : Chunk) → head_at bytes arch k ≡ Answer (Some c) → c ≡ chunk_at bytes c.offset
  head_chunk c e = sym (head_made c e).0 ∙ ap (chunk_at bytes) (sym (head_inside c e).0)
