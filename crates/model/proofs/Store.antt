-- Laws of `replaced`: what is put into bytes stands where it was put, and all else is as it was. Assumes nothing.
use mathlib.Core.Path.{◌≡◌, sym, ◌∙◌, ap}
use mathlib.Core.Logic.{◌⊎◌, inl, inr}
use mathlib.Core.List.{List, [], ◌∷◌, ◌++◌, append_assoc}
use Prim.Native.Nat.{ℕ, zero, suc, ◌+◌, ◌-◌, ◌/◌, ◌^◌, ◌≤◌, ◌<◌}
use native.Mathlib.Nat.{mod-add-div, pow-suc}
use native.Mathlib.Omega.{arith}
use lib.ListN.{length, take, drop, length-take, length-drop, length-append, take-append-drop}
use lib.Seq.{length-take-le, take-append-le, drop-append-le, take-append_seam, drop_at, drop-drop}
use Rattle.mem.specs.Word.{little_endian}
use Rattle.lookup.specs.Field.{word}
use Rattle.model.specs.Machine.{bytes_for, replaced}

-- n bytes of the first part stand there whatever comes after it
first_part : (n j : ℕ) (p q : List ℕ) → j + n ≤ length p → take n (drop j (p ++ q)) ≡ take n (drop j p)
first_part n j p q h =
    let inner : n ≤ length (drop j p) = simp length-drop (omega arith) in
    let outer : j ≤ length p = omega arith in
    rw (drop-append-le j p q outer, take-append-le n (drop j p) q inner)

module _ (bytes new : List ℕ) (k : ℕ) (fits : k + length new ≤ length bytes) where
  -- there are as many bytes
  pub replaced-length : length (replaced bytes k new) ≡ length bytes
  unfolding replaced
  replaced-length = simp (length-append, length-take, length-drop) (omega arith)

  -- so many stand before them
  before : length (take k bytes) ≡ k
  before = length-take-le k bytes (omega arith)

  -- they stand there
  replaced_there : take (length new) (drop k (replaced bytes k new)) ≡ new
  unfolding replaced
  replaced_there =
      rw (drop_at (take k bytes) (new ++ drop (k + length new) bytes) k before) (take-append_seam new (drop (k + length new) bytes))

  -- what stands before
  replaced-before : (n j : ℕ) → j + n ≤ k → take n (drop j (replaced bytes k new)) ≡ take n (drop j bytes)
  unfolding replaced
  replaced-before n j h =
      let inner : j + n ≤ length (take k bytes) = omega (arith, before) in
      first_part n j (take k bytes) (new ++ drop (k + length new) bytes) inner
      ∙ sym (first_part n j (take k bytes) (drop k bytes) inner)
      ∙ ap (λ (l : List ℕ). take n (drop j l)) (take-append-drop k bytes)

  -- what stands after
  replaced-after : (j : ℕ) → k + length new ≤ j → drop j (replaced bytes k new) ≡ drop j bytes
  unfolding replaced
  replaced-after j h =
      let end : ℕ = k + length new in
      let split : j ≡ end + (j - end) = omega arith in
      let head : length (take k bytes ++ new) ≡ end = length-append (take k bytes) new ∙ ap (λ (x : ℕ). x + length new) before in
      let rest : drop end (replaced bytes k new) ≡ drop end bytes =
      ap (λ (l : List ℕ). drop end l) (sym (append_assoc (take k bytes) new (drop end bytes)))
      ∙ drop_at (take k bytes ++ new) (drop end bytes) end head in
      ap (λ (x : ℕ). drop x (replaced bytes k new)) split
      ∙ sym (drop-drop (j - end) end (replaced bytes k new))
      ∙ ap (λ (l : List ℕ). drop (j - end) l) rest
      ∙ drop-drop (j - end) end bytes
      ∙ ap (λ (x : ℕ). drop x bytes) (sym split)

-- no bytes change nothing
replaced_none : (bytes : List ℕ) (k : ℕ) → replaced bytes k [] ≡ bytes
unfolding replaced
replaced_none bytes k =
    let same : k + 0 ≡ k = omega arith in
    ap (λ (n : ℕ). take k bytes ++ drop n bytes) same ∙ take-append-drop k bytes

-- 8 bytes that lie apart are as they were
pub replaced-apart :
    (bytes new : List ℕ) (k j : ℕ) → k + length new ≤ length bytes → (length new ≡ 0) ⊎ ((j + 8 ≤ k) ⊎ (k + length new ≤ j)) →
    word (replaced bytes k new) j 8 ≡ word bytes j 8
unfolding word
replaced-apart bytes [] k j fits away = ap (λ (l : List ℕ). little_endian (take 8 (drop j l))) (replaced_none bytes k)
replaced-apart bytes (b ∷ new) k j fits (inl none) = absurd (omega arith)
replaced-apart bytes (b ∷ new) k j fits (inr (inl l)) = ap little_endian (replaced-before bytes (b ∷ new) k fits 8 j l)
replaced-apart bytes (b ∷ new) k j fits (inr (inr g)) =
    ap (λ (l : List ℕ). little_endian (take 8 l)) (replaced-after bytes (b ∷ new) k fits j g)

-- the n bytes of a number that fits them stand for it
number_back : (n v : ℕ) → v < 256 ^ n → little_endian (bytes_for n v) ≡ v
number_back zero v h = omega arith
number_back (suc n) v h =
    let less : v / 256 < 256 ^ n = omega (arith, pow-suc 256 n, mod-add-div v 256) in
    omega (arith, number_back n (v / 256) less, mod-add-div v 256)

-- a number put into 8 bytes stands there
pub number_there : (bytes : List ℕ) (k v : ℕ) → k + 8 ≤ length bytes → v < 2 ^ 64 → word (replaced bytes k (bytes_for 8 v)) k 8 ≡ v
unfolding word
number_there bytes k v h l = ap little_endian (replaced_there bytes (bytes_for 8 v) k h) ∙ number_back 8 v l
