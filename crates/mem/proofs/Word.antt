-- Laws of little-endian numbers, over the width. Assumes nothing.
use Rattle.std.proofs.Common.{◌≡◌, ℕ, zero, suc, ◌+◌, ◌*◌, ◌^◌, ◌<◌, List, [], ◌∷◌, length, get_or, take, drop, ap, ◌∙◌, suc-add, pow-suc, zero-add, add-one, arith, drop_of_length-le, drop-cons, drop-drop}
use lib.Seq.{take-nil}
use Rattle.mem.specs.Word.{little_endian, word_at}

-- the number from place k on is the byte there and 256 times the number after it
pub from_place : (b : List ℕ) (k : ℕ) → k < length b → little_endian (drop k b) ≡ get_or b k 0 + 256 * little_endian (drop (k + 1) b)
from_place b k h = rw (add-one, drop-cons b k 0)

-- past the last byte nothing is left
pub from_end : (b : List ℕ) (k : ℕ) → length b ≡ k → little_endian (drop k b) ≡ 0
from_end b k e = ap little_endian (drop_of_length-le b {i = k} (omega arith))

-- the number in n + m bytes: that in the first n, and 256 ^ n times that in the next m
pub joined : (n m : ℕ) (bs : List ℕ) → little_endian (take (n + m) bs) ≡ little_endian (take n bs) + 256 ^ n * little_endian (take m (drop n bs))
joined zero m bs = ap (λ (k : ℕ). little_endian (take k bs)) (zero-add m) ∙ omega arith
joined (suc n) m [] = rw (take-nil (suc n + m), take-nil m) (omega arith)
joined (suc n) m (b ∷ bs) = rw (suc-add n m, pow-suc 256 n) (omega (arith, joined n m bs))

-- the number in eight bytes, by their two words
pub two_words : (bytes : List ℕ) (k : ℕ) → little_endian (take 8 (drop k bytes)) ≡ word_at bytes k + 2 ^ 32 * word_at bytes (k + 4)
two_words bytes k = joined 4 4 (drop k bytes) ∙ ap (λ (bs : List ℕ). word_at bytes k + 2 ^ 32 * little_endian (take 4 bs)) (drop-drop 4 k bytes)
