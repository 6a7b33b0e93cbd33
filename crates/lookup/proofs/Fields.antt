-- Laws of `word`, over the width. Assumes nothing.
use mathlib.Core.Path.{◌≡◌, refl}
use mathlib.Core.List.{List}
use Prim.Native.Nat.{ℕ, suc, ◌+◌, ◌*◌, ◌<◌}
use native.Mathlib.Numerals.{add-one}
use lib.ListN.{length, get_or}
use lib.Seq.{drop-cons}
use Rattle.lookup.specs.Field.{word}

-- no bytes hold 0
pub word_none : (bytes : List ℕ) (k : ℕ) → word bytes k 0 ≡ 0
unfolding word
word_none bytes k = refl

-- some bytes hold the first one and 256 times what the others hold
pub word_more : (bytes : List ℕ) (k j n : ℕ) → j ≡ k + 1 → k < length bytes →
    word bytes k (suc n) ≡ get_or bytes k 0 + 256 * word bytes j n
unfolding word
word_more bytes k j n e h = rw (e, add-one, drop-cons bytes k 0)
