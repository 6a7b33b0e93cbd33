-- The definitions of sums that wrap are addition and subtraction modulo 2^64, signed displacements included. Assumes nothing.
use Rattle.std.proofs.Common.{◌≡◌, ℕ, ◌+◌, ◌-◌, ◌%◌, ◌^◌, ◌<◌, ◌≤◌, Bool, true, false, ltb, refl, ap, ◌∙◌, arith, ltb-false, ltb-true, le-ltb, lt-ltb}
use native.Mathlib.Nat.{mod-add-mod, add-mod_right}
use Rattle.mem.specs.Wrapping.{sum, difference, signed32}

-- adding b to a - b gives a again
pub difference_undone : (a b : ℕ) → b ≤ 2 ^ 64 → sum (difference a b) b ≡ a % 2 ^ 64
difference_undone a b h =
    let whole : a + (2 ^ 64 - b) + b ≡ a + 2 ^ 64 = omega arith in
    mod-add-mod (a + (2 ^ 64 - b)) (2 ^ 64) b ∙ ap (λ (x : ℕ). x % 2 ^ 64) whole ∙ add-mod_right a (2 ^ 64)

-- a displacement below 2^31 is added
pub signed_forward : (a w : ℕ) → w < 2 ^ 31 → sum a (signed32 w) ≡ sum a w
signed_forward a w h = rw (lt-ltb w (2 ^ 31) h)

-- one from 2^31 on is subtracted: 2^32 - w of it
pub signed_back : (a w : ℕ) → 2 ^ 31 ≤ w → w < 2 ^ 32 → sum a (signed32 w) ≡ difference a (2 ^ 32 - w)
signed_back a w low high =
    let same : a + (w + (2 ^ 64 - 2 ^ 32)) ≡ a + (2 ^ 64 - (2 ^ 32 - w)) = omega arith in
    rw (le-ltb w (2 ^ 31) low) (ap (λ (x : ℕ). x % 2 ^ 64) same)

-- a word that is moved up by 2^31, modulo 2^32, and down again is read as a signed number
pub signed_made : (w s r : ℕ) → w < 2 ^ 32 → s ≡ (w + 2 ^ 31) % 2 ^ 32 → r ≡ sum s (2 ^ 64 - 2 ^ 31) → r ≡ signed32 w
signed_made w s r h p q = go (ltb w (2 ^ 31)) refl
  where
    go : (t : Bool) → ltb w (2 ^ 31) ≡ t → r ≡ signed32 w
    go true e = rw e (omega (arith, ltb-true w (2 ^ 31) e))
    go false e = rw e (omega (arith, ltb-false w (2 ^ 31) e))
