-- Tests that come out alike. Assumes nothing.
use Rattle.std.proofs.Common.{◌≡◌, ℕ, ◌<◌, ◌≤◌, Bool, true, false, ◌&&◌, ◌||◌, leb, ◌⊎◌, sym, refl, ◌∙◌, inl, inr, arith, le-leb, leb-false, leb-true}
use borrow.Author.Tests.{lt-leb}

-- two comparisons that imply each other come out alike
pub leb_same : (a b c d : ℕ) → (a ≤ b → c ≤ d) → (c ≤ d → a ≤ b) → leb a b ≡ leb c d
leb_same a b c d f g = go (leb c d) refl
  where
    go : (t : Bool) → leb c d ≡ t → leb a b ≡ leb c d
    go true e = le-leb a b (g (leb-true c d e)) ∙ sym e
    go false e =
        let no : a ≤ b → ⊥ = λ p. omega (arith, f p, leb-false c d e) in
        lt-leb a b (omega arith) ∙ sym e

-- one of two numbers is the smaller, or they are equal
pub lt_or_le : (a b : ℕ) → (a < b) ⊎ (b ≤ a)
lt_or_le a b = go (leb b a) refl
  where
    go : (t : Bool) → leb b a ≡ t → (a < b) ⊎ (b ≤ a)
    go true e = inr (leb-true b a e)
    go false e = inl (leb-false b a e)

-- both tests of a conjunction hold
pub both : (s t : Bool) → (s && t) ≡ true → (s ≡ true) × (t ≡ true)
both true true e = (refl, refl)
both true false e = (refl, e)
both false t e = (e, absurd_false e)
  where
    absurd_false : false ≡ true → t ≡ true
    absurd_false p = cc

-- one of two tests holds
pub either : (s t : Bool) → (s || t) ≡ true → (s ≡ true) ⊎ (t ≡ true)
either true t e = inl refl
either false t e = inr e
