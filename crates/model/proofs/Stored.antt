-- Stores between the calls that spare live slots leave them as they were, and the stack in its place. Assumes nothing.
use mathlib.Core.Bool.{true, ◌&&◌}
use mathlib.Core.List.Memᴰ
use mathlib.Core.List.{List, [], ◌∷◌, ◌++◌, Memᴰ}
use mathlib.Core.Logic.{◌⊎◌, inl, inr, ⊎_elim}
use mathlib.Core.Path.{◌≡◌, refl, ◌∙◌, ap}
use Prim.Native.Nat.{ℕ, ◌+◌, ◌≤◌}
use native.Mathlib.Omega.{arith}
use lib.ListN.{length}
use Rattle.mem.specs.Memory.{Region, size}
use Rattle.mem.specs.Opening.{apart, opens}
use Rattle.mem.specs.Place.{holds}
use Rattle.mem.proofs.Tests.{both}
use Rattle.mem.proofs.Accepted.{apart_cases}
use Rattle.arch.specs.Arch.{Arch}
use Rattle.frame.specs.Layout.{Pair}
use Rattle.model.specs.Machine.{Open, Tables, lending, address, Store, stored}
use Rattle.model.specs.Between.{fits_in, spares_of, spares, stored_all, spares_all}
use Rattle.model.proofs.Chain.{Slot, AllLive}
use Rattle.model.proofs.Slots.{stored-slot, stored-lent}

-- stores, then others, are all of them
pub stored-append : (r : Region) (ws vs : List Store) → stored_all r (ws ++ vs) ≡ stored_all (stored_all r ws) vs
stored-append r [] vs = refl
stored-append r (w ∷ ws) vs = stored-append (stored r w) ws vs

-- and one is that one
pub stored_one : (r : Region) (w : Store) → stored_all r (w ∷ []) ≡ stored r w
stored_one r w = refl

-- a store that shares no address with 8 bytes stores none, or ends before them, or begins after them
beside : (x n y : ℕ) → apart x n y 8 ≡ true → (n ≡ 0) ⊎ ((x + n ≤ y) ⊎ (y + 8 ≤ x))
beside x n y e =
    ⊎_elim (λ q. inl (⊎_elim (λ z. z) (λ (z : 8 ≡ 0). absurd (omega arith)) q)) (λ q. inr q) (apart_cases x n y 8 e)

-- a store that lies in the stack
module _ (r : Region) (w : Store) (fits : fits_in r w ≡ true) where
  held : holds r.base (size r) w.address (length w.bytes) ≡ true
  unfolding fits_in
  held = fits

  -- a slot of these pairs that it spares is as it was
  slots-live : (a : Arch) (f : Open) (ps : List Pair) → spares_of w f.cfa ps ≡ true → (p : Pair) → Memᴰ p ps → Slot a r f p →
      Slot a (stored r w) f p
  slots-live a f [] e p j s = absurd (Memᴰ.not-nil j)
  slots-live a f (q ∷ ps) e p j s =
      let (here, rest) = both (apart w.address (length w.bytes) (address f.cfa q.slot) 8) (spares_of w f.cfa ps) e in
      ⊎_elim
      (λ (i : p ≡ q).
      stored-slot r w held a f p
      (beside w.address (length w.bytes) (address f.cfa p.slot)
      (ap (λ (o : Pair). apart w.address (length w.bytes) (address f.cfa o.slot) 8) i ∙ here))
      s)
      (λ (i : Memᴰ p ps). slots-live a f ps rest p i s)
      (Memᴰ.cases_cons j)

  -- so are those of these frames
  stored-live : (a : Arch) (fs : List Open) → spares w fs ≡ true → AllLive a r fs → AllLive a (stored r w) fs
  stored-live a [] e live = tt
  stored-live a (f ∷ fs) e live =
      let (here, rest) = both (spares_of w f.cfa f.spilled) (spares w fs) e in
      (λ p j. slots-live a f f.spilled here p j (live.0 p j), stored-live a fs rest live.1)

-- what stores leave: a stack that opens, with the live slots of these frames
pub record Left (a : Arch) (ts : Tables) (fs : List Open) (r : Region) : Type 0 where
  pub accepted : opens (lending ts r) ≡ true
  pub live : AllLive a r fs

pub stores_leave : (a : Arch) (ts : Tables) (fs : List Open) (r : Region) (ws : List Store) → spares_all r fs ws ≡ true → Left a ts fs r →
    Left a ts fs (stored_all r ws)
stores_leave a ts fs r [] h l = l
stores_leave a ts fs r (w ∷ ws) h l =
    let (front, rest) = both (fits_in r w && spares w fs) (spares_all (stored r w) fs ws) h in
    let (fits, spared) = both (fits_in r w) (spares w fs) front in
    stores_leave a ts fs (stored r w) ws rest
    (record { accepted = stored-lent r w (held r w fits) ts l.accepted; live = stored-live r w fits a fs spared l.live })
