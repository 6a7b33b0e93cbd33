-- The live slots of open frames, by a frame's number and by its place in the list. Assumes nothing.
use mathlib.Core.List.Memᴰ
use mathlib.Core.List.{List, [], ◌∷◌, Memᴰ}
use mathlib.Core.Logic.{⊎_elim}
use mathlib.Core.Option.{some}
use mathlib.Core.Path.{◌≡◌, sym, ◌∙◌, subst}
use Prim.Native.Nat.{ℕ, zero, suc, ◌≤◌}
use native.Mathlib.Omega.{arith}
use lib.ListN.{drop, get_elem?}
use Rattle.mem.specs.Memory.{Region}
use Rattle.arch.specs.Arch.{Arch}
use Rattle.model.specs.Machine.{Open}
use Rattle.model.specs.OtherStack.{SameSlots}
use Rattle.model.proofs.Chain.{Live, AllLive}

-- frame number k is one of those from number n on
pub from-number : (n : ℕ) (fs : List Open) (k : ℕ) (f : Open) → n ≤ k → get_elem? fs k ≡ some f → Memᴰ f (drop n fs)
from-number n [] k f least at = let z : ◌≡◌ {A = ℕ} 0 1 = cc in absurd (omega arith)
from-number zero (g ∷ fs) zero f least at = let same : g ≡ f = cc in Memᴰ.head (sym same)
from-number zero (g ∷ fs) (suc k) f least at = Memᴰ.tail (from-number zero fs k f (omega arith) at)
from-number (suc n) (g ∷ fs) zero f least at = absurd (omega arith)
from-number (suc n) (g ∷ fs) (suc k) f least at = from-number n fs k f (omega arith) at

-- one of those from number n on is one of them all
pub from-drop : (n : ℕ) (fs : List Open) (f : Open) → Memᴰ f (drop n fs) → Memᴰ f fs
from-drop zero fs f i = i
from-drop (suc n) [] f i = absurd (Memᴰ.not-nil i)
from-drop (suc n) (g ∷ fs) f i = Memᴰ.tail (from-drop n fs f i)

-- the live slots of one of the frames
pub live_in : (a : Arch) (r : Region) (fs : List Open) → AllLive a r fs → (f : Open) → Memᴰ f fs → Live a r f
live_in a r [] live f i = absurd (Memᴰ.not-nil i)
live_in a r (g ∷ fs) live f i =
    ⊎_elim
    (λ (s : f ≡ g). subst (Live a r) (sym s) live.0)
    (λ (t : Memᴰ f fs). live_in a r fs live.1 f t)
    (Memᴰ.cases_cons i)

-- those of frame number k
pub live_at : (a : Arch) (r : Region) (fs : List Open) → AllLive a r fs → (k : ℕ) (f : Open) → get_elem? fs k ≡ some f → Live a r f
live_at a r fs live k f e = live_in a r fs live f (from-number 0 fs k f (omega arith) e)

-- a stack in which they are the same holds the kept values in them
pub same_live : (a : Arch) (stack other : Region) (f : Open) → Live a stack f → SameSlots stack other f → Live a other f
same_live a stack other f live same p i =
    let here = live p i in
    let there = same p i in
    record { within = there.within; holding = there.same ∙ here.holding }

-- those of the frames from a later number on
pub live-from : (a : Arch) (r : Region) (fs : List Open) (n k : ℕ) → n ≤ k → AllLive a r (drop n fs) → AllLive a r (drop k fs)
live-from a r fs zero zero h live = live
live-from a r [] zero (suc k) h live = tt
live-from a r (f ∷ fs) zero (suc k) h live = live-from a r fs zero k (omega arith) live.1
live-from a r fs (suc n) zero h live = absurd (omega arith)
live-from a r [] (suc n) (suc k) h live = tt
live-from a r (f ∷ fs) (suc n) (suc k) h live = live-from a r fs n k (omega arith) live
