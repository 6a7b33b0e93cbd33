-- Demand 3 with stores between the calls: landing pads, and all that they call, write to the stack outside the live slots of the frames
-- not yet passed; the host lends the stack as it is.
use Rattle.std.specs.Prelude.{Bool, true, ◌&&◌, List, [], ◌∷◌, ◌≡◌, ℕ, length, drop}
use Rattle.mem.specs.Memory.{Region, size}
use Rattle.mem.specs.Opening.{apart}
use Rattle.mem.specs.Place.{holds}
use Rattle.frame.specs.Layout.{Pair}
use Rattle.model.specs.declared.Unwinding.{Unwinding}
use Rattle.model.specs.Machine.{Open, Machine, Fresh, arch_of, address, Store, stored}
use Rattle.model.specs.Event.{Event, steps}
use Rattle.model.specs.Throw.{Throw, throw_allowed}
use Rattle.model.specs.Sound.{Sound}
use Rattle.model.specs.Expected.{due, first_of}
use Rattle.model.specs.OtherStack.{with_stack}
use Rattle.model.specs.Demand.{ResumeCall, call_of, current, answers, unwinding_of}

-- a store lies in the stack
unfoldable pub fits_in : Region → Store → Bool
fits_in r w = holds r.base (size r) w.address (length w.bytes)

-- a store shares no address with the slots of these pairs below a CFA
abbrev pub spares_of : Store → ℕ → List Pair → Bool
spares_of w cfa [] = true
spares_of w cfa (p ∷ ps) = apart w.address (length w.bytes) (address cfa p.slot) 8 && spares_of w cfa ps

-- nor with any live slot of these frames
abbrev pub spares : Store → List Open → Bool
spares w [] = true
spares w (f ∷ fs) = spares_of w f.cfa f.spilled && spares w fs

-- the stack after stores
abbrev pub stored_all : Region → List Store → Region
stored_all r [] = r
stored_all r (w ∷ ws) = stored_all (stored r w) ws

-- each of them lies in the stack and spares the live slots of these frames
abbrev pub spares_all : Region → List Open → List Store → Bool
spares_all r fs [] = true
spares_all r fs (w ∷ ws) = fits_in r w && spares w fs && spares_all (stored r w) fs ws

-- the sweep calls of a host that lends the stack as it is, with these stores before each
abbrev pub calls_between : Machine → Unwinding → Region → List (List Store) → List ResumeCall
calls_between m u r [] = []
calls_between m u r (ws ∷ wss) =
    call_of (with_stack m (stored_all r ws)) u
    ∷ calls_between m (current u (call_of (with_stack m (stored_all r ws)) u)) (stored_all r ws) wss

-- each of those stores lies in the stack and spares the live slots of the frames that are not yet passed by then
abbrev pub SparedBetween : Machine → Unwinding → Region → List (List Store) → Type 0
SparedBetween m u r [] = Unit
SparedBetween m u r (ws ∷ wss) =
    (spares_all r (drop u.number m.frames) ws ≡ true)
    × SparedBetween m (current u (call_of (with_stack m (stored_all r ws)) u)) (stored_all r ws) wss

-- after a throw, with such stores between the calls, from the stack of the throw on: every call answers, and the answers are the
-- landings due, in order, then finished again and again
abbrev pub EveryLandingBetween : Machine → Throw → ℕ → Type 0
EveryLandingBetween m t exception =
    (wss : List (List Store)) → SparedBetween m (unwinding_of m t exception) m.stack wss →
    answers (arch_of m) (calls_between m (unwinding_of m t exception) m.stack wss) ≡ first_of (length wss) (due m t)

-- demand 3 with stores between the calls
abbrev pub Demand3Between : Type 0
Demand3Between =
    (m : Machine) → Fresh m → (es : List Event) (t : Throw) → throw_allowed (steps m es) t ≡ true → Sound (steps m es) t →
    (exception : ℕ) → EveryLandingBetween (steps m es) t exception
