-- Which sweep calls are regular beside those that are lent what the machine lends. Assumes nothing.
use mathlib.Core.Bool.{true}
use mathlib.Core.List.{[]}
use mathlib.Core.Logic.{inl}
use mathlib.Core.Path.{◌≡◌, refl, sym, ◌∙◌}
use Rattle.mem.specs.Memory.{Region}
use Rattle.mem.specs.Opening.{opens}
use Rattle.model.specs.declared.Unwinding.{Unwinding}
use Rattle.model.specs.Machine.{Machine, lent_by}
use Rattle.model.specs.OtherStack.{with_stack}
use Rattle.model.specs.Demand.{call_of, Regular}

-- an empty stack may begin elsewhere
pub empty-regular : (m : Machine) (other : Region) → m.stack.bytes ≡ [] → other.bytes ≡ [] →
    opens (lent_by (with_stack m other)) ≡ true → (u : Unwinding) → Regular m u (call_of (with_stack m other) u)
empty-regular m other own empty accepted u =
    record { stack = other; is = refl; accepted = accepted; bytes = empty ∙ sym own; base = inl empty }
