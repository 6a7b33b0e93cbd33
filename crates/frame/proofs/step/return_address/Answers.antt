-- `frame::step::return_address` meets its contract. Assumes nothing.
use Rattle.std.proofs.Common.{ℕ, sym, ◌∙◌, ap, subst}
use Rattle.frame.specs.Apply.{load_slot}
use Rattle.frame.proofs.Ra.{ra_slot_one}
use Rattle.frame.proofs.Stepped.{address_register, address-slot}
use Rattle.frame.proofs.step.return_address.Goals as goal

pub returns-then-slot-eq0 : goal.returns-then-slot-eq0
returns-then-slot-eq0 g c = λ file e. address_register _ _ _ _ file _ (sym c.ra_slot-slot.ensures ∙ c.if-slot-eq0.true) e

pub load-requires : goal.load-requires
load-requires g c =
    let x = c.args in
    let one = c.ra_slot-slot.ensures ∙ ra_slot_one x.arch x.frame (λ z. c.if-slot-eq0.false (c.ra_slot-slot.ensures ∙ z)) in
    subst (λ (s : ℕ). g.S.Slots.within x.slots.now s) (sym one) c.requires

pub returns : goal.returns
returns g c =
    λ file e.
    address-slot _ _ _ _ file _ (λ z. c.if-slot-eq0.false (c.ra_slot-slot.ensures ∙ z))
    (c.load.ensures ∙ ap (load_slot _ _) c.ra_slot-slot.ensures)
