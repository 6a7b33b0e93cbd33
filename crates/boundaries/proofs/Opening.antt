-- The rows of `Opening`. Assumes nothing.
use mathlib.Core.Bool.{Bool, true, false, ◌&&◌}
use mathlib.Core.Path.{◌≡◌, refl}
use lib.ListN.{length}
use Rattle.mem.specs.Opening.{bounded, apart, opens}
use Rattle.boundaries.specs.Row.{Right}
use Rattle.boundaries.specs.Opening.{OpensByLength, bases, lengths, shared, architectures}
use Rattle.boundaries.proofs.Computing.{opening}

-- in whatever order the tests are made
reordered : (first second third : Bool) → (first && (third && true) && (second && true && true)) ≡ (first && second && third)
reordered true true true = refl
reordered true true false = refl
reordered true false true = refl
reordered true false false = refl
reordered false second third = refl

pub opens_by_length : OpensByLength
unfolding opens
opens_by_length section stack section_base stack_base =
    reordered (bounded section_base (length section)) (bounded stack_base (length stack))
    (apart section_base (length section) stack_base (length stack))

pub bases_right : Right bases
unfolding opening
bases_right = refl

pub lengths_right : Right lengths
unfolding opening
lengths_right = refl

pub shared_right : Right shared
unfolding opening
shared_right = refl

pub architectures_right : Right architectures
unfolding opening
architectures_right = refl
