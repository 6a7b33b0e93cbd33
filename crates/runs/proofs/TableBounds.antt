-- Which tables at the bounds are good. Assumes nothing.
use mathlib.Core.Bool.{true, false}
use mathlib.Core.List.{[], ◌∷◌}
use mathlib.Core.Path.{◌≡◌, refl}
use Rattle.model.specs.Sound.{good_table}
use Rattle.runs.specs.TableBounds.{tables_of, record2, good1, good2}
use Rattle.runs.proofs.Computing.{computing}

-- version 1
pub aarch64-tables1 : good1 1 ≡ true ∷ false ∷ true ∷ false ∷ false ∷ true ∷ false ∷ false ∷ false ∷ []
unfolding computing
aarch64-tables1 = refl

pub x86_tables1 : good1 2 ≡ true ∷ false ∷ true ∷ false ∷ false ∷ true ∷ false ∷ false ∷ false ∷ []
unfolding computing
x86_tables1 = refl

-- version 2: an advance counts 4 bytes on aarch64, and one on x86-64
pub aarch64_tables2 : good2 1 3 ≡ true ∷ false ∷ true ∷ false ∷ []
unfolding computing
aarch64_tables2 = refl

pub x86_tables2 : good2 2 15 ≡ true ∷ false ∷ true ∷ false ∷ []
unfolding computing
x86_tables2 = refl

-- a record without a table, whatever its program
pub tableless : good_table (tables_of 2 (65 ∷ [])) (record2 0 0x1001) ≡ true
unfolding computing
tableless = refl
