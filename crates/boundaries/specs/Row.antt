-- A row of the table: what is asked, and the papers' answer.
use Rattle.std.specs.Prelude.{List, [], ◌∷◌, ◌≡◌}

-- what the definitions give, and what the papers say
pub record Row (A : Type 0) : Type 0 where
  pub asked : A
  pub expected : A

infix 70 ◌gives◌
-- the first is asked, the second the papers' answer
abbrev pub ◌gives◌ : {A : Type 0} → A → A → Row A
◌gives◌ asked expected = record { asked = asked; expected = expected }

-- what is asked, row by row
abbrev pub all_asked : {A : Type 0} → List (Row A) → List A
all_asked [] = []
all_asked (r ∷ rs) = r.asked ∷ all_asked rs

-- what is expected, row by row
abbrev pub all_expected : {A : Type 0} → List (Row A) → List A
all_expected [] = []
all_expected (r ∷ rs) = r.expected ∷ all_expected rs

-- every row is right
abbrev pub Right : {A : Type 0} → List (Row A) → Type 0
Right rows = all_asked rows ≡ all_expected rows
