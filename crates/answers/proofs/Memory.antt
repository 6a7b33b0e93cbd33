-- The sizes, alignments and offsets of `specs/Layout` are those that the logic's own memory has for the structs as they are declared.
use mathlib.Core.Path.{◌≡◌, refl}
use mathlib.Core.List.{List, [], ◌∷◌, map, ◌++◌}
use mathlib.Core.Option.{Option, none, some}
use Prim.Native.Nat.{ℕ, zero, suc, ◌+◌}
use mir.Syntax.{Ty}
use prog.Memory.{size, align, field_of}
use denote.RattleType.{mirs}
use Rattle.answers.specs.Layout.{Field, offsets_from, struct, crossing}
use Rattle.arch.specs.contracts.Regs as Regs
use Rattle.lookup.specs.contracts.Record as Record
use Rattle.state.specs.contracts.State as State
use Rattle.model.specs.contracts.Unwinding as Unwinding
use Rattle.unwind.specs.contracts.Frames as Frames
use Rattle.answers.specs.contracts.Number as Number
use Rattle.answers.specs.contracts.File as File
use Rattle.answers.specs.contracts.Function as Function
use Rattle.answers.specs.contracts.Read as Read
use Rattle.answers.specs.contracts.Changed as Changed
use Rattle.answers.specs.contracts.Ended as Ended
use Rattle.answers.specs.contracts.RowFound as RowFound
use Rattle.answers.specs.contracts.Decided as Decided
use Rattle.answers.specs.contracts.Stepped as Stepped
use Rattle.answers.specs.contracts.Batch as Batch
use Rattle.answers.specs.contracts.Raised as Raised
use Rattle.answers.specs.contracts.Resumed as Resumed
use Rattle.answers.specs.contracts.layout.Layout as Layout

-- the structs that cross, as declared, in the order of `crossing`
abbrev pub declared : List Ty
declared =
    mirs
    (Regs.the_row ∷ Record.the_row ∷ State.the_row ∷ Unwinding.the_row ∷ Frames.the_row ∷ Number.the_row ∷ File.the_row ∷
    Function.the_row ∷ Read.the_row ∷ Changed.the_row ∷ Ended.the_row ∷ RowFound.the_row ∷ Decided.the_row ∷ Stepped.the_row ∷
    Batch.the_row ∷ Raised.the_row ∷ Resumed.the_row ∷ Layout.the_row ∷ [])

-- what a type takes in memory
abbrev pub taken : Ty → Field
taken τ = record { size = size τ; alignment = align τ }

-- where a field begins
abbrev pub place : Option (Ty × ℕ) → List ℕ
place none = []
place (some field) = field.1 ∷ []

-- where the fields of a type begin from the k-th on, up to n of them
abbrev pub begins : Ty → ℕ → ℕ → List ℕ
begins τ k zero = []
begins τ k (suc n) = place (field_of τ k) ++ begins τ (k + 1) n

-- every struct takes what C's rule says
pub takes : map taken declared ≡ map struct crossing
takes = refl

-- and its fields, at most 14, begin where C's rule says
pub begin : map (λ (τ : Ty). begins τ 0 15) declared ≡ map (offsets_from 0) crossing
begin = refl
