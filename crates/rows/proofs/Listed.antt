-- A version 1 table that is whole and rises strictly, its rows being a list: `handler` is not refused exactly where the list has no row
-- with the offset, or a well-formed one, and then it answers that. Assumes nothing.
use Rattle.std.proofs.Common.{◌≡◌, refl, sym, ◌∙◌, ap, Bool, true, false, List, [], ◌∷◌, ◌⊎◌, inl, inr, ⊎_elim, ℕ, zero, suc, ◌<◌, arith, eqb, length, get_or, eqb-true}
use borrow.Author.Tests.{eqb-false}
use Rattle.failure.specs.Outcome.{Outcome, Answer}
use Rattle.mem.specs.Memory.{Memory}
use Rattle.rows.specs.Row.{Found, None, Pad, checked}
use Rattle.rows.specs.Handler.{Entry, row, handler}
use Rattle.rows.specs.Prefix.{row_at}
use Rattle.rows.specs.NotRefused.{not_refused, none_or_well_formed}
use Rattle.rows.proofs.Rising.{Rising, there, nowhere}
use Rattle.rows.proofs.NotRefused.{valid_said, checked_said}

-- row i of a list
abbrev pub nth : List Entry → ℕ → Entry
nth es i = get_or es i (row 0 0 0)

-- the row of an offset in a list is one of its rows
record RowOf (ret : ℕ) (es : List Entry) (i : ℕ) : Type 0 where
  pub within : i < length es
  pub at : (nth es i).offset ≡ ret
  pub is : row_at ret es ≡ Pad (nth es i).pad (nth es i).action

record Is (ret : ℕ) (es : List Entry) : Type 0 where
  pub index : ℕ
  pub row : RowOf ret es index

-- or no row has that offset
record IsNone (ret : ℕ) (es : List Entry) : Type 0 where
  pub other : (i : ℕ) → i < length es → (nth es i).offset ≡ ret → ⊥
  pub is : row_at ret es ≡ None

-- one of the two
row-at : (ret : ℕ) (es : List Entry) → Is ret es ⊎ IsNone ret es
row-at ret [] = inr (record { other = λ i l. absurd (omega arith); is = refl })
row-at ret (e ∷ es) = go (eqb e.offset ret) refl (row-at ret es)
  where
    go : (t : Bool) → eqb e.offset ret ≡ t → Is ret es ⊎ IsNone ret es → Is ret (e ∷ es) ⊎ IsNone ret (e ∷ es)
    go true p rest = inl (record { index = 0; row = record { within = omega arith; at = eqb-true e.offset ret p; is = rw p } })
    go false p (inl x) =
        inl (record { index = suc x.index; row = record { within = omega (arith, x.row.within); at = x.row.at; is = rw p x.row.is } })
    go false p (inr x) = inr (record { other = others; is = rw p x.is })
      where
        others : (i : ℕ) → i < length (e ∷ es) → (nth (e ∷ es) i).offset ≡ ret → ⊥
        others zero l = eqb-false e.offset ret p
        others (suc i) l = x.other i (omega arith)

-- the row that a list has, checked
abbrev checked_row : Found → Outcome Found
checked_row None = Answer None
checked_row (Pad pad action) = checked pad action

-- it is not refused exactly where there is none, or a well-formed one
checked_row_said : (f : Found) → not_refused (checked_row f) ≡ none_or_well_formed f
checked_row_said None = refl
checked_row_said (Pad pad action) = checked_said pad action

-- and then it is that row
checked_row_is : (f : Found) → none_or_well_formed f ≡ true → checked_row f ≡ Answer f
unfolding checked
checked_row_is None e = refl
checked_row_is (Pad pad action) e = rw (valid_said pad action ∙ e)

module _ (m : Memory) (table : ℕ) (es : List Entry) (count : ℕ) (long : length es ≡ count) (t : Rising m table count (nth es)) (ret : ℕ) where
  -- the row of the list, checked
  listed : handler m table ret ≡ checked_row (row_at ret es)
  listed = ⊎_elim is none (row-at ret es)
    where
      is : Is ret es → handler m table ret ≡ checked_row (row_at ret es)
      is x =
          ap (λ (k : ℕ). handler m table k) (sym x.row.at)
          ∙ there m table count (nth es) t x.index (omega (arith, x.row.within, long))
          ∙ ap checked_row (sym x.row.is)

      none : IsNone ret es → handler m table ret ≡ checked_row (row_at ret es)
      none x = nowhere m table count (nth es) t ret (λ i l. x.other i (omega (arith, long))) ∙ ap checked_row (sym x.is)

  -- the row of a version 1 table is not refused exactly where there is none, or a well-formed one
  pub handler_not_refused : not_refused (handler m table ret) ≡ none_or_well_formed (row_at ret es)
  handler_not_refused = ap not_refused listed ∙ checked_row_said (row_at ret es)

  -- and then it is the row that the table's rows have
  pub handler-is : none_or_well_formed (row_at ret es) ≡ true → handler m table ret ≡ Answer (row_at ret es)
  handler-is e = listed ∙ checked_row_is (row_at ret es) e
