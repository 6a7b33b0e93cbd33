-- The row that the code finds in a version 2 table is that of the table's list of rows, and is not refused exactly where the list says so,
-- whatever else is lent. Assumes nothing.
use mathlib.Core.Path.{◌≡◌, refl, sym, ◌∙◌, ap}
use mathlib.Core.Bool.{true, false}
use mathlib.Core.List.{[], ◌∷◌}
use mathlib.Core.Logic.{⊎_elim}
use Prim.Native.Nat.{ℕ, ◌-◌, ◌^◌, ◌≤◌}
use native.Mathlib.Omega.{arith}
use borrow.Author.Tests.{eq-eqb}
use Rattle.failure.specs.Outcome.{Outcome, Refused, Answer}
use Rattle.mem.specs.Memory.{Region, Memory}
use Rattle.arch.specs.Arch.{Arch}
use Rattle.lookup.specs.declared.Record.{Record}
use Rattle.program.specs.Run.{Ran, run}
use Rattle.program.proofs.Offsets.{whole_at_32_bits}
use Rattle.rows.specs.Handler2.{handler2}
use Rattle.rows.specs.Prefix.{row_at}
use Rattle.rows.specs.NotRefused.{not_refused, answered}
use Rattle.rows.proofs.Section.{handler2-same}
use Rattle.rows.proofs.NotRefused.{handler2_not_refused, handler2-is}
use Rattle.personality.specs.Reason.{row_after}
use Rattle.model.specs.Throw.{rows2}
use Rattle.model.specs.Sound.{reads_to_end, ending2}
use Rattle.model.proofs.InSection.{Lies, run_lies}
use Rattle.model.proofs.After.{after-above}

-- a run that reads to END
record Ended (o : Outcome Ran) : Type 0 where
  pub ran : Ran
  pub is : o ≡ Answer ran
  pub whole : ran.after ≡ 0 → ⊥

-- what the test says
ended : (o : Outcome Ran) → reads_to_end o ≡ true → Ended o
ended (Refused n) e = let z : ◌≡◌ {A = ℕ} 0 1 = cc in absurd (omega arith)
ended (Answer ran) e = record { ran = ran; is = refl; whole = λ p. clash (rw (eq-eqb ran.after 0 p) at e) }
  where
    clash : false ≡ true → ⊥
    clash p = let z : ◌≡◌ {A = ℕ} 0 1 = cc in omega arith

module _ (a : Arch) (section : Region) (r : Record) (l : Lies section r)
    (e : Ended (run (section ∷ []) a r.program r.limit (2 ^ 32 - 1))) (ret : ℕ) where
  -- the table after END lies in the section
  from-base : section.base ≤ e.ran.after
  from-base =
      let above = after-above (section ∷ []) a r.limit (2 ^ 32 - 1) e.ran e.whole r.program e.is in
      ⊎_elim
      (λ (none : r.program ≡ 0). absurd (omega (arith, above.0)))
      (λ (low : section.base ≤ r.program). omega (arith, above.1))
      l.program

  -- the run at 2^64 - 1 is the one at 2^32 - 1, and the table is read in the section
  after_in : (m : Memory) → row_after a (section ∷ m) r ret ≡ handler2 (section ∷ []) e.ran.after r.limit ret
  unfolding row_after
  after_in m =
      let ran : run (section ∷ m) a r.program r.limit (2 ^ 64 - 1) ≡ Answer e.ran =
      run_lies section m [] a r l (2 ^ 64 - 1)
      ∙ sym (whole_at_32_bits (section ∷ []) a r.program r.limit e.ran e.whole e.is) ∙ e.is in
      rw ran (handler2-same section m [] r.limit l.limit e.ran.after ret from-base)

  -- so it is not refused exactly where it is answered by the table's rows
  not_refused2 : (m : Memory) →
      not_refused (row_after a (section ∷ m) r ret) ≡ answered ret (rows2 a (section ∷ []) r) (ending2 a (section ∷ []) r)
  unfolding rows2 ending2
  not_refused2 m = ap not_refused (after_in m) ∙ rw e.is (handler2_not_refused (section ∷ []) e.ran.after r.limit ret)

  -- and then is that of the list
  found2 : (m : Memory) → answered ret (rows2 a (section ∷ []) r) (ending2 a (section ∷ []) r) ≡ true →
      row_after a (section ∷ m) r ret ≡ Answer (row_at ret (rows2 a (section ∷ []) r))
  unfolding rows2 ending2
  found2 m good = after_in m ∙ rw e.is (handler2-is (section ∷ []) e.ran.after r.limit ret (rw e.is at good))

module _ (a : Arch) (section : Region) (m : Memory) (r : Record) (ret : ℕ) (l : Lies section r)
    (whole : reads_to_end (run (section ∷ []) a r.program r.limit (2 ^ 32 - 1)) ≡ true) where
  -- when the row of a version 2 record whose program reads to END is not refused
  pub row_not_refused2 : not_refused (row_after a (section ∷ m) r ret) ≡ answered ret (rows2 a (section ∷ []) r) (ending2 a (section ∷ []) r)
  row_not_refused2 = not_refused2 a section r l (ended (run (section ∷ []) a r.program r.limit (2 ^ 32 - 1)) whole) ret m

  -- then it is that of the list
  pub row_found2 : answered ret (rows2 a (section ∷ []) r) (ending2 a (section ∷ []) r) ≡ true →
      row_after a (section ∷ m) r ret ≡ Answer (row_at ret (rows2 a (section ∷ []) r))
  row_found2 good = found2 a section r l (ended (run (section ∷ []) a r.program r.limit (2 ^ 32 - 1)) whole) ret m good
