-- Pairs whose slots hold kept values restore the kept file's columns, and spoil none. Assumes nothing.
use mathlib.Core.Path.{◌≡◌, refl, ◌∙◌}
use mathlib.Core.Bool.{Bool, true, false}
use mathlib.Core.List.Memᴰ
use mathlib.Core.List.{List, [], ◌∷◌, Memᴰ}
use mathlib.Core.Logic.{◌⊎◌, inl, inr}
use Prim.Native.Nat.{ℕ}
use native.Mathlib.Omega.{arith}
use lib.Dec.{eqb}
use lib.ListN as ListN
use lib.ListN.{length, get_or, length-set}
use lib.Seq.{get_or-set_same, get_or-set_other}
use borrow.Author.Tests.{eqb-true, eqb-false, ltb-true}
use Rattle.failure.specs.Outcome.{Answer}
use Rattle.mem.specs.Memory.{Memory}
use Rattle.arch.specs.Arch.{Arch}
use Rattle.arch.specs.File.{columns, set}
use Rattle.frame.specs.Layout.{Pair}
use Rattle.frame.specs.Apply.{load_slot, restore_pairs}
use Rattle.model.specs.Machine.{column, is_register, value}
use Rattle.model.proofs.Files.{register_known}

module _ (a : Arch) (m : Memory) (at : ℕ) (kept : List ℕ) where
  -- a pair names a register, and its slot holds the register's kept value
  pub record Holds (p : Pair) : Type 0 where
    pub load : load_slot m at p.slot ≡ Answer (value a kept p.reg)
    pub known : is_register a p.reg ≡ true

  -- the restored file: a column that had its kept value, or is a pair's, has it
  pub record Restored (ps : List Pair) (file : List ℕ) : Type 0 where
    pub next : List ℕ
    pub is : restore_pairs a m at ps file ≡ Answer next
    pub wide : length next ≡ columns
    pub stays : (k : ℕ) → get_or file k 0 ≡ get_or kept k 0 → get_or next k 0 ≡ get_or kept k 0
    pub set : (p : Pair) → Memᴰ p ps → value a next p.reg ≡ value a kept p.reg

  -- pairs that hold kept values restore
  pub restored :
      (ps : List Pair) (file : List ℕ) → length file ≡ columns → ((p : Pair) → Memᴰ p ps → Holds p) → Restored ps file
  unfolding value set is_register
  restored [] file l h =
      record { next = file; is = refl; wide = l; stays = λ k e. e; set = λ p i. absurd (Memᴰ.not-nil i) }
  restored (p ∷ ps) file l h =
      let rest = restored ps step (simp length-set l) (λ q i. h q (Memᴰ.tail i)) in
      record {
        next = rest.next;
        is = rw (here.load, register_known a p.reg here.known) rest.is;
        wide = rest.wide;
        stays = λ k e. rest.stays k (kept_by_lem k e);
        set = λ q i. by rest.next rest.stays rest.set q (Memᴰ.cases_cons i);
      }
    where
      here : Holds p
      here = h p (Memᴰ.head refl)

      k₀ : ℕ
      k₀ = column a p.reg

      step : List ℕ
      step = ListN.set file k₀ (get_or kept k₀ 0)

      placed : get_or step k₀ 0 ≡ get_or kept k₀ 0
      placed = get_or-set_same file k₀ (get_or kept k₀ 0) 0 (omega (arith, ltb-true k₀ columns here.known))

      kept_by_lem : (k : ℕ) → get_or file k 0 ≡ get_or kept k 0 → get_or step k 0 ≡ get_or kept k 0
      kept_by_lem k e = go (eqb k k₀) refl
        where
          go : (t : Bool) → eqb k k₀ ≡ t → get_or step k 0 ≡ get_or kept k 0
          go true q = rw (eqb-true k k₀ q) placed
          go false q = get_or-set_other file k₀ k (get_or kept k₀ 0) 0 (eqb-false k k₀ q) ∙ e

      by : (next : List ℕ) → ((k : ℕ) → get_or step k 0 ≡ get_or kept k 0 → get_or next k 0 ≡ get_or kept k 0) →
          ((q : Pair) → Memᴰ q ps → get_or next (column a q.reg) 0 ≡ get_or kept (column a q.reg) 0) →
          (q : Pair) → (q ≡ p) ⊎ Memᴰ q ps → get_or next (column a q.reg) 0 ≡ get_or kept (column a q.reg) 0
      by next stays there q (inl e) = rw e (stays k₀ placed)
      by next stays there q (inr i) = there q i
