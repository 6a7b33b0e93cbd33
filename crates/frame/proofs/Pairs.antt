-- Laws of `restore_pairs`, one pair at a time. Assumes nothing.
use mathlib.Core.Path.{◌≡◌, refl, sym, ◌∙◌, ap}
use mathlib.Core.List.{List, [], ◌∷◌, ◌++◌}
use Prim.Native.Nat.{ℕ}
use native.Mathlib.Omega.{arith}
use lib.ListN as ListN
use lib.ListN.{length, length-set}
use Rattle.failure.specs.Outcome.{Outcome, Refused, Answer, ◌>>=◌}
use Rattle.mem.specs.Memory.{Memory}
use Rattle.arch.specs.Arch.{Arch}
use Rattle.arch.specs.File.{column_of, set}
use Rattle.frame.specs.Layout.{Pair}
use Rattle.frame.specs.Apply.{load_slot, restore_pairs}
use Rattle.frame.proofs.Cell.{Cell, cell_of}

module _ (a : Arch) (m : Memory) (at : ℕ) (p : Pair) (ps : List Pair) (file : List ℕ) where
  -- the first pair's cell is set, and the others follow
  restore-first :
      restore_pairs a m at (p ∷ ps) file ≡
      (cell_of a m at p >>= λ (c : Cell). restore_pairs a m at ps (ListN.set file c.column c.value))
  unfolding cell_of set
  restore-first = read (load_slot m at p.slot) refl
    where
      known : (v : ℕ) → load_slot m at p.slot ≡ Answer v → (o : Outcome ℕ) → column_of a p.reg ≡ o →
          restore_pairs a m at (p ∷ ps) file ≡
          (cell_of a m at p >>= λ (c : Cell). restore_pairs a m at ps (ListN.set file c.column c.value))
      known v e (Refused n) f = rw (e, f)
      known v e (Answer k) f = rw (e, f)

      read : (o : Outcome ℕ) → load_slot m at p.slot ≡ o →
          restore_pairs a m at (p ∷ ps) file ≡
          (cell_of a m at p >>= λ (c : Cell). restore_pairs a m at ps (ListN.set file c.column c.value))
      read (Refused n) e = rw e
      read (Answer v) e = known v e (column_of a p.reg) refl

  pub restore-set :
      (k v : ℕ) → Answer (record { column = k; value = v }) ≡ cell_of a m at p →
      restore_pairs a m at (p ∷ ps) file ≡ restore_pairs a m at ps (ListN.set file k v)
  restore-set k v e = rw restore-first (rw (sym e))

  pub restore_refused : (n : ℕ) → Refused n ≡ cell_of a m at p → restore_pairs a m at (p ∷ ps) file ≡ Refused n
  restore_refused n e = rw restore-first (rw (sym e))

-- pairs one after the other
pub restore-append :
    (a : Arch) (m : Memory) (at : ℕ) (ps qs : List Pair) (file : List ℕ) →
    restore_pairs a m at (ps ++ qs) file ≡ (restore_pairs a m at ps file >>= restore_pairs a m at qs)
restore-append a m at [] qs file = refl
restore-append a m at (p ∷ ps) qs file = read (load_slot m at p.slot) refl (λ next. restore-append a m at ps qs next)
  where
    put : (v : ℕ) → load_slot m at p.slot ≡ Answer v → (o : Outcome (List ℕ)) → set a file p.reg v ≡ o →
        ((next : List ℕ) → restore_pairs a m at (ps ++ qs) next ≡ (restore_pairs a m at ps next >>= restore_pairs a m at qs)) →
        restore_pairs a m at (p ∷ ps ++ qs) file ≡ (restore_pairs a m at (p ∷ ps) file >>= restore_pairs a m at qs)
    put v e (Refused n) f rest = rw (e, f)
    put v e (Answer next) f rest = rw (e, f) (rest next)

    read : (o : Outcome ℕ) → load_slot m at p.slot ≡ o →
        ((next : List ℕ) → restore_pairs a m at (ps ++ qs) next ≡ (restore_pairs a m at ps next >>= restore_pairs a m at qs)) →
        restore_pairs a m at (p ∷ ps ++ qs) file ≡ (restore_pairs a m at (p ∷ ps) file >>= restore_pairs a m at qs)
    read (Refused n) e rest = rw e
    read (Answer v) e rest = put v e (set a file p.reg v) refl rest

-- a set keeps the number of columns
set-length : (a : Arch) (file : List ℕ) (reg v : ℕ) (next : List ℕ) → set a file reg v ≡ Answer next → length next ≡ length file
unfolding set
set-length a file reg v next = go (column_of a reg) refl
  where
    go : (o : Outcome ℕ) → column_of a reg ≡ o → set a file reg v ≡ Answer next → length next ≡ length file
    go (Refused n) e p =
        let q : ◌≡◌ {A = Outcome (List ℕ)} (Refused n) (Answer next) = rw e at p in
        let z : ◌≡◌ {A = ℕ} 0 1 = cc in
        absurd (omega arith)
    go (Answer k) e p =
        let q : Answer (ListN.set file k v) ≡ Answer next = rw e at p in
        let r : ListN.set file k v ≡ next = cc in
        ap length (sym r) ∙ simp length-set

-- and so do pairs
pub restore-length :
    (a : Arch) (m : Memory) (at : ℕ) (ps : List Pair) (file next : List ℕ) → restore_pairs a m at ps file ≡ Answer next →
    length next ≡ length file
restore-length a m at [] file next e = let r : file ≡ next = cc in ap length (sym r)
restore-length a m at (p ∷ ps) file next e = read (load_slot m at p.slot) refl (λ f q. restore-length a m at ps f next q)
  where
    put : (v : ℕ) → load_slot m at p.slot ≡ Answer v → (o : Outcome (List ℕ)) → set a file p.reg v ≡ o →
        ((f : List ℕ) → restore_pairs a m at ps f ≡ Answer next → length next ≡ length f) → length next ≡ length file
    put v l (Refused n) s rest =
        let q : ◌≡◌ {A = Outcome (List ℕ)} (Refused n) (Answer next) = rw (l, s) at e in
        let z : ◌≡◌ {A = ℕ} 0 1 = cc in
        absurd (omega arith)
    put v l (Answer f) s rest = rest f (rw (l, s) at e) ∙ set-length a file p.reg v f s

    read : (o : Outcome ℕ) → load_slot m at p.slot ≡ o →
        ((f : List ℕ) → restore_pairs a m at ps f ≡ Answer next → length next ≡ length f) → length next ≡ length file
    read (Refused n) l rest =
        let q : ◌≡◌ {A = Outcome (List ℕ)} (Refused n) (Answer next) = rw l at e in
        let z : ◌≡◌ {A = ℕ} 0 1 = cc in
        absurd (omega arith)
    read (Answer v) l rest = put v l (set a file p.reg v) refl rest
