-- The loop over n pairs: what is left after i of them. Assumes nothing.
use mathlib.Core.Path.{◌≡◌, ◌∙◌, ap}
use mathlib.Core.List.{List}
use Prim.Native.Nat.{ℕ, suc, ◌+◌, ◌-◌, ◌≤◌, ◌<◌}
use native.Mathlib.Omega.{arith}
use lib.ListN as ListN
use lib.ListN.{get_or}
use Rattle.failure.specs.Outcome.{Outcome, Refused, Answer}
use Rattle.mem.specs.Memory.{Memory}
use Rattle.arch.specs.Arch.{Arch}
use Rattle.frame.specs.Layout.{Pair, pairs_at}
use Rattle.frame.specs.Apply.{restore_pairs}
use Rattle.frame.proofs.Cell.{cell_of}
use Rattle.frame.proofs.Pairs.{restore-set, restore_refused}

-- pair number i
abbrev pub pair_at : List ℕ → List ℕ → ℕ → Pair
pair_at regs slots i = record { reg = get_or regs i 0; slot = get_or slots i 0 }

-- after i pairs the file is one from which the pairs left give the whole outcome
pub record Turn (a : Arch) (m : Memory) (at n : ℕ) (regs slots : List ℕ) (whole : Outcome (List ℕ)) (file : List ℕ) (i : ℕ)
    : Type 0 where
  pub left : whole ≡ restore_pairs a m at (pairs_at (n - i) i regs slots) file

-- at first all pairs are left
pub turn_begin :
    (a : Arch) (m : Memory) (at n : ℕ) (regs slots file : List ℕ) →
    Turn a m at n regs slots (restore_pairs a m at (pairs_at n 0 regs slots) file) file 0
turn_begin a m at n regs slots file =
    let e : n ≡ n - 0 = omega arith in
    record { left = ap (λ (k : ℕ). restore_pairs a m at (pairs_at k 0 regs slots) file) e }

module _ {a : Arch} {m : Memory} {at n : ℕ} {regs slots : List ℕ} {whole : Outcome (List ℕ)} {file : List ℕ} {i : ℕ}
    (t : Turn a m at n regs slots whole file i) where
  -- no pair is left
  pub turn_over : n ≤ i → whole ≡ Answer file
  turn_over h = let k : n - i ≡ 0 = omega arith in t.left ∙ rw k

  module _ (h : i < n) where
    next : whole ≡ restore_pairs a m at (pairs_at (suc (n - (i + 1))) i regs slots) file
    next =
        let k : n - i ≡ suc (n - (i + 1)) = omega arith in
        t.left ∙ ap (λ (k : ℕ). restore_pairs a m at (pairs_at k i regs slots) file) k

    -- the next pair is set
    pub turn_set :
        (k v : ℕ) → Answer (record { column = k; value = v }) ≡ cell_of a m at (pair_at regs slots i) →
        Turn a m at n regs slots whole (ListN.set file k v) (i + 1)
    turn_set k v e =
        record { left = next ∙ restore-set a m at (pair_at regs slots i) (pairs_at (n - (i + 1)) (i + 1) regs slots) file k v e }

    -- or refused
    pub turn_refused : (x : ℕ) → Refused x ≡ cell_of a m at (pair_at regs slots i) → whole ≡ Refused x
    turn_refused x e =
        next ∙ restore_refused a m at (pair_at regs slots i) (pairs_at (n - (i + 1)) (i + 1) regs slots) file x e
