-- The two files of a call: the registers as it leaves them, and the file that is kept. Assumes nothing.
use Rattle.std.specs.Prelude.{if◌then◌else◌}
use mathlib.Core.Path.{◌≡◌, refl}
use mathlib.Core.List.{List}
use Prim.Native.Nat.{ℕ, ◌-◌, ◌^◌, ◌≤◌, ◌<◌}
use native.Mathlib.Nat.{le_refl}
use native.Mathlib.Omega.{arith}
use lib.ListN.{get_or, set}
use lib.Seq.{get_or-set_same, get_or-set_other}
use Rattle.arch.specs.Arch.{Arch, numbers}
use Rattle.arch.specs.File.{pc_column, sp, pc, set_sp}
use Rattle.model.specs.Machine.{column, value}
use Rattle.model.specs.Event.{pushes, calling, kept_by}
use Rattle.model.proofs.Files.{pointers}
use Rattle.model.proofs.Allowed.{by_test}
use Rattle.model.proofs.Registers.{Returning, pushed, left, returning, set_keeps, Good, set_good}

module _ (arch : ℕ) (file : List ℕ) (g : Good file) (ret : ℕ) where
  abbrev a : Arch
  a = numbers arch

  -- the kept file before its pc is set
  abbrev under : List ℕ
  under = if pushes a then file else set file a.ra ret

  -- sp is at most what it was
  pub calling-sp : sp a (calling a file ret) ≤ sp a file
  unfolding calling
  calling-sp = go (returning arch)
    where
      go : Returning a → sp a (if pushes a then set_sp a file (sp a file - 8) else set file a.ra ret) ≤ sp a file
      go (pushed p is c) =
          rw p (set_keeps (λ (x : ℕ). x ≤ sp a file) file a.sp (sp a file - 8) a.sp (le_refl (sp a file)) (λ e. omega arith))
      go (left p c l o) =
          rw p (set_keeps (λ (x : ℕ). x ≤ sp a file) file a.ra ret a.sp (le_refl (sp a file)) (λ e. absurd (omega arith)))

  -- the kept one is what it was
  pub kept-sp : sp a (kept_by a file ret) ≡ sp a file
  unfolding kept_by
  kept-sp =
      set_keeps (λ (x : ℕ). x ≡ sp a file) under pc_column _ a.sp (go (returning arch)) (λ e. absurd (omega (arith, (pointers arch).sp_below)))
    where
      go : Returning a → sp a under ≡ sp a file
      go (pushed p is c) = rw p
      go (left p c l o) = rw p (get_or-set_other file a.ra a.sp ret 0 (λ e. omega arith))

  module _ (small : ret < 2 ^ 64) where
    -- the registers are a file
    pub calling_good : Good (calling a file ret)
    unfolding calling
    calling_good =
        by_test Good (pushes a) (set_sp a file (sp a file - 8)) (set file a.ra ret)
        (λ e. set_good file a.sp (sp a file - 8) (omega (arith, g.below a.sp)) g)
        (λ e. set_good file a.ra ret small g)

    -- and so is the kept one, before its pc is set
    under_good : Good under
    under_good = by_test Good (pushes a) file (set file a.ra ret) (λ e. g) (λ e. set_good file a.ra ret small g)

    -- and after
    pub kept_good : Good (kept_by a file ret)
    unfolding kept_by
    kept_good = set_good under pc_column _ (omega arith) under_good

    -- the kept pc is ret
    pub kept-pc : pc (kept_by a file ret) ≡ ret
    unfolding kept_by
    kept-pc = get_or-set_same under pc_column ret 0 (omega (arith, under_good.wide))

    -- and so is the kept return register
    pub kept-ra : value a (kept_by a file ret) a.ra ≡ ret
    unfolding value kept_by
    kept-ra = go (returning arch)
      where
        go : Returning a → get_or (kept_by a file ret) (column a a.ra) 0 ≡ ret
        go (pushed p is c) = rw c kept-pc
        go (left p c l o) =
            rw c
            (set_keeps (λ (x : ℕ). x ≡ ret) under pc_column ret a.ra
            (rw p (get_or-set_same file a.ra ret 0 (omega (arith, g.wide, (pointers arch).sp_below)))) (λ e. refl))
