-- Which number a refused save or restore has, exactly (document 02 (c)): "32 a 33rd register is saved; .. a save's other 18 before 32"; and
-- 28 first, as in document 01. The laws are `save_faults` and `restore_faults` of proofs/Faults.antt.
use Rattle.std.specs.Prelude.{◌≡◌, ◌⊎◌, ◌↔◌, ◌≢◌, ℕ, ◌≤◌, ◌<◌, get_or}
use Rattle.failure.specs.Outcome.{Refused}
use Rattle.arch.specs.Arch.{Arch}
use Rattle.state.specs.declared.State.{State}
use Rattle.state.specs.Save.{save}
use Rattle.state.specs.Restore.{restore}
use Rattle.state.specs.Answers.{changed}

-- no pair of the state is of the register
abbrev pub Unsaved : State → ℕ → Type 0
Unsaved st reg = (i : ℕ) → i < st.count → get_or st.regs i 0 ≢ reg

-- the register would be a 33rd
abbrev pub Beyond32 : State → ℕ → Type 0
Beyond32 st reg = (st.count ≡ 32) × Unsaved st reg

-- slot 0, a slot above 65535 or a register above 65535
abbrev pub Unfit : ℕ → ℕ → Type 0
Unfit reg slot = (slot ≡ 0) ⊎ (65535 < slot) ⊎ (65535 < reg)

-- a save: beside up to 32 pairs what is unfit gets 18, so before a 33rd register gets 32
pub record SaveFaults (st : State) (reg slot : ℕ) : Type 0 where
  pub overfull : (changed (save st reg slot) ≡ Refused 28) ↔ (32 < st.count)
  pub unfit : (changed (save st reg slot) ≡ Refused 18) ↔ ((st.count ≤ 32) × Unfit reg slot)
  pub too_many : (changed (save st reg slot) ≡ Refused 32) ↔ (Beyond32 st reg × (Unfit reg slot → ⊥))
  pub no_other : (n : ℕ) → changed (save st reg slot) ≡ Refused n → (n ≡ 28) ⊎ (n ≡ 18) ⊎ (n ≡ 32)

-- a restore: where it saves the return register again, as on x86-64, that may be a 33rd
pub record RestoreFaults (a : Arch) (st : State) (reg : ℕ) : Type 0 where
  pub overfull : (changed (restore a st reg) ≡ Refused 28) ↔ (32 < st.count)
  pub too_many : (changed (restore a st reg) ≡ Refused 32) ↔ ((reg ≡ a.ra) × (a.entry_slot ≢ 0) × Beyond32 st reg)
  pub no_other : (n : ℕ) → changed (restore a st reg) ≡ Refused n → (n ≡ 28) ⊎ (n ≡ 32)
