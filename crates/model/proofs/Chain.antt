-- What holds of a machine's open frames whatever events came before: the invariant from which demand 3 follows.
use mathlib.Core.Bool.{Bool, true, false}
use mathlib.Core.List.{List, [], ◌∷◌, Memᴰ}
use mathlib.Core.Logic.{◌⊎◌}
use mathlib.Core.Path.{◌≡◌, refl}
use Prim.Native.Nat.{ℕ, ◌-◌, ◌^◌, ◌≤◌, ◌<◌}
use lib.ListN.{length, get_or}
use Rattle.failure.specs.Failure.{one_of}
use Rattle.mem.specs.Memory.{Region}
use Rattle.mem.specs.Opening.{opens}
use Rattle.arch.specs.Arch.{Arch, numbers, is_known, strip_pac}
use Rattle.arch.specs.File.{columns, sp, pc}
use Rattle.lookup.specs.Field.{word}
use Rattle.lookup.specs.Record.{holds}
use Rattle.lookup.specs.Sound.{◌∈◌}
use Rattle.frame.specs.Layout.{Pair}
use Rattle.model.specs.FrameStep.{max_frames, looked_up}
use Rattle.model.specs.Machine.{Open, Machine, caller_interrupted, looked_at, lent_by, is_register, value, address, inside, Tables, records_of, arch_of}
use Rattle.model.specs.Described.{is_spilled, described}

-- machine and walk look a frame up at the same address
pub looked-same : (interrupted : Bool) (at : ℕ) → looked_at interrupted at ≡ looked_up interrupted at
looked-same true at = refl
looked-same false at = refl

-- an open frame by itself
pub record Kept (ts : Tables) (f : Open) : Type 0 where
  -- its record is one of the section's
  pub is_record : f.entry ∈ records_of ts
  -- its kept file is one, whose sp is the CFA, which is above 0
  pub wide : length f.kept ≡ columns
  pub below : (k : ℕ) → get_or f.kept k 0 < 2 ^ 64
  pub kept_sp : sp (numbers ts.arch) f.kept ≡ f.cfa
  pub above : 0 < f.cfa
  -- its return register is spilled or preserved, and its kept value, stripped, is the kept pc
  pub returns : (is_spilled f.spilled (numbers ts.arch).ra ≡ true) ⊎ (one_of (numbers ts.arch).ra (numbers ts.arch).preserved ≡ true)
  pub kept_pc : strip_pac (numbers ts.arch) (value (numbers ts.arch) f.kept (numbers ts.arch).ra) ≡ pc f.kept
  -- what it spilled are registers
  pub registers : (p : Pair) → Memᴰ p f.spilled → is_register (numbers ts.arch) p.reg ≡ true

-- a frame's live slots lie in the stack and hold the kept values
pub record Slot (a : Arch) (stack : Region) (f : Open) (p : Pair) : Type 0 where
  pub within : inside stack (address f.cfa p.slot) ≡ true
  pub holding : word stack.bytes (address f.cfa p.slot - stack.base) 8 ≡ value a f.kept p.reg

abbrev pub Live : Arch → Region → Open → Type 0
Live a stack f = (p : Pair) → Memᴰ p f.spilled → Slot a stack f p

abbrev pub AllLive : Arch → Region → List Open → Type 0
AllLive a stack [] = Unit
AllLive a stack (f ∷ fs) = Live a stack f × AllLive a stack fs

-- a frame with its registers at its call; past the first its sp is strictly below its CFA
pub record FrameAt (ts : Tables) (first interrupted : Bool) (file : List ℕ) (f : Open) : Type 0 where
  pub kept : Kept ts f
  pub called : 0 < pc file
  pub held : holds f.entry.function (looked_up interrupted (pc file)) ≡ true
  pub fits : described ts f file interrupted (looked_up interrupted (pc file)) ≡ true
  pub at_most : sp (numbers ts.arch) file ≤ f.cfa
  pub lower : first ≡ false → sp (numbers ts.arch) file < f.cfa

-- frames, the first with these registers, every other with the kept file of the call that it made; the outermost returns to 0
abbrev pub Chain : Tables → Bool → Bool → List ℕ → List Open → Type 0
Chain ts first interrupted file [] = pc file ≡ 0
Chain ts first interrupted file (f ∷ fs) =
    FrameAt ts first interrupted file f × Chain ts false (caller_interrupted f) f.kept fs

-- the innermost frame is not yet called from: its sp is at most its CFA
abbrev pub Inner : Tables → List ℕ → List Open → Type 0
Inner ts file [] = Unit
Inner ts file (f ∷ fs) =
    Kept ts f × ((sp (numbers ts.arch) file ≤ f.cfa) × Chain ts false (caller_interrupted f) f.kept fs)

-- the invariant
pub record Inv (m : Machine) : Type 0 where
  pub known : is_known m.tables.arch ≡ true
  pub accepted : opens (lent_by m) ≡ true
  pub bytes : (k : ℕ) → get_or m.tables.section.bytes k 0 < 256
  pub wide : length m.registers ≡ columns
  pub values : (k : ℕ) → get_or m.registers k 0 < 2 ^ 64
  pub few : length m.frames ≤ max_frames
  pub live : AllLive (arch_of m) m.stack m.frames
  pub inner : Inner m.tables m.registers m.frames

-- the unwinder's file agrees with the machine's on sp, pc and preserved registers
pub record Agrees (a : Arch) (file' file : List ℕ) : Type 0 where
  pub wide : length file' ≡ columns
  pub sp : sp a file' ≡ sp a file
  pub pc : pc file' ≡ pc file
  pub preserved : (reg : ℕ) → one_of reg a.preserved ≡ true → value a file' reg ≡ value a file reg
