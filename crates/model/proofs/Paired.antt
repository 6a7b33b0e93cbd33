-- The innermost frame with other pairs keeps the invariant. Assumes nothing.
use mathlib.Core.Path.{◌≡◌}
use mathlib.Core.Bool.{true}
use mathlib.Core.List.{List, ◌∷◌, Memᴰ}
use mathlib.Core.Logic.{◌⊎◌}
use Prim.Native.Nat.{ℕ}
use Rattle.failure.specs.Failure.{one_of}
use Rattle.mem.specs.Memory.{Region}
use Rattle.arch.specs.Arch.{numbers}
use Rattle.frame.specs.Layout.{Pair}
use Rattle.model.specs.Machine.{Open, Machine, caller_interrupted, is_register, arch_of}
use Rattle.model.specs.Described.{is_spilled}
use Rattle.model.specs.Event.{with_frames}
use Rattle.model.proofs.Chain.{Slot, AllLive, Inner, Inv}

-- a frame with the pairs ps
abbrev pub paired : Open → List Pair → Open
paired f ps = record { entry = f.entry; kept = f.kept; cfa = f.cfa; spilled = ps }

-- what is asked of them: the return register is spilled or preserved, and each is a register's, with a slot that holds its kept value
pub record Pairs (arch : ℕ) (stack : Region) (f : Open) (ps : List Pair) : Type 0 where
  pub returns : (is_spilled ps (numbers arch).ra ≡ true) ⊎ (one_of (numbers arch).ra (numbers arch).preserved ≡ true)
  pub each : (p : Pair) → Memᴰ p ps → (is_register (numbers arch) p.reg ≡ true) × Slot (numbers arch) stack f p

pub paired_keeps :
    (m : Machine) (f : Open) (fs : List Open) → m.frames ≡ f ∷ fs → (ps : List Pair) → Pairs m.tables.arch m.stack f ps → Inv m →
    Inv (with_frames m (paired f ps ∷ fs))
unfolding caller_interrupted
paired_keeps m f fs here ps pairs inv =
    let (_, live) : AllLive (arch_of m) m.stack (f ∷ fs) = rw here at inv.live in
    let (kept, chain) : Inner m.tables m.registers (f ∷ fs) = rw here at inv.inner in
    record {
      known = inv.known;
      accepted = inv.accepted;
      bytes = inv.bytes;
      wide = inv.wide;
      values = inv.values;
      few = rw here at inv.few;
      live = (λ p j. let s = (pairs.each p j).1 in record { within = s.within; holding = s.holding }, live);
      inner = (
        record {
          is_record = kept.is_record;
          wide = kept.wide;
          below = kept.below;
          kept_sp = kept.kept_sp;
          above = kept.above;
          returns = pairs.returns;
          kept_pc = kept.kept_pc;
          registers = λ p j. (pairs.each p j).0;
        },
        chain,
      );
    }
