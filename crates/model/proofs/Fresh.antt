-- A fresh machine has the invariant. Assumes nothing.
use mathlib.Core.Path.{sym, subst}
use mathlib.Core.List.{List}
use Prim.Native.Nat.{◌≤◌}
use lib.Dec.{lit≤}
use lib.ListN.{length}
use Rattle.model.specs.FrameStep.{max_frames}
use Rattle.model.specs.Machine.{Open, Machine, Fresh, arch_of}
use Rattle.model.proofs.Chain.{AllLive, Inner, Inv}

-- no frame is open, so that nothing is asked of frames
pub fresh_inv : (m : Machine) → Fresh m → Inv m
fresh_inv m f =
    record {
      known = f.known;
      accepted = f.accepted;
      bytes = λ k. f.bytes 0 k;
      wide = f.columns;
      values = f.values;
      few = subst (λ (fs : List Open). length fs ≤ max_frames) (sym f.empty) (lit≤ tt);
      live = subst (AllLive (arch_of m) m.stack) (sym f.empty) tt;
      inner = subst (Inner m.tables m.registers) (sym f.empty) tt;
    }
