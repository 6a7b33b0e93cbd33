-- A landing pad's file has sp and preserved registers as at the frame's call, and pc its record's start + pad. Assumes nothing.
use mathlib.Core.Bool.{Bool, true, false, ◌||◌}
use mathlib.Core.List.{List, [], ◌∷◌, map}
use mathlib.Core.Path.{◌≡◌, refl}
use Prim.Native.Nat.{ℕ}
use lib.Dec.{eqb}
use lib.ListN as ListN
use borrow.Author.Tests.{eq-eqb}
use Rattle.failure.specs.Failure.{one_of}
use Rattle.failure.specs.Outcome.{Answer}
use Rattle.mem.specs.Wrapping.{sum}
use Rattle.arch.specs.Arch.{Arch, numbers}
use Rattle.arch.specs.File.{set_pc}
use Rattle.personality.proofs.Reasons.{install}
use Rattle.model.specs.FrameStep.{Frame}
use Rattle.model.specs.Cleanup as Cleanup
use Rattle.model.specs.Cleanup.{install_pad}
use Rattle.model.specs.Machine.{Open, value}
use Rattle.model.specs.Expected.{Installed, pad_of}
use Rattle.model.specs.Demand.{compared}
use Rattle.model.proofs.Chain.{Agrees}
use Rattle.model.proofs.Files.{pad-file}
use Rattle.model.proofs.Stands.{frame}
use Rattle.model.proofs.Walks.{stood}

-- the landing of a frame
pub record Lands (arch exception n : ℕ) (interrupted : Bool) (file file' : List ℕ) (f : Open) (pad : ℕ) (next : Frame) : Type 0 where
  pub there : List ℕ
  pub is : install_pad (numbers arch) exception (frame n interrupted file') f.entry.function pad next ≡ Answer (Cleanup.Install n there next)
  pub same : compared (numbers arch) (Cleanup.Install n there next) ≡ Installed 7 (pad_of (numbers arch) n (stood interrupted file f) pad)

-- files with the same values of some registers
map_same : (a : Arch) (g file : List ℕ) (all regs : List ℕ) →
    ((reg : ℕ) → one_of reg all ≡ true → value a g reg ≡ value a file reg) →
    ((reg : ℕ) → one_of reg regs ≡ true → one_of reg all ≡ true) → map (value a g) regs ≡ map (value a file) regs
map_same a g file all [] h sub = refl
map_same a g file all (reg ∷ regs) h sub =
    let here : value a g reg ≡ value a file reg = h reg (sub reg (first (eqb reg reg) (one_of reg regs) (eq-eqb reg reg refl))) in
    let later = map_same a g file all regs h (λ r e. sub r (second (eqb r reg) (one_of r regs) e)) in
    rw (here, later)
  where
    first : (s t : Bool) → s ≡ true → (s || t) ≡ true
    first s t e = rw e

    second : (s t : Bool) → t ≡ true → (s || t) ≡ true
    second true t e = refl
    second false t e = e

pub lands : (arch exception n : ℕ) (interrupted : Bool) (file file' : List ℕ) (f : Open) (pad : ℕ) (next : Frame) →
    Agrees (numbers arch) file' file → Lands arch exception n interrupted file file' f pad next
unfolding install_pad pad_of
lands arch exception n interrupted file file' f pad next agrees =
    let g = set_pc (ListN.set (ListN.set file' 0 exception) 1 0) (sum f.entry.function.start pad) in
    let h = pad-file arch exception (sum f.entry.function.start pad) file' file agrees in
    record {
      there = g;
      is = rw (install arch exception f.entry.function.start pad file');
      same =
          rw (h.0, h.1.0, map_same (numbers arch) g file (numbers arch).preserved (numbers arch).preserved h.1.1 (λ reg e. e));
    }
