-- The table: the papers' words for opening, walk, throw, sweep and the C interface, a row on both sides of each number and rule.
use Rattle.boundaries.specs.Row.{Right}
use Rattle.boundaries.specs.Lending.{Target, x86_1, x86_2, aarch64_2}
use Rattle.boundaries.specs.Opening.{Openings}
use Rattle.boundaries.specs.Walk.{Walks, WalksInterrupted, WalksOfVersion1}
use Rattle.boundaries.specs.Throw as Throw
use Rattle.boundaries.specs.Throw.{Throws, ThrowsInterrupted}
use Rattle.boundaries.specs.Sweep as Sweep
use Rattle.boundaries.specs.Sweep.{Sweeps, SweepsInterrupted}
use Rattle.boundaries.specs.Many.{ManyFrames}
use Rattle.boundaries.specs.Interface.{Structs, Personalities}
use Rattle.boundaries.specs.Unwinding.{Calls}
use Rattle.boundaries.specs.Faults.{Reads, FaultsOf}
use Rattle.boundaries.specs.Architectures.{Refused28}
use Rattle.boundaries.specs.Chunk.{Chunks}

-- of every target
abbrev pub Of : Target → Type 0
Of t = Walks t × Throws t × Sweeps t × Personalities t × Calls t

-- of version 2, where a frame of any kind may be interrupted
abbrev pub OfInterrupted : Target → Type 0
OfInterrupted t = WalksInterrupted t × ThrowsInterrupted t × SweepsInterrupted t

-- every row of the table is right
abbrev pub Table : Type 0
Table =
    Openings × Of x86_1 × Of x86_2 × Of aarch64_2 × OfInterrupted x86_2 × OfInterrupted aarch64_2 × WalksOfVersion1 ×
    Right Throw.reasons × Right Sweep.reasons × ManyFrames × Structs × Refused28 × Chunks × Reads × FaultsOf x86_2 × FaultsOf aarch64_2
