-- Every row of the table follows from the definitions. Assumes nothing.
use Rattle.boundaries.specs.Table.{Table}
use Rattle.boundaries.proofs.Opening.{opens_by_length, bases_right, lengths_right, shared_right, architectures_right}
use Rattle.boundaries.proofs.Walk as Walk
use Rattle.boundaries.proofs.Walk.{walks_x86_1, walks_x86_2, walks_aarch64_2}
use Rattle.boundaries.proofs.Throw as Throw
use Rattle.boundaries.proofs.Throw.{throws_x86_1, throws_x86_2, throws_aarch64_2}
use Rattle.boundaries.proofs.Sweep as Sweep
use Rattle.boundaries.proofs.Sweep.{sweeps_x86_1, sweeps_x86_2, sweeps_aarch64_2}
use Rattle.boundaries.proofs.Many.{many_frames}
use Rattle.boundaries.proofs.Interface.{personalities_x86_1, personalities_x86_2, personalities_aarch64_2, structs}
use Rattle.boundaries.proofs.Unwinding.{calls_x86_1, calls_x86_2, calls_aarch64_2}
use Rattle.boundaries.proofs.Faults.{reads, faults_x86_2, faults_aarch64_2}
use Rattle.boundaries.proofs.Architectures.{refused28}
use Rattle.boundaries.proofs.Chunk.{chunks}

pub table : Table
table = (
  (opens_by_length, bases_right, lengths_right, shared_right, architectures_right),
  (walks_x86_1, throws_x86_1, sweeps_x86_1, personalities_x86_1, calls_x86_1),
  (walks_x86_2, throws_x86_2, sweeps_x86_2, personalities_x86_2, calls_x86_2),
  (walks_aarch64_2, throws_aarch64_2, sweeps_aarch64_2, personalities_aarch64_2, calls_aarch64_2),
  (Walk.interrupted_x86_2, Throw.interrupted_x86_2, Sweep.interrupted_x86_2),
  (Walk.interrupted_aarch64_2, Throw.interrupted_aarch64_2, Sweep.interrupted_aarch64_2),
  Walk.version1,
  Throw.reasons_right,
  Sweep.reasons_right,
  many_frames,
  structs,
  refused28,
  chunks,
  reads,
  faults_x86_2,
  faults_aarch64_2,
)
