-- Many frames: the 1,024 of a walk, a throw and a sweep call, and the 16 of one call of `walk`.
use Rattle.std.specs.Prelude.{true, false, List, [], ◌∷◌, ◌++◌, ℕ, ◌+◌, ◌-◌, ◌*◌, ◌^◌, replicate}
use Rattle.failure.specs.Outcome.{Outcome, Refused}
use Rattle.model.specs.Search.{Searched}
use Rattle.model.specs.Cleanup.{Cleaned}
use Rattle.model.specs.Unwinding.{raise, resume}
use Rattle.answers.specs.declared.Batch.{Batch}
use Rattle.boundaries.specs.Row.{Row, ◌gives◌, Right}
use Rattle.boundaries.specs.Lending.{aarch64_2, Lending, lent_by, file, unwinding}
use Rattle.boundaries.specs.Structs.{batch}
use Rattle.boundaries.specs.Functions.{eko_walk}

-- a section of aarch64, for the address 0x1000, with one record, [0x4000, 0x4010), without rows: CFA = sp + 8, the return address still in
-- register 30. With 30 in its record every caller is a frame of the record again, until CFA wraps to 0, which gets 12
abbrev pub section : List ℕ
section =
    -- the chunk: magic, version 2, architecture 1, flags 1, 1 record, 32 bytes
    0x45 ∷ 0x4b ∷ 0x55 ∷ 0x57 ∷ 2 ∷ 1 ∷ 1 ∷ 0 ∷ 1 ∷ 0 ∷ 0 ∷ 0 ∷ 32 ∷ 0 ∷ 0 ∷ 0 ∷
    -- the record: start 0x1010 + 0x2ff0, length 0x10, a program at 28
    0xf0 ∷ 0x2f ∷ 0 ∷ 0 ∷ 0x10 ∷ 0 ∷ 0 ∷ 0 ∷ 28 ∷ 0 ∷ 0 ∷ 0 ∷
    -- the program: 1 unit; END; then two bytes that fill the chunk
    0x41 ∷ 0 ∷ 0 ∷ 0 ∷ []

abbrev pub lending : Lending
lending = record { section = section; section_base = 0x1000; stack = []; stack_base = 1 }

-- the file of a frame whose CFA is 0 after so many frames
abbrev pub below : ℕ → List ℕ
below n = file aarch64_2 0 (2 ^ 64 - 8 * n) 0x4008 0x4008

-- "1,024 frames given 29": the search comes to frame number 1023, whose step is refused, and not to frame number 1024
abbrev pub throws : ℕ → Outcome Searched
throws n = raise (lent_by lending) 1 (below n) 0x4008 false

abbrev pub throws_many : List (Row (Outcome Searched))
throws_many =
    throws 1 gives Refused 12 ∷
    throws 1024 gives Refused 12 ∷ []

abbrev pub throws_too_many : List (Row (Outcome Searched))
throws_too_many = throws 1025 gives Refused 29 ∷ []

-- the same of a sweep call
abbrev pub sweeps : ℕ → Outcome Cleaned
sweeps n = resume (lent_by lending) 1 (unwinding 0 false (below n) true (2 ^ 64 - 1) 0)

abbrev pub sweeps_many : List (Row (Outcome Cleaned))
sweeps_many = sweeps 1024 gives Refused 12 ∷ []

abbrev pub sweeps_too_many : List (Row (Outcome Cleaned))
sweeps_too_many = sweeps 1025 gives Refused 29 ∷ []

-- the frames of a walk: n of them from this one on, with starts, pcs and sps
abbrev pub sps_from : ℕ → List ℕ
sps_from sp =
    sp ∷ (sp + 8) ∷ (sp + 16) ∷ (sp + 24) ∷ (sp + 32) ∷ (sp + 40) ∷ (sp + 48) ∷ (sp + 56) ∷
    (sp + 64) ∷ (sp + 72) ∷ (sp + 80) ∷ (sp + 88) ∷ (sp + 96) ∷ (sp + 104) ∷ (sp + 112) ∷ []

-- `eko_walk` gives 16 frames at most and then the frame to go on from; a refusal after 15 hands back the frame that came in
abbrev pub walks : List (Row Batch)
walks =
    eko_walk lending 1 0 false (below 16) gives
    batch 12 (record {
      count = 15;
      starts = 0x4000 ∷ 0x4000 ∷ 0x4000 ∷ 0x4000 ∷ 0x4000 ∷ 0x4000 ∷ 0x4000 ∷ 0x4000 ∷
          0x4000 ∷ 0x4000 ∷ 0x4000 ∷ 0x4000 ∷ 0x4000 ∷ 0x4000 ∷ 0x4000 ∷ 0 ∷ [];
      pcs = 0x4008 ∷ 0x4008 ∷ 0x4008 ∷ 0x4008 ∷ 0x4008 ∷ 0x4008 ∷ 0x4008 ∷ 0x4008 ∷
          0x4008 ∷ 0x4008 ∷ 0x4008 ∷ 0x4008 ∷ 0x4008 ∷ 0x4008 ∷ 0x4008 ∷ 0 ∷ [];
      sps = sps_from (2 ^ 64 - 8 * 16) ++ (0 ∷ []);
    }) 0 false (below 16) ∷
    eko_walk lending 1 0 false (below 17) gives
    batch 0 (record {
      count = 16;
      starts = replicate 16 0x4000;
      pcs = replicate 16 0x4008;
      sps = sps_from (2 ^ 64 - 8 * 17) ++ ((2 ^ 64 - 16) ∷ []);
    }) 16 false (below 1) ∷
    -- frames number 1008 to 1023, then number 1024 comes next; from 1009 on that is 29
    eko_walk lending 1 1008 false (below 100) gives
    batch 0 (record {
      count = 16;
      starts = replicate 16 0x4000;
      pcs = replicate 16 0x4008;
      sps = sps_from (2 ^ 64 - 8 * 100) ++ ((2 ^ 64 - 8 * 85) ∷ []);
    }) 1024 false (below 84) ∷
    eko_walk lending 1 1009 false (below 100) gives
    batch 29 (record {
      count = 15;
      starts = replicate 15 0x4000 ++ (0 ∷ []);
      pcs = replicate 15 0x4008 ++ (0 ∷ []);
      sps = sps_from (2 ^ 64 - 8 * 100) ++ (0 ∷ []);
    }) 1009 false (below 100) ∷ []

-- the rows are right
abbrev pub ManyFrames : Type 0
ManyFrames =
    Right throws_many × Right throws_too_many × Right sweeps_many × Right sweeps_too_many × Right walks
