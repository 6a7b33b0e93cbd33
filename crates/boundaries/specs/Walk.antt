-- Walk: the frame step (document 01, "Walk, throw and call machine").
use Rattle.std.specs.Prelude.{Bool, true, false, List, [], ◌∷◌, ℕ, ◌-◌, ◌^◌}
use Rattle.failure.specs.Outcome.{Outcome, Refused, Answer}
use Rattle.lookup.specs.declared.Record.{Record}
use Rattle.model.specs.FrameStep.{Step, End, Past}
use Rattle.model.specs.Unwinding.{next_frame}
use Rattle.boundaries.specs.Row.{Row, ◌gives◌, Right}
use Rattle.boundaries.specs.Lending.{Target, x86_1, aarch64_1, lent_by, lending, faulty, zero, plain, rowed, file, frame}

-- the step of a frame with this number, fp, sp and pc
abbrev pub step : Target → ℕ → Bool → ℕ → ℕ → ℕ → Outcome Step
step t number interrupted fp sp pc =
    next_frame (lent_by (lending t 0x4014 0x4018)) t.arch (frame number interrupted (file t fp sp 0x7777 pc))

-- the same where fp is 0x8010 and sp 0x8000
abbrev pub step_at : Target → ℕ → ℕ → Outcome Step
step_at t number pc = step t number false 0x8010 0x8000 pc

-- that of an interrupted frame
abbrev pub interrupted_at : Target → ℕ → ℕ → Outcome Step
interrupted_at t number pc = step t number true 0x8010 0x8000 pc

-- in a section whose first header has a fault
abbrev pub step_faulty : Target → ℕ → ℕ → Outcome Step
step_faulty t number pc = next_frame (lent_by (faulty t)) t.arch (frame number false (file t 0x8010 0x8000 0x7777 pc))

-- past the frame with this record; its caller has this number, and pc 0x4014
abbrev pub past_to : Target → Record → ℕ → Outcome Step
past_to t r number = Answer (Past r (frame number false (file t 0x8030 0x8020 0x4014 0x4014)))

-- the same where CFA is fp + 32
abbrev pub past_far : Target → Outcome Step
past_far t = Answer (Past (rowed t) (frame 1 false (file t 0x7770 0x8030 0x7777 0x7777)))

-- "Looked up is pc - 1 ..": the record
abbrev pub looked_up : Target → List (Row (Outcome Step))
looked_up t =
    step_at t 0 0x4000 gives Answer End ∷
    step_at t 0 0x4001 gives past_to t (plain t) 1 ∷
    step_at t 0 0x4010 gives past_to t (plain t) 1 ∷
    step_at t 0 0x4011 gives past_to t (rowed t) 1 ∷
    step_at t 0 0x4041 gives Answer End ∷ []

-- ".. or pc for an interrupted frame; only the first frame can be interrupted": the record, then the state at that offset; the caller is not
-- interrupted. Of version 2
abbrev pub looked_up_interrupted : Target → List (Row (Outcome Step))
looked_up_interrupted t =
    interrupted_at t 0 0x3fff gives Answer End ∷
    interrupted_at t 0 0x4000 gives past_to t (plain t) 1 ∷
    interrupted_at t 0 0x400f gives past_to t (plain t) 1 ∷
    interrupted_at t 0 0x4010 gives past_to t (rowed t) 1 ∷
    interrupted_at t 0 0x402f gives past_to t (rowed t) 1 ∷
    interrupted_at t 0 0x4030 gives past_far t ∷
    interrupted_at t 0 0x403f gives past_far t ∷
    interrupted_at t 0 0x4040 gives Answer End ∷
    interrupted_at t 1023 0x4000 gives past_to t (plain t) 1024 ∷
    interrupted_at t 1024 0x4000 gives Refused 29 ∷
    -- not interrupted
    step_at t 0 0x4030 gives past_to t (rowed t) 1 ∷
    step_at t 0 0x4031 gives past_far t ∷
    step_at t 0 0x4040 gives past_far t ∷ []

-- "pc 0 ends": also where a record holds 0, and before what is wrong with the section
abbrev pub pc_zero : Target → List (Row (Outcome Step))
pc_zero t =
    step_at t 0 0 gives Answer End ∷
    interrupted_at t 0 0 gives Answer End ∷
    step_at t 0 1 gives past_to t (zero t) 1 ∷
    step_at t 0 0x10 gives past_to t (zero t) 1 ∷
    step_at t 0 0x11 gives Answer End ∷
    step_faulty t 0 0 gives Answer End ∷
    step_faulty t 0 1 gives Refused 17 ∷ []

-- "1,024 frames given 29": frame number 1023 is the last that is given; after pc 0, before lookup
abbrev pub limit : Target → List (Row (Outcome Step))
limit t =
    step_at t 1023 0x4014 gives past_to t (rowed t) 1024 ∷
    step_at t 1024 0x4014 gives Refused 29 ∷
    step_at t 1025 0x4014 gives Refused 29 ∷
    step_at t (2 ^ 64 - 1) 0x4014 gives Refused 29 ∷
    -- pc 0
    step_at t 1023 0 gives Answer End ∷
    step_at t 1024 0 gives Answer End ∷
    -- outside every record
    step_at t 1023 0x3000 gives Answer End ∷
    step_at t 1024 0x3000 gives Refused 29 ∷
    -- where lookup is refused
    step_faulty t 1023 0x4014 gives Refused 17 ∷
    step_faulty t 1024 0x4014 gives Refused 29 ∷
    -- where the step is
    step t 1023 false 4 0x8000 0x4014 gives Refused 23 ∷
    step t 1024 false 4 0x8000 0x4014 gives Refused 29 ∷ []

-- "lookup (None ends); caller registers": their refusals come before 20, and a frame without record has none
abbrev pub callers : Target → List (Row (Outcome Step))
callers t =
    step_at t 0 0x3000 gives Answer End ∷
    step t 0 false 0 0x8000 0x3000 gives Answer End ∷
    step t 0 false 0 0x8000 0x4008 gives Refused 23 ∷
    step t 0 false 4 0x8000 0x4008 gives Refused 23 ∷
    step t 0 false 0x9000 0x8000 0x4008 gives Refused 27 ∷
    -- sp would be lower too
    step t 1 false 0 0x8100 0x4008 gives Refused 23 ∷
    step t 1 false 0x7000 0x8000 0x4008 gives Refused 27 ∷ []

-- "sp lower than before, or equal past the first frame, 20": the caller's sp is 0x8020
abbrev pub not_advancing : Target → List (Row (Outcome Step))
not_advancing t =
    step t 0 false 0x8010 0x8021 0x4008 gives Refused 20 ∷
    step t 0 false 0x8010 0x8020 0x4008 gives past_to t (plain t) 1 ∷
    step t 0 false 0x8010 0x801f 0x4008 gives past_to t (plain t) 1 ∷
    step t 0 false 0x8010 0 0x4008 gives past_to t (plain t) 1 ∷
    step t 0 false 0x8010 (2 ^ 64 - 1) 0x4008 gives Refused 20 ∷
    step t 1 false 0x8010 0x8021 0x4008 gives Refused 20 ∷
    step t 1 false 0x8010 0x8020 0x4008 gives Refused 20 ∷
    step t 1 false 0x8010 0x801f 0x4008 gives past_to t (plain t) 2 ∷
    step t 1023 false 0x8010 0x8021 0x4008 gives Refused 20 ∷
    step t 1023 false 0x8010 0x8020 0x4008 gives Refused 20 ∷
    step t 1023 false 0x8010 0x801f 0x4008 gives past_to t (plain t) 1024 ∷ []

-- an interrupted frame of version 1 whose word is not a leaf's gets 25, before 20
abbrev pub interrupted_words : Target → List (Row (Outcome Step))
interrupted_words t =
    interrupted_at t 0 0x4008 gives Refused 25 ∷
    step t 0 true 0x8010 0x8021 0x4008 gives Refused 25 ∷
    interrupted_at t 0 0x3000 gives Answer End ∷ []

-- version 1 on aarch64
abbrev pub aarch64_words : List (Row (Outcome Step))
aarch64_words =
    step aarch64_1 0 false 0x8010 0x8021 0x4008 gives Refused 20 ∷
    step aarch64_1 0 false 0x8010 0x8020 0x4008 gives past_to aarch64_1 (plain aarch64_1) 1 ∷
    step aarch64_1 1 false 0x8010 0x8020 0x4008 gives Refused 20 ∷
    step aarch64_1 1 false 0x8010 0x801f 0x4008 gives past_to aarch64_1 (plain aarch64_1) 2 ∷ []

-- the rows are right
abbrev pub Walks : Target → Type 0
Walks t =
    Right (looked_up t) × Right (pc_zero t) × Right (limit t) × Right (callers t) × Right (not_advancing t)

abbrev pub WalksInterrupted : Target → Type 0
WalksInterrupted t = Right (looked_up_interrupted t)

abbrev pub WalksOfVersion1 : Type 0
WalksOfVersion1 = Right (interrupted_words x86_1) × Right aarch64_words
