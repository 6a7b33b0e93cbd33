-- Each clause of `Usable` on stack and unwinding is needed, and so is what `Demand3Between` asks of stores: sweep calls that break one of
-- them, and what each comes to, which is not what is due.
use Rattle.std.specs.Prelude.{Bool, true, false, List, [], ◌∷◌, ◌++◌, ◌≡◌, ℕ, replicate}
use Rattle.failure.specs.Outcome.{Outcome, Refused, Answer}
use Rattle.mem.specs.Opening.{opens}
use Rattle.model.specs.declared.Unwinding.{Unwinding}
use Rattle.model.specs.Search.{Chosen}
use Rattle.model.specs.Machine.{Machine, arch_of, lent_by, stored}
use Rattle.model.specs.Expected.{LandingPad, Compared, Installed, Finished}
use Rattle.model.specs.OtherStack.{with_stack}
use Rattle.model.specs.Demand.{answer_of, call_of}
use Rattle.model.specs.Call.{after, nth, compared_as}
use Rattle.runs.specs.Scenario.{Scenario, throw_at, landing, reached, handed_back}
use Rattle.runs.specs.LiveStack.{Made, cut, same_in}
use Rattle.runs.specs.X86.{start, events_with, landings}

-- a sweep call when so many landings were given, with the unwinding that came after so many of them, over a stack made of the throw's
pub record Attempt : Type 0 where
  pub given : ℕ
  pub unwinding_after : ℕ
  pub stack : Made

-- what it comes to: whether what it is lent opens; of which frames the live slots are as at the throw; its answer; and what is due then
pub record Finding : Type 0 where
  pub accepted : Bool
  pub same : List Bool
  pub answer : Outcome Compared
  pub due : Compared

-- an attempt, with the machine at the throw, the landings due and the unwinding that the throw handed back
abbrev pub tried : Machine → List LandingPad → Unwinding → Attempt → Finding
tried m ls u t =
    record {
      accepted = opens (lent_by (with_stack m (t.stack m.stack)));
      same = same_in m.stack (t.stack m.stack) m.frames;
      answer =
          compared_as (arch_of m)
          (answer_of (call_of (with_stack m (t.stack m.stack)) (after t.unwinding_after (lent_by m) m.tables.arch u)));
      due = nth t.given ls;
    }

-- attempts, one by one
abbrev pub findings : Machine → List LandingPad → Unwinding → List Attempt → List Finding
findings m ls u [] = []
findings m ls u (t ∷ ts) = tried m ls u t ∷ findings m ls u ts

-- attempts after a scenario's throw come to these findings
abbrev pub ComeTo : Scenario → List Attempt → List Finding → Type 0
ComeTo s ts fs = (exception : ℕ) → findings (reached s) s.landings (handed_back s exception) ts ≡ fs

-- the landings of `caught`
abbrev pub of_framed : LandingPad
of_framed = landing 1 0x8030 0x4070 (203 ∷ 0x8040 ∷ 112 ∷ 113 ∷ 114 ∷ 1015 ∷ [])

abbrev pub of_old : LandingPad
of_old = landing 2 0x8050 0x4124 (203 ∷ 0x8060 ∷ 112 ∷ 1013 ∷ 114 ∷ 1015 ∷ [])

abbrev pub of_outer : LandingPad
of_outer = landing 3 0x8070 0x4030 (203 ∷ 1006 ∷ 1012 ∷ 1013 ∷ 1014 ∷ 1015 ∷ [])

-- attempts after `caught`, x86-64
abbrev pub attempts : List Attempt
attempts =
    -- a store into the return address of `plain`, which comes next
    record { given = 0; unwinding_after = 0; stack = λ r. stored r (record { address = 0x8028; bytes = replicate 8 0 }) } ∷
    -- the same by a longer store, whose first byte lies in no live slot
    record { given = 0; unwinding_after = 0; stack = λ r. stored r (record { address = 0x801f; bytes = replicate 17 0 }) } ∷
    -- the same slots by their offsets, but 8 bytes lower
    record { given = 0; unwinding_after = 0; stack = λ r. record { base = 0x7ff8; bytes = r.bytes ++ replicate 8 0 } } ∷
    -- the unwinding of the throw once more
    record { given = 1; unwinding_after = 0; stack = λ r. r } ∷
    -- the stack ends one byte below the end of the chosen frame's return address, whose last byte is 0
    record { given = 2; unwinding_after = 2; stack = cut 0x8000 0x807f } ∷
    -- nothing is due any more, and the stack begins at 0
    record { given = 3; unwinding_after = 3; stack = λ r. record { base = 0; bytes = [] } } ∷ []

-- what they come to
abbrev pub found : List Finding
found =
    record { accepted = true; same = false ∷ true ∷ true ∷ true ∷ true ∷ []; answer = Refused 22; due = Installed 7 of_framed } ∷
    record { accepted = true; same = false ∷ true ∷ true ∷ true ∷ true ∷ []; answer = Refused 22; due = Installed 7 of_framed } ∷
    record { accepted = true; same = false ∷ false ∷ false ∷ false ∷ false ∷ []; answer = Refused 22; due = Installed 7 of_framed } ∷
    record { accepted = true; same = true ∷ true ∷ true ∷ true ∷ true ∷ []; answer = Answer (Installed 7 of_framed); due = Installed 7 of_old } ∷
    record { accepted = true; same = true ∷ true ∷ true ∷ false ∷ false ∷ []; answer = Refused 27; due = Installed 7 of_outer } ∷
    record { accepted = false; same = false ∷ false ∷ false ∷ false ∷ false ∷ []; answer = Refused 28; due = Finished } ∷ []

-- the same machine with a stack that begins at its lowest live slot, which is the slot of 15 in `plain`
abbrev pub start_low : Machine
start_low =
    record {
      tables = start.tables;
      registers = start.registers;
      stack = record { base = 0x8020; bytes = replicate 112 170 };
      frames = [];
    }

abbrev pub caught_low : Scenario
caught_low =
    record {
      machine = start_low;
      labelled = events_with 0x4010 0x4114;
      throw = throw_at 0x4090;
      answer = Chosen 3 0x8070;
      landings = landings 1;
    }

-- a store outside the stack, right below it, which meets no live slot; as a change of the region it lands on the first 8 bytes
abbrev pub attempts_low : List Attempt
attempts_low = record { given = 0; unwinding_after = 0; stack = λ r. stored r (record { address = 0x8018; bytes = 7 ∷ replicate 7 0 }) } ∷ []

-- 15 is not as at the call of `framed`
abbrev pub found_low : List Finding
found_low =
    record {
      accepted = true;
      same = false ∷ true ∷ true ∷ true ∷ true ∷ [];
      answer = Answer (Installed 7 (landing 1 0x8030 0x4070 (203 ∷ 0x8040 ∷ 112 ∷ 113 ∷ 114 ∷ 7 ∷ [])));
      due = Installed 7 of_framed;
    } ∷ []
