-- A machine with as many frames as are wanted: its innermost frame again and again. For the rule on how many frames there are at most.
use Rattle.std.specs.Prelude.{List, [], ◌∷◌, ℕ, replicate}
use Rattle.model.specs.Machine.{Open, Machine}

-- the first of these frames, n times
abbrev pub first_times : ℕ → List Open → List Open
first_times n [] = []
first_times n (f ∷ fs) = replicate n f

-- the machine with its innermost frame n times, and no other
abbrev pub with_many : ℕ → Machine → Machine
with_many n m =
    record { tables = m.tables; registers = m.registers; stack = m.stack; frames = first_times n m.frames }
