-- What the public function comes to: 28 for what is lent, then for an architecture other than 1 and 2, before anything else.
use Rattle.std.specs.Prelude.{ℕ, if◌then◌else◌}
use Rattle.failure.specs.Outcome.{Outcome, Refused, ◌>>=◌}
use Rattle.failure.specs.Failure.{BadOpening}
use Rattle.mem.specs.Memory.{Lent}
use Rattle.mem.specs.Opening.{opens}
use Rattle.arch.specs.Arch.{known}
use Rattle.program.specs.Run as Run
use Rattle.program.specs.Run.{Ran}

-- a run of the program at an address, up to an offset
unfoldable pub run : Lent → ℕ → ℕ → ℕ → ℕ → Outcome Ran
run l arch program limit off =
    if opens l then (known arch >>= λ a. Run.run l.regions a program limit off)
    else Refused BadOpening
