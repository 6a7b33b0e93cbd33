-- Document 01's number and values for a personality's answer.
use Rattle.std.specs.Prelude.{ℕ}
use Rattle.failure.specs.Outcome.{Outcome, Refused, Answer, outcome, map}
use Rattle.arch.specs.declared.Regs.{Regs}
use Rattle.personality.specs.Reason.{Reason, fatal_phase2, fatal_phase1, handler_found, install_context, continue_unwind}
use Rattle.personality.specs.declared.Decided.{Decided}
use Rattle.personality.specs.declared.Reason as code
use Rattle.personality.specs.declared.Reason.TheVariants.{FatalPhase2Error, FatalPhase1Error, HandlerFound, InstallContext, ContinueUnwind}

-- the code of each reason
abbrev pub code_of : code.Reason → ℕ
code_of FatalPhase2Error = fatal_phase2
code_of FatalPhase1Error = fatal_phase1
code_of HandlerFound = handler_found
code_of InstallContext = install_context
code_of ContinueUnwind = continue_unwind

-- what a personality hands back: a code, or a refusal, and a register file
pub record Given : Type 0 where
  pub code : Outcome ℕ
  pub regs : Regs

-- as the code hands it back
abbrev pub given : Decided → Given
given d = record { code = map code_of (outcome d.reason); regs = d.regs }

-- as it is to be: a reason with its file, or a refusal with the file that came in
abbrev pub decided : Regs → Outcome Reason → Given
decided regs (Refused n) = record { code = Refused n; regs = regs }
decided regs (Answer r) = record { code = Answer r.code; regs = record { r = r.file } }
