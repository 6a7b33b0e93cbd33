-- The operations of a state program as bytes (document 01, "The state program", the list of operations).
use Rattle.std.specs.Prelude.{ℕ, ◌+◌, ◌-◌, eqb, ltb, if◌then◌else◌}
use Rattle.failure.specs.Outcome.{Outcome, Refused, Answer, ◌>>=◌}
use Rattle.failure.specs.Failure.{BadEkoRecord}
use Rattle.mem.specs.Memory.{Memory}
use Rattle.leb.specs.Reader.{read_byte, read_number}
use Rattle.program.specs.declared.decode.Rule.TheVariants as rule
use Rattle.program.specs.declared.decode.Op.{Op}
use Rattle.program.specs.declared.decode.Op.TheVariants.{End, Advance, Set, Remember, Recall}
use Rattle.program.specs.declared.decode.Incomplete.{Incomplete}
use Rattle.program.specs.declared.decode.Incomplete.TheVariants as incomplete
use Rattle.program.specs.declared.decode.Form.{Form}
use Rattle.program.specs.declared.decode.Form.TheVariants.{Whole, WithNumber, WithPair, Unknown}

-- what a first byte says: a whole operation, one that a number completes, a register and a slot to come, or no operation
unfoldable pub form_of : ℕ → Form
form_of code =
    if eqb code 0x00 then Whole End
    else if ltb code 0x40 then Whole (Advance code)
    else if ltb code 0x80 then Whole (Set (rule.Units (code - 0x40)))
    else if ltb code 0xc0 then WithNumber (incomplete.Save (code - 0x80))
    else if eqb code 0xc0 then WithNumber incomplete.Sp
    else if eqb code 0xc1 then WithNumber incomplete.Fp
    else if eqb code 0xc2 then WithNumber incomplete.Units
    else if eqb code 0xc3 then WithNumber incomplete.Advance
    else if eqb code 0xc4 then WithPair
    else if eqb code 0xc5 then WithNumber incomplete.Restore
    else if eqb code 0xc6 then Whole (Set rule.Entry)
    else if eqb code 0xc7 then Whole Remember
    else if eqb code 0xc8 then Whole Recall
    else if eqb code 0xc9 then Whole (Set rule.Frame)
    else if eqb code 0xca then Whole (Set rule.FrameRegs)
    else if ltb code 0xe0 then Unknown
    else Whole (Set (rule.Restore (code - 0xe0)))

-- the operation that a number completes
abbrev pub completed : Incomplete → ℕ → Op
completed (incomplete.Save reg) n = Set (rule.Save reg n)
completed incomplete.Sp n = Set (rule.Sp n)
completed incomplete.Fp n = Set (rule.Fp n)
completed incomplete.Units n = Set (rule.Units n)
completed incomplete.Advance n = Advance n
completed incomplete.Restore n = Set (rule.Restore n)

-- an operation and the address after it
pub record Decoding : Type 0 where
  pub op : Op
  pub next : ℕ

-- what follows the first byte of an operation
abbrev pub rest_at : Memory → ℕ → ℕ → Form → Outcome Decoding
rest_at m limit pos (Whole op) = Answer (record { op = op; next = pos })
rest_at m limit pos (WithNumber o) = do
  n ← read_number m limit pos
  Answer (record { op = completed o n.value; next = n.next })
rest_at m limit pos WithPair = do
  reg ← read_number m limit pos
  slot ← read_number m limit reg.next
  Answer (record { op = Set (rule.Save reg.value slot.value); next = slot.next })
rest_at m limit pos Unknown = Refused BadEkoRecord

-- the operation at pos: a byte at or past the limit gets 30, one outside memory 27
unfoldable pub decode : Memory → ℕ → ℕ → Outcome Decoding
decode m limit pos = do
  code ← read_byte m limit pos
  rest_at m limit (pos + 1) (form_of code)
