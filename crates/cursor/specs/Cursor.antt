-- The cursor (document 01, "The state program": "The byte cursor moves on in place, as `Bytes` does in the Rust"): what is read at
-- it, and where it stands then. On a refusal it stays where it stood.
use Rattle.std.specs.Prelude.{ℕ, ◌+◌}
use Rattle.failure.specs.Outcome.{Outcome, Refused, Answer, ◌>>=◌}
use Rattle.mem.specs.Memory.{Memory}
use Rattle.leb.specs.Reader.{Read, read_byte, read_number}
use Rattle.cursor.specs.declared.Bytes.{Bytes}

-- the place after a byte, or the place of a refusal
abbrev pub place_after_byte : ℕ → Outcome ℕ → ℕ
place_after_byte pos (Answer b) = pos + 1
place_after_byte pos (Refused n) = pos

-- the papers' outcome of the byte at the cursor
abbrev pub read_byte_here : Memory → Bytes → Outcome ℕ
read_byte_here m c = read_byte m c.end c.pos

-- the cursor past a byte; on a refusal as it was
abbrev pub past_byte : Bytes → Outcome ℕ → Bytes
past_byte c b = record { pos = place_after_byte c.pos b; end = c.end }

-- the place after a number, or the place of a refusal
abbrev pub place_after : ℕ → Outcome Read → ℕ
place_after pos (Answer x) = x.next
place_after pos (Refused n) = pos

-- the papers' outcome of the number at the cursor
abbrev pub uleb_here : Memory → Bytes → Outcome Read
uleb_here m c = read_number m c.end c.pos

-- without the place after it
abbrev pub read_here : Memory → Bytes → Outcome ℕ
read_here m c = read_number m c.end c.pos >>= λ x. Answer x.value

-- the cursor past a number; on a refusal as it was
abbrev pub past : Bytes → Outcome Read → Bytes
past c u = record { pos = place_after c.pos u; end = c.end }
