-- The table of the marked examples, in document 01's order.
use Rattle.std.specs.Prelude.{true, false, List, [], ◌∷◌, ℕ}
use Rattle.failure.specs.Outcome.{Outcome, Refused, Answer}
use Rattle.frame.specs.Layout.{Pair, Layout}
use Rattle.rows.specs.Row.{None, Pad, cleanup, catch}
use Rattle.marked.specs.Example.{Example, uleb, program, rows, word}

infix 90 ◌at◌
-- a pair (register, slot)
abbrev pub ◌at◌ : ℕ → ℕ → Pair
◌at◌ reg slot = record { reg = reg; slot = slot }

-- a state on sp: units above it, and pairs
abbrev pub on_sp : ℕ → List Pair → Outcome Layout
on_sp units pairs = Answer (record { on_fp = false; units = units; pairs = pairs })

-- a state on fp
abbrev pub on_fp : ℕ → List Pair → Outcome Layout
on_fp units pairs = Answer (record { on_fp = true; units = units; pairs = pairs })

-- the marked examples
abbrev pub table : List Example
table =
    uleb (0x7f ∷ []) (Answer 127)
    ∷ uleb (0xb9 ∷ 0x64 ∷ []) (Answer 12857)
    ∷ uleb (0x80 ∷ 0x00 ∷ []) (Answer 0)
    ∷ uleb (0xff ∷ 0xff ∷ 0xff ∷ 0xff ∷ 0x0f ∷ []) (Answer 4294967295)
    ∷ uleb (0xff ∷ 0xff ∷ 0xff ∷ 0xff ∷ 0x1f ∷ []) (Refused 31)
    ∷ uleb (0x80 ∷ 0x80 ∷ 0x80 ∷ 0x80 ∷ 0x80 ∷ []) (Refused 31)
    ∷ program 2 (0x02 ∷ 0xc9 ∷ 0x04 ∷ 0x00 ∷ []) 1 (on_sp 1 (16 at 1 ∷ []))
    ∷ program 2 (0x02 ∷ 0xc9 ∷ 0x04 ∷ 0x00 ∷ []) 2 (on_fp 2 (16 at 1 ∷ 6 at 2 ∷ []))
    ∷ program 1 (0x02 ∷ 0xc9 ∷ 0x04 ∷ 0x00 ∷ []) 7 (on_sp 0 [])
    ∷ program 1 (0x02 ∷ 0xc9 ∷ 0x04 ∷ 0x00 ∷ []) 8 (on_fp 2 (29 at 2 ∷ 30 at 1 ∷ []))
    ∷ program 2 (0x90 ∷ 0x05 ∷ 0xf0 ∷ 0x00 ∷ []) 0 (on_sp 1 (16 at 1 ∷ []))
    ∷ program 2 (0xc7 ∷ 0xc7 ∷ 0xc7 ∷ 0xc7 ∷ 0xc7 ∷ 0x00 ∷ []) 0 (Refused 10)
    ∷ program 1 (0xc7 ∷ 0xc7 ∷ 0xc7 ∷ 0xc7 ∷ 0xc7 ∷ 0x00 ∷ []) 0 (Refused 10)
    ∷ program 2 (0xc8 ∷ 0x00 ∷ []) 0 (Refused 18)
    ∷ program 1 (0xc8 ∷ 0x00 ∷ []) 0 (Refused 18)
    ∷ rows (0x02 ∷ 0x05 ∷ 0x29 ∷ 0x03 ∷ 0x40 ∷ []) 5 (Answer (Pad 10 catch))
    ∷ rows (0x02 ∷ 0x05 ∷ 0x29 ∷ 0x03 ∷ 0x40 ∷ []) 8 (Answer (Pad 16 cleanup))
    ∷ rows (0x02 ∷ 0x05 ∷ 0x29 ∷ 0x03 ∷ 0x40 ∷ []) 6 (Answer None)
    ∷ word 2 6291497 (3 at 3 ∷ 13 at 4 ∷ [])
    ∷ word 2 6291501 (3 at 4 ∷ 13 at 3 ∷ [])
    ∷ []
