-- When a frame is described (document 01: "Described").
use Rattle.std.specs.Prelude.{Bool, true, false, not, ◌&&◌, ◌||◌, List, [], ◌∷◌, ℕ, ◌+◌, ◌-◌, ◌*◌, ◌%◌, ◌^◌, eqb, ltb, if◌then◌else◌}
use Rattle.std.proofs.Math.Option.{Option, none, some}
use Rattle.failure.specs.Outcome.{Outcome, Refused, Answer}
use Rattle.arch.specs.Arch.{Arch, numbers}
use Rattle.arch.specs.File.{fp, sp}
use Rattle.lookup.specs.declared.Record.{Record}
use Rattle.program.specs.Run.{Ran, run}
use Rattle.frame.specs.Layout.{Pair, Layout, layout}
use Rattle.frame.specs.ReadAs.{read_as, passes}
use Rattle.model.specs.Machine.{Open, Tables, tables_alone, value}

-- the state that a run gives, if it is not refused
abbrev pub state_of : Outcome Ran → Option Layout
state_of (Refused n) = none
state_of (Answer ran) = some (layout ran.state)

-- base, units and pairs at a looked-up address: the state at that offset, or version 1's word, if it passes its rules: an interrupted
-- frame's is a leaf, any other's kind 1 or 2
unfoldable pub layout_at : Tables → Record → Bool → ℕ → Option Layout
layout_at ts r interrupted at =
    if eqb r.version 2 then state_of (run (tables_alone ts) (numbers ts.arch) r.program r.limit (at - r.start))
    else if passes (numbers ts.arch) r.frame interrupted then some (read_as (numbers ts.arch) r.frame)
    else none

-- a pair is one of those
abbrev pub is_one_of : Pair → List Pair → Bool
is_one_of p [] = false
is_one_of p (q ∷ qs) = (eqb p.reg q.reg && eqb p.slot q.slot) || is_one_of p qs

-- each pair is one of those
abbrev pub among : List Pair → List Pair → Bool
among [] qs = true
among (p ∷ ps) qs = is_one_of p qs && among ps qs

-- the same pairs, in any order
unfoldable pub same_pairs : List Pair → List Pair → Bool
same_pairs ps qs = among ps qs && among qs ps

-- a register is spilled
abbrev pub is_spilled : List Pair → ℕ → Bool
is_spilled [] reg = false
is_spilled (p ∷ ps) reg = eqb p.reg reg || is_spilled ps reg

-- those registers that are not spilled have their kept values
abbrev pub have_kept : Arch → Open → List ℕ → List ℕ → Bool
have_kept a f file [] = true
have_kept a f file (reg ∷ regs) =
    (is_spilled f.spilled reg || eqb (value a file reg) (value a f.kept reg)) && have_kept a f file regs

-- a good fp: above 0 and a multiple of 8
unfoldable pub good_fp : ℕ → Bool
good_fp x = ltb 0 x && eqb (x % 8) 0

-- what the layout has as base, units and pairs fits the frame with these registers, one test a line: the CFA is the sum; the spilled
-- pairs are the pairs; a good fp if base; unspilled preserved registers have kept values
unfoldable pub fits : Arch → Open → List ℕ → Layout → Bool
fits a f file l =
    eqb f.cfa (((if l.on_fp then fp a file else sp a file) + 8 * l.units) % 2 ^ 64)
    && same_pairs f.spilled l.pairs
    && (not l.on_fp || good_fp (fp a file))
    && have_kept a f file a.preserved

-- there is a layout, and it fits
abbrev pub fits_some : Arch → Open → List ℕ → Option Layout → Bool
fits_some a f file none = false
fits_some a f file (some l) = fits a f file l

-- the frame with these registers is described at a looked-up address
unfoldable pub described : Tables → Open → List ℕ → Bool → ℕ → Bool
described ts f file interrupted at =
    fits_some (numbers ts.arch) f file (layout_at ts f.entry.function interrupted at)
