-- A version 1 frame word read as base, units and pairs.
use Rattle.std.specs.Prelude.{Bool, not, ◌&&◌, ◌||◌, List, [], ◌∷◌, ◌++◌, ℕ, ◌+◌, ◌*◌, eqb, ltb, if◌then◌else◌}
use Rattle.arch.specs.Arch.{Arch}
use Rattle.frame.specs.Layout.{Pair, Layout}
use Rattle.frame.specs.Frame.{kind, leaf, on_fp, on_sp, mask, param, saved_pairs, fp_pair, ra_slot}
use Rattle.frame.specs.Step.{past_table}

-- the units of the CFA above the base, by kind: 2 * param and those of entry for a leaf, 2 above fp, 2 * param above sp
abbrev pub units : Arch → ℕ → ℕ
units a frame =
    if eqb (kind frame) leaf then 2 * param frame + a.entry_units
    else if eqb (kind frame) on_fp then 2
    else 2 * param frame

-- the return register in its slot, if it has one
abbrev pub ra_pair : Arch → ℕ → List Pair
ra_pair a slot = if eqb slot 0 then [] else record { reg = a.ra; slot = slot } ∷ []

-- the word as a frame's base, units and pairs: the saved registers, then fp, then the return register
unfoldable pub read_as : Arch → ℕ → Layout
read_as a frame =
    record {
      on_fp = eqb (kind frame) on_fp;
      units = units a frame;
      pairs = saved_pairs a frame ++ (fp_pair a frame ++ ra_pair a (ra_slot a frame));
    }

-- the word passes its rules: the mask lies within the table; an interrupted frame's word is a leaf without mask; any other's is
-- kind 1, with param at least 3 or without mask, or kind 2
unfoldable pub passes : Arch → ℕ → Bool → Bool
passes a frame first =
    not (past_table a frame) &&
    (if first then eqb (kind frame) leaf && eqb (mask frame) 0
    else eqb (kind frame) on_fp && (not (ltb (param frame) 3) || eqb (mask frame) 0) || eqb (kind frame) on_sp)
