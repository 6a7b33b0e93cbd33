-- Demand 3, in each of its forms, speaks of every closed run: a theorem that asked for more than the runs have would not. Assumes nothing.
use mathlib.Core.List.{List, [], ◌∷◌}
use Rattle.runs.specs.Scenario.{Scenario}
use Rattle.runs.specs.Promises.{Promises, All}
use Rattle.runs.specs.Aarch64 as Aarch64
use Rattle.runs.specs.X86 as X86
use Rattle.runs.specs.BoundsAarch64 as BoundsAarch64
use Rattle.runs.specs.BoundsX86 as BoundsX86
use Rattle.runs.specs.FarAarch64 as FarAarch64
use Rattle.runs.specs.FarX86 as FarX86
use Rattle.runs.proofs.Applied.{all_promised}
use Rattle.runs.proofs.Hold.{aarch64_scenarios, x86_scenarios, leaf_scenarios}
use Rattle.runs.proofs.BoundsAarch64 as bounds-aarch64
use Rattle.runs.proofs.BoundsX86 as bounds-x86
use Rattle.runs.proofs.FarAarch64 as far-aarch64
use Rattle.runs.proofs.FarX86 as far-x86

-- of aarch64
abbrev pub of_aarch64 : List Scenario
of_aarch64 =
    Aarch64.caught ∷ Aarch64.terminated ∷ Aarch64.uncaught ∷ Aarch64.at_entry ∷ Aarch64.in_leaf ∷
    BoundsAarch64.at_end ∷ BoundsAarch64.of_eight ∷ BoundsAarch64.below_cfa ∷ BoundsAarch64.at_entry ∷ BoundsAarch64.at_cfa ∷ BoundsAarch64.alone ∷
    FarAarch64.wraps ∷ FarAarch64.rowless ∷ []

pub every_aarch64 : All Promises of_aarch64
every_aarch64 =
    let (a, b, c, d) = aarch64_scenarios in
    all_promised of_aarch64 (
      a,
      (
        b,
        (
          c,
          (
            d,
            (
              leaf_scenarios.0,
              (
                bounds-aarch64.at-end,
                (
                  bounds-aarch64.of_eight_lem,
                  (
                    bounds-aarch64.below-cfa,
                    (
                      bounds-aarch64.at-entry,
                      (
                        bounds-aarch64.at-cfa,
                        (bounds-aarch64.one-alone, (far-aarch64.over_wrapped, (far-aarch64.in_leaf_lem, tt))),
                      ),
                    ),
                  ),
                ),
              ),
            ),
          ),
        ),
      ),
    )

-- of x86-64
abbrev pub of_x86 : List Scenario
of_x86 =
    X86.caught ∷ X86.terminated ∷ X86.uncaught ∷ X86.in_leaf ∷ X86.over_unlinked ∷
    BoundsX86.at_end ∷ BoundsX86.of_eight ∷ BoundsX86.between_slots ∷ BoundsX86.at_entry ∷ BoundsX86.at_cfa ∷ BoundsX86.alone ∷
    FarX86.wraps ∷ FarX86.rowless ∷ []

pub every_x86 : All Promises of_x86
every_x86 =
    let (a, b, c, d) = x86_scenarios in
    all_promised of_x86 (
      a,
      (
        b,
        (
          c,
          (
            d,
            (
              leaf_scenarios.1,
              (
                bounds-x86.at-end,
                (
                  bounds-x86.of_eight_lem,
                  (
                    bounds-x86.between-slots,
                    (
                      bounds-x86.at-entry,
                      (
                        bounds-x86.at-cfa,
                        (bounds-x86.one-alone, (far-x86.over_wrapped, (far-x86.in_leaf_lem, tt))),
                      ),
                    ),
                  ),
                ),
              ),
            ),
          ),
        ),
      ),
    )
