-- Laws of `in_range` and `search_in`. Assumes nothing.
use mathlib.Core.Path.{◌≡◌}
use mathlib.Core.Bool.{true, false, and-false}
use mathlib.Core.List.{List}
use Rattle.std.specs.Prelude.{None}
use Prim.Native.Nat.{ℕ, ◌-◌, ◌≤◌, ◌<◌}
use borrow.Author.Tests.{eq-eqb, ne_eqb, le-leb, lt-leb, lt-ltb, le-ltb}
use Rattle.failure.specs.Outcome.{Answer}
use Rattle.lookup.specs.Record.{record_of}
use Rattle.lookup.specs.Search.{search}
use Rattle.lookup.specs.Lookup.{in_range, search_in}
use Rattle.lookup.specs.declared.Chunk.{Chunk}
use Rattle.lookup.specs.declared.Record.{Record}

-- when pc is not in the range of a chunk, and when it is
module _ (rec : ℕ → Record) (count pc : ℕ) where
  pub range_empty : count ≡ 0 → in_range rec count pc ≡ false
  unfolding in_range
  range_empty z = simp (eq-eqb _ _ z)

  pub range_below : pc < (rec 0).start → in_range rec count pc ≡ false
  unfolding in_range
  range_below h = simp (lt-leb _ _ h, and-false)

  pub range_above : (rec (count - 1)).end ≤ pc → in_range rec count pc ≡ false
  unfolding in_range
  range_above h = simp (le-ltb _ _ h, and-false)

  pub range_within : (count ≡ 0 → ⊥) → (rec 0).start ≤ pc → pc < (rec (count - 1)).end → in_range rec count pc ≡ true
  unfolding in_range
  range_within z s e = simp (ne_eqb _ _ z, le-leb _ _ s, lt-ltb _ _ e)

-- what the search of a chunk comes to
module _ (bytes : List ℕ) (base pc : ℕ) (c : Chunk) where
  pub search_skips : in_range (record_of bytes base c) c.count pc ≡ false → Answer None ≡ search_in bytes base pc c
  unfolding search_in
  search_skips g = simp g

  pub search_goes : in_range (record_of bytes base c) c.count pc ≡ true →
      search (record_of bytes base c) c.count pc ≡ search_in bytes base pc c
  unfolding search_in
  search_goes g = simp g
