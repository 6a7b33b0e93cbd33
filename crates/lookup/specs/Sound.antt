-- Sound tables in a part (document 01, "Sound section").
use Rattle.std.specs.Prelude.{true, false, ◌≡◌, ℕ, ◌+◌, ◌≤◌}
use mathlib.Core.List.{List, Memᴰ}
use Rattle.lookup.specs.Record.{holds, bad_record}
use Rattle.lookup.specs.Tables.{Chunks, Entry, chunks, faultless, entries}

infix 20 ◌∈◌
-- the record is one of those
abbrev pub ◌∈◌ : Entry → List Entry → Type 0
e ∈ l = Memᴰ e l

-- the records of chunks that are counted from m are sound
pub record SoundFrom (bytes : List ℕ) (base m : ℕ) (cs : Chunks) : Type 0 where
  -- "no 17"
  pub headers : faultless cs ≡ true
  -- "in each chunk start ≤ end
  pub proper : (e : Entry) → e ∈ entries bytes base m cs → e.function.start ≤ e.function.end
  -- ≤ next start"
  pub ordered : (e f : Entry) → e ∈ entries bytes base m cs → f ∈ entries bytes base m cs →
      e.number ≡ f.number → e.index + 1 ≡ f.index → e.function.end ≤ f.function.start
  -- "no address in two chunks' records"
  pub apart : (e f : Entry) → e ∈ entries bytes base m cs → f ∈ entries bytes base m cs →
      (e.number ≡ f.number → ⊥) → (a : ℕ) → holds e.function a ≡ true → holds f.function a ≡ true → ⊥
  -- "version 2 records pass the 18 test"
  pub passes : (e : Entry) → e ∈ entries bytes base m cs → bad_record e.function ≡ false

-- the tables in a part are sound
abbrev pub IsSound : List ℕ → ℕ → ℕ → Type 0
IsSound bytes base arch = SoundFrom bytes base 0 (chunks bytes arch)
