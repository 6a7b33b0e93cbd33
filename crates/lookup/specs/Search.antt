-- The search of a chunk's records (document 01, "Chunks and records").
use Rattle.std.specs.Prelude.{Option, None, Some, Bool, ◌&&◌, ◌||◌, ℕ, zero, suc, ◌+◌, ◌-◌, ◌/◌, leb, ltb, if◌then◌else◌}
use Rattle.failure.specs.Outcome.{Outcome, Refused, Answer}
use Rattle.failure.specs.Failure.{EkoUnsorted}
use Rattle.lookup.specs.Record.{holds}
use Rattle.lookup.specs.declared.Record.{Record}

-- the middle of two indices
abbrev pub middle : ℕ → ℕ → ℕ
middle lo hi = lo + (hi - lo) / 2

-- the last record found by halving on start, between lo and hi, in at most n turns
unfoldable pub halve : ℕ → (ℕ → Record) → ℕ → ℕ → ℕ → ℕ
halve zero rec pc lo hi = lo
halve (suc n) rec pc lo hi =
    if ltb 1 (hi - lo) then
    (if leb (rec (middle lo hi)).start pc then halve n rec pc (middle lo hi) hi else halve n rec pc lo (middle lo hi))
    else lo

-- a record's left neighbour ends above its start
unfoldable pub left_meets : (ℕ → Record) → ℕ → Bool
left_meets rec i = ltb 0 i && ltb (rec i).start (rec (i - 1)).end

-- a record's right neighbour starts below its end
unfoldable pub right_meets : (ℕ → Record) → ℕ → ℕ → Bool
right_meets rec count i = ltb (i + 1) count && ltb (rec (i + 1)).start (rec i).end

-- record number i, if its neighbours do not overlap it and it holds pc
unfoldable pub settle : (ℕ → Record) → ℕ → ℕ → ℕ → Outcome (Option Record)
settle rec count pc i =
    if left_meets rec i || right_meets rec count i then Refused EkoUnsorted
    else Answer (if holds (rec i) pc then Some (rec i) else None)

-- the record of `count` many that holds pc, found by halving on start
unfoldable pub search : (ℕ → Record) → ℕ → ℕ → Outcome (Option Record)
search rec count pc = settle rec count pc (halve count rec pc 0 count)
