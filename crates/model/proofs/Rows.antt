-- The row that the code finds for a frame is the machine's row, and is refused only where the frame is not good, whatever the stack holds.
-- Assumes nothing.
use Rattle.std.specs.Prelude.{if◌then◌else◌}
use mathlib.Core.Path.{◌≡◌, refl, sym, ◌∙◌, ap}
use mathlib.Core.Bool.{Bool, true, false, ◌&&◌, ◌||◌}
use mathlib.Core.List.{List, [], ◌∷◌}
use Prim.Native.Nat.{ℕ, ◌-◌, ◌^◌, ◌≤◌, ◌<◌}
use native.Mathlib.Nat.{mod-eq_of_lt}
use native.Mathlib.Omega.{arith}
use lib.Dec.{eqb, leb, ltb}
use lib.ListN.{get_or}
use borrow.Author.Tests.{le-ltb, leb-true, ltb-true}
use Rattle.failure.specs.Outcome.{Outcome, Answer}
use Rattle.mem.specs.Memory.{Region, Memory}
use Rattle.mem.specs.Opening.{opens}
use Rattle.mem.proofs.Tests.{both}
use Rattle.arch.specs.Arch.{Arch, numbers}
use Rattle.arch.specs.File.{pc}
use Rattle.lookup.specs.Record.{holds}
use Rattle.lookup.specs.Tables.{records}
use Rattle.lookup.specs.declared.Record.{Record}
use Rattle.rows.specs.Row.{Found}
use Rattle.rows.specs.Handler.{handler}
use Rattle.rows.specs.Prefix.{row_at}
use Rattle.rows.specs.NotRefused.{not_refused}
use Rattle.personality.specs.Reason as Reason
use Rattle.personality.specs.Reason.{rowless, row_after}
use Rattle.model.specs.Machine.{Open, Tables, lending, memory_with}
use Rattle.model.specs.Throw as Throw
use Rattle.model.specs.Throw.{rows_in}
use Rattle.model.specs.Sound.{good_table, good_row, good_frame, SoundTables}
use Rattle.model.proofs.Chain.{FrameAt}
use Rattle.model.proofs.InSection.{Bounds, lent_bounds, Lies, record_lies, record-holds}
use Rattle.model.proofs.Rows1.{row_found1, row_not_refused1}
use Rattle.model.proofs.Rows2.{row_found2, row_not_refused2}

-- what the code reads for a frame with a table
abbrev read : Arch → Memory → Record → ℕ → Outcome Found
read a m r ret = if eqb r.version 2 then row_after a m r ret else handler m r.handlers ret

-- a frame with a table, its pc past the start by less than 2^32: the code reads at that offset
reads : (a : Arch) (m : Memory) (r : Record) (at : ℕ) → eqb r.handlers 0 ≡ false → r.start ≤ at → at - r.start < 2 ^ 32 →
    Reason.row_of a m false r at ≡ read a m r (at - r.start)
unfolding Reason.row_of rowless
reads a m r at some above near = rw (some, le-ltb at r.start above, mod-eq_of_lt near)

module _ (ts : Tables) (m : Memory) (r : Record) (b : Bounds ts.section) (bytes : (k : ℕ) → get_or ts.section.bytes k 0 < 256)
    (l : Lies ts.section r) (ret : ℕ) (some : eqb r.handlers 0 ≡ false) (table : good_table ts r ≡ true) where
  abbrev a : Arch
  a = numbers ts.arch

  -- if the table is good, what it reads is not refused exactly if the row is good
  read_not_refused : not_refused (read a (ts.section ∷ m) r ret) ≡ good_row ts r ret
  unfolding good_table good_row rows_in
  read_not_refused = go (eqb r.version 2) refl
    where
      go : (t : Bool) → eqb r.version 2 ≡ t → not_refused (read a (ts.section ∷ m) r ret) ≡ good_row ts r ret
      go true p = rw p (row_not_refused2 a ts.section m r ret l (rw p at (rw some at table)))
      go false p = rw p (row_not_refused1 ts.section m r.handlers ret b bytes (rw p at (rw some at table)))

  -- and then it is the row of the list
  read_found : good_row ts r ret ≡ true → read a (ts.section ∷ m) r ret ≡ Answer (row_at ret (rows_in ts r))
  unfolding good_table good_row rows_in
  read_found good = go (eqb r.version 2) refl
    where
      go : (t : Bool) → eqb r.version 2 ≡ t → read a (ts.section ∷ m) r ret ≡ Answer (row_at ret (rows_in ts r))
      go true p = rw p (row_found2 a ts.section m r ret l (rw p at (rw some at table)) (rw p at good))
      go false p = rw p (row_found1 ts.section m r.handlers ret b bytes (rw p at (rw some at table)) (rw p at good))

-- where the pc of a frame that is not interrupted lies
pc_in : (r : Record) (at : ℕ) → 0 < at → holds r (at - 1) ≡ true → (r.start ≤ at) × (at ≤ r.end)
unfolding holds
pc_in r at h e =
    let (low, high) = both (leb r.start (at - 1)) (ltb (at - 1) r.end) e in
    (omega (arith, leb-true r.start (at - 1) low), omega (arith, ltb-true (at - 1) r.end high))

-- of a frame that is not interrupted
module _ (ts : Tables) (stack : Region) (first : Bool) (file : List ℕ) (f : Open) (o : opens (lending ts stack) ≡ true)
    (bytes : (k : ℕ) → get_or ts.section.bytes k 0 < 256) (s : SoundTables ts) (x : FrameAt ts first false file f) where
  abbrev r : Record
  r = f.entry.function

  abbrev ret : ℕ
  ret = pc file - r.start

  b : Bounds ts.section
  b = lent_bounds ts stack o

  lies : Lies ts.section r
  unfolding records
  lies = record_lies ts.section b ts.arch f.entry x.kept.is_record

  within : (r.start ≤ pc file) × (pc file ≤ r.end)
  within = pc_in r (pc file) x.called x.held

  near : pc file - r.start < 2 ^ 32
  unfolding records
  near =
      let proper = s.proper f.entry x.kept.is_record in
      omega (arith, within.1, (record-holds ts.section b bytes ts.arch f.entry x.kept.is_record).short proper)

  -- what the code reads for it
  reads_here : (m : Memory) → eqb r.handlers 0 ≡ false →
      Reason.row_of (numbers ts.arch) m false r (pc file) ≡ read (numbers ts.arch) m r ret
  reads_here m some = reads (numbers ts.arch) m r (pc file) some within.0 near

  -- when that is not refused
  not_refused_here : good_table ts r ≡ true → (m : Memory) →
      not_refused (Reason.row_of (numbers ts.arch) (ts.section ∷ m) false r (pc file)) ≡ (eqb r.handlers 0 || good_row ts r ret)
  unfolding Reason.row_of rowless
  not_refused_here table m = go (eqb r.handlers 0) refl
    where
      go : (t : Bool) → eqb r.handlers 0 ≡ t →
          not_refused (Reason.row_of (numbers ts.arch) (ts.section ∷ m) false r (pc file)) ≡ (eqb r.handlers 0 || good_row ts r ret)
      go true p = rw p
      go false p = ap not_refused (reads_here (ts.section ∷ m) p) ∙ rw p (read_not_refused ts m r b bytes lies ret p table)

  -- it is good exactly if its table is and that is not refused
  good_here : (m : Memory) →
      good_frame ts (record { frame = f; file = file; interrupted = false })
      ≡ (good_table ts r && not_refused (Reason.row_of (numbers ts.arch) (ts.section ∷ m) false r (pc file)))
  unfolding good_frame
  good_here m = go (good_table ts r) refl
    where
      go : (t : Bool) → good_table ts r ≡ t →
          good_frame ts (record { frame = f; file = file; interrupted = false })
          ≡ (good_table ts r && not_refused (Reason.row_of (numbers ts.arch) (ts.section ∷ m) false r (pc file)))
      go true p = rw p (sym (not_refused_here p m))
      go false p = rw p

  -- the row of a good frame
  found_here : good_frame ts (record { frame = f; file = file; interrupted = false }) ≡ true →
      Reason.row_of (numbers ts.arch) (memory_with ts stack) false r (pc file)
      ≡ Answer (Throw.row_of ts (record { frame = f; file = file; interrupted = false }))
  unfolding Reason.row_of rowless Throw.row_of good_frame
  found_here good = go (eqb r.handlers 0) refl
    where
      go : (t : Bool) → eqb r.handlers 0 ≡ t →
          Reason.row_of (numbers ts.arch) (memory_with ts stack) false r (pc file)
          ≡ Answer (Throw.row_of ts (record { frame = f; file = file; interrupted = false }))
      go true p = rw p
      go false p =
          let tests = both (good_table ts r) (false || eqb r.handlers 0 || good_row ts r ret) good in
          reads_here (memory_with ts stack) p
          ∙ rw p (read_found ts (stack ∷ []) r b bytes lies ret p tests.0 (rw p at tests.1))

-- a frame is good exactly if its table is and the code does not refuse its row, whatever is lent after the section
pub row_not_refused : (ts : Tables) (stack : Region) (first interrupted : Bool) (file : List ℕ) (f : Open) →
    opens (lending ts stack) ≡ true → ((k : ℕ) → get_or ts.section.bytes k 0 < 256) →
    SoundTables ts → FrameAt ts first interrupted file f → (m : Memory) →
    good_frame ts (record { frame = f; file = file; interrupted = interrupted })
    ≡ (good_table ts f.entry.function
    && not_refused (Reason.row_of (numbers ts.arch) (ts.section ∷ m) interrupted f.entry.function (pc file)))
unfolding Reason.row_of rowless good_frame
row_not_refused ts stack first true file f o bytes s x m = refl
row_not_refused ts stack first false file f o bytes s x m = good_here ts stack first file f o bytes s x m

-- the row that the code finds is the machine's
pub row-found : (ts : Tables) (stack : Region) (first interrupted : Bool) (file : List ℕ) (f : Open) →
    opens (lending ts stack) ≡ true → ((k : ℕ) → get_or ts.section.bytes k 0 < 256) →
    SoundTables ts → FrameAt ts first interrupted file f →
    good_frame ts (record { frame = f; file = file; interrupted = interrupted }) ≡ true →
    Reason.row_of (numbers ts.arch) (memory_with ts stack) interrupted f.entry.function (pc file)
    ≡ Answer (Throw.row_of ts (record { frame = f; file = file; interrupted = interrupted }))
unfolding Reason.row_of rowless Throw.row_of
row-found ts stack first true file f o bytes s x good = refl
row-found ts stack first false file f o bytes s x good = found_here ts stack first file f o bytes s x good
