-- What a sound section says of the rows: each is none or well-formed, so terminate is action 2; and its frames are good exactly if their
-- tables are and the code refuses no row of them. Assumes nothing.
use mathlib.Core.Bool.{Bool, true, false, ◌&&◌, ◌||◌}
use mathlib.Core.List.{List, [], ◌∷◌}
use mathlib.Core.Logic.{inl, inr}
use mathlib.Core.Path.{◌≡◌, refl, sym, subst}
use Prim.Native.Nat.{ℕ, ◌+◌, ◌-◌}
use native.Mathlib.Omega.{arith}
use lib.Dec.{eqb}
use borrow.Author.Tests.{eqb-true, le-ltb}
use Rattle.mem.proofs.Tests.{both}
use Rattle.arch.specs.Arch.{numbers}
use Rattle.arch.specs.File.{pc}
use Rattle.rows.specs.Row.{Pad, terminate}
use Rattle.rows.specs.Handler.{Entry}
use Rattle.rows.specs.Prefix.{row_at}
use Rattle.rows.specs.NotRefused.{not_refused, well_formed, none_or_well_formed, Ending, complete, through, deltas_above0, reached, followed, answered}
use Rattle.personality.specs.Reason as Reason
use Rattle.model.specs.Machine.{Open, Tables, Machine, caller_interrupted, tables_alone}
use Rattle.model.specs.Throw.{Throw, throw_allowed, thrown, Standing, standing, frames_at, record_of, rows_in, row_of}
use Rattle.model.specs.Sound.{Sound, SoundTables, good_table, ending2, good_row, good_frame, good_frames}
use Rattle.model.specs.Exactly.{Terminate, Numbered}
use Rattle.model.proofs.Chain.{Chain, Inv}
use Rattle.model.proofs.Rows.{row_not_refused}
use Rattle.model.proofs.Theorem.{thrown_chain}

-- the row of a version 2 table that is answered
answered-valid : (ret : ℕ) (rows : List Entry) (end : Ending) → answered ret rows end ≡ true → none_or_well_formed (row_at ret rows) ≡ true
unfolding answered
answered-valid ret rows end h =
    (both (deltas_above0 0 (through ret rows) && (reached ret rows || complete end) && followed ret rows end) (none_or_well_formed (row_at ret rows)) h).1

-- the row of a good frame
frame-valid : (ts : Tables) (s : Standing) → good_frame ts s ≡ true → none_or_well_formed (row_of ts s) ≡ true
unfolding good_frame good_row row_of
frame-valid ts s good = go s.interrupted (eqb (record_of s).handlers 0) (eqb (record_of s).version 2) refl refl refl
  where
    offset : ℕ
    offset = pc s.file - (record_of s).start

    row : (s.interrupted || eqb (record_of s).handlers 0 || good_row ts (record_of s) offset) ≡ true
    row =
        (both (good_table ts (record_of s)) (s.interrupted || eqb (record_of s).handlers 0 || good_row ts (record_of s) offset) good).1

    go : (i t v : Bool) → s.interrupted ≡ i → eqb (record_of s).handlers 0 ≡ t → eqb (record_of s).version 2 ≡ v →
        none_or_well_formed (row_of ts s) ≡ true
    go true t v p q w = rw p
    go false true v p q w = rw (p, q)
    go false false true p q w =
        rw (p, q)
        (answered-valid offset (rows_in ts (record_of s)) (ending2 (numbers ts.arch) (tables_alone ts) (record_of s))
        (rw w at (rw q at (rw p at row))))
    go false false false p q w = rw (p, q) (rw w at (rw q at (rw p at row)))

-- every row at a throw under a sound section
pub rows-valid : (m : Machine) (t : Throw) → Sound m t → (k : ℕ) (s : Standing) → Numbered 0 (frames_at m t) k s →
    none_or_well_formed (row_of m.tables s) ≡ true
rows-valid m t s = go (frames_at m t) 0 s.frames
  where
    go : (ss : List Standing) (n : ℕ) → good_frames m.tables ss ≡ true → (k : ℕ) (x : Standing) → Numbered n ss k x →
        none_or_well_formed (row_of m.tables x) ≡ true
    go [] n good k x j = absurd j
    go (y ∷ ss) n good k x (inl e) =
        subst (λ (z : Standing). none_or_well_formed (row_of m.tables z) ≡ true) (sym e.1)
        (frame-valid m.tables y (both (good_frame m.tables y) _ good).0)
    go (y ∷ ss) n good k x (inr j) = go ss (n + 1) (both (good_frame m.tables y) _ good).1 k x j

-- of the well-formed rows, terminate is action 2
pub terminate-valid : (pad action : ℕ) → none_or_well_formed (Pad pad action) ≡ true → Terminate (Pad pad action) → action ≡ terminate
unfolding well_formed
terminate-valid pad action v e = go (eqb action terminate) refl
  where
    go : (t : Bool) → eqb action terminate ≡ t → action ≡ terminate
    go true p = eqb-true action terminate p
    go false p =
        let zeroth = e.0 in
        let first = e.1 in
        let none : false ≡ true = rw (le-ltb action 2 (omega arith), p) at v in
        let z : ◌≡◌ {A = ℕ} 0 1 = cc in absurd (omega arith)

-- a frame's table is good, and the code does not refuse its row in the section
unfoldable pub good_by_code : Tables → Standing → Bool
good_by_code ts s =
    good_table ts (record_of s)
    && not_refused (Reason.row_of (numbers ts.arch) (tables_alone ts) s.interrupted (record_of s) (pc s.file))

-- that holds of each frame
abbrev pub all_good_by_code : Tables → List Standing → Bool
all_good_by_code ts [] = true
all_good_by_code ts (s ∷ ss) = good_by_code ts s && all_good_by_code ts ss

-- at a throw within the rules over sound tables the frames are good exactly if they are so by the code
pub same_by_code : (m : Machine) → Inv m → (t : Throw) → throw_allowed m t ≡ true → SoundTables m.tables →
    good_frames m.tables (frames_at m t) ≡ all_good_by_code m.tables (frames_at m t)
unfolding good_by_code
same_by_code m i t allowed s = go m.frames true t.interrupted (thrown m t) (thrown_chain m i t allowed)
  where
    go : (fs : List Open) (first interrupted : Bool) (file : List ℕ) → Chain m.tables first interrupted file fs →
        good_frames m.tables (standing interrupted file fs) ≡ all_good_by_code m.tables (standing interrupted file fs)
    go [] first interrupted file chain = refl
    go (f ∷ fs) first interrupted file chain =
        rw (
          row_not_refused m.tables m.stack first interrupted file f i.accepted i.bytes s chain.0 [],
          go fs false (caller_interrupted f) f.kept chain.1,
        )
