-- The search phase answers what the machine's rows say. Assumes nothing.
use mathlib.Core.Bool.{Bool, true, false}
use mathlib.Core.List.{List, [], ◌∷◌}
use mathlib.Core.Path.{◌≡◌, refl, ap}
use Prim.Native.Nat.{ℕ, zero, suc, ◌+◌, ◌≤◌, ◌<◌}
use native.Mathlib.Omega.{arith}
use lib.Dec.{eqb}
use lib.ListN.{length}
use Rattle.failure.specs.Outcome.{Answer}
use Rattle.mem.specs.Memory.{Region}
use Rattle.mem.proofs.Tests.{both}
use Rattle.arch.specs.Arch.{Arch, numbers}
use Rattle.arch.specs.File.{sp}
use Rattle.rows.specs.Row.{Found, None, Pad, cleanup, catch}
use Rattle.personality.specs.Reason as Reason
use Rattle.personality.specs.Reason.{searched_code}
use Rattle.model.specs.FrameStep.{max_frames}
use Rattle.model.specs.Search.{Searched, search_code, by_code, search_from}
use Rattle.model.specs.Machine.{Open, Tables, lending, memory_with, caller_interrupted}
use Rattle.model.specs.Throw.{standing, row_of}
use Rattle.model.specs.Sound.{good_frame, good_frames}
use Rattle.model.specs.Expected.{outcome_by, outcome_from}
use Rattle.model.proofs.Chain.{AllLive, Chain, Agrees}
use Rattle.model.proofs.Stands.{frame, Goes}
use Rattle.model.proofs.Walks.{Walks, stood}

-- a frame's code and its row say the same
by_row_lem : (a : Arch) (n : ℕ) (interrupted : Bool) (file file' : List ℕ) (f : Open) (row : Found) (rest : Searched) → sp a file' ≡ sp a file →
    by_code a (frame n interrupted file') (search_code row) (Answer rest) ≡ Answer (outcome_by a n (stood interrupted file f) row rest)
unfolding searched_code
by_row_lem a n interrupted file file' f None rest e = refl
by_row_lem a n interrupted file file' f (Pad pad action) rest e = go (eqb action cleanup) refl
  where
    caught : eqb action cleanup ≡ false → (t : Bool) → eqb action catch ≡ t →
        by_code a (frame n interrupted file') (searched_code action) (Answer rest)
        ≡ Answer (outcome_by a n (stood interrupted file f) (Pad pad action) rest)
    caught p true q = rw (p, q, e)
    caught p false q = rw (p, q)

    go : (t : Bool) → eqb action cleanup ≡ t →
        by_code a (frame n interrupted file') (searched_code action) (Answer rest)
        ≡ Answer (outcome_by a n (stood interrupted file f) (Pad pad action) rest)
    go true p = rw p
    go false p = caught p (eqb action catch) refl

module _ (ts : Tables) (stack : Region) (w : Walks ts stack) where
  pub searches :
      (fs : List Open) (fuel n : ℕ) (first interrupted : Bool) (file file' : List ℕ) → length fs < fuel → n + length fs ≤ max_frames →
      (first ≡ true → n ≡ 0) → Chain ts first interrupted file fs → AllLive (numbers ts.arch) stack fs →
      good_frames ts (standing interrupted file fs) ≡ true → Agrees (numbers ts.arch) file' file →
      search_from fuel ts.arch (lending ts stack) (frame n interrupted file')
      ≡ Answer (outcome_from ts n (standing interrupted file fs))
  searches fs zero n first interrupted file file' enough few zeroth chain live good agrees = absurd (omega arith)
  searches [] (suc fuel) n first interrupted file file' enough few zeroth chain live good agrees =
      rw (w.ends n interrupted file file' chain agrees)
  searches (f ∷ fs) (suc fuel) n first interrupted file file' enough few zeroth chain live good agrees =
      let goods = both (good_frame ts (stood interrupted file f)) _ good in
      let g : Goes ts stack n interrupted file' f =
      w.goes n first interrupted file file' f (omega arith) zeroth chain.0 live.0 agrees in
      let rest =
      searches fs fuel (n + 1) false (caller_interrupted f) f.kept g.next (omega arith) (omega arith) (λ e. absurd_bool e) chain.1
      live.1 goods.1 g.agrees in
      rw (
        g.steps,
        ap (λ (x : ℕ). Reason.row_of (numbers ts.arch) (memory_with ts stack) interrupted f.entry.function x) agrees.pc,
        w.row first interrupted file f chain.0 goods.0,
        rest,
      )
      (by_row_lem (numbers ts.arch) n interrupted file file' f (row_of ts (stood interrupted file f)) _ agrees.sp)
    where
      absurd_bool : false ≡ true → n + 1 ≡ 0
      absurd_bool e = let z : ◌≡◌ {A = ℕ} 0 1 = cc in absurd (omega arith)
