-- Laws of the rows and reasons of a frame. Assumes nothing.
use Rattle.std.proofs.Common.{◌≡◌, refl, sym, ◌∙◌, ap, Bool, true, false, ◌||◌, List, ℕ, ◌-◌, ◌^◌, ◌≤◌, ◌<◌, arith, eqb, ltb, lit<, slice_set, eq-eqb, ne_eqb, ltb-false}
use Rattle.failure.specs.Outcome.{Outcome, Refused, Answer}
use Rattle.mem.specs.Memory.{Memory}
use Rattle.mem.specs.Wrapping.{sum}
use Rattle.arch.specs.Arch.{Arch, numbers}
use Rattle.arch.specs.File.{set, set_pc}
use Rattle.arch.specs.Answers.{in_code}
use Rattle.arch.proofs.Arch.{of_both}
use Rattle.arch.proofs.File.{column-low, set_at}
use Rattle.program.specs.Run.{Ran, run}
use Rattle.arch.specs.declared.Regs.{Regs}
use Rattle.rows.specs.Row.{Found, None, Pad}
use Rattle.rows.specs.Handler.{handler}
use Rattle.rows.specs.Handler2.{handler2}
use Rattle.lookup.specs.declared.Record.{Record}
use Rattle.personality.specs.Reason.{rowless, offset_in, row_after, row_of, reason, continue_unwind, install_context, installed, searched_code, cleaned, meant_by}
use Rattle.personality.specs.Answers.{Given, decided}
use Rattle.personality.specs.declared.Phase.{Phase}
use Rattle.personality.specs.declared.Phase.TheVariants.{Search, Cleanup}

-- registers 0 and 1 stand in columns 0 and 1
data-set : (n : ℕ) (file : List ℕ) (reg value : ℕ) → reg < 2 → Answer (slice_set file reg value) ≡ set (numbers n) file reg value
data-set n file reg value h =
    let low : 2 ≤ (numbers n).low = of_both (λ (a : Arch). 2 ≤ a.low) (lit< tt) (lit< tt) n in
    set_at (numbers n) file reg value reg (column-low (numbers n) (in_code (numbers n)) refl reg (omega arith))

pub install : (n exception start pad : ℕ) (file : List ℕ) →
    installed (numbers n) exception start pad file
    ≡ Answer (reason install_context (set_pc (slice_set (slice_set file 0 exception) 1 0) (sum start pad)))
unfolding installed
install n exception start pad file =
    rw (sym (data-set n file 0 exception (lit< tt)), sym (data-set n (slice_set file 0 exception) 1 0 (lit< tt)))

-- a frame with a row has its pc at or above its start
pub row-above : (interrupted : Bool) (r : Record) (at : ℕ) → rowless interrupted r at ≡ false → r.start ≤ at
unfolding rowless
row-above interrupted r at e = ltb-false at r.start (last (interrupted || eqb r.handlers 0) (ltb at r.start) e)
  where
    last : (s t : Bool) → (s || t) ≡ false → t ≡ false
    last true t p = let z : ◌≡◌ {A = ℕ} 0 1 = cc in absurd (omega arith)
    last false t p = p

module _ (a : Arch) (m : Memory) (interrupted : Bool) (r : Record) (at : ℕ) where
  pub row_none : rowless interrupted r at ≡ true → Answer None ≡ row_of a m interrupted r at
  unfolding row_of
  row_none e = rw e

  module _ (some : rowless interrupted r at ≡ false) where
    pub row_2 : r.version ≡ 2 → (o : Outcome Found) → o ≡ row_after a m r (offset_in r at) → o ≡ row_of a m interrupted r at
    unfolding row_of
    row_2 v o p = rw some (simp (eq-eqb r.version 2 v) p)

    pub row_1 : (r.version ≡ 2 → ⊥) → (o : Outcome Found) → o ≡ handler m r.handlers (offset_in r at) → o ≡ row_of a m interrupted r at
    unfolding row_of
    row_1 v o p = rw some (simp (ne_eqb r.version 2 v) p)

module _ (a : Arch) (m : Memory) (r : Record) (ret : ℕ) where
  pub after_run : (ran : Ran) → run m a r.program r.limit (2 ^ 64 - 1) ≡ Answer ran → (o : Outcome Found) →
      o ≡ handler2 m ran.after r.limit ret → o ≡ row_after a m r ret
  unfolding row_after
  after_run ran e o p = rw e p

  pub after_refused : (n : ℕ) → run m a r.program r.limit (2 ^ 64 - 1) ≡ Refused n → Refused n ≡ row_after a m r ret
  unfolding row_after
  after_refused n e = rw e

-- the landing pad's file as the code makes it
pub install_decided : (n exception start pad : ℕ) (regs next : Regs) (pc : ℕ) → pc ≡ sum start pad →
    next.r ≡ set_pc (slice_set (slice_set regs.r 0 exception) 1 0) pc →
    record { code = Answer install_context; regs = next } ≡ decided regs (installed (numbers n) exception start pad regs.r)
install_decided n exception start pad regs next pc e p =
    rw (install n exception start pad regs.r)
    (ap (λ (l : List ℕ). record { code = Answer install_context; regs = record { r = l } })
    (p ∙ ap (λ (v : ℕ). set_pc (slice_set (slice_set regs.r 0 exception) 1 0) v) e))

-- what is decided by a row
module _ (phase : Phase) (n exception start : ℕ) (row : Outcome Found) (regs : Regs) where
  pub meant_none : row ≡ Answer None →
      record { code = Answer continue_unwind; regs = regs } ≡ decided regs (meant_by phase (numbers n) exception start row regs.r)
  unfolding cleaned
  meant_none e = rw e (either phase)
    where
      either : (p : Phase) →
          record { code = Answer continue_unwind; regs = regs } ≡ decided regs (meant_by p (numbers n) exception start (Answer None) regs.r)
      either Search = refl
      either Cleanup = refl

  pub meant-search : (pad action value : ℕ) → row ≡ Answer (Pad pad action) → phase ≡ Search → value ≡ searched_code action →
      record { code = Answer value; regs = regs } ≡ decided regs (meant_by phase (numbers n) exception start row regs.r)
  meant-search pad action value e p v = rw (e, p, v) refl

  pub meant-cleanup : (pad action : ℕ) (d : Given) → row ≡ Answer (Pad pad action) → phase ≡ Cleanup →
      d ≡ decided regs (cleaned (numbers n) exception start (Pad pad action) regs.r) →
      d ≡ decided regs (meant_by phase (numbers n) exception start row regs.r)
  meant-cleanup pad action d e p q = rw (e, p) q
