-- A frame step of the unwinder goes from a described frame to its caller, and ends after the last. Assumes nothing.
use mathlib.Core.Bool.{Bool, true, false, not, ◌&&◌}
use mathlib.Core.List.{List}
use Rattle.std.proofs.Common.{Some}
use mathlib.Core.Path.{◌≡◌, refl, sym, ◌∙◌, ap, subst}
use Prim.Native.Nat.{ℕ, ◌+◌, ◌≤◌, ◌<◌}
use native.Mathlib.Omega.{arith}
use lib.Dec.{eqb}
use borrow.Author.Tests.{eq-eqb, ne_eqb, lt-ltb, le-ltb}
use Rattle.failure.specs.Outcome.{Answer}
use Rattle.mem.specs.Memory.{Region}
use Rattle.arch.specs.Arch.{Arch, numbers}
use Rattle.arch.specs.File.{sp, pc}
use Rattle.lookup.specs.declared.Record.{Record}
use Rattle.lookup.proofs.Sounds.{lookup-record}
use Rattle.model.specs.FrameStep.{Frame, End, Past, max_frames, looked_up, caller_file, not_advancing, next_interrupted, caller_of, find, past, frame_step}
use Rattle.model.specs.Machine.{Open, Tables, caller_interrupted, memory_with, lending}
use Rattle.model.specs.Sound.{SoundTables}
use Rattle.model.proofs.Chain.{FrameAt, Agrees}

-- a frame of the walk
abbrev pub frame : ℕ → Bool → List ℕ → Frame
frame n interrupted file = record { number = n; interrupted = interrupted; file = file }

-- past a frame: its record, and its caller's file, which agrees with the kept one
pub record Goes (ts : Tables) (stack : Region) (n : ℕ) (interrupted : Bool) (file' : List ℕ) (f : Open) : Type 0 where
  pub next : List ℕ
  pub steps :
      frame_step ts.arch (lending ts stack) (frame n interrupted file')
      ≡ Answer (Past f.entry.function (frame (n + 1) (caller_interrupted f) next))
  pub agrees : Agrees (numbers ts.arch) next f.kept

-- sp rises, or is equal in frame 0
advances : (a : Arch) (n : ℕ) (first : Bool) (file next : List ℕ) → (first ≡ true → n ≡ 0) → sp a file ≤ sp a next →
    (first ≡ false → sp a file < sp a next) → not_advancing a n file next ≡ false
unfolding not_advancing
advances a n first file next zeroth at_most lower = go first refl
  where
    go : (t : Bool) → first ≡ t → not_advancing a n file next ≡ false
    go true e = rw (le-ltb (sp a next) (sp a file) at_most, eq-eqb n 0 (zeroth e))
    go false e =
        let less = lower e in
        rw (le-ltb (sp a next) (sp a file) at_most, ne_eqb (sp a next) (sp a file) (λ p. omega arith)) (either (eqb n 0))
      where
        either : (t : Bool) → (not t && false) ≡ false
        either true = refl
        either false = refl

module _ (ts : Tables) (stack : Region) (tables : SoundTables ts) where
  -- an open frame's record is found by the address that it is looked up at
  found :
      (first interrupted : Bool) (file : List ℕ) (f : Open) → FrameAt ts first interrupted file f →
      find (lending ts stack) ts.arch (looked_up interrupted (pc file)) ≡ Answer (Some f.entry.function)
  unfolding find
  found first interrupted file f h =
      rw (lookup-record ts.section.bytes ts.section.base ts.arch tables (looked_up interrupted (pc file)) f.entry
      h.kept.is_record h.held)

  -- the walk takes its caller for interrupted exactly if the machine does
  same-interrupted :
      (n : ℕ) (first interrupted : Bool) (file file' : List ℕ) (f : Open) → FrameAt ts first interrupted file f → pc file' ≡ pc file →
      next_interrupted (lending ts stack) (frame n interrupted file') ≡ caller_interrupted f
  unfolding next_interrupted caller_interrupted
  same-interrupted n first interrupted file file' f h same = refl

  -- with the record found
  goes_past :
      (n : ℕ) (interrupted : Bool) (file file' : List ℕ) (r : Record) (next : List ℕ) → pc file' ≡ pc file →
      caller_file (numbers ts.arch) (memory_with ts stack) interrupted r (looked_up interrupted (pc file)) file' ≡ Answer next →
      not_advancing (numbers ts.arch) n file' next ≡ false →
      past (numbers ts.arch) (lending ts stack) (frame n interrupted file') r
      ≡ Answer (Past r (caller_of (lending ts stack) (frame n interrupted file') next))
  unfolding past
  goes_past n interrupted file file' r next same is rises =
      rw (
        ap (λ (x : ℕ). caller_file (numbers ts.arch) (memory_with ts stack) interrupted r (looked_up interrupted x) file') same,
        is,
        rises,
      )

  -- with what the tables say of the caller's file
  pub goes :
      (n : ℕ) (first interrupted : Bool) (file file' : List ℕ) (f : Open) → n < max_frames → (first ≡ true → n ≡ 0) →
      FrameAt ts first interrupted file f → Agrees (numbers ts.arch) file' file →
      (next : List ℕ) →
      caller_file (numbers ts.arch) (memory_with ts stack) interrupted f.entry.function (looked_up interrupted (pc file)) file'
      ≡ Answer next →
      Agrees (numbers ts.arch) next f.kept → Goes ts stack n interrupted file' f
  unfolding frame_step
  goes n first interrupted file file' f few zeroth h g next is agrees =
      let called : 0 < pc file' = subst (λ (x : ℕ). 0 < x) (sym g.pc) h.called in
      let rises : not_advancing (numbers ts.arch) n file' next ≡ false =
      advances (numbers ts.arch) n first file' next zeroth
      (omega (arith, g.sp, agrees.sp, h.kept.kept_sp, h.at_most))
      (λ e. omega (arith, g.sp, agrees.sp, h.kept.kept_sp, h.lower e)) in
      record {
        next = next;
        steps =
            rw (
              ne_eqb (pc file') 0 (λ e. omega arith),
              lt-ltb n max_frames few,
              ap (λ (x : ℕ). find (lending ts stack) ts.arch (looked_up interrupted x)) g.pc,
              found first interrupted file f h,
            )
            (goes_past n interrupted file file' f.entry.function next g.pc is rises
            ∙ ap (λ (b : Bool). Answer (Past f.entry.function (frame (n + 1) b next)))
            (same-interrupted n first interrupted file file' f h g.pc));
        agrees = agrees;
      }

  -- pc 0 ends the walk
  pub ends : (n : ℕ) (interrupted : Bool) (file file' : List ℕ) → pc file ≡ 0 → Agrees (numbers ts.arch) file' file →
      frame_step ts.arch (lending ts stack) (frame n interrupted file') ≡ Answer End
  unfolding frame_step
  ends n interrupted file file' e g = rw (eq-eqb (pc file') 0 (g.pc ∙ e))
