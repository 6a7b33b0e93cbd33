-- A described frame's caller is not refused, and agrees with the kept file on sp, pc and preserved registers. Assumes nothing.
use mathlib.Core.Path.{◌≡◌, refl, sym, ◌∙◌, ap, subst}
use mathlib.Core.Bool.{Bool, true, false, ◌&&◌}
use mathlib.Core.List.{List, []}
use mathlib.Core.Logic.{⊎_elim}
use Prim.Native.Nat.{ℕ, ◌-◌, ◌*◌, ◌^◌, ◌<◌}
use native.Mathlib.Omega.{arith}
use lib.Dec.{eqb}
use lib.ListN.{get_or, length-set}
use lib.Seq.{get_or-set_same, get_or-set_other}
use borrow.Author.Tests.{eqb-true}
use Rattle.failure.specs.Failure.{one_of}
use Rattle.failure.specs.Outcome.{Outcome, Refused, Answer}
use Rattle.mem.specs.Memory.{Region, Memory}
use Rattle.mem.specs.Opening.{opens}
use Rattle.mem.specs.Wrapping.{sum}
use Rattle.arch.specs.Arch.{Arch, numbers, strip_pac}
use Rattle.arch.specs.File.{pc_column, fp, pc, set_sp}
use Rattle.arch.proofs.File.{get_at}
use Rattle.lookup.specs.declared.Record.{Record}
use Rattle.program.specs.Run.{Ran, run}
use Rattle.frame.specs.Layout.{Layout, layout, base, cfa}
use Rattle.frame.specs.Apply.{bad_fp, returned, apply}
use Rattle.frame.specs.ReadAs.{read_as, passes}
use Rattle.frame.proofs.Applied.{ra-answered, cfa-passes}
use Rattle.frame.proofs.ReadAs.{step_reads}
use Rattle.model.specs.FrameStep.{looked_up, caller_file}
use Rattle.model.specs.Machine.{Open, column, value, Tables, lending, memory_with, tables_alone}
use Rattle.model.specs.Described.{is_spilled, layout_at, fits, described}
use Rattle.model.proofs.Chain.{Kept, Live, FrameAt, Agrees}
use Rattle.model.proofs.Files.{preserved, pointers}
use Rattle.model.proofs.Restored.{Restored, restored}
use Rattle.model.proofs.Loaded.{slot-loaded}
use Rattle.model.proofs.Fitting.{Fitting, fitting, spilled_as}

-- the caller's file is answered, and agrees with the kept one
pub record CallerIs (ts : Tables) (stack : Region) (interrupted : Bool) (r : Record) (at : ℕ) (file' kept : List ℕ) : Type 0 where
  pub next : List ℕ
  pub is : caller_file (numbers ts.arch) (memory_with ts stack) interrupted r at file' ≡ Answer next
  pub agrees : Agrees (numbers ts.arch) next kept

-- the caller's file, by what a fitting layout says
module _ (ts : Tables) (stack : Region) (f : Open) (k : Kept ts f) (file file' : List ℕ)
    (g : Agrees (numbers ts.arch) file' file) (l : Layout) (t : Fitting (numbers ts.arch) f file l) where
  abbrev a : Arch
  a = numbers ts.arch

  abbrev m : Memory
  m = memory_with ts stack

  -- fp is preserved
  fp-same : fp a file' ≡ fp a file
  unfolding value
  fp-same =
      subst (λ (i : ℕ). get_or file' i 0 ≡ get_or file i 0) (pointers ts.arch).fp_column (g.preserved a.fp (pointers ts.arch).fp_preserved)

  -- and so the base is the same, and the CFA the frame's
  base_same : (b : Bool) → base a b file' ≡ base a b file
  base_same true = fp-same
  base_same false = g.sp

  cfa-same : f.cfa ≡ cfa a l file'
  cfa-same = t.sums ∙ ap (λ (n : ℕ). sum n (8 * l.units)) (sym (base_same l.on_fp))

  -- fp passes its test
  not_bad : (l.on_fp && bad_fp (base a l.on_fp file')) ≡ false
  not_bad = go l.on_fp t.good
    where
      go : (b : Bool) → (b && bad_fp (fp a file)) ≡ false → (b && bad_fp (base a b file')) ≡ false
      go true e = rw fp-same e
      go false e = refl

  -- the restored file
  module _ (e : opens (lending ts stack) ≡ true) (live : Live a stack f) where
    cfa-below : f.cfa < 2 ^ 64
    cfa-below = subst (λ (n : ℕ). n < 2 ^ 64) k.kept_sp (k.below a.sp)

    back : Restored a m f.cfa f.kept l.pairs file'
    back =
        restored a m f.cfa f.kept l.pairs file' g.wide
        (λ p i. let j = t.read p i in
        record { load = slot-loaded a ts.section stack [] f p (live p j) e cfa-below; known = k.registers p j })

    -- a spilled register has its kept value
    spilled_back : (reg : ℕ) → is_spilled f.spilled reg ≡ true → value a back.next reg ≡ value a f.kept reg
    spilled_back reg s =
        let p = spilled_as f.spilled reg s in
        subst (λ (r : ℕ). value a back.next r ≡ value a f.kept r) p.is (back.set p.pair (t.spilled p.pair p.is_in))

    -- and so has a preserved one
    preserved_back : (reg : ℕ) → one_of reg a.preserved ≡ true → value a back.next reg ≡ value a f.kept reg
    unfolding value
    preserved_back reg one =
        ⊎_elim (λ s. spilled_back reg s) (λ v. back.stays (column a reg) (g.preserved reg one ∙ v)) (t.unspilled reg one)

    -- and the return register
    ra_back : value a back.next a.ra ≡ value a f.kept a.ra
    ra_back = ⊎_elim (λ s. spilled_back a.ra s) (λ p. preserved_back a.ra p) k.returns

    abbrev ra : ℕ
    ra = value a back.next a.ra

    -- sp and pc are those of the kept file, and the others as they were restored
    returned_agrees : Agrees a (returned a f.cfa ra back.next) f.kept
    unfolding value
    returned_agrees =
        record {
          wide = simp length-set back.wide;
          sp =
              get_or-set_other (set_sp a back.next f.cfa) pc_column a.sp (strip_pac a ra) 0
              (λ q. omega (arith, (pointers ts.arch).sp_below)) ∙
              get_or-set_same back.next a.sp f.cfa 0 (omega (arith, (pointers ts.arch).sp_below, back.wide)) ∙
              sym k.kept_sp;
          pc =
              get_or-set_same (set_sp a back.next f.cfa) pc_column (strip_pac a ra) 0
              (simp length-set (omega (arith, back.wide))) ∙
              ap (strip_pac a) ra_back ∙
              k.kept_pc;
          preserved = λ reg one. let p = preserved ts.arch reg one in
              get_or-set_other (set_sp a back.next f.cfa) pc_column (column a reg) (strip_pac a ra) 0 p.not_pc ∙
              get_or-set_other back.next a.sp (column a reg) f.cfa 0 p.not_sp ∙
              preserved_back reg one;
        }

    -- apply answers that file
    apply-is : apply a m l file' ≡ Answer (returned a f.cfa ra back.next)
    unfolding value
    apply-is =
        sym (cfa-passes a m l file' (base a l.on_fp file') refl (l.on_fp && bad_fp (base a l.on_fp file')) refl not_bad
        f.cfa cfa-same (λ z. omega (arith, k.above))) ∙
        sym (ra-answered a m f.cfa l.pairs file' back.next ra back.is
        (get_at a back.next a.ra (column a a.ra) (sym (pointers ts.arch).ra_known)))

    -- where the caller's file is what apply makes of the layout
    caller_by :
        (interrupted : Bool) (r : Record) (at : ℕ) → caller_file a m interrupted r at file' ≡ apply a m l file' →
        CallerIs ts stack interrupted r at file' f.kept
    caller_by interrupted r at is =
        record { next = returned a f.cfa ra back.next; is = is ∙ apply-is; agrees = returned_agrees }

-- the program of a frame's version 2 record runs in all that is lent as in the section
abbrev pub SameRun : Tables → Region → Open → Type 0
SameRun ts stack f =
    f.entry.function.version ≡ 2 → (off : ℕ) →
    run (memory_with ts stack) (numbers ts.arch) f.entry.function.program f.entry.function.limit off ≡
    run (tables_alone ts) (numbers ts.arch) f.entry.function.program f.entry.function.limit off

module _ (ts : Tables) (stack : Region) (first interrupted : Bool) (file file' : List ℕ) (f : Open) where
  -- a described frame's caller
  pub caller_agrees :
      opens (lending ts stack) ≡ true → FrameAt ts first interrupted file f →
      Live (numbers ts.arch) stack f → Agrees (numbers ts.arch) file' file → SameRun ts stack f →
      CallerIs ts stack interrupted f.entry.function (looked_up interrupted (pc file)) file' f.kept
  unfolding caller_file described layout_at
  caller_agrees e d live g same = go (eqb f.entry.function.version 2) refl
    where
      r : Record
      r = f.entry.function

      a' : Arch
      a' = numbers ts.arch

      m' : Memory
      m' = memory_with ts stack

      at : ℕ
      at = looked_up interrupted (pc file)

      no : {A : Type 0} → false ≡ true → A
      no p = let z : ◌≡◌ {A = ℕ} 0 1 = cc in absurd (omega arith)

      Result : Type 0
      Result = CallerIs ts stack interrupted r at file' f.kept

      by : (l : Layout) → fits a' f file l ≡ true → caller_file a' m' interrupted r at file' ≡ apply a' m' l file' → Result
      by l p is =
          caller_by ts stack f d.kept file file' g l (fitting a' f file l p) e live interrupted r at is

      -- version 2
      ran : eqb r.version 2 ≡ true → (o : Outcome Ran) → run (tables_alone ts) a' r.program r.limit (at - r.start) ≡ o → Result
      ran v (Refused n) q = no (rw (v, q) at d.fits)
      ran v (Answer x) q =
          by (layout x.state) (rw (v, q) at d.fits) (rw (v, same (eqb-true r.version 2 v) (at - r.start), q))

      -- version 1
      word : eqb r.version 2 ≡ false → (b : Bool) → passes a' r.frame interrupted ≡ b → Result
      word v false q = no (rw (v, q) at d.fits)
      word v true q =
          let l = read_as a' r.frame in
          let fit : fits a' f file l ≡ true = rw (v, q) at d.fits in
          let sums = cfa-same ts stack f d.kept file file' g l (fitting a' f file l fit) in
          by l fit (rw v (step_reads ts.arch m' r.frame interrupted file' g.wide q (omega (arith, sums, d.kept.above))))

      go : (b : Bool) → eqb r.version 2 ≡ b → Result
      go true v = ran v (run (tables_alone ts) a' r.program r.limit (at - r.start)) refl
      go false v = word v (passes a' r.frame interrupted) refl
