-- Laws of the frame step. Assumes nothing.
use Rattle.std.proofs.Common.{◌≡◌, ℕ, ◌-◌, ◌≤◌, ◌<◌, Bool, true, false, eqb, ltb, get_or, List, Result, Option, None, Some, refl, sym, ap, ◌∙◌, arith, eq-eqb, ne_eqb, lt-ltb, le-ltb, ltb-true, if◌then◌else◌}
use Rattle.std.proofs.lemmas.Bool.{eqb-false}
use Rattle.failure.specs.declared.Failure.{Failure}
use Rattle.failure.specs.Outcome.{Outcome, Refused, Answer, outcome, map, ◌>>=◌}
use Rattle.failure.specs.Failure.{StackNotAdvancing, TooManyFrames}
use Rattle.mem.specs.Memory.{Memory, Lent}
use Rattle.arch.specs.Arch.{Arch, numbers}
use Rattle.arch.specs.File.{pc}
use Rattle.arch.specs.Answers.{InPlace}
use Rattle.lookup.specs.declared.Record.{Record}
use Rattle.lookup.specs.declared.Found.{Found}
use Rattle.lookup.specs.Lookup.{lookup}
use Rattle.program.specs.Run.{Ran, run}
use Rattle.frame.specs.Layout.{layout}
use Rattle.frame.specs.Apply.{apply}
use Rattle.frame.specs.Step.{step}
use Rattle.model.specs.FrameStep as Walk
use Rattle.model.specs.FrameStep.{Frame, Step, section_of, looked_up, caller_file, not_advancing, caller_of, function_of, find, past, past_found, frame_step}
use Rattle.unwind.specs.Turns.{file_told, caller_by_run, advanced, record_of}

-- a file in place tells the outcome that it was made of
pub in_place_told : (entry : List ℕ) (o : Outcome (List ℕ)) (s : Result (Unit {0}) Failure) (exit : List ℕ) → InPlace entry o s exit → file_told s exit ≡ o
in_place_told entry (Refused n) s exit e = ap (map (λ a. exit)) e.status
in_place_told entry (Answer file) s exit e = ap (map (λ a. exit)) e.status ∙ ap Answer e.file

module _ (a : Arch) (m : Memory) (program limit off : ℕ) (file : List ℕ) where
  -- run, then apply
  pub by_run : (ran : Ran) → run m a program limit off ≡ Answer ran →
      apply a m (layout ran.state) file ≡ caller_by_run a m program limit off file
  unfolding caller_by_run
  by_run ran p = rw p

  -- unless run refuses
  pub by_run_refused : (n : ℕ) → run m a program limit off ≡ Refused n → Refused n ≡ caller_by_run a m program limit off file
  unfolding caller_by_run
  by_run_refused n p = rw p

module _ (a : Arch) (m : Memory) (interrupted : Bool) (r : Record) (at : ℕ) (file : List ℕ) where
  -- version 1: by step
  pub caller_1 : (r.version ≡ 2 → ⊥) → step a m r.frame interrupted file ≡ caller_file a m interrupted r at file
  unfolding caller_file
  caller_1 v = rw (ne_eqb r.version 2 v)

  -- version 2: by run, then apply
  pub caller_2 : r.version ≡ 2 → (off : ℕ) → off ≡ at - r.start →
      caller_by_run a m r.program r.limit off file ≡ caller_file a m interrupted r at file
  unfolding caller_file caller_by_run
  caller_2 v off e = rw (eq-eqb r.version 2 v, sym e)

-- past a frame with its record: the caller's registers, then 20
module _ (a : Arch) (l : Lent) (f : Frame) (r : Record) (at : ℕ) (looked : at ≡ looked_up f.interrupted (pc f.file)) where
  -- what follows the caller's registers
  after : List ℕ → Outcome Step
  after next = if not_advancing a f.number f.file next then Refused StackNotAdvancing else Answer (Walk.Past r (caller_of l f next))

  by_file : (o : Outcome (List ℕ)) → o ≡ caller_file a l.regions f.interrupted r at f.file → (o >>= after) ≡ past a l f r
  unfolding past after
  by_file o p =
      ap (λ (x : Outcome (List ℕ)). x >>= after) p
      ∙ ap (λ (x : ℕ). caller_file a l.regions f.interrupted r x f.file >>= after) looked

  -- they are refused
  pub past_refused : (n : ℕ) → Refused n ≡ caller_file a l.regions f.interrupted r at f.file → Refused n ≡ past a l f r
  past_refused n p = by_file (Refused n) p

  module _ (file : List ℕ) (p : Answer file ≡ caller_file a l.regions f.interrupted r at f.file) (k : ℕ) (q : k ≡ a.sp) (t : Result (Unit {0}) Failure)
      (e : outcome t ≡ advanced f.number (get_or f.file k 0) (get_or file k 0)) where
    -- by the test for 20
    pub past_tested : map (λ x. Walk.Past r (caller_of l f file)) (outcome t) ≡ past a l f r
    unfolding not_advancing after
    past_tested =
        ap (map (λ x. Walk.Past r (caller_of l f file))) e
        ∙ ap (λ (x : ℕ). map (λ y. Walk.Past r (caller_of l f file)) (advanced f.number (get_or f.file x 0) (get_or file x 0))) q
        ∙ by_test (not_advancing a f.number f.file file)
        ∙ by_file (Answer file) p
      where
        by_test : (b : Bool) →
            map (λ x. Walk.Past r (caller_of l f file)) (if b then Refused StackNotAdvancing else Answer (tt {0}))
            ≡ (if b then Refused StackNotAdvancing else Answer (Walk.Past r (caller_of l f file)))
        by_test true = refl
        by_test false = refl

module _ (l : Lent) (arch number : ℕ) (interrupted : Bool) (at : ℕ) where
  -- pc 0 ends the walk
  pub record-end : at ≡ 0 → Answer None ≡ record_of l arch number interrupted at
  unfolding record_of
  record-end e = rw (eq-eqb at 0 e)

  module _ (some-pc : at ≡ 0 → ⊥) where
    -- 1,024 frames were given
    pub record_29 : 1024 ≤ number → Refused TooManyFrames ≡ record_of l arch number interrupted at
    unfolding record_of
    record_29 h = rw (ne_eqb at 0 some-pc, le-ltb number 1024 h)

    module _ (h : number < 1024) (k : ℕ) (g : k ≡ looked_up interrupted at) where
      -- what lookup found
      pub record-looked : (o : Outcome (Option Found)) → o ≡ lookup (section_of l.regions).bytes (section_of l.regions).base k arch →
          (o >>= λ found. Answer (function_of found)) ≡ record_of l arch number interrupted at
      unfolding record_of find
      record-looked o q = rw (ne_eqb at 0 some-pc, lt-ltb number 1024 h, sym g, sym q)

  -- a frame that has a record has a pc, and fewer than 1,024 came before it
  pub record_bounds : (r : Record) → Answer (Some r) ≡ record_of l arch number interrupted at → (1 ≤ at) × (number < 1024)
  unfolding record_of
  record_bounds r e = ends (eqb at 0) refl
    where
      counts : eqb at 0 ≡ false → (t : Bool) → ltb number 1024 ≡ t → (1 ≤ at) × (number < 1024)
      counts z true q = let h = eqb-false at 0 z in (omega (arith, h), ltb-true number 1024 q)
      counts z false q =
          let b : Answer (Some r) ≡ Refused TooManyFrames = rw (z, q) at e in
          let y : ◌≡◌ {A = ℕ} 0 1 = cc in
          absurd (omega arith)

      ends : (t : Bool) → eqb at 0 ≡ t → (1 ≤ at) × (number < 1024)
      ends true z =
          let b : Answer (Some r) ≡ Answer None = rw z at e in
          let y : ◌≡◌ {A = ℕ} 0 1 = cc in
          absurd (omega arith)
      ends false z = counts z (ltb number 1024) refl

-- a frame's record, as the frame step looks for it
abbrev pub record_in : ℕ → Lent → Frame → Outcome (Option Record)
record_in arch l f = record_of l arch f.number f.interrupted (pc f.file)

-- the frame step by the frame's record
pub step_by_record : (arch : ℕ) (l : Lent) (f : Frame) (o : Outcome (Option Record)) → o ≡ record_in arch l f →
    (o >>= past_found (numbers arch) l f) ≡ frame_step arch l f
unfolding frame_step record_of
step_by_record arch l f o e =
    ap (λ (x : Outcome (Option Record)). x >>= past_found (numbers arch) l f) e ∙ ends (eqb (pc f.file) 0) refl
  where
    counts : eqb (pc f.file) 0 ≡ false → (t : Bool) → ltb f.number 1024 ≡ t →
        (record_in arch l f >>= past_found (numbers arch) l f) ≡ frame_step arch l f
    counts z true q = rw (z, q)
    counts z false q = rw (z, q)

    ends : (t : Bool) → eqb (pc f.file) 0 ≡ t → (record_in arch l f >>= past_found (numbers arch) l f) ≡ frame_step arch l f
    ends true z = rw z
    ends false z = counts z (ltb f.number 1024) refl
