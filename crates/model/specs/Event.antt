-- The events of the call machine, the rules of each, and what each does (document 01, "Events").
use Rattle.std.specs.Prelude.{Option, None, Some}
use Rattle.std.specs.Prelude.{Bool, true, not, ◌&&◌, ◌||◌, List, [], ◌∷◌, ℕ, ◌-◌, ◌^◌, eqb, leb, ltb, length, set, if◌then◌else◌}
use Rattle.failure.specs.Failure.{one_of}
use Rattle.arch.specs.Arch.{Arch, numbers}
use Rattle.arch.specs.File.{sp, set_sp, set_pc, pc_column}
use Rattle.lookup.specs.Record.{holds}
use Rattle.lookup.specs.Tables.{Entry, named}
use Rattle.frame.specs.Layout.{Pair}
use Rattle.model.specs.Machine.{Open, Tables, Machine, arch_of, records_of, caller_interrupted, looked_at, column, is_register, value, address, inside, clear, written}
use Rattle.model.specs.Described.{is_spilled, described}

-- a record is named by its chunk and its index there; the numbers in an event are any natural numbers
pub data Event : Type 0 where
  Call : (chunk index ret : ℕ) → Event
  Spill : (reg slot : ℕ) → Event
  Change : (reg value : ℕ) → Event
  Reload : (reg : ℕ) → Event
  Move : (sp : ℕ) → Event
  Write : (address value : ℕ) → Event

-- a call pushes its return address (x86-64), or leaves it in the return register (aarch64)
unfoldable pub pushes : Arch → Bool
pushes a = not (eqb a.entry_slot 0)

-- the registers as a call leaves them: sp below the pushed address, or the return register set
unfoldable pub calling : Arch → List ℕ → ℕ → List ℕ
calling a file ret = if pushes a then set_sp a file (sp a file - 8) else set file a.ra ret

-- the kept file of a call: the registers with pc = ret, and the return register where it is not pushed
unfoldable pub kept_by : Arch → List ℕ → ℕ → List ℕ
kept_by a file ret = set_pc (if pushes a then file else set file a.ra ret) ret

-- the frame that a call opens: CFA = sp; (16, 1) is spilled where the call pushes
unfoldable pub new_frame : Arch → List ℕ → Entry → ℕ → Open
new_frame a file e ret =
    record {
      entry = e;
      kept = kept_by a file ret;
      cfa = sp a file;
      spilled = if pushes a then record { reg = a.ra; slot = 1 } ∷ [] else [];
    }

-- ret is 0 with no frame open, else above 0, ret - 1, where the caller is looked up, lying in the caller's record
abbrev pub returns : List Open → Open → ℕ → Bool
returns [] new ret = eqb ret 0
returns (f ∷ fs) new ret = ltb 0 ret && holds f.entry.function (looked_at (caller_interrupted new) ret)

-- a caller is described after this, its registers being the kept file of the frame that it opens, and its sp is below its own CFA
abbrev pub caller_described : Tables → List Open → Open → ℕ → Bool
caller_described ts [] new ret = true
caller_described ts (f ∷ fs) new ret =
    described ts f new.kept (caller_interrupted new) (looked_at (caller_interrupted new) ret)
    && ltb (sp (numbers ts.arch) new.kept) f.cfa

-- the rules of a call, one test a line: ret; CFA above 0; a pushed address lies in the stack; it meets no live slot; ret below 2^48
-- (on x86-64 below 2^64, which its place in a record gives); the caller is described; at most 1,024 frames
unfoldable pub call_allowed : Machine → Entry → ℕ → Bool
call_allowed m e ret =
    returns m.frames (new_frame (arch_of m) m.registers e ret) ret
    && ltb 0 (sp (arch_of m) m.registers)
    && (not (pushes (arch_of m)) || inside m.stack (address (sp (arch_of m) m.registers) 1))
    && (not (pushes (arch_of m)) || clear (address (sp (arch_of m) m.registers) 1) m.frames)
    && ltb ret (2 ^ (arch_of m).address_bits)
    && caller_described m.tables m.frames (new_frame (arch_of m) m.registers e ret) ret
    && ltb (length m.frames) 1024

-- the machine after a call
unfoldable pub entered : Machine → Entry → ℕ → Machine
entered m e ret =
    record {
      tables = m.tables;
      registers = calling (arch_of m) m.registers ret;
      stack =
          if pushes (arch_of m) then written m.stack (address (sp (arch_of m) m.registers) 1) ret
          else m.stack;
      frames = new_frame (arch_of m) m.registers e ret ∷ m.frames;
    }

-- the rules of a spill, one test a line: a register's number; it equals the kept one; not sp; not already spilled; slot 1 to 65535; the
-- place lies in the stack; it meets no live slot
unfoldable pub spill_allowed : Machine → Open → ℕ → ℕ → Bool
spill_allowed m f reg slot =
    is_register (arch_of m) reg
    && eqb (value (arch_of m) m.registers reg) (value (arch_of m) f.kept reg)
    && not (eqb reg (arch_of m).sp)
    && not (is_spilled f.spilled reg)
    && leb 1 slot
    && leb slot 65535
    && inside m.stack (address f.cfa slot)
    && clear (address f.cfa slot) m.frames

-- the frame with one more pair
abbrev pub spilling : Open → ℕ → ℕ → Open
spilling f reg slot =
    record { entry = f.entry; kept = f.kept; cfa = f.cfa; spilled = record { reg = reg; slot = slot } ∷ f.spilled }

-- a register is neither sp nor pc
unfoldable pub not_sp_nor_pc : Arch → ℕ → Bool
not_sp_nor_pc a reg = not (eqb reg a.sp) && not (eqb (column a reg) pc_column)

-- the rules of a change, one test a line: a preserved register only while spilled; not sp, not pc; a register's number; a value of 64
-- bits
unfoldable pub change_allowed : Machine → Open → ℕ → ℕ → Bool
change_allowed m f reg v =
    (not (one_of reg (arch_of m).preserved) || is_spilled f.spilled reg)
    && not_sp_nor_pc (arch_of m) reg
    && is_register (arch_of m) reg
    && ltb v (2 ^ 64)

-- the rules of a reload: a spilled register other than 16
unfoldable pub reload_allowed : Open → ℕ → Bool
reload_allowed f reg = is_spilled f.spilled reg && not (eqb reg 16)

-- the pairs without a register's
abbrev pub unspilled : List Pair → ℕ → List Pair
unspilled [] reg = []
unspilled (p ∷ ps) reg = if eqb p.reg reg then unspilled ps reg else p ∷ unspilled ps reg

-- the frame whose pair of a register ended
abbrev pub reloading : Open → ℕ → Open
reloading f reg = record { entry = f.entry; kept = f.kept; cfa = f.cfa; spilled = unspilled f.spilled reg }

-- the rules of a write: a value of 64 bits; 8 stack bytes that meet no live slot
unfoldable pub write_allowed : Machine → ℕ → ℕ → Bool
write_allowed m x v = ltb v (2 ^ 64) && inside m.stack x && clear x m.frames

-- the machine with other registers
abbrev pub with_registers : Machine → List ℕ → Machine
with_registers m file =
    record { tables = m.tables; registers = file; stack = m.stack; frames = m.frames }

-- the machine with a number written to the stack
abbrev pub with_written : Machine → ℕ → ℕ → Machine
with_written m x v =
    record { tables = m.tables; registers = m.registers; stack = written m.stack x v; frames = m.frames }

-- the machine with other frames
abbrev pub with_frames : Machine → List Open → Machine
with_frames m fs = record { tables = m.tables; registers = m.registers; stack = m.stack; frames = fs }

-- a call of a record of the section
abbrev pub call : Machine → ℕ → Option Entry → Machine
call m ret None = m
call m ret (Some e) = if call_allowed m e ret then entered m e ret else m

-- a spill of the innermost frame
abbrev pub spill : Machine → ℕ → ℕ → List Open → Machine
spill m reg slot [] = m
spill m reg slot (f ∷ fs) =
    if spill_allowed m f reg slot
    then with_frames (with_written m (address f.cfa slot) (value (arch_of m) m.registers reg)) (spilling f reg slot ∷ fs)
    else m

-- a change of the innermost frame
abbrev pub change : Machine → ℕ → ℕ → List Open → Machine
change m reg v [] = m
change m reg v (f ∷ fs) =
    if change_allowed m f reg v then with_registers m (set m.registers (column (arch_of m) reg) v) else m

-- a reload of the innermost frame
abbrev pub reload : Machine → ℕ → List Open → Machine
reload m reg [] = m
reload m reg (f ∷ fs) =
    if reload_allowed f reg
    then with_frames
    (with_registers m (set m.registers (column (arch_of m) reg) (value (arch_of m) f.kept reg)))
    (reloading f reg ∷ fs)
    else m

-- the rule of a move: at most to the frame's CFA
abbrev pub move_allowed : Open → ℕ → Bool
move_allowed f to = leb to f.cfa

-- a move of sp in the innermost frame
abbrev pub move : Machine → ℕ → List Open → Machine
move m to [] = m
move m to (f ∷ fs) = if move_allowed f to then with_registers m (set_sp (arch_of m) m.registers to) else m

-- a write to the stack
abbrev pub write : Machine → ℕ → ℕ → Machine
write m x v = if write_allowed m x v then with_written m x v else m

-- an event; one against the rules leaves the machine as it was
abbrev pub step : Machine → Event → Machine
step m (Call chunk index ret) = call m ret (named chunk index (records_of m.tables))
step m (Spill reg slot) = spill m reg slot m.frames
step m (Change reg v) = change m reg v m.frames
step m (Reload reg) = reload m reg m.frames
step m (Move to) = move m to m.frames
step m (Write x v) = write m x v

-- a list of events
abbrev pub steps : Machine → List Event → Machine
steps m [] = m
steps m (e ∷ es) = steps (step m e) es
