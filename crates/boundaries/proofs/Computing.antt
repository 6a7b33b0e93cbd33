-- The definitions that the rows compute with, by what they are about. To unfold one of these names is to unfold all that stands on its line.
use Rattle.mem.specs.Opening.{bounded, apart, opens}
use Rattle.mem.specs.Place as Place
use Rattle.mem.specs.Place.{bytes_at}
use Rattle.mem.specs.Word.{load}
use Rattle.leb.specs.Reader.{read_byte, read_number, read_uleb}
use Rattle.arch.specs.Arch.{numbers, is_known, known}
use Rattle.arch.specs.File.{column_of, get, set}
use Rattle.arch.specs.Public as Arch
use Rattle.state.specs.State.{overfull, entry}
use Rattle.state.specs.Save.{save}
use Rattle.state.specs.Restore.{without, return_saved, restore}
use Rattle.state.specs.Public as State
use Rattle.program.specs.Operation.{form_of, decode}
use Rattle.program.specs.Rule.{frame_regs, follow}
use Rattle.program.specs.Run.{act, run}
use Rattle.program.specs.Public as Program
use Rattle.frame.specs.Frame.{saved_pairs, fp_pair, ra_slot}
use Rattle.frame.specs.Apply.{bad_fp, load_slot, apply_at, apply}
use Rattle.frame.specs.Step as Step
use Rattle.frame.specs.Step.{past_table, leaf_cfa, fp_cfa, sp_cfa, frame_cfa, return_address, set_return, set_frame, set_caller, step_at}
use Rattle.frame.specs.Public as Frame
use Rattle.rows.specs.Row.{valid, checked}
use Rattle.rows.specs.Handler.{entry_at, left_breaks, right_breaks, judged, handler, handler_in}
use Rattle.rows.specs.Handler2.{next_delta, matched, handler2, handler2_in}
use Rattle.lookup.specs.Field.{word}
use Rattle.lookup.specs.Header.{stride, chunk_at, faulty, head_at}
use Rattle.lookup.specs.Record.{start_at, end_at, address_of, handlers_of, record_at, record_at2, record_of, holds, bad_record}
use Rattle.lookup.specs.Tables.{chunks_from, chunks}
use Rattle.lookup.specs.Search as Lookup
use Rattle.lookup.specs.Search.{halve, left_meets, right_meets, settle}
use Rattle.lookup.specs.Lookup.{in_range, search_in, lookup, lookup_arch}
use Rattle.personality.specs.Reason as Reason
use Rattle.personality.specs.Reason.{rowless, row_after, installed, searched_code, cleaned, personality, personality_in}
use Rattle.model.specs.FrameStep.{next_interrupted, find, caller_file, not_advancing, past, frame_step}
use Rattle.model.specs.Search.{search}
use Rattle.model.specs.Cleanup.{install_pad, clean}
use Rattle.model.specs.Unwinding.{opened, next_frame, raise, resume}
use Rattle.unwind.specs.Batches.{given, walking}

-- what such a name says: nothing
abbrev pub Names : Type 0
Names = Unit

-- what is lent, and the architecture
unfoldable pub opening : Names
unfolding bounded apart opens is_known known
opening = tt

-- reads
unfoldable pub reads : Names
unfolding Place.holds bytes_at load read_byte read_number read_uleb word
reads = tt

-- register files and states
unfoldable pub files : Names
unfolding numbers column_of get set Arch.strip_pac Arch.get Arch.set Arch.fp Arch.sp Arch.set_sp
files = tt

unfoldable pub states : Names
unfolding overfull entry save without return_saved restore State.entry State.restore State.slot
states = tt

-- state programs
unfoldable pub programs : Names
unfolding form_of decode frame_regs follow act run Program.run
programs = tt

-- caller registers, by a state or by a version 1 word
unfoldable pub callers : Names
unfolding bad_fp load_slot apply_at apply Frame.opened Frame.apply Frame.step
callers = tt

unfoldable pub words : Names
unfolding saved_pairs fp_pair ra_slot past_table leaf_cfa fp_cfa sp_cfa frame_cfa return_address set_return set_frame set_caller step_at Step.step
words = tt

-- row tables, and reasons
unfoldable pub rows : Names
unfolding valid checked entry_at left_breaks right_breaks judged handler handler_in next_delta matched handler2 handler2_in
rows = tt

unfoldable pub reasons : Names
unfolding rowless row_after Reason.row_of searched_code installed cleaned personality personality_in
reasons = tt

-- chunks and records, and lookup
unfoldable pub tables : Names
unfolding stride chunk_at faulty head_at chunks_from chunks start_at end_at address_of handlers_of record_at record_at2 record_of bad_record
tables = tt

unfoldable pub lookups : Names
unfolding holds halve left_meets right_meets settle Lookup.search in_range search_in lookup lookup_arch
lookups = tt

-- walk, throw and sweep
unfoldable pub walks : Names
unfolding find caller_file not_advancing next_interrupted past frame_step next_frame given walking
walks = tt

unfoldable pub phases : Names
unfolding search install_pad clean opened raise resume
phases = tt

-- all of them
unfoldable pub computing : Names
unfolding opening reads files states programs callers words rows reasons tables lookups walks phases
computing = tt
