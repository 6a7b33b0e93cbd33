-- The definitions that closed runs compute with, by what they are about. To unfold one of these names is to unfold all that stands on its
-- line, so a proof with the line `unfolding computing` computes a whole run.
use Rattle.mem.specs.Opening.{bounded, apart, opens}
use Rattle.mem.specs.Place as Place
use Rattle.mem.specs.Place.{bytes_at}
use Rattle.mem.specs.Word.{load}
use Rattle.leb.specs.Reader.{read_byte, read_number}
use Rattle.arch.specs.Arch.{numbers, is_known}
use Rattle.arch.specs.File.{column_of, get, set}
use Rattle.state.specs.State.{overfull, entry}
use Rattle.state.specs.Save.{save}
use Rattle.program.specs.Operation.{form_of, decode}
use Rattle.program.specs.Rule.{frame_regs, follow}
use Rattle.program.specs.Run.{act, run}
use Rattle.frame.specs.Frame.{saved_pairs, fp_pair, ra_slot}
use Rattle.frame.specs.Apply.{bad_fp, load_slot, apply_at, apply}
use Rattle.frame.specs.Step as Step
use Rattle.frame.specs.Step.{past_table, leaf_cfa, fp_cfa, sp_cfa, frame_cfa, return_address, set_return, set_frame, set_caller, step_at}
use Rattle.frame.specs.ReadAs.{read_as, passes}
use Rattle.rows.specs.Row.{valid, checked}
use Rattle.rows.specs.Handler.{entry_at, left_breaks, right_breaks, judged, handler}
use Rattle.rows.specs.Handler2.{next_delta, matched, handler2}
use Rattle.rows.specs.Prefix.{rows_of}
use Rattle.rows.specs.NotRefused.{well_formed, ending_of, answered}
use Rattle.lookup.specs.Field.{word}
use Rattle.lookup.specs.Header.{stride, chunk_at, faulty, head_at}
use Rattle.lookup.specs.Record.{start_at, end_at, address_of, handlers_of, record_at, record_at2, record_of, holds, bad_record}
use Rattle.lookup.specs.Tables.{chunks_from, chunks, records}
use Rattle.lookup.specs.Search as Lookup
use Rattle.lookup.specs.Search.{halve, left_meets, right_meets, settle}
use Rattle.lookup.specs.Lookup.{in_range, search_in, lookup}
use Rattle.lookup.proofs.Tested.{sound_test}
use Rattle.personality.specs.Reason as Reason
use Rattle.personality.specs.Reason.{rowless, row_after, installed, searched_code}
use Rattle.model.specs.FrameStep.{next_interrupted, find, caller_file, not_advancing, past, frame_step}
use Rattle.model.specs.Search.{search}
use Rattle.model.specs.Cleanup.{install_pad, clean}
use Rattle.model.specs.Unwinding.{opened, raise, resume}
use Rattle.model.specs.Machine.{caller_interrupted, column, is_register, value, inside, meet, replaced, stored, written}
use Rattle.model.specs.Described.{layout_at, same_pairs, good_fp, fits, described}
use Rattle.model.specs.Event.{pushes, calling, kept_by, new_frame, not_sp_nor_pc, call_allowed, entered, spill_allowed, change_allowed, reload_allowed, write_allowed}
use Rattle.model.specs.Throw.{throw_allowed, rows1, rows2, rows_in, row_of}
use Rattle.model.specs.Sound.{whole_table, good_table, ending2, good_row, good_frame}
use Rattle.model.specs.Expected.{pad_of, outcome, due}
use Rattle.model.specs.Demand.{answer_of, current, raised_by, unwinding_of}
use Rattle.model.specs.Between.{fits_in}

-- what such a name says: nothing
abbrev pub Names : Type 0
Names = Unit

-- what is lent, and the architecture
unfoldable pub opening : Names
unfolding bounded apart opens is_known
opening = tt

-- reads
unfoldable pub reads : Names
unfolding Place.holds bytes_at load read_byte read_number word
reads = tt

-- register files and states
unfoldable pub files : Names
unfolding numbers column_of get set overfull entry save
files = tt

-- state programs
unfoldable pub programs : Names
unfolding form_of decode frame_regs follow act run
programs = tt

-- caller registers, by a state or by a version 1 word
unfoldable pub states : Names
unfolding bad_fp load_slot apply_at apply
states = tt

unfoldable pub words : Names
unfolding saved_pairs fp_pair ra_slot past_table leaf_cfa fp_cfa sp_cfa frame_cfa return_address set_return set_frame set_caller step_at Step.step read_as passes
words = tt

-- row tables
unfoldable pub rows : Names
unfolding valid checked entry_at left_breaks right_breaks judged handler next_delta matched handler2 rows_of well_formed ending_of answered
rows = tt

-- chunks and records, and whether they are sound
unfoldable pub tables : Names
unfolding stride chunk_at faulty head_at chunks_from chunks start_at end_at address_of handlers_of record_at record_at2 record_of bad_record records sound_test
tables = tt

-- lookup
unfoldable pub lookups : Names
unfolding holds halve left_meets right_meets settle Lookup.search in_range search_in lookup
lookups = tt

-- the frame step
unfoldable pub steps : Names
unfolding find caller_file not_advancing next_interrupted past frame_step
steps = tt

-- the two phases
unfoldable pub phases : Names
unfolding rowless row_after Reason.row_of searched_code search installed install_pad clean opened raise resume
phases = tt

-- the machine: its registers and stack, when a frame is described, its events, its throw
unfoldable pub registers : Names
unfolding column is_register value inside meet replaced stored written
registers = tt

unfoldable pub descriptions : Names
unfolding layout_at same_pairs good_fp fits described
descriptions = tt

unfoldable pub events : Names
unfolding pushes calling kept_by new_frame caller_interrupted call_allowed entered spill_allowed not_sp_nor_pc change_allowed reload_allowed write_allowed
events = tt

unfoldable pub throws : Names
unfolding throw_allowed rows1 rows2 rows_in row_of whole_table good_table ending2 good_row good_frame
throws = tt

-- what is due, and what the calls give
unfoldable pub answers : Names
unfolding pad_of outcome due raised_by unwinding_of answer_of current fits_in
answers = tt

-- a whole run
unfoldable pub computing : Names
unfolding opening reads files programs states words rows tables lookups steps phases registers descriptions events throws answers
computing = tt
