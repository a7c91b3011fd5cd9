-- What computes closed terms: for each part of the definitions one name, and `unfolding` it opens all of that part.
use Rattle.rules.specs.Text.{allowed, stray, lines}
use Rattle.rules.specs.Reading.{script_of, script, targets_in, operands_in, numbers_in, slots_in, slots_filled, is_outside, in_method, may_copy, in_edition, in_place, over_most, over255, is_unbound, takes_first, takes_self, one_more, read_on, form_step, line_step, finish, scan, same_sort, is_sort, dangles, opened, link}
use Rattle.rules.specs.Run.{block_of, line_now, after, advance, run_from, run, is_finished, all_finished, waits, up_to, all_wait, end_of, answer_of, answer}
use Rattle.rules.specs.Stripped.{strip, strip_expr, strip_block}
use Rattle.rules.specs.Lists.{place_of, any, all, rising, any_below}
use Rattle.rules.specs.Script.{kinds_of, lets_of, result_of, blocks_of, program_of, kind_at, block_at, line_of, line_at}
use Rattle.rules.specs.Templates.{◌>>=◌ as ◌⟫=◌, or_else, literal, digits_at, is_number, decimal_value, number, decimal, operand_by, operand as operand', cap_by, capability, many, print_many, print, fit, first_fit, decode}
use Rattle.rules.specs.State.{object_at, thread_at, channel_at, slot_at, start}
use Rattle.rules.specs.Turn.{◌>>=◌, ◌>>◌, check, wait_unless, permit, is_imm, is_iso, is_local, same_cap, may_hold, is_foreign, is_absent, is_iso_object, present, as_object, as_channel, operand, operands, all_objects, object, put_thread, put_objects, put_channel, filled, with_slots, gives, value_line, field_line, are_apart, permit_swap, set_field, swap_line, call_line, new_line, cast_line, started, spawn_line, put_line, sent_line, send_line, recv_line, renamed, copy_of, copy_line, returned, give_line, let_line, perform, turn_of, turn}
use Rattle.rules.specs.Reach.{slots_of, message_of, message_on, send_target, put_by, in_flight, roots, reach_list}
use Rattle.rules.specs.Walk.{walk, visit, visits, met_from}
use Rattle.rules.specs.Races.{let_event, line_event, frames_event, event, meets, run_before, event_at, reads_at, swaps_at, puts_at, receives_at, apart, touches, clash, put_between, handed_over, races_on}
use Rattle.rules.specs.Drawing.{node_line, edge_line, edge_lines, drawing}
use Rattle.rules.specs.Listing.{bracket, a_line, end_word, answer_line, value_text, object_line, message_text, channel_line, sender_text, thread_parts, thread_line, numbered, state_lines, listing}

-- opens what reads a text
unfoldable pub reads_texts : Unit {0}
unfolding any all allowed stray lines kinds_of lets_of result_of blocks_of program_of kind_at block_at line_of line_at ◌⟫=◌ or_else literal place_of digits_at is_number decimal_value number decimal operand_by operand' cap_by capability many print_many fit first_fit decode targets_in operands_in numbers_in slots_in slots_filled is_outside in_method may_copy in_edition in_place over_most over255 is_unbound takes_first takes_self one_more read_on form_step line_step finish scan same_sort is_sort dangles opened link script_of script
reads_texts = tt

-- opens what runs a program
unfoldable pub runs_programs : Unit {0}
unfolding any all kinds_of lets_of result_of blocks_of program_of kind_at block_at line_of line_at object_at thread_at channel_at slot_at start ◌>>=◌ ◌>>◌ check wait_unless permit is_imm is_iso is_local same_cap may_hold is_foreign is_absent is_iso_object present as_object as_channel operand operands all_objects object put_thread put_objects put_channel filled with_slots gives value_line field_line are_apart permit_swap set_field swap_line call_line new_line cast_line started spawn_line put_line sent_line send_line recv_line place_of walk visit visits met_from renamed copy_of copy_line returned give_line let_line perform turn_of turn block_of line_now after advance run_from run is_finished all_finished waits up_to all_wait end_of answer_of answer strip_expr strip_block strip
runs_programs = tt

-- opens what prints a run
unfoldable pub prints_runs : Unit {0}
unfolding bracket a_line end_word answer_line value_text object_line message_text channel_line sender_text thread_parts thread_line numbered state_lines listing
prints_runs = tt

-- opens what lists the objects that a thread reaches
unfoldable pub reaches_objects : Unit {0}
unfolding slots_of message_of message_on send_target put_by in_flight roots walk visit visits met_from rising reach_list
reaches_objects = tt

-- opens what draws them
unfoldable pub draws_objects : Unit {0}
unfolding print numbered node_line edge_line edge_lines drawing
draws_objects = tt

-- opens what tells whether two turns race
unfoldable pub tells_races : Unit {0}
unfolding any_below let_event line_event frames_event event walk visit visits met_from meets run_before event_at reads_at swaps_at puts_at receives_at apart touches clash put_between handed_over races_on
tells_races = tt
