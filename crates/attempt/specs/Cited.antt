-- The words of other crates that the clauses of several files name.
pub use Rattle.hyper_abi.specs.Told.{row_for}
pub use Rattle.rep_frame.specs.Ends.{end_from}
pub use Rattle.rep_frame.specs.Frames.{frame_of}
pub use Rattle.rep_frame.specs.Slices.{slice_got}
pub use Rattle.vsm_core.specs.Attempt.{attempt, by_input, by_memory, by_page_mask, by_registers, call_tree, eom_tree}
pub use Rattle.vsm_core.specs.Attempt.{gets_by, gets_from, goal_of as goal_of_lem, hypercall_tree, intercepted}
pub use Rattle.vsm_core.specs.Attempt.{interrupts, is_read_hit as is_read_hit_lem, is_wanted as is_wanted_lem}
pub use Rattle.vsm_core.specs.Attempt.{is_write_hit as is_write_hit_lem, leaves, looked_by, polled as polled_lem}
pub use Rattle.vsm_core.specs.Attempt.{posting as posting_lem, puts_out, reads_slice, refused as refused_lem}
pub use Rattle.vsm_core.specs.Attempt.{return_tree, sending as sending_lem, sets_by, sets_from, told_on}
pub use Rattle.vsm_core.specs.Calls.{result_value}
pub use Rattle.vsm_core.specs.Contexts.{with_context}
pub use Rattle.vsm_core.specs.Controllers.{message_page as message_page_lem, message_steps, pending_steps}
pub use Rattle.vsm_core.specs.Controllers.{sint0_vector as sint0_vector_lem, vector_words, with_taken, writes}
pub use Rattle.vsm_core.specs.Hypercalls.{asked_of, fast_words, has_output, input_address, output_address, replied}
pub use Rattle.vsm_core.specs.Hypercalls.{with_result}
pub use Rattle.vsm_core.specs.Interrupts.{those_in}
pub use Rattle.vsm_core.specs.Messages.{flagged as flagged_lem}
pub use Rattle.vsm_core.specs.Outcomes.{ack_outcome, denied as denied_lem, eoi_outcome, eom_outcome, get_outcome}
pub use Rattle.vsm_core.specs.Outcomes.{jumped, note_of as note_of_lem, set_outcome, Origin, Outcome}
pub use Rattle.vsm_core.specs.Protection.{IsSlice}
pub use Rattle.vsm_core.specs.RegisterCalls.{count_of, header_refusal, part_outcome, past_of, settings, slice_numbers}
pub use Rattle.vsm_core.specs.RegisterCalls.{slice_outcome, start_of}
pub use Rattle.vsm_core.specs.Reps.{first_word as first_word_lem, replied_end, slice_past as slice_past_lem}
pub use Rattle.vsm_core.specs.Reps.{with_start as with_start_lem, words_between as words_between_lem}
pub use Rattle.vsm_core.specs.State.{gone_on, gone_to, may_name as may_name_lem, operand as operand_lem}
pub use Rattle.vsm_core.specs.State.{put_legal as put_legal_lem}
pub use Rattle.vsm_core.specs.Switch.{assist_page as assist_page_lem, called, may_call as may_call_lem}
pub use Rattle.vsm_core.specs.Switch.{may_enter as may_enter_lem, may_return as may_return_lem, returned}
pub use Rattle.vsm_core.specs.Targets.{target_level as target_level_lem}
pub use Rattle.vsm_core.specs.Tree.{after, takes, then_, Ends, Tree}
pub use Rattle.vtl_switch.specs.Answers.{number_of}
