-- What these proofs call by a name of other modules.
pub use Rattle.std.specs.Prelude.{Bool, Err, IfNone, IfOk, IfSome, IsTrue, List, None, Ok, Option, Result, Some, [], drop, false, flat_map, get_or, if◌then◌else◌, is_some, length, map, min, nat_eq, nat_lt, not, option_to_list, slice_get, slice_index_or, slice_set, suc, take, true, unwrap_or, zero, ℕ, ◌&&◌, ◌++◌, ◌+◌, ◌-◌, ◌<◌, ◌^◌, ◌∷◌, ◌≡◌, ◌≤◌, ◌⊎◌}
pub use Rattle.std.specs.Option.{option_and_then, option_or}
pub use Rattle.std.proofs.Common.{add-one, add-zero, ap, append-nil, append_assoc, arith, eqb-true, inl, inr, length-append, ltb-true, refl, subst, sym, true≢false, ◌∙◌}
pub use Rattle.std.proofs.lemmas.List.Sums.{fold-append, fold_more}
pub use Rattle.task_descriptor.specs.Listing.{IsWellFormed, Listing, if_instruction, input, instruction_at}
pub use Rattle.machine_model.specs.Machine.{Active, State, opening, task_at, value}
pub use Rattle.machine_model.specs.Refusals.{unless}
pub use Rattle.machine_model.specs.Answer.{after, answer, is_running, most_events, ok_unless, refusal}
pub use Rattle.machine_model.specs.Replay.{Replays, ReplaysFrom}
pub use Rattle.machine_model.specs.Laws.{AnswerIsNext, NextIsAfter, ReplayCut}
pub use Rattle.machine_model.specs.declared.event.Event.{Event}
pub use Rattle.machine_model.specs.declared.event.Refused.{Refused}
pub use Rattle.open_machine.specs.Machines.{Applies, IsAnswered, OpenView, answer_to, state, units_of}
pub use Rattle.demonstration.specs.Driven.{DrivenView, IsDriven, driven_of}
pub use Rattle.demonstration.specs.Rounds.{each_tried, guess_tried, has_open_tail, known_tasks, next_place, run_of, units_tried}
unfoldable pub use Rattle.demonstration.specs.Rounds.{begun, first_begins, is_allowed, register_tried, registers, round, rounds, state_after, tried, unit_tried}
pub use Rattle.std.proofs.lemmas.Bool.{cases_lt, cond-false, cond-true, eq-eqb, false≢true, le-ltb, lt-ltb, or_cases, or_left, or_right}
pub use Rattle.mips_plain.specs.PlainMachine.{Input, fetched, pc_after, read_at, reads_when, step_when}
unfoldable pub use Rattle.mips_plain.specs.PlainMachine.{fetch, plain, reads}
pub use Rattle.mips_plain.specs.declared.outcome.Read.{Read}
pub use Rattle.machine_model.specs.Claims.{Claims, by_head, count_c, count_h, plain_of, reads_of}
pub use Rattle.machine_model.specs.declared.event.Standing.{Standing}
pub use Rattle.demonstration.specs.Shown.{AreRight, DoesHarm, DoesNoHarm, HoldsWrong, IsCutAt, IsRefusedAt, IsRight, IsShown, NamesItsPlace, ReadsRight, Shows, WordsRight, harmed_task, plain_beside, plain_read, read_by_head, reading_task, reads_agree, seen, wrong_word}
pub use Rattle.std.proofs.lemmas.List.{get_or_default, length-map, take_more}
pub use Rattle.std.proofs.lemmas.Option.{slice_get_past, slice_get_read, slice_get_within}
pub use Rattle.mips_instructions.specs.Words.{address, index_of}
pub use Rattle.mips_instructions.specs.declared.instruction.Op.{Op}
pub use Rattle.mips_plain.specs.declared.outcome.Outcome.{Outcome}
pub use Rattle.task_descriptor.specs.declared.descriptor.Marked.{Marked}
pub use Rattle.machine_model.specs.Step.{Faults, Next, exec_leaves, follows, is_listed, stands}
pub use Rattle.demonstration.specs.declared.judge.Evidence.{Evidence}
pub use Rattle.demonstration.specs.declared.judge.Harm.{Harm}
pub use Rattle.demonstration.specs.declared.judge.WrongWord.{WrongWord}
pub use Rattle.std.specs.Result.{is_ok}
pub use Rattle.std.specs.List.{fold, last_or, list_any, range_with_len}
pub use Rattle.machine_model.specs.declared.event.Event.TheVariants.{Assign, Drain, Drop, Exec, Fault, Retire, Squash, Transfer}
pub use Rattle.mips_plain.specs.declared.outcome.Outcome.TheVariants.{Halted, Running, Trapped}
pub use Rattle.mips_plain.specs.PlainView.{IsAfter, Makes, PlainView, machine_state}
pub use Rattle.demonstration.specs.Found.{IsDemonstration, IsNoneFound, IsRightAlone, IsSearched}
pub use Rattle.mips_instructions.specs.Instruction.{computed, dests, does_nothing, reg_a, reg_b, taken, turn}
pub use Rattle.mips_plain.specs.Effect.{loaded, may_run_ahead, outcome_after, outcome_by, outcome_of_load, word_by, written}
pub use Rattle.task_graph.specs.Edges.{Path, is_indirect, onward, stay}
pub use Rattle.task_graph.specs.Soundness.{Sound, is_target}
pub use Rattle.machine_model.proofs.Headline.{Good, InvAt, every_replay_good, opening_good, step_good}
pub use Rattle.demonstration.specs.LastWriter.{HasWordFrom, is_trapped, is_written_by, writes_in_step}
pub use Rattle.unit_core.proofs.UnitLemmas.{item_there}
