-- What these proofs call by a name of other modules.
pub use Rattle.std.proofs.Common.{Bool, Err, List, None, Ok, Option, Some, [], ap, arith, cond, false, inl, inr, length, length-append, refl, rules, subst, suc, sym, true, true≢false, zero, ℕ, ◌%◌, ◌++◌, ◌+◌, ◌-◌, ◌<◌, ◌∙◌, ◌∷◌, ◌≡◌, ◌≤◌, ◌⊎◌}
pub use Rattle.std.specs.Prelude.{IfNone, IfSome, IsSome, OnOk, Result, if◌then◌else◌, is_none, map, nat_eq, nat_lt, not, slice_get, ◌&&◌, ◌↔◌}
pub use Rattle.std.proofs.lemmas.Bool.{and_parts, cases_Bool, cases_eq, cases_lt, cond-false, cond-true, eq-eqb, le-ltb, lt-ltb, ltb-false, ltb-true, ne_eqb}
pub use Rattle.task_descriptor.specs.Listing.{Listing}
pub use Rattle.machine_model.specs.Machine.{Active, State, opening}
pub use Rattle.machine_model.specs.Refusals.{for_some, unless}
pub use Rattle.machine_model.specs.Answer.{answer, is_running, most_events, ok_unless, refusal}
pub use Rattle.machine_model.specs.declared.event.Event.TheVariants.{Assign, Drain, Drop, Exec, Fault, Retire, Squash, Transfer}
pub use Rattle.machine_model.specs.declared.event.Refused.{Refused}
pub use Rattle.sequencer.specs.Choices.{MayFollow, choice_of, choices_of}
pub use Rattle.std.specs.List.{find, last_or, range_with_len}
pub use Rattle.std.specs.Option.{option_map, option_or}
pub use Rattle.machine_model.specs.declared.event.Event.{Event}
pub use Rattle.machine_model.specs.declared.event.Refused.TheVariants.{Ended, Full, NoSuch}
pub use Rattle.unit_turns.specs.FirstAllowed.{AllowedIsUnrefused, GoesByLists, SkipsRefused, TakesAllowed, TakesLeast}
unfoldable pub use Rattle.unit_turns.specs.FirstAllowed.{first_allowed, registers}
pub use Rattle.unit_turns.specs.Turns.{MayWait, NamesRegister, apply_or_wait, fits_burst, own_events, pauses, position_of_unit, turn_ahead, turn_at_position, turn_of, turn_of_free, turn_of_head}
pub use Rattle.mark_checker.specs.Places.{Checked}
pub use Rattle.machine_model.specs.HeadEvent.{drain_or_retire, event_of_head, event_of_queue, head_event, position_of, task_beginning}
pub use Rattle.machine_model.specs.declared.event.Standing.{Standing}
pub use Rattle.machine_model.specs.declared.event.Standing.TheVariants.{Halted, Running, Trapped, Unlisted}
pub use Rattle.sequencer.specs.Machines.{MachineView, SameRing, state, units_of}
pub use Rattle.unit_turns.specs.declared.predictor.Predictor.{Predictor}
pub use Rattle.unit_turns.specs.Steps.{Course, Takes, after_steps, beginning, goes_on, step, tries, turn, turns, with_event, with_targets, with_task}
pub use Rattle.unit_turns.specs.Courses.{course}
pub use Rattle.std.proofs.lemmas.Option.{slice_get_within}
pub use Rattle.machine_model.specs.Step.{Next, follows}
pub use Rattle.sequencer.specs.Rings.{unit_for}
pub use Rattle.unit_turns.specs.declared.turn.Turn.TheVariants.{Apply, Burst, Wait}
pub use Rattle.unit_turns.specs.declared.report.StepsReport.{StepsReport}
pub use Rattle.unit_turns.specs.Reports.{IsStepsReportOf}
pub use Rattle.sequencer.specs.Histories.{executed_in}
