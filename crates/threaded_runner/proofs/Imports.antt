-- What these proofs call by a name of other modules.
pub use Rattle.std.proofs.Common.{Bool, List, None, Option, Some, [], add-one, ap, append_assoc, arith, eq-eqb, false, get_or-set_other, get_or-set_same, inl, inr, length, length-append, length-set, refl, rules, subst, suc, sym, true, true≢false, vec_len, zero, ℕ, ◌%◌, ◌*◌, ◌++◌, ◌+◌, ◌-◌, ◌<◌, ◌∙◌, ◌∷◌, ◌≡◌, ◌≢◌, ◌≤◌, ◌⊎◌}
pub use Rattle.std.proofs.lemmas.Bool.{cases_eq, cases_lt, lt-ltb, ltb-true, ne_eqb}
pub use Rattle.std.specs.Prelude.{IfNone, IsSomeAnd, Result, fold, if◌then◌else◌, nat_eq, nat_lt, replicate, slice_get, slice_index, slice_set, sum, unwrap_or, ◌&&◌}
pub use Rattle.task_descriptor.specs.Listing.{Listing}
pub use Rattle.machine_model.specs.Machine.{Active, State, opening}
pub use Rattle.machine_model.specs.HeadEvent.{active_after, event_of_head, event_of_queue, head_event, retired_after, unit_of}
pub use Rattle.machine_model.specs.declared.event.Event.{Event}
pub use Rattle.machine_model.specs.declared.event.Event.TheVariants.{Assign, Drop, Exec}
pub use Rattle.threaded_runner.specs.Counts.{IsCounted, active_by, events_from, events_of, retired_by}
pub use Rattle.machine_model.specs.Answer.{is_running, most_events, refusal}
pub use Rattle.sequencer.specs.Machines.{Applies, MachineView, SameRing, state, units_of}
pub use Rattle.sequencer.specs.Rings.{unit_for}
pub use Rattle.sequencer.specs.Choices.{MayFollow, choice_of}
pub use Rattle.unit_turns.specs.Turns.{IsOwn, IsTurn, fits_burst, position_of_unit, turn_at_position, turn_of, turn_of_head}
pub use Rattle.unit_turns.specs.declared.turn.Turn.{Turn}
pub use Rattle.unit_turns.specs.declared.turn.Turn.TheVariants.{Apply, Choose, Wait}
pub use Rattle.threaded_runner.specs.declared.share.Share.{Share}
pub use Rattle.threaded_runner.specs.Shares.{AllWait, IsFirst, IsFirstBetween, IsServed, IsShareOf, WaitBetween, distance}
pub use Rattle.threaded_runner.specs.Desks.{DeskView, IsDesk}
pub use Rattle.threaded_runner.specs.Holds.{Acts, GoesBy, IsNamed, IsStoppedAt, RunsHead, TakesTurns}
pub use Rattle.machine_model.specs.declared.event.Refused.{Refused}
pub use Rattle.threaded_runner.specs.Workers.{DoesEvent, IsSameWorker, WorkerView, with_pace}
pub use Rattle.threaded_runner.specs.HoldTurns.{AppliesAtHead, DoesTurn, ExecutesAtHead, GaveUp, GoesInPlace, GoesInPlaceFor, HoldsFor, TakesTurn}
pub use Rattle.std.proofs.lemmas.List.{length-replicate, replicate_more}
pub use Rattle.threaded_runner.specs.Serving.{IsRound, RoundsFor}
pub use Rattle.std.proofs.Math.Nat.{add-mod_left, mod-eq_of_lt, mod-lt}
pub use Rattle.std.specs.Option.{option_map}
pub use Rattle.machine_model.specs.declared.event.Spot.{Spot}
pub use Rattle.sequencer.specs.Bursts.{IsAtWork, Takes}
pub use Rattle.machine_model.specs.Refusals.{for_some, unless}
pub use Rattle.threaded_runner.specs.Paces.{after_in_place, is_held, pace_of}
pub use Rattle.std.proofs.lemmas.Option.{IfSome_then, slice_get_cases}
pub use Rattle.threaded_runner.specs.Away.{IsInPlace, IsMadeAway}
