-- A machine in the middle of a script, and what is written for it. No public contract cites it.
use Rattle.std.specs.Prelude.{List, Result, length}
use Rattle.machine_model.specs.Answer.{Played}
use Rattle.machine_model.specs.declared.event.Refused.{Refused}
use Rattle.sequencer.specs.Machines.{MachineView, state}
use Rattle.jobs.specs.declared.job.ReplayEmit.{ReplayEmit}
use Rattle.jobs.specs.declared.job.ReplayEmit.TheVariants as emit
use Rattle.verdict_report.specs.declared.replay_form.MachineForm.{MachineForm}
use Rattle.verdict_report.specs.declared.replay_form.MachineForm.TheVariants as of_machine
use Rattle.verdict_report.specs.declared.replay_form.ToldForm.{ToldForm}
use Rattle.verdict_report.specs.declared.replay_form.ToldForm.TheVariants as told
use Rattle.verdict_report.specs.declared.replay_form.ReplayForm.{ReplayForm}
use Rattle.verdict_report.specs.declared.replay_form.ReplayForm.TheVariants as form

-- the machine, with what it answered so far
abbrev pub played_so_far : MachineView → List (Result (Unit {0}) Refused) → Played
played_so_far m answers = record { answers = answers; state = state m; count = length m.history }

-- what the command line calls a form
abbrev pub machine_emit : MachineForm → ReplayEmit
machine_emit of_machine.Answers = emit.Answers
machine_emit (of_machine.Summary format) = emit.Summary format
machine_emit of_machine.Picture = emit.Picture
machine_emit of_machine.Timeline = emit.Timeline
machine_emit of_machine.State = emit.State

abbrev pub told_emit : ToldForm → ReplayEmit
told_emit told.Trace = emit.Trace
told_emit told.Lines = emit.Json

abbrev pub emit_of : ReplayForm → ReplayEmit
emit_of (form.Told of) = told_emit of
emit_of (form.OfMachine of) = machine_emit of
