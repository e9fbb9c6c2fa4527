use Rattle.std.proofs.Common.{length}
use Rattle.std.specs.Prelude.{nat_lt}
use Rattle.std.proofs.lemmas.Bool.{lt-ltb}
use Rattle.machine_model.specs.Answer.{refusal, most_events}
use Rattle.sequencer.specs.Machines.{state, units_of}
use Rattle.sequencer.proofs.ReadyUnits.{answered_ok}
use Rattle.sequencer.proofs.machine.Machine.law_answers.Goals as goal

pub returns-clause-unrefused : goal.returns-clause-unrefused
returns-clause-unrefused c = λ e runs none room.
    let m = c.args.self.now in
    answered_ok (state m).outcome (refusal m.accepted.program (units_of m) (state m) e) (nat_lt (length m.history) most_events) runs none (lt-ltb (length m.history) most_events room)

pub returns-clause-allowed : goal.returns-clause-allowed
returns-clause-allowed c = λ e s next room.
    let m = c.args.self.now in
    answered_ok (state m).outcome (refusal m.accepted.program (units_of m) (state m) e) (nat_lt (length m.history) most_events) next.runs (c.law_replay.ensures.allowed e s next) (lt-ltb (length m.history) most_events room)
