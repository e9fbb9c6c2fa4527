use Rattle.std.proofs.Common.{ap, subst}
use Rattle.task_graph.specs.Soundness.{Sound}
use Rattle.sequencer.specs.Machines.{MachineView, state}
use Rattle.sequencer.proofs.FollowingTasks.{some_follows, none_follows, nothing_to_choose}
use Rattle.sequencer.proofs.machine.Machine.choice.Goals as goal

pub returns-clause-follows : goal.returns-clause-follows
returns-clause-follows c = some_follows c.args.self.now.accepted.program (state c.args.self.now) c.args.answer c.chosen.result c.chosen.ensures

pub returns-clause-none : goal.returns-clause-none
returns-clause-none c =
    let same = ap (λ (m : MachineView). m.accepted.program) c.self.view_is in
    let sound = subst Sound same c.program.ensures.sound in
    none_follows c.args.self.now.accepted.program sound (state c.args.self.now) c.args.answer c.chosen.result c.chosen.ensures

pub returns-clause-choices : goal.returns-clause-choices
returns-clause-choices c =
    let same = ap (λ (m : MachineView). m.accepted.program) c.self.view_is in
    let sound = subst Sound same c.program.ensures.sound in
    nothing_to_choose c.args.self.now.accepted.program sound (state c.args.self.now) c.args.answer c.chosen.result c.chosen.ensures
