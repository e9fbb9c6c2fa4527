use Rattle.threaded_runner.proofs.Imports.{◌+◌, ◌%◌, length, sym, ◌∙◌, vec_len, length-replicate, replicate, slice_index, Exec}
use Rattle.threaded_runner.proofs.Late.{execs_late}
use Rattle.threaded_runner.proofs.Locked.{execs_own, more, as_many}
use Rattle.threaded_runner.proofs.desk.Desk.run_head.Goals as goal

pub invariant_of-self : goal.invariant_of-self
invariant_of-self g c =
    let i = c.self.inside in
    let m = i.machine in
    let unit = c.head_unit-unit.result in
    let steps = c.exec_head-steps.result in (
      more m c.exec_head-steps.new.machine i.counts.items c.add.new.counts.items (replicate steps (Exec 0)) unit steps (vec_len i.counts) i.is_stopped i.asleep c.self.invariant.0
          (execs_own m (length i.counts.items) unit 0 steps c.law_replay.ensures.retired c.law_replay.ensures.active (sym c.head_unit-unit.ensures))
          (length-replicate steps (Exec 0)) c.exec_head-steps.ensures.history c.exec_head-steps.ensures.kept.units i.counts.ok.0 c.add.ensures,
      record {
        accepted = c.exec_head-steps.ensures.kept.accepted ∙ c.self.invariant.1.accepted;
        units = c.exec_head-steps.ensures.kept.units ∙ c.self.invariant.1.units;
        workers = as_many i.counts.items c.add.new.counts.items (unit % vec_len i.counts) (slice_index i.counts.items (unit % vec_len i.counts) + steps) c.add.ensures ∙ c.self.invariant.1.workers;
        late = execs_late g.J.Naming.budget m.history c.exec_head-steps.new.machine.history 0 steps c.exec_head-steps.ensures.history c.self.invariant.1.late;
      },
    )
