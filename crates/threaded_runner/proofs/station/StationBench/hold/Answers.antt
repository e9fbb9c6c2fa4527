use Rattle.threaded_runner.proofs.Imports.{subst, DeskView}
use Rattle.threaded_runner.specs.Stations.{TakesHold}
use Rattle.threaded_runner.proofs.station.StationBench.hold.Goals as goal

pub returns-clause-holds : goal.returns-clause-holds
returns-clause-holds g c =
    subst (λ (d : DeskView). TakesHold g.J.Deeds.was_asked c.args.self.now.worker d c.hold-then.new.self c.hold-then.new.desk c.hold-then.result)
    c.deref_mut.ensures.value (c.hold-then.ensures.does, c.hold-then.ensures.long)
