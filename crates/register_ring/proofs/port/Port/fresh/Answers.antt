use Rattle.register_ring.specs.Held.{pairs}
use Rattle.std.proofs.Common.{arith}
use Rattle.register_ring.proofs.PortLemmas.{ring_fresh}
use Rattle.register_ring.proofs.port.Port.fresh.Goals as goal

pub returns-clause-arrived : goal.returns-clause-arrived
returns-clause-arrived c =
    ring_fresh c.args.words.now c.args.accum (pairs c.all_but.result) (omega arith) (omega arith) c.all_but.ensures
