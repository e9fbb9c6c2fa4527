-- The plain machine has made at most as many steps as were asked of it.
use Rattle.demonstration.proofs.Imports.{arith, input}
use Rattle.demonstration.proofs.Searching.{room_to_run}
use Rattle.demonstration.proofs.search.catch_up.Goals as goal

pub run-requires : goal.run-requires
run-requires c =
    room_to_run (input c.args.program.now) c.args.made c.in-Some.missing c.args.count c.args.plain.now c.requires (omega (arith, c.in-Some.ensures)) (omega arith)

pub run-requires-in-None : goal.run-requires-in-None
run-requires-in-None c =
    room_to_run (input c.args.program.now) 0 c.args.count c.args.count c.in_ok-plain-in-None.field-0 c.in_ok-plain-in-None.ensures (omega arith) (omega arith)
