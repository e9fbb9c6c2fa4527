-- One instruction more.
use Rattle.std.proofs.Common.{take, subst, arith}
use Rattle.std.specs.List.{All}
use Rattle.std.proofs.lemmas.List.{take_all}
use Rattle.std.proofs.lemmas.List.Elements.{All-more}
use Rattle.task_descriptor.specs.Listing.{NamesRegisters}
use Rattle.task_descriptor.proofs.registers.all_name_registers.Goals as goal

pub loop-marked-preserved : goal.loop-marked-preserved
loop-marked-preserved c =
    All-more NamesRegisters c.args.code.now c.loop-marked.marked-index c.marked-item.result c.loop-marked-test.true c.loop-marked.invariant
    (subst NamesRegisters c.marked-item.is c.names_registers.ensures)

pub returns : goal.returns
returns c = subst (All NamesRegisters) (take_all c.loop-marked.marked-index c.args.code.now (omega arith)) c.loop-marked.invariant
