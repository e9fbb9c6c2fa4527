use Rattle.program_statements.proofs.SetBits.{inserted}
use Rattle.program_statements.proofs.list.with_register.Goals as goal

pub returns : goal.returns
returns c = inserted c.args.set c.args.register c.insert.result (rw (← c.get.ensures.value) c.get.ensures.range) c.insert.ensures.members
