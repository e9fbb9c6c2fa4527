use Rattle.unit_turns.proofs.HeadUnits.{head_belongs}
use Rattle.unit_turns.proofs.laws.law_head_unit.Goals as goal

pub returns : goal.returns
returns c = λ e h. head_belongs c.args.machine.now e h
