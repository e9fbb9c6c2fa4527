-- `rsplit_once` cuts a path at its last slash.
use Rattle.std.proofs.Common.{arith, rules}
use Rattle.program_edge.proofs.PathLemmas.{rsplit_once_last}
use Rattle.program_edge.proofs.texts.last_part.Goals as goal

pub returns-in-Some : goal.returns-in-Some
returns-in-Some c =
    let cut = rsplit_once_last 47 c.args.path.now _ c.rsplit_once.ensures.cases (omega arith) in
    rw (← cut) (grind rules)

pub returns-in-None : goal.returns-in-None
returns-in-None c =
    let cut = rsplit_once_last 47 c.args.path.now _ c.rsplit_once.ensures.cases (omega arith) in
    rw (← cut) (grind rules)
