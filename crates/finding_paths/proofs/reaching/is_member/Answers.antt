-- A task stands there exactly where one reaches it.
use Rattle.std.proofs.Common.{refl}
use Rattle.finding_paths.specs.Steps.{task_at}
use Rattle.finding_paths.proofs.NotedTasks.{member_exact}
use Rattle.finding_paths.proofs.reaching.is_member.Goals as goal

pub returns : goal.returns
returns c =
    let table = c.args.reaching.now in
    member_exact c.args.program.now c.args.index table (task_at table c.args.index) c.is_some.result c.requires.table c.requires.there refl c.is_some.ensures
