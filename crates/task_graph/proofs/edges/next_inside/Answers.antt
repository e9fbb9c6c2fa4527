use Rattle.std.proofs.Common.{◌≡◌, Some, length, slice_get, sym, ap}
use Rattle.task_graph.specs.Neighbours.{is_among}
use Rattle.task_graph.proofs.EdgeLemmas.{read_there, follows_exact}
use Rattle.task_graph.proofs.edges.next_inside.Goals as goal

pub returns-clause-exact : goal.returns-clause-exact
returns-clause-exact c =
    let p = c.args.program.now in
    let code = c.code-code.result.now in
    let m = c.index-code-i.result in
    let there : slice_get p.code c.args.i ≡ Some m = read_there p code c.args.i m c.code-code.ensures.value c.requires c.index-code-i.is in
    follows_exact p c.args.i (length code) m c.end_inside-onward.result c.end_inside-branch.result (is_among c.in_order.result)
    there (ap length c.code-code.ensures.value) c.end_inside-onward.ensures c.end_inside-branch.ensures c.in_order.ensures.among
