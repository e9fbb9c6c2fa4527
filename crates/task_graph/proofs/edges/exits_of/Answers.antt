use Rattle.std.proofs.Common.{◌≡◌, Some, true, length, slice_get, sym, ap}
use Rattle.task_graph.specs.Neighbours.{is_among}
use Rattle.task_graph.proofs.EdgeLemmas.{read_there, edges_exact, falls_exact, indirect_exact}
use Rattle.task_graph.proofs.edges.exits_of.Goals as goal

pub returns-clause-direct : goal.returns-clause-direct
returns-clause-direct c =
    let p = c.args.program.now in
    let m = c.index-code-i.result in
    edges_exact p true c.args.i m c.end-onward.result c.end-branch.result (is_among c.in_order.result)
    (read_there p c.code-code.result.now c.args.i m c.code-code.ensures.value c.requires c.index-code-i.is)
    c.end-onward.ensures c.end-branch.ensures c.in_order.ensures.among

pub returns-clause-indirect : goal.returns-clause-indirect
returns-clause-indirect c =
    let p = c.args.program.now in
    let m = c.index-code-i.result in
    indirect_exact p c.args.i m c.exits_indirectly.result
    (read_there p c.code-code.result.now c.args.i m c.code-code.ensures.value c.requires c.index-code-i.is)
    c.exits_indirectly.ensures

pub returns-clause-falls_off : goal.returns-clause-falls_off
returns-clause-falls_off c =
    let p = c.args.program.now in
    let m = c.index-code-i.result in
    falls_exact p c.args.i (length c.code-code.result.now) m c.falls_off.result
    (read_there p c.code-code.result.now c.args.i m c.code-code.ensures.value c.requires c.index-code-i.is)
    (ap length c.code-code.ensures.value) c.falls_off.ensures
