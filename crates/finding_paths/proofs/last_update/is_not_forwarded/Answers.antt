-- The instruction is the one that is read, and the task that stands there reaches it.
use Rattle.std.proofs.Common.{◌≡◌, false, subst}
use Rattle.task_descriptor.specs.declared.descriptor.Marked.{Marked}
use Rattle.task_graph.proofs.EdgeLemmas.{read_there}
use Rattle.annotator.specs.Proposed.{WritesLast}
use Rattle.finding_paths.proofs.Reached.{both, refused}
use Rattle.finding_paths.proofs.LastUpdates.{not_forwarded_exact}
use Rattle.finding_paths.proofs.NotedTasks.{mask_there, not_member, task_within}
use Rattle.finding_paths.proofs.last_update.is_not_forwarded.Goals as goal

pub written_behind-again-requires-clause-task : goal.written_behind-again-requires-clause-task
written_behind-again-requires-clause-task c =
    task_within c.args.program.now c.in-Some.task c.args.index (c.requires.table.reaches c.args.index c.in-Some.task c.in-Some.is)

pub written_behind-again-requires-clause-reaches : goal.written_behind-again-requires-clause-reaches
written_behind-again-requires-clause-reaches c =
    mask_there c.args.program.now c.args.cert.now c.in-Some.task c.args.index c.requires.least (c.requires.table.reaches c.args.index c.in-Some.task c.in-Some.is)

pub is_awaited-requires-clause-there : goal.is_awaited-requires-clause-there
is_awaited-requires-clause-there c =
    task_within c.args.program.now c.in-Some.task c.args.index (c.requires.table.reaches c.args.index c.in-Some.task c.in-Some.is)

pub returns-in_default : goal.returns-in_default
returns-in_default c = refused (λ n. let a = n.awaited in
    not_member c.args.program.now c.args.index c.args.reaching.now c.requires.table c.requires.there c.in_default.not-Some
    (record { task = a.task; descriptor = a.descriptor; is_there = a.is_there; reached = a.reached }))

pub returns-then-not-writes_last : goal.returns-then-not-writes_last
returns-then-not-writes_last c =
    let p = c.args.program.now in
    let m = c.index-code-index.result in
    let there = read_there p c.code.result.now c.args.index m c.code.ensures.value c.requires.there c.index-code-index.is in
    refused (λ n. let same : n.at ≡ m = cc (n.is_there, there) in
    both c.writes_last.result ((c.writes_last.ensures p c.args.index c.written_behind-again.ensures).1 (subst (λ (x : Marked). WritesLast p c.args.index x.op) same n.last)) c.if-not-writes_last.true)

pub returns-then-is_awaited : goal.returns-then-is_awaited
returns-then-is_awaited c =
    let p = c.args.program.now in
    let m = c.index-code-index.result in
    let there = read_there p c.code.result.now c.args.index m c.code.ensures.value c.requires.there c.index-code-index.is in
    let bare : m.forward ≡ false = cc in
    not_forwarded_exact p c.args.index c.dests.result m c.some_task_lacks.result there bare
    (c.is_awaited.ensures.0 c.if-is_awaited.true)
    ((c.writes_last.ensures p c.args.index c.written_behind-again.ensures).0 c.if-not-writes_last.false) c.dests.ensures c.some_task_lacks.ensures
