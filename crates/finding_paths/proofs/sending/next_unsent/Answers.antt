-- One that sends has no unsent successor.
use Rattle.std.proofs.Common.{sym, ◌∙◌}
use Rattle.task_graph.proofs.EdgeLemmas.{read_there}
use Rattle.finding_paths.proofs.Unsent.{sends_none, silent_follows}
use Rattle.finding_paths.proofs.sending.next_unsent.Goals as goal

pub returns-then-sends : goal.returns-then-sends
returns-then-sends c j =
    let p = c.args.program.now in
    let m = c.index-code-i.result in
    let there = read_there p c.code.result.now c.args.i m c.code.ensures.value c.requires c.index-code-i.is in
    (λ h. absurd (cc), λ f. absurd (sends_none p c.args.register c.args.i j m there (sym c.sends.ensures ∙ c.if-sends.true) f))

pub returns-else-sends : goal.returns-else-sends
returns-else-sends c j =
    let p = c.args.program.now in
    let m = c.index-code-i.result in
    let there = read_there p c.code.result.now c.args.i m c.code.ensures.value c.requires c.index-code-i.is in
    silent_follows p c.args.register c.args.i j m _ there (sym c.sends.ensures ∙ c.if-sends.false) (c.next_inside.ensures.exact j)
