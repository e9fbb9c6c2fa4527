-- The two ends are those of the edges.
use Rattle.exit_diagnostics.proofs.Removing.{follows_next}
use Rattle.exit_diagnostics.proofs.needless.next_in.Goals as goal

pub returns : goal.returns
returns c p same =
    follows_next p c.args.code.now c.args.index (record { first = c.inside-first.result; second = c.inside-second.result }) c.end-onward.result c.end-branch.result
    same c.requires c.end-onward.ensures c.end-branch.ensures c.inside-first.ensures c.inside-second.ensures
