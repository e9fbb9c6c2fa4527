-- The exits that the code has are those of the instruction's edges.
use Rattle.std.proofs.Common.{Bool, ℕ, not, ◌∙◌}
use Rattle.task_graph.specs.Soundness.{is_target}
use Rattle.mark_checker.proofs.Ahead.{any_exit, any_beyond}
use Rattle.mark_checker.proofs.place.masked_faults.Goals as goal

pub returns-clause-exit_not_listed : goal.returns-clause-exit_not_listed
returns-clause-exit_not_listed c =
    let test : ℕ → Bool = λ j. not (is_target c.args.descriptor.now j) in
    c.exits_unlisted-exit_not_listed.ensures
    ∙ any_exit c.args.program.now c.args.index c.args.marked.now c.exits_of-exits.result.direct test c.requires c.exits_of-exits.ensures.direct

pub returns-clause-falls_off : goal.returns-clause-falls_off
returns-clause-falls_off c = any_beyond c.args.program.now c.args.index c.args.marked.now c.exits_of-exits.result.falls_off c.requires c.exits_of-exits.ensures.falls_off
