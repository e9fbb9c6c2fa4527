-- What stands for a register more is at the end.
use Rattle.std.proofs.Common.{◌≡◌, ℕ, ◌++◌, ap, ◌∙◌, arith}
use Rattle.std.specs.List.{flat_map}
use Rattle.std.specs.Option.{option_to_list}
use Rattle.task_descriptor.specs.Listing.{numbers_below}
use Rattle.mark_diagnostics.specs.Told.{leader, leaders}
use Rattle.mark_diagnostics.proofs.Numbers.{some_added}
use Rattle.mark_diagnostics.proofs.told.leaders.Goals as goal

pub loop-number-preserved : goal.loop-number-preserved
loop-number-preserved c =
    some_added (leader c.args.findings.now) c.loop-number.number c.loop-number.list.items c.add.new.list.items
    c.loop-number.invariant (c.in_ok-add.ensures ∙ ap (λ o. c.loop-number.list.items ++ option_to_list o) c.leader.ensures)

pub returns : goal.returns
unfolding leaders
returns c =
    let ended : c.loop-number.number ≡ 34 = omega arith in
    c.loop-number.invariant ∙ ap (λ (n : ℕ). flat_map (λ r. option_to_list (leader c.args.findings.now r)) (numbers_below n)) ended
