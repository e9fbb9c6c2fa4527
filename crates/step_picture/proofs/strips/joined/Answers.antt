-- The wait of the next step is the same but for the step.
use Rattle.std.proofs.Common.{◌≡◌, ◌+◌, arith}
use Rattle.step_picture.proofs.Joining.{joined_steps}
use Rattle.step_picture.proofs.strips.joined.Goals as goal

pub returns-then-is_alike : goal.returns-then-is_alike
returns-then-is_alike c =
    let next : c.args.next.step ≡ c.args.before.step + c.args.before.count = omega arith in
    joined_steps c.args.before c.args.next (c.is_alike.ensures c.if-is_alike.true) next
