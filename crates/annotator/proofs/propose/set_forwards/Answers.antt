use Rattle.annotator.proofs.Imports.{◌≡◌, ℕ, Bool, List, length, get_or, take, sym, ◌∙◌, ap, subst, arith, take_all, with_forwards}
use Rattle.annotator.proofs.Remarked.{forwards_left, forwards_set}
use Rattle.annotator.proofs.propose.set_forwards.Goals as goal

pub loop-i-init : goal.loop-i-init
loop-i-init c = sym (forwards_left c.args.code.now)

pub loop-i-preserved : goal.loop-i-preserved
loop-i-preserved c =
    forwards_set c.args.code.now c.loop-i.code c.args.forwards.now c.loop-i.i c.index-code-i.result c.loop-i-test.true c.requires c.loop-i.invariant

pub returns : goal.returns
returns c = c.loop-i.invariant ∙ ap (λ (bits : List Bool). with_forwards c.args.code.now bits) (take_all c.loop-i.i c.args.forwards.now (omega arith))
