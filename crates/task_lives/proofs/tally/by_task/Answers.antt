-- One life more in the tally of its task.
use Rattle.std.proofs.Common.{ap, sym, ◌∙◌, subst, get_or}
use Rattle.std.proofs.lemmas.List.{take_all}
use Rattle.task_lives.specs.Tallies.{tallies_of}
use Rattle.task_lives.specs.Counting.{with_task_life, HaveRoom}
use Rattle.task_lives.proofs.OneMore.{no_life, none_counted, tallies_to, rooms_to}
use Rattle.task_lives.proofs.tally.by_task.Goals as goal

pub loop-life-init : goal.loop-life-init
loop-life-init c = none_counted c.args.tasks c.in_ok-tallies.tallies.items (c.in_ok-tallies.ensures.items_if_clones_equal (λ y same. same))

pub count-requires : goal.count-requires
count-requires c =
    subst (HaveRoom (get_or c.args.lives.now c.loop-life.life-index no_life)) (sym c.loop-life.invariant)
    (rooms_to c.args.tasks c.args.lives.now c.loop-life.life-index no_life c.requires c.loop-life-test.true)

pub loop-life-preserved : goal.loop-life-preserved
loop-life-preserved c =
    c.count.ensures ∙ ap (with_task_life 0 (get_or c.args.lives.now c.loop-life.life-index no_life)) c.loop-life.invariant
    ∙ tallies_to c.args.tasks c.args.lives.now c.loop-life.life-index no_life c.loop-life-test.true

pub returns : goal.returns
returns c =
    c.loop-life.invariant ∙ ap (tallies_of c.args.tasks) (take_all c.loop-life.life-index c.args.lives.now c.loop-life-test.false)
