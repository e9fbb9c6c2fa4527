-- One life more.
use Rattle.std.proofs.Common.{ap, sym, ◌∙◌, subst, get_or}
use Rattle.std.proofs.lemmas.List.{take_all}
use Rattle.task_lives.specs.Tallies.{tally_of}
use Rattle.task_lives.specs.Counting.{with_life, HasRoom}
use Rattle.task_lives.proofs.OneMore.{no_life, tally_to, room_to}
use Rattle.task_lives.proofs.tally.add_up.Goals as goal

pub with-tally-requires : goal.with-tally-requires
with-tally-requires c =
    subst (HasRoom (get_or c.args.lives.now c.loop-life.life-index no_life)) (sym c.loop-life.invariant)
    (room_to c.args.lives.now c.loop-life.life-index no_life c.requires c.loop-life-test.true)

pub loop-life-preserved : goal.loop-life-preserved
loop-life-preserved c =
    c.with-tally.ensures ∙ ap (with_life (get_or c.args.lives.now c.loop-life.life-index no_life)) c.loop-life.invariant
    ∙ tally_to c.args.lives.now c.loop-life.life-index no_life c.loop-life-test.true

pub returns : goal.returns
returns c = c.loop-life.invariant ∙ ap tally_of (take_all c.loop-life.life-index c.args.lives.now c.loop-life-test.false)
