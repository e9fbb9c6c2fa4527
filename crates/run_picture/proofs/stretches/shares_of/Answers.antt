-- One life more.
use Rattle.std.proofs.Common.{List, ap, ◌∙◌}
use Rattle.std.proofs.lemmas.List.{take_all}
use Rattle.task_lives.specs.declared.life.Life.{Life}
use Rattle.run_picture.proofs.Shares.{life_more, room_for_more, shares, no_life}
use Rattle.run_picture.proofs.stretches.shares_of.Goals as goal

pub add_life-requires-clause-room : goal.add_life-requires-clause-room
add_life-requires-clause-room c =
    room_for_more c.args.span c.args.parts c.args.lives.now c.loop-life.life-index c.loop-life.shares.items c.requires.few c.requires.short c.loop-life.invariant

pub loop-life-preserved : goal.loop-life-preserved
loop-life-preserved c =
    life_more c.args.span c.args.parts c.args.lives.now c.loop-life.life-index no_life c.loop-life.shares.items c.add_life.new.shares.items
    c.loop-life-test.true c.loop-life.invariant c.add_life.ensures

pub returns : goal.returns
returns c =
    c.loop-life.invariant
    ∙ ap (λ (lives : List Life). shares c.args.span lives c.args.parts) (take_all c.loop-life.life-index c.args.lives.now c.loop-life-test.false)
