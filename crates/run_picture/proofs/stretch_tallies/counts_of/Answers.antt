-- One number more.
use Rattle.std.proofs.Common.{List, ℕ, ap, ◌∙◌}
use Rattle.std.proofs.lemmas.List.{take_all}
use Rattle.run_picture.proofs.Occurrences.{counts, one_more, room_for_one}
use Rattle.run_picture.proofs.stretch_tallies.counts_of.Goals as goal

pub add_one-requires : goal.add_one-requires
add_one-requires c =
    room_for_one c.args.limit c.args.numbers.now c.loop-number.number-index c.loop-number.counts.items c.requires c.loop-number.invariant

pub loop-number-preserved : goal.loop-number-preserved
loop-number-preserved c =
    one_more c.args.limit c.args.numbers.now c.loop-number.number-index c.loop-number.counts.items c.add_one.new.counts.items
    c.loop-number-test.true c.loop-number.invariant c.add_one.ensures

pub returns : goal.returns
returns c =
    c.loop-number.invariant
    ∙ ap (λ (numbers : List ℕ). counts numbers c.args.limit) (take_all c.loop-number.number-index c.args.numbers.now c.loop-number-test.false)
