-- One part more: its share and its tally are those of the chart.
use Rattle.std.proofs.Common.{◌≡◌, ◌<◌, ◌*◌, ◌++◌, ◌∙◌, ap, arith, List, ℕ, length, get_or}
use Rattle.std.specs.Prelude.{flat_map}
use Rattle.std.specs.List.{range_with_len}
use Rattle.run_picture.specs.declared.shape.Meaning.{Meaning}
use Rattle.run_picture.specs.declared.shape.StretchTally.{StretchTally}
use Rattle.run_picture.specs.Adding.{tally_by}
use Rattle.run_picture.specs.Meanings.{meanings}
use Rattle.run_picture.specs.Stretches.{length_of, share_of, share_told, stretch_at, tally_in}
use Rattle.run_picture.proofs.Occurrences.{tally_same}
use Rattle.run_picture.proofs.Parts.{part_told, range_more}
use Rattle.run_picture.proofs.Shares.{length-shares, share_at, shares}
use Rattle.run_picture.proofs.stretches.push_shares.Goals as goal

pub push_share-requires-clause-within : goal.push_share-requires-clause-within
push_share-requires-clause-within c =
    let parts = c.args.chart.now.axis.units * 1160 in
    let long : length c.deref-in-loop-part.result.now ≡ length (shares c.stretch_length-span.result c.deref.result.now parts) =
    ap (λ (xs : List ℕ). length xs) (c.deref-in-loop-part.ensures.value ∙ c.in_ok-shares.ensures) in
    omega (arith, long, length-shares c.stretch_length-span.result c.deref.result.now parts)

pub loop-part-preserved : goal.loop-part-preserved
loop-part-preserved c =
    let chart = c.args.chart.now in
    let parts = c.args.chart.now.axis.units * 1160 in
    let part = c.loop-part.part in
    let span = c.stretch_length-span.ensures in
    let s = stretch_at c.loop-part.part in
    let within : c.loop-part.part < parts = omega arith in
    let low : stretch_at c.loop-part.part < 290 = omega arith in
    let sums = c.in_ok-sums.sums in
    let count : get_or c.deref-in-loop-part.result.now part 0 ≡ share_of (length_of chart.axis.count) chart.lives.items part =
    ap (λ (xs : List ℕ). get_or xs part 0) (c.deref-in-loop-part.ensures.value ∙ c.in_ok-shares.ensures)
    ∙ share_at c.stretch_length-span.result c.deref.result.now parts part within
    ∙ (λ i. share_of (span i) (c.deref.ensures.value i) part) in
    let tally : tally_by sums.executed.items sums.ended.items s ≡ tally_in (length_of chart.axis.count) chart.columns.items chart.events.items chart.lives.items s =
    tally_same c.stretch_length-span.result c.deref-2.result.now c.deref-3.result.now c.deref-4.result.now s sums.executed.items sums.ended.items low
    c.in_ok-sums.ensures.executed c.in_ok-sums.ensures.ended
    ∙ (λ i. tally_in (span i) (c.deref-2.ensures.value i) (c.deref-3.ensures.value i) (c.deref-4.ensures.value i) s) in
    c.in_ok-push_share.ensures
    ∙ (λ i. meanings c.loop-part.shapes.items ++ share_told chart.axis (count i) part (tally i))
    ∙ ap (λ (ms : List Meaning). ms ++ part_told chart part) c.loop-part.invariant
    ∙ range_more (part_told chart) (meanings c.args.shapes.now.items) part

pub returns : goal.returns
returns c =
    let all : c.loop-part.part ≡ c.args.chart.now.axis.units * 1160 = omega (arith, c.loop-part.auto.part-end, c.loop-part-test.false) in
    c.loop-part.invariant
    ∙ ap (λ (n : ℕ). meanings c.args.shapes.now.items ++ flat_map (part_told c.args.chart.now) (range_with_len 0 n)) all
