-- A piece more.
use Rattle.std.proofs.Common.{◌≡◌, ◌∙◌, ◌<◌, List, ℕ, [], Some, Bor, length, map, arith}
use Rattle.std.specs.Prelude.{slice_get, slice_index_or}
use Rattle.std.proofs.lemmas.List.{length-map}
use Rattle.std.proofs.lemmas.Option.{slice_get-get_or}
use Rattle.std.proofs.lemmas.List.Sorted.{All-permutation, length_permutation}
use Rattle.mask_certificate.specs.Blocks.{BlockView}
use Rattle.parallel_check.proofs.Groups.{groups_written, order_more, count_written}
use Rattle.parallel_check.proofs.reading.order_all.Goals as goal

pub loop-number-preserved : goal.loop-number-preserved
loop-number-preserved c =
    let pieces = map (λ (piece : Bor (List ℕ)). piece.now) c.args.pieces.now in
    let groups = c.loop-number.groups in
    let n = c.loop-number.number in
    let old = slice_index_or groups n c.index-groups-number.result in
    let new = c.order.new.blocks in
    let before = c.loop-number.invariant in
    let within : n < length groups = omega (arith, before.0.each, length-map c.args.pieces.now (λ (piece : Bor (List ℕ)). piece.now), c.loop-number-test.true) in
    let there : slice_get groups n ≡ Some old = slice_get-get_or groups n c.index-groups-number.result within in
    let of = All-permutation (λ (block : BlockView). block.text ≡ slice_index_or pieces n []) old.items new.items c.order.ensures.same (before.0.of n old there) in (
      groups_written pieces groups n new of before.0,
      (
        order_more groups n new within c.order.ensures.order before.1.0,
        count_written groups n new c.index-groups-number.result within (length_permutation old.items new.items c.order.ensures.same) ∙ before.1.1,
      ),
    )

pub returns-clause-order : goal.returns-clause-order
returns-clause-order c = record { each = λ n group within. c.loop-number.invariant.1.0.each n group (omega (arith, c.loop-number-test.false)) }
