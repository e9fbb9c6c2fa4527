-- Sorted from the first on, and then turned round.
use Rattle.std.proofs.Common.{◌∙◌, List, reverse, ap, rules, sym, subst}
use Rattle.std.proofs.lemmas.List.{reverse-reverse}
use Rattle.std.specs.List.Sorted.{IsNonDecreasingBy}
use Rattle.std.proofs.lemmas.List.Sorted.{IsPermutation-trans, IsPermutation-reverse, IsNonDecreasingBy-from_sort_by_key}
use Rattle.mask_certificate.specs.Blocks.{BlockView}
use Rattle.parallel_check.proofs.reading.order.Goals as goal

pub returns-clause-same : goal.returns-clause-same
returns-clause-same c =
    rw c.reverse.ensures.items
    (IsPermutation-trans c.args.blocks.now.items _ _ c.sort_unstable_by_key.ensures.permutation (IsPermutation-reverse _))

pub returns-clause-order : goal.returns-clause-order
returns-clause-order c = record {
  rises =
      subst (λ (blocks : List BlockView). IsNonDecreasingBy (λ block. block.start) blocks)
      (sym (ap (λ (blocks : List BlockView). reverse blocks) c.reverse.ensures.items ∙ reverse-reverse _))
      (IsNonDecreasingBy-from_sort_by_key (λ (block : BlockView). block.start) _ c.sort_unstable_by_key.ensures.sorted (λ a r q k. search rules));
}
