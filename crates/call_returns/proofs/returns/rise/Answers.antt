-- What is sorted and has no doubles rises, and has nothing new.
use Rattle.std.proofs.lemmas.List.Filters.{All-dedup, dedup_is}
use Rattle.std.proofs.lemmas.List.Sorted.{All-permutation}
use Rattle.std.proofs.lemmas.Map.Keys.{IsStrictlyIncreasing-dedup}
use Rattle.call_returns.specs.Returns.{IsBehindCall}
use Rattle.call_returns.proofs.returns.rise.Goals as goal

pub returns-clause-rising : goal.returns-clause-rising
returns-clause-rising c =
    let is = dedup_is _ _ _ c.dedup.ensures.filtered in
    rw is (IsStrictlyIncreasing-dedup _ c.sort_unstable.ensures.sorted)

pub returns-clause-behind : goal.returns-clause-behind
returns-clause-behind c =
    let is = dedup_is _ _ _ c.dedup.ensures.filtered in
    λ p all. rw is (All-dedup _ (IsBehindCall p) _ (All-permutation (IsBehindCall p) _ _ c.sort_unstable.ensures.permutation all))
