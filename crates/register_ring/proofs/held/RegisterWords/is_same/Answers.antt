-- Pairs within others of the same registers are the same.
use Rattle.std.specs.Prelude.{◌≡◌}
use Rattle.std.proofs.Common.{ap}
use Rattle.std.proofs.lemmas.Bool.{false≢true}
use Rattle.register_ring.specs.Held.{Held, pairs}
use Rattle.register_ring.proofs.PortLemmas.{all_same}
use Rattle.register_ring.proofs.DifferLemmas.{other_sets, same_sets, same_within}
use Rattle.register_ring.proofs.held.RegisterWords.is_same.Goals as goal

pub returns-then-ne : goal.returns-then-ne
returns-then-ne c =
    let mine : c.self.inside.set ≡ c.args.self.now.set = ap (λ (h : Held). h.set) c.self.view_is in
    let theirs : c.other.inside.set ≡ c.args.other.now.set = ap (λ (h : Held). h.set) c.other.view_is in (
      λ never. absurd (false≢true never),
      λ same. absurd (other_sets c.self.inside.set c.other.inside.set c.args.self.now c.args.other.now c.ne.result mine theirs c.ne.ensures c.if-ne.true same),
    )

pub returns : goal.returns
returns c =
    let mine : c.self.inside.set ≡ c.args.self.now.set = ap (λ (h : Held). h.set) c.self.view_is in
    let theirs : c.other.inside.set ≡ c.args.other.now.set = ap (λ (h : Held). h.set) c.other.view_is in
    let sets = same_sets c.self.inside.set c.other.inside.set c.args.self.now c.args.other.now c.ne.result mine theirs c.ne.ensures c.if-ne.false in (
      λ yes. same_within c.args.self.now c.args.other.now sets (c.is_within.ensures.0 yes),
      λ same. c.is_within.ensures.1 (all_same (pairs c.args.self.now) (pairs c.args.other.now) same),
    )
