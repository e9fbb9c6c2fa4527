-- A register is in the other set and not among those that differ exactly where its pair is there.
use Rattle.register_ring.proofs.DifferLemmas.{within_seen}
use Rattle.register_ring.proofs.held.RegisterWords.is_within.Goals as goal

pub returns : goal.returns
returns c =
    let within = within_seen (record { set = c.self.inside.set; words = c.self.inside.words }) (record { set = c.other.inside.set; words = c.other.inside.words }) c.args.self.now c.args.other.now c.self.view_is c.other.view_is
    c.differing.result c.minus-same.result c.differing.ensures c.minus-same.ensures.members in (
      λ yes. within.0 (c.is_subset.ensures.members.0 yes),
      λ pairs. c.is_subset.ensures.members.1 (within.1 pairs),
    )
