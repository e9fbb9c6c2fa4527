-- What arrived is within what arrived there exactly where the pairs that are kept are.
use Rattle.std.specs.Prelude.{◌<◌, ◌^◌}
use Rattle.std.proofs.Common.{sym, ap, ◌∙◌, subst}
use Rattle.std.proofs.lemmas.Bool.{false≢true}
use Rattle.register_ring.specs.Held.{pairs}
use Rattle.register_ring.specs.Ports.{arrived_of, sent_of}
use Rattle.register_ring.proofs.PortLemmas.{rings_within}
use Rattle.register_ring.proofs.port.Port.is_within.Goals as goal

pub returns-then-not-is_within : goal.returns-then-not-is_within
returns-then-not-is_within c =
    let mine = ap arrived_of c.self.view_is in
    let other = ap arrived_of c.other.view_is in
    let small = subst (λ (set : _). set < 2 ^ 34) c.set.ensures.value c.set.ensures.range in
    let within = rings_within c.self.inside.arrived (pairs c.other.inside.arrived) (arrived_of c.args.self.now) (arrived_of c.args.other.now) mine other small in (
      λ never. absurd (false≢true never),
      λ same. absurd (false≢true (sym c.if-not-is_within.true ∙ c.is_within.ensures.1 (within.1 same.0))),
    )

pub returns : goal.returns
returns c =
    let mine = ap arrived_of c.self.view_is in
    let other = ap arrived_of c.other.view_is in
    let small = subst (λ (set : _). set < 2 ^ 34) c.set.ensures.value c.set.ensures.range in
    let within = rings_within c.self.inside.arrived (pairs c.other.inside.arrived) (arrived_of c.args.self.now) (arrived_of c.args.other.now) mine other small in
    let sent = ap sent_of c.self.view_is in
    let sent' = ap sent_of c.other.view_is in (
      λ same. (within.0 (c.is_within.ensures.0 c.if-not-is_within.false), sym sent ∙ (c.is_same.ensures.0 same ∙ sent')),
      λ same. c.is_same.ensures.1 (sent ∙ (same.1 ∙ sym sent')),
    )
