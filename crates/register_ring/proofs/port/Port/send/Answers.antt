use Rattle.std.specs.Prelude.{◌≡◌, false}
use Rattle.std.proofs.Common.{ap, sym, ◌∙◌}
use Rattle.mips_instructions.specs.Words.{has}
use Rattle.register_ring.specs.Held.{pairs, put_first}
use Rattle.register_ring.specs.Ports.{sent_of}
use Rattle.register_ring.proofs.PortLemmas.{put_is_first, no_pair}
use Rattle.register_ring.proofs.port.Port.send.Goals as goal

pub returns-then-not-has-clause-sent : goal.returns-then-not-has-clause-sent
returns-then-not-has-clause-sent c =
    let r = c.args.register in
    let absent : has c.self.inside.sent.set r ≡ false =
    ap (λ (set : _). has set r) (sym c.set.ensures.value) ∙ (sym c.has.ensures.member ∙ c.if-not-has.true) in
    c.put.ensures
    ∙ (put_is_first (pairs c.self.inside.sent) r c.args.word (no_pair c.self.inside.sent r absent)
    ∙ ap (put_first r c.args.word) (ap sent_of c.self.view_is))
