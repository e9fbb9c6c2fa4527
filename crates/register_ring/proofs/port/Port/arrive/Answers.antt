use Rattle.std.specs.Prelude.{◌≡◌, ◌<◌, false}
use Rattle.std.proofs.Common.{ap, sym, ◌∙◌, arith}
use Rattle.std.proofs.lemmas.Bool.{cond-true, lt-ltb}
use Rattle.mips_instructions.specs.Words.{has}
use Rattle.machine_model.specs.Machine.{Words}
use Rattle.machine_model.specs.Unit.{put}
use Rattle.register_ring.specs.Held.{pairs}
use Rattle.register_ring.specs.Ports.{arrived_of, sent_of}
use Rattle.register_ring.proofs.PortLemmas.{ring_put, over_ring, no_pair}
use Rattle.register_ring.proofs.port.Port.arrive.Goals as goal

pub returns : goal.returns
returns c =
    let r = c.args.register in
    let below : r < 34 = omega arith in
    let absent : has c.self.inside.arrived.set r ≡ false =
    ap (λ (set : _). has set r) (sym c.set.ensures.value) ∙ (sym c.has.ensures.member ∙ c.if-has.false) in
    let old : over_ring (pairs c.self.inside.arrived) ≡ arrived_of c.args.self.now = ap arrived_of c.self.view_is in (
      sym (ap (λ (words : Words). words r) old) ∙ (cond-true _ _ _ (lt-ltb r 34 below) ∙ no_pair c.self.inside.arrived r absent),
      ap over_ring c.put.ensures ∙ (ring_put (pairs c.self.inside.arrived) r c.args.word below ∙ ap (put r c.args.word) old),
      ap sent_of c.self.view_is,
    )
