use Rattle.std.specs.Prelude.{Bool, ◌&&◌}
use Rattle.std.proofs.Common.{◌≡◌, ℕ, ap, sym, ◌∙◌}
use Rattle.mips_instructions.specs.InstructionTable.{general}
use Rattle.machine_model.specs.Unit.{put, sent_with}
use Rattle.register_ring.specs.Held.{pairs, put_first}
use Rattle.register_ring.specs.Ports.{sent_of}
use Rattle.unit_core.specs.ExecParts.{in_general}
use Rattle.unit_core.proofs.StepLemmas.{own_general, sent_general}
use Rattle.unit_core.proofs.step.write_word.Goals as goal

pub returns-then-forward-clause-own : goal.returns-then-forward-clause-own
returns-then-forward-clause-own c =
    let own = pairs c.args.local.now in
    let other : c.args.register ≡ 0 → ⊥ = λ e. c.if-get-eq0.false (c.get.ensures.value ∙ e) in
    c.put.ensures ∙ (ap (λ (n : ℕ). put n c.args.word own) c.from-register.ensures ∙ own_general c.args.register c.args.word own other)

pub returns-then-forward-clause-sent : goal.returns-then-forward-clause-sent
returns-then-forward-clause-sent c =
    let g = c.args.register in
    let sent = sent_of c.args.port.now in
    let other : c.args.register ≡ 0 → ⊥ = λ e. c.if-get-eq0.false (c.get.ensures.value ∙ e) in
    c.send.ensures.sent
    ∙ (ap (λ (n : ℕ). put_first n c.args.word sent) c.from-register.ensures
    ∙ (sent_general g c.args.word sent other
    ∙ ap (λ (f : Bool). sent_with (λ r. f && general g r) (in_general g c.args.word) sent) (sym c.if-forward.true)))

pub returns-else-forward-clause-own : goal.returns-else-forward-clause-own
returns-else-forward-clause-own c =
    let own = pairs c.args.local.now in
    let other : c.args.register ≡ 0 → ⊥ = λ e. c.if-get-eq0.false (c.get.ensures.value ∙ e) in
    c.put.ensures ∙ (ap (λ (n : ℕ). put n c.args.word own) c.from-register.ensures ∙ own_general c.args.register c.args.word own other)
