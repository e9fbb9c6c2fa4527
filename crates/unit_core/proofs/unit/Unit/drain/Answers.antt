-- The tests that were passed are those of the model's refusals.
use Rattle.std.specs.Prelude.{◌≡◌, ℕ, true, None}
use Rattle.std.proofs.Common.{◌∙◌, ap, sym, subst}
use Rattle.mips_instructions.specs.Words.{has}
use Rattle.machine_model.specs.Machine.{creates}
use Rattle.machine_model.specs.Unit.{Sends, drain_refusal}
use Rattle.register_ring.specs.Ports.{sent_of}
use Rattle.unit_core.specs.Units.{UnitView, active_of}
use Rattle.unit_core.proofs.UnitLemmas.{none_is, drains}
use Rattle.unit_core.proofs.unit.Unit.drain.Goals as goal

pub returns : goal.returns
returns c =
    let p = c.args.program.now in
    let u : UnitView = record { task = c.self.inside.task; serial = c.self.inside.serial; place = c.self.inside.spot; port = c.self.inside.port; local = c.self.inside.local; log = c.self.inside.log.reads } in
    let r = c.args.register in
    let after : UnitView = record u { port = c.send.new.self } in
    let created : creates p u.task r ≡ true =
    sym (ap (λ (m : ℕ). has m r) c.created.ensures) ∙ (sym c.has.ensures.member ∙ c.if-not-has.false) in
    let unsent : sent_of u.port r ≡ None =
    none_is (sent_of u.port r) (sym (c.sent_set.ensures.members r) ∙ (sym c.has-2.ensures.member ∙ c.if-has.false)) in
    subst (λ (v : UnitView). (drain_refusal p (active_of v) r ≡ None) × Sends p (active_of v) r (active_of after)) c.self.view_is
    (drains p u c.send.new.self r c.in-Stopped.field-0 c.in-Some.word created c.in-Stopped.is unsent (sym c.value_of.ensures ∙ c.in-Some.is)
    c.send.ensures.sent c.send.ensures.arrived)
