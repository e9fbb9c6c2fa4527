-- A burst without a step has the unit before also after it, so what is made on the one is made on the
-- other.
use Rattle.std.specs.Prelude.{◌≡◌, ◌≤◌}
use Rattle.std.proofs.Common.{◌∙◌, ap, arith, subst}
use Rattle.unit_core.specs.Units.{UnitView, active_of, unlogged}
use Rattle.task_descriptor.specs.Listing.{Listing}
use Rattle.unit_core.specs.Bursts.{BurstView, EndsAtSend, Makes, SendsLast}
use Rattle.unit_core.proofs.BurstLemmas.{begun_as, begun_empty, ends_as, made_from, reason_at_send, sends_on}
use Rattle.unit_core.proofs.burst.Burst.go_to_send.Goals as goal

pub run_to_send-made-requires : goal.run_to_send-made-requires
run_to_send-made-requires c =
    let i = c.self.inside in
    let b : BurstView = record { accepted = i.accepted.now; before = unlogged i.before; reads = i.before.reads; steps = i.steps; after = i.after; ended = i.ended } in
    let none : b.steps ≡ 0 = ap (λ (x : BurstView). x.steps) c.self.view_is ∙ c.requires.none in
    ap (λ (v : UnitView). v.log) c.reserve_reads.ensures ∙ begun_empty b c.self.invariant none

pub invariant_of-self : goal.invariant_of-self
invariant_of-self c =
    let i = c.self.inside in
    let b : BurstView = record { accepted = i.accepted.now; before = unlogged i.before; reads = i.before.reads; steps = i.steps; after = i.after; ended = i.ended } in
    let none : b.steps ≡ 0 = ap (λ (x : BurstView). x.steps) c.self.view_is ∙ c.requires.none in
    let made = c.run_to_send-made in
    let few : made.result.steps ≤ 65536 = omega (arith, made.ensures.few, c.requires.few) in
    let steps = subst (λ (p : Listing). Makes p c.reserve_reads.new.self made.result.steps made.new.unit) c.program.ensures.value made.ensures.made in
    let ends = subst (λ (p : Listing). EndsAtSend p (active_of c.reserve_reads.new.self) (active_of made.new.unit) c.args.most made.result.steps made.result.ended) c.program.ensures.value made.ensures.ends in
    made_from b c.reserve_reads.new.self made.new.unit made.result.steps made.result.ended c.self.invariant none c.reserve_reads.ensures few steps
    (reason_at_send b.accepted.program (active_of c.reserve_reads.new.self) (active_of made.new.unit) c.args.most made.result.steps made.result.ended ends)

pub returns : goal.returns
returns c =
    let i = c.self.inside in
    let b : BurstView = record { accepted = i.accepted.now; before = unlogged i.before; reads = i.before.reads; steps = i.steps; after = i.after; ended = i.ended } in
    let none : b.steps ≡ 0 = ap (λ (x : BurstView). x.steps) c.self.view_is ∙ c.requires.none in
    let made = c.run_to_send-made in
    let last = subst (λ (p : Listing). SendsLast p c.reserve_reads.new.self made.result.steps) c.program.ensures.value made.ensures.sends_last in
    let ends = subst (λ (p : Listing). EndsAtSend p (active_of c.reserve_reads.new.self) (active_of made.new.unit) c.args.most made.result.steps made.result.ended) c.program.ensures.value made.ensures.ends in
    record {
      made = record {
        accepted = ap (λ (x : BurstView). x.accepted) c.self.view_is;
        before = ap (λ (x : BurstView). x.before) c.self.view_is;
        reads = ap (λ (x : BurstView). x.reads) c.self.view_is;
        few = made.ensures.few;
        made = invariant_of-self c;
      };
      sends_last = sends_on b.accepted.program b.before c.reserve_reads.new.self made.result.steps (begun_as b c.reserve_reads.new.self c.self.invariant none c.reserve_reads.ensures) last;
      ends = ends_as b.accepted.program b.before c.reserve_reads.new.self (active_of made.new.unit) c.args.most made.result.steps made.result.ended (begun_as b c.reserve_reads.new.self c.self.invariant none c.reserve_reads.ensures) ends;
    }
