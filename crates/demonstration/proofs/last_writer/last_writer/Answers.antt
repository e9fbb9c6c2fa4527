use Rattle.demonstration.proofs.Imports.{sym, ap, subst, ◌∙◌, add-one, arith, ◌&&◌, not, fetch, input, plain_of, HasWordFrom, is_trapped, is_written_by, writes_in_step}
use Rattle.std.proofs.Common.{◌≡◌, Bool, Some, ℕ, suc, if◌then◌else◌}
use Rattle.mips_plain.specs.PlainMachine.{State as PlainState}
use Rattle.demonstration.proofs.PlainReads.{few_reads}
use Rattle.demonstration.proofs.Writing.{after_step, unwritten}
use Rattle.demonstration.proofs.last_writer.last_writer.Goals as goal

pub loop-made-init : goal.loop-made-init
loop-made-init c = record { plain = c.in_ok-plain.ensures; writer = unwritten c.args.program.now c.args.register }

pub step-requires : goal.step-requires
step-requires c = omega (arith, few_reads (input c.args.program.now) c.loop-made.made, c.loop-made.invariant.plain.count)

pub loop-made-preserved : goal.loop-made-preserved
loop-made-preserved c =
    let p = c.args.program.now in
    let r = c.args.register in
    let made = c.loop-made.made in
    let inv = c.loop-made.invariant in
    let after = c.in_ok-step.ensures.ok (input p) made inv.plain in
    let pc : c.pc-pc.result ≡ (plain_of p made).pc = c.pc-pc.ensures ∙ ap (λ (s : PlainState). s.pc) inv.plain.state in
    let writes : c.is_writer-writes.result ≡ is_written_by (fetch (input p).code (plain_of p made).pc) r =
    c.is_writer-writes.ensures ∙ ap (λ (at : ℕ). is_written_by (fetch (input p).code at) r) pc in
    let ends : c.outcome.result ≡ (plain_of p (suc made)).outcome =
    c.outcome.ensures ∙ ap (λ (s : PlainState). s.outcome) after.state ∙ ap (λ (n : ℕ). (plain_of p n).outcome) (add-one made) in
    let does : Bool = c.is_writer-writes.result && not (is_trapped c.outcome.result) in
    let in_step : writes_in_step p r made ≡ does = λ j. sym writes j && not (is_trapped (sym ends j)) in
    let is : c.later-writer.result ≡ (if does then Some (plain_of p made).pc else c.loop-made.writer) =
    c.later-writer.ensures ∙ ap (λ (at : ℕ). if does then Some at else c.loop-made.writer) pc in
    record {
      plain = after;
      writer =
          subst (λ (n : ℕ). HasWordFrom p r n c.later-writer.result) (sym (add-one made))
          (subst (HasWordFrom p r (suc made)) (sym is) (after_step p r made does c.loop-made.writer in_step inv.writer));
    }
