use Rattle.demonstration.proofs.Imports.{sym, ap, ◌∙◌, arith, option_to_list, slice_index_or, get_or_default, plain, reads_when, Read, input}
use Rattle.std.proofs.Common.{◌≡◌, ◌<◌, ◌≤◌, length}
use Rattle.mips_plain.specs.PlainMachine.{State as PlainState}
use Rattle.demonstration.proofs.PlainReads.{reads_zero}
use Rattle.demonstration.proofs.Judging.{item_at, right_there, one_more_read, agreed, not_agreed}
use Rattle.demonstration.proofs.judge.compare.Goals as goal

pub loop-number-init : goal.loop-number-init
loop-number-init c = record { plain = c.in_ok-plain.ensures; right = sym (reads_zero (input c.args.program.now)) }

pub returns-then-not-agrees-clause-stale : goal.returns-then-not-agrees-clause-stale
returns-then-not-agrees-clause-stale c =
    let p = c.args.program.now in
    let reads = c.args.reads.now in
    let number = c.loop-number.number in
    let inv = c.loop-number.invariant in
    let below : number < length reads = omega arith in
    let few : number ≤ length reads = omega arith in
    let d : Read = record { pc = 0; a = 0; b = 0 } in
    let right = c.next_read-right.result in
    let is : option_to_list right ≡ reads_when (plain (input p) number).outcome (input p) (plain (input p) number) =
    c.next_read-right.ensures ∙ ap (λ (s : PlainState). reads_when s.outcome (input p) s) inv.plain.state in
    record {
      is_read = item_at reads number d below;
      is_right = right_there p reads number right few inv.right is;
      differs = not_agreed right (slice_index_or reads number d) (sym c.agrees.ensures ∙ c.if-not-agrees.true);
      before = inv.right;
    }

pub loop-number-preserved : goal.loop-number-preserved
loop-number-preserved c =
    let p = c.args.program.now in
    let reads = c.args.reads.now in
    let number = c.loop-number.number in
    let inv = c.loop-number.invariant in
    let below : number < length reads = omega arith in
    let d : Read = record { pc = 0; a = 0; b = 0 } in
    let read = slice_index_or reads number d in
    let right = c.next_read-right.result in
    let is : option_to_list right ≡ reads_when (plain (input p) number).outcome (input p) (plain (input p) number) =
    c.next_read-right.ensures ∙ ap (λ (s : PlainState). reads_when s.outcome (input p) s) inv.plain.state in
    record {
      plain = c.in_ok-step.ensures.ok (input p) number inv.plain;
      right =
          one_more_read p reads number read right below (get_or_default reads number d read below) inv.right is
          (agreed right read (sym c.agrees.ensures ∙ c.if-not-agrees.false));
    }
