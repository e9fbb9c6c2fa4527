-- One count more; there are no more waits of a kind than there are.
use Rattle.std.proofs.Common.{ℕ, ◌≤◌, Bool, true, false, cond, List, ap, ◌∙◌, arith}
use Rattle.std.proofs.lemmas.List.{take_all}
use Rattle.std.proofs.lemmas.List.Sums.{sum_by_more, sum_by_more_le_part}
use Rattle.unit_waits.specs.declared.count.Count.{Count}
use Rattle.wait_table.specs.Kinds.{is_of, part, waits_of}
use Rattle.wait_table.proofs.kinds.waits_of.Goals as goal

all_or_none : (b : Bool) (n : ℕ) → cond b n 0 ≤ n
all_or_none true n = omega arith
all_or_none false n = omega arith

pub overflow_add-waits : goal.overflow_add-waits
overflow_add-waits c =
    let l = c.loop-count in
    let kind = c.args.kind in
    let count = c.count-item.result in
    let most = sum_by_more_le_part (part kind) (λ (x : Count). x.waits) c.args.counts.now l.count-index count (omega (arith, c.loop-count-test.true)) (λ x. all_or_none (is_of kind x.first.reason) x.waits) in
    let here = all_or_none (is_of kind count.first.reason) count.waits in
    let same = ap (λ (x : Count). x.waits) c.count-item.is in
    omega (arith, l.invariant, c.part_of-waits.ensures, most, here, same, c.requires)

pub loop-count-preserved : goal.loop-count-preserved
loop-count-preserved c =
    let l = c.loop-count in
    let kind = c.args.kind in
    let more = sum_by_more (part kind) c.args.counts.now l.count-index c.count-item.result (omega (arith, c.loop-count-test.true)) in
    let same = ap (λ (x : Count). part kind x) c.count-item.is in
    omega (arith, l.invariant, c.part_of-waits.ensures, more, same)

pub returns : goal.returns
returns c =
    let l = c.loop-count in
    l.invariant ∙ ap (λ (cs : List Count). waits_of c.args.kind cs) (take_all l.count-index c.args.counts.now (omega (arith, c.loop-count-test.false)))
