-- One place more.
use Rattle.std.proofs.Common.{◌≡◌, ℕ, List, length, ap, subst, arith}
use Rattle.task_descriptor.specs.declared.descriptor.Marked.{Marked}
use Rattle.finding_paths.specs.declared.mark.CostlyMark.TheVariants.{Unreached}
use Rattle.finding_paths.specs.Candidates.{up_to, of_place}
use Rattle.finding_paths.specs.Steps.{Adds}
use Rattle.finding_paths.proofs.Picking.{up_to_none, up_to_more, adds_one}
use Rattle.finding_paths.proofs.search.add_unreached.Goals as goal

pub loop-i-init : goal.loop-i-init
loop-i-init c = up_to_none c.args.program.now of_place c.args.list.now.items

pub loop-i-preserved : goal.loop-i-preserved
loop-i-preserved c =
    let p = c.args.program.now in
    let i = c.loop-i.i in
    let old = c.loop-i.list.items in
    up_to_more p of_place i c.args.list.now.items old c.add.new.list.items c.loop-i.invariant
    (adds_one p (Unreached i) c.begins_unreached-is_costly.result old c.add.new.list.items c.in_ok-add.ensures c.begins_unreached-is_costly.ensures)

pub returns : goal.returns
returns c =
    let p = c.args.program.now in
    let count : length c.code-i-end.result.now ≡ length p.code = ap (λ (ms : List Marked). length ms) c.code-i-end.ensures.value in
    let end : c.loop-i.i ≡ length p.code = omega arith in
    subst (λ (n : ℕ). Adds p (up_to of_place n) c.args.list.now.items c.loop-i.list.items) end c.loop-i.invariant
