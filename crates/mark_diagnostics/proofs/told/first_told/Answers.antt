-- One task more: its findings to report are counted, and the first of them put into what room is left.
use Rattle.std.proofs.Common.{◌≡◌, ◌+◌, ◌-◌, ◌++◌, List, length, take, ◌∙◌, ap, arith}
use Rattle.std.specs.List.{flat_map, range_with_len}
use Rattle.task_descriptor.specs.Listing.{Listing}
use Rattle.task_descriptor.specs.declared.descriptor.Descriptor.{Descriptor}
use Rattle.mark_checker.specs.declared.finding.Finding.{Finding}
use Rattle.mark_checker.specs.Rules.{rules}
use Rattle.mark_diagnostics.specs.Told.{told, told_of}
use Rattle.mark_diagnostics.proofs.Counting.{rules_few}
use Rattle.mark_diagnostics.proofs.Ranges.{range_more, list_more, count_more}
use Rattle.mark_diagnostics.proofs.Telling.{told_few}
use Rattle.mark_diagnostics.proofs.told.first_told.Goals as goal

pub loop-task-preserved : goal.loop-task-preserved
loop-task-preserved c =
    let p = c.args.survey.now in
    let cert = c.args.cert.now in
    let task = c.loop-task.task in
    let most = c.args.most in
    let list = c.loop-task.list.items in
    let xs = flat_map (told_of p cert) (range_with_len 0 task) in
    let ys = told_of p cert task in
    let all = flat_map (told_of p cert) (range_with_len 0 (task + 1)) in
    let both = range_more (told_of p cert) task in
    let found : c.deref.result.now ≡ rules p cert task =
    c.deref.ensures.value ∙ c.in_ok-found.ensures in
    let same : c.in_ok-told.told.items ≡ ys = c.in_ok-told.ensures ∙ ap told found in
    let long : length c.in_ok-told.told.items ≡ length ys = ap length same in
    let few = told_few (rules p cert task) in
    let all_few = rules_few p cert c.requires task in
    let counted : c.loop-task.count + length ys ≡ length all = count_more xs ys all c.loop-task.count c.loop-task.invariant.count both in
    let added : c.add_first.new.list.items ≡ list ++ take (most - length list) ys =
    c.in_ok-add_first.ensures ∙ ap (λ (zs : List Finding). list ++ take (most - length list) zs) (c.deref-in-loop-task.ensures.value ∙ same) in
    record {
      list = list_more most xs ys all list c.add_first.new.list.items c.loop-task.invariant.list both added;
      count = omega (arith, c.len-count.ensures, long, counted);
      few = omega (arith, c.loop-task.invariant.few, c.len-count.ensures, long, few, all_few);
    }

pub returns-clause-list : goal.returns-clause-list
returns-clause-list c =
    let p = c.args.survey.now in
    let end : length c.tasks-task-end.result.now ≡ length p.tasks = ap (λ (ds : List Descriptor). length ds) (c.tasks-task-end.ensures.value ∙ ap (λ (q : Listing). q.tasks) c.program.ensures) in
    let last : c.loop-task.task ≡ length p.tasks = omega (arith, end, c.loop-task.auto.task-end, c.loop-task-test.false) in
    c.loop-task.invariant.list ∙ ap (λ n. take c.args.most (flat_map (told_of p c.args.cert.now) (range_with_len 0 n))) last

pub returns-clause-count : goal.returns-clause-count
returns-clause-count c =
    let p = c.args.survey.now in
    let end : length c.tasks-task-end.result.now ≡ length p.tasks = ap (λ (ds : List Descriptor). length ds) (c.tasks-task-end.ensures.value ∙ ap (λ (q : Listing). q.tasks) c.program.ensures) in
    let last : c.loop-task.task ≡ length p.tasks = omega (arith, end, c.loop-task.auto.task-end, c.loop-task-test.false) in
    c.loop-task.invariant.count ∙ ap (λ n. length (flat_map (told_of p c.args.cert.now) (range_with_len 0 n))) last
