-- One task more: its findings are counted, and the first of them put into what room is left.
use Rattle.std.proofs.Common.{◌≡◌, ◌+◌, ◌-◌, ◌++◌, List, length, take, ◌∙◌, ap, arith}
use Rattle.std.specs.List.{flat_map, range_with_len}
use Rattle.task_descriptor.specs.Listing.{Listing}
use Rattle.task_descriptor.specs.WellFormed.{limits}
use Rattle.task_descriptor.specs.declared.descriptor.Descriptor.{Descriptor}
use Rattle.mark_checker.specs.declared.finding.Finding.{Finding}
use Rattle.mark_checker.specs.Rules.{rules}
use Rattle.mark_checker.proofs.PlaceLists.{one_task_more}
use Rattle.finding_paths.proofs.Counting.{list_more, count_more, rules_few, all_few}
use Rattle.finding_paths.proofs.first.first_findings.Goals as goal

pub overflow_add-count : goal.overflow_add-count
overflow_add-count c =
    let p = c.args.program.now in
    let cert = c.args.cert.now in
    let task = c.loop-task.task in
    let same : c.in_ok-found.found.items ≡ rules p cert task = c.in_ok-found.ensures ∙ ap (λ (q : Listing). rules q cert task) (c.survey-survey.ensures ∙ c.in_ok-surveyed.ensures) in
    let found : length c.in_ok-found.found.items ≡ length (rules p cert task) = ap length same in
    let one = rules_few p cert c.requires task in
    let all = all_few p cert c.requires task in
    let tasks = (limits p c.tasks-task-end.ensures.well_formed).tasks in
    let end : length c.tasks-task-end.result.now ≡ length p.tasks = ap (λ (ds : List Descriptor). length ds) c.tasks-task-end.ensures.value in
    omega (arith, c.loop-task.invariant.count, c.len-count.ensures, found, one, all, tasks, end, c.loop-task-test.true)

pub loop-task-preserved : goal.loop-task-preserved
loop-task-preserved c =
    let p = c.args.program.now in
    let cert = c.args.cert.now in
    let task = c.loop-task.task in
    let most = c.args.most in
    let list = c.loop-task.list.items in
    let xs = flat_map (rules p cert) (range_with_len 0 task) in
    let ys = rules p cert task in
    let all = flat_map (rules p cert) (range_with_len 0 (task + 1)) in
    let both = one_task_more p cert task in
    let same : c.in_ok-found.found.items ≡ ys = c.in_ok-found.ensures ∙ ap (λ (q : Listing). rules q cert task) (c.survey-survey.ensures ∙ c.in_ok-surveyed.ensures) in
    let long : length c.in_ok-found.found.items ≡ length ys = ap length same in
    let counted : c.loop-task.count + length ys ≡ length all = count_more xs ys all c.loop-task.count c.loop-task.invariant.count both in
    let added : c.append_first.new.list.items ≡ list ++ take (most - length list) ys =
    c.in_ok-append_first.ensures ∙ ap (λ (zs : List Finding). list ++ take (most - length list) zs) (c.deref.ensures.value ∙ same) in
    record {
      list = list_more most xs ys all list c.append_first.new.list.items c.loop-task.invariant.list both added;
      count = omega (arith, c.len-count.ensures, long, counted);
    }

pub returns-clause-list : goal.returns-clause-list
returns-clause-list c =
    let p = c.args.program.now in
    let end : length c.tasks-task-end.result.now ≡ length p.tasks = ap (λ (ds : List Descriptor). length ds) c.tasks-task-end.ensures.value in
    let last : c.loop-task.task ≡ length p.tasks = omega (arith, end, c.loop-task.auto.task-end, c.loop-task-test.false) in
    c.loop-task.invariant.list ∙ ap (λ n. take c.args.most (flat_map (rules p c.args.cert.now) (range_with_len 0 n))) last

pub returns-clause-count : goal.returns-clause-count
returns-clause-count c =
    let p = c.args.program.now in
    let end : length c.tasks-task-end.result.now ≡ length p.tasks = ap (λ (ds : List Descriptor). length ds) c.tasks-task-end.ensures.value in
    let last : c.loop-task.task ≡ length p.tasks = omega (arith, end, c.loop-task.auto.task-end, c.loop-task-test.false) in
    c.loop-task.invariant.count ∙ ap (λ n. length (flat_map (rules p c.args.cert.now) (range_with_len 0 n))) last
