-- One index more.
use Rattle.std.proofs.Common.{ℕ, ◌+◌, ◌<◌, List, length, take, sym, subst, arith}
use Rattle.std.proofs.lemmas.List.{take_all}
use Rattle.annotator.specs.Marking.{indices_of}
use Rattle.annotator.proofs.MarkLemmas.{one_index_more}
use Rattle.finding_paths.specs.Steps.{AreNoted}
use Rattle.finding_paths.proofs.NotedTasks.{noted_none, noted_more}
use Rattle.finding_paths.proofs.reaching.note_all.Goals as goal

pub loop-index-init : goal.loop-index-init
loop-index-init c = noted_none c.args.task c.args.table.now

pub loop-index-preserved : goal.loop-index-preserved
loop-index-preserved c =
    let list = c.args.list.now in
    let k = c.loop-index.index-index in
    let e = c.loop-index-item.result in
    let within : e.0 < length c.args.table.now =
    subst (λ (x : ℕ × ℕ). x.0 < length c.args.table.now) (sym c.loop-index-item.is) (c.requires k e c.loop-index-test.true) in
    noted_more (indices_of (take k list)) (indices_of (take (k + 1) list)) e.0 c.args.task c.args.table.now c.loop-index.table
    (one_index_more list k e c.loop-index-test.true c.loop-index-item.is) within c.loop-index.invariant

pub returns : goal.returns
returns c =
    subst (λ (xs : List (ℕ × ℕ)). AreNoted (indices_of xs) c.args.task c.args.table.now c.loop-index.table)
    (take_all c.loop-index.index-index c.args.list.now (omega arith)) c.loop-index.invariant
