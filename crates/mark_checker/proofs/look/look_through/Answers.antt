-- One instruction more; at the end all are there.
use Rattle.std.proofs.Common.{◌≡◌, ◌<◌, ◌≤◌, Some, List, length, refl, ap, subst, arith, slice_get}
use Rattle.std.proofs.Math.ListN.{length-set}
use Rattle.std.proofs.lemmas.Option.{slice_get_read, slice_get_within}
use Rattle.task_descriptor.specs.WellFormed.{limits}
use Rattle.task_descriptor.specs.declared.descriptor.Marked.{Marked}
use Rattle.mark_checker.proofs.QuietEntries.{looks_more}
use Rattle.mark_checker.proofs.look.look_through.Goals as goal

pub loop-index-preserved : goal.loop-index-preserved
loop-index-preserved c =
    let p = c.args.program.now in
    let n = c.loop-index.index in
    let read = c.code-marked-items.result.now in
    let item = c.marked-item.result in
    let here : slice_get p.code n ≡ Some item =
    subst (λ (xs : List Marked). slice_get xs n ≡ Some item) c.code-marked-items.ensures.value (slice_get_read read (length read) n item refl c.loop-index-test.true c.marked-item.is) in
    let few : length p.code ≤ 4096 = (limits p c.code-marked-items.ensures.well_formed).code in
    let inside : n < length p.code = slice_get_within p.code n item here in
    let sized : length c.loop-index.looks ≡ 4096 = c.loop-index.invariant.sized in
    let within : n < length c.loop-index.looks = omega arith in
    record {
      sized = simp length-set sized;
      so_far = looks_more p c.loop-index.looks n item c.look_at.result within here c.look_at.ensures c.loop-index.invariant.so_far;
    }

pub returns : goal.returns
returns c i m look there at =
    let p = c.args.program.now in
    let len : length c.code-marked-items.result.now ≡ length p.code = ap (λ (xs : List Marked). length xs) c.code-marked-items.ensures.value in
    let inside : i < length p.code = slice_get_within p.code i m there in
    c.loop-index.invariant.so_far i m look (omega arith) there at
