use Rattle.annotator.proofs.Imports.{◌≡◌, ℕ, ◌+◌, ◌<◌, Bool, List, length, get_or, take, sym, ap, subst, arith, take_all, indices_of, AreMarked}
use Rattle.annotator.proofs.MarkLemmas.{marked_none, marked_more, one_index_more}
use Rattle.annotator.proofs.marks.mark_all.Goals as goal

pub loop-index-init : goal.loop-index-init
loop-index-init c = marked_none c.args.marks.now

pub loop-index-preserved : goal.loop-index-preserved
loop-index-preserved c =
    let list = c.args.list.now in
    let k = c.loop-index.index-index in
    let e = c.loop-index-item.result in
    let within : e.0 < length c.args.marks.now =
    subst (λ (x : ℕ × ℕ). x.0 < length c.args.marks.now) (sym c.loop-index-item.is) (c.requires k e c.loop-index-test.true) in
    marked_more (indices_of (take k list)) (indices_of (take (k + 1) list)) e.0 c.args.marks.now c.loop-index.marks
    (one_index_more list k e c.loop-index-test.true c.loop-index-item.is) within c.loop-index.invariant

pub returns : goal.returns
returns c =
    subst (λ (xs : List (ℕ × ℕ)). AreMarked (indices_of xs) c.args.marks.now c.loop-index.marks)
    (take_all c.loop-index.index-index c.args.list.now (omega arith)) c.loop-index.invariant
