use Rattle.annotator.proofs.Imports.{◌≡◌, ◌↔◌, ℕ, ◌+◌, ◌<◌, ◌||◌, true, false, List, length, get_or, take, refl, sym, ◌∙◌, ap, subst, arith, take_all, slice_get-get_or, has, indices_of, ProducedAt}
use Rattle.annotator.proofs.MarkLemmas.{produced_none, produced_more, one_index_more}
use Rattle.annotator.proofs.updates.produced_at.Goals as goal

nothing : false ≡ true → ⊥
nothing h = cc

pub loop-index-init : goal.loop-index-init
loop-index-init c r = (
  λ h. absurd (nothing (sym (c.empty-set.ensures.members r) ∙ h)),
  λ w. absurd (produced_none c.args.code.now r w),
)

pub loop-index-preserved : goal.loop-index-preserved
loop-index-preserved c r =
    let list = c.args.list.now in
    let k = c.loop-index.index-index in
    let e = c.loop-index-item.result in
    let m = get_or c.args.code.now e.0 c.index-code-index.result in
    let within : e.0 < length c.args.code.now =
    subst (λ (x : ℕ × ℕ). x.0 < length c.args.code.now) (sym c.loop-index-item.is) (c.requires k e c.loop-index-test.true) in
    produced_more c.args.code.now (indices_of (take k list)) (indices_of (take (k + 1) list)) e.0 c.loop-index.set c.union-set.result r m
    (one_index_more list k e c.loop-index-test.true c.loop-index-item.is)
    (slice_get-get_or c.args.code.now e.0 c.index-code-index.result within)
    (c.union-set.ensures.members r ∙ (λ j. has c.loop-index.set r || c.produces.ensures r j)) (c.loop-index.invariant r)

pub returns : goal.returns
returns c r =
    subst (λ (xs : List (ℕ × ℕ)). (has c.loop-index.set r ≡ true) ↔ ProducedAt c.args.code.now (indices_of xs) r)
    (take_all c.loop-index.index-index c.args.list.now (omega arith)) (c.loop-index.invariant r)
