use Rattle.demonstration.proofs.Imports.{refl, sym, subst, ap, ◌∙◌, false≢true, slice_get, IsTrue, Op, Marked, is_indirect, item_there}
use Rattle.std.proofs.Common.{◌≡◌, Bool, Some, not}
use Rattle.demonstration.proofs.Judging.{fetch_found, index_within, no_fetch, not_so}
use Rattle.demonstration.proofs.judge.names_its_place.Goals as goal

pub returns-in-Some : goal.returns-in-Some
returns-in-Some c =
    let p = c.args.program.now in
    let pc = c.args.pc in
    let i = c.in-Some.index in
    let m = c.index-code-index.result in
    let there : slice_get p.code i ≡ Some m = item_there p.code c.code.result.now i m c.code.ensures.value (index_within p pc i c.in-Some.ensures) c.index-code-index.is in
    let fetched = fetch_found p pc i m c.in-Some.ensures there in
    let tested : is_indirect m.op ≡ c.is_indirect.result = ap (λ (x : Marked). is_indirect x.op) c.index-code-index.is ∙ sym c.is_indirect.ensures in (
      λ so. record { op = m.op; is_there = fetched; is_direct = tested ∙ not_so c.is_indirect.result so },
      λ names.
          let op : names.op ≡ m.op = (let both = sym names.is_there ∙ fetched in cc) in
          subst (λ (b : Bool). IsTrue (not b)) (sym names.is_direct ∙ ap (λ (o : Op). is_indirect o) op ∙ tested) refl,
    )

pub returns-in-None : goal.returns-in-None
returns-in-None c = (λ so. absurd (false≢true so), λ names. (let clash = sym names.is_there ∙ no_fetch c.args.program.now c.args.pc c.in-None.ensures in cc))
