use Rattle.std.proofs.Common.{◌≡◌, Some, None, true, sym, ◌∙◌, ap, arith, rules}
use Rattle.std.proofs.lemmas.Bool.{not-false}
use Rattle.mark_checker.specs.CheckerSteps.{begun_after}
use Rattle.mark_checker.proofs.PlaceLists.{right_step, nothing_step, nothing_passed, ends_begun}
use Rattle.mark_checker.proofs.accept.is_list_right.Goals as goal

pub returns-in_default-clause-nothing : goal.returns-in_default-clause-nothing
returns-in_default-clause-nothing c task nothing =
    let p = c.args.survey.now in
    let d = c.args.descriptor.now in
    let x = c.loop-index-item.result in
    let step : begun_after c.loop-index.begun x.0 d.entry ≡ None =
    ap (begun_after c.loop-index.begun x.0) (sym c.get-entry.ensures.value) ∙ sym c.begun_after.ensures ∙ c.in_default.is in
    absurd (nothing_passed p d c.args.masks.now c.entries-entries.result.now task c.loop-index.begun c.loop-index.index-index x
    c.loop-index-test.true c.loop-index-item.is step c.requires.inside
    (c.loop-index.invariant.nothing task nothing))

pub returns-then-not-is_right-clause-nothing : goal.returns-then-not-is_right-clause-nothing
returns-then-not-is_right-clause-nothing c task nothing =
    let p = c.args.survey.now in
    let d = c.args.descriptor.now in
    let x = c.loop-index-item.result in
    let step : begun_after c.loop-index.begun x.0 d.entry ≡ Some c.in-Some.now =
    ap (begun_after c.loop-index.begun x.0) (sym c.get-entry.ensures.value) ∙ sym c.begun_after.ensures ∙ c.in-Some.is in
    let k = nothing_step p d c.args.masks.now c.entries-entries.result.now task c.loop-index.begun c.in-Some.now c.loop-index.index-index x
    c.loop-index-test.true c.loop-index-item.is step
    (c.loop-index.invariant.nothing task nothing) in
    let right : c.is_right.result ≡ true = c.is_right.ensures.nothing task k.0 in
    let wrong = c.if-not-is_right.true in
    first_of (cc (right, wrong), grind arith)

pub loop-index-preserved : goal.loop-index-preserved
loop-index-preserved c =
    let p = c.args.survey.now in
    let d = c.args.descriptor.now in
    let es = c.args.masks.now in
    let entries = c.entries-entries.result.now in
    let x = c.loop-index-item.result in
    let step : begun_after c.loop-index.begun x.0 d.entry ≡ Some c.in-Some.now =
    ap (begun_after c.loop-index.begun x.0) (sym c.get-entry.ensures.value) ∙ sym c.begun_after.ensures ∙ c.in-Some.is in
    let said = c.if-not-is_right.false in
    let right : c.is_right.result ≡ true = first_of (cc said, search (rules, not-false), grind arith) in
    record {
      right = right_step p d es entries c.loop-index.begun c.in-Some.now c.loop-index.index-index x
          c.loop-index-test.true c.loop-index-item.is step (c.is_right.ensures.right right) c.loop-index.invariant.right;
      nothing = λ task nothing. (nothing_step p d es entries task c.loop-index.begun c.in-Some.now c.loop-index.index-index x
          c.loop-index-test.true c.loop-index-item.is step (c.loop-index.invariant.nothing task nothing)).1;
    }

pub returns-clause-nothing : goal.returns-clause-nothing
returns-clause-nothing c task nothing =
    let p = c.args.survey.now in
    let d = c.args.descriptor.now in
    ends_begun p d c.args.masks.now c.entries-entries.result.now task c.loop-index.begun c.loop-index.index-index
    (omega arith) c.requires.inside
    (c.loop-index.invariant.nothing task nothing)
