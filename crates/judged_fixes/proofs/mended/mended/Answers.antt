-- One edit more is made where the text is cut at its part.
use Rattle.std.proofs.Common.{ℕ, ◌+◌, List, ◌++◌, drop, ap, ◌∙◌}
use Rattle.judged_fixes.proofs.Cuts.{more_made, next_cut, none_cut, rest_cut}
use Rattle.judged_fixes.proofs.mended.mended.Goals as goal

pub returns-in_default-clause-none : goal.returns-in_default-clause-none
returns-in_default-clause-none c new h =
    let es = c.args.edits.now in
    let i = c.loop-edit.edit-index in
    let e = c.edit-item.result in
    let left = c.loop-edit.invariant.none new h in
    none_cut c.loop-edit.at c.loop-edit.rest.now (drop (i + 1) es) e c.in_default.ensures.none left.0
    (next_cut c.loop-edit.at c.loop-edit.rest.now es i e left.0 c.loop-edit-test.true c.edit-item.is left.1)

pub loop-edit-preserved : goal.loop-edit-preserved
loop-edit-preserved c =
    let es = c.args.edits.now in
    let i = c.loop-edit.edit-index in
    let e = c.edit-item.result in
    let rest = c.loop-edit.rest.now in
    let at = c.loop-edit.at in
    let before = c.in-Some.before.now in
    let behind = c.in-Some.behind.now in
    let words = c.as_bytes.result.now in
    record {
      some = more_made c.args.text.now es i e at rest c.loop-edit.made.items before behind words c.extend_from_slice-in-loop-edit.new.self.items
          c.loop-edit-test.true c.edit-item.is c.in-Some.ensures.some (c.as_bytes.ensures.value ∙ c.as_str.ensures)
          (c.in_ok-extend_from_slice-2.ensures.items ∙ ap (λ (d : List ℕ). d ++ words) c.in_ok-extend_from_slice.ensures.items) c.loop-edit.invariant.some;
      none = λ new h. (let left = c.loop-edit.invariant.none new h in
          rest_cut at rest (drop (i + 1) es) e before behind left.0 c.in-Some.ensures.some
          (next_cut at rest es i e left.0 c.loop-edit-test.true c.edit-item.is left.1));
    }
