-- One register more.
use Rattle.std.proofs.Common.{◌≡◌, ◌+◌, ◌∷◌, [], ◌++◌, ℕ, ◌↔◌, true, Bool, List, length, sym, ◌∙◌, ap, subst}
use Rattle.std.specs.declared.alloc.Global.{Global}
use Rattle.std.specs.declared.vec.Vec.{Vec}
use Rattle.std.proofs.lemmas.List.{map-append}
use Rattle.task_graph.specs.SearchSteps.{is_marked}
use Rattle.finding_paths.specs.Costly.{ComesUnsent}
use Rattle.finding_paths.specs.Steps.{AreUnsent, IsReleased, marks_of}
use Rattle.finding_paths.proofs.Tabling.{one_register_more}
use Rattle.finding_paths.proofs.table.unsent_table.Goals as goal

pub loop-number-preserved : goal.loop-number-preserved
loop-number-preserved c =
    let p = c.args.program.now in
    let n = c.loop-number.number in
    let table = c.loop-number.table.items in
    let marks = c.in_ok-marks_if_released.field-0 in
    let same : marks_of c.push.new.self.items ≡ marks_of table ++ marks.items ∷ [] =
    ap (λ (vs : List (Vec Bool Global)). marks_of vs) c.in_ok-push.ensures.items ∙ map-append (λ (v : Vec Bool Global). v.items) table (marks ∷ []) in
    subst (λ (ms : List (List Bool)). AreUnsent p (n + 1) ms) (sym same)
    (one_register_more p n (marks_of table) marks.items c.loop-number.invariant
    (subst (λ (r : ℕ). IsReleased p r → length marks.items ≡ length p.code) c.in-Some.ensures.value c.in_ok-marks_if_released.ensures.sized)
    (subst (λ (r : ℕ). (i : ℕ) → IsReleased p r → (is_marked marks.items i ≡ true) ↔ ComesUnsent p r i) c.in-Some.ensures.value c.in_ok-marks_if_released.ensures.exact))
