use Rattle.annotator.proofs.Imports.{◌≡◌, ℕ, Bool, List, length, sym, ◌∙◌, ap, subst, Listing, IsWellFormed, IsLeast, IsProposed, AreForwards, AreCreates, with_marks}
use Rattle.annotator.proofs.Remarked.{marks_pass, proposed, least_stays}
use Rattle.annotator.proofs.propose.propose.Goals as goal

pub marked-requires-clause-passes : goal.marked-requires-clause-passes
marked-requires-clause-passes c =
    let p = c.args.program in
    marks_pass p c.deref.result.now c.deref-in-Ok.result.now c.in-Ok.ensures.well_formed
    (subst (λ (bits : List Bool). AreForwards p (length p.code) bits) (sym c.deref.ensures.value) c.in-Ok.ensures.forwards)
    (subst (λ (sets : List ℕ). AreCreates p (length p.tasks) sets) (sym c.deref-in-Ok.ensures.value) c.in-Ok.ensures.creates)

pub returns-in-Ok : goal.returns-in-Ok
returns-in-Ok c =
    let p = c.args.program in
    let forwards : AreForwards p (length p.code) c.deref.result.now = subst (λ (bits : List Bool). AreForwards p (length p.code) bits) (sym c.deref.ensures.value) c.in-Ok.ensures.forwards in
    let creates : AreCreates p (length p.tasks) c.deref-in-Ok.result.now = subst (λ (sets : List ℕ). AreCreates p (length p.tasks) sets) (sym c.deref-in-Ok.ensures.value) c.in-Ok.ensures.creates in (
      subst (λ (q : Listing). IsProposed p q) (sym c.marked.ensures) (proposed p c.deref.result.now c.deref-in-Ok.result.now forwards creates),
      subst (λ (q : Listing). IsLeast q c.in-Ok.found.cert) (sym c.marked.ensures) (least_stays p c.deref.result.now c.deref-in-Ok.result.now c.in-Ok.found.cert forwards creates c.in-Ok.ensures.cert),
    )
