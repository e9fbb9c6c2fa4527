-- The lists of a certificate have no fault, so each rises.
use Rattle.std.proofs.Common.{◌≡◌, ◌∙◌, sym, ap, subst, arith}
use Rattle.std.proofs.lemmas.Grind.{common_steps}
use Rattle.mask_certificate.specs.Lists.{list_of, entries_of, Rises}
use Rattle.mask_certificate.proofs.Rising.{list_rises}
use Rattle.mask_certificate.proofs.certificate.Cert.list.Goals as goal

pub returns-in-Some-clause-rises : goal.returns-in-Some-clause-rises
returns-in-Some-clause-rises c =
    let of_list : Rises (list_of (entries_of c.self.inside.lists.items) c.args.task) = list_rises (entries_of c.self.inside.lists.items) c.args.task 0 c.self.invariant.0.rising in
    let same : c.deref-in-Some.result.now ≡ list_of c.args.self.now c.args.task = grind (arith, common_steps) in
    subst Rises (ap (λ lists. list_of lists c.args.task) c.self.view_is ∙ sym same) of_list
