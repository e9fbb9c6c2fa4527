-- The checker has the finding: what its rule says is so of paths, so there is one, and the search finds it.
use Rattle.std.proofs.Common.{◌≡◌, ℕ, Some, sym, ◌∙◌, ap}
use Rattle.finding_paths.specs.Queries.{query_of}
use Rattle.finding_paths.proofs.Showing.{found_by, task_there, shown_by, start_inside, if_ok_all}
use Rattle.finding_paths.proofs.shown.path_of.Goals as goal

pub found-requires : goal.found-requires
found-requires c =
    let p = c.args.program.now in
    let f = c.args.finding.now in
    let d = c.in-Some.descriptor.now in
    let q = c.in-Some-query_of.query in
    let there = task_there p.tasks c.tasks.result.now f.task d c.tasks.ensures.value c.in-Some.ensures.lookup.3.0 c.in-Some.ensures.lookup.3.1 in
    let is : query_of d.entry f ≡ Some q = ap (λ (n : ℕ). query_of n c.args.finding.now) (sym c.get-2.ensures.value) ∙ (sym c.query_of.ensures ∙ c.in-Some-query_of.is) in
    start_inside p f d q c.tasks.ensures.well_formed (found_by p f c.requires) there is

pub returns-in-Some-query_of : goal.returns-in-Some-query_of
returns-in-Some-query_of c =
    let p = c.args.program.now in
    let f = c.args.finding.now in
    let d = c.in-Some.descriptor.now in
    let q = c.in-Some-query_of.query in
    let there = task_there p.tasks c.tasks.result.now f.task d c.tasks.ensures.value c.in-Some.ensures.lookup.3.0 c.in-Some.ensures.lookup.3.1 in
    let is : query_of d.entry f ≡ Some q = ap (λ (n : ℕ). query_of n c.args.finding.now) (sym c.get-2.ensures.value) ∙ (sym c.query_of.ensures ∙ c.in-Some-query_of.is) in
    if_ok_all c.found.result _ _ _ _ (λ answer some shortest none. shown_by p f d q answer (found_by p f c.requires) there is some shortest none)
    c.found.ensures.found c.found.ensures.shortest c.found.ensures.none
