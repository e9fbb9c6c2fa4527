-- The list is that of the task, and the entry is an instruction.
use Rattle.std.proofs.Common.{◌≡◌, ℕ, List, sym, ◌∙◌, ap, subst}
use Rattle.std.specs.List.{flat_map}
use Rattle.task_graph.proofs.WellFormed.{entry_inside}
use Rattle.mask_certificate.specs.Lists.{list_of}
use Rattle.mark_checker.specs.Rules.{rules_at, places}
use Rattle.mark_checker.specs.Places.{AllRight}
use Rattle.mark_checker.proofs.PlaceLists.{rules_there}
use Rattle.mark_checker.proofs.accept.is_task_right.Goals as goal

pub is_list_right-requires : goal.is_list_right-requires
is_list_right-requires c = record { inside = entry_inside c.args.survey.now c.args.task c.args.descriptor.now c.requires.well_formed c.requires.there }

pub returns-clause-right : goal.returns-clause-right
returns-clause-right c right =
    let same : c.new.result ≡ list_of c.args.cert.now c.args.task = c.new.ensures ∙ c.list.ensures.entries in
    subst (λ (es : List (ℕ × ℕ)). AllRight c.args.survey.now c.args.descriptor.now es (places c.args.descriptor.now.entry es)) same (c.is_list_right.ensures.right right)

pub returns-clause-nothing : goal.returns-clause-nothing
returns-clause-nothing c nothing =
    let p = c.args.survey.now in
    let d = c.args.descriptor.now in
    let same : c.new.result ≡ list_of c.args.cert.now c.args.task = c.new.ensures ∙ c.list.ensures.entries in
    c.is_list_right.ensures.nothing c.args.task
    (ap (λ (es : List (ℕ × ℕ)). flat_map (rules_at p d es c.args.task) (places d.entry es)) same ∙ sym (rules_there p c.args.cert.now c.args.task d c.requires.there) ∙ nothing)
