use Rattle.annotator.proofs.Imports.{◌≡◌, ℕ, Option, sym, ◌∙◌, ap, lists_of, with_source}
use Rattle.annotator.proofs.Sources.{put_there}
use Rattle.annotator.proofs.leading.put.Goals as goal

pub returns-in_ok-push : goal.returns-in_ok-push
returns-in_ok-push c =
    put_there c.args.lists.now.items c.in-Some.j c.args.source c.index_mut.result.now c.push.new.self
    (c.requires c.in-Some.j c.in-Some.is) c.index_mut.ensures.value c.in_ok-push.ensures.items
    ∙ ap (λ (o : Option ℕ). with_source (lists_of c.args.lists.now.items) o c.args.source) (sym c.in-Some.is)
