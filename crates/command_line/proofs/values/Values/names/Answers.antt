-- The values of an id are those of its row.
use Rattle.std.proofs.Common.{◌≡◌, ◌∙◌, ap, subst, List, [], map, rules}
use Rattle.std.specs.Prelude.{Option, unwrap_or}
use Rattle.std.specs.String.{string_bytes}
use Rattle.std.proofs.lemmas.Result.{IfOk-weaker}
use Rattle.clap.specs.Words.{Text, found_of}
use Rattle.clap.proofs.WalkLemmas.{raw_values-rows}
use Rattle.command_line.specs.Asked.{values_at, values_in}
use Rattle.command_line.proofs.values.Values.names.Goals as goal

pub returns-in-Some : goal.returns-in-Some
returns-in-Some c =
    let are : map (λ t. t.now) c.in-Some.texts.now ≡ values_at c.args.id.now (values_in c.args.self.now.matches.now) =
    ap (λ (o : Option (List Text)). unwrap_or o []) (c.in-Some.ensures ∙ raw_values-rows (found_of c.args.self.now.matches.now) c.args.id.now) in
    IfOk-weaker c.names_of.result _ _ (λ names read. read ∙ are) c.names_of.ensures

pub returns-in-None : goal.returns-in-None
returns-in-None c =
    let none : [] ≡ values_at c.args.id.now (values_in c.args.self.now.matches.now) =
    ap (λ (o : Option (List Text)). unwrap_or o []) (c.in-None.ensures ∙ raw_values-rows (found_of c.args.self.now.matches.now) c.args.id.now) in
    subst (λ (l : List Text). map string_bytes c.new.result.items ≡ l) none (search rules)
