use Rattle.std.proofs.Common.{◌≡◌, ℕ, true, List, [], ◌∷◌, ◌++◌, sym, ◌∙◌, ap}
use Rattle.std.specs.declared.alloc.Global.{Global}
use Rattle.std.specs.declared.vec.Vec.{Vec}
use Rattle.std.proofs.lemmas.Result.{IfOk-weaker}
use Rattle.task_graph.specs.Edges.{Path}
use Rattle.finding_paths.specs.Witnesses.{is_sought, Onward, LeadsTo, LeadsOnward, NoneShorter}
use Rattle.finding_paths.proofs.Searches.{at_start, leads_on, none_at_all, if_some, if_none}
use Rattle.finding_paths.proofs.Nearest.{start_shortest, goes_on_shortest}
use Rattle.finding_paths.proofs.paths.path_to.Goals as goal

pub returns-then-is_it-clause-found : goal.returns-then-is_it-clause-found
returns-then-is_it-clause-found c =
    at_start c.args.program.now c.args.start c.args.sought.now c.push.new.self.items
    (c.in_ok-push.ensures.items ∙ ap (λ (xs : List ℕ). xs ++ c.args.start ∷ []) c.new-path.ensures.items)
    (sym c.is_it.ensures ∙ c.if-is_it.true)

pub returns-then-is_it-clause-shortest : goal.returns-then-is_it-clause-shortest
returns-then-is_it-clause-shortest c =
    start_shortest c.args.program.now c.args.start c.args.sought.now c.push.new.self.items
    (c.in_ok-push.ensures.items ∙ ap (λ (xs : List ℕ). xs ++ c.args.start ∷ []) c.new-path.ensures.items)

pub returns-clause-found : goal.returns-clause-found
returns-clause-found c =
    IfOk-weaker c.path_onward.result _ _
    (λ answer h. if_some answer
    (λ (path : Vec ℕ Global). LeadsOnward c.args.program.now c.args.start c.args.sought.now path.items)
    (λ (path : Vec ℕ Global). LeadsTo c.args.program.now c.args.start c.args.sought.now path.items)
    (λ path l. leads_on c.args.program.now c.args.start c.args.sought.now path.items l) h)
    c.path_onward.ensures.found

pub returns-clause-none : goal.returns-clause-none
returns-clause-none c =
    IfOk-weaker c.path_onward.result _ _
    (λ answer h. if_none answer
    ((k : ℕ) → Onward c.args.program.now c.args.start k → is_sought c.args.program.now c.args.sought.now k ≡ true → ⊥)
    ((k : ℕ) → Path c.args.program.now c.args.start k → is_sought c.args.program.now c.args.sought.now k ≡ true → ⊥)
    (none_at_all c.args.program.now c.args.start c.args.sought.now (sym c.is_it.ensures ∙ c.if-is_it.false)) h)
    c.path_onward.ensures.none

pub returns-clause-shortest : goal.returns-clause-shortest
returns-clause-shortest c =
    let p = c.args.program.now in
    let sought = c.args.sought.now in
    IfOk-weaker c.path_onward.result _ _
    (λ answer h. if_some answer
    (λ (path : Vec ℕ Global). NoneShorter (LeadsOnward p c.args.start sought) path.items)
    (λ (path : Vec ℕ Global). NoneShorter (LeadsTo p c.args.start sought) path.items)
    (λ path l. goes_on_shortest p c.args.start sought path.items (sym c.is_it.ensures ∙ c.if-is_it.false) l) h)
    c.path_onward.ensures.shortest
