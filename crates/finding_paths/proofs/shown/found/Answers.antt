-- What a query finds is what the search along inner edges finds, which goes on or need not.
use Rattle.std.proofs.Common.{ℕ}
use Rattle.std.specs.declared.alloc.Global.{Global}
use Rattle.std.specs.declared.vec.Vec.{Vec}
use Rattle.std.proofs.lemmas.Result.{IfOk-weaker}
use Rattle.finding_paths.specs.Witnesses.{LeadsTo, LeadsOnward, NoneShorter}
use Rattle.finding_paths.proofs.Searches.{if_some, if_none}
use Rattle.finding_paths.specs.Queries.{IsFoundBy}
use Rattle.finding_paths.proofs.Showing.{found_onward, found_from, shortest_onward, shortest_from, none_onward, none_from}
use Rattle.finding_paths.proofs.shown.found.Goals as goal

pub returns-then-query-clause-found : goal.returns-then-query-clause-found
returns-then-query-clause-found c =
    let p = c.args.program.now in
    let q = c.args.query.now in
    IfOk-weaker c.path_onward.result _ _
    (λ answer h. if_some answer (λ (path : Vec ℕ Global). LeadsOnward p q.start q.sought path.items) (λ (path : Vec ℕ Global). IsFoundBy p q path.items)
    (λ path l. found_onward p q path.items c.if-query.true l) h)
    c.path_onward.ensures.found

pub returns-then-query-clause-none : goal.returns-then-query-clause-none
returns-then-query-clause-none c =
    IfOk-weaker c.path_onward.result _ _
    (λ answer h. if_none answer _ _ (none_onward c.args.program.now c.args.query.now c.if-query.true) h) c.path_onward.ensures.none

pub returns-else-query-clause-found : goal.returns-else-query-clause-found
returns-else-query-clause-found c =
    let p = c.args.program.now in
    let q = c.args.query.now in
    IfOk-weaker c.path_to.result _ _
    (λ answer h. if_some answer (λ (path : Vec ℕ Global). LeadsTo p q.start q.sought path.items) (λ (path : Vec ℕ Global). IsFoundBy p q path.items)
    (λ path l. found_from p q path.items c.if-query.false l) h)
    c.path_to.ensures.found

pub returns-else-query-clause-none : goal.returns-else-query-clause-none
returns-else-query-clause-none c =
    IfOk-weaker c.path_to.result _ _
    (λ answer h. if_none answer _ _ (none_from c.args.program.now c.args.query.now c.if-query.false) h) c.path_to.ensures.none

pub returns-then-query-clause-shortest : goal.returns-then-query-clause-shortest
returns-then-query-clause-shortest c =
    let p = c.args.program.now in
    let q = c.args.query.now in
    IfOk-weaker c.path_onward.result _ _
    (λ answer h. if_some answer (λ (path : Vec ℕ Global). NoneShorter (LeadsOnward p q.start q.sought) path.items) (λ (path : Vec ℕ Global). NoneShorter (IsFoundBy p q) path.items)
    (λ path l. shortest_onward p q path.items c.if-query.true l) h)
    c.path_onward.ensures.shortest

pub returns-else-query-clause-shortest : goal.returns-else-query-clause-shortest
returns-else-query-clause-shortest c =
    let p = c.args.program.now in
    let q = c.args.query.now in
    IfOk-weaker c.path_to.result _ _
    (λ answer h. if_some answer (λ (path : Vec ℕ Global). NoneShorter (LeadsTo p q.start q.sought) path.items) (λ (path : Vec ℕ Global). NoneShorter (IsFoundBy p q) path.items)
    (λ path l. shortest_from p q path.items c.if-query.false l) h)
    c.path_to.ensures.shortest
