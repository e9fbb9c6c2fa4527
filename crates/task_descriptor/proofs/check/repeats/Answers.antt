-- A key that was in its set is that of a task behind; one that was not is put before those.
use Rattle.std.specs.Prelude.{◌≡◌, ℕ, suc, ◌+◌, ◌-◌, ◌<◌, ◌==◌, nat_eq, true, false, List, ◌∷◌, length, drop}
use Rattle.std.proofs.Common.{sym, ap, ◌∙◌, arith}
use Rattle.std.specs.HashSet.{contains_by}
use Rattle.std.specs.List.{list_any}
use Rattle.std.specs.Str.{bytes_eq}
use Rattle.task_descriptor.specs.Listing.{has_duplicate}
use Rattle.task_descriptor.specs.declared.descriptor.Descriptor.{Descriptor}
use Rattle.task_descriptor.proofs.Duplicates.{not_false, not_true, number_flip, bytes_flip, set_more, from_the, same_entry, same_name, apart_still, entry_again, name_again}
use Rattle.task_descriptor.proofs.check.repeats.Goals as goal

pub returns-then-not-branch : goal.returns-then-not-branch
returns-then-not-branch c =
    let tasks = c.args.tasks.now in
    let task = c.index-tasks-tasks.result in
    let k = length tasks - 1 - c.loop-behind.behind in
    let less : k < length tasks = omega (arith, c.loop-behind-test.true) in
    let behind : length tasks - c.loop-behind.behind ≡ suc k = omega (arith, c.loop-behind-test.true) in
    let entry : c.get.result ≡ task.entry = c.get.ensures.value in
    let found : contains_by (λ e. c.get.result == e) c.loop-behind.entries ≡ true =
    not_false _ (sym c.if-not-branch.true ∙ c.in_ok-insert.ensures.added) in
    sym (entry_again tasks k task (from_the tasks k task less c.index-tasks-tasks.is)
    (ap (λ (i : ℕ). same_entry task (drop i tasks)) (sym behind)
    ∙ (ap (λ (e : ℕ). list_any (λ (t : Descriptor). e == t.entry) (drop (length tasks - c.loop-behind.behind) tasks)) (sym entry)
    ∙ (sym (c.loop-behind.invariant.entries c.get.result) ∙ found))))

pub returns-then-not-branch-2 : goal.returns-then-not-branch-2
returns-then-not-branch-2 c =
    let tasks = c.args.tasks.now in
    let task = c.index-tasks-tasks.result in
    let k = length tasks - 1 - c.loop-behind.behind in
    let less : k < length tasks = omega (arith, c.loop-behind-test.true) in
    let behind : length tasks - c.loop-behind.behind ≡ suc k = omega (arith, c.loop-behind-test.true) in
    let name : c.bytes.result.now ≡ task.name = c.bytes.ensures.bytes in
    let found : contains_by (λ n. bytes_eq c.bytes.result.now n.now) c.loop-behind.names ≡ true =
    not_false _ (sym c.if-not-branch-2.true ∙ c.in_ok-insert-2.ensures.added) in
    sym (name_again tasks k task (from_the tasks k task less c.index-tasks-tasks.is)
    (ap (λ (i : ℕ). same_name task (drop i tasks)) (sym behind)
    ∙ (ap (λ (n : List ℕ). list_any (λ (t : Descriptor). bytes_eq n t.name) (drop (length tasks - c.loop-behind.behind) tasks)) (sym name)
    ∙ (sym (c.loop-behind.invariant.names c.bytes.result.now) ∙ found))))

pub loop-behind-preserved : goal.loop-behind-preserved
loop-behind-preserved c =
    let tasks = c.args.tasks.now in
    let task = c.index-tasks-tasks.result in
    let k = length tasks - 1 - c.loop-behind.behind in
    let less : k < length tasks = omega (arith, c.loop-behind-test.true) in
    let behind : length tasks - c.loop-behind.behind ≡ suc k = omega (arith, c.loop-behind-test.true) in
    let here : length tasks - (c.loop-behind.behind + 1) ≡ k = omega arith in
    let entry : c.get.result ≡ task.entry = c.get.ensures.value in
    let name : c.bytes.result.now ≡ task.name = c.bytes.ensures.bytes in
    let cons : drop (length tasks - (c.loop-behind.behind + 1)) tasks ≡ task ∷ drop (suc k) tasks =
    ap (λ (i : ℕ). drop i tasks) here ∙ from_the tasks k task less c.index-tasks-tasks.is in
    let no_entry : same_entry task (drop (suc k) tasks) ≡ false =
    ap (λ (i : ℕ). same_entry task (drop i tasks)) (sym behind)
    ∙ (ap (λ (e : ℕ). list_any (λ (t : Descriptor). e == t.entry) (drop (length tasks - c.loop-behind.behind) tasks)) (sym entry)
    ∙ (sym (c.loop-behind.invariant.entries c.get.result) ∙ not_true _ (sym c.if-not-branch.false ∙ c.in_ok-insert.ensures.added))) in
    let no_name : same_name task (drop (suc k) tasks) ≡ false =
    ap (λ (i : ℕ). same_name task (drop i tasks)) (sym behind)
    ∙ (ap (λ (n : List ℕ). list_any (λ (t : Descriptor). bytes_eq n t.name) (drop (length tasks - c.loop-behind.behind) tasks)) (sym name)
    ∙ (sym (c.loop-behind.invariant.names c.bytes.result.now) ∙ not_true _ (sym c.if-not-branch-2.false ∙ c.in_ok-insert-2.ensures.added))) in
    record {
      entries = λ q.
          c.in_ok-insert.ensures.updates.0 q
          ∙ (set_more (nat_eq c.get.result q) (contains_by (λ e. q == e) c.loop-behind.entries) (λ t. q == t.entry) task (drop (suc k) tasks)
          (ap (λ (e : ℕ). nat_eq e q) entry ∙ number_flip task.entry q)
          (c.loop-behind.invariant.entries q ∙ ap (λ (i : ℕ). list_any (λ (t : Descriptor). q == t.entry) (drop i tasks)) behind)
          ∙ ap (list_any (λ (t : Descriptor). q == t.entry)) (sym cons));
      names = λ q.
          c.in_ok-insert-2.ensures.updates.0 (record { ref_ptr = (0, 0); now = q })
          ∙ (set_more (bytes_eq c.bytes.result.now q) (contains_by (λ n. bytes_eq q n.now) c.loop-behind.names) (λ t. bytes_eq q t.name) task (drop (suc k) tasks)
          (ap (λ (n : List ℕ). bytes_eq n q) name ∙ bytes_flip task.name q)
          (c.loop-behind.invariant.names q ∙ ap (λ (i : ℕ). list_any (λ (t : Descriptor). bytes_eq q t.name) (drop i tasks)) behind)
          ∙ ap (list_any (λ (t : Descriptor). bytes_eq q t.name)) (sym cons));
      apart =
          ap has_duplicate cons
          ∙ apart_still task (drop (suc k) tasks) no_entry no_name (ap (λ (i : ℕ). has_duplicate (drop i tasks)) (sym behind) ∙ c.loop-behind.invariant.apart);
    }
