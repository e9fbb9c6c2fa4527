-- The sets have the entries and the names of the tasks behind, and no two of these collide.
use Rattle.std.specs.Prelude.{◌≡◌, ◌-◌, ◌==◌, ℕ, false, length, drop}
use Rattle.std.proofs.Common.{List}
use Rattle.std.specs.List.{list_any}
use Rattle.std.specs.Str.{bytes_eq}
use Rattle.std.specs.HashSet.{contains_by}
use Rattle.task_descriptor.specs.Listing.{has_duplicate as has_duplicate_of}
use Rattle.task_descriptor.proofs.check.repeats.Given as goal

abbrev pub invariant-loop-behind : goal.invariant-loop-behind
invariant-loop-behind l = record {
  entries : (q : ℕ) → contains_by (λ e. q == e) l.entries ≡ list_any (λ t. q == t.entry) (drop (length l.tasks - l.behind) l.tasks);
  names : (q : List ℕ) → contains_by (λ n. bytes_eq q n.now) l.names ≡ list_any (λ t. bytes_eq q t.name) (drop (length l.tasks - l.behind) l.tasks);
  apart : has_duplicate_of (drop (length l.tasks - l.behind) l.tasks) ≡ false;
}
