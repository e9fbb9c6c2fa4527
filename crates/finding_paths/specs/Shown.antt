-- When a path shows a finding: the marks are as the rule states, and the path leads to where they go wrong.
use Rattle.std.specs.Prelude.{◌≡◌, ℕ, Bool, true, false, not, ◌&&◌, nat_eq, nat_le, ◌+◌, List, map, take, length, slice_get, Option, Some, None, Contains}
use Rattle.std.specs.List.{list_any, All}
use Rattle.std.specs.declared.alloc.Global.{Global}
use Rattle.std.specs.declared.vec.Vec.{Vec}
use Rattle.mips_instructions.specs.Words.{has}
use Rattle.mips_instructions.specs.Instruction.{dests, released}
use Rattle.task_descriptor.specs.Listing.{Listing}
use Rattle.task_descriptor.specs.declared.descriptor.Marked.{Marked}
use Rattle.task_descriptor.specs.declared.descriptor.Descriptor.{Descriptor}
use Rattle.task_graph.specs.Edges.{ends_of, sends, is_indirect}
use Rattle.task_graph.specs.Members.{Reaches}
use Rattle.task_graph.specs.Soundness.{is_target}
use Rattle.mark_checker.specs.Rules.{stops_always, all_rules}
use Rattle.mark_checker.specs.declared.finding.Rule.{Rule}
use Rattle.mark_checker.specs.declared.finding.Rule.TheVariants.{ExceedsCreate, ForwardedInNext, ReleasedInNext, SentNotCreated, ExitNotListed, FallsOff, IndirectGoesOn}
use Rattle.mark_checker.specs.declared.finding.Finding.{Finding}
use Rattle.annotator.specs.Least.{IsLeast}
use Rattle.finding_paths.specs.Witnesses.{NoneShorter}
use Rattle.finding_paths.specs.declared.query.Query.{Query}
use Rattle.finding_paths.specs.declared.shown.ShownFinding.{ShownFinding}
use Rattle.finding_paths.specs.Queries.{query_of, IsFoundBy}

-- What the rule states about the instruction m at i of the task d, and the register; nothing about masks.
abbrev pub is_wrong : Listing → Descriptor → (i : ℕ) → Marked → Rule → Option ℕ → Bool
is_wrong p d i m ExceedsCreate (Some r) = nat_eq i d.entry && not (has d.create r)
is_wrong p d i m ForwardedInNext (Some r) = m.forward && dests m.op r
is_wrong p d i m ReleasedInNext (Some r) = released m.op r
is_wrong p d i m SentNotCreated (Some r) = sends m r && not (has d.create r)
is_wrong p d i m ExitNotListed None = list_any (λ j. not (is_target d j)) (ends_of true m i)
is_wrong p d i m FallsOff None = list_any (λ j. nat_le (length p.code) j) (ends_of false m i)
is_wrong p d i m IndirectGoesOn None = is_indirect m.op && not (stops_always m.stop)
is_wrong p d i m _ _ = false

-- The path shows the finding: an instruction that the task reaches is marked wrongly, and the path leads
-- to where it matters.
pub record Shows (p : Listing) (f : Finding) (path : List ℕ) : Type 0 where
  pub task : Descriptor
  pub is_task : slice_get p.tasks f.task ≡ Some task
  pub at : Marked
  pub is_there : slice_get p.code f.index ≡ Some at
  pub reached : Reaches p task.entry f.index
  pub wrong : is_wrong p task f.index at f.rule f.reg ≡ true
  pub query : Query
  pub is_query : query_of task.entry f ≡ Some query
  pub leads : IsFoundBy p query path

-- The path shows the finding, and no shorter path does.
pub record IsShortest (p : Listing) (f : Finding) (path : List ℕ) : Type 0 where
  pub shows : Shows p f path
  pub shortest : NoneShorter (Shows p f) path

-- The finding is one that the checker has with a least certificate.
pub record IsFinding (p : Listing) (f : Finding) : Type 0 where
  pub cert : List (List (ℕ × ℕ))
  pub least : IsLeast p cert
  pub found : Contains (all_rules p cert) f

-- a finding has a shortest path that shows it exactly where there is a path to look for
abbrev pub IsShown : Listing → Finding → Option (Vec ℕ Global) → Type 0
IsShown p f None = (d : Descriptor) → slice_get p.tasks f.task ≡ Some d → query_of d.entry f ≡ None
IsShown p f (Some path) = IsShortest p f path.items

-- The list has the first findings of a least certificate, at most `most`, each with what shows it, and
-- `more` findings follow them.
pub record AreShown (p : Listing) (most : ℕ) (list : List ShownFinding) (more : ℕ) : Type 0 where
  pub cert : List (List (ℕ × ℕ))
  pub least : IsLeast p cert
  pub findings : map (λ s. s.finding) list ≡ take most (all_rules p cert)
  pub each : All (λ s. IsShown p s.finding s.path) list
  pub counted : length list + more ≡ length (all_rules p cert)
