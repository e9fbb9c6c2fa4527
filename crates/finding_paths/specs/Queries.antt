-- Which path shows a finding, rule by rule: where it begins, and what it reaches.
use Rattle.std.specs.Prelude.{◌≡◌, ℕ, Bool, true, false, List, Option, Some, None}
use Rattle.task_descriptor.specs.Listing.{Listing}
use Rattle.task_graph.specs.Edges.{Path}
use Rattle.mark_checker.specs.declared.finding.Rule.{Rule}
use Rattle.mark_checker.specs.declared.finding.Rule.TheVariants.{ExceedsCreate, ForwardedInNext, ReleasedInNext, SentNotCreated, ExitNotListed, FallsOff, IndirectGoesOn}
use Rattle.mark_checker.specs.declared.finding.Finding.{Finding}
use Rattle.finding_paths.specs.declared.sought.Sought.{Sought}
use Rattle.finding_paths.specs.declared.sought.Sought.TheVariants.{At, Writes}
use Rattle.finding_paths.specs.Witnesses.{is_sought, Onward, LeadsTo, LeadsOnward}
use Rattle.finding_paths.specs.declared.query.Query.{Query}

-- from a start to an instruction that writes the register
abbrev pub to_writer : Option ℕ → (start : ℕ) → (onward : Bool) → Option Query
to_writer None start onward = None
to_writer (Some r) start onward = Some (record { start = start; onward = onward; sought = Writes r })

-- from a start to the instruction itself
abbrev pub to_index : (start index : ℕ) → Option Query
to_index start index = Some (record { start = start; onward = false; sought = At index })

-- By rule: a register that the entry's mask has is written on a path from the entry; one that is sent too
-- early is written again on a path from there; a wrong mark or an exit is reached from the entry.
-- The other rules concern masks or targets alone.
abbrev pub query_by : Rule → Option ℕ → (entry index : ℕ) → Option Query
query_by ExceedsCreate reg entry index = to_writer reg entry false
query_by ForwardedInNext reg entry index = to_writer reg index true
query_by ReleasedInNext reg entry index = to_writer reg index true
query_by SentNotCreated reg entry index = to_index entry index
query_by ExitNotListed reg entry index = to_index entry index
query_by FallsOff reg entry index = to_index entry index
query_by IndirectGoesOn reg entry index = to_index entry index
query_by _ reg entry index = None

abbrev pub query_of : (entry : ℕ) → Finding → Option Query
query_of entry f = query_by f.rule f.reg entry f.index

-- The list is what is looked for: the indices of a path, of at least one edge where it is to lead onward.
abbrev pub leads : (onward : Bool) → Listing → (start : ℕ) → Sought → List ℕ → Type 0
leads true p start sought path = LeadsOnward p start sought path
leads false p start sought path = LeadsTo p start sought path

abbrev pub IsFoundBy : Listing → Query → List ℕ → Type 0
IsFoundBy p query path = leads query.onward p query.start query.sought path

-- Some path reaches what is sought.
pub record Comes (p : Listing) (start : ℕ) (sought : Sought) : Type 0 where
  pub to : ℕ
  pub path : Path p start to
  pub is_it : is_sought p sought to ≡ true

pub record ComesOnward (p : Listing) (start : ℕ) (sought : Sought) : Type 0 where
  pub to : ℕ
  pub path : Onward p start to
  pub is_it : is_sought p sought to ≡ true

abbrev pub comes : (onward : Bool) → Listing → (start : ℕ) → Sought → Type 0
comes true p start sought = ComesOnward p start sought
comes false p start sought = Comes p start sought

abbrev pub CanBeFound : Listing → Query → Type 0
CanBeFound p query = comes query.onward p query.start query.sought
