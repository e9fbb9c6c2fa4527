-- A path that shows a finding is a counterexample: the marks are not sound.
use Rattle.std.proofs.Common.{◌≡◌, ℕ, List, Bool, true, false, not, ◌&&◌, nat_eq, nat_le, Option, Some, None, length, slice_get, refl, sym, ap, subst, arith}
use Rattle.std.proofs.lemmas.Bool.{and_parts, or_left, or_right, leb-true}
use Rattle.mips_instructions.specs.Words.{has}
use Rattle.mips_instructions.specs.Instruction.{dests, released}
use Rattle.task_descriptor.specs.Listing.{Listing}
use Rattle.task_descriptor.specs.declared.descriptor.Marked.{Marked}
use Rattle.task_descriptor.specs.declared.descriptor.Descriptor.{Descriptor}
use Rattle.task_graph.specs.Edges.{Edge, Path, stay, onward, MayWrite, sends, is_indirect}
use Rattle.task_graph.specs.Soundness.{is_target, SoundTask, Sound}
use Rattle.mark_checker.specs.declared.finding.Rule.{Rule}
use Rattle.mark_checker.specs.declared.finding.Rule.TheVariants.{ExceedsCreate, ForwardedInNext, ReleasedInNext, SentNotCreated, ExitNotListed, FallsOff, IndirectGoesOn}
use Rattle.mark_checker.specs.declared.finding.Finding.{Finding}
use Rattle.mark_checker.specs.Rules.{stops_always}
use Rattle.annotator.proofs.Decides.{some_edge}
use Rattle.finding_paths.specs.declared.sought.Sought.TheVariants.{Writes}
use Rattle.finding_paths.specs.Witnesses.{is_sought, is_sought_at, LeadsTo, LeadsOnward}
use Rattle.finding_paths.specs.declared.query.Query.{Query}
use Rattle.finding_paths.specs.Queries.{query_by, IsFoundBy}
use Rattle.finding_paths.specs.Shown.{is_wrong, Shows}

untrue : (b : Bool) → b ≡ true → not b ≡ true → ⊥
untrue true h k = cc
untrue false h k = cc

-- an instruction that is sought since it writes the register
record Writer (o : Option Marked) (r : ℕ) : Type 0 where
  at : Marked
  is_there : o ≡ Some at
  writes : dests at.op r ≡ true

writer : (o : Option Marked) (i r : ℕ) → is_sought_at o (Writes r) i ≡ true → Writer o r
writer None i r h = absurd (cc)
writer (Some m) i r h = record { at = m; is_there = refl; writes = h }

may_write : (p : Listing) (i k r : ℕ) → Path p i k → is_sought p (Writes r) k ≡ true → MayWrite p i r
may_write p i k r path h =
    let w = writer (slice_get p.code k) k r h in record { place = k; comes = path; at = w.at; is_there = w.is_there; writes = w.writes }

-- the first edge of a path, and what is after it
record Split (p : Listing) (i k : ℕ) : Type 0 where
  next : ℕ
  edge : Edge p false i next
  behind : Path p next k

split : (p : Listing) (i j k : ℕ) → Path p i j → Edge p false j k → Split p i k
split p i j k stay e = record { next = k; edge = e; behind = stay }
split p i j k (onward {j = h} path last) e = let s = split p i h j path last in record { next = s.next; edge = s.edge; behind = onward s.behind e }

found_only : (p : Listing) (q r : Query) (path : List ℕ) → (let o : Option Query = Some q in o ≡ Some r) → IsFoundBy p r path → IsFoundBy p q path
found_only p q r path same h = let e : q ≡ r = cc in subst (λ (x : Query). IsFoundBy p x path) (sym e) h

module _ (p : Listing) (d : Descriptor) (i : ℕ) (m : Marked) (there : slice_get p.code i ≡ Some m) (comes : Path p d.entry i) (sound : SoundTask p d) (path : List ℕ) where
  -- it sends a register that is written again
  again : (r : ℕ) → sends m r ≡ true → LeadsOnward p i (Writes r) path → ⊥
  again r sent l =
      let s = split p i l.onward.before l.to l.onward.path l.onward.edge in
      sound.sends_last i m comes there r sent s.next s.edge (may_write p s.next l.to r s.behind l.is_it)

  refuted : (rule : Rule) (reg : Option ℕ) (q : Query) → is_wrong p d i m rule reg ≡ true → query_by rule reg d.entry i ≡ Some q → IsFoundBy p q path → ⊥
  refuted ExceedsCreate (Some r) q h same found =
      let l : LeadsTo p d.entry (Writes r) path = found_only p (record { start = d.entry; onward = false; sought = Writes r }) q path same found in
      untrue (has d.create r) (sound.writes_created r (may_write p d.entry l.to r l.path l.is_it)) (and_parts (nat_eq i d.entry) (not (has d.create r)) h).1
  refuted ForwardedInNext (Some r) q h same found =
      again r (or_left (m.forward && dests m.op r) (released m.op r) h) (found_only p (record { start = i; onward = true; sought = Writes r }) q path same found)
  refuted ReleasedInNext (Some r) q h same found =
      again r (or_right (m.forward && dests m.op r) (released m.op r) h) (found_only p (record { start = i; onward = true; sought = Writes r }) q path same found)
  refuted SentNotCreated (Some r) q h same found =
      let sent = and_parts (sends m r) (not (has d.create r)) h in
      untrue (has d.create r) (sound.sends_created i m comes there r sent.0) sent.1
  refuted ExitNotListed None q h same found =
      let e = some_edge p true i m (λ j. not (is_target d j)) there h in
      untrue (is_target d e.to) (sound.exits_listed i e.to comes e.edge) e.holds
  refuted FallsOff None q h same found =
      let e = some_edge p false i m (λ j. nat_le (length p.code) j) there h in
      let beyond = leb-true (length p.code) e.to e.holds in
      let inside = sound.stays_inside i e.to comes e.edge in
      absurd (omega (arith, beyond, inside))
  refuted IndirectGoesOn None q h same found =
      let k = and_parts (is_indirect m.op) (not (stops_always m.stop)) h in
      untrue (stops_always m.stop) (ap stops_always (sound.indirect_stops i m comes there k.0)) k.1
  refuted rule reg q h same found = absurd (cc)

pub refutes : (p : Listing) (f : Finding) (path : List ℕ) → Shows p f path → Sound p → ⊥
refutes p f path s sound =
    refuted p s.task f.index s.at s.is_there s.reached.path (sound f.task s.task s.is_task) path f.rule f.reg s.query s.wrong s.is_query s.leads
