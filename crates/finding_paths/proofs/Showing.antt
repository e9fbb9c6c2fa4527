-- A finding of a least certificate is shown by a path: what its condition says of masks is so of paths.
use Rattle.std.proofs.Common.{◌≡◌, ◌↔◌, ℕ, ◌+◌, ◌<◌, List, [], ◌∷◌, Bool, true, false, not, ◌&&◌, nat_eq, Option, Some, None, Result, Ok, Err, IfOk, IfSome, IfNone, length, get_or, slice_get, refl, sym, ◌∙◌, ap, subst, arith}
use Rattle.std.specs.Prelude.{is_some}
use Rattle.std.proofs.lemmas.Bool.{and_parts, eqb-true, eq-eqb}
use Rattle.std.proofs.lemmas.Option.{slice_get_within, slice_get_read}
use Rattle.mips_instructions.specs.Words.{has}
use Rattle.mips_instructions.specs.Instruction.{dests, released}
use Rattle.std.specs.declared.alloc.Global.{Global}
use Rattle.std.specs.declared.vec.Vec.{Vec}
use Rattle.task_descriptor.specs.Listing.{Listing, IsWellFormed}
use Rattle.task_descriptor.specs.declared.descriptor.Marked.{Marked}
use Rattle.task_descriptor.specs.declared.descriptor.Descriptor.{Descriptor}
use Rattle.task_graph.specs.Edges.{Edge, Path, stay, onward, MayWrite}
use Rattle.task_graph.specs.Members.{Reaches}
use Rattle.task_graph.specs.Soundness.{Sound}
use Rattle.task_graph.proofs.WellFormed.{entry_inside}
use Rattle.mask_certificate.specs.Lists.{mask_at, list_of}
use Rattle.mark_checker.specs.declared.finding.Rule.{Rule}
use Rattle.mark_checker.specs.declared.finding.Rule.TheVariants.{ExceedsCreate, ForwardedInNext, ReleasedInNext, SentNotCreated, ExitNotListed, FallsOff, IndirectGoesOn}
use Rattle.mark_checker.specs.declared.finding.Finding.{Finding}
use Rattle.mark_checker.specs.Rules.{conditions, in_mask, next_has, all_rules}
use Rattle.annotator.specs.Least.{LeastList, IsLeast}
use Rattle.annotator.proofs.Decides.{next_writes, least_accepted}
use Rattle.annotator.proofs.Spread.{path_before}
use Rattle.finding_paths.specs.declared.sought.Sought.TheVariants.{At, Writes}
use Rattle.finding_paths.specs.Witnesses.{is_sought, is_sought_at, Onward, LeadsTo, LeadsOnward, NoneShorter}
use Rattle.finding_paths.specs.declared.query.Query.{Query}
use Rattle.finding_paths.specs.declared.shown.ShownFinding.{ShownFinding}
use Rattle.finding_paths.specs.Queries.{to_writer, to_index, query_by, query_of, leads, IsFoundBy, Comes, ComesOnward, comes, CanBeFound}
use Rattle.finding_paths.specs.Shown.{is_wrong, Shows, IsFinding, IsShown}
use Rattle.finding_paths.proofs.Standing.{holds, Listed, stands}

writer_sought : (p : Listing) (i r : ℕ) (w : MayWrite p i r) → is_sought p (Writes r) w.place ≡ true
writer_sought p i r w = ap (λ (o : Option Marked). is_sought_at o (Writes r) w.place) w.is_there ∙ w.writes

index_sought : (p : Listing) (i : ℕ) (m : Marked) → slice_get p.code i ≡ Some m → is_sought p (At i) i ≡ true
index_sought p i m there = ap (λ (o : Option Marked). is_sought_at o (At i) i) there ∙ eq-eqb i i refl

both : (a b : Bool) → a ≡ true → b ≡ true → a && b ≡ true
both a b e f = ap (λ (x : Bool). x && b) e ∙ f

-- an edge and the path after it are a path of one edge at least
edge_first : (p : Listing) (i j k : ℕ) → Edge p false i j → Path p j k → Onward p i k
edge_first p i j k e stay = record { before = i; path = stay; edge = e }
edge_first p i j k e (onward {j = h} path last) = record { before = h; path = path_before p i j h e path; edge = last }

-- what the rule says, with nothing of masks
record Says (p : Listing) (d : Descriptor) (i : ℕ) (m : Marked) (rule : Rule) (reg : Option ℕ) : Type 0 where
  wrong : is_some (query_by rule reg d.entry i) ≡ true → is_wrong p d i m rule reg ≡ true
  there_is : (q : Query) → query_by rule reg d.entry i ≡ Some q → CanBeFound p q

in_listed : (entry : ℕ) (es : List (ℕ × ℕ)) (i : ℕ) (mask : Option ℕ) (r : ℕ) → Listed entry es i mask → in_mask mask r ≡ true
    → (k : ℕ) × (mask_at es i ≡ Some k) × (has k r ≡ true)
in_listed entry es i None r l h = absurd (cc)
in_listed entry es i (Some k) r l h = (k, l, h)

only : (p : Listing) (q r : Query) → (let o : Option Query = Some q in o ≡ Some r) → CanBeFound p q → CanBeFound p r
only p q r same h = let e : q ≡ r = cc in subst (CanBeFound p) e h

module _ (p : Listing) (d : Descriptor) (es : List (ℕ × ℕ)) (least : LeastList p d es) (i : ℕ) (m : Marked) (there : slice_get p.code i ≡ Some m)
    (reached : Reaches p d.entry i) (mask : Option ℕ) (listed : Listed d.entry es i mask) where
  to_it : (q : Query) → to_index d.entry i ≡ Some q → CanBeFound p q
  to_it q same = only p (record { start = d.entry; onward = false; sought = At i }) q same
      (record { to = i; path = reached.path; is_it = index_sought p i m there })

  -- it is written again
  again : (r : ℕ) (q : Query) → next_has p es m i r ≡ true
      → (let o : Option Query = Some (record { start = i; onward = true; sought = Writes r }) in o ≡ Some q) → CanBeFound p q
  again r q h same =
      let n = next_writes p d es least i r m there h in
      only p (record { start = i; onward = true; sought = Writes r }) q same
      (record { to = n.2.place; path = edge_first p i n.0 n.2.place n.1 n.2.comes; is_it = writer_sought p n.0 r n.2 })

  says : (rule : Rule) (reg : Option ℕ) → holds (conditions p d es i m mask) rule reg ≡ true → Says p d i m rule reg
  says ExceedsCreate (Some r) h =
      let begins = and_parts (nat_eq i d.entry) (in_mask mask r && not (has d.create r)) h in
      let wide = and_parts (in_mask mask r) (not (has d.create r)) begins.1 in
      let k = in_listed d.entry es i mask r listed wide.0 in
      let w : MayWrite p d.entry r = subst (λ (n : ℕ). MayWrite p n r) (eqb-true i d.entry begins.0) ((least.exact i k.0 r k.1).0 k.2) in
      record {
        wrong = λ _. both (nat_eq i d.entry) (not (has d.create r)) begins.0 wide.1;
        there_is = λ q same. only p (record { start = d.entry; onward = false; sought = Writes r }) q same
            (record { to = w.place; path = w.comes; is_it = writer_sought p d.entry r w });
      }
  says ForwardedInNext (Some r) h =
      let sent = and_parts (m.forward && dests m.op r) (next_has p es m i r) (and_parts (is_some mask) _ h).1 in
      record { wrong = λ _. sent.0; there_is = λ q same. again r q sent.1 same }
  says ReleasedInNext (Some r) h =
      let sent = and_parts (released m.op r) (next_has p es m i r) (and_parts (is_some mask) _ h).1 in
      record { wrong = λ _. sent.0; there_is = λ q same. again r q sent.1 same }
  says SentNotCreated (Some r) h = record { wrong = λ _. (and_parts (is_some mask) _ h).1; there_is = to_it }
  says SentNotCreated None h = absurd (cc)
  says ExitNotListed None h = record { wrong = λ _. (and_parts (is_some mask) _ h).1; there_is = to_it }
  says ExitNotListed (Some r) h = absurd (cc)
  says FallsOff None h = record { wrong = λ _. (and_parts (is_some mask) _ h).1; there_is = to_it }
  says FallsOff (Some r) h = absurd (cc)
  says IndirectGoesOn None h = record { wrong = λ _. (and_parts (is_some mask) _ h).1; there_is = to_it }
  says IndirectGoesOn (Some r) h = absurd (cc)
  says rule reg h = record { wrong = λ e. absurd (cc); there_is = λ q e. absurd (cc) }

-- a finding of a least certificate, in terms of paths
pub record Found (p : Listing) (f : Finding) : Type 0 where
  pub task : Descriptor
  pub is_task : slice_get p.tasks f.task ≡ Some task
  pub at : Marked
  pub is_there : slice_get p.code f.index ≡ Some at
  pub reached : Reaches p task.entry f.index
  pub wrong : is_some (query_of task.entry f) ≡ true → is_wrong p task f.index at f.rule f.reg ≡ true
  pub there_is : (q : Query) → query_of task.entry f ≡ Some q → CanBeFound p q

is_reached : (p : Listing) (d : Descriptor) (es : List (ℕ × ℕ)) (i : ℕ) (mask : Option ℕ) → LeastList p d es → i < length p.code → Listed d.entry es i mask → Reaches p d.entry i
is_reached p d es i None least inside same = subst (λ (n : ℕ). Reaches p n i) same (record { path = stay; within = inside })
is_reached p d es i (Some mask) least inside there = (least.reached i).0 (ap (λ (o : Option ℕ). is_some o) there)

pub found_by : (p : Listing) (f : Finding) → IsFinding p f → Found p f
found_by p f is =
    let s = stands p is.cert f (λ t d there. (is.least.least t d there).rises) is.found in
    let list = is.least.least f.task s.task s.is_task in
    let es = list_of is.cert f.task in
    let reached = is_reached p s.task es f.index s.mask list (slice_get_within p.code f.index s.at s.is_there) s.listed in
    let said = says p s.task es list f.index s.at s.is_there reached s.mask s.listed f.rule f.reg s.holding in
    record { task = s.task; is_task = s.is_task; at = s.at; is_there = s.is_there; reached = reached; wrong = said.wrong; there_is = said.there_is }

-- Both ways of a search.

pub found_onward : (p : Listing) (q : Query) (path : List ℕ) → q.onward ≡ true → LeadsOnward p q.start q.sought path → IsFoundBy p q path
found_onward p q path e h = subst (λ (b : Bool). leads b p q.start q.sought path) (sym e) h

pub found_from : (p : Listing) (q : Query) (path : List ℕ) → q.onward ≡ false → LeadsTo p q.start q.sought path → IsFoundBy p q path
found_from p q path e h = subst (λ (b : Bool). leads b p q.start q.sought path) (sym e) h

pub shortest_onward : (p : Listing) (q : Query) (path : List ℕ) → q.onward ≡ true → NoneShorter (LeadsOnward p q.start q.sought) path → NoneShorter (IsFoundBy p q) path
shortest_onward p q path e h = subst (λ (b : Bool). NoneShorter (leads b p q.start q.sought) path) (sym e) h

pub shortest_from : (p : Listing) (q : Query) (path : List ℕ) → q.onward ≡ false → NoneShorter (LeadsTo p q.start q.sought) path → NoneShorter (IsFoundBy p q) path
shortest_from p q path e h = subst (λ (b : Bool). NoneShorter (leads b p q.start q.sought) path) (sym e) h

pub none_onward : (p : Listing) (q : Query) → q.onward ≡ true → ((k : ℕ) → Onward p q.start k → is_sought p q.sought k ≡ true → ⊥) → CanBeFound p q → ⊥
none_onward p q e none h =
    let there : ComesOnward p q.start q.sought = subst (λ (b : Bool). comes b p q.start q.sought) e h in
    none there.to there.path there.is_it

pub none_from : (p : Listing) (q : Query) → q.onward ≡ false → ((k : ℕ) → Path p q.start k → is_sought p q.sought k ≡ true → ⊥) → CanBeFound p q → ⊥
none_from p q e none h =
    let there : Comes p q.start q.sought = subst (λ (b : Bool). comes b p q.start q.sought) e h in
    none there.to there.path there.is_it

-- what is said of a result in three ways
pub if_ok_all : {R E : Type 0} (r : Result R E) (P Q S T : R → Type 0) → ((x : R) → P x → Q x → S x → T x) → IfOk r P → IfOk r Q → IfOk r S → IfOk r T
if_ok_all (Ok x) P Q S T all h k l = all x h k l
if_ok_all (Err e) P Q S T all h k l = tt

-- the task that was looked up
pub task_there : (tasks given : List Descriptor) (t : ℕ) (d : Descriptor) → given ≡ tasks → t < length given → ((x : Descriptor) → d ≡ get_or given t x) → slice_get tasks t ≡ Some d
task_there tasks given t d same less is = subst (λ (ds : List Descriptor). slice_get ds t ≡ Some d) same (slice_get_read given (length given) t d refl less (is d))

-- what a query found shows the finding, and so does nothing shorter
same_task : (p : Listing) (f : Finding) (a b : Descriptor) → slice_get p.tasks f.task ≡ Some a → slice_get p.tasks f.task ≡ Some b → a ≡ b
same_task p f a b one two = cc

same_query : (f : Finding) (a b : Descriptor) (q r : Query) → a ≡ b → query_of a.entry f ≡ Some q → query_of b.entry f ≡ Some r → q ≡ r
same_query f a b q r same one two = let also : query_of a.entry f ≡ query_of b.entry f = ap (λ (x : Descriptor). query_of x.entry f) same in cc

shortest_shown : (p : Listing) (f : Finding) (d : Descriptor) (q : Query) (path : List ℕ) → slice_get p.tasks f.task ≡ Some d → query_of d.entry f ≡ Some q
    → NoneShorter (IsFoundBy p q) path → NoneShorter (Shows p f) path
shortest_shown p f d q path there is_query shortest other shown =
    let same = same_query f shown.task d shown.query q (same_task p f shown.task d shown.is_task there) shown.is_query is_query in
    shortest other (subst (λ (x : Query). IsFoundBy p x other) same shown.leads)

pub shown_by : (p : Listing) (f : Finding) (d : Descriptor) (q : Query) (answer : Option (Vec ℕ Global)) → Found p f → slice_get p.tasks f.task ≡ Some d
    → query_of d.entry f ≡ Some q → IfSome answer (λ path. IsFoundBy p q path.items) → IfSome answer (λ path. NoneShorter (IsFoundBy p q) path.items)
    → IfNone answer (CanBeFound p q → ⊥) → IsShown p f answer
shown_by p f d q None found there is_query some shortest none =
    let same = same_task p f found.task d found.is_task there in
    absurd (none (found.there_is q (ap (λ (x : Descriptor). query_of x.entry f) same ∙ is_query)))
shown_by p f d q (Some path) found there is_query some shortest none =
    let same = same_task p f found.task d found.is_task there in
    let asked : query_of found.task.entry f ≡ Some q = ap (λ (x : Descriptor). query_of x.entry f) same ∙ is_query in
    record {
      shows = record {
        task = found.task;
        is_task = found.is_task;
        at = found.at;
        is_there = found.is_there;
        reached = found.reached;
        wrong = found.wrong (ap (λ (o : Option Query). is_some o) asked);
        query = q;
        is_query = asked;
        leads = some;
      };
      shortest = shortest_shown p f d q path.items there is_query shortest;
    }

-- where a path is looked for there is an instruction
pub start_inside : (p : Listing) (f : Finding) (d : Descriptor) (q : Query) → IsWellFormed p → Found p f → slice_get p.tasks f.task ≡ Some d
    → query_of d.entry f ≡ Some q → q.start < length p.code
start_inside p f d q well found there is_query =
    start_of f.rule f.reg d.entry f.index (length p.code) q (entry_inside p f.task d well there) (slice_get_within p.code f.index found.at found.is_there) is_query
  where
    from : (a b : ℕ) (r s : Query) → r.start < b → (let o : Option Query = Some r in o ≡ Some s) → s.start < b
    from a b r s h same = let e : r ≡ s = cc in subst (λ (x : Query). x.start < b) e h

    writer : (reg : Option ℕ) (start n : ℕ) (far : Bool) (s : Query) → start < n → to_writer reg start far ≡ Some s → s.start < n
    writer None start n far s h same = absurd (cc)
    writer (Some r) start n far s h same = from 0 n (record { start = start; onward = far; sought = Writes r }) s h same

    start_of : (rule : Rule) (reg : Option ℕ) (entry index n : ℕ) (s : Query) → entry < n → index < n → query_by rule reg entry index ≡ Some s → s.start < n
    start_of ExceedsCreate reg entry index n s h k same = writer reg entry n false s h same
    start_of ForwardedInNext reg entry index n s h k same = writer reg index n true s k same
    start_of ReleasedInNext reg entry index n s h k same = writer reg index n true s k same
    start_of SentNotCreated reg entry index n s h k same = from 0 n (record { start = entry; onward = false; sought = At index }) s h same
    start_of ExitNotListed reg entry index n s h k same = from 0 n (record { start = entry; onward = false; sought = At index }) s h same
    start_of FallsOff reg entry index n s h k same = from 0 n (record { start = entry; onward = false; sought = At index }) s h same
    start_of IndirectGoesOn reg entry index n s h k same = from 0 n (record { start = entry; onward = false; sought = At index }) s h same
    start_of rule reg entry index n s h k same = absurd (cc)

-- nothing is found exactly where the marks are sound
pub none_refused : (p : Listing) (cert : List (List (ℕ × ℕ))) (list : List ShownFinding) (more : ℕ) (accepted : Bool) → ((accepted ≡ true) ↔ (all_rules p cert ≡ []))
    → accepted ≡ false → IsWellFormed p → IsLeast p cert → length list + more ≡ length (all_rules p cert) → ((list ≡ []) × (more ≡ 0)) ↔ Sound p
none_refused p cert list more accepted exact refused well least counted = (
  λ none. absurd (wrong accepted (exact.1 (nothing (all_rules p cert) (sum list more (length (all_rules p cert)) none.0 none.1 counted))) refused),
  λ sound. absurd (wrong accepted (exact.1 (least_accepted p cert well least sound).nothing_found) refused),
)
  where
    wrong : (b : Bool) → b ≡ true → b ≡ false → ⊥
    wrong b h k = cc

    nothing : (xs : List Finding) → length xs ≡ 0 → xs ≡ []
    nothing [] h = refl
    nothing (x ∷ xs) h = absurd (omega (arith, h))

    sum : (xs : List ShownFinding) (m n : ℕ) → xs ≡ [] → m ≡ 0 → length xs + m ≡ n → n ≡ 0
    sum xs m n none zero counted = let e : length xs ≡ 0 = ap length none in omega (arith, e, zero, counted)
