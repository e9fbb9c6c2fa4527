-- The facts of a well-formed program, one by one: the tests of the refusals, taken apart.
use Rattle.std.specs.Prelude.{◌≡◌, ◌≤◌, ◌<◌, ℕ, zero, suc, Bool, true, false, not, ◌&&◌, ◌||◌, nat_eq, nat_lt, nat_le, cond, Option, Some, None, List, [], ◌∷◌, length, slice_get, position}
use Rattle.std.specs.List.{list_any, All}
use Rattle.std.proofs.Common.{refl, arith, ap, sym, ◌∙◌, subst}
use Rattle.std.proofs.lemmas.Bool.{or_parts, ltb-false, leb-false}
use Rattle.std.proofs.lemmas.List.Elements.{All-get_or}
use Rattle.std.proofs.lemmas.Option.{get_or_from_slice_get, slice_get_within}
use Rattle.mips_instructions.specs.Instruction.{waits, dests}
use Rattle.mips_instructions.specs.Words.{has}
use Rattle.task_descriptor.specs.Names.{is_name}
use Rattle.task_descriptor.specs.Listing.{Listing, OfRegisters, NamesRegisters, IsWellFormed, is_too_many, has_no_task, has_bad_entry, has_duplicate, has_bad_mask, mark_fault, is_bad_mark, starts_at_no_entry}
use Rattle.task_descriptor.specs.declared.descriptor.Descriptor.{Descriptor}
use Rattle.task_descriptor.specs.declared.descriptor.Marked.{Marked}
use Rattle.task_descriptor.specs.declared.program.BuildFault.{BuildFault}
use Rattle.task_descriptor.specs.declared.program.BuildFault.TheVariants.{BadMark, BadStart}

-- none of the tests that a refusal makes holds
pub record Passes (p : Listing) : Type 0 where
  pub within_limits : is_too_many p ≡ false
  pub has_task : has_no_task p.tasks ≡ false
  pub entries : has_bad_entry p ≡ false
  pub distinct : has_duplicate p.tasks ≡ false
  pub masks : has_bad_mask p.tasks ≡ false
  pub marks : position is_bad_mark p.code ≡ None
  pub starts : starts_at_no_entry p ≡ false

passed : (test : Bool) (fault : BuildFault) (rest : Option BuildFault) → cond test (Some fault) rest ≡ None
    → (test ≡ false) × (rest ≡ None)
passed true fault rest h = absurd (cc)
passed false fault rest h = (refl, h)

last_passed : (bad : Option ℕ) (test : Bool) → mark_fault bad test ≡ None → (bad ≡ None) × (test ≡ false)
last_passed (Some index) test h = absurd (cc)
last_passed None true h = absurd (cc)
last_passed None false h = (refl, refl)

pub passes : (p : Listing) → IsWellFormed p → Passes p
passes p h =
    let many = passed (is_too_many p) _ _ h.passes in
    let none = passed (has_no_task p.tasks) _ _ many.1 in
    let entry = passed (has_bad_entry p) _ _ none.1 in
    let twice = passed (has_duplicate p.tasks) _ _ entry.1 in
    let mask = passed (has_bad_mask p.tasks) _ _ twice.1 in
    let last = last_passed _ _ mask.1 in
    record {
      within_limits = many.0;
      has_task = none.0;
      entries = entry.0;
      distinct = twice.0;
      masks = mask.0;
      marks = last.0;
      starts = last.1;
    }

-- where no element passes a test, none at an index does
none_at : {X : Type 0} (test : X → Bool) (xs : List X) (i : ℕ) (x : X) → list_any test xs ≡ false
    → slice_get xs i ≡ Some x → test x ≡ false
none_at test [] i x none at = absurd (cc)
none_at test (y ∷ ys) zero x none at = let e : y ≡ x = cc in ap test (sym e) ∙ (or_parts (test y) (list_any test ys) none).0
none_at test (y ∷ ys) (suc i) x none at = none_at test ys i x (or_parts (test y) (list_any test ys) none).1 at

-- the limits
pub record Limits (p : Listing) : Type 0 where
  pub code : length p.code ≤ 4096
  pub bytes : length p.bytes ≤ 65536
  pub fixed : length p.fixed ≤ 65536
  pub tasks : length p.tasks ≤ 1024
  pub targets : (t : ℕ) (d : Descriptor) → slice_get p.tasks t ≡ Some d → length d.targets ≤ 16

-- the five tests of a limit, from the last to the first
five : (a b c d e : Bool) → (a || b || c || d || e) ≡ false → (a ≡ false) × (b ≡ false) × (c ≡ false) × (d ≡ false) × (e ≡ false)
five false false false false false h = (refl, refl, refl, refl, refl)
five false false false false true h = absurd (cc)
five false false false true e h = absurd (cc)
five false false true d e h = absurd (cc)
five false true c d e h = absurd (cc)
five true b c d e h = absurd (cc)

pub limits : (p : Listing) → IsWellFormed p → Limits p
limits p h =
    let tests = five (nat_lt 4096 (length p.code)) (nat_lt 65536 (length p.bytes)) (nat_lt 65536 (length p.fixed)) (nat_lt 1024 (length p.tasks)) (list_any (λ t. nat_lt 16 (length t.targets)) p.tasks) (passes p h).within_limits in
    record {
      code = ltb-false 4096 (length p.code) tests.0;
      bytes = ltb-false 65536 (length p.bytes) tests.1;
      fixed = ltb-false 65536 (length p.fixed) tests.2;
      tasks = ltb-false 1024 (length p.tasks) tests.3;
      targets = λ t d at. ltb-false 16 (length d.targets) (none_at (λ u. nat_lt 16 (length u.targets)) p.tasks t d tests.4 at);
    }

-- a task's entry is an instruction
pub entry_below : (p : Listing) → IsWellFormed p → (t : ℕ) (d : Descriptor) → slice_get p.tasks t ≡ Some d → d.entry < length p.code
entry_below p h t d at =
    leb-false (length p.code) d.entry (none_at (λ u. nat_le (length p.code) u.entry) p.tasks t d (passes p h).entries at)

-- register 0 is in no create mask
pub zero_not_created : (p : Listing) → IsWellFormed p → (t : ℕ) (d : Descriptor) → slice_get p.tasks t ≡ Some d → has d.create 0 ≡ false
zero_not_created p h t d at = none_at (λ u. has u.create 0) p.tasks t d (passes p h).masks at

not_false : (b : Bool) → not b ≡ false → b ≡ true
not_false true h = refl
not_false false h = absurd (cc)

-- the start is a task's entry
pub start_is_entry : (p : Listing) → IsWellFormed p → list_any (λ t. nat_eq t.entry p.start) p.tasks ≡ true
start_is_entry p h = not_false (list_any (λ t. nat_eq t.entry p.start) p.tasks) (passes p h).starts

-- what holds of all elements holds of the one at an index
all_at : {X : Type 0} (P : X → Type 0) (xs : List X) (i : ℕ) (x : X) → All P xs → slice_get xs i ≡ Some x → P x
all_at P xs i x all at =
    subst P (get_or_from_slice_get xs i x x at) (All-get_or P xs i x (slice_get_within xs i x at) all)

-- an instruction waits only for registers, and writes only registers
pub waits_below : (p : Listing) → IsWellFormed p → (index : ℕ) (m : Marked) → slice_get p.code index ≡ Some m → (r : ℕ) → waits m.op r ≡ true → r < 34
waits_below p h index m at = (all_at NamesRegisters p.code index m h.in_range.code at).waits

pub dests_below : (p : Listing) → IsWellFormed p → (index : ℕ) (m : Marked) → slice_get p.code index ≡ Some m → (r : ℕ) → dests m.op r ≡ true → r < 34
dests_below p h index m at = (all_at NamesRegisters p.code index m h.in_range.code at).dests

-- a create mask has only registers
pub creates_below : (p : Listing) → IsWellFormed p → (t : ℕ) (d : Descriptor) → slice_get p.tasks t ≡ Some d → (r : ℕ) → has d.create r ≡ true → r < 34
creates_below p h t d at = all_at (λ (u : Descriptor). OfRegisters (has u.create)) p.tasks t d h.in_range.tasks at

-- a task's name is a name
pub name_is_one : (p : Listing) → IsWellFormed p → (t : ℕ) (d : Descriptor) → slice_get p.tasks t ≡ Some d → is_name d.name ≡ true
name_is_one p h t d at = all_at (λ (u : Descriptor). is_name u.name ≡ true) p.tasks t d h.in_range.names at
