-- What a well-formed program keeps: its conditions are tests in a row, and none of them holds.
use Rattle.std.proofs.Common.{◌≡◌, ℕ, ◌<◌, ◌≤◌, Bool, true, false, ◌||◌, nat_lt, nat_le, if◌then◌else◌, Option, Some, None, List, [], ◌∷◌, length, slice_get, zero, suc, subst, refl}
use Rattle.std.proofs.lemmas.Option.{same_Some}
use Rattle.std.proofs.lemmas.Bool.{or_parts, ltb-false, leb-false}
use Rattle.std.specs.List.{list_any}
use Rattle.task_descriptor.specs.declared.descriptor.Descriptor.{Descriptor}
use Rattle.task_descriptor.specs.declared.program.BuildFault.{BuildFault}
use Rattle.task_descriptor.specs.Listing.{Listing, IsWellFormed, is_too_many, has_no_task, has_bad_entry}

-- a refusal that does not come has its test fail, and the rest does not come either
not_refused : (b : Bool) (fault : BuildFault) (rest : Option BuildFault) → (if b then Some fault else rest) ≡ None → (b ≡ false) × (rest ≡ None)
not_refused true fault rest h = absurd (cc)
not_refused false fault rest h = (refl, h)

pub code_fits : (p : Listing) → IsWellFormed p → length p.code ≤ 4096
code_fits p h =
    let few = not_refused (is_too_many p) _ _ h.passes in
    ltb-false 4096 (length p.code) (or_parts _ _ (or_parts _ _ (or_parts _ _ (or_parts _ _ few.0).0).0).0).0

none_such : {X : Type 0} (test : X → Bool) (xs : List X) (k : ℕ) (x : X) → list_any test xs ≡ false → slice_get xs k ≡ Some x → test x ≡ false
none_such test [] k x h there = absurd (cc)
none_such {X} test (y ∷ ys) zero x h there = subst (λ (z : X). test z ≡ false) (same_Some y x there) (or_parts (test y) (list_any test ys) h).0
none_such test (y ∷ ys) (suc k) x h there = none_such test ys k x (or_parts (test y) (list_any test ys) h).1 there

pub entry_inside : (p : Listing) (t : ℕ) (d : Descriptor) → IsWellFormed p → slice_get p.tasks t ≡ Some d → d.entry < length p.code
entry_inside p t d h there =
    let few = not_refused (is_too_many p) _ _ h.passes in
    let some = not_refused (has_no_task p.tasks) _ _ few.1 in
    let good = not_refused (has_bad_entry p) _ _ some.1 in
    leb-false (length p.code) d.entry (none_such (λ (u : Descriptor). nat_le (length p.code) u.entry) p.tasks t d good.0 there)
