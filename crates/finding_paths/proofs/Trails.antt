-- The way back lists a path: whatever path comes to the visit at hand, what was collected goes on from there.
use Rattle.std.proofs.Common.{◌≡◌, ℕ, ◌+◌, ◌<◌, false, Some, List, [], ◌∷◌, ◌++◌, reverse, length, slice_get, sym, ◌∙◌, ap, subst, arith, append_assoc, append-nil, length-append, zero, suc}
use Rattle.std.proofs.lemmas.List.{reverse-append, length-reverse}
use Rattle.task_descriptor.specs.Listing.{Listing}
use Rattle.task_graph.specs.Edges.{Edge, Path, stay, onward}
use Rattle.finding_paths.specs.declared.visits.Visit.{Visit}
use Rattle.finding_paths.specs.Witnesses.{indices, ListsPath}
use Rattle.finding_paths.specs.Visits.{AreVisits, ComeFromEarlier, StepsBack, at_first, behind, IsAsLong}

-- each path to i goes on to the end along the rest
pub record GoesOn (p : Listing) (start i to : ℕ) (rest : List ℕ) : Type 0 where
  pub on : (q : Path p start i) → (w : Path p start to) × (indices p start to w ≡ indices p start i q ++ rest)

pub record WayBack (visits : List Visit) (at number : ℕ) (path : List ℕ) : Type 0 where
  pub there : number < length visits
  pub walk : (p : Listing) (start : ℕ) (u v : Visit) → AreVisits p start visits → slice_get visits number ≡ Some u
      → slice_get visits at ≡ Some v → GoesOn p start u.index v.index (reverse path)
  pub far : (n : ℕ) → StepsBack visits number n → StepsBack visits at (n + length path)

at_once : (p : Listing) (start i to : ℕ) → i ≡ to → GoesOn p start i to []
at_once p start i to e = subst (λ n. GoesOn p start i n []) e (record { on = λ q. (q, sym (append-nil (indices p start i q))) })

one_more : (p : Listing) (start i j to : ℕ) (rest : List ℕ) → Edge p false i j → GoesOn p start j to rest → GoesOn p start i to (j ∷ rest)
one_more p start i j to rest e g = record {
  on = λ q. let k = g.on (onward q e) in (k.0, k.1 ∙ append_assoc (indices p start i q) (j ∷ []) rest);
}

from_start : (p : Listing) (start i to : ℕ) (rest : List ℕ) → start ≡ i → GoesOn p start i to rest → ListsPath p start to (i ∷ rest)
from_start p start i to rest e =
    let P : ℕ → Type 0 = λ n. GoesOn p start n to rest → ListsPath p start to (n ∷ rest) in
    subst P e (λ g. record { path = (g.on stay).0; along = sym (g.on stay).1 })

reverse_push : (xs : List ℕ) (x : ℕ) → reverse (xs ++ x ∷ []) ≡ x ∷ reverse xs
reverse_push xs x = reverse-append xs (x ∷ [])

pub way_begins : (visits : List Visit) (at : ℕ) (path : List ℕ) → path ≡ [] → at < length visits → WayBack visits at at path
way_begins visits at path none there = record {
  there = there;
  walk = λ p start u v are one two.
      let same : u ≡ v = cc in
      subst (λ xs. GoesOn p start u.index v.index (reverse xs)) (sym none) (at_once p start u.index v.index (ap (λ (x : Visit). x.index) same));
  far = λ n h. let empty : length path ≡ 0 = ap length none in let e : n ≡ n + length path = omega arith in subst (StepsBack visits at) e h;
}

pub earlier_number : (visits : List Visit) (number : ℕ) (x : Visit) → 0 < number → ComeFromEarlier visits → slice_get visits number ≡ Some x → x.from < number
earlier_number visits zero x some earlier is = absurd (omega arith)
earlier_number visits (suc k) x some earlier is = let h = earlier k x is in omega arith

pub step : (visits : List Visit) (number : ℕ) (x u : Visit) (p : Listing) (start : ℕ) → 0 < number → AreVisits p start visits
    → slice_get visits number ≡ Some x → slice_get visits x.from ≡ Some u → Edge p false u.index x.index
step visits zero x u p start some are is from = absurd (omega arith)
step visits (suc k) x u p start some are is from = are.along k u x is from

one_back : (visits : List Visit) (number n : ℕ) (x : Visit) → 0 < number → slice_get visits number ≡ Some x → StepsBack visits x.from n → StepsBack visits number (suc n)
one_back visits zero n x some is h = absurd (omega arith)
one_back visits (suc k) n x some is h = behind is h

pub way_goes_on : (visits : List Visit) (at number : ℕ) (path more : List ℕ) (x : Visit) → 0 < number → ComeFromEarlier visits
    → slice_get visits number ≡ Some x → more ≡ path ++ x.index ∷ [] → WayBack visits at number path → WayBack visits at x.from more
way_goes_on visits at number path more x some earlier is pushed w = record {
  there = let less = earlier_number visits number x some earlier is in let inside = w.there in omega arith;
  walk = λ p start u v are one two.
      subst (λ xs. GoesOn p start u.index v.index xs) (sym (ap reverse pushed ∙ reverse_push path x.index))
      (one_more p start u.index x.index v.index (reverse path) (step visits number x u p start some are is one) (w.walk p start x v are is two));
  far = λ n h.
      let e : suc n + length path ≡ n + length more = omega (arith, ap length pushed, length-append path (x.index ∷ [])) in
      subst (StepsBack visits at) e (w.far (suc n) (one_back visits number n x some is h));
}

pub way_ends : (visits : List Visit) (at number : ℕ) (path more back : List ℕ) (x : Visit) → number ≡ 0
    → slice_get visits 0 ≡ Some x → more ≡ path ++ x.index ∷ [] → back ≡ reverse more → WayBack visits at number path
    → (p : Listing) (start : ℕ) (v : Visit) → AreVisits p start visits → slice_get visits at ≡ Some v → ListsPath p start v.index back
way_ends visits at number path more back x none is pushed reversed w p start v are two =
    subst (ListsPath p start v.index) (sym (reversed ∙ ap reverse pushed ∙ reverse_push path x.index))
    (from_start p start x.index v.index (reverse path) (sym (are.first x is))
    (w.walk p start x v are (subst (λ n. slice_get visits n ≡ Some x) (sym none) is) two))

pub way_is_long : (visits : List Visit) (at number : ℕ) (path more back : List ℕ) (x : Visit) → number ≡ 0
    → more ≡ path ++ x.index ∷ [] → back ≡ reverse more → WayBack visits at number path → IsAsLong visits at back
way_is_long visits at number path more back x none pushed reversed w = record {
  steps = 0 + length path;
  back = w.far 0 (subst (λ n. StepsBack visits n 0) (sym none) at_first);
  long = omega (arith, ap length reversed, length-reverse more, ap length pushed, length-append path (x.index ∷ []));
}
