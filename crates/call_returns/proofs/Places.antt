-- Places behind calls, one more or none.
use Rattle.std.proofs.Common.{◌≡◌, ℕ, List, [], ◌∷◌, ◌++◌, sym, subst}
use Rattle.std.specs.List.{All}
use Rattle.std.proofs.lemmas.List.Elements.{All-nil, All-cons, All-append}
use Rattle.task_descriptor.specs.Listing.{Listing}
use Rattle.call_returns.specs.Returns.{IsBehindCall, IsWith}

pub none_yet : (places : List ℕ) → places ≡ [] → (p : Listing) → All (IsBehindCall p) places
none_yet places is p = subst (All (IsBehindCall p)) (sym is) (All-nil (IsBehindCall p))

pub as_they_are : (old : List ℕ) (place : ℕ) → IsWith old place old
as_they_are old place p all one = all

pub one_more : (old : List ℕ) (place : ℕ) (new : List ℕ) → new ≡ old ++ place ∷ [] → IsWith old place new
one_more old place new is p all one =
    subst (All (IsBehindCall p)) (sym is) (All-append (IsBehindCall p) old (place ∷ []) all (All-cons (IsBehindCall p) place [] one (All-nil (IsBehindCall p))))
