-- What stands for a register more is at the end of a list.
use Rattle.std.proofs.Common.{◌≡◌, ℕ, ◌+◌, ◌∷◌, [], ◌++◌, List, Option, ap, ◌∙◌, sym, add-one}
use Rattle.std.specs.List.{flat_map}
use Rattle.std.specs.Option.{option_to_list}
use Rattle.std.proofs.lemmas.List.{append-nil}
use Rattle.std.proofs.lemmas.Grind.{flat_map-append}
use Rattle.task_descriptor.specs.Listing.{numbers_below}

-- what stands for a register is added to what stands for those below it
pub some_added : {X : Type 0} (f : ℕ → Option X) (n : ℕ) (now next : List X) → now ≡ flat_map (λ r. option_to_list (f r)) (numbers_below n)
    → next ≡ now ++ option_to_list (f n) → next ≡ flat_map (λ r. option_to_list (f r)) (numbers_below (n + 1))
some_added {X} f n now next so_far added =
    added ∙ ap (λ (xs : List X). xs ++ option_to_list (f n)) so_far
    ∙ sym (ap (λ m. flat_map (λ r. option_to_list (f r)) (numbers_below m)) (add-one n)
    ∙ flat_map-append (λ r. option_to_list (f r)) (numbers_below n) (n ∷ [])
    ∙ ap (λ (xs : List X). flat_map (λ r. option_to_list (f r)) (numbers_below n) ++ xs) (append-nil (option_to_list (f n))))
