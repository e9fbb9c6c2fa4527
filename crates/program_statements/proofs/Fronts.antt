-- What was read before, in front of what is still read.
use Rattle.std.proofs.Common.{◌≡◌, List, [], ◌∷◌, ◌++◌, Result, Ok, Err, refl, ap, sym, append_assoc}
use Rattle.program_statements.specs.Steps.{◌>>=◌}

abbrev pub with_front : {A F : Type 0} → List A → Result (List A) F → Result (List A) F
with_front front read = read >>= λ xs. Ok (front ++ xs)

pub regroup : {A F : Type 0} (front : List A) (x : A) (read : Result (List A) F)
    → with_front front (read >>= λ xs. Ok (x ∷ xs)) ≡ with_front (front ++ x ∷ []) read
regroup front x (Ok xs) = ap (λ (ys : List _). Ok ys) (sym (append_assoc front (x ∷ []) xs))
regroup front x (Err f) = refl

pub regroup_many : {A F : Type 0} (front more : List A) (read : Result (List A) F)
    → with_front front (read >>= λ xs. Ok (more ++ xs)) ≡ with_front (front ++ more) read
regroup_many front more (Ok xs) = ap (λ (ys : List _). Ok ys) (sym (append_assoc front more xs))
regroup_many front more (Err f) = refl

pub no_front : {A F : Type 0} (read : Result (List A) F) → with_front [] read ≡ read
no_front (Ok xs) = refl
no_front (Err f) = refl
