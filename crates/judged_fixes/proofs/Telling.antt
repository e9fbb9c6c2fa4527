-- Errors of which some are told in words alone.
use Rattle.std.proofs.Common.{◌≡◌, ◌∙◌, ℕ, suc, zero, Bool, true, false, List, [], ◌∷◌, get_or, set, Option, Some, None, inl, inr, refl, sym, ap, subst}
use Rattle.std.specs.Prelude.{IfSome}
use Rattle.std.specs.List.{find, position}
use Rattle.std.proofs.lemmas.List.Quantifiers.{position-Some}
use Rattle.diagnostics.specs.declared.diagnostic.Diagnostic.{Diagnostic}
use Rattle.diagnostics.specs.declared.diagnostic.Help.{Help}
use Rattle.judged_fixes.specs.Fixed.{AreSameErrors, IsSameError, in_words_alone, words_of}
use Rattle.judged_fixes.specs.Proposed.{has_fix}
use Rattle.judged_fixes.proofs.FirstOf.{none_first, set_first}

twice : (help : Option Help) → words_of (words_of help) ≡ words_of help
twice None = refl
twice (Some help) = refl

in_words_again : (told error : Diagnostic) → IsSameError told error → IsSameError (in_words_alone told) error
in_words_again told error (inl same) = inr (ap in_words_alone same)
in_words_again told error (inr same) = inr (ap in_words_alone same ∙ ap (λ (help : Option Help). let d : Diagnostic = record error { help = help } in d) (twice error.help))

pub as_they_are : (errors : List Diagnostic) → AreSameErrors errors errors
as_they_are [] = tt
as_they_are (e ∷ es) = (inl refl, as_they_are es)

-- one more of them is told in words alone
pub one_in_words : (told errors : List Diagnostic) (i : ℕ) (d : Diagnostic) → AreSameErrors told errors → d ≡ get_or told i d
    → AreSameErrors (set told i (in_words_alone d)) errors
one_in_words [] errors i d same is = same
one_in_words (x ∷ xs) [] i d same is = absurd same
one_in_words (x ∷ xs) (e ∷ es) zero d same is = (in_words_again d e (subst (λ y. IsSameError y e) (sym is) same.0), same.1)
one_in_words (x ∷ xs) (e ∷ es) (suc i) d same is = (same.0, one_in_words xs es i d same.1 is)

-- the first of those that pass a test, which is told in words alone
pub first_in_words : (test : Diagnostic → Bool) (errors : List Diagnostic) (i : ℕ) (d new : Diagnostic) → position test errors ≡ Some i → d ≡ get_or errors i d
    → (test d ≡ true → test new ≡ true) → has_fix new ≡ false → IfSome (find test (set errors i new)) (λ e. has_fix e ≡ false)
first_in_words test errors i d new at is passes words =
    let passed : test (get_or errors i d) ≡ true = (position-Some test errors i d at).1 in
    let first : find test (set errors i new) ≡ Some new = set_first test errors i new at (passes (subst (λ e. test e ≡ true) (sym is) passed)) in
    subst (λ (o : Option Diagnostic). IfSome o (λ e. has_fix e ≡ false)) (sym first) words

-- where none passes, there is none that proposes anything
pub none_passes : (test : Diagnostic → Bool) (errors : List Diagnostic) → position test errors ≡ None → IfSome (find test errors) (λ e. has_fix e ≡ false)
none_passes test errors none = subst (λ (o : Option Diagnostic). IfSome o (λ e. has_fix e ≡ false)) (sym (none_first test errors none)) tt
