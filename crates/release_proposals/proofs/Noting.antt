-- An attempt that pays, and that what the help of a diagnostic proposes does not depend on its notes.
use Rattle.std.proofs.Common.{arith, ◌≡◌, ◌⊎◌, inl, inr, ℕ, ◌<◌, List, [], ◌∷◌, Option, Some, IfSome, refl, sym, subst}
use Rattle.std.specs.List.{All, Contains}
use Rattle.std.proofs.lemmas.List.Elements.{All-weaker, Contains-push, Contains-push_cases}
use Rattle.diagnostics.specs.declared.diagnostic.Diagnostic.{Diagnostic}
use Rattle.diagnostics.specs.declared.diagnostic.Note.{Note}
use Rattle.judged_fixes.specs.declared.edit.Edit.{Edit}
use Rattle.judged_fixes.specs.Proposed.{IsProposed, IsProposedBy}
use Rattle.release_proposals.specs.declared.attempt.Attempt.{Attempt}
use Rattle.release_proposals.specs.declared.trial.Trial.{Trial}
use Rattle.release_proposals.specs.Paying.{IsAttempt, IsPaying, IsTried}

abbrev pub noted : Diagnostic → List Note → Diagnostic
noted d notes = record d { notes = notes }

only_of : (d x : Diagnostic) → Contains [] x ⊎ (d ≡ x) → d ≡ x
only_of d x (inl has) = absurd (omega (arith, has.1))
only_of d x (inr same) = same

only : (d x : Diagnostic) → Contains (d ∷ []) x → d ≡ x
only d x has = only_of d x (Contains-push_cases [] d x has)

proposed_with : (text : List ℕ) (d : Diagnostic) (notes : List Note) (e : Edit) → IsProposed text (d ∷ []) e → IsProposed text (noted d notes ∷ []) e
proposed_with text d notes e p =
    let of_it : IsProposedBy text d e = subst (λ (x : Diagnostic). IsProposedBy text x e) (sym (only d p.diagnostic p.is_said)) p.is in
    record {
      diagnostic = noted d notes;
      is_said = Contains-push [] (noted d notes);
      is = record { replacement = of_it.replacement; is_its = of_it.is_its; is = of_it.is };
    }

pub with_notes : (text : List ℕ) (d : Diagnostic) (notes : List Note) (new : List ℕ) → IsPaying text (d ∷ []) new → IsPaying text (noted d notes ∷ []) new
with_notes text d notes new h = record {
  made = record {
    edits = h.made.edits;
    proposed = All-weaker (IsProposed text (d ∷ [])) (IsProposed text (noted d notes ∷ [])) (proposed_with text d notes) h.made.edits h.made.proposed;
    inserted = h.made.inserted;
    written = h.made.written;
  };
  before = h.before;
  tried = h.tried;
  after = h.after;
  tried_with = h.tried_with;
  output = h.output;
  fewer = h.fewer;
}

pub paying : (text : List ℕ) (said : List Diagnostic) (a : Attempt) (before : Trial) → IsAttempt text said a → IsTried text before
    → a.trial.output.items ≡ before.output.items → a.trial.steps < before.steps → IsPaying text said a.text.items
paying text said a before h tried same fewer = record {
  made = h.made;
  before = before;
  tried = tried;
  after = a.trial;
  tried_with = h.tried;
  output = same;
  fewer = fewer;
}

pub found_pays : (text : List ℕ) (said : List Diagnostic) (found : Option Attempt) (a : Attempt) (before : Trial) → IfSome found (IsAttempt text said) → found ≡ Some a
    → IsTried text before → a.trial.output.items ≡ before.output.items → a.trial.steps < before.steps → IsPaying text said a.text.items
found_pays text said found a before h is tried same fewer = paying text said a before (subst (λ (f : Option Attempt). IfSome f (IsAttempt text said)) is h) tried same fewer
