-- One line more: what is written with it is where the lines after it begin.
use Rattle.canonical_text.proofs.Imports.{◌≡◌, ℕ, ◌+◌, List, [], ◌∷◌, Option, Some, None, Result, Ok, Err, ap, sym, ◌∙◌, subst, IfNone, ◌>>=◌, Section, AsmFault, Written, with_line, with_lines, text_in}
use Rattle.std.proofs.Common.{IfSome}
use Rattle.annotated_asm.specs.Steps.{FailsText}
use Rattle.annotated_asm.specs.declared.fault.AsmFault.TheVariants as text

pub line_more : (front next : Written) (n : ℕ) (here behind : Section) (line : List ℕ) (lines : List (List ℕ))
    → with_line front n here line ≡ Ok (next, behind) → with_lines front n here (line ∷ lines) ≡ with_lines next (n + 1) behind lines
unfolding with_lines
line_more front next n here behind line lines h =
    ap (λ (r : Result (Written × Section) AsmFault). r >>= λ x. with_lines x.0 (n + 1) x.1 lines) h

pub line_last : (front next : Written) (n : ℕ) (here behind : Section) (line : List ℕ)
    → with_line front n here line ≡ Ok (next, behind) → with_lines front n here (line ∷ []) ≡ Ok next
unfolding with_lines
line_last front next n here behind line h =
    ap (λ (r : Result (Written × Section) AsmFault). r >>= λ x. with_lines x.0 (n + 1) x.1 []) h

-- the first stage's fault is the whole's
fault_first : (A B : Type 0) (e : AsmFault) (read : Result A AsmFault) (next : A → Result B AsmFault) → FailsText e read → FailsText e (read >>= next)
fault_first A B text.OutOfMemory read next h = tt
fault_first A B e (Ok x) next h = absurd cc
fault_first A B e (Err f) next h = cc

text_fault : (e : AsmFault) (whole : Result Written AsmFault) → FailsText e whole → FailsText e (text_in whole)
text_fault text.OutOfMemory whole h = tt
text_fault e (Ok x) h = absurd cc
text_fault e (Err f) h = cc

pub line_fault : {R : Type 0} (e : AsmFault) (front : Written) (n : ℕ) (here : Section) (line : List ℕ) (behind : Option R) (spelled : R → List (List ℕ))
    (lines : List (List ℕ)) (whole : Result Written AsmFault)
    → IfSome behind (λ rest. lines ≡ line ∷ spelled rest) → IfNone behind (lines ≡ line ∷ [])
    → FailsText e (with_line front n here line) → with_lines front n here lines ≡ whole → FailsText e (text_in whole)
unfolding with_lines
line_fault e front n here line (Some rest) spelled lines whole more last h so_far =
    text_fault e whole (subst (λ (r : Result Written AsmFault). FailsText e r) (ap (with_lines front n here) (sym more) ∙ so_far)
    (fault_first (Written × Section) Written e (with_line front n here line) (λ x. with_lines x.0 (n + 1) x.1 (spelled rest)) h))
line_fault e front n here line None spelled lines whole more last h so_far =
    text_fault e whole (subst (λ (r : Result Written AsmFault). FailsText e r) (ap (with_lines front n here) (sym last) ∙ so_far)
    (fault_first (Written × Section) Written e (with_line front n here line) (λ x. with_lines x.0 (n + 1) x.1 []) h))
