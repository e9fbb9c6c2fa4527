-- The fault by itself is told; and what is said of a text tells it, or the text spells a program.
use Rattle.std.specs.List.{list_any}
use Rattle.std.specs.Str.{bytes_eq}
use Rattle.std.proofs.Common.{◌≡◌, ℕ, List, [], Bool, true, false, Option, Ok, Err, refl, ap, sym, subst, ◌∙◌}
use Rattle.std.proofs.lemmas.Slice.Eq.{bytes_eq-Decides}
use Rattle.task_descriptor.specs.Listing.{Listing}
use Rattle.program_tokens.specs.Lines.{lines}
use Rattle.annotated_asm.specs.declared.fault.AsmFault.{AsmFault}
use Rattle.annotated_asm.specs.ProgramText.{parse}
use Rattle.diagnostics.specs.declared.diagnostic.Span.{Span}
use Rattle.diagnostics.specs.declared.diagnostic.Severity.TheVariants.{Error}
use Rattle.diagnostics.specs.declared.diagnostic.Source.TheVariants.{Program}
use Rattle.diagnostics.specs.declared.diagnostic.Diagnostic.{Diagnostic}
use Rattle.diagnostics.specs.Codes.{code_id}
use Rattle.text_diagnostics.specs.Refusals.{told_as, token_of, is_at, tells, IsTold, AreTextErrors}

same_bytes : (xs : List ℕ) → bytes_eq xs xs ≡ true
same_bytes xs = (bytes_eq-Decides xs xs).1 refl

pub told_alone : (f : AsmFault) (token : Option Span) (d : Diagnostic) → d.severity ≡ Error → d.source ≡ Program
    → d.code ≡ (told_as f).0 → is_at token (told_as f).1 d.span ≡ true → tells f token d ≡ true
told_alone f token d severe ours code here = rw (severe, ours, code, same_bytes (code_id (told_as f).0), here) refl

pub of_program : (text : List ℕ) (p : Listing) → parse text ≡ Ok p → AreTextErrors text []
of_program text p spelled = record { silent = (λ none. (p, spelled), λ spells. refl); first = λ f wrong. absurd cc }

none_told : (text : List ℕ) (f : AsmFault) (said : List Diagnostic) → said ≡ [] → IsTold text f said → false ≡ true
none_told text f said none told = sym (ap (list_any (tells f (token_of (lines text) f))) none) ∙ told

not_both : (text : List ℕ) (f : AsmFault) (p : Listing) → parse text ≡ Err f → parse text ≡ Ok p → false ≡ true
not_both text f p wrong spelled = absurd cc

pub of_refusal : (text : List ℕ) (f : AsmFault) (said : List Diagnostic) → parse text ≡ Err f → IsTold text f said → AreTextErrors text said
of_refusal text f said wrong told = record {
  silent = (λ none. let never = none_told text f said none told in absurd cc, λ spells. let never = not_both text f spells.0 wrong spells.1 in absurd cc);
  first = λ g other. let same : f ≡ g = cc in subst (λ (h : AsmFault). IsTold text h said) same told;
}
