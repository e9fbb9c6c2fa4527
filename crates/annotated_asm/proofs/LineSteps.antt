-- One line more: the map with it is where the map with the lines after it begins.
use Rattle.std.proofs.Common.{◌≡◌, ℕ, ◌+◌, ◌*◌, List, length, drop, [], ◌∷◌, Option, Some, None, Result, Ok, Err, ap, sym, ◌∙◌, subst, IfSome, IfNone}
use Rattle.program_statements.specs.Steps.{◌>>=◌}
use Rattle.program_statements.specs.declared.statement.Section.{Section}
use Rattle.annotated_asm.specs.Steps.{FailsText}
use Rattle.annotated_asm.specs.declared.fault.AsmFault.{AsmFault}
use Rattle.annotated_asm.specs.declared.fault.AsmFault.TheVariants as text
use Rattle.program_tokens.specs.Grammar.{line_tokens}
use Rattle.program_tokens.specs.Spans.{line_spans}
use Rattle.program_tokens.specs.declared.token.Token.{Token}
use Rattle.program_tokens.specs.declared.span.TokenSpan.{TokenSpan}
use Rattle.program_statements.specs.Statements.{statement_of}
use Rattle.program_statements.specs.declared.statement.Statement.{Statement}
use Rattle.annotated_asm.specs.Items.{labels_of, after_labels, on_line, tokens_on_line, section_after}
use Rattle.annotated_asm.specs.declared.position.LabelSource.{LabelSource}
use Rattle.annotated_asm.specs.Sources.{Sources, label_sources, with_labels, with_statement, with_line, with_lines}

-- what a line adds, from its tokens and its statement
abbrev pub added : Sources → ℕ → Section → List TokenSpan → List Token → Statement → Sources
added front n here spans tokens said =
    with_statement (with_labels front (label_sources n spans 0 tokens)) n (drop (2 * length (labels_of tokens)) spans) (after_labels tokens) here said

pub line_read : (front : Sources) (n : ℕ) (here : Section) (line : List ℕ) (tokens : List Token) (said : Statement)
    → tokens_on_line n (line_tokens line) ≡ Ok tokens → on_line n (statement_of here (after_labels tokens)) ≡ Ok said
    → with_line front n here line ≡ Ok (added front n here (line_spans line) tokens said, section_after here said)
unfolding with_line
line_read front n here line tokens said e f =
    ap (λ (r : Result (List Token) AsmFault). r >>= λ ts. on_line n (statement_of here (after_labels ts)) >>= λ x. Ok (added front n here (line_spans line) ts x, section_after here x)) e
    ∙ ap (λ (r : Result Statement AsmFault). r >>= λ x. Ok (added front n here (line_spans line) tokens x, section_after here x)) f

-- the same in the terms of the code: the places and the tokens after the labels as it has them
pub line_told : (front last : Sources) (n : ℕ) (here : Section) (line : List ℕ) (tokens rest : List Token) (spans own : List TokenSpan) (number : ℕ) (labels : List LabelSource) (said : Statement)
    → tokens_on_line n (line_tokens line) ≡ Ok tokens → spans ≡ line_spans line
    → rest ≡ after_labels tokens → number ≡ 2 * length (labels_of tokens) → own ≡ drop number spans → labels ≡ label_sources n spans 0 tokens
    → on_line n (statement_of here rest) ≡ Ok said → last ≡ with_statement (with_labels front labels) n own rest here said
    → with_line front n here line ≡ Ok (last, section_after here said)
line_told front last n here line tokens rest spans own number labels said is_tokens is_spans is_rest is_number is_own is_labels is_said is_last =
    let same : added front n here (line_spans line) tokens said ≡ last =
    ap (λ ss. added front n here ss tokens said) (sym is_spans)
    ∙ ap (λ m. with_statement (with_labels front (label_sources n spans 0 tokens)) n (drop m spans) (after_labels tokens) here said) (sym is_number)
    ∙ ap (λ ss. with_statement (with_labels front (label_sources n spans 0 tokens)) n ss (after_labels tokens) here said) (sym is_own)
    ∙ ap (λ ts. with_statement (with_labels front (label_sources n spans 0 tokens)) n own ts here said) (sym is_rest)
    ∙ ap (λ ls. with_statement (with_labels front ls) n own rest here said) (sym is_labels)
    ∙ sym is_last in
    line_read front n here line tokens said is_tokens (ap (λ ts. on_line n (statement_of here ts)) (sym is_rest) ∙ is_said)
    ∙ ap (λ (next : Sources). let read : Result (Sources × Section) AsmFault = Ok (next, section_after here said) in read) same

pub line_more : (front next : Sources) (n : ℕ) (here behind : Section) (line : List ℕ) (lines : List (List ℕ))
    → with_line front n here line ≡ Ok (next, behind) → with_lines front n here (line ∷ lines) ≡ with_lines next (n + 1) behind lines
unfolding with_lines
line_more front next n here behind line lines h =
    ap (λ (r : Result (Sources × Section) AsmFault). r >>= λ x. with_lines x.0 (n + 1) x.1 lines) h

pub line_last : (front next : Sources) (n : ℕ) (here behind : Section) (line : List ℕ)
    → with_line front n here line ≡ Ok (next, behind) → with_lines front n here (line ∷ []) ≡ Ok next
unfolding with_lines
line_last front next n here behind line h =
    ap (λ (r : Result (Sources × Section) AsmFault). r >>= λ x. with_lines x.0 (n + 1) x.1 []) h

-- the first stage's fault is the whole's
fault_first : (A B : Type 0) (e : AsmFault) (read : Result A AsmFault) (next : A → Result B AsmFault) → FailsText e read → FailsText e (read >>= next)
fault_first A B text.OutOfMemory read next h = tt
fault_first A B e (Ok x) next h = absurd cc
fault_first A B e (Err f) next h = cc

pub line_fault : {R : Type 0} (e : AsmFault) (front : Sources) (n : ℕ) (here : Section) (line : List ℕ) (behind : Option R) (spelled : R → List (List ℕ))
    (lines : List (List ℕ)) (whole : Result Sources AsmFault)
    → IfSome behind (λ rest. lines ≡ line ∷ spelled rest) → IfNone behind (lines ≡ line ∷ [])
    → FailsText e (with_line front n here line) → with_lines front n here lines ≡ whole → FailsText e whole
unfolding with_lines
line_fault e front n here line (Some rest) spelled lines whole more last h so_far =
    subst (λ (r : Result Sources AsmFault). FailsText e r) (ap (with_lines front n here) (sym more) ∙ so_far)
    (fault_first (Sources × Section) Sources e (with_line front n here line) (λ x. with_lines x.0 (n + 1) x.1 (spelled rest)) h)
line_fault e front n here line None spelled lines whole more last h so_far =
    subst (λ (r : Result Sources AsmFault). FailsText e r) (ap (with_lines front n here) (sym last) ∙ so_far)
    (fault_first (Sources × Section) Sources e (with_line front n here line) (λ x. with_lines x.0 (n + 1) x.1 []) h)
