-- The numbers of `.word` and `.byte` are read as the walk goes over them.
use Rattle.std.proofs.Common.{◌≡◌, ℕ, List, [], ◌∷◌, ◌++◌, Bool, true, false, not, Some, Result, Ok, Err, refl, sym, ap, ap₂, ◌∙◌}
use Rattle.std.specs.Prelude.{◌||◌}
use Rattle.std.specs.List.{list_any}
use Rattle.std.specs.Int.{w32, to_le_bytes}
use Rattle.program_tokens.specs.declared.token.Number.{Number}
use Rattle.program_tokens.specs.declared.token.Token.{Token}
use Rattle.program_tokens.specs.declared.token.Token.TheVariants as token
use Rattle.program_statements.specs.Steps.{◌>>=◌}
use Rattle.program_statements.specs.Ranges.{word, byte}
use Rattle.program_statements.specs.Statements.{numbers_of, words_of, bytes_of, word_statement, byte_statement}
use Rattle.program_statements.specs.declared.fault.StatementFault.{StatementFault}
use Rattle.program_statements.specs.declared.fault.StatementFault.TheVariants as fault
use Rattle.program_statements.specs.declared.statement.Statement.TheVariants as statement
use Rattle.operand_forms.specs.declared.form.OperandPart.TheVariants.{Numbers}
use Rattle.operand_forms.specs.declared.form.Inside.TheVariants.{Before, AfterComma}
use Rattle.operand_forms.specs.declared.shape.Range.{Range}
use Rattle.operand_forms.specs.declared.shape.OperandShape.TheVariants as shape
use Rattle.operand_forms.specs.Shapes.{range_of}
use Rattle.operand_forms.specs.Meant.{is_within, is_beyond}
use Rattle.operand_forms.specs.OperandForms.{is_whole, has_beyond, judged, shape_fault, fault_of}
use Rattle.operand_forms.proofs.RangeTests.{carried, both_fault, word_fault, byte_fault}

abbrev is_list : List Token → Bool
is_list ts = is_whole AfterComma (Numbers ∷ []) ts

abbrev any_beyond : Range → List Number → Bool
any_beyond numbers ns = list_any (λ n. not (is_within numbers n)) ns

abbrev NumbersAgree : Range → (list beyond : Bool) → Result (List Number) StatementFault → Type 0
NumbersAgree numbers list beyond (Ok ns) = (list ≡ true) × (beyond ≡ any_beyond numbers ns)
NumbersAgree numbers list beyond (Err f) = (list ≡ false) × (f ≡ fault.Operand)

numbers_agree : (numbers : Range) (ts : List Token) → NumbersAgree numbers (is_list ts) (list_any (is_beyond numbers) ts) (numbers_of ts)
unfolding numbers_of
numbers_agree numbers (token.Number n ∷ []) = (refl, refl)
numbers_agree numbers (token.Number n ∷ token.Comma ∷ ts) =
    (elim (numbers_of ts) as (λ read. NumbersAgree numbers (is_list ts) (list_any (is_beyond numbers) ts) read
    → NumbersAgree numbers (is_list ts) (not (is_within numbers n) || list_any (is_beyond numbers) ts) (read >>= λ others. Ok (n ∷ others)))
    [ Ok ns ↦ λ a. (a.0, ap (λ more. not (is_within numbers n) || more) a.1) | Err f ↦ λ a. a ]) (numbers_agree numbers ts)
numbers_agree numbers ts = (refl, refl)

first_member : (ts : List Token) → is_whole Before (Numbers ∷ []) ts ≡ is_list ts
first_member [] = refl
first_member (t ∷ ts) = refl

words_fault : (ns : List Number) → fault_of (words_of ns) ≡ judged true (any_beyond (range_of shape.Words) ns)
unfolding words_of
words_fault [] = refl
words_fault (n ∷ ns) =
    both_fault (word n) (words_of ns) (λ first others. to_le_bytes w32 first ++ others) (is_within (range_of shape.Words) n) (any_beyond (range_of shape.Words) ns) (word_fault n) (words_fault ns)

bytes_fault : (ns : List Number) → fault_of (bytes_of ns) ≡ judged true (any_beyond (range_of shape.Bytes) ns)
unfolding bytes_of
bytes_fault [] = refl
bytes_fault (n ∷ ns) =
    both_fault (byte n) (bytes_of ns) (λ first others. first ∷ others) (is_within (range_of shape.Bytes) n) (any_beyond (range_of shape.Bytes) ns) (byte_fault n) (bytes_fault ns)

judged_so : (numbers : Range) (list beyond : Bool) (read : Result (List Number) StatementFault) (cells : List Number → Result (List ℕ) StatementFault)
    → ((ns : List Number) → fault_of (cells ns) ≡ judged true (any_beyond numbers ns)) → NumbersAgree numbers list beyond read
    → fault_of (read >>= λ ns. cells ns >>= λ bytes. Ok (statement.Bytes bytes)) ≡ judged list beyond
judged_so numbers list beyond (Ok ns) cells says a = carried (cells ns) (λ bytes. statement.Bytes bytes) ∙ (says ns ∙ sym (ap₂ judged a.0 a.1))
judged_so numbers list beyond (Err f) cells says a = ap Some a.1 ∙ sym (ap (λ list. judged list beyond) a.0)

pub words_agree : (ts : List Token) → fault_of (word_statement ts) ≡ shape_fault (Some shape.Words) ts
unfolding word_statement
words_agree ts =
    judged_so (range_of shape.Words) (is_list ts) (has_beyond shape.Words ts) (numbers_of ts) words_of words_fault (numbers_agree (range_of shape.Words) ts)
    ∙ ap (λ list. judged list (has_beyond shape.Words ts)) (sym (first_member ts))

pub bytes_agree : (ts : List Token) → fault_of (byte_statement ts) ≡ shape_fault (Some shape.Bytes) ts
unfolding byte_statement
bytes_agree ts =
    judged_so (range_of shape.Bytes) (is_list ts) (has_beyond shape.Bytes ts) (numbers_of ts) bytes_of bytes_fault (numbers_agree (range_of shape.Bytes) ts)
    ∙ ap (λ list. judged list (has_beyond shape.Bytes ts)) (sym (first_member ts))
