-- Lines of data, and the directives of sections, are read as what they say.
use Rattle.canonical_text.proofs.Imports.{◌≡◌, ℕ, zero, suc, ◌+◌, ◌*◌, ◌<◌, ◌^◌, List, [], ◌∷◌, ◌++◌, Result, Ok, Err, get_or, arith, refl, ap, ◌∙◌, codes, pos, nat_lt, w32, to_le_bytes, lt-ltb, cond-true, append-nil, kind_of, token_of, Token, Small, hexadecimal, ◌>>=◌, numbers_of, words_of, bytes_of, word_statement, byte_statement, statement_of, in_data, with_marks, StatementFault, Section, Statement}
use Rattle.std.proofs.lemmas.Nat.{le_bytes_4}
use Rattle.program_tokens.specs.declared.token.Token.TheVariants as token
use Rattle.program_tokens.specs.declared.token.Directive.{Directive}
use Rattle.program_tokens.specs.declared.token.Directive.TheVariants as directive
use Rattle.program_statements.specs.declared.fault.StatementFault.TheVariants as fault
use Rattle.program_statements.specs.declared.statement.Statement.TheVariants as statement
use Rattle.canonical_text.proofs.Spelling.{Reads, blank, joined, directive_stops, token as one_token}
use Rattle.canonical_text.proofs.PiecesReadBack.{hexadecimal_reads}

-- Directives.

word_reads : Reads (codes ".word") (token.Directive directive.Word ∷ [])
unfolding kind_of token_of
word_reads = one_token 46 46 (codes "word") (token.Directive directive.Word) directive_stops (λ rest _. refl) refl refl refl refl refl refl

byte_reads : Reads (codes ".byte") (token.Directive directive.Byte ∷ [])
unfolding kind_of token_of
byte_reads = one_token 46 46 (codes "byte") (token.Directive directive.Byte) directive_stops (λ rest _. refl) refl refl refl refl refl refl

pub start_reads : Reads (codes ".start") (token.Directive directive.Start ∷ [])
unfolding kind_of token_of
start_reads = one_token 46 46 (codes "start") (token.Directive directive.Start) directive_stops (λ rest _. refl) refl refl refl refl refl refl

pub data_reads : Reads (codes ".data") (token.Directive directive.Data ∷ [])
unfolding kind_of token_of
data_reads = one_token 46 46 (codes "data") (token.Directive directive.Data) directive_stops (λ rest _. refl) refl refl refl refl refl refl

pub rodata_reads : Reads (codes ".rodata") (token.Directive directive.Rodata ∷ [])
unfolding kind_of token_of
rodata_reads = one_token 46 46 (codes "rodata") (token.Directive directive.Rodata) directive_stops (λ rest _. refl) refl refl refl refl refl refl

-- Data stand in one of the two sections of data.
abbrev pub IsData : Section → Type 0
IsData here = (s : Result Statement StatementFault) → in_data here s ≡ s

-- Words.

abbrev pub number_tokens : Directive → ℕ → List Token
number_tokens d n = token.Directive d ∷ token.Number (Small (pos n)) ∷ []

pub word_line_reads : (n : ℕ) → n < 2 ^ 32 → Reads (codes ".word 0x" ++ hexadecimal 8 n) (number_tokens directive.Word n)
word_line_reads n small =
    let small' : n < 2 ^ 40 = omega arith in
    joined 32 refl word_reads (blank (hexadecimal_reads 8 n (omega arith) small small'))

pub byte_line_reads : (n : ℕ) → n < 256 → Reads (codes ".byte 0x" ++ hexadecimal 2 n) (number_tokens directive.Byte n)
byte_line_reads n small =
    let small' : n < 2 ^ 40 = omega arith in
    joined 32 refl byte_reads (blank (hexadecimal_reads 2 n (omega arith) small small'))

word_means : (n : ℕ) (bytes : List ℕ) → n < 2 ^ 32 → to_le_bytes w32 n ≡ bytes → word_statement (token.Number (Small (pos n)) ∷ []) ≡ Ok (statement.Bytes bytes)
unfolding word_statement numbers_of words_of
word_means n bytes small is =
    ap (λ (r : Result ℕ StatementFault). (r >>= λ first. Ok (to_le_bytes w32 first ++ [])) >>= λ bytes. Ok (statement.Bytes bytes))
    (cond-true (nat_lt n (2 ^ 32)) (Ok n) (Err fault.Number) (lt-ltb n (2 ^ 32) small))
    ∙ ap (λ (xs : List ℕ). Ok (statement.Bytes xs)) (append-nil (to_le_bytes w32 n) ∙ is)

byte_means : (n : ℕ) → n < 256 → byte_statement (token.Number (Small (pos n)) ∷ []) ≡ Ok (statement.Bytes (n ∷ []))
unfolding byte_statement numbers_of bytes_of
byte_means n small =
    ap (λ (r : Result ℕ StatementFault). (r >>= λ first. Ok (first ∷ [])) >>= λ bytes. Ok (statement.Bytes bytes))
    (cond-true (nat_lt n (2 ^ 8)) (Ok n) (Err fault.Number) (lt-ltb n (2 ^ 8) small))

small_bytes : (a b c d : ℕ) → a < 256 → b < 256 → c < 256 → d < 256 → (i : ℕ) → get_or (a ∷ b ∷ c ∷ d ∷ []) i 0 < 256
small_bytes a b c d p q r s zero = p
small_bytes a b c d p q r s (suc zero) = q
small_bytes a b c d p q r s (suc (suc zero)) = r
small_bytes a b c d p q r s (suc (suc (suc zero))) = s
small_bytes a b c d p q r s (suc (suc (suc (suc i)))) = omega arith

pub bytes_back : (a b c d : ℕ) → a < 256 → b < 256 → c < 256 → d < 256
    → to_le_bytes w32 (a + 256 * (b + 256 * (c + 256 * d))) ≡ a ∷ b ∷ c ∷ d ∷ []
bytes_back a b c d p q r s =
    le_bytes_4 (a ∷ b ∷ c ∷ d ∷ []) (a + 256 * (b + 256 * (c + 256 * d))) refl (small_bytes a b c d p q r s) (omega arith)

pub word_said : (here : Section) (n : ℕ) (bytes : List ℕ) → IsData here → n < 2 ^ 32 → to_le_bytes w32 n ≡ bytes
    → statement_of here (number_tokens directive.Word n) ≡ Ok (statement.Bytes bytes)
word_said here n bytes region small is =
    ap (λ (r : Result Statement StatementFault). r >>= with_marks []) (region (word_statement (token.Number (Small (pos n)) ∷ [])) ∙ word_means n bytes small is)

pub byte_said : (here : Section) (n : ℕ) → IsData here → n < 256
    → statement_of here (number_tokens directive.Byte n) ≡ Ok (statement.Bytes (n ∷ []))
byte_said here n region small =
    ap (λ (r : Result Statement StatementFault). r >>= with_marks []) (region (byte_statement (token.Number (Small (pos n)) ∷ [])) ∙ byte_means n small)
