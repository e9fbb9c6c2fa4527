-- Texts of whole lines whose items are known, and how they are put together.
use Rattle.canonical_text.proofs.Imports.{◌≡◌, ℕ, ◌+◌, List, [], ◌∷◌, ◌++◌, Result, Ok, Err, map, refl, ap, sym, ◌∙◌, append_assoc, ◌==◌, lines, append-nil, line_tokens, tokens_after, Token, line, ◌>>=◌, statement_of, labels_of, after_labels, label_item, statement_items, section_after, tokens_on_line, on_line, line_items, items_from, AsmFault, StatementFault, PlacedStatement, Section, Statement}
use Rattle.std.proofs.lemmas.List.Splits.{slice_split_at}
use Rattle.program_tokens.specs.declared.token.LineFault.{LineFault as TokenFault}
use Rattle.canonical_text.proofs.Spelling.{Reads, line_reads, no_newline}

-- items in front of a reading
abbrev pub onto : List PlacedStatement → Result (List PlacedStatement) AsmFault → Result (List PlacedStatement) AsmFault
onto front read = read >>= λ others. Ok (front ++ others)

-- from line n in a section the text gives these items, and after it stands line m, in a section of its own
pub record Chunk (n : ℕ) (here : Section) (text : List ℕ) (m : ℕ) (behind : Section) (items : List PlacedStatement) : Type 0 where
  pub reads : (rest : List ℕ) → items_from n here (lines (text ++ rest)) ≡ onto items (items_from m behind (lines rest))

unit : (read : Result (List PlacedStatement) AsmFault) → read ≡ onto [] read
unit (Ok items) = refl
unit (Err fault) = refl

nested : (front more : List PlacedStatement) (read : Result (List PlacedStatement) AsmFault) → onto front (onto more read) ≡ onto (front ++ more) read
nested front more (Ok items) = ap (λ (xs : List PlacedStatement). Ok xs) (sym (append_assoc front more items))
nested front more (Err fault) = refl

pub no_lines : (n : ℕ) (here : Section) → Chunk n here [] n here []
no_lines n here = record { reads = λ rest. unit (items_from n here (lines rest)) }

pub joined : {n m k : ℕ} {here behind last : Section} {a b : List ℕ} {front more : List PlacedStatement}
    → Chunk n here a m behind front → Chunk m behind b k last more → Chunk n here (a ++ b) k last (front ++ more)
joined {n} {m} {k} {here} {behind} {last} {a} {b} {front} {more} c d = record {
  reads = λ rest.
      ap (λ (t : List ℕ). items_from n here (lines t)) (append_assoc a b rest)
      ∙ c.reads (b ++ rest)
      ∙ ap (onto front) (d.reads rest)
      ∙ nested front more (items_from k last (lines rest));
}

-- One line.

cut : (text rest : List ℕ) (tokens : List Token) → Reads text tokens → lines (line text ++ rest) ≡ text ∷ lines rest
cut text rest tokens r =
    ap lines (append_assoc text (10 ∷ []) rest) ∙ slice_split_at (λ b. b == 10) text 10 rest (no_newline text r.ascii) refl

one_line : (n : ℕ) (here : Section) (text : List ℕ) (tokens : List Token) (s : Statement) → Reads text tokens
    → statement_of here (after_labels tokens) ≡ Ok s
    → line_items n here text ≡ Ok (map (label_item n here) (labels_of tokens) ++ statement_items n here s, section_after here s)
unfolding line_items
one_line n here text tokens s r means =
    ap (λ (read : Result (List Token) TokenFault). tokens_on_line n read >>= λ ts. on_line n (statement_of here (after_labels ts)) >>= λ s. Ok (map (label_item n here) (labels_of ts) ++ statement_items n here s, section_after here s)) (line_reads r)
    ∙ ap (λ (read : Result Statement StatementFault). on_line n read >>= λ s. Ok (map (label_item n here) (labels_of tokens) ++ statement_items n here s, section_after here s)) means

first_line : (n : ℕ) (here : Section) (text : List ℕ) (others : List (List ℕ)) (items : List PlacedStatement) (behind : Section)
    → line_items n here text ≡ Ok (items, behind) → items_from n here (text ∷ others) ≡ onto items (items_from (n + 1) behind others)
unfolding items_from
first_line n here text others items behind is =
    ap (λ (read : Result (List PlacedStatement × Section) AsmFault). read >>= λ first. items_from (n + 1) first.1 others >>= λ more. Ok (first.0 ++ more)) is

pub line_chunk : (n : ℕ) (here : Section) {text : List ℕ} {tokens : List Token} (s : Statement) → Reads text tokens
    → statement_of here (after_labels tokens) ≡ Ok s
    → Chunk n here (line text) (n + 1) (section_after here s) (map (label_item n here) (labels_of tokens) ++ statement_items n here s)
line_chunk n here {text} {tokens} s r means = record {
  reads = λ rest.
      ap (items_from n here) (cut text rest tokens r)
      ∙ first_line n here text (lines rest) _ (section_after here s) (one_line n here text tokens s r means);
}

-- the items of a text that is such a chunk
pub all_items : {n m : ℕ} {here behind : Section} {text : List ℕ} {items : List PlacedStatement} → Chunk n here text m behind items
    → items_from n here (lines text) ≡ Ok items
unfolding items_from line_items line_tokens tokens_after
all_items {n} {m} {here} {behind} {text} {items} c =
    ap (λ (t : List ℕ). items_from n here (lines t)) (sym (append-nil text))
    ∙ c.reads []
    ∙ ap (λ (xs : List PlacedStatement). Ok xs) (append-nil items)
