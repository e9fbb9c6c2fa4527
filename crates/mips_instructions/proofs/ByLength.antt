-- A mnemonic is found among those whose words are as long as its own.
use Rattle.std.proofs.Common.{◌≡◌, ℕ, List, [], ◌∷◌, Bool, true, false, cond, eqb, length, Some, refl, ap, sym, ◌∙◌}
use Rattle.std.specs.List.{filter}
use Rattle.std.specs.Str.{bytes_eq}
use Rattle.std.proofs.lemmas.Bool.{cond-false, eqb-false}
use Rattle.std.proofs.lemmas.Slice.Eq.{bytes_eq-Decides}
use Rattle.mips_instructions.specs.declared.instruction.Mnemonic.{Mnemonic}
use Rattle.mips_instructions.specs.InstructionTable.{mnemonic_named}

is_false : (b : Bool) → (b ≡ true → ⊥) → b ≡ false
is_false true h = absurd (h refl)
is_false false h = refl

other_length : (xs word : List ℕ) (n : ℕ) → length word ≡ n → eqb (length xs) n ≡ false → bytes_eq xs word ≡ false
other_length xs word n size other =
    is_false (bytes_eq xs word) (λ same. eqb-false (length xs) n other (ap length ((bytes_eq-Decides xs word).0 same) ∙ size))

kept : (word : List ℕ) (row : List ℕ × Mnemonic) (some all : List (List ℕ × Mnemonic)) (has : Bool)
    → (has ≡ false → bytes_eq row.0 word ≡ false) → mnemonic_named word some ≡ mnemonic_named word all
    → mnemonic_named word (cond has (row ∷ some) some) ≡ mnemonic_named word (row ∷ all)
kept word row some all true other h = ap (λ m. cond (bytes_eq row.0 word) (Some row.1) m) h
kept word row some all false other h = h ∙ sym (cond-false (bytes_eq row.0 word) (Some row.1) (mnemonic_named word all) (other refl))

pub by_length : (word : List ℕ) (n : ℕ) → length word ≡ n → (rows : List (List ℕ × Mnemonic))
    → mnemonic_named word (filter (λ row. eqb (length row.0) n) rows) ≡ mnemonic_named word rows
by_length word n size [] = refl
by_length word n size (row ∷ rows) =
    kept word row (filter (λ row. eqb (length row.0) n) rows) rows (eqb (length row.0) n) (other_length row.0 word n size) (by_length word n size rows)
