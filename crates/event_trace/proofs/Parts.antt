-- Parts of a list, one after the other.
use Rattle.std.proofs.Common.{◌≡◌, ℕ, List, ◌++◌, ap, ◌∙◌, append_assoc}
use Rattle.std.specs.List.{range_with_len}
use Rattle.std.specs.Prelude.{flat_map, Bool}
use Rattle.event_trace.specs.declared.change.Change.{Change}
use Rattle.event_trace.specs.Changes.{register_count, for_registers}
use Rattle.event_trace.specs.Ending.{data_words}

all_registers : (n : ℕ) → n ≡ 34 → n ≡ register_count
unfolding register_count
all_registers n is = is

all_words : (n : ℕ) → n ≡ 16384 → n ≡ data_words
unfolding data_words
all_words n is = is

-- what there is for each register
pub for_each_register : {A : Type 0} (f : ℕ → List A) (before now : List A) (n : ℕ) → n ≡ 34 → now ≡ before ++ flat_map f (range_with_len 0 n) → now ≡ before ++ flat_map f (range_with_len 0 register_count)
for_each_register f before now n all is = is ∙ ap (λ k. before ++ flat_map f (range_with_len 0 k)) (all_registers n all)

-- what there is for each word of data memory
pub for_each_word : {A : Type 0} (f : ℕ → List A) (before now : List A) (n : ℕ) → n ≡ 16384 → now ≡ before ++ flat_map f (range_with_len 0 n) → now ≡ before ++ flat_map f (range_with_len 0 data_words)
for_each_word f before now n all is = is ∙ ap (λ k. before ++ flat_map f (range_with_len 0 k)) (all_words n all)

-- sets that have the same registers
pub same_registers : (set wanted : ℕ → Bool) (change : ℕ → Change) → ((r : ℕ) → set r ≡ wanted r) → for_registers set change ≡ for_registers wanted change
same_registers set wanted change same = λ j. for_registers (λ r. same r j) change

-- four parts, written one after the other
pub four_parts : (old one two three four p q r s : List Change) → one ≡ old ++ p → two ≡ one ++ q → three ≡ two ++ r → four ≡ three ++ s → four ≡ old ++ (p ++ (q ++ (r ++ s)))
four_parts old one two three four p q r s first second third fourth =
    fourth
    ∙ ap (λ (front : List Change). front ++ s) (third ∙ ap (λ (front : List Change). front ++ r) (second ∙ ap (λ (front : List Change). front ++ q) first))
    ∙ append_assoc ((old ++ p) ++ q) r s ∙ append_assoc (old ++ p) q (r ++ s) ∙ append_assoc old p (q ++ (r ++ s))
