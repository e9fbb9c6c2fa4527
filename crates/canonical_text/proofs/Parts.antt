-- The parts of a program's text, one after another, are its canonical text.
use Rattle.canonical_text.proofs.Imports.{◌≡◌, ◌++◌, List, ℕ, Option, ap, ◌∙◌, append_assoc, nat_eq, flat_map, Listing, Marked, Descriptor, canonical_text, start_line, task_line, code_lines, section}
use Rattle.std.proofs.Common.{find, codes}

behind : (t u v a b : List ℕ) → u ≡ t ++ a → v ≡ u ++ b → v ≡ t ++ (a ++ b)
behind t u v a b first second = second ∙ ap (λ (x : List ℕ). x ++ b) first ∙ append_assoc t a b

five_parts : (t₀ t₁ t₂ t₃ t₄ t₅ a b c d e : List ℕ) → t₁ ≡ t₀ ++ a → t₂ ≡ t₁ ++ b → t₃ ≡ t₂ ++ c → t₄ ≡ t₃ ++ d
    → t₅ ≡ t₄ ++ e → t₅ ≡ t₀ ++ (a ++ (b ++ (c ++ (d ++ e))))
five_parts t₀ t₁ t₂ t₃ t₄ t₅ a b c d e first second third fourth fifth =
    behind t₀ t₁ t₅ a (b ++ (c ++ (d ++ e))) first
    (behind t₁ t₂ t₅ b (c ++ (d ++ e)) second (behind t₂ t₃ t₅ c (d ++ e) third (behind t₃ t₄ t₅ d e fourth fifth)))

pub program_written : (p : Listing) (tasks : List Descriptor) (code : List Marked) (bytes fixed : List ℕ) (start : ℕ) (first : Option Descriptor)
    (t₀ t₁ t₂ t₃ t₄ t₅ : List ℕ) → tasks ≡ p.tasks → code ≡ p.code → bytes ≡ p.bytes → fixed ≡ p.fixed → start ≡ p.start
    → first ≡ find (λ t. nat_eq t.entry start) tasks → t₁ ≡ t₀ ++ start_line first → t₂ ≡ t₁ ++ flat_map (task_line tasks) tasks
    → t₃ ≡ t₂ ++ code_lines tasks 0 code → t₄ ≡ t₃ ++ section (codes ".data") bytes → t₅ ≡ t₄ ++ section (codes ".rodata") fixed
    → t₅ ≡ t₀ ++ canonical_text p
program_written p tasks code bytes fixed start first t₀ t₁ t₂ t₃ t₄ t₅ is_tasks is_code is_bytes is_fixed is_start is_first one two three four five =
    five_parts t₀ t₁ t₂ t₃ t₄ t₅ _ _ _ _ _ one two three four five
    ∙ ap (λ (o : Option Descriptor). t₀ ++ (start_line o ++ (flat_map (task_line tasks) tasks ++ (code_lines tasks 0 code ++ (section (codes ".data") bytes ++ section (codes ".rodata") fixed))))) is_first
    ∙ (λ i. t₀ ++ (start_line (find (λ t. nat_eq t.entry (is_start i)) (is_tasks i)) ++ (flat_map (task_line (is_tasks i)) (is_tasks i)
    ++ (code_lines (is_tasks i) 0 (is_code i) ++ (section (codes ".data") (is_bytes i) ++ section (codes ".rodata") (is_fixed i))))))
