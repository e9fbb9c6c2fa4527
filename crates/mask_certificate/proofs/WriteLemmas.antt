-- What is pushed at the end of a text, one piece after another.
use Rattle.std.proofs.Common.{◌≡◌, ℕ, zero, suc, ◌+◌, ◌-◌, ◌/◌, ◌%◌, ◌^◌, ◌<◌, ◌≤◌, List, [], ◌∷◌, ◌++◌, length, get_or, take, sym, ◌∙◌, ap, arith, append_assoc}
use Rattle.std.specs.Char.{digit_char}
use Rattle.std.specs.Fmt.{decimal}
use Rattle.std.specs.List.{flat_map}
use Rattle.std.proofs.lemmas.Fmt.{decimal_digit, decimal_step}
use Rattle.std.proofs.lemmas.List.{take_more, flat_map_more}
use Rattle.mask_certificate.specs.declared.fault.MaskSpelling.TheVariants.{Wide}
use Rattle.mask_certificate.specs.CertificateText.{hexadecimal, entry_text, task_text}

-- a last decimal digit
pub decimal_more : (old text : List ℕ) (n digit : ℕ) → 10 ≤ n → n < 2 ^ 64 → text ≡ old ++ decimal (n / 10) → digit ≡ 48 + n % 10 → text ++ digit ∷ [] ≡ old ++ decimal n
decimal_more old text n digit ten small before last =
    ap (λ (t : List ℕ). t ++ digit ∷ []) before
    ∙ append_assoc old (decimal (n / 10)) (digit ∷ [])
    ∙ ap (λ d. old ++ (decimal (n / 10) ++ d ∷ [])) last
    ∙ ap (λ (t : List ℕ). old ++ t) (sym (decimal_step n ten small))

pub decimal_one : (old text : List ℕ) (n digit : ℕ) → n < 10 → text ≡ old → digit ≡ 48 + n % 10 → text ++ digit ∷ [] ≡ old ++ decimal n
decimal_one old text n digit one before last =
    let same : digit ≡ 48 + n = omega arith in
    ap (λ (t : List ℕ). t ++ digit ∷ []) before
    ∙ ap (λ d. old ++ d ∷ []) same
    ∙ ap (λ (t : List ℕ). old ++ t) (sym (decimal_digit n one))

-- a last hexadecimal digit
pub hexadecimal_more : (old text : List ℕ) (k n digit : ℕ) → 0 < k → text ≡ old ++ hexadecimal (k - 1) (n / 16) → digit ≡ digit_char (n % 16) → text ++ digit ∷ [] ≡ old ++ hexadecimal k n
hexadecimal_more old text zero n digit some before last = absurd (omega arith)
hexadecimal_more old text (suc k) n digit some before last =
    let one : suc k - 1 ≡ k = omega arith in
    ap (λ (t : List ℕ). t ++ digit ∷ []) before
    ∙ ap (λ j. (old ++ hexadecimal j (n / 16)) ++ digit ∷ []) one
    ∙ append_assoc old (hexadecimal k (n / 16)) (digit ∷ [])
    ∙ ap (λ d. old ++ (hexadecimal k (n / 16) ++ d ∷ [])) last

pub entry_joined : (old index mask : List ℕ) → (((old ++ index) ++ 32 ∷ []) ++ mask) ++ 10 ∷ [] ≡ old ++ (index ++ (32 ∷ (mask ++ 10 ∷ [])))
entry_joined old index mask = simp append_assoc

-- one entry more
pub task_more : (old name : List ℕ) (list : List (ℕ × ℕ)) (i : ℕ) (entry : ℕ × ℕ) → i < length list → entry ≡ get_or list i entry
    → (old ++ task_text Wide name (take i list)) ++ entry_text Wide entry ≡ old ++ task_text Wide name (take (i + 1) list)
task_more old name list i entry within is =
    let front = take i list in
    let entries : flat_map (entry_text Wide) front ++ entry_text Wide entry ≡ flat_map (entry_text Wide) (take (i + 1) list) =
    flat_map_more (entry_text Wide) [] front entry
    ∙ ap (λ e. flat_map (entry_text Wide) (front ++ e ∷ [])) is
    ∙ ap (flat_map (entry_text Wide)) (sym (take_more list i entry within)) in
    append_assoc old (task_text Wide name front) (entry_text Wide entry)
    ∙ ap (λ (t : List ℕ). old ++ (116 ∷ 97 ∷ 115 ∷ 107 ∷ 32 ∷ t)) (append_assoc name (10 ∷ flat_map (entry_text Wide) front) (entry_text Wide entry))
    ∙ ap (λ (t : List ℕ). old ++ (116 ∷ 97 ∷ 115 ∷ 107 ∷ 32 ∷ (name ++ 10 ∷ t))) entries
