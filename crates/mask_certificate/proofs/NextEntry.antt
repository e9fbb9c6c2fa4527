-- An entry at the front of a text is found by its parts: its space, the LF at a known distance, its index
-- and its mask. Where one of them is missing, the first line is no entry.
use Rattle.std.proofs.Common.{◌≡◌, ℕ, suc, ◌+◌, ◌-◌, ◌<◌, Bool, true, ltb, List, [], ◌∷◌, ◌++◌, length, get_or, take, drop, Option, Some, None, refl, sym, ◌∙◌, ap, subst, arith, append_assoc, add-one, drop-cons}
use Rattle.std.specs.Fmt.{decimal}
use Rattle.std.specs.List.{position, position_or_len, before_first, after_first}
use Rattle.std.proofs.lemmas.Bool.{eqb-true, ltb-true, lt-ltb, cond-true}
use Rattle.std.proofs.lemmas.List.{take_at, drop_at, drop-drop, take-append-drop, length-append, get_or-drop, take_rest}
use Rattle.std.proofs.lemmas.List.Sums.{split_at_first, passes_at_first}
use Rattle.std.proofs.lemmas.Option.{cond_some}
use Rattle.mask_certificate.specs.declared.fault.MaskSpelling.{MaskSpelling}
use Rattle.mask_certificate.specs.CertificateText.{hexadecimal, entry_text, mask_digits}
use Rattle.mask_certificate.specs.CertificateReading.{is_newline, is_space, index_in, mask_in, entry_in, entry_line, lines_in, entries_in}
use Rattle.text_pieces.proofs.Splits.{split_at, split_nowhere}
use Rattle.mask_certificate.proofs.LineLemmas.{no_entries_last, no_entries_other}
use Rattle.mask_certificate.proofs.AgainLemmas.{Fits, index_read, mask_read, hexadecimal_read, entry_read, cut_at}
use Rattle.mask_certificate.proofs.SpelledLemmas.{index_spelled, mask_spelled, entry_fits}

-- a text is cut at the first byte that passes
cut_first : (p : ℕ → Bool) (byte : ℕ) (text : List ℕ) (k : ℕ) → ((c : ℕ) → p c ≡ true → c ≡ byte) → position p text ≡ Some k → text ≡ take k text ++ (byte ∷ drop (k + 1) text)
cut_first p byte text k only e =
    let found = cond_some (ltb (position_or_len p text) (length text)) (position_or_len p text) k e in
    let less : position_or_len p text < length text = ltb-true _ _ found.0 in
    split_at_first p text 0 less
    ∙ ap (λ (c : ℕ). before_first p text ++ (c ∷ after_first p text)) (only _ (passes_at_first p text 0 less))
    ∙ ap (λ (n : ℕ). take n text ++ (byte ∷ drop (n + 1) text)) found.1

-- ---- an entry is found

module _ (spelling : MaskSpelling) (text : List ℕ) (space index mask : ℕ) (at : position is_space text ≡ Some space)
    (within : space + 1 + mask_digits spelling < length text) (newline : get_or text (space + 1 + mask_digits spelling) 0 ≡ 10)
    (index_is : index_in (take space text) ≡ Some index) (mask_is : mask_in spelling (take (mask_digits spelling) (drop (space + 1) text)) ≡ Some mask) where
  pub entry_found : lines_in spelling text ≡ entry_line (index, mask) ∷ lines_in spelling (drop (space + 1 + mask_digits spelling + 1) text)
  entry_found =
      let digits = mask_digits spelling in
      let end = space + 1 + digits in
      let more = drop (end + 1) text in
      let behind = drop (space + 1) text in
      let first = index_spelled (take space text) index index_is in
      let second = mask_spelled spelling (take digits behind) mask mask_is in
      let last : drop end text ≡ 10 ∷ more =
      drop-cons text end 0 within ∙ ap (λ (c : ℕ). c ∷ drop (suc end) text) newline ∙ ap (λ (n : ℕ). 10 ∷ drop n text) (sym (add-one end)) in
      let rest : behind ≡ hexadecimal digits mask ++ (10 ∷ more) =
      sym (take-append-drop digits behind)
      ∙ ap (λ (t : List ℕ). t ++ drop digits behind) second.same
      ∙ ap (λ (t : List ℕ). hexadecimal digits mask ++ t) (drop-drop digits (space + 1) text ∙ last) in
      let whole : text ≡ entry_text spelling (index, mask) ++ more =
      cut_first is_space 32 text space (λ c h. eqb-true c 32 h) at
      ∙ ap (λ (t : List ℕ). t ++ (32 ∷ behind)) first.0
      ∙ ap (λ (t : List ℕ). decimal index ++ (32 ∷ t)) rest
      ∙ ap (λ (t : List ℕ). decimal index ++ (32 ∷ t)) (sym (append_assoc (hexadecimal digits mask) (10 ∷ []) more))
      ∙ sym (append_assoc (decimal index) (32 ∷ (hexadecimal digits mask ++ 10 ∷ [])) more) in
      ap (lines_in spelling) whole ∙ entry_read spelling (index, mask) more (first.1, second.registers, second.within)

-- ---- the parts of an entry are found

pub record IsEntryAt (spelling : MaskSpelling) (text : List ℕ) (space : ℕ) (entry : ℕ × ℕ) : Type 0 where
  pub within : space + 1 + mask_digits spelling < length text
  pub newline : get_or text (space + 1 + mask_digits spelling) 0 ≡ 10
  pub index : index_in (take space text) ≡ Some entry.0
  pub mask : mask_in spelling (take (mask_digits spelling) (drop (space + 1) text)) ≡ Some entry.1

-- a text that begins with an entry
abbrev pub Begins : MaskSpelling → List ℕ → ℕ × ℕ → List ℕ → Type 0
Begins spelling text entry more = (text ≡ entry_text spelling entry ++ more) × Fits spelling entry

module _ (spelling : MaskSpelling) (text : List ℕ) (entry : ℕ × ℕ) (more : List ℕ) (begins : Begins spelling text entry more) where
  tail : List ℕ
  tail = hexadecimal (mask_digits spelling) entry.1 ++ (10 ∷ more)

  whole : text ≡ decimal entry.0 ++ (32 ∷ tail)
  unfolding tail
  whole =
      begins.0
      ∙ append_assoc (decimal entry.0) (32 ∷ (hexadecimal (mask_digits spelling) entry.1 ++ 10 ∷ [])) more
      ∙ ap (λ (t : List ℕ). decimal entry.0 ++ (32 ∷ t)) (append_assoc (hexadecimal (mask_digits spelling) entry.1) (10 ∷ []) more)

  space_place : position_or_len is_space text ≡ length (decimal entry.0)
  space_place = ap (λ (t : List ℕ). position_or_len is_space t) whole ∙ cut_at is_space (decimal entry.0) 32 tail (index_read entry.0 begins.1.0).1 refl

  pub begins_space : position is_space text ≡ Some (length (decimal entry.0))
  begins_space =
      let long : length text ≡ length (decimal entry.0) + length (32 ∷ tail) = ap (λ (t : List ℕ). length t) whole ∙ length-append (decimal entry.0) (32 ∷ tail) in
      let place = space_place in
      let less : position_or_len is_space text < length text = omega arith in
      cond-true (ltb (position_or_len is_space text) (length text)) (Some (position_or_len is_space text)) None (lt-ltb _ _ less) ∙ ap (λ (n : ℕ). Some n) place

  behind_space : drop (length (decimal entry.0) + 1) text ≡ tail
  behind_space =
      ap (λ (t : List ℕ). drop (length (decimal entry.0) + 1) t) whole
      ∙ sym (drop-drop 1 (length (decimal entry.0)) (decimal entry.0 ++ (32 ∷ tail)))
      ∙ ap (λ (t : List ℕ). drop 1 t) (drop_at (decimal entry.0) (32 ∷ tail) (length (decimal entry.0)) refl)

  -- at the place of the space itself
  parts_at : IsEntryAt spelling text (length (decimal entry.0)) entry
  unfolding tail
  parts_at =
      let k = length (decimal entry.0) in
      let digits = mask_digits spelling in
      let hex = hexadecimal digits entry.1 in
      let long = (hexadecimal_read digits entry.1).long in
      let all : length text ≡ k + length (32 ∷ (hex ++ (10 ∷ more))) = ap (λ (t : List ℕ). length t) whole ∙ length-append (decimal entry.0) (32 ∷ (hex ++ (10 ∷ more))) in
      let part = length-append hex (10 ∷ more) in
      let last : drop (k + 1 + digits) text ≡ 10 ∷ more =
      sym (drop-drop digits (k + 1) text) ∙ ap (λ (t : List ℕ). drop digits t) behind_space ∙ drop_at hex (10 ∷ more) digits long in
      record {
        within = omega arith;
        newline = sym (ap (λ (n : ℕ). get_or text n 0) (let same : k + 1 + digits + 0 ≡ k + 1 + digits = omega arith in same)) ∙ sym (get_or-drop (k + 1 + digits) text 0 0) ∙ ap (λ (t : List ℕ). get_or t 0 0) last;
        index = ap (λ (t : List ℕ). index_in (take k t)) whole ∙ ap index_in (take_at (decimal entry.0) (32 ∷ (hex ++ (10 ∷ more))) k refl) ∙ (index_read entry.0 begins.1.0).0;
        mask = ap (λ (t : List ℕ). mask_in spelling (take digits t)) behind_space ∙ ap (mask_in spelling) (take_at hex (10 ∷ more) digits long) ∙ mask_read spelling entry.1 begins.1.1 begins.1.2;
      }

  pub entry_at : (space : ℕ) → position is_space text ≡ Some space → IsEntryAt spelling text space entry
  entry_at space at =
      let same : length (decimal entry.0) ≡ space = some_same (length (decimal entry.0)) space (sym begins_space ∙ at) in
      subst (λ (n : ℕ). IsEntryAt spelling text n entry) same parts_at
    where
      some_same : (m n : ℕ) → ◌≡◌ {A = Option ℕ} (Some m) (Some n) → m ≡ n
      some_same m n e = cc

-- ---- no entry is found

no_entry_line : (spelling : MaskSpelling) (text : List ℕ) (k : ℕ) (entry : Option (ℕ × ℕ)) → position is_newline text ≡ Some k → entry_in spelling (take k text) ≡ entry
    → ((entry : ℕ × ℕ) (more : List ℕ) → Begins spelling text entry more → ⊥) → entries_in (lines_in spelling text) ≡ []
no_entry_line spelling text k None at is none =
    no_entries_other spelling text (take k text) (take (length text - (k + 1)) (drop (k + 1) text)) (split_at is_newline text k at) is
no_entry_line spelling text k (Some entry) at is none =
    let fits = entry_fits spelling (take k text) entry is in
    let more = drop (k + 1) text in
    let whole : text ≡ entry_text spelling entry ++ more =
    cut_first is_newline 10 text k (λ c h. eqb-true c 10 h) at
    ∙ sym (append_assoc (take k text) (10 ∷ []) more)
    ∙ ap (λ (t : List ℕ). t ++ more) fits.0 in
    absurd (none entry more (whole, fits.1))

no_entry_split : (spelling : MaskSpelling) (text : List ℕ) (place : Option ℕ) → position is_newline text ≡ place
    → ((entry : ℕ × ℕ) (more : List ℕ) → Begins spelling text entry more → ⊥) → entries_in (lines_in spelling text) ≡ []
no_entry_split spelling text None at none = no_entries_last spelling text (split_nowhere is_newline text at)
no_entry_split spelling text (Some k) at none = no_entry_line spelling text k (entry_in spelling (take k text)) at refl none

no_entry : (spelling : MaskSpelling) (text : List ℕ) → ((entry : ℕ × ℕ) (more : List ℕ) → Begins spelling text entry more → ⊥) → entries_in (lines_in spelling text) ≡ []
no_entry spelling text none = no_entry_split spelling text (position is_newline text) refl none

clash : (n : ℕ) → ◌≡◌ {A = Option ℕ} None (Some n) → ⊥
clash n e = absurd cc

pub no_index_in_front : (spelling : MaskSpelling) (text : List ℕ) → ((space : ℕ) → position is_space text ≡ Some space → index_in (take space text) ≡ None) → entries_in (lines_in spelling text) ≡ []
no_index_in_front spelling text none = no_entry spelling text (λ entry more begins.
    let space = length (decimal entry.0) in
    let at = begins_space spelling text entry more begins in
    clash entry.0 (sym (none space at) ∙ (entry_at spelling text entry more begins space at).index))

module _ (spelling : MaskSpelling) (text : List ℕ) (space : ℕ) (at : position is_space text ≡ Some space) where
  pub no_newline : (end : ℕ) → end ≡ space + 1 + mask_digits spelling → ((end < length text) × (get_or text end 0 ≡ 10) → ⊥) → entries_in (lines_in spelling text) ≡ []
  no_newline end is missing = no_entry spelling text (λ entry more begins.
      let parts = entry_at spelling text entry more begins space at in
      missing (subst (λ (n : ℕ). n < length text) (sym is) parts.within, ap (λ (n : ℕ). get_or text n 0) is ∙ parts.newline))

  pub no_mask_there : (size : ℕ) → size ≡ mask_digits spelling → mask_in spelling (take size (drop (space + 1) text)) ≡ None → entries_in (lines_in spelling text) ≡ []
  no_mask_there size is missing = no_entry spelling text (λ entry more begins.
      clash entry.1 (sym missing ∙ ap (λ (n : ℕ). mask_in spelling (take n (drop (space + 1) text))) is ∙ (entry_at spelling text entry more begins space at).mask))

  pub entry_next : (end size index mask : ℕ) → end ≡ space + 1 + mask_digits spelling → size ≡ mask_digits spelling → end < length text → get_or text end 0 ≡ 10
      → index_in (take space text) ≡ Some index → mask_in spelling (take size (drop (space + 1) text)) ≡ Some mask
      → lines_in spelling text ≡ entry_line (index, mask) ∷ lines_in spelling (take (length text - (end + 1)) (drop (end + 1) text))
  entry_next end size index mask end_is size_is within newline index_is mask_is =
      entry_found spelling text space index mask at (subst (λ (n : ℕ). n < length text) end_is within) (ap (λ (n : ℕ). get_or text n 0) (sym end_is) ∙ newline)
      index_is (ap (λ (n : ℕ). mask_in spelling (take n (drop (space + 1) text))) (sym size_is) ∙ mask_is)
      ∙ ap (λ (n : ℕ). entry_line (index, mask) ∷ lines_in spelling (drop (n + 1) text)) (sym end_is)
      ∙ ap (λ (t : List ℕ). entry_line (index, mask) ∷ lines_in spelling t) (sym (take_rest text (end + 1)))
