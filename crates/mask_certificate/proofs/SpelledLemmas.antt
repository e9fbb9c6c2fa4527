-- What is read is spelled: each line is put together again from what it was judged to be, and the lines
-- from the lists that were read.
use Rattle.std.proofs.Common.{◌≡◌, ℕ, zero, suc, ◌+◌, ◌-◌, ◌*◌, ◌/◌, ◌%◌, ◌^◌, ◌<◌, ◌≤◌, Bool, true, false, cond, not, ◌&&◌, ◌||◌, eqb, ltb, leb, List, [], ◌∷◌, ◌++◌, map, length, get_or, take, drop, Option, Some, None, Result, Ok, Err, refl, sym, ◌∙◌, ap, subst, arith, append_assoc, lit<, inl, inr, nat_eq}
use Rattle.std.specs.Prelude.{codes, is_none}
use Rattle.std.specs.Char.{is_ascii_digit, digit_value, digit_char}
use Rattle.std.specs.Fmt.{decimal}
use Rattle.std.specs.Int.{is_in_range}
use Rattle.std.specs.List.{list_all, flat_map, All, AllByRecursion, slice_split, before_first, after_first, position_or_len, join_with_byte, starts_with}
use Rattle.std.specs.Str.Parse.{AllDigits, digits_value}
use Rattle.std.proofs.lemmas.Bool.{agree_below_at, and_from, and_parts, or_cases, leb-true, ltb-true, eqb-true, le-ltb, lt-ltb, eq-eqb, cond-true, cond-false, cases_lt}
use Rattle.std.proofs.lemmas.Fmt.{decimal-digits_value}
use Rattle.std.proofs.lemmas.Int.Digits.{digits_value-lt, digits_value_push}
use Rattle.std.proofs.lemmas.List.{take_more, take_all, drop_all, length-take-le, take-append-drop, nil_from_length}
use Rattle.std.proofs.lemmas.List.Elements.{All-from_recursion}
use Rattle.std.proofs.lemmas.List.Splits.{join_with_byte-slice_split}
use Rattle.std.proofs.lemmas.List.Sums.{split_at_first, passes_at_first}
use Rattle.std.proofs.lemmas.Option.{cond_some}
use Rattle.std.proofs.lemmas.Slice.Eq.{bytes_eq-Decides}
use Rattle.std.proofs.lemmas.Str.Parse.{IsNumeralModel}
use Rattle.std.proofs.Math.Nat.{pow-suc, pow-le-pow_right}
use Rattle.task_descriptor.specs.Names.{is_name}
use Rattle.mask_certificate.specs.declared.certificate.ListFault.{ListFault}
use Rattle.mask_certificate.specs.declared.fault.CertFault.{CertFault}
use Rattle.mask_certificate.specs.declared.fault.CertFault.TheVariants.{Shape}
use Rattle.mask_certificate.specs.declared.fault.MaskSpelling.{MaskSpelling}
use Rattle.mask_certificate.specs.declared.fault.MaskSpelling.TheVariants.{Narrow, Wide}
use Rattle.mask_certificate.specs.Lists.{first_fault}
use Rattle.mask_certificate.proofs.AgainLemmas.{Fits}
use Rattle.mask_certificate.specs.CertificateText.{hexadecimal, entry_text, tasks_text, mask_digits, first_line, Spells}
use Rattle.mask_certificate.specs.CertificateReading.{◌>>=◌, is_newline, is_space, is_index, index_in, is_mask_digit, is_mask, mask_in, both, entry_in, name_in, Judged, entry_line, task_line, no_line, judged, judged_by, lines_of, lines_in, entries_in, opens, misplaced, lists_at, rising, spelling_of, parse_by, cert_parse}

-- ---- conjunctions

three_parts : (a b c : Bool) → (a && (b && c)) ≡ true → (a ≡ true) × (b ≡ true) × (c ≡ true)
three_parts a b c h =
    let rest = and_parts b c (and_parts a (b && c) h).1 in
    ((and_parts a (b && c) h).0, rest.0, rest.1)

no_both : (a b : Bool) → not (a && b) ≡ true → a ≡ true → b ≡ true → ⊥
no_both true true h x y = absurd cc
no_both true false h x y = absurd cc
no_both false b h x y = absurd cc

checked : (m a b : Bool) → (not m || (a && b)) ≡ true → m ≡ true → (a ≡ true) × (b ≡ true)
checked true a b h e = and_parts a b h
checked false a b h e = absurd cc

-- ---- decimal digits

are_digits : (ds : List ℕ) → list_all is_ascii_digit ds ≡ true → AllDigits 10 ds
are_digits [] h = tt
are_digits (c ∷ cs) h =
    let parts = and_parts (is_ascii_digit c) (list_all is_ascii_digit cs) h in
    let ends = and_parts (leb 48 c) (leb c 57) parts.0 in
    let low : 48 ≤ c = leb-true 48 c ends.0 in
    let high : c ≤ 57 = leb-true c 57 ends.1 in
    let value : digit_value c ≡ c - 48 = cond-false (ltb c 48) 36 _ (le-ltb c 48 low) ∙ cond-true (ltb c 58) (c - 48) _ (lt-ltb c 58 (omega arith)) in
    (omega (arith, value), are_digits cs parts.1)

own : IsNumeralModel (AllDigits 10) (digits_value 10)
own = record { to = λ ds h. h; from = λ ds h. h; same = λ ds h. refl }

-- the digits of an index are those that its number has
pub index_spelled : (ds : List ℕ) (n : ℕ) → index_in ds ≡ Some n → (ds ≡ decimal n) × (n < 100000)
index_spelled ds n e =
    let found = cond_some (is_index ds) (digits_value 10 ds) n e in
    let front = and_parts (leb 1 (length ds)) (leb (length ds) 5 && (not (eqb (get_or ds 0 0) 48 && ltb 1 (length ds)) && list_all is_ascii_digit ds)) found.0 in
    let parts = three_parts (leb (length ds) 5) (not (eqb (get_or ds 0 0) 48 && ltb 1 (length ds))) (list_all is_ascii_digit ds) front.1 in
    let some : 1 ≤ length ds = leb-true 1 (length ds) front.0 in
    let few : length ds ≤ 5 = leb-true (length ds) 5 parts.0 in
    let alone : get_or ds 0 0 ≡ 48 → length ds ≡ 1 = λ zero. elim (cases_lt 1 (length ds)) [
      | inl more ↦ absurd (no_both (eqb (get_or ds 0 0) 48) (ltb 1 (length ds)) parts.1 (eq-eqb (get_or ds 0 0) 48 zero) (lt-ltb 1 (length ds) more))
      | inr one ↦ omega arith
    ] in
    let digits = are_digits ds parts.2 in
    let below : digits_value 10 ds < 10 ^ length ds = digits_value-lt 10 ds digits in
    let most : 10 ^ length ds ≤ 10 ^ 5 = pow-le-pow_right (lit< tt) few in
    (sym (decimal-digits_value own ds digits some alone (omega arith)) ∙ ap decimal found.1, omega (arith, found.1))

-- ---- hexadecimal digits

small_digit : (c : ℕ) → is_mask_digit c ≡ true → c < 103
small_digit c h = elim (or_cases (is_ascii_digit c) (is_in_range 97 102 c) h) [
  | inl decimal_digit ↦ let most = leb-true c 57 (and_parts (leb 48 c) (leb c 57) decimal_digit).1 in omega arith
  | inr letter ↦ let most = leb-true c 102 (and_parts (leb 97 c) (leb c 102) letter).1 in omega arith
]

digit_spelled : (c : ℕ) → is_mask_digit c ≡ true → (digit_char (digit_value c) ≡ c) × (digit_value c < 16)
digit_spelled c h =
    let all = agree_below_at (λ c. not (is_mask_digit c) || (eqb (digit_char (digit_value c)) c && ltb (digit_value c) 16)) (λ _. true) 103 c refl (small_digit c h) in
    let parts = checked (is_mask_digit c) (eqb (digit_char (digit_value c)) c) (ltb (digit_value c) 16) all h in
    (eqb-true _ _ parts.0, ltb-true _ _ parts.1)

all_front : (p : ℕ → Bool) (xs : List ℕ) (y : ℕ) → list_all p (xs ++ y ∷ []) ≡ true → (list_all p xs ≡ true) × (p y ≡ true)
all_front p [] y h = (refl, (and_parts (p y) true h).0)
all_front p (x ∷ xs) y h =
    let parts = and_parts (p x) (list_all p (xs ++ y ∷ [])) h in
    let rest = all_front p xs y parts.1 in
    (and_from (p x) (list_all p xs) parts.0 rest.0, rest.1)

record IsHexadecimalText (k : ℕ) (ds : List ℕ) : Type 0 where
  same : ds ≡ hexadecimal k (digits_value 16 ds)
  small : digits_value 16 ds < 16 ^ k

hexadecimal_spelled : (k : ℕ) (ds : List ℕ) → length ds ≡ k → list_all is_mask_digit ds ≡ true → IsHexadecimalText k ds
hexadecimal_spelled zero [] long pass = record { same = refl; small = lit< tt }
hexadecimal_spelled zero (d ∷ ds) long pass = absurd (omega arith)
hexadecimal_spelled (suc k) ds long pass =
    let d = get_or ds k 0 in
    let front = take k ds in
    let cut : front ++ d ∷ [] ≡ ds = sym (take_more ds k 0 (omega arith)) ∙ take_all (k + 1) ds (omega arith) in
    let parts = all_front is_mask_digit front d (subst (λ (xs : List ℕ). list_all is_mask_digit xs ≡ true) (sym cut) pass) in
    let one = digit_spelled d parts.1 in
    let before = hexadecimal_spelled k front (length-take-le k ds (omega arith)) parts.0 in
    let value : digits_value 16 ds ≡ digits_value 16 front * 16 + digit_value d = ap (digits_value 16) (sym cut) ∙ digits_value_push 16 front d in
    let last : digit_value d < 16 = one.1 in
    let high : digits_value 16 front ≡ digits_value 16 ds / 16 = omega arith in
    let low : digit_value d ≡ digits_value 16 ds % 16 = omega arith in
    let fewer : digits_value 16 front < 16 ^ k = before.small in
    let power = pow-suc 16 k in
    record {
      same =
          sym cut ∙ ap (λ (xs : List ℕ). xs ++ d ∷ []) before.same
          ∙ ap (λ (n : ℕ). hexadecimal k n ++ d ∷ []) high
          ∙ ap (λ (c : ℕ). hexadecimal k (digits_value 16 ds / 16) ++ c ∷ []) (sym one.0 ∙ ap digit_char low);
      small = omega arith;
    }

pub record IsMaskText (spelling : MaskSpelling) (n : ℕ) (ds : List ℕ) : Type 0 where
  pub same : ds ≡ hexadecimal (mask_digits spelling) n
  pub registers : n < 2 ^ 34
  pub within : n < 16 ^ mask_digits spelling

pub mask_spelled : (spelling : MaskSpelling) (ds : List ℕ) (n : ℕ) → mask_in spelling ds ≡ Some n → IsMaskText spelling n ds
mask_spelled spelling ds n e =
    let found = cond_some (is_mask spelling ds) (digits_value 16 ds) n e in
    let parts = three_parts (eqb (length ds) (mask_digits spelling)) (list_all is_mask_digit ds) (ltb (digits_value 16 ds) (2 ^ 34)) found.0 in
    let text = hexadecimal_spelled (mask_digits spelling) ds (eqb-true _ _ parts.0) parts.1 in
    record {
      same = text.same ∙ ap (hexadecimal (mask_digits spelling)) found.1;
      registers = subst (λ (m : ℕ). m < 2 ^ 34) found.1 (ltb-true (digits_value 16 ds) (2 ^ 34) parts.2);
      within = subst (λ (m : ℕ). m < 16 ^ mask_digits spelling) found.1 text.small;
    }

-- ---- lines

both_some : (index mask : Option ℕ) (entry : ℕ × ℕ) → both index mask ≡ Some entry → (index ≡ Some entry.0) × (mask ≡ Some entry.1)
both_some None mask entry e = absurd cc
both_some (Some i) None entry e = absurd cc
both_some (Some i) (Some m) entry e =
    let same : ◌≡◌ {A = ℕ × ℕ} (i, m) entry = cc in
    (ap (λ (p : ℕ × ℕ). Some p.0) same, ap (λ (p : ℕ × ℕ). Some p.1) same)

no_mask : (spelling : MaskSpelling) (n : ℕ) → mask_in spelling [] ≡ Some n → ⊥
no_mask Narrow n e = absurd cc
no_mask Wide n e = absurd cc

space_there : (spelling : MaskSpelling) (line : List ℕ) (n : ℕ) → mask_in spelling (after_first is_space line) ≡ Some n → position_or_len is_space line < length line
space_there spelling line n e = elim (cases_lt (position_or_len is_space line) (length line)) [
  | inl less ↦ less
  | inr past ↦
      let nothing : after_first is_space line ≡ [] = drop_all (position_or_len is_space line + 1) line (omega arith) in
      absurd (no_mask spelling n (ap (mask_in spelling) (sym nothing) ∙ e))
]

-- what a line is bounded by
abbrev Bounded : MaskSpelling → ℕ × ℕ → Type 0
Bounded spelling entry = (entry.1 < 2 ^ 34) × (entry.1 < 16 ^ mask_digits spelling)

abbrev Bounds : MaskSpelling → Judged → Type 0
Bounds spelling (entry_line entry) = Bounded spelling entry
Bounds spelling (task_line name) = Unit {0}
Bounds spelling no_line = Unit {0}

-- the text of a line
abbrev line_text : MaskSpelling → Judged → List ℕ
line_text spelling (entry_line entry) = entry_text spelling entry
line_text spelling (task_line name) = codes "task " ++ (name ++ 10 ∷ [])
line_text spelling no_line = []

abbrev IsLine : Judged → Type 0
IsLine (entry_line entry) = Unit {0}
IsLine (task_line name) = Unit {0}
IsLine no_line = ⊥

record IsTextOf (spelling : MaskSpelling) (line : List ℕ) (is : Judged) : Type 0 where
  text : line ++ 10 ∷ [] ≡ line_text spelling is
  bounds : Bounds spelling is

entry_spelled : (spelling : MaskSpelling) (line : List ℕ) (entry : ℕ × ℕ) → entry_in spelling line ≡ Some entry → IsTextOf spelling line (entry_line entry)
entry_spelled spelling line entry e =
    let before = before_first is_space line in
    let after = after_first is_space line in
    let parts = both_some (index_in before) (mask_in spelling after) entry e in
    let mask = mask_spelled spelling after entry.1 parts.1 in
    let there = space_there spelling line entry.1 parts.1 in
    let whole : line ≡ decimal entry.0 ++ (32 ∷ hexadecimal (mask_digits spelling) entry.1) =
    split_at_first is_space line 0 there
    ∙ ap (λ (c : ℕ). before ++ (c ∷ after)) (eqb-true _ 32 (passes_at_first is_space line 0 there))
    ∙ ap (λ (b : List ℕ). b ++ (32 ∷ after)) (index_spelled before entry.0 parts.0).0
    ∙ ap (λ (a : List ℕ). decimal entry.0 ++ (32 ∷ a)) mask.same in
    record {
      text = ap (λ (t : List ℕ). t ++ 10 ∷ []) whole ∙ append_assoc (decimal entry.0) (32 ∷ hexadecimal (mask_digits spelling) entry.1) (10 ∷ []);
      bounds = (mask.registers, mask.within);
    }

-- the same, with bounds on both parts
pub entry_fits : (spelling : MaskSpelling) (line : List ℕ) (entry : ℕ × ℕ) → entry_in spelling line ≡ Some entry → (line ++ 10 ∷ [] ≡ entry_text spelling entry) × Fits spelling entry
entry_fits spelling line entry e =
    let spelled_so = entry_spelled spelling line entry e in
    let parts = both_some (index_in (before_first is_space line)) (mask_in spelling (after_first is_space line)) entry e in
    (spelled_so.text, ((index_spelled (before_first is_space line) entry.0 parts.0).1, spelled_so.bounds.0, spelled_so.bounds.1))

name_spelled : (line name : List ℕ) → name_in line ≡ Some name → line ≡ codes "task " ++ name
name_spelled line name e =
    let found = cond_some (starts_with nat_eq line (codes "task ") && is_name (drop 5 line)) (drop 5 line) name e in
    let starts = (and_parts (starts_with nat_eq line (codes "task ")) (is_name (drop 5 line)) found.0).0 in
    let front : codes "task " ≡ take 5 line = (bytes_eq-Decides (codes "task ") (take 5 line)).0 starts in
    sym (take-append-drop 5 line) ∙ ap (λ (t : List ℕ). t ++ drop 5 line) (sym front) ∙ ap (λ (t : List ℕ). codes "task " ++ t) found.1

judged_spelled : (spelling : MaskSpelling) (line : List ℕ) (entry : Option (ℕ × ℕ)) (name : Option (List ℕ)) → entry_in spelling line ≡ entry → name_in line ≡ name → IsLine (judged_by entry name)
    → IsTextOf spelling line (judged_by entry name)
judged_spelled spelling line (Some entry) name is other line_is = entry_spelled spelling line entry is
judged_spelled spelling line None (Some name) other is line_is = record {
  text = ap (λ (t : List ℕ). t ++ 10 ∷ []) (name_spelled line name is) ∙ append_assoc (codes "task ") name (10 ∷ []);
  bounds = tt;
}
judged_spelled spelling line None None is other line_is = absurd line_is

-- ---- the lines of a text

record AreTextsOf (spelling : MaskSpelling) (text : List ℕ) (lines : List Judged) : Type 0 where
  text_is : text ≡ flat_map (line_text spelling) lines
  bounds : AllByRecursion (Bounds spelling) lines

last_spelled : (spelling : MaskSpelling) (last : List ℕ) (b : Bool) → eqb (length last) 0 ≡ b → AllByRecursion IsLine (cond b [] (no_line ∷ [])) → AreTextsOf spelling last (cond b [] (no_line ∷ []))
last_spelled spelling last true none are = record { text_is = nil_from_length last (eqb-true (length last) 0 none); bounds = tt }
last_spelled spelling last false some are = absurd are.0

parts_spelled : (spelling : MaskSpelling) (parts : List (List ℕ)) → AllByRecursion IsLine (lines_of spelling parts) → AreTextsOf spelling (join_with_byte 10 parts) (lines_of spelling parts)
parts_spelled spelling [] are = record { text_is = refl; bounds = tt }
parts_spelled spelling (last ∷ []) are = last_spelled spelling last (eqb (length last) 0) refl are
parts_spelled spelling (part ∷ next ∷ parts) are =
    let one = judged_spelled spelling part (entry_in spelling part) (name_in part) refl refl are.0 in
    let rest = parts_spelled spelling (next ∷ parts) are.1 in
    let more = join_with_byte 10 (next ∷ parts) in
    record {
      text_is =
          sym (append_assoc part (10 ∷ []) more)
          ∙ ap (λ (t : List ℕ). t ++ more) one.text
          ∙ ap (λ (t : List ℕ). line_text spelling (judged spelling part) ++ t) rest.text_is;
      bounds = (one.bounds, rest.bounds);
    }

text_spelled : (spelling : MaskSpelling) (text : List ℕ) → AllByRecursion IsLine (lines_in spelling text) → AreTextsOf spelling text (lines_in spelling text)
text_spelled spelling text are =
    let parts = parts_spelled spelling (slice_split is_newline text) are in
    record { text_is = sym (join_with_byte-slice_split 10 text) ∙ parts.text_is; bounds = parts.bounds }

-- ---- the lines of lists

abbrev lines_from : List (List ℕ) → List (List (ℕ × ℕ)) → List Judged
lines_from [] lists = []
lines_from (name ∷ names) [] = []
lines_from (name ∷ names) (list ∷ lists) = task_line name ∷ (map entry_line list ++ lines_from names lists)

chosen : {A B : Type 0} (b : Bool) (x : A) (fault : CertFault) (f : A → Result B CertFault) (y : B) → cond {A = Result A CertFault} b (Ok x) (Err fault) >>= f ≡ Ok y → (b ≡ true) × (f x ≡ Ok y)
chosen true x fault f y e = (refl, e)
chosen false x fault f y e = absurd cc

joined : (read : Result (List (List (ℕ × ℕ))) CertFault) (list : List (ℕ × ℕ)) (lists : List (List (ℕ × ℕ))) → read >>= (λ more. Ok (list ∷ more)) ≡ Ok lists
    → (more : List (List (ℕ × ℕ))) × (read ≡ Ok more) × (list ∷ more ≡ lists)
joined (Ok more) list lists e = (more, refl, cc)
joined (Err fault) list lists e = absurd cc

opened : (name : List ℕ) (line : Judged) → opens name line ≡ true → line ≡ task_line name
opened name (entry_line entry) h = absurd cc
opened name (task_line found) h = ap task_line ((bytes_eq-Decides found name).0 h)
opened name no_line h = absurd cc

entries_cut : (lines : List Judged) → lines ≡ map entry_line (entries_in lines) ++ drop (length (entries_in lines)) lines
entries_cut [] = refl
entries_cut (entry_line entry ∷ lines) = ap (λ (ls : List Judged). entry_line entry ∷ ls) (entries_cut lines)
entries_cut (task_line name ∷ lines) = refl
entries_cut (no_line ∷ lines) = refl

record AreFrom (names : List (List ℕ)) (lists : List (List (ℕ × ℕ))) (lines : List Judged) : Type 0 where
  lines_are : lines ≡ lines_from names lists
  complete : length lists ≡ length names

lists_back : (names : List (List ℕ)) (n : ℕ) (lines : List Judged) (lists : List (List (ℕ × ℕ))) → lists_at n names lines ≡ Ok lists → AreFrom names lists lines
lists_back [] n [] lists e =
    let none : [] ≡ lists = cc in
    record { lines_are = refl; complete = sym (ap (λ (ls : List (List (ℕ × ℕ))). length ls) none) }
lists_back [] n (line ∷ lines) lists e = absurd cc
lists_back (name ∷ names) n [] lists e = absurd cc
lists_back (name ∷ names) n (line ∷ lines) lists e =
    let entries = entries_in lines in
    let next = n + 1 + length entries in
    let first = chosen (opens name line) lines (misplaced n line) (λ rest. lists_at (n + 1 + length (entries_in rest)) names (drop (length (entries_in rest)) rest) >>= λ lists. Ok (entries_in rest ∷ lists)) lists e in
    let split = joined (lists_at next names (drop (length entries) lines)) entries lists first.1 in
    let rest = lists_back names next (drop (length entries) lines) split.0 split.1 in
    record {
      lines_are =
          ap (λ (l : Judged). l ∷ lines) (opened name line first.0)
          ∙ ap (λ (ls : List Judged). task_line name ∷ ls) (entries_cut lines)
          ∙ ap (λ (ls : List Judged). task_line name ∷ (map entry_line entries ++ ls)) rest.lines_are
          ∙ ap (lines_from (name ∷ names)) split.2;
      complete = sym (ap (λ (ls : List (List (ℕ × ℕ))). length ls) split.2) ∙ ap suc rest.complete;
    }

entries_are_lines : (list : List (ℕ × ℕ)) (lines : List Judged) → AllByRecursion IsLine lines → AllByRecursion IsLine (map entry_line list ++ lines)
entries_are_lines [] lines are = are
entries_are_lines (entry ∷ entries) lines are = (tt, entries_are_lines entries lines are)

are_lines : (names : List (List ℕ)) (lists : List (List (ℕ × ℕ))) → AllByRecursion IsLine (lines_from names lists)
are_lines [] lists = tt
are_lines (name ∷ names) [] = tt
are_lines (name ∷ names) (list ∷ lists) = (tt, entries_are_lines list (lines_from names lists) (are_lines names lists))

entries_text : (spelling : MaskSpelling) (list : List (ℕ × ℕ)) (lines : List Judged)
    → flat_map (line_text spelling) (map entry_line list ++ lines) ≡ flat_map (entry_text spelling) list ++ flat_map (line_text spelling) lines
entries_text spelling [] lines = refl
entries_text spelling (entry ∷ entries) lines =
    ap (λ (t : List ℕ). entry_text spelling entry ++ t) (entries_text spelling entries lines)
    ∙ sym (append_assoc (entry_text spelling entry) (flat_map (entry_text spelling) entries) (flat_map (line_text spelling) lines))

task_joined : (name entries rest : List ℕ) → (codes "task " ++ (name ++ 10 ∷ [])) ++ (entries ++ rest) ≡ (codes "task " ++ (name ++ (10 ∷ entries))) ++ rest
task_joined name entries rest = simp append_assoc

lines_text : (spelling : MaskSpelling) (names : List (List ℕ)) (lists : List (List (ℕ × ℕ))) → length lists ≡ length names
    → flat_map (line_text spelling) (lines_from names lists) ≡ tasks_text spelling names lists
lines_text spelling [] [] complete = refl
lines_text spelling [] (list ∷ lists) complete = absurd (omega arith)
lines_text spelling (name ∷ names) [] complete = absurd (omega arith)
lines_text spelling (name ∷ names) (list ∷ lists) complete =
    let head = codes "task " ++ (name ++ 10 ∷ []) in
    let entries = flat_map (entry_text spelling) list in
    ap (λ (t : List ℕ). head ++ t) (entries_text spelling list (lines_from names lists))
    ∙ ap (λ (t : List ℕ). head ++ (entries ++ t)) (lines_text spelling names lists (omega arith))
    ∙ task_joined name entries (tasks_text spelling names lists)

entries_bounded : (spelling : MaskSpelling) (list : List (ℕ × ℕ)) (lines : List Judged) → AllByRecursion (Bounds spelling) (map entry_line list ++ lines)
    → AllByRecursion (Bounded spelling) list × AllByRecursion (Bounds spelling) lines
entries_bounded spelling [] lines bounds = (tt, bounds)
entries_bounded spelling (entry ∷ entries) lines bounds =
    let rest = entries_bounded spelling entries lines bounds.1 in
    ((bounds.0, rest.0), rest.1)

lists_bounded : (spelling : MaskSpelling) (names : List (List ℕ)) (lists : List (List (ℕ × ℕ))) → length lists ≡ length names → AllByRecursion (Bounds spelling) (lines_from names lists)
    → AllByRecursion (All (Bounded spelling)) lists
lists_bounded spelling names [] complete bounds = tt
lists_bounded spelling [] (list ∷ lists) complete bounds = absurd (omega arith)
lists_bounded spelling (name ∷ names) (list ∷ lists) complete bounds =
    let parts = entries_bounded spelling list (lines_from names lists) bounds.1 in
    (All-from_recursion (Bounded spelling) list parts.0, lists_bounded spelling names lists (omega arith) parts.1)

-- ---- the whole

header_spelled : (spelling : MaskSpelling) (text : List ℕ) → starts_with nat_eq text (first_line spelling) ≡ true → text ≡ first_line spelling ++ drop 7 text
header_spelled Narrow text h =
    let front : first_line Narrow ≡ take 7 text = (bytes_eq-Decides (first_line Narrow) (take 7 text)).0 h in
    sym (take-append-drop 7 text) ∙ ap (λ (t : List ℕ). t ++ drop 7 text) (sym front)
header_spelled Wide text h =
    let front : first_line Wide ≡ take 7 text = (bytes_eq-Decides (first_line Wide) (take 7 text)).0 h in
    sym (take-append-drop 7 text) ∙ ap (λ (t : List ℕ). t ++ drop 7 text) (sym front)

spelling_named : (wide narrow : Bool) (text : List ℕ) (spelling : MaskSpelling) → starts_with nat_eq text (first_line Wide) ≡ wide → starts_with nat_eq text (first_line Narrow) ≡ narrow
    → cond {A = Option MaskSpelling} wide (Some Wide) (cond narrow (Some Narrow) None) ≡ Some spelling → starts_with nat_eq text (first_line spelling) ≡ true
spelling_named true narrow text spelling w n e = let same : Wide ≡ spelling = cc in subst (λ s. starts_with nat_eq text (first_line s) ≡ true) same w
spelling_named false true text spelling w n e = let same : Narrow ≡ spelling = cc in subst (λ s. starts_with nat_eq text (first_line s) ≡ true) same n
spelling_named false false text spelling w n e = absurd cc

right_lists : (fault : Option ListFault) (lists cert : List (List (ℕ × ℕ))) → cond {A = Result (List (List (ℕ × ℕ))) CertFault} (is_none fault) (Ok lists) (Err Shape) ≡ Ok cert → (lists ≡ cert) × (fault ≡ None)
right_lists None lists cert e = (cc, refl)
right_lists (Some fault) lists cert e = absurd cc

rising_lists : (read : Result (List (List (ℕ × ℕ))) CertFault) (cert : List (List (ℕ × ℕ))) → read >>= rising ≡ Ok cert → (read ≡ Ok cert) × (first_fault 0 cert ≡ None)
rising_lists (Ok lists) cert e =
    let right = right_lists (first_fault 0 lists) lists cert e in
    (ap (λ (ls : List (List (ℕ × ℕ))). Ok ls) right.0, ap (first_fault 0) (sym right.0) ∙ right.1)
rising_lists (Err fault) cert e = absurd cc

body_spelled : (spelling : MaskSpelling) (text : List ℕ) (names : List (List ℕ)) (cert : List (List (ℕ × ℕ))) → starts_with nat_eq text (first_line spelling) ≡ true
    → lists_at 2 names (lines_in spelling (drop 7 text)) >>= rising ≡ Ok cert → Spells text names cert
body_spelled spelling text names cert starts e =
    let body = drop 7 text in
    let right = rising_lists (lists_at 2 names (lines_in spelling body)) cert e in
    let from = lists_back names 2 (lines_in spelling body) cert right.0 in
    let are : AllByRecursion IsLine (lines_in spelling body) = subst (AllByRecursion IsLine) (sym from.lines_are) (are_lines names cert) in
    let texts = text_spelled spelling body are in
    let bounds = lists_bounded spelling names cert from.complete (subst (AllByRecursion (Bounds spelling)) from.lines_are texts.bounds) in
    let all = All-from_recursion (All (Bounded spelling)) cert bounds in
    record {
      spelling = spelling;
      certificate = record { rising = right.1; masks = λ t list less k entry within. (all t list less k entry within).0 };
      complete = from.complete;
      within = λ t list less k entry within. (all t list less k entry within).1;
      text_is =
          header_spelled spelling text starts
          ∙ ap (λ (t : List ℕ). first_line spelling ++ t)
          (texts.text_is ∙ ap (flat_map (line_text spelling)) from.lines_are ∙ lines_text spelling names cert from.complete);
    }

parsed_spelled : (named : Option MaskSpelling) (text : List ℕ) (names : List (List ℕ)) (cert : List (List (ℕ × ℕ))) → spelling_of text ≡ named → parse_by named text names ≡ Ok cert → Spells text names cert
parsed_spelled None text names cert is e = absurd cc
parsed_spelled (Some spelling) text names cert is e =
    body_spelled spelling text names cert
    (spelling_named (starts_with nat_eq text (first_line Wide)) (starts_with nat_eq text (first_line Narrow)) text spelling refl refl is) e

pub certificate_spelled : (text : List ℕ) (names : List (List ℕ)) (cert : List (List (ℕ × ℕ))) → cert_parse text names ≡ Ok cert → Spells text names cert
certificate_spelled text names cert e = parsed_spelled (spelling_of text) text names cert refl e
