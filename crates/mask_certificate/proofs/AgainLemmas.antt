-- What is spelled is read again: each line is cut where it was ended, and is what it was spelled from.
use Rattle.std.proofs.Common.{◌≡◌, ℕ, zero, suc, ◌+◌, ◌*◌, ◌/◌, ◌%◌, ◌^◌, ◌<◌, Bool, true, false, cond, not, ◌&&◌, eqb, ltb, leb, List, [], ◌∷◌, ◌++◌, map, length, get_or, take, drop, Option, Some, None, Result, Ok, Err, refl, sym, ◌∙◌, ap, arith, append_assoc, lit<}
use Rattle.std.specs.Prelude.{codes, slice_get, is_none}
use Rattle.std.specs.Char.{is_ascii_digit, digit_value, digit_char}
use Rattle.std.specs.Fmt.{decimal}
use Rattle.std.specs.List.{list_all, flat_map, All, AllByRecursion, before_first, after_first, position_or_len}
use Rattle.std.specs.Str.Parse.{AllDigits, digits_value, digits_value_after}
use Rattle.std.proofs.lemmas.Bool.{agree_below_at, and_from, and_parts, and_left, and_right, not_from_false, le-leb, lt-ltb, le-ltb, ne_eqb, eq-eqb, cond-true, false≢true}
use Rattle.std.proofs.lemmas.Fmt.{decimal_is_IsNumeral, length-decimal-le, decimal_nonempty, first_decimal, decimal_digit}
use Rattle.std.proofs.lemmas.List.{take_at, drop_at, drop-drop, length-append, length-map}
use Rattle.std.proofs.lemmas.List.Elements.{All-from_recursion, recursion_from_All}
use Rattle.std.proofs.lemmas.List.Splits.{slice_split_at}
use Rattle.std.proofs.lemmas.Slice.Eq.{bytes_eq-Decides}
use Rattle.std.proofs.lemmas.Str.{digit_value-digit_char}
use Rattle.std.proofs.lemmas.Str.Parse.{digit_from_value}
use Rattle.std.proofs.Math.Nat.{pow-suc}
use Rattle.task_descriptor.specs.Names.{is_name, continues_name, begins}
use Rattle.mask_certificate.specs.declared.fault.CertFault.{CertFault}
use Rattle.mask_certificate.specs.declared.fault.CertFault.TheVariants.{TaskName, Shape}
use Rattle.mask_certificate.specs.declared.fault.MaskSpelling.{MaskSpelling}
use Rattle.mask_certificate.specs.declared.fault.MaskSpelling.TheVariants.{Narrow, Wide}
use Rattle.mask_certificate.specs.declared.certificate.ListFault.{ListFault}
use Rattle.mask_certificate.specs.Lists.{first_fault, fault_in, Rises, IsCertificate}
use Rattle.mask_certificate.specs.CertificateText.{hexadecimal, entry_text, task_text, tasks_text, cert_text, mask_digits, spelled}
use Rattle.mask_certificate.specs.CertificateReading.{◌>>=◌, is_newline, is_space, is_index, index_in, is_mask_digit, is_mask, mask_in, both, entry_in, name_in, Judged, entry_line, task_line, judged, judged_by, lines_in, entries_in, lists_at, rising, cert_parse, AreNames}
use Rattle.mask_certificate.proofs.LineLemmas.{lines_more}
use Rattle.mask_certificate.proofs.NameLemmas.{judged_named}
use Rattle.mask_certificate.proofs.Rising.{option_or_none, rises_alone}

-- no byte passes a test
abbrev pub Clean : (ℕ → Bool) → List ℕ → Type 0
Clean p xs = AllByRecursion (λ x. p x ≡ false) xs

clean_append : (p : ℕ → Bool) (xs ys : List ℕ) → Clean p xs → Clean p ys → Clean p (xs ++ ys)
clean_append p [] ys a b = b
clean_append p (x ∷ xs) ys a b = (a.0, clean_append p xs ys a.1 b)

-- ---- where a list is cut

pub cut_at : (p : ℕ → Bool) (xs : List ℕ) (y : ℕ) (ys : List ℕ) → Clean p xs → p y ≡ true → position_or_len p (xs ++ y ∷ ys) ≡ length xs
cut_at p [] y ys clean at = ap (λ b. cond (not b) (1 + position_or_len p ys) 0) at
cut_at p (x ∷ xs) y ys clean at =
    let rest = cut_at p xs y ys clean.1 at in
    ap (λ b. cond (not b) (1 + position_or_len p (xs ++ y ∷ ys)) 0) clean.0 ∙ omega arith

before_cut : (p : ℕ → Bool) (xs : List ℕ) (y : ℕ) (ys : List ℕ) → Clean p xs → p y ≡ true → before_first p (xs ++ y ∷ ys) ≡ xs
before_cut p xs y ys clean at = ap (λ n. take n (xs ++ y ∷ ys)) (cut_at p xs y ys clean at) ∙ take_at xs (y ∷ ys) (length xs) refl

after_cut : (p : ℕ → Bool) (xs : List ℕ) (y : ℕ) (ys : List ℕ) → Clean p xs → p y ≡ true → after_first p (xs ++ y ∷ ys) ≡ ys
after_cut p xs y ys clean at =
    ap (λ n. drop (n + 1) (xs ++ y ∷ ys)) (cut_at p xs y ys clean at)
    ∙ sym (drop-drop 1 (length xs) (xs ++ y ∷ ys))
    ∙ ap (drop 1) (drop_at xs (y ∷ ys) (length xs) refl)

-- ---- decimal digits

digit_test : (c : ℕ) → digit_value c < 10 → (is_ascii_digit c ≡ true) × (is_space c ≡ false) × (is_newline c ≡ false)
digit_test c small =
    let within = digit_from_value c small in (
      and_from (leb 48 c) (leb c 57) (le-leb 48 c within.0) (le-leb c 57 within.1),
      ne_eqb c 32 (λ e. omega (arith, within.0)),
      ne_eqb c 10 (λ e. omega (arith, within.0)),
    )

digits_pass : (ds : List ℕ) → AllDigits 10 ds → (list_all is_ascii_digit ds ≡ true) × Clean is_space ds × Clean is_newline ds
digits_pass [] h = (refl, tt, tt)
digits_pass (c ∷ cs) h =
    let one = digit_test c h.0 in
    let more = digits_pass cs h.1 in
    (and_from (is_ascii_digit c) (list_all is_ascii_digit cs) one.0 more.0, (one.1, more.1), (one.2, more.2))

no_zero_first : (n : ℕ) → n < 2 ^ 64 → (eqb (get_or (decimal n) 0 0) 48 && ltb 1 (length (decimal n))) ≡ false
no_zero_first zero small = and_right _ _ (le-ltb 1 (length (decimal zero)) (omega (arith, ap length (decimal_digit 0 (lit< tt)))))
no_zero_first (suc n) small =
    let some : 0 < suc n = omega arith in
    let first : 48 < get_or (decimal (suc n)) 0 0 = first_decimal (suc n) some small in
    and_left _ _ (ne_eqb (get_or (decimal (suc n)) 0 0) 48 (λ (e : get_or (decimal (suc n)) 0 0 ≡ 48). omega arith))

pub index_read : (n : ℕ) → n < 100000 → (index_in (decimal n) ≡ Some n) × Clean is_space (decimal n) × Clean is_newline (decimal n)
index_read n few =
    let small : n < 2 ^ 64 = omega arith in
    let numeral = decimal_is_IsNumeral n small in
    let pass = digits_pass (decimal n) numeral.0.1 in
    let right : is_index (decimal n) ≡ true =
    and_from _ _ (le-leb 1 (length (decimal n)) (decimal_nonempty n small))
    (and_from _ _ (le-leb (length (decimal n)) 5 (length-decimal-le 5 n (lit< tt) (omega arith) small)) (and_from _ _ (not_from_false _ (no_zero_first n small)) pass.0)) in
    (cond-true (is_index (decimal n)) (Some (digits_value 10 (decimal n))) None right ∙ ap (λ (m : ℕ). Some m) numeral.1, pass.1, pass.2)

-- ---- hexadecimal digits

digit_right : (d : ℕ) → d < 16 → (is_mask_digit (digit_char d) ≡ true) × (is_newline (digit_char d) ≡ false)
digit_right d small = (
  agree_below_at (λ d. is_mask_digit (digit_char d)) (λ _. true) 16 d refl small,
  agree_below_at (λ d. is_newline (digit_char d)) (λ _. false) 16 d refl small,
)

list_all-append : (p : ℕ → Bool) (xs ys : List ℕ) → list_all p xs ≡ true → list_all p ys ≡ true → list_all p (xs ++ ys) ≡ true
list_all-append p [] ys a b = b
list_all-append p (x ∷ xs) ys a b =
    let parts = and_parts (p x) (list_all p xs) a in
    and_from (p x) (list_all p (xs ++ ys)) parts.0 (list_all-append p xs ys parts.1 b)

digits_value_after-append : (radix n : ℕ) (xs ys : List ℕ) → digits_value_after radix n (xs ++ ys) ≡ digits_value_after radix (digits_value_after radix n xs) ys
digits_value_after-append radix n [] ys = refl
digits_value_after-append radix n (x ∷ xs) ys = digits_value_after-append radix (n * radix + digit_value x) xs ys

pub record IsHexadecimal (k n : ℕ) (ds : List ℕ) : Type 0 where
  pub long : length ds ≡ k
  pub digits : list_all is_mask_digit ds ≡ true
  pub clean : Clean is_newline ds
  pub value : n < 16 ^ k → digits_value 16 ds ≡ n

pub hexadecimal_read : (k n : ℕ) → IsHexadecimal k n (hexadecimal k n)
hexadecimal_read zero n = record { long = refl; digits = refl; clean = tt; value = λ small. omega arith }
hexadecimal_read (suc k) n =
    let front = hexadecimal_read k (n / 16) in
    let last : n % 16 < 16 = omega arith in
    let right = digit_right (n % 16) last in
    let d = digit_char (n % 16) in
    record {
      long = omega (arith, length-append (hexadecimal k (n / 16)) (d ∷ []), front.long);
      digits = list_all-append is_mask_digit (hexadecimal k (n / 16)) (d ∷ []) front.digits (and_from (is_mask_digit d) true right.0 refl);
      clean = clean_append is_newline (hexadecimal k (n / 16)) (d ∷ []) front.clean (right.1, tt);
      value = λ small.
          let fewer : n / 16 < 16 ^ k = (let power = pow-suc 16 k in omega arith) in
          let value_of_last : digit_value d ≡ n % 16 = digit_value-digit_char (n % 16) (omega arith) in
          digits_value_after-append 16 0 (hexadecimal k (n / 16)) (d ∷ [])
          ∙ ap (λ v. v * 16 + digit_value d) (front.value fewer)
          ∙ ap (λ v. n / 16 * 16 + v) value_of_last
          ∙ omega arith;
    }

pub mask_read : (spelling : MaskSpelling) (n : ℕ) → n < 2 ^ 34 → n < 16 ^ mask_digits spelling → mask_in spelling (hexadecimal (mask_digits spelling) n) ≡ Some n
mask_read spelling n small short =
    let ds = hexadecimal (mask_digits spelling) n in
    let hex = hexadecimal_read (mask_digits spelling) n in
    let value = hex.value short in
    let right : is_mask spelling ds ≡ true =
    and_from _ _ (eq-eqb _ _ hex.long) (and_from _ _ hex.digits (lt-ltb _ _ (omega (arith, value)))) in
    cond-true (is_mask spelling ds) (Some (digits_value 16 ds)) None right ∙ ap (λ (m : ℕ). Some m) value

-- ---- lines

line_read : (spelling : MaskSpelling) (line more : List ℕ) → Clean is_newline line → lines_in spelling (line ++ 10 ∷ more) ≡ judged spelling line ∷ lines_in spelling more
line_read spelling line more clean =
    lines_more spelling (line ++ 10 ∷ more) line more (slice_split_at is_newline line 10 more (All-from_recursion (λ x. is_newline x ≡ false) line clean) refl)

-- an entry that has a text
abbrev pub Fits : MaskSpelling → ℕ × ℕ → Type 0
Fits spelling entry = (entry.0 < 100000) × (entry.1 < 2 ^ 34) × (entry.1 < 16 ^ mask_digits spelling)

entry_judged : (spelling : MaskSpelling) (entry : ℕ × ℕ) → Fits spelling entry → judged spelling (decimal entry.0 ++ 32 ∷ hexadecimal (mask_digits spelling) entry.1) ≡ entry_line entry
entry_judged spelling entry fits =
    let index = index_read entry.0 (omega (arith, fits.0)) in
    let mask = hexadecimal (mask_digits spelling) entry.1 in
    let line = decimal entry.0 ++ 32 ∷ mask in
    let is : entry_in spelling line ≡ Some entry =
    ap (λ (ds : List ℕ). both (index_in ds) (mask_in spelling (after_first is_space line))) (before_cut is_space (decimal entry.0) 32 mask index.1 refl)
    ∙ ap (λ (ds : List ℕ). both (index_in (decimal entry.0)) (mask_in spelling ds)) (after_cut is_space (decimal entry.0) 32 mask index.1 refl)
    ∙ ap (λ o. both o (mask_in spelling mask)) index.0
    ∙ ap (both (Some entry.0)) (mask_read spelling entry.1 fits.1 fits.2) in
    ap (λ o. judged_by o (name_in line)) is

pub entry_read : (spelling : MaskSpelling) (entry : ℕ × ℕ) (more : List ℕ) → Fits spelling entry → lines_in spelling (entry_text spelling entry ++ more) ≡ entry_line entry ∷ lines_in spelling more
entry_read spelling entry more fits =
    let index = index_read entry.0 (omega (arith, fits.0)) in
    let mask = hexadecimal (mask_digits spelling) entry.1 in
    let line = decimal entry.0 ++ 32 ∷ mask in
    let joined : entry_text spelling entry ++ more ≡ line ++ 10 ∷ more =
    append_assoc (decimal entry.0) (32 ∷ (mask ++ 10 ∷ [])) more
    ∙ ap (λ (t : List ℕ). decimal entry.0 ++ 32 ∷ t) (append_assoc mask (10 ∷ []) more)
    ∙ sym (append_assoc (decimal entry.0) (32 ∷ mask) (10 ∷ more)) in
    ap (lines_in spelling) joined
    ∙ line_read spelling line more (clean_append is_newline (decimal entry.0) (32 ∷ mask) index.2 (refl, (hexadecimal_read (mask_digits spelling) entry.1).clean))
    ∙ ap (λ j. j ∷ lines_in spelling more) (entry_judged spelling entry fits)

entries_read : (spelling : MaskSpelling) (list : List (ℕ × ℕ)) (more : List ℕ) → AllByRecursion (Fits spelling) list
    → lines_in spelling (flat_map (entry_text spelling) list ++ more) ≡ map entry_line list ++ lines_in spelling more
entries_read spelling [] more fits = refl
entries_read spelling (entry ∷ entries) more fits =
    ap (lines_in spelling) (append_assoc (entry_text spelling entry) (flat_map (entry_text spelling) entries) more)
    ∙ entry_read spelling entry (flat_map (entry_text spelling) entries ++ more) fits.0
    ∙ ap (λ (ls : List Judged). entry_line entry ∷ ls) (entries_read spelling entries more fits.1)

entries_front : (list : List (ℕ × ℕ)) (lines : List Judged) → entries_in lines ≡ [] → entries_in (map entry_line list ++ lines) ≡ list
entries_front [] lines none = none
entries_front (entry ∷ entries) lines none = ap (λ (es : List (ℕ × ℕ)). entry ∷ es) (entries_front entries lines none)

entries_behind : (list : List (ℕ × ℕ)) (lines : List Judged) → drop (length list) (map entry_line list ++ lines) ≡ lines
entries_behind list lines = drop_at (map entry_line list) lines (length list) (length-map list entry_line)

-- ---- `task` lines

abbrev pub IsName : List ℕ → Type 0
IsName name = is_name name ≡ true

not_newline : (b : Bool) (c : ℕ) → (c ≡ 10 → b ≡ false) → b ≡ true → is_newline c ≡ false
not_newline b c other passes = ne_eqb c 10 (λ e. absurd (false≢true (sym (other e) ∙ passes)))

name_clean : (ds : List ℕ) → list_all continues_name ds ≡ true → Clean is_newline ds
name_clean [] h = tt
name_clean (c ∷ cs) h =
    let parts = and_parts (continues_name c) (list_all continues_name cs) h in
    (not_newline (continues_name c) c (λ e. ap continues_name e) parts.0, name_clean cs parts.1)

task_judged : (spelling : MaskSpelling) (name : List ℕ) → IsName name → judged spelling (codes "task " ++ name) ≡ task_line name
task_judged spelling name is = judged_named spelling (codes "task " ++ name) name (sym (cond-true (is_name name) (Some name) None is))

task_read : (spelling : MaskSpelling) (name body : List ℕ) → IsName name → lines_in spelling (codes "task " ++ (name ++ 10 ∷ body)) ≡ task_line name ∷ lines_in spelling body
task_read spelling name body is =
    let clean = name_clean name (and_parts (leb (length name) 32 && begins (slice_get name 0)) (list_all continues_name name) is).1 in
    line_read spelling (codes "task " ++ name) body (refl, (refl, (refl, (refl, (refl, clean)))))
    ∙ ap (λ j. j ∷ lines_in spelling body) (task_judged spelling name is)

-- ---- the whole

record IsReadAgain (names : List (List ℕ)) (lists : List (List (ℕ × ℕ))) (lines : List Judged) : Type 0 where
  no_entry : entries_in lines ≡ []
  again : (n : ℕ) → lists_at n names lines ≡ Ok lists

tasks_read : (spelling : MaskSpelling) (names : List (List ℕ)) (lists : List (List (ℕ × ℕ))) → AllByRecursion IsName names → length lists ≡ length names → AllByRecursion (AllByRecursion (Fits spelling)) lists
    → IsReadAgain names lists (lines_in spelling (tasks_text spelling names lists))
tasks_read spelling [] [] are long fit = record { no_entry = refl; again = λ n. refl }
tasks_read spelling [] (list ∷ lists) are long fit = absurd (omega arith)
tasks_read spelling (name ∷ names) [] are long fit = absurd (omega arith)
tasks_read spelling (name ∷ names) (list ∷ lists) are long fit =
    let rest = tasks_read spelling names lists are.1 (omega arith) fit.1 in
    let text = tasks_text spelling names lists in
    let body = flat_map (entry_text spelling) list in
    let lines = lines_in spelling text in
    let joined : task_text spelling name list ++ text ≡ codes "task " ++ (name ++ 10 ∷ (body ++ text)) =
    ap (λ (t : List ℕ). codes "task " ++ t) (append_assoc name (10 ∷ body) text) in
    let read : lines_in spelling (task_text spelling name list ++ text) ≡ task_line name ∷ (map entry_line list ++ lines) =
    ap (lines_in spelling) joined ∙ task_read spelling name (body ++ text) are.0 ∙ ap (λ (ls : List Judged). task_line name ∷ ls) (entries_read spelling list text fit.0) in
    let front = entries_front list lines rest.no_entry in
    record {
      no_entry = ap entries_in read;
      again = λ n.
          let behind = map entry_line list ++ lines in
          let next = n + 1 + length (entries_in behind) in
          ap (lists_at n (name ∷ names)) read
          ∙ ap (λ b. cond {A = Result (List Judged) CertFault} b (Ok behind) (Err (TaskName n)) >>= λ rest. lists_at (n + 1 + length (entries_in rest)) names (drop (length (entries_in rest)) rest) >>= λ lists. Ok (entries_in rest ∷ lists))
          ((bytes_eq-Decides name name).1 refl)
          ∙ ap (λ (es : List (ℕ × ℕ)). lists_at next names (drop (length es) behind) >>= λ lists. Ok (entries_in behind ∷ lists)) front
          ∙ ap (λ (ls : List Judged). lists_at next names ls >>= λ lists. Ok (entries_in behind ∷ lists)) (entries_behind list lines)
          ∙ ap (λ (r : Result (List (List (ℕ × ℕ))) CertFault). r >>= λ lists. Ok (entries_in behind ∷ lists)) (rest.again next)
          ∙ ap (λ (es : List (ℕ × ℕ)). Ok (es ∷ lists)) front;
    }

body_again : (spelling : MaskSpelling) (cert : List (List (ℕ × ℕ))) (names : List (List ℕ)) → AllByRecursion IsName names → length cert ≡ length names → AllByRecursion (AllByRecursion (Fits spelling)) cert → first_fault 0 cert ≡ None
    → lists_at 2 names (lines_in spelling (tasks_text spelling names cert)) >>= rising ≡ Ok cert
body_again spelling cert names are long fit right =
    ap (λ (r : Result (List (List (ℕ × ℕ))) CertFault). r >>= rising) ((tasks_read spelling names cert are long fit).again 2)
    ∙ ap (λ (o : Option ListFault). cond (is_none o) (Ok cert) (Err Shape)) right

text_again : (spelling : MaskSpelling) (cert : List (List (ℕ × ℕ))) (names : List (List ℕ)) → AllByRecursion IsName names → length cert ≡ length names → AllByRecursion (AllByRecursion (Fits spelling)) cert → first_fault 0 cert ≡ None
    → cert_parse (spelled spelling cert names) names ≡ Ok cert
text_again Narrow cert names are long fit right = body_again Narrow cert names are long fit right
text_again Wide cert names are long fit right = body_again Wide cert names are long fit right

-- the masks that a spelling has digits for
abbrev pub Within : MaskSpelling → ℕ × ℕ → Type 0
Within spelling entry = entry.1 < 16 ^ mask_digits spelling

fits_from : (spelling : MaskSpelling) (list : List (ℕ × ℕ)) → Rises list → All (λ entry. entry.1 < 2 ^ 34) list → All (Within spelling) list → AllByRecursion (Fits spelling) list
fits_from spelling list rises masks within = recursion_from_All (Fits spelling) list (λ k d less. (let small : (get_or list k d).0 < 4096 = rises.inside k d less in omega arith, masks k d less, within k d less))

lists_fit : (spelling : MaskSpelling) (lists : List (List (ℕ × ℕ))) (task : ℕ) → first_fault task lists ≡ None → AllByRecursion (All (λ entry. entry.1 < 2 ^ 34)) lists → AllByRecursion (All (Within spelling)) lists
    → AllByRecursion (AllByRecursion (Fits spelling)) lists
lists_fit spelling [] task right masks within = tt
lists_fit spelling (list ∷ lists) task right masks within =
    let parts = option_or_none (fault_in task 0 0 list) (first_fault (task + 1) lists) right in
    (fits_from spelling list (rises_alone list task parts.0) masks.0 within.0, lists_fit spelling lists (task + 1) parts.1 masks.1 within.1)

pub spelled_again : (spelling : MaskSpelling) (cert : List (List (ℕ × ℕ))) (names : List (List ℕ)) → IsCertificate cert → AreNames names → length cert ≡ length names → All (All (Within spelling)) cert
    → cert_parse (spelled spelling cert names) names ≡ Ok cert
spelled_again spelling cert names is are long within =
    text_again spelling cert names (recursion_from_All IsName names are) long
    (lists_fit spelling cert 0 is.rising (recursion_from_All (All (λ (entry : ℕ × ℕ). entry.1 < 2 ^ 34)) cert is.masks) (recursion_from_All (All (Within spelling)) cert within)) is.rising

-- each mask has a text of 16 digits
wide_enough : (list : List (ℕ × ℕ)) → All (λ entry. entry.1 < 2 ^ 34) list → All (Within Wide) list
wide_enough list masks k d less = let small : (get_or list k d).1 < 2 ^ 34 = masks k d less in omega arith

pub certificate_again : (cert : List (List (ℕ × ℕ))) (names : List (List ℕ)) → IsCertificate cert → AreNames names → length cert ≡ length names → cert_parse (cert_text cert names) names ≡ Ok cert
certificate_again cert names is are long = spelled_again Wide cert names is are long (λ k d less. wide_enough (get_or cert k d) (is.masks k d less))
