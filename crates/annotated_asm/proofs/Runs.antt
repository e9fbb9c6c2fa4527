-- Bytes after bytes of the same section may stand in one item: layout, names and program are the same.
use Rattle.std.specs.Prelude.{slice_index_or, slice_set}
use Rattle.std.proofs.Common.{◌≡◌, ℕ, ◌+◌, ◌-◌, ◌∷◌, ◌++◌, [], suc, ◌<◌, Bool, true, false, List, Result, Ok, Err, refl, ap, sym, ◌∙◌, length, append_assoc, length-append, if◌then◌else◌, arith, ◌≤◌}
use Rattle.task_descriptor.specs.Listing.{Listing, build_fault}
use Rattle.program_statements.specs.Steps.{◌>>=◌}
use Rattle.program_statements.specs.declared.statement.Section.{Section}
use Rattle.program_statements.specs.declared.statement.Section.TheVariants as section
use Rattle.program_statements.specs.contracts.statement.SectionPartialEq.TheImpl as compared
use Rattle.std.proofs.lemmas.Bool.{le-ltb}
use Rattle.std.proofs.Common.{◌≡◌, ℕ, true, false, refl, sym, true≢false}
use Rattle.annotated_asm.specs.declared.fault.AsmFault.{AsmFault}
use Rattle.annotated_asm.specs.declared.fault.AsmFault.TheVariants as fault
use Rattle.annotated_asm.specs.declared.item.PlacedStatement.{PlacedStatement}
use Rattle.annotated_asm.specs.declared.layout.Layout.{Layout}
use Rattle.annotated_asm.specs.declared.layout.Sizes.{Sizes}
use Rattle.annotated_asm.specs.Tables.{Names}
use Rattle.annotated_asm.specs.Layout.{laid, with_item, grown, counted, no_layout, is_beyond}
use Rattle.annotated_asm.specs.Resolve.{known, is_known, parts, with_part, with_data, no_parts}
use Rattle.annotated_asm.specs.ProgramText.{program_of, parse, built}
use Rattle.program_tokens.specs.Lines.{lines}
use Rattle.task_descriptor.specs.declared.program.BuildFault.TheVariants.{TooMany}
use Rattle.annotated_asm.specs.Alike.{AreAlike}
use Rattle.annotated_asm.specs.Items.{blob, items_from}

bind_same : {A B F : Type 0} (r : Result A F) (f g : A → Result B F) → ((a : A) → f a ≡ g a) → (r >>= f) ≡ (r >>= g)
bind_same (Ok a) f g same = same a
bind_same (Err e) f g same = refl

bind_assoc : {A B C F : Type 0} (r : Result A F) (f : A → Result B F) (g : B → Result C F)
    → (r >>= λ a. f a >>= g) ≡ ((r >>= f) >>= g)
bind_assoc (Ok a) f g = refl
bind_assoc (Err e) f g = refl

laid_append : (front : Layout) (xs ys : List PlacedStatement) → laid front (xs ++ ys) ≡ (laid front xs >>= λ next. laid next ys)
laid_append front [] ys = refl
laid_append front (x ∷ xs) ys =
    bind_same (with_item front x) (λ next. laid next (xs ++ ys)) (λ next. laid next xs >>= λ last. laid last ys) (λ next. laid_append next xs ys)
    ∙ bind_assoc (with_item front x) (λ next. laid next xs) (λ last. laid last ys)

pub parts_append : (labels : Names) (front : Listing) (xs ys : List PlacedStatement)
    → parts labels front (xs ++ ys) ≡ (parts labels front xs >>= λ next. parts labels next ys)
parts_append labels front [] ys = refl
parts_append labels front (x ∷ xs) ys =
    bind_same (with_part labels front x) (λ next. parts labels next (xs ++ ys)) (λ next. parts labels next xs >>= λ last. parts labels last ys) (λ next. parts_append labels next xs ys)
    ∙ bind_assoc (with_part labels front x) (λ next. parts labels next xs) (λ last. parts labels last ys)

if_bind : {F : Type 0} (b : Bool) (r s t : Result (Unit {0}) F) (e : F) → r ≡ (s >>= λ _. t)
    → (if b then r else Err e) ≡ ((if b then s else Err e) >>= λ _. t)
if_bind true r s t e same = same
if_bind false r s t e same = refl

known_append : (labels : Names) (xs ys : List PlacedStatement) → known labels (xs ++ ys) ≡ (known labels xs >>= λ _. known labels ys)
known_append labels [] ys = refl
known_append labels (x ∷ xs) ys =
    if_bind (is_known labels x.statement) (known labels (xs ++ ys)) (known labels xs) (known labels ys) (fault.Unknown x.line) (known_append labels xs ys)

pub alike_same : (xs ys : List PlacedStatement) → xs ≡ ys → AreAlike xs ys
alike_same xs ys same = record {
  layout = λ front. ap (λ (zs : List PlacedStatement). laid front zs) same;
  names = λ labels. ap (λ (zs : List PlacedStatement). known labels zs) same;
  program = λ labels front. ap (λ (zs : List PlacedStatement). parts labels front zs) same;
}

pub alike_then : (xs ys zs : List PlacedStatement) → AreAlike xs ys → AreAlike ys zs → AreAlike xs zs
alike_then xs ys zs first second = record {
  layout = λ front. first.layout front ∙ second.layout front;
  names = λ labels. first.names labels ∙ second.names labels;
  program = λ labels front. first.program labels front ∙ second.program labels front;
}

-- also with more items after them
pub alike_before : (xs ys more : List PlacedStatement) → AreAlike xs ys → AreAlike (xs ++ more) (ys ++ more)
alike_before xs ys more alike = record {
  layout = λ front. laid_append front xs more
      ∙ ap (λ (r : Result Layout AsmFault). r >>= λ next. laid next more) (alike.layout front) ∙ sym (laid_append front ys more);
  names = λ labels. known_append labels xs more
      ∙ ap (λ (r : Result (Unit {0}) AsmFault). r >>= λ _. known labels more) (alike.names labels) ∙ sym (known_append labels ys more);
  program = λ labels front. parts_append labels front xs more
      ∙ ap (λ (r : Result Listing AsmFault). r >>= λ next. parts labels next more) (alike.program labels front) ∙ sym (parts_append labels front ys more);
}

-- and with more items before them
pub alike_behind : (more xs ys : List PlacedStatement) → AreAlike xs ys → AreAlike (more ++ xs) (more ++ ys)
alike_behind more xs ys alike = record {
  layout = λ front. laid_append front more xs
      ∙ bind_same (laid front more) (λ next. laid next xs) (λ next. laid next ys) (λ next. alike.layout next) ∙ sym (laid_append front more ys);
  names = λ labels. known_append labels more xs
      ∙ ap (λ (r : Result (Unit {0}) AsmFault). known labels more >>= λ _. r) (alike.names labels) ∙ sym (known_append labels more ys);
  program = λ labels front. parts_append labels front more xs
      ∙ bind_same (parts labels front more) (λ next. parts labels next xs) (λ next. parts labels next ys) (λ next. alike.program labels next) ∙ sym (parts_append labels front more ys);
}

counted_twice : (size a b : ℕ) → counted size (a + b) ≡ counted (counted size a) b
counted_twice size a b = omega arith

grown_twice : (sizes : Sizes) (here : Section) (a b : ℕ) → grown sizes here (a + b) ≡ grown (grown sizes here a) here b
grown_twice sizes section.Text a b = ap (λ (n : ℕ). record sizes { code = n }) (counted_twice sizes.code a b)
grown_twice sizes section.Data a b = ap (λ (n : ℕ). record sizes { bytes = n }) (counted_twice sizes.bytes a b)
grown_twice sizes section.Rodata a b = ap (λ (n : ℕ). record sizes { fixed = n }) (counted_twice sizes.fixed a b)

data_twice : (p : Listing) (here : Section) (a b : List ℕ) → with_data p here (a ++ b) ≡ with_data (with_data p here a) here b
data_twice p section.Text a b = refl
data_twice p section.Data a b = ap (λ (bytes : List ℕ). record p { bytes = bytes }) (sym (append_assoc p.bytes a b))
data_twice p section.Rodata a b = ap (λ (fixed : List ℕ). record p { fixed = fixed }) (sym (append_assoc p.fixed a b))

one_blob : (first line : ℕ) (here : Section) (a b : List ℕ)
    → AreAlike (blob first here (a ++ b) ∷ []) (blob first here a ∷ blob line here b ∷ [])
one_blob first line here a b = record {
  layout = λ front. ap (λ (sizes : Sizes). let made : Result Layout AsmFault = Ok (record front { sizes = sizes }) in made)
      (ap (λ (n : ℕ). grown front.sizes here n) (length-append a b) ∙ grown_twice front.sizes here (length a) (length b));
  names = λ labels. refl;
  program = λ labels front. ap (λ (p : Listing). let made : Result Listing AsmFault = Ok p in made) (data_twice front here a b);
}

-- the last of a list, changed where it stands
set_from : {X : Type 0} (z : X) (ws : List X) (x y : X) → x ≡ slice_index_or (z ∷ ws) (length ws) x
    → (front : List X) × ((z ∷ ws ≡ front ++ x ∷ []) × (slice_set (z ∷ ws) (length ws) y ≡ front ++ y ∷ []))
set_from {X} z [] x y e = ([], (ap (λ (v : X). v ∷ []) (sym e), refl))
set_from {X} z (w ∷ ws) x y e =
    let rest = set_from w ws x y e in
    (z ∷ rest.0, (ap (λ (vs : List X). z ∷ vs) rest.1.0, ap (λ (vs : List X). z ∷ vs) rest.1.1))

pub set_last : {X : Type 0} (xs : List X) (n : ℕ) (x y : X) → 0 < length xs → n ≡ length xs - 1 → x ≡ slice_index_or xs n x
    → (front : List X) × ((xs ≡ front ++ x ∷ []) × (slice_set xs n y ≡ front ++ y ∷ []))
set_last [] n x y some is e = absurd (omega (arith, some))
set_last {X} (z ∷ ws) n x y some is e =
    let last : suc (length ws) - 1 ≡ length ws = omega arith in
    let same : n ≡ length ws = is ∙ last in
    let rest = set_from z ws x y (e ∙ ap (λ (k : ℕ). slice_index_or (z ∷ ws) k x) same) in
    (rest.0, (rest.1.0, ap (λ (k : ℕ). slice_set (z ∷ ws) k y) same ∙ rest.1.1))

-- bytes added to those of the last item
pub blob_joined : (items : List PlacedStatement) (first line : ℕ) (here : Section) (a b : List ℕ)
    → AreAlike (items ++ blob first here (a ++ b) ∷ []) ((items ++ blob first here a ∷ []) ++ blob line here b ∷ [])
blob_joined items first line here a b =
    alike_then _ _ _ (alike_behind items _ _ (one_blob first line here a b))
    (alike_same _ _ (sym (append_assoc items (blob first here a ∷ []) (blob line here b ∷ []))))

program_alike : (items all : List PlacedStatement) (layout : Layout) → AreAlike items all → program_of items layout ≡ program_of all layout
unfolding program_of
program_alike items all layout alike =
    (λ i. alike.names layout.labels i >>= λ _. if is_beyond layout.sizes then Err (fault.Build TooMany)
    else (alike.program layout.labels no_parts i >>= λ p. built p (build_fault p)))

-- the rest of the reading of a text, from items that mean the same
pub parsed : (text : List ℕ) (items all : List PlacedStatement) (layout : Layout) → length text ≤ 4194304
    → items_from 1 section.Text (lines text) ≡ Ok all → AreAlike items all → laid no_layout items ≡ Ok layout
    → program_of items layout ≡ parse text
unfolding parse
parsed text items all layout short read alike is_laid =
    program_alike items all layout alike
    ∙ ap (λ (r : Result Layout AsmFault). r >>= λ made. program_of all made) (sym is_laid ∙ alike.layout no_layout)
    ∙ ap (λ (r : Result (List PlacedStatement) AsmFault). r >>= λ xs. laid no_layout xs >>= λ made. program_of xs made) (sym read)
    ∙ ap (λ (long : Bool). if long then Err fault.TooLong else (items_from 1 section.Text (lines text) >>= λ xs. laid no_layout xs >>= λ made. program_of xs made)) (sym (le-ltb 4194304 (length text) short))

-- sections that the comparison takes for equal are
pub same_section : (x y : Section) → compared.eq-value.it x y ≡ true → x ≡ y
same_section section.Text section.Text e = refl
same_section section.Data section.Data e = refl
same_section section.Rodata section.Rodata e = refl
same_section _ _ e = absurd (true≢false (sym e))
