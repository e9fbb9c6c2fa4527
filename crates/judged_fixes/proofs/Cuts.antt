-- A text that is cut at a part is cut in one way.
use Rattle.std.proofs.Common.{◌≡◌, ◌∙◌, ℕ, ◌+◌, ◌-◌, ◌<◌, ◌≤◌, List, [], ◌∷◌, ◌++◌, length, take, drop, get_or, sym, ap, refl, subst, arith, drop-drop, length-drop, length-take-le, append_assoc}
use Rattle.std.proofs.lemmas.List.{take-append-drop, take_rest}
use Rattle.std.proofs.lemmas.Grind.{common_steps}
use Rattle.judged_fixes.specs.declared.edit.Edit.{Edit}
use Rattle.judged_fixes.specs.Mended.{IsCut, IsMendedFrom, IsMended}

-- lists that are as long, each before another, are one where both together are
front : (xs ys us vs : List ℕ) → length xs ≡ length us → xs ++ ys ≡ us ++ vs → xs ≡ us
front [] ys [] vs long same = refl
front [] ys (u ∷ us) vs long same = absurd (omega (arith, long))
front (x ∷ xs) ys [] vs long same = absurd (omega (arith, long))
front (x ∷ xs) ys (u ∷ us) vs long same =
    let shorter : length xs ≡ length us = omega (arith, long) in
    let rest : xs ++ ys ≡ us ++ vs = cc in
    let first : x ≡ u = cc in
    rw (first, front xs ys us vs shorter rest) refl

back : (xs ys us vs : List ℕ) → length xs ≡ length us → xs ++ ys ≡ us ++ vs → ys ≡ vs
back [] ys [] vs long same = same
back [] ys (u ∷ us) vs long same = absurd (omega (arith, long))
back (x ∷ xs) ys [] vs long same = absurd (omega (arith, long))
back (x ∷ xs) ys (u ∷ us) vs long same =
    let shorter : length xs ≡ length us = omega (arith, long) in
    let rest : xs ++ ys ≡ us ++ vs = cc in
    back xs ys us vs shorter rest

one_before : (rest : List ℕ) (at : ℕ) (e : Edit) (b c b' c' : List ℕ) → IsCut rest at e b c → IsCut rest at e b' c' → b ≡ b'
one_before rest at e b c b' c' h k =
    front b (h.part ++ c) b' (k.part ++ c') (omega (arith, h.from, k.from)) (sym h.all ∙ k.all)

one_behind : (rest : List ℕ) (at : ℕ) (e : Edit) (b c b' c' : List ℕ) → IsCut rest at e b c → IsCut rest at e b' c' → c ≡ c'
one_behind rest at e b c b' c' h k =
    let rests : h.part ++ c ≡ k.part ++ c' = back b (h.part ++ c) b' (k.part ++ c') (omega (arith, h.from, k.from)) (sym h.all ∙ k.all) in
    back h.part c k.part c' (omega (arith, h.to, k.to)) rests

pub one_text : (at : ℕ) (rest : List ℕ) (es : List Edit) (new other : List ℕ) → IsMendedFrom at rest es new → IsMendedFrom at rest es other → new ≡ other
one_text at rest [] new other h k = h ∙ sym k
one_text at rest (e ∷ es) new other (b, c, m, cut, is, more) (b', c', m', cut', is', more') =
    let before : b ≡ b' = one_before rest at e b c b' c' cut cut' in
    let behind : c ≡ c' = one_behind rest at e b c b' c' cut cut' in
    let same : m ≡ m' = one_text e.to c es m m' more (subst (λ (d : List ℕ). IsMendedFrom e.to d es m') (sym behind) more') in
    is ∙ ap (λ (d : List ℕ). d ++ (e.text ++ m)) before ∙ ap (λ (d : List ℕ). b' ++ (e.text ++ d)) same ∙ sym is'

pub cut_at : (rest : List ℕ) (at : ℕ) (e : Edit) (from to : ℕ) → at + from ≡ e.from → at + to ≡ e.to → from ≤ to → to ≤ length rest
    → IsCut rest at e (take from rest) (take (length rest - to) (drop to rest))
cut_at rest at e from to f t up inside =
    let width : from + (to - from) ≡ to = omega (arith, up) in
    let both : take (to - from) (drop from rest) ++ drop (to - from) (drop from rest) ≡ drop from rest = take-append-drop (to - from) (drop from rest) in
    let end : drop (to - from) (drop from rest) ≡ drop to rest = drop-drop (to - from) from rest ∙ ap (λ n. drop n rest) width in
    let long : length (drop from rest) ≡ length rest - from = length-drop from rest in
    let kept : length (take from rest) ≡ from = length-take-le from rest (omega (arith, up, inside)) in
    let gone : length (take (to - from) (drop from rest)) ≡ to - from = length-take-le (to - from) (drop from rest) (omega (arith, up, inside, long)) in
    subst (λ (d : List ℕ). IsCut rest at e (take from rest) d) (sym (take_rest rest to)) record {
      part = take (to - from) (drop from rest);
      all = sym (take-append-drop from rest) ∙ ap (λ (d : List ℕ). take from rest ++ d) (sym both ∙ ap (λ (d : List ℕ). take (to - from) (drop from rest) ++ d) end);
      from = omega (arith, f, kept);
      to = omega (arith, f, t, up, gone);
    }

-- One edit more.

next_of : (es : List Edit) (i : ℕ) (e : Edit) → i < length es → e ≡ get_or es i e → drop i es ≡ e ∷ drop (i + 1) es
next_of es i e below is = grind (arith, common_steps)

pub next_cut : (at : ℕ) (rest : List ℕ) (es : List Edit) (i : ℕ) (e : Edit) (more : List ℕ) → i < length es → e ≡ get_or es i e
    → IsMendedFrom at rest (drop i es) more → IsMendedFrom at rest (e ∷ drop (i + 1) es) more
next_cut at rest es i e more below is h = subst (λ (d : List Edit). IsMendedFrom at rest d more) (next_of es i e below is) h

pub none_cut : (at : ℕ) (rest : List ℕ) (left : List Edit) (e : Edit) → ((b c : List ℕ) → IsCut rest at e b c → ⊥) → (m : List ℕ) → IsMendedFrom at rest (e ∷ left) m → ⊥
none_cut at rest left e none m (b, c, more, cut, is, h) = none b c cut

pub rest_cut : (at : ℕ) (rest : List ℕ) (left : List Edit) (e : Edit) (before behind m : List ℕ) → IsCut rest at e before behind → IsMendedFrom at rest (e ∷ left) m
    → (more : List ℕ) × IsMendedFrom e.to behind left more
rest_cut at rest left e before behind m cut (b, c, more, cut', is, h) =
    (more, subst (λ (d : List ℕ). IsMendedFrom e.to d left more) (one_behind rest at e b c before behind cut' cut) h)

pub more_made : (text : List ℕ) (es : List Edit) (i : ℕ) (e : Edit) (at : ℕ) (rest made before behind words last : List ℕ) → i < length es → e ≡ get_or es i e
    → IsCut rest at e before behind → words ≡ e.text → last ≡ (made ++ before) ++ words
    → ((more : List ℕ) → IsMendedFrom at rest (drop i es) more → IsMended text es (made ++ more))
    → (more : List ℕ) → IsMendedFrom e.to behind (drop (i + 1) es) more → IsMended text es (last ++ more)
more_made text es i e at rest made before behind words last below is cut same new some more h =
    let all : made ++ (before ++ (e.text ++ more)) ≡ last ++ more = grind (arith, append_assoc, new, same) in
    let whole : IsMendedFrom at rest (e ∷ drop (i + 1) es) (before ++ (e.text ++ more)) = (before, behind, more, cut, refl, h) in
    subst (λ (d : List ℕ). IsMended text es d) all (some (before ++ (e.text ++ more))
    (subst (λ (d : List Edit). IsMendedFrom at rest d (before ++ (e.text ++ more))) (sym (next_of es i e below is)) whole))
