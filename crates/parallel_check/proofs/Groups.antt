-- The groups of blocks after one of them was written.
use Rattle.std.proofs.Common.{◌≡◌, ◌∙◌, ◌<◌, ◌+◌, ℕ, List, [], ◌∷◌, Some, inl, inr, length, set, length-set, get_or, refl, sym, ap, subst, arith}
use Rattle.std.specs.Prelude.{slice_get, slice_index_or}
use Rattle.std.specs.List.{All}
use Rattle.std.specs.declared.alloc.Global.{Global}
use Rattle.std.specs.declared.vec.Vec.{Vec}
use Rattle.std.proofs.lemmas.Bool.{cases_lt}
use Rattle.std.proofs.lemmas.List.Elements.{All-tail}
use Rattle.std.proofs.lemmas.List.Sums.{sum_by-cons, sum_by-set}
use Rattle.mask_certificate.specs.Blocks.{BlockView, AreOf}
use Rattle.parallel_check.specs.Shares.{AreGroups, AreInOrder, IsLastFirst, count_in}
use Rattle.parallel_check.proofs.Places.{written_or_there, written}

pub groups_written : (pieces : List (List ℕ)) (groups : List (Vec BlockView Global)) (n : ℕ) (new : Vec BlockView Global) → AreOf (slice_index_or pieces n []) new.items
    → AreGroups pieces groups → AreGroups pieces (set groups n new)
groups_written pieces groups n new of before = record {
  each = length-set groups n new ∙ before.each;
  of = λ k group there. elim (written_or_there groups n k new group there) [
    | inl here ↦ subst (λ (g : Vec BlockView Global). AreOf (slice_index_or pieces k []) g.items) (sym here.1)
        (subst (λ (m : ℕ). AreOf (slice_index_or pieces m []) new.items) (sym here.0) of)
    | inr old ↦ before.of k group old
  ];
}

pub order_more : (groups : List (Vec BlockView Global)) (n : ℕ) (new : Vec BlockView Global) → n < length groups → IsLastFirst new.items
    → AreInOrder n groups → AreInOrder (n + 1) (set groups n new)
order_more groups n new within ordered before = record {
  each = λ k group lower there. elim (cases_lt k n) [
    | inl below ↦ elim (written_or_there groups n k new group there) [
      | inl here ↦ subst (λ (g : Vec BlockView Global). IsLastFirst g.items) (sym here.1) ordered
      | inr old ↦ before.each k group below old
    ]
    | inr above ↦
        let same : k ≡ n = omega arith in
        let here : slice_get (set groups n new) n ≡ Some group = subst (λ (m : ℕ). slice_get (set groups n new) m ≡ Some group) same there in
        subst (λ (g : Vec BlockView Global). IsLastFirst g.items) (sym (written groups n new group within here)) ordered
  ];
}

-- as many elements as before where the list that was written is as long as the one that stood there
pub count_written : {X : Type 0} (lists : List (Vec X Global)) (n : ℕ) (new d : Vec X Global) → n < length lists → length new.items ≡ length (get_or lists n d).items
    → count_in (set lists n new) ≡ count_in lists
count_written {X} lists n new d within same =
    let total = sum_by-set (λ (list : Vec X Global). length list.items) lists n new d within in
    omega (arith, total, same)

-- and one more where it is longer by one
pub count_pushed : {X : Type 0} (lists : List (Vec X Global)) (n : ℕ) (new d : Vec X Global) → n < length lists → length new.items ≡ length (get_or lists n d).items + 1
    → count_in (set lists n new) ≡ count_in lists + 1
count_pushed {X} lists n new d within more =
    let total = sum_by-set (λ (list : Vec X Global). length list.items) lists n new d within in
    omega (arith, total, more)

pub none_in : {X : Type 0} (lists : List (Vec X Global)) → All (λ list. list.items ≡ []) lists → count_in lists ≡ 0
none_in [] all = refl
none_in {X} (list ∷ lists) all =
    let first : list.items ≡ [] = all 0 list (omega arith) in
    let rest = none_in lists (All-tail (λ (l : Vec X Global). l.items ≡ []) list lists all) in
    omega (arith, sum_by-cons (λ (l : Vec X Global). length l.items) list lists, ap length first, rest)
