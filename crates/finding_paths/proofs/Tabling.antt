-- A table with one register more: those before it stand where they stood, and it stands at the end.
use Rattle.std.proofs.Common.{◌≡◌, ℕ, ◌+◌, ◌<◌, ◌↔◌, Bool, true, List, [], ◌∷◌, ◌++◌, length, sym, ◌∙◌, ap, subst, inl, inr, arith}
use Rattle.std.specs.Prelude.{slice_index_or}
use Rattle.std.proofs.lemmas.Bool.{cases_lt}
use Rattle.std.proofs.lemmas.List.{get_or_append_left, get_or_push, length_push}
use Rattle.task_descriptor.specs.Listing.{Listing}
use Rattle.task_graph.specs.SearchSteps.{is_marked}
use Rattle.finding_paths.specs.Costly.{ComesUnsent}
use Rattle.finding_paths.specs.Steps.{AreUnsent, IsReleased}

pub one_register_more : (p : Listing) (n : ℕ) (table : List (List Bool)) (marks : List Bool) → AreUnsent p n table → (IsReleased p n → length marks ≡ length p.code)
    → ((i : ℕ) → IsReleased p n → (is_marked marks i ≡ true) ↔ ComesUnsent p n i) → AreUnsent p (n + 1) (table ++ marks ∷ [])
one_register_more p n table marks before width exact = record {
  sized = length_push table marks ∙ ap (λ (k : ℕ). k + 1) before.sized;
  widths = λ r less released. elim (cases_lt r n) [
    | inl earlier ↦ ap (λ (xs : List Bool). length xs) (kept r earlier) ∙ before.widths r earlier released
    | inr last ↦ let same : r ≡ n = omega arith in
        ap (λ (xs : List Bool). length xs) (added r same) ∙ width (subst (λ (k : ℕ). IsReleased p k) same released)
  ];
  exact = λ r i less released. elim (cases_lt r n) [
    | inl earlier ↦ subst (λ (xs : List Bool). (is_marked xs i ≡ true) ↔ ComesUnsent p r i) (sym (kept r earlier)) (before.exact r i earlier released)
    | inr last ↦ let same : r ≡ n = omega arith in
        subst (λ (xs : List Bool). (is_marked xs i ≡ true) ↔ ComesUnsent p r i) (sym (added r same))
        (subst (λ (k : ℕ). (is_marked marks i ≡ true) ↔ ComesUnsent p k i) (sym same) (exact i (subst (λ (k : ℕ). IsReleased p k) same released)))
  ];
}
  where
    kept : (r : ℕ) → r < n → slice_index_or (table ++ marks ∷ []) r [] ≡ slice_index_or table r []
    kept r earlier = get_or_append_left table (marks ∷ []) [] r (omega (arith, before.sized))

    added : (r : ℕ) → r ≡ n → slice_index_or (table ++ marks ∷ []) r [] ≡ marks
    added r same = get_or_push table marks [] r (before.sized ∙ sym same)
