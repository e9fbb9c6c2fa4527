-- One piece more.
use Rattle.std.proofs.Common.{◌≡◌, ◌+◌, ◌<◌, [], ◌∷◌, ◌++◌, Bor, List, ℕ, Some, length, map, take, arith, ◌∙◌, ap, sym, subst, inl, inr}
use Rattle.std.specs.Prelude.{slice_get, slice_set, slice_index_or}
use Rattle.std.proofs.lemmas.Bool.{cases_lt}
use Rattle.std.proofs.lemmas.List.{map_more, length-map, get_or-map}
use Rattle.std.proofs.lemmas.Option.{slice_get-get_or}
use Rattle.std.specs.declared.alloc.Global.{Global}
use Rattle.std.specs.declared.vec.Vec.{Vec}
use Rattle.mask_certificate.specs.Blocks.{BlockView, AreOf}
use Rattle.parallel_check.specs.Shares.{AreGroups}
use Rattle.parallel_check.proofs.Groups.{groups_written}
use Rattle.parallel_check.proofs.Places.{written_or_there, written}
use Rattle.parallel_check.proofs.reading.parts_of.Goals as goal

part_more : (pieces : List (Bor (List ℕ))) (parts : List (List ℕ)) (part : List ℕ) (n : ℕ) (d : Bor (List ℕ)) → n < length pieces →
    parts ≡ map (λ piece. piece.now) (take n pieces) → part ≡ (slice_index_or pieces n d).now → parts ++ part ∷ [] ≡ map (λ piece. piece.now) (take (n + 1) pieces)
part_more pieces parts part n d within before here =
    ap (λ (ps : List (List ℕ)). ps ++ part ∷ []) before
    ∙ (ap (λ (p : List ℕ). map (λ (piece : Bor (List ℕ)). piece.now) (take n pieces) ++ p ∷ []) here
    ∙ sym (map_more (λ (piece : Bor (List ℕ)). piece.now) pieces n d within))

-- the blocks that are taken are of the piece
of_piece : (pieces : List (Bor (List ℕ))) (groups : List (Vec BlockView Global)) (n : ℕ) (d : Bor (List ℕ)) (group : Vec BlockView Global) → n < length pieces
    → AreGroups (map (λ piece. piece.now) pieces) groups → slice_get groups n ≡ Some group → AreOf (slice_index_or pieces n d).now group.items
of_piece pieces groups n d group within are there =
    subst (λ (text : List ℕ). AreOf text group.items) (get_or-map (λ (piece : Bor (List ℕ)). piece.now) pieces n d [] within) (are.of n group there)

-- the groups so far are empty
taken_more : (groups : List (Vec BlockView Global)) (n : ℕ) (new : Vec BlockView Global) → n < length groups → new.items ≡ []
    → ((k : ℕ) (group : Vec BlockView Global) → k < n → slice_get groups k ≡ Some group → group.items ≡ [])
    → (k : ℕ) (group : Vec BlockView Global) → k < n + 1 → slice_get (slice_set groups n new) k ≡ Some group → group.items ≡ []
taken_more groups n new within none before k group lower there = elim (cases_lt k n) [
  | inl below ↦ elim (written_or_there groups n k new group there) [
    | inl here ↦ ap (λ (g : Vec BlockView Global). g.items) here.1 ∙ none
    | inr old ↦ before k group below old
  ]
  | inr above ↦
      let same : k ≡ n = omega arith in
      let here = subst (λ (m : ℕ). slice_get (slice_set groups n new) m ≡ Some group) same there in
      ap (λ (g : Vec BlockView Global). g.items) (written groups n new group within here) ∙ none
]

pub with_blocks-requires : goal.with_blocks-requires
with_blocks-requires c =
    let groups = c.loop-number.groups in
    let n = c.loop-number.number in
    let inside : n < length c.args.pieces.now = omega (arith, c.loop-number-test.true) in
    let within : n < length groups = omega (arith, c.loop-number.invariant.1.0.each, length-map c.args.pieces.now (λ (piece : Bor (List ℕ)). piece.now), inside) in
    let there = slice_get-get_or groups n c.index-groups-number.result within in
    subst (λ (group : Vec BlockView Global). AreOf (slice_index_or c.args.pieces.now n record { ref_ptr = (0, 0); now = [] }).now group.items) (sym c.replace-blocks.ensures.value)
    (of_piece c.args.pieces.now groups n record { ref_ptr = (0, 0); now = [] } (slice_index_or groups n c.index-groups-number.result) inside c.loop-number.invariant.1.0 there)

pub loop-number-preserved : goal.loop-number-preserved
loop-number-preserved c =
    let pieces = map (λ (piece : Bor (List ℕ)). piece.now) c.args.pieces.now in
    let groups = c.loop-number.groups in
    let n = c.loop-number.number in
    let before = c.loop-number.invariant in
    let inside : n < length c.args.pieces.now = omega (arith, c.loop-number-test.true) in
    let within : n < length groups = omega (arith, before.1.0.each, length-map c.args.pieces.now (λ (piece : Bor (List ℕ)). piece.now), inside) in
    let none : c.replace-blocks.new.dest.items ≡ [] = ap (λ (g : Vec BlockView Global). g.items) c.replace-blocks.ensures.after ∙ c.new.ensures.items in (
      c.in_ok-push.ensures.items ∙ part_more c.args.pieces.now c.loop-number.parts.items c.with_blocks.result n record { ref_ptr = (0, 0); now = [] } inside before.0 c.with_blocks.ensures,
      (
        groups_written pieces groups n c.replace-blocks.new.dest (λ k d lower. absurd (omega (arith, lower, ap length none))) before.1.0,
        taken_more groups n c.replace-blocks.new.dest within none before.1.1,
      ),
    )
