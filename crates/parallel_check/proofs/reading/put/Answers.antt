-- A block more of the piece.
use Rattle.std.proofs.Common.{◌≡◌, ◌∙◌, ◌<◌, ◌∷◌, List, ℕ, [], Bor, length, map, arith, ap, sym, subst, length-append}
use Rattle.std.specs.Prelude.{slice_index_or}
use Rattle.std.proofs.lemmas.List.Elements.{All-push}
use Rattle.std.proofs.lemmas.Option.{slice_get-get_or}
use Rattle.std.specs.declared.alloc.Global.{Global}
use Rattle.std.specs.declared.vec.Vec.{Vec}
use Rattle.mask_certificate.specs.Blocks.{BlockView, AreOf}
use Rattle.parallel_check.specs.Shares.{AreGroups}
use Rattle.parallel_check.proofs.Groups.{groups_written, count_pushed}
use Rattle.parallel_check.proofs.reading.put.Goals as goal

inside : (pieces : List (List ℕ)) (groups : List (Vec BlockView Global)) (n : ℕ) → n < length pieces → AreGroups pieces groups → n < length groups
inside pieces groups n within are = omega (arith, are.each, within)

of_old : (pieces : List (List ℕ)) (groups : List (Vec BlockView Global)) (n : ℕ) (d : Vec BlockView Global) → n < length pieces → AreGroups pieces groups
    → AreOf (slice_index_or pieces n []) (slice_index_or groups n d).items
of_old pieces groups n d within are = are.of n (slice_index_or groups n d) (slice_get-get_or groups n d (inside pieces groups n within are))

pub returns-clause-groups : goal.returns-clause-groups
returns-clause-groups c =
    let pieces = map (λ (piece : Bor (List ℕ)). piece.now) c.args.pieces.now in
    let text = slice_index_or pieces c.args.piece [] in
    let old = slice_index_or c.args.groups.now c.args.piece c.index-groups-piece.result in
    let before = of_old pieces c.args.groups.now c.args.piece c.index-groups-piece.result c.requires.within c.requires.groups in
    groups_written pieces c.args.groups.now c.args.piece c.push.new.self
    (subst (λ (blocks : List BlockView). AreOf text blocks) (sym c.in_ok-push.ensures.items) (All-push (λ (block : BlockView). block.text ≡ text) old.items c.args.block before c.requires.of))
    c.requires.groups

pub returns-clause-more : goal.returns-clause-more
returns-clause-more c =
    let pieces = map (λ (piece : Bor (List ℕ)). piece.now) c.args.pieces.now in
    let old = slice_index_or c.args.groups.now c.args.piece c.index-groups-piece.result in
    count_pushed c.args.groups.now c.args.piece c.push.new.self c.index-groups-piece.result (inside pieces c.args.groups.now c.args.piece c.requires.within c.requires.groups)
    (ap length c.in_ok-push.ensures.items ∙ length-append old.items (c.args.block ∷ []))

pub returns-in_err-push-clause-groups : goal.returns-in_err-push-clause-groups
returns-in_err-push-clause-groups c =
    let pieces = map (λ (piece : Bor (List ℕ)). piece.now) c.args.pieces.now in
    let before = of_old pieces c.args.groups.now c.args.piece c.index-groups-piece.result c.requires.within c.requires.groups in
    groups_written pieces c.args.groups.now c.args.piece c.push.new.self
    (subst (λ (blocks : List BlockView). AreOf (slice_index_or pieces c.args.piece []) blocks) (sym c.in_err-push.ensures.items) before)
    c.requires.groups
