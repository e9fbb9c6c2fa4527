-- The rest stands behind the parts, which are no longer than the file was said to be.
use Rattle.std.proofs.Common.{◌≡◌, true, length, is_ok, is_some, sym, ◌∙◌, ap, arith, length-append}
use Rattle.std.proofs.Math.Nat.{div-mul-le_self}
use Rattle.text_pieces.proofs.PartLemmas.{on_ok, rest_too, rest_within}
use Rattle.text_pieces.proofs.shared.fetch_parts.Goals as goal

pub returns-clause-bytes : goal.returns-clause-bytes
returns-clause-bytes g c = λ bytes known.
    let ok : is_ok c.append.result ≡ true = sym c.ok.ensures.variant ∙ ap is_some c.in_ok-ok.was in
    let is = on_ok c.append.result ok c.append.ensures in
    let least = div-mul-le_self c.in_ok-length.length c.min-workers.result in
    rest_too _ _ bytes c.in_ok-text.text c.in_ok-rest.rest.items c.append.new.self
    (c.in_ok-text.ensures.bytes bytes known) (c.in_ok-rest.ensures.bytes bytes known) is (omega (arith, least))

pub returns-clause-within : goal.returns-clause-within
returns-clause-within g c =
    let ok : is_ok c.append.result ≡ true = sym c.ok.ensures.variant ∙ ap is_some c.in_ok-ok.was in
    let is = on_ok c.append.result ok c.append.ensures in
    let least = div-mul-le_self c.in_ok-length.length c.min-workers.result in
    rw (is, length-append c.in_ok-text.text c.in_ok-rest.rest.items)
    (rest_within (length c.in_ok-text.text) (length c.in_ok-rest.rest.items) _ _ c.args.most c.in_ok-text.ensures.long c.in_ok-rest.ensures.within least c.if-length-most.false)
