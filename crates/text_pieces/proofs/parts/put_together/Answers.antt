-- A part more.
use Rattle.std.proofs.Common.{◌≡◌, ◌+◌, ◌*◌, ℕ, [], ◌∷◌, ◌++◌, true, length, take, drop, Option, IfSome, is_ok, is_some, sym, ◌∙◌, ap, subst, arith, length-append}
use Rattle.std.specs.declared.alloc.Global.{Global}
use Rattle.std.specs.declared.vec.Vec.{Vec}
use Rattle.text_pieces.proofs.PartLemmas.{on_ok, one_part_more, each_front, each_last}
use Rattle.text_pieces.proofs.parts.put_together.Goals as goal

pub loop-found-preserved : goal.loop-found-preserved
loop-found-preserved c =
    let ok : is_ok c.append.result ≡ true = sym c.ok.ensures.variant ∙ ap is_some c.in_ok-ok.was in
    let is = on_ok c.append.result ok c.append.ensures in
    let before = c.loop-found.yielded in
    let one : length (before ++ c.in-Some.found ∷ []) ≡ length before + 1 = length-append before (c.in-Some.found ∷ []) in
    record {
      bytes = λ bytes parts.
          let stands = λ (i : ℕ) (part : Option (Vec ℕ Global)). IfSome part (λ p. p.items ≡ take c.args.size (drop (c.args.size * i) bytes)) in
          one_part_more c.args.size (length before) _ bytes c.loop-found.text c.in_ok-found.field-0.items c.append.new.self
          (c.loop-found.invariant.bytes bytes (each_front stands before c.in-Some.found parts))
          (subst (stands (length before)) c.in_ok-found.was (each_last stands before c.in-Some.found parts)) is one;
      long = λ parts.
          let full = λ (i : ℕ) (part : Option (Vec ℕ Global)). IfSome part (λ p. length p.items ≡ c.args.size) in
          let front = c.loop-found.invariant.long (each_front full before c.in-Some.found parts) in
          let last : length c.in_ok-found.field-0.items ≡ c.args.size = subst (full (length before)) c.in_ok-found.was (each_last full before c.in-Some.found parts) in
          ap length is ∙ (length-append c.loop-found.text c.in_ok-found.field-0.items ∙ rw (front, last, one) (omega arith));
    }
