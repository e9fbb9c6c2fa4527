-- A read adds what stands behind what was read.
use Rattle.std.proofs.Common.{◌≡◌, ◌+◌, ℕ, true, length, drop, vec_len, is_ok, is_some, sym, ◌∙◌, ap}
use Rattle.std.proofs.lemmas.List.{take-append-le, length-take}
use Rattle.text_pieces.proofs.PartLemmas.{read_more, reads_within}
use Rattle.text_pieces.proofs.parts.fetch_from.Goals as goal

pub loop-chunk-preserved : goal.loop-chunk-preserved
loop-chunk-preserved g c =
    let ok : is_ok c.extend_from_slice.result ≡ true = sym c.ok-in-Ok.ensures.variant ∙ ap is_some c.in_ok-ok-in-Ok.was in
    let front = take-append-le c.in-Ok.count c.read_at.new.buffer (drop c.min-wanted.result c.loop-chunk.chunk) c.in-Ok.ensures.bound.0 in
    let items = rw (ok, front) at c.extend_from_slice.ensures.items in
    let len = rw (ok, front) at c.extend_from_slice.ensures.len in
    let more : vec_len c.loop-chunk.all + c.in-Ok.count ≡ vec_len c.extend_from_slice.new.self =
    ap (λ (n : ℕ). vec_len c.loop-chunk.all + n) c.in-Ok.ensures.bound.1 ∙ sym len in
    let at : c.args.from + c.len-in-loop-chunk-2.result ≡ c.args.from + vec_len c.loop-chunk.all = ap (λ (n : ℕ). c.args.from + n) c.len-in-loop-chunk-2.ensures in
    record {
      within = reads_within (vec_len c.loop-chunk.all) c.in-Ok.count _ c.args.most c.len-in-loop-chunk.result c.min-wanted.result (length c.loop-chunk.chunk) (length c.read_at.new.buffer)
          more c.in-Ok.ensures.bound.0 (c.read_at.auto.buffer ∙ length-take c.min-wanted.result c.loop-chunk.chunk) c.min-wanted.ensures c.len-in-loop-chunk.ensures c.loop-chunk.invariant.within;
      bytes = λ bytes known. read_more c.args.from (vec_len c.loop-chunk.all) (c.args.from + c.len-in-loop-chunk-2.result) c.in-Ok.count (vec_len c.extend_from_slice.new.self) bytes c.loop-chunk.all.items c.read_at.new.buffer c.extend_from_slice.new.self.items
          (c.loop-chunk.invariant.bytes bytes known) (c.in-Ok.ensures.read bytes known).same at items more;
    }
