use Rattle.annotator.proofs.Imports.{◌≡◌, ◌<◌, ℕ, List, length, map, sym, ◌∙◌, ap, subst, arith, length-map, Global, Vec, Marked, lists_of, AreLeading, first_inside, second_inside}
use Rattle.annotator.proofs.Sources.{leading_none, leading_more, length-with_source}
use Rattle.annotator.proofs.leading.leading.Goals as goal

counted : (lists : List (Vec ℕ Global)) → length lists ≡ length (lists_of lists)
counted lists = sym (length-map lists (λ (v : Vec ℕ Global). v.items))

pub loop-i-init : goal.loop-i-init
loop-i-init c =
    leading_none c.args.program.now (length c.code-count.result.now) (lists_of c.in_ok-lists.lists.items) c.in_ok-lists.ensures
    (ap (λ (xs : List Marked). length xs) c.code-count.ensures.value)

pub put-requires : goal.put-requires
put-requires c =
    first_inside c.args.program.now c.loop-i.i (length c.loop-i.lists.items) c.next_inside-next.result c.next_inside-next.ensures.exact
    (counted c.loop-i.lists.items ∙ c.loop-i.invariant.sized)

pub put-requires-in-loop-i : goal.put-requires-in-loop-i
put-requires-in-loop-i c =
    second_inside c.args.program.now c.loop-i.i (length c.put.new.lists.items) c.next_inside-next.result c.next_inside-next.ensures.exact
    (counted c.put.new.lists.items
    ∙ ap (λ (xs : List (List ℕ)). length xs) c.in_ok-put.ensures
    ∙ length-with_source (lists_of c.loop-i.lists.items) c.next_inside-next.result.first c.loop-i.i
    ∙ c.loop-i.invariant.sized)

pub loop-i-preserved : goal.loop-i-preserved
loop-i-preserved c =
    leading_more c.args.program.now c.loop-i.i (lists_of c.loop-i.lists.items) (lists_of c.put.new.lists.items) (lists_of c.put-in-loop-i.new.lists.items)
    c.next_inside-next.result c.next_inside-next.ensures.exact c.in_ok-put.ensures c.in_ok-put-2.ensures c.loop-i.invariant

pub returns : goal.returns
returns c =
    let count : length c.code-count.result.now ≡ length c.args.program.now.code = ap (λ (xs : List Marked). length xs) c.code-count.ensures.value in
    let end : c.loop-i.i ≡ length c.args.program.now.code = omega arith in
    subst (λ (n : ℕ). AreLeading c.args.program.now n (lists_of c.loop-i.lists.items)) end c.loop-i.invariant
