use Rattle.annotator.proofs.Imports.{◌≡◌, ◌+◌, ◌<◌, ◌∷◌, [], ◌++◌, ◌||◌, true, ℕ, List, length, get_or, set, take, ◌∙◌, ap, sym, subst, arith, take_all, take_more, get_or_default, has, Widened, room_of}
use Rattle.annotator.proofs.Widening.{widened_none, widened_same, widened_more}
use Rattle.annotator.proofs.masks.widen.Goals as goal
use Rattle.annotator.proofs.masks.widen.Goals.{in-Some+in_ok-push, in_default}

pub loop-source-init : goal.loop-source-init
loop-source-init c = widened_none c.args.mask c.args.masks.now.items c.args.work.now.items

pub loop-source-preserved : goal.loop-source-preserved
loop-source-preserved c =
    let sources = c.args.sources.now in
    let k = c.loop-source.source-index in
    let i = get_or sources k 0 in
    let old = c.args.masks.now.items in
    let now = c.loop-source.masks.items in
    let waiting = c.args.work.now.items in
    let more : take (k + 1) sources ≡ take k sources ++ i ∷ [] = take_more sources k 0 c.loop-source-test.true in
    let inside : i < length old = c.requires k 0 c.loop-source-test.true in
    let within : i < length now = omega (arith, c.loop-source.invariant.sized) in
    let at : c.index.result.now ≡ get_or now i 0 = c.index.ensures ∙ get_or_default now i c.index.result.now 0 within in
    elim c.match-grown.branch [
      | in-Some+in_ok-push w ↦
          let masks : c.match-grown.masks.items ≡ set now i w.in-Some.joined = λ j. (w.masks-is j).items in
          let work : c.match-grown.work.items ≡ c.loop-source.work.items ++ i ∷ [] = (λ j. (w.work-is j).items) ∙ w.in_ok-push.ensures.items in
          subst (λ (ms : List ℕ). Widened (take (k + 1) sources) c.args.mask old ms waiting c.match-grown.work.items) (sym masks)
          (subst (λ (ws : List ℕ). Widened (take (k + 1) sources) c.args.mask old (set now i w.in-Some.joined) waiting ws) (sym work)
          (widened_more (take k sources) (take (k + 1) sources) i c.args.mask w.in-Some.joined old now waiting c.loop-source.work.items more within
          (λ r. w.in-Some.ensures.members r ∙ ap (λ (n : ℕ). has n r || has c.args.mask r) at)
          (subst (λ (n : ℕ). room_of w.in-Some.joined < room_of n) at w.in-Some.ensures.smaller_room) c.loop-source.invariant))
      | in_default w ↦
          let masks : c.match-grown.masks.items ≡ now = λ j. (w.masks-is j).items in
          let work : c.match-grown.work.items ≡ c.loop-source.work.items = λ j. (w.work-is j).items in
          subst (λ (ms : List ℕ). Widened (take (k + 1) sources) c.args.mask old ms waiting c.match-grown.work.items) (sym masks)
          (subst (λ (ws : List ℕ). Widened (take (k + 1) sources) c.args.mask old now waiting ws) (sym work)
          (widened_same (take k sources) (take (k + 1) sources) i c.args.mask old now waiting c.loop-source.work.items more
          (λ r h. subst (λ (n : ℕ). has n r ≡ true) at (w.in_default.ensures.none r h)) c.loop-source.invariant))
    ]

pub returns : goal.returns
returns c = subst (λ (xs : List ℕ). Widened xs c.args.mask c.args.masks.now.items c.loop-source.masks.items c.args.work.now.items c.loop-source.work.items)
    (take_all c.loop-source.source-index c.args.sources.now (omega arith)) c.loop-source.invariant
