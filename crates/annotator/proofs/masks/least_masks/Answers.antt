use Rattle.annotator.proofs.Imports.{◌≡◌, ◌<◌, ◌++◌, ◌-◌, ◌∷◌, [], ℕ, List, length, get_or, take, map, None, sym, ◌∙◌, ap, subst, arith, Global, Vec, get_or_default, get_or-map, length-map, Contains-push, Contains, Listing, lists_of, sources_of, AreLeading, Widened}
use Rattle.annotator.proofs.Spread.{Spread, begins, sources_inside, spreads_on, less_to_do, spread_ends}
use Rattle.annotator.proofs.masks.least_masks.Goals as goal

-- what is taken from the work is an instruction
taken_inside : (n j : ℕ) (waiting rest : List ℕ) → waiting ≡ rest ++ j ∷ [] → ((i : ℕ) → Contains waiting i → i < n) → j < n
taken_inside n j waiting rest is inside = inside j (subst (λ (xs : List ℕ). Contains xs j) (sym is) (Contains-push rest j))

-- the list that is read is that of the sources
read_list : (lists : List (Vec ℕ Global)) (j : ℕ) (list : Vec ℕ Global) (items : List ℕ) → j < length lists → list ≡ get_or lists j list → items ≡ list.items → items ≡ sources_of (lists_of lists) j
read_list lists j list items within is same = same ∙ ap (λ (v : Vec ℕ Global). v.items) is ∙ sym (get_or-map (λ (v : Vec ℕ Global). v.items) lists j list [] within)

list_inside : (p : Listing) (lists : List (Vec ℕ Global)) (j : ℕ) → AreLeading p (length p.code) (lists_of lists) → j < length p.code → j < length lists
list_inside p lists j leading inside = omega (arith, leading.sized, length-map lists (λ (v : Vec ℕ Global). v.items))

pub loop-j-init : goal.loop-j-init
loop-j-init c =
    begins c.args.program.now c.code.result.now c.in_ok-masks.masks.items c.in_ok-work.work.items c.len.result c.code.ensures.value c.in_ok-masks.ensures c.in_ok-work.ensures
    (c.len.ensures ∙ c.in_ok-masks.masks.ok.0)

pub index-mask-requires : goal.index-mask-requires
index-mask-requires c =
    let inside = taken_inside (length c.args.program.now.code) c.in-Some.j c.loop-j.work.items c.pop.new.self.items c.in-Some.ensures.items c.loop-j.invariant.inside in
    omega (arith, c.loop-j.masks.ok.0, c.loop-j.invariant.sized)

pub index-requires : goal.index-requires
index-requires c =
    let inside = taken_inside (length c.args.program.now.code) c.in-Some.j c.loop-j.work.items c.pop.new.self.items c.in-Some.ensures.items c.loop-j.invariant.inside in
    let leading : AreLeading c.args.program.now (length c.args.program.now.code) (lists_of c.in_ok-sources.sources.items) = c.in_ok-sources.ensures in
    omega (arith, c.in_ok-sources.sources.ok.0, leading.sized, length-map c.in_ok-sources.sources.items (λ (v : Vec ℕ Global). v.items))

pub widen-requires : goal.widen-requires
widen-requires c =
    let p = c.args.program.now in
    let leading : AreLeading p (length p.code) (lists_of c.in_ok-sources.sources.items) = c.in_ok-sources.ensures in
    let inside = taken_inside (length p.code) c.in-Some.j c.loop-j.work.items c.pop.new.self.items c.in-Some.ensures.items c.loop-j.invariant.inside in
    sources_inside p (length p.code) (lists_of c.in_ok-sources.sources.items) c.deref.result.now c.loop-j.masks.items c.in-Some.j leading
    (read_list c.in_ok-sources.sources.items c.in-Some.j c.index.result.now c.deref.result.now
    (list_inside p c.in_ok-sources.sources.items c.in-Some.j leading inside) c.index.ensures c.deref.ensures.value)
    c.loop-j.invariant.sized

pub loop-j-smaller : goal.loop-j-smaller
loop-j-smaller c =
    less_to_do c.loop-j.masks.items c.widen.new.masks.items c.loop-j.work.items c.pop.new.self.items c.widen.new.work.items c.in-Some.j c.index-mask.result.now c.deref.result.now
    c.in-Some.ensures.items c.in_ok-widen.ensures

pub loop-j-preserved : goal.loop-j-preserved
loop-j-preserved c =
    let p = c.args.program.now in
    let lists = lists_of c.in_ok-sources.sources.items in
    let masks = c.loop-j.masks.items in
    let j = c.in-Some.j in
    let leading : AreLeading p (length p.code) lists = c.in_ok-sources.ensures in
    let inside = taken_inside (length p.code) j c.loop-j.work.items c.pop.new.self.items c.in-Some.ensures.items c.loop-j.invariant.inside in
    let within : j < length masks = omega (arith, c.loop-j.invariant.sized) in
    let list : c.deref.result.now ≡ sources_of lists j =
    read_list c.in_ok-sources.sources.items j c.index.result.now c.deref.result.now (list_inside p c.in_ok-sources.sources.items j leading inside) c.index.ensures c.deref.ensures.value in
    let mask : c.index-mask.result.now ≡ get_or masks j 0 = c.index-mask.ensures ∙ get_or_default masks j c.index-mask.result.now 0 within in
    spreads_on p lists masks c.widen.new.masks.items c.loop-j.work.items c.pop.new.self.items c.widen.new.work.items j c.in-Some.ensures.items leading
    (subst (λ (n : ℕ). Widened (sources_of lists j) n masks c.widen.new.masks.items c.pop.new.self.items c.widen.new.work.items) mask
    (subst (λ (xs : List ℕ). Widened xs c.index-mask.result.now masks c.widen.new.masks.items c.pop.new.self.items c.widen.new.work.items) list c.in_ok-widen.ensures))
    c.loop-j.invariant

pub returns : goal.returns
returns c =
    let empty : c.loop-j.work.items ≡ [] =
    c.in_default.ensures.items
    ∙ ap (λ (xs : List ℕ). xs ++ []) (c.in_default.ensures.rest ∙ ap (λ (n : ℕ). take (n - 1) c.loop-j.work.items) c.in_default.ensures.cases.0) in
    spread_ends c.args.program.now c.loop-j.masks.items (subst (λ (xs : List ℕ). Spread c.args.program.now c.loop-j.masks.items xs) empty c.loop-j.invariant)
