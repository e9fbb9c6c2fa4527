-- One register more; an instruction that is no release has none.
use Rattle.std.proofs.Common.{◌≡◌, ◌∷◌, [], ℕ, true, false, Some, List, slice_get, get_or, sym, ◌∙◌, subst, arith}
use Rattle.finding_paths.specs.declared.mark.CostlyMark.TheVariants.{SentBefore}
use Rattle.std.proofs.lemmas.Option.{slice_get-get_or}
use Rattle.mips_instructions.specs.Instruction.{released}
use Rattle.task_descriptor.specs.Listing.{Listing}
use Rattle.task_descriptor.specs.declared.descriptor.Marked.{Marked}
use Rattle.finding_paths.specs.Costly.{IsSentBefore}
use Rattle.finding_paths.specs.Candidates.{up_to, of_release}
use Rattle.finding_paths.specs.Steps.{Adds}
use Rattle.finding_paths.proofs.Picking.{up_to_none, up_to_more, adds_one, none_of}
use Rattle.finding_paths.proofs.search.add_sent_before.Goals as goal

pub loop-number-init : goal.loop-number-init
loop-number-init c = up_to_none c.args.program.now (λ r. SentBefore c.args.index r ∷ []) c.args.list.now.items

pub loop-number-preserved : goal.loop-number-preserved
loop-number-preserved c =
    let p = c.args.program.now in
    let of = c.args.index in
    let register = c.in-Some.register in
    let middle = c.loop-number.list.items in
    let new = c.add.new.list.items in
    let one : Adds p (SentBefore of register ∷ []) middle new = adds_one p (SentBefore of register) c.is_sent_before-is_costly.result middle new c.in_ok-add.ensures (c.is_sent_before-is_costly.ensures) in
    up_to_more p (λ r. SentBefore of r ∷ []) c.loop-number.number c.args.list.now.items middle new c.loop-number.invariant
    (subst (λ (r : ℕ). Adds p (SentBefore of r ∷ []) middle new) c.in-Some.ensures.value one)

pub returns : goal.returns
unfolding of_release
returns c =
    let end : c.loop-number.number ≡ 34 = omega arith in
    subst (λ (n : ℕ). Adds c.args.program.now (up_to (λ r. SentBefore c.args.index r ∷ []) n) c.args.list.now.items c.loop-number.list.items) end c.loop-number.invariant

never_sent : (p : Listing) (i r : ℕ) (m : Marked) → slice_get p.code i ≡ Some m → released m.op r ≡ false → IsSentBefore p i r → ⊥
never_sent p i r m there silent sent =
    let same : sent.at ≡ m = cc (sent.is_there, there) in
    no (sym silent ∙ subst (λ (x : Marked). released x.op r ≡ true) same sent.releases)
  where
    no : false ≡ true → ⊥
    no h = cc

pub returns-then-not-is_release : goal.returns-then-not-is_release
unfolding of_release
returns-then-not-is_release c =
    let p = c.args.program.now in
    let i = c.args.index in
    let m = get_or p.code i c.index-code-index.result in
    let there : slice_get p.code i ≡ Some m = slice_get-get_or p.code i c.index-code-index.result c.requires.there in
    let silent : (r : ℕ) → released m.op r ≡ false =
    subst (λ (code : List Marked). (r : ℕ) → released (get_or code i c.index-code-index.result).op r ≡ false) c.code.ensures.value (c.is_release.ensures c.if-not-is_release.true) in
    none_of p (λ r. SentBefore i r) 34 c.args.list.now.items (λ r sent. never_sent p i r m there (silent r) sent)
