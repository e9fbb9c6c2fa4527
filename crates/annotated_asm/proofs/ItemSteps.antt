-- One line more: its items go after those of the lines before it.
use Rattle.std.proofs.Common.{◌≡◌, ℕ, ◌+◌, List, ◌∷◌, ◌++◌, Result, Ok, Err, ap, sym, ◌∙◌, subst, refl, [], append-nil, Option, Some, None, IfSome, IfNone}
use Rattle.annotated_asm.specs.declared.fault.AsmFault.{AsmFault}
use Rattle.annotated_asm.specs.declared.fault.AsmFault.TheVariants as text
use Rattle.annotated_asm.specs.declared.item.PlacedStatement.{PlacedStatement}
use Rattle.program_statements.specs.declared.statement.Section.{Section}
use Rattle.program_statements.specs.Steps.{◌>>=◌}
use Rattle.annotated_asm.specs.Steps.{FailsText}
use Rattle.annotated_asm.specs.Items.{with_items, line_items, items_from}
use Rattle.program_statements.proofs.Fronts.{with_front, regroup_many, no_front}
use Rattle.annotated_asm.specs.Alike.{AreAlike}
use Rattle.annotated_asm.proofs.Runs.{alike_same, alike_then, alike_before}

abbrev done : List PlacedStatement × Section → Result (List PlacedStatement × Section) AsmFault
done x = Ok x

same_value : (x y : List PlacedStatement × Section) → done x ≡ done y → x ≡ y
same_value x y e = cc

joined : (front new : List PlacedStatement) (behind : Section) (read : Result (List PlacedStatement × Section) AsmFault) (others : Section → Result (List PlacedStatement) AsmFault)
    → with_items front read ≡ Ok (new, behind)
    → with_front front (read >>= λ x. others x.1 >>= λ ys. Ok (x.0 ++ ys)) ≡ with_front new (others behind)
joined front new behind (Ok x) others e =
    let same = same_value (front ++ x.0, x.1) (new, behind) e in
    let items : front ++ x.0 ≡ new = ap (λ (p : List PlacedStatement × Section). p.0) same in
    let section : x.1 ≡ behind = ap (λ (p : List PlacedStatement × Section). p.1) same in
    regroup_many front x.0 (others x.1) ∙ (λ i. with_front (items i) (others (section i)))
joined front new behind (Err f) others e = absurd cc

pub goes_on : (front new : List PlacedStatement) (behind : Section) (n : ℕ) (here : Section) (line : List ℕ) (lines : List (List ℕ)) (total : Result (List PlacedStatement) AsmFault)
    → with_items front (line_items n here line) ≡ Ok (new, behind)
    → with_front front (items_from n here (line ∷ lines)) ≡ total
    → with_front new (items_from (n + 1) behind lines) ≡ total
unfolding items_from
goes_on front new behind n here line lines total e so_far =
    sym (joined front new behind (line_items n here line) (λ section. items_from (n + 1) section lines) e) ∙ so_far

-- no fault is that of a value
no_fault : (A B : Type 0) (e : AsmFault) (x : A) (r : Result B AsmFault) → (let made : Result A AsmFault = Ok x in FailsText e made) → FailsText e r
no_fault A B text.OutOfMemory x r h = tt
no_fault A B e x r h = absurd cc

-- a fault is one, whatever the value would have been
same_fault : (A B : Type 0) (e f : AsmFault) → (let was : Result A AsmFault = Err f in FailsText e was) → (let is : Result B AsmFault = Err f in FailsText e is)
same_fault A B text.OutOfMemory f h = tt
same_fault A B e f h = cc

failed : (e : AsmFault) (front : List PlacedStatement) (read : Result (List PlacedStatement × Section) AsmFault) (others : Section → Result (List PlacedStatement) AsmFault)
    → FailsText e (with_items front read)
    → FailsText e (with_front front (read >>= λ x. others x.1 >>= λ ys. Ok (x.0 ++ ys)))
failed e front (Err f) others h = same_fault (List PlacedStatement × Section) (List PlacedStatement) e f h
failed e front (Ok x) others h = no_fault (List PlacedStatement × Section) (List PlacedStatement) e (front ++ x.0, x.1) (with_front front (others x.1 >>= λ ys. Ok (x.0 ++ ys))) h

pub ends : (e : AsmFault) (front : List PlacedStatement) (n : ℕ) (here : Section) (line : List ℕ) (lines : List (List ℕ)) (total : Result (List PlacedStatement) AsmFault)
    → FailsText e (with_items front (line_items n here line))
    → with_front front (items_from n here (line ∷ lines)) ≡ total
    → FailsText e total
unfolding items_from
ends e front n here line lines total h so_far =
    subst (λ (r : Result (List PlacedStatement) AsmFault). FailsText e r) so_far (failed e front (line_items n here line) (λ section. items_from (n + 1) section lines) h)

-- the items so far mean what some list does that, in front of the rest, is all
pub record Told (items : List PlacedStatement) (rest total : Result (List PlacedStatement) AsmFault) : Type 0 where
  pub front : List PlacedStatement
  pub alike : AreAlike items front
  pub whole : with_front front rest ≡ total

-- what a line adds, whatever stands before it
added : (front new : List PlacedStatement) (behind : Section) (read : Result (List PlacedStatement × Section) AsmFault)
    → with_items front read ≡ Ok (new, behind)
    → (more : List PlacedStatement) × ((front ++ more ≡ new) × (read ≡ Ok (more, behind)))
added front new behind (Ok x) e =
    let same = same_value (front ++ x.0, x.1) (new, behind) e in (
      x.0,
      (
        ap (λ (p : List PlacedStatement × Section). p.0) same,
        ap (λ (next : Section). let read : Result (List PlacedStatement × Section) AsmFault = Ok (x.0, next) in read) (ap (λ (p : List PlacedStatement × Section). p.1) same),
      ),
    )
added front new behind (Err f) e = absurd cc

pub told_more : (items new joined : List PlacedStatement) (behind : Section) (n : ℕ) (here : Section) (line : List ℕ) (lines : List (List ℕ)) (total : Result (List PlacedStatement) AsmFault)
    → with_items items (line_items n here line) ≡ Ok (new, behind)
    → AreAlike joined new
    → Told items (items_from n here (line ∷ lines)) total
    → Told joined (items_from (n + 1) behind lines) total
told_more items new joined behind n here line lines total read after told =
    let line_added = added items new behind (line_items n here line) read in
    let more = line_added.0 in
    let front = told.front ++ more in
    record {
      front = front;
      alike = alike_then joined new front after
          (alike_then new (items ++ more) front (alike_same new (items ++ more) (sym line_added.1.0)) (alike_before items told.front more told.alike));
      whole = goes_on told.front front behind n here line lines total
          (ap (λ (r : Result (List PlacedStatement × Section) AsmFault). with_items told.front r) line_added.1.1) told.whole;
    }

told_last : (items : List PlacedStatement) (n : ℕ) (here : Section) (total : Result (List PlacedStatement) AsmFault) → Told items (items_from n here []) total
    → (all : List PlacedStatement) × (total ≡ Ok all) × AreAlike items all
unfolding items_from
told_last items n here total told =
    (told.front, sym told.whole ∙ ap (λ (xs : List PlacedStatement). let made : Result (List PlacedStatement) AsmFault = Ok xs in made) (append-nil told.front), told.alike)

pub told_end : (items new joined : List PlacedStatement) (behind : Section) (n : ℕ) (here : Section) (line : List ℕ) (lines : List (List ℕ)) (total : Result (List PlacedStatement) AsmFault)
    → lines ≡ line ∷ []
    → with_items items (line_items n here line) ≡ Ok (new, behind)
    → AreAlike joined new
    → Told items (items_from n here lines) total
    → (all : List PlacedStatement) × (total ≡ Ok all) × AreAlike joined all
told_end items new joined behind n here line lines total last read after told =
    told_last joined (n + 1) behind total
    (told_more items new joined behind n here line [] total read after
    (subst (λ (ls : List (List ℕ)). Told items (items_from n here ls) total) last told))

fails_elsewhere : (e : AsmFault) (items front : List PlacedStatement) (read : Result (List PlacedStatement × Section) AsmFault)
    → FailsText e (with_items items read) → FailsText e (with_items front read)
fails_elsewhere e items front (Err f) h = h
fails_elsewhere e items front (Ok x) h =
    no_fault (List PlacedStatement × Section) (List PlacedStatement × Section) e (items ++ x.0, x.1) (with_items front (Ok x)) h

told_fault : (e : AsmFault) (items : List PlacedStatement) (n : ℕ) (here : Section) (line : List ℕ) (lines : List (List ℕ)) (total : Result (List PlacedStatement) AsmFault)
    → FailsText e (with_items items (line_items n here line))
    → Told items (items_from n here (line ∷ lines)) total
    → FailsText e total
told_fault e items n here line lines total h told =
    ends e told.front n here line lines total (fails_elsewhere e items told.front (line_items n here line) h) told.whole

-- the same of the first line of some, with others after it or none
pub told_fault_first : {R : Type 0} (e : AsmFault) (items : List PlacedStatement) (n : ℕ) (here : Section) (line : List ℕ) (behind : Option R) (spelled : R → List (List ℕ))
    (lines : List (List ℕ)) (total : Result (List PlacedStatement) AsmFault)
    → IfSome behind (λ rest. lines ≡ line ∷ spelled rest)
    → IfNone behind (lines ≡ line ∷ [])
    → FailsText e (with_items items (line_items n here line))
    → Told items (items_from n here lines) total
    → FailsText e total
told_fault_first e items n here line (Some rest) spelled lines total more last h told =
    told_fault e items n here line (spelled rest) total h
    (subst (λ (ls : List (List ℕ)). Told items (items_from n here ls) total) more told)
told_fault_first e items n here line None spelled lines total more last h told =
    told_fault e items n here line [] total h
    (subst (λ (ls : List (List ℕ)). Told items (items_from n here ls) total) last told)

-- nothing is told of no lines
pub told_none : (rest : Result (List PlacedStatement) AsmFault) → Told [] rest rest
told_none rest = record { front = []; alike = alike_same [] [] refl; whole = no_front rest }
