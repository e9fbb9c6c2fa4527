-- What the search finds, and what it has seen where it finds nothing.
use Rattle.demonstration.proofs.Imports.{Result, Ok, Err, IfOk, IsTrue, min, known_tasks, IsNoneFound, IsRightAlone, ◌≡◌, ℕ, ◌+◌, ◌^◌, ◌<◌, ◌≤◌, true, false, is_some, Option, Some, None, List, [], ◌∷◌, length, length-append, take, IfSome, IfNone, refl, sym, ap, ◌∙◌, subst, arith, inl, inr, cases_lt, Input, PlainView, IsAfter, Makes, Listing, Active, State, opening, by_head, plain_of, Replays, Event, DrivenView, each_tried, run_of, state_after, HoldsWrong, IsShown, ReadsRight, Shows, WordsRight, read_by_head, seen, Evidence, WrongWord}
use Rattle.mips_plain.specs.PlainMachine.{State as PlainState}
use Rattle.mips_plain.specs.declared.outcome.OutOfMemory.{OutOfMemory}
use Rattle.demonstration.specs.declared.search.Demonstration.{Demonstration}
use Rattle.demonstration.proofs.Driving.{after_none}
use Rattle.demonstration.proofs.Harmless.{no_head}
use Rattle.demonstration.proofs.PlainReads.{few_reads}

-- the plain machine beside the machine

pub room_to_run : (i : Input) (made missing count : ℕ) (plain : PlainView) → IsAfter i made plain → made + missing ≡ count → count < 2 ^ 64 → plain.count + missing < 2 ^ 64
room_to_run i made missing count plain is sum below = (let counted = is.count in omega (arith, few_reads i made))

pub caught_up : (i : Input) (made missing count : ℕ) (old new : PlainView) → IsAfter i made old → made + missing ≡ count → Makes missing old new → IsAfter i count new
caught_up i made missing count old new is sum makes = subst (λ (n : ℕ). IsAfter i n new) sum (makes i made is)

by_head_is : (us : List Active) → by_head us ≡ length (read_by_head us)
by_head_is [] = refl
by_head_is (u ∷ us) = refl

-- the head's reads come after those of the retired tasks
pub executed_is : (s : State) → length s.reads + by_head s.queue ≡ length (seen s)
executed_is s = ap (λ (n : ℕ). length s.reads + n) (by_head_is s.queue) ∙ sym (length-append s.reads (read_by_head s.queue))

-- the words of the head, after one event and the next

abbrev pub after_some : Listing → List Event → (count : ℕ) → State
after_some p events count = state_after p (each_tried p 1 [] (take count events))

pub words_at_first : (p : Listing) (events : List Event) (count : ℕ) → count ≤ 0 → WordsRight p (after_some p events count)
words_at_first p events count none =
    let first : count ≡ 0 = omega arith in
    subst (λ (n : ℕ). WordsRight p (after_some p events n)) (sym first)
    (subst (WordsRight p) (sym (after_none p)) (λ r word right below holds. no_head (opening p) (plain_of p (length (seen (opening p)))) refl r word right holds))

-- the plain machine has made as many steps as the machine has executed instructions
pub words_so : (p : Listing) (s : State) (plain : PlainState) (n : ℕ) → n ≡ length (seen s) → plain ≡ plain_of p n → ((r word right : ℕ) → r < 34 → HoldsWrong s plain r word right → ⊥) → WordsRight p s
words_so p s plain n count is none = λ r word right below holds.
    none r word right below (subst (λ (x : PlainState). HoldsWrong s x r word right) (sym (is ∙ ap (plain_of p) count)) holds)

pub words_if : (p : Listing) (s : State) (plain : PlainState) (n : ℕ) (found : Option WrongWord) → is_some found ≡ false → n ≡ length (seen s) → plain ≡ plain_of p n
    → IfNone found ((r word right : ℕ) → r < 34 → HoldsWrong s plain r word right → ⊥) → WordsRight p s
words_if p s plain n None none count is words = words_so p s plain n count is words
words_if p s plain n (Some held) none count is words = absurd (cc)

pub wrong_if : (p : Listing) (s : State) (plain : PlainState) (n : ℕ) (found : Option WrongWord) → is_some found ≡ true → n ≡ length (seen s) → plain ≡ plain_of p n
    → IfSome found (λ held. held.register < 34) → IfSome found (λ held. HoldsWrong s plain held.register held.word held.right) → WordsRight p s → ⊥
wrong_if p s plain n None some count is below holds = absurd (cc)
wrong_if p s plain n (Some held) some count is below holds = λ words.
    words held.register held.word held.right below (subst (λ (x : PlainState). HoldsWrong s x held.register held.word held.right) (is ∙ ap (plain_of p) count) holds)

pub words_more : (p : Listing) (events : List Event) (index : ℕ) → ((count : ℕ) → count ≤ index → WordsRight p (after_some p events count)) → WordsRight p (after_some p events (index + 1)) → (count : ℕ) → count ≤ index + 1 → WordsRight p (after_some p events count)
words_more p events index before now = λ count few. elim (cases_lt count (index + 1)) [
  | inl less ↦ before count (omega arith)
  | inr past ↦ (let same : count ≡ index + 1 = omega arith in subst (λ (n : ℕ). WordsRight p (after_some p events n)) (sym same) now)
]

-- a demonstration by the events of a machine
pub shown_of : (p : Listing) (d : DrivenView) (units : ℕ) (events : List Event) (it : Evidence) → d.program ≡ p → units ≡ d.units → events ≡ d.run → Replays d.program d.units d.run (state_after d.program d.run) → Shows p (state_after p d.run) it → IsShown p units events it
shown_of p d units events it program many same replays shows = record {
  after = state_after p d.run;
  allowed =
      subst (λ (n : ℕ). Replays p n events (state_after p d.run)) (sym many)
      (subst (λ (es : List Event). Replays p d.units es (state_after p d.run)) (sym same)
      (subst (λ (q : Listing). Replays q d.units d.run (state_after q d.run)) program replays));
  shows = shows;
}

-- the runs on more and more units

pub if_none : {X : Type 0} (P : Type 0) (o : Option X) → ((x : X) → o ≡ Some x → ⊥) → IfNone o P → P
if_none P None never is = is
if_none P (Some x) never is = absurd (never x refl)

pub right_on_more : (p : Listing) (guesses : List ℕ) (units steps : ℕ) → ReadsRight p (state_after p (run_of p units guesses steps)) → ((more : ℕ) → units ≤ more → run_of p more guesses steps ≡ run_of p units guesses steps) → (more : ℕ) → units ≤ more → ReadsRight p (state_after p (run_of p more guesses steps))
right_on_more p guesses units steps right same more few =
    subst (λ (run : List Event). ReadsRight p (state_after p run)) (sym (same more few)) right

pub right_below : (p : Listing) (guesses : List ℕ) (steps least n : ℕ) → ((units : ℕ) → least ≤ units → units < n → ReadsRight p (state_after p (run_of p units guesses steps))) → ReadsRight p (state_after p (run_of p n guesses steps)) → (units : ℕ) → least ≤ units → units < n + 1 → ReadsRight p (state_after p (run_of p units guesses steps))
right_below p guesses steps least n before now = λ units low below. elim (cases_lt units n) [
  | inl less ↦ before units low less
  | inr past ↦ (let same : units ≡ n = omega arith in subst (λ (u : ℕ). ReadsRight p (state_after p (run_of p u guesses steps))) (sym same) now)
]

pub right_from : (p : Listing) (guesses : List ℕ) (steps least n most : ℕ) → ((units : ℕ) → least ≤ units → units < n → ReadsRight p (state_after p (run_of p units guesses steps))) → ((more : ℕ) → n ≤ more → ReadsRight p (state_after p (run_of p more guesses steps))) → (units : ℕ) → least ≤ units → units ≤ most → ReadsRight p (state_after p (run_of p units guesses steps))
right_from p guesses steps least n most before rest = λ units low few. elim (cases_lt units n) [
  | inl less ↦ before units low less
  | inr past ↦ rest units past
]

pub none_found : (p : Listing) (guesses : List ℕ) (most_units steps : ℕ) → guesses ≡ known_tasks p steps → ((units : ℕ) → min most_units 2 ≤ units → units ≤ most_units → ReadsRight p (state_after p (run_of p units guesses steps)))
    → IsRightAlone p (run_of p 1 [] steps) → IsNoneFound p most_units steps
none_found p guesses most_units steps known right alone = record {
  guessed = λ units low few. subst (λ (g : List ℕ). ReadsRight p (state_after p (run_of p units g steps))) known (right units low few);
  alone = alone;
}

-- on one unit

pub alone_if : (p : Listing) (run : List Event) (found : Result (Option Demonstration) OutOfMemory) → IfOk found (λ answer. IfNone answer (ReadsRight p (state_after p run)))
    → IfOk found (λ answer. IfNone answer (IsTrue true → WordsRight p (state_after p run))) → ((count : ℕ) → count ≤ length run → WordsRight p (state_after p (each_tried p 1 [] (take count run))))
    → IfOk found (λ answer. IfNone answer (IsRightAlone p run))
alone_if p run (Ok None) reads words each = record { right = record { reads = reads; words = words refl }; words = each }
alone_if p run (Ok (Some d)) reads words each = tt
alone_if p run (Err fault) reads words each = tt

pub never_if : (p : Listing) (run few : List Event) (found : Result (Option Demonstration) OutOfMemory) → IfOk found (λ answer. IfNone answer (IsTrue true → WordsRight p (state_after p few)))
    → (WordsRight p (state_after p few) → ⊥) → IfOk found (λ answer. IfNone answer (IsRightAlone p run))
never_if p run few (Ok None) words wrong = absurd (wrong (words refl))
never_if p run few (Ok (Some d)) words wrong = tt
never_if p run few (Err fault) words wrong = tt
