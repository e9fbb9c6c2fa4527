-- What the judge finds at each event and at each read.
use Rattle.demonstration.proofs.Imports.{IfNone, DrivenView, IsRefusedAt, Replays, tried, ◌&&◌, nat_eq, eq-eqb, reads_agree, ◌≡◌, ℕ, zero, suc, ◌+◌, ◌<◌, ◌≤◌, false, is_ok, Option, Some, None, map, Result, List, [], ◌∷◌, ◌++◌, length, take, get_or, slice_get, slice_index_or, option_to_list, refl, sym, ap, ◌∙◌, subst, arith, inl, inr, add-one, cond-true, cond-false, lt-ltb, le-ltb, cases_lt, false≢true, take_more, get_or_default, length-map, slice_get_read, option_and_then, index_of, Op, Input, fetch, plain, read_at, reads_when, Outcome, Read, Listing, IsWellFormed, if_instruction, input, instruction_at, Marked, State, Next, most_events, reads_of, AnswerIsNext, NextIsAfter, Event, Refused, is_allowed, state_after, plain_read, not, Bool, true, IsTrue}
use Rattle.std.proofs.lemmas.Bool.{eqb-true}
use Rattle.mips_plain.specs.PlainMachine.{State as PlainState}
use Rattle.mips_plain.specs.declared.outcome.Outcome.TheVariants as outcome
use Rattle.machine_model.specs.declared.event.Refused.TheVariants as refused
use Rattle.demonstration.specs.declared.judge.Harm.TheVariants as harm
use Rattle.demonstration.specs.declared.judge.Judgement.TheVariants as judged
use Rattle.demonstration.proofs.Driving.{now_tried}
use Rattle.demonstration.proofs.PlainReads.{reads_next}

-- an event that is not allowed has no next state, where there is room
pub refused_so : AnswerIsNext → NextIsAfter → (p : Listing) (units : ℕ) (run : List Event) (e : Event) → IsWellFormed p → is_allowed p units run e ≡ false → (after : State) → length run < most_events → Next p units (state_after p run) e after → ⊥
unfolding is_allowed
refused_so law is_after p units run e well never after room next =
    let leaves = subst (λ (t : State). Next p units (state_after p run) e t) (is_after p units (state_after p run) after e next) next in
    false≢true (sym never ∙ ap (λ (a : Result (Unit {0}) Refused). is_ok a) ((law p units (state_after p run) (length run) e well).1 (leaves, room)))

whole : {X : Type 0} (n : ℕ) (xs : List X) → length xs ≤ n → take n xs ≡ xs
whole zero [] few = refl
whole zero (x ∷ xs) few = absurd (omega arith)
whole (suc n) [] few = refl
whole {X = X} (suc n) (x ∷ xs) few = ap (λ (rest : List X). x ∷ rest) (whole n xs (omega arith))

length_taken : {X : Type 0} (n : ℕ) (xs : List X) → n ≤ length xs → length (take n xs) ≡ n
length_taken zero xs few = refl
length_taken (suc n) [] few = absurd (omega arith)
length_taken (suc n) (x ∷ xs) few = ap suc (length_taken n xs (omega arith))

-- a machine after some of the events, each of which was allowed
module _ (p : Listing) (units : ℕ) (events : List Event) (index : ℕ) (d : DrivenView) (same : d ≡ record { program = p; units = units; run = take index events }) where
  pub refused_at : AnswerIsNext → NextIsAfter → (e : Event) → IsWellFormed p → slice_get events index ≡ Some e → index < length events → Replays d.program d.units d.run (state_after d.program d.run) → is_allowed d.program d.units d.run e ≡ false → IsRefusedAt p units events index
  refused_at law is_after e well there below replays never = record {
    before = state_after p (take index events);
    allowed = subst (λ (x : DrivenView). Replays x.program x.units x.run (state_after x.program x.run)) same replays;
    event = e;
    is_event = there;
    refused = λ after room next.
        refused_so law is_after p units (take index events) e well (ap (λ (x : DrivenView). is_allowed x.program x.units x.run e) (sym same) ∙ never) after
        (let long = length_taken index events (omega arith) in omega arith) next;
  }

  pub one_more_event : (new : DrivenView) (e : Event) → new ≡ record d { run = tried d.program d.units d.run e } → is_allowed d.program d.units d.run e ≡ true → index < length events → e ≡ get_or events index e → new ≡ record { program = p; units = units; run = take (index + 1) events }
  one_more_event new e is may below here =
      is
      ∙ ap (λ (x : DrivenView). record x { run = tried x.program x.units x.run e }) same
      ∙ ap (λ (run : List Event). record { program = p; units = units; run = run })
      (now_tried p units (take index events) e (ap (λ (x : DrivenView). is_allowed x.program x.units x.run e) (sym same) ∙ may)
      ∙ ap (λ (x : Event). take index events ++ x ∷ []) here ∙ sym (take_more events index e below))

  all_run : length events ≤ index → d ≡ record { program = p; units = units; run = events }
  all_run all = same ∙ ap (λ (run : List Event). record { program = p; units = units; run = run }) (whole index events all)

  pub replays_all : length events ≤ index → Replays d.program d.units d.run (state_after d.program d.run) → Replays p units events (state_after p events)
  replays_all all replays = subst (λ (x : DrivenView). Replays x.program x.units x.run (state_after x.program x.run)) (all_run all) replays

  pub state_all : (s : State) → length events ≤ index → s ≡ state_after d.program d.run → s ≡ state_after p events
  state_all s all is = is ∙ ap (λ (x : DrivenView). state_after x.program x.run) (all_run all)

  pub few_all : length events ≤ index → length d.run ≤ most_events → length events ≤ most_events
  few_all all few = subst (λ (x : DrivenView). length x.run ≤ most_events) (all_run all) few

-- the item at an index that is there
pub item_at : {X : Type 0} (xs : List X) (i : ℕ) (d : X) → i < length xs → slice_get xs i ≡ Some (slice_index_or xs i d)
item_at xs i d below = slice_get_read xs (length xs) i (slice_index_or xs i d) refl below (get_or_default xs i d (slice_index_or xs i d) below)

-- the reads so far, and one more

at_end : {X : Type 0} (xs : List X) (o : Option X) → slice_get (xs ++ option_to_list o) (length xs) ≡ o
at_end [] None = refl
at_end [] (Some x) = refl
at_end (y ∷ ys) o = at_end ys o

pub count_so_far : (p : Listing) (reads : List Read) (number : ℕ) → number ≤ length reads → take number reads ≡ reads_of p number → length (reads_of p number) ≡ number
count_so_far p reads number few same = ap (λ (xs : List Read). length xs) (sym same) ∙ length_taken number reads few

pub right_there : (p : Listing) (reads : List Read) (number : ℕ) (right : Option Read) → number ≤ length reads → take number reads ≡ reads_of p number → option_to_list right ≡ reads_when (plain (input p) number).outcome (input p) (plain (input p) number) → plain_read p number ≡ right
right_there p reads number right few same is =
    ap (λ (xs : List Read). slice_get xs number) (reads_next (input p) number ∙ ap (λ (xs : List Read). reads_of p number ++ xs) (sym is))
    ∙ ap (λ (n : ℕ). slice_get (reads_of p number ++ option_to_list right) n) (sym (count_so_far p reads number few same))
    ∙ at_end (reads_of p number) right

pub one_more_read : (p : Listing) (reads : List Read) (number : ℕ) (read : Read) (right : Option Read) → number < length reads → read ≡ get_or reads number read → take number reads ≡ reads_of p number → option_to_list right ≡ reads_when (plain (input p) number).outcome (input p) (plain (input p) number) → right ≡ Some read → take (number + 1) reads ≡ reads_of p (number + 1)
one_more_read p reads number read right below here same is agrees =
    take_more reads number read below
    ∙ (λ j. same j ++ sym here j ∷ [])
    ∙ ap (λ (o : Option Read). reads_of p number ++ option_to_list o) (sym agrees)
    ∙ ap (λ (xs : List Read). reads_of p number ++ xs) is
    ∙ sym (reads_next (input p) number)
    ∙ ap (λ (n : ℕ). reads_of p n) (sym (add-one number))

-- a read beside the right one

three : (x y z : Bool) → (x && y && z) ≡ true → (x ≡ true) × (y ≡ true) × (z ≡ true)
three true true true e = (refl, refl, refl)
three true true false e = absurd (cc)
three true false z e = absurd (cc)
three false y z e = absurd (cc)

pub agreed : (right : Option Read) (read : Read) → reads_agree right read ≡ true → right ≡ Some read
agreed None read e = absurd (cc)
agreed (Some r) read e =
    let all = three (nat_eq r.pc read.pc) (nat_eq r.a read.a) (nat_eq r.b read.b) e in
    let pc = eqb-true r.pc read.pc all.0 in
    let a = eqb-true r.a read.a all.1 in
    let b = eqb-true r.b read.b all.2 in
    λ j. Some (record { pc = pc j; a = a j; b = b j })

with_itself : (read : Read) → reads_agree (Some read) read ≡ true
with_itself read =
    λ j. eq-eqb read.pc read.pc refl j && eq-eqb read.a read.a refl j && eq-eqb read.b read.b refl j

pub not_agreed : (right : Option Read) (read : Read) → reads_agree right read ≡ false → right ≡ Some read → ⊥
not_agreed right read e same =
    false≢true (sym e ∙ ap (λ (o : Option Read). reads_agree o read) same ∙ with_itself read)

-- the plain machine's next read

pub ended_reads : (o : Outcome) (i : Input) (s : PlainState) → (o ≡ outcome.Running → ⊥) → [] ≡ reads_when o i s
ended_reads outcome.Running i s ended = absurd (ended refl)
ended_reads outcome.Halted i s ended = refl
ended_reads (outcome.Trapped trap) i s ended = refl

pub running_reads : (o : Outcome) (i : Input) (s : PlainState) (found : Option Op) → o ≡ outcome.Running → fetch i.code s.pc ≡ found → read_at s found ∷ [] ≡ reads_when o i s
running_reads o i s found runs is =
    ap (λ (f : Option Op). read_at s f ∷ []) (sym is) ∙ ap (λ (x : Outcome). reads_when x i s) (sym runs)

get_past : {X : Type 0} (xs : List X) (k : ℕ) → length xs ≤ k → slice_get xs k ≡ None
get_past [] k past = refl
get_past (x ∷ xs) zero past = absurd (omega arith)
get_past (x ∷ xs) (suc k) past = get_past xs k (omega arith)

get_op : (code : List Marked) (k : ℕ) (m : Marked) → slice_get code k ≡ Some m → slice_get (map (λ x. x.op) code) k ≡ Some m.op
get_op [] k m e = absurd (cc)
get_op (x ∷ xs) zero m e = (let same : x ≡ m = cc in ap (λ (y : Marked). Some y.op) same)
get_op (x ∷ xs) (suc k) m e = get_op xs k m e

no_op : (code : List Marked) (o : Option ℕ) → None ≡ if_instruction code o → option_and_then (slice_get (map (λ m. m.op) code)) o ≡ None
no_op code None e = refl
no_op code (Some i) e = elim (cases_lt i (length code)) [
  | inl below ↦ absurd (let clash = e ∙ cond-true _ _ _ (lt-ltb i (length code) below) in cc)
  | inr past ↦ get_past (map (λ (m : Marked). m.op) code) i (let long = length-map code (λ (m : Marked). m.op) in omega arith)
]

pub no_fetch : (p : Listing) (at : ℕ) → None ≡ instruction_at p at → fetch (input p).code at ≡ None
unfolding fetch
no_fetch p at e = no_op p.code (index_of at) e

within_code : (code : List Marked) (o : Option ℕ) (i : ℕ) → Some i ≡ if_instruction code o → (o ≡ Some i) × (i < length code)
within_code code None i e = absurd (cc)
within_code code (Some k) i e = elim (cases_lt k (length code)) [
  | inl below ↦ (
      let same : i ≡ k = (let both = e ∙ cond-true _ _ _ (lt-ltb k (length code) below) in cc) in
      (ap (λ (n : ℕ). Some n) (sym same), subst (λ (n : ℕ). n < length code) (sym same) below)
      )
  | inr past ↦ absurd (let clash = e ∙ cond-false _ _ _ (le-ltb k (length code) past) in cc)
]

pub index_within : (p : Listing) (at i : ℕ) → Some i ≡ instruction_at p at → i < length p.code
index_within p at i e = (within_code p.code (index_of at) i e).1

pub fetch_found : (p : Listing) (at i : ℕ) (m : Marked) → Some i ≡ instruction_at p at → slice_get p.code i ≡ Some m → fetch (input p).code at ≡ Some m.op
unfolding fetch
fetch_found p at i m e there =
    ap (λ (o : Option ℕ). option_and_then (slice_get (map (λ (x : Marked). x.op) p.code)) o) (within_code p.code (index_of at) i e).0
    ∙ get_op p.code i m there

pub not_so : (b : Bool) → IsTrue (not b) → b ≡ false
not_so true so = absurd (cc)
not_so false so = refl

pub none_is : {X : Type 0} (P : Type 0) (o : Option X) → o ≡ None → IfNone o P → P
none_is P o is given = subst (λ x. IfNone x P) is given
