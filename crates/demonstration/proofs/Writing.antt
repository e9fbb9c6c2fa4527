-- Who wrote a register last after one more step, and that its word is of this writer.
use Rattle.demonstration.proofs.Imports.{◌≡◌, ◌<◌, ℕ, suc, Bool, true, false, not, ◌&&◌, if◌then◌else◌, unwrap_or, Option, Some, None, refl, ap, ◌∙◌, inl, inr, arith, cases_lt, computed, dests, does_nothing, reg_a, reg_b, Op, loaded, outcome_by, outcome_of_load, word_by, written, Input, fetch, fetched, plain, step_when, Outcome, Running, Halted, Trapped, Listing, input, plain_of, HasWordFrom, is_trapped, is_written_by, writes_in_step}
use Rattle.mips_instructions.specs.InstructionTable.{Action, NoAction, Loads, Stores, Outputs, Halts, load_size, row}
use Rattle.mips_instructions.specs.declared.instruction.LoadKind.{LoadKind}
use Rattle.mips_plain.specs.MemoryMap.{Region, Fixed, Ordinary, Nowhere, byte_of, effective, region}
use Rattle.mips_plain.specs.PlainMachine.{State}

-- an instruction that is no writer leaves the word

no_word_loaded : (kind : LoadKind) (at : Region) (fixed memory : ℕ → ℕ) → not (is_trapped (outcome_of_load at)) ≡ false → loaded kind at fixed memory ≡ None
no_word_loaded kind (Fixed offset) fixed memory e = absurd (cc)
no_word_loaded kind (Ordinary offset) fixed memory e = absurd (cc)
no_word_loaded kind (Nowhere trap) fixed memory e = refl

no_word : (action : Action) (a word : ℕ) (fixed memory : ℕ → ℕ) (dest : Bool) → (dest && not (is_trapped (outcome_by action a))) ≡ false → word_by action a fixed memory dest (if does_nothing action && dest then Some word else None) ≡ None
no_word NoAction a word fixed memory true e = absurd (cc)
no_word NoAction a word fixed memory false e = refl
no_word (Loads kind n) a word fixed memory true e = no_word_loaded kind (region (load_size kind) (effective a n)) fixed memory e
no_word (Loads kind n) a word fixed memory false e = refl
no_word (Stores kind n) a word fixed memory dest e = refl
no_word Outputs a word fixed memory dest e = refl
no_word Halts a word fixed memory dest e = refl

fetched_keeps : (i : Input) (s : State) (r : ℕ) (found : Option Op) → (is_written_by found r && not (is_trapped (fetched i s found).outcome)) ≡ false → (fetched i s found).regs r ≡ s.regs r
fetched_keeps i s r None e = refl
fetched_keeps i s r (Some op) e =
    let a = s.regs (reg_a op) in
    let b = s.regs (reg_b op) in
    let none : written op a b s.pc (byte_of i.fixed) s.memory r ≡ None =
    no_word (row op).action a (computed op a b s.pc r) (byte_of i.fixed) s.memory (dests op r) e in
    ap (λ (o : Option ℕ). unwrap_or o (s.regs r)) none

step_keeps : (o : Outcome) (i : Input) (s : State) (r : ℕ) → (is_written_by (fetch i.code s.pc) r && not (is_trapped (step_when o i s).outcome)) ≡ false → (step_when o i s).regs r ≡ s.regs r
step_keeps Running i s r e = fetched_keeps i s r (fetch i.code s.pc) e
step_keeps Halted i s r e = refl
step_keeps (Trapped trap) i s r e = refl

keeps : (p : Listing) (r n : ℕ) → writes_in_step p r n ≡ false → (plain_of p (suc n)).regs r ≡ (plain_of p n).regs r
unfolding plain
keeps p r n e = step_keeps (plain_of p n).outcome (input p) (plain_of p n) r e

-- the word is of the last writer

at_start : (p : Listing) (r : ℕ) → (plain_of p 0).regs r ≡ 0
unfolding plain
at_start p r = refl

pub unwritten : (p : Listing) (r : ℕ) → HasWordFrom p r 0 None
unwritten p r = record { never = λ step below. absurd (omega arith); zero = at_start p r }

never_more : (p : Listing) (r from n : ℕ) → writes_in_step p r n ≡ false → ((step : ℕ) → from < step → step < n → writes_in_step p r step ≡ false)
    → (step : ℕ) → from < step → step < suc n → writes_in_step p r step ≡ false
never_more p r from n now before = λ step above below. elim (cases_lt step n) [
  | inl less ↦ before step above less
  | inr past ↦ (let same : step ≡ n = omega arith in ap (writes_in_step p r) same ∙ now)
]

still_from : (p : Listing) (r n : ℕ) (writer : Option ℕ) → writes_in_step p r n ≡ false → HasWordFrom p r n writer → HasWordFrom p r (suc n) writer
still_from p r n None now before = record {
  never = λ step below. elim (cases_lt step n) [
    | inl less ↦ before.never step less
    | inr past ↦ (let same : step ≡ n = omega arith in ap (writes_in_step p r) same ∙ now)
  ];
  zero = keeps p r n now ∙ before.zero;
}
still_from p r n (Some at) now before = record {
  step = before.step;
  earlier = let earlier = before.earlier in omega arith;
  is_there = before.is_there;
  writes = before.writes;
  last = never_more p r before.step n now before.last;
  kept = keeps p r n now ∙ before.kept;
}

-- one step more
pub after_step : (p : Listing) (r n : ℕ) (writes : Bool) (writer : Option ℕ) → writes_in_step p r n ≡ writes → HasWordFrom p r n writer
    → HasWordFrom p r (suc n) (if writes then Some (plain_of p n).pc else writer)
after_step p r n true writer e before = record { step = n; earlier = omega arith; is_there = refl; writes = e; last = λ later above below. absurd (omega arith); kept = refl }
after_step p r n false writer e before = still_from p r n writer e before
