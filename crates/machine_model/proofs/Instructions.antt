-- What the theorems need to know of one instruction; no other proof looks into one. Cases on the
-- instruction, nearly all by computation.
use Rattle.std.proofs.Common.{◌≡◌, ℕ, ◌+◌, ◌*◌, ◌%◌, ◌^◌, ◌<◌, ◌-◌, Bool, true, false, cond, ◌&&◌, List, Option, Some, None, refl, ap, ◌∙◌, arith}
use Rattle.std.specs.Prelude.{slice_get, nat_le, nat_eq, is_some}
use Rattle.std.specs.Option.{option_map, option_and_then}
use Rattle.std.proofs.lemmas.Bool.{and_right, cond-false, cond-true, and_from, le-leb, eq-eqb}
use Rattle.std.proofs.lemmas.Option.{slice_get-map}
use Rattle.mips_instructions.specs.Words.{address, index_of}
use Rattle.mips_instructions.specs.InstructionTable.{load_size, two_taken, one_taken}
use Rattle.mips_instructions.specs.Instruction.{dests, alu, is_register_only, taken, turn}
use Rattle.mips_plain.specs.Effect.{written, loaded, memory_after, output_after, outcome_after, outcome_of_load, may_run_ahead, is_fixed}
use Rattle.mips_plain.specs.MemoryMap.{Region, Fixed, Ordinary, Nowhere, region, effective}
use Rattle.mips_plain.specs.PlainMachine.{fetch}
use Rattle.mips_instructions.specs.declared.instruction.LoadKind.{LoadKind}
use Rattle.mips_instructions.specs.declared.instruction.Op.{Op}
use Rattle.mips_instructions.specs.declared.instruction.Op.TheVariants.{Load, Store, BranchTwo, BranchOne, Jump, JumpLink, JumpReg, JumpLinkReg, Out, Halt}
use Rattle.mips_plain.specs.declared.outcome.Outcome.TheVariants.{Running}
use Rattle.task_descriptor.specs.Listing.{Listing, input}
use Rattle.task_descriptor.specs.declared.descriptor.Marked.{Marked}
use Rattle.task_graph.specs.Edges.{edge, is_indirect}

-- Instructions that may run ahead of the head

loaded_ahead : (kind : LoadKind) (at : Region) (fixed memory memory' : ℕ → ℕ) → is_fixed at ≡ true → loaded kind at fixed memory ≡ loaded kind at fixed memory'
loaded_ahead kind (Fixed offset) fixed memory memory' e = refl
loaded_ahead kind (Ordinary offset) fixed memory memory' e = cc
loaded_ahead kind (Nowhere trap) fixed memory memory' e = cc

pub ahead_written : (op : Op) (a b pc : ℕ) (fixed memory memory' : ℕ → ℕ) (r : ℕ) → may_run_ahead op a ≡ true → written op a b pc fixed memory r ≡ written op a b pc fixed memory' r
ahead_written (Load kind rt base n) a b pc fixed memory memory' r e =
    ap (λ (o : Option ℕ). cond (dests (Load kind rt base n) r) o None) (loaded_ahead kind (region (load_size kind) (effective a n)) fixed memory memory' e)
ahead_written _ a b pc fixed memory memory' r e = refl

load_runs : (at : Region) → is_fixed at ≡ true → outcome_of_load at ≡ Running
load_runs (Fixed offset) e = refl
load_runs (Ordinary offset) e = refl
load_runs (Nowhere trap) e = cc

pub ahead_runs : (op : Op) (a : ℕ) → may_run_ahead op a ≡ true → outcome_after op a ≡ Running
ahead_runs (Load kind rt base n) a e = load_runs (region (load_size kind) (effective a n)) e
ahead_runs (Store kind rt base n) a e = cc
ahead_runs Halt a e = cc
ahead_runs _ a e = refl

pub ahead_memory : (op : Op) (a b : ℕ) (memory : ℕ → ℕ) → may_run_ahead op a ≡ true → memory_after op a b memory ≡ memory
ahead_memory (Store kind rt base n) a b memory e = cc
ahead_memory _ a b memory e = refl

pub ahead_output : (op : Op) (a : ℕ) (output : List ℕ) → may_run_ahead op a ≡ true → output_after op a output ≡ output
ahead_output (Out rs) a output e = cc
ahead_output _ a output e = refl

-- What is written

alu_dest : (op : Op) (a b pc r : ℕ) → dests op r ≡ false → alu op a b pc r ≡ None
alu_dest op a b pc r e = cond-false (is_register_only op && dests op r) _ _ (and_right (is_register_only op) (dests op r) e)

pub written_dest : (op : Op) (a b pc : ℕ) (fixed memory : ℕ → ℕ) (r : ℕ) → dests op r ≡ false → written op a b pc fixed memory r ≡ None
written_dest (Load kind rt base n) a b pc fixed memory r e = cond-false (dests (Load kind rt base n) r) _ _ e
written_dest (Store kind rt base n) a b pc fixed memory r e = refl
written_dest (Out rs) a b pc fixed memory r e = refl
written_dest Halt a b pc fixed memory r e = refl
written_dest op a b pc fixed memory r e = alu_dest op a b pc r e

load_ended : (kind : LoadKind) (at : Region) (fixed memory : ℕ → ℕ) (b : Bool) → (outcome_of_load at ≡ Running → ⊥) → cond b (loaded kind at fixed memory) None ≡ None
load_ended kind at fixed memory false never = refl
load_ended kind (Fixed offset) fixed memory true never = absurd (never refl)
load_ended kind (Ordinary offset) fixed memory true never = absurd (never refl)
load_ended kind (Nowhere trap) fixed memory true never = refl

-- an instruction that ends the run writes no register
pub ended_writes : (op : Op) (a b pc : ℕ) (fixed memory : ℕ → ℕ) (r : ℕ) → (outcome_after op a ≡ Running → ⊥) → written op a b pc fixed memory r ≡ None
ended_writes (Load kind rt base n) a b pc fixed memory r never =
    load_ended kind (region (load_size kind) (effective a n)) fixed memory (dests (Load kind rt base n) r) never
ended_writes (Store kind rt base n) a b pc fixed memory r never = refl
ended_writes Halt a b pc fixed memory r never = refl
ended_writes _ a b pc fixed memory r never = absurd (never refl)

-- Addresses

pub address_back : (i j : ℕ) → address i ≡ address j → i ≡ j
unfolding address
address_back i j e = omega arith

index_back : (i : ℕ) → index_of (address i) ≡ Some i
unfolding address index_of
index_back i =
    let first : nat_le 0x400000 (0x400000 + 4 * i) ≡ true = le-leb _ _ (omega arith) in
    let exact : nat_eq ((0x400000 + 4 * i - 0x400000) % 4) 0 ≡ true = eq-eqb _ _ (omega arith) in
    cond-true _ _ _ (and_from _ _ first exact) ∙ ap Some (omega arith)

pub fetch_at : (code : List Op) (i : ℕ) → fetch code (address i) ≡ slice_get code i
unfolding fetch
fetch_at code i = ap (option_and_then (slice_get code)) (index_back i)

pub fetch_marked : (p : Listing) (i : ℕ) (at : Marked) → slice_get p.code i ≡ Some at → fetch (input p).code (address i) ≡ Some at.op
fetch_marked p i at e = fetch_at (input p).code i ∙ slice_get-map (λ (m : Marked). m.op) p.code i ∙ ap (option_map (λ (m : Marked). m.op)) e

-- Where an instruction leads

-- an index to which the edge leads, at whose address the plain machine goes on
pub record Leads (op : Op) (a b i : ℕ) : Type 0 where
  pub to : ℕ
  pub leads : edge op i (taken op a b) ≡ Some to
  pub turns : turn op a b (address i) ≡ address to

on : (i : ℕ) → i < 4096 → (address i + 4) % 2 ^ 32 ≡ address (i + 1)
unfolding address
on i h = omega arith

branch_two : (kind : _) (rs rt place a b i : ℕ) (t : Bool) → i < 4096 → two_taken kind a b ≡ t → Leads (BranchTwo kind rs rt place) a b i
branch_two kind rs rt place a b i true h e = record {
  to = place;
  leads = ap (edge (BranchTwo kind rs rt place) i) e;
  turns = cond-true _ _ _ e;
}
branch_two kind rs rt place a b i false h e = record {
  to = i + 1;
  leads = ap (edge (BranchTwo kind rs rt place) i) e;
  turns = cond-false _ _ _ e ∙ on i h;
}

branch_one : (kind : _) (rs place a b i : ℕ) (t : Bool) → i < 4096 → one_taken kind a ≡ t → Leads (BranchOne kind rs place) a b i
branch_one kind rs place a b i true h e = record {
  to = place;
  leads = ap (edge (BranchOne kind rs place) i) e;
  turns = cond-true _ _ _ e;
}
branch_one kind rs place a b i false h e = record {
  to = i + 1;
  leads = ap (edge (BranchOne kind rs place) i) e;
  turns = cond-false _ _ _ e ∙ on i h;
}

pub leads_on : (op : Op) (a b i : ℕ) → i < 4096 → is_indirect op ≡ false → outcome_after op a ≡ Running → Leads op a b i
leads_on (BranchTwo kind rs rt place) a b i h direct runs = branch_two kind rs rt place a b i (two_taken kind a b) h refl
leads_on (BranchOne kind rs place) a b i h direct runs = branch_one kind rs place a b i (one_taken kind a) h refl
leads_on (Jump place) a b i h direct runs = record { to = place; leads = refl; turns = refl }
leads_on (JumpLink place) a b i h direct runs = record { to = place; leads = refl; turns = refl }
leads_on (JumpReg rs) a b i h direct runs = absurd (cc)
leads_on (JumpLinkReg rd rs) a b i h direct runs = absurd (cc)
leads_on Halt a b i h direct runs = absurd (cc)
leads_on _ a b i h direct runs = record { to = i + 1; leads = refl; turns = on i h }

alu_written : (op : Op) (a b pc r : ℕ) → is_register_only op ≡ true → dests op r ≡ true → is_some (alu op a b pc r) ≡ true
alu_written op a b pc r only e = ap is_some (cond-true (is_register_only op && dests op r) _ _ (and_from _ _ only e))

load_written : (kind : LoadKind) (at : Region) (fixed memory : ℕ → ℕ) (b : Bool) → is_fixed at ≡ true → b ≡ true → is_some (cond b (loaded kind at fixed memory) None) ≡ true
load_written kind at fixed memory false f e = cc
load_written kind (Fixed offset) fixed memory true f e = refl
load_written kind (Ordinary offset) fixed memory true f e = cc
load_written kind (Nowhere trap) fixed memory true f e = cc

-- an instruction that may run ahead writes each of its destinations
pub dest_written : (op : Op) (a b pc : ℕ) (fixed memory : ℕ → ℕ) (r : ℕ) → may_run_ahead op a ≡ true → dests op r ≡ true → is_some (written op a b pc fixed memory r) ≡ true
dest_written (Load kind rt base n) a b pc fixed memory r ahead e =
    load_written kind (region (load_size kind) (effective a n)) fixed memory (dests (Load kind rt base n) r) ahead e
dest_written op a b pc fixed memory r ahead e = alu_written op a b pc r ahead e
