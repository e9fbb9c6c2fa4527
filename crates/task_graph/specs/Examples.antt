-- Worked examples of the definitions, computed by the check, and two programs of which soundness is
-- shown and refuted by hand.
use Rattle.std.specs.Prelude.{◌≡◌, ℕ, ◌<◌, pos, Bool, true, false, List, [], ◌∷◌, slice_get, zero, suc, Some}
use Rattle.std.proofs.Common.{refl, subst, sym, lit<}
use Rattle.mips_instructions.specs.declared.instruction.ThreeKind.TheVariants.{Addu}
use Rattle.mips_instructions.specs.declared.instruction.ImmKind.TheVariants.{Addiu, Slti}
use Rattle.mips_instructions.specs.declared.instruction.BranchTwoKind.TheVariants.{Bne}
use Rattle.mips_instructions.specs.declared.instruction.Op.{Op}
use Rattle.mips_instructions.specs.declared.instruction.Op.TheVariants.{Three, Imm, BranchTwo, Jump, Out, Halt}
use Rattle.task_descriptor.specs.Listing.{Listing}
use Rattle.task_descriptor.specs.declared.descriptor.Marked.{Marked}
use Rattle.task_descriptor.specs.declared.descriptor.Descriptor.{Descriptor}
use Rattle.task_descriptor.specs.declared.descriptor.Stop.TheVariants as stop
use Rattle.task_graph.specs.Edges.{Edge, edge, leaves, ends_of, Path, stay, onward, MayWrite, sends, is_indirect}
use Rattle.mips_instructions.specs.Instruction.{dests}
use Rattle.task_graph.specs.Soundness.{SoundTask, Sound}

-- an instruction without a mark, with the forward bit, with stop always, and with both
abbrev pub bare : Op → Marked
bare op = record { op = op; forward = false; stop = stop.None }

abbrev pub forwards : Op → Marked
forwards op = record { op = op; forward = true; stop = stop.None }

abbrev pub stops : Op → Marked
stops op = record { op = op; forward = false; stop = stop.Always }

abbrev pub forwards_stops : Op → Marked
forwards_stops op = record { op = op; forward = true; stop = stop.Always }

-- A counts register 8 up to 4 and sums it in register 9; B puts the sum out
abbrev pub count : Listing
count = record {
  code = forwards (Imm Addiu 8 8 (pos 1)) ∷ forwards (Three Addu 9 9 8) ∷ bare (Imm Slti 10 8 (pos 4))
      ∷ stops (BranchTwo Bne 10 0 0) ∷ bare (Out 9) ∷ bare Halt ∷ [];
  bytes = [];
  fixed = [];
  tasks = (record { name = 65 ∷ []; entry = 0; create = 0x700; targets = 0 ∷ 4 ∷ [] })
      ∷ (record { name = 66 ∷ []; entry = 4; create = 0; targets = [] }) ∷ [];
  start = 0;
}

-- the branch that stops always has two exits, after it and at its target, and no inner edge
pub branch_exits : ends_of true (stops (BranchTwo Bne 10 0 0)) 3 ≡ 4 ∷ 0 ∷ []
branch_exits = refl

pub branch_stays : ends_of false (stops (BranchTwo Bne 10 0 0)) 3 ≡ []
branch_stays = refl

-- with stop if taken the edge to the target is the exit, and the other one stays inside
abbrev pub loop_back : Marked
loop_back = record { op = BranchTwo Bne 10 0 0; forward = false; stop = stop.Taken }

pub taken_exits : ends_of true loop_back 3 ≡ 0 ∷ []
taken_exits = refl

pub taken_stays : ends_of false loop_back 3 ≡ 4 ∷ []
taken_stays = refl

-- where both edges of a branch lead to one index, one of them can be an exit and the other not
abbrev pub both_ways : Marked
both_ways = record { op = BranchTwo Bne 10 0 4; forward = false; stop = stop.Taken }

pub both_exits : ends_of true both_ways 3 ≡ 4 ∷ []
both_exits = refl

pub both_stays : ends_of false both_ways 3 ≡ 4 ∷ []
both_stays = refl

pub halt_ends : ends_of false (bare Halt) 5 ≡ []
halt_ends = refl

-- the first task of `count` comes from its entry to index 2, and may write register 9
pub first_step : Edge count false 0 1
first_step = record { at = forwards (Imm Addiu 8 8 (pos 1)); is_there = refl; taken = false; leads = refl; kind = refl }

pub second_step : Edge count false 1 2
second_step = record { at = forwards (Three Addu 9 9 8); is_there = refl; taken = false; leads = refl; kind = refl }

pub two_steps : Path count 0 2
two_steps = onward (onward stay first_step) second_step

pub writes_nine : MayWrite count 0 9
writes_nine = record { place = 1; comes = onward stay first_step; at = forwards (Three Addu 9 9 8); is_there = refl; writes = refl }

-- one instruction that jumps to itself: sound, since nothing is written and nothing left
abbrev pub turn : Marked
turn = bare (Jump 0)

abbrev pub lone : Descriptor
lone = record { name = 65 ∷ []; entry = 0; create = 0; targets = [] }

abbrev pub spin : Listing
spin = record {
  code = turn ∷ [];
  bytes = [];
  fixed = [];
  tasks = lone ∷ [];
  start = 0;
}

leads_back : (i j : ℕ) (taken : Bool) → edge (Jump 0) i taken ≡ Some j → j ≡ 0
leads_back i j false h = cc
leads_back i j true h = absurd (cc)

same_turn : (i : ℕ) (m : Marked) → i ≡ 0 → slice_get spin.code i ≡ Some m → turn ≡ m
same_turn i m is there = let here : Some turn ≡ Some m = subst (λ n. slice_get spin.code n ≡ Some m) is there in cc

reached_only : (i : ℕ) → Path spin 0 i → i ≡ 0
reached_only i stay = refl
reached_only k (onward {j = i} path e) =
    leads_back i k e.taken
    (subst (λ (m : Marked). edge m.op i e.taken ≡ Some k) (sym (same_turn i e.at (reached_only i path) e.is_there)) e.leads)

never_leaves : (i j : ℕ) → Path spin 0 i → Edge spin true i j → ⊥
never_leaves i j path e = left (subst (λ (m : Marked). leaves m.stop e.taken ≡ true) (sym (same_turn i e.at (reached_only i path) e.is_there)) e.kind)
  where
    left : false ≡ true → ⊥
    left h = cc

spin_task : SoundTask spin lone
spin_task = record {
  writes_created = λ r w. absurd (nothing (subst (λ (m : Marked). dests m.op r ≡ true) (sym (same_turn w.place w.at (reached_only w.place w.comes) w.is_there)) w.writes));
  sends_created = λ i m path there r h. absurd (nothing (subst (λ (m : Marked). sends m r ≡ true) (sym (same_turn i m (reached_only i path) there)) h));
  sends_last = λ i m path there r h j e w. nothing (subst (λ (m : Marked). sends m r ≡ true) (sym (same_turn i m (reached_only i path) there)) h);
  exits_listed = λ i j path e. absurd (never_leaves i j path e);
  targets_begin = λ j h. absurd (nothing h);
  stays_inside = λ i j path e. subst (λ n. n < 1) (sym (reached_only j (onward path e))) (lit< tt);
  indirect_stops = λ i m path there h. absurd (nothing (subst (λ (m : Marked). is_indirect m.op ≡ true) (sym (same_turn i m (reached_only i path) there)) h));
}
  where
    nothing : false ≡ true → ⊥
    nothing h = cc

pub spin_sound : Sound spin
spin_sound zero d h = let same : lone ≡ d = cc in subst (SoundTask spin) same spin_task
spin_sound (suc t) d h = absurd (cc)

-- a task that writes a register outside of its create mask: not sound
abbrev pub unlisted_write : Listing
unlisted_write = record {
  code = stops (Imm Addiu 8 0 (pos 1)) ∷ [];
  bytes = [];
  fixed = [];
  tasks = lone ∷ [];
  start = 0;
}

pub not_sound : Sound unlisted_write → ⊥
not_sound sound =
    let write : MayWrite unlisted_write 0 8 =
    record { place = 0; comes = stay; at = stops (Imm Addiu 8 0 (pos 1)); is_there = refl; writes = refl } in
    wrong ((sound 0 lone refl).writes_created 8 write)
  where
    wrong : false ≡ true → ⊥
    wrong h = cc
