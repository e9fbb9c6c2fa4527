-- The plain machine's run, cut where a task ends: one step of it, what a task's steps leave as they
-- were, and that it leaves a task at one place alone. By induction on the run.
use Rattle.std.proofs.Common.{◌≡◌, ℕ, zero, suc, ◌<◌, ◌≤◌, Bool, true, false, [], ◌∷◌, ◌++◌, length, Option, Some, None, refl, sym, ap, ◌∙◌, subst, arith, unwrap_or, true≢false}
use Rattle.std.specs.Prelude.{slice_get}
use Rattle.std.proofs.lemmas.Bool.{false_from_ne_true}
use Rattle.std.proofs.lemmas.Option.{slice_get_within, slice_get-get_or}
use Rattle.mips_instructions.specs.Words.{address}
use Rattle.mips_plain.specs.MemoryMap.{byte_of}
use Rattle.mips_instructions.specs.Instruction.{reg_a, reg_b, dests, taken, turn}
use Rattle.mips_plain.specs.Effect.{written, memory_after, output_after, outcome_after}
use Rattle.mips_plain.specs.PlainMachine.{Input, State as PlainState, plain, reads, fetch, fetched, do_op, step_when, read_at, reads_when, pc_after}
use Rattle.mips_instructions.specs.declared.instruction.Op.{Op}
use Rattle.mips_plain.specs.declared.outcome.Outcome.{Outcome}
use Rattle.mips_plain.specs.declared.outcome.Outcome.TheVariants.{Running, Halted, Trapped}
use Rattle.task_descriptor.specs.Listing.{Listing, input}
use Rattle.task_descriptor.specs.declared.descriptor.Marked.{Marked}
use Rattle.task_graph.specs.Edges.{Edge, Path, stay, onward, MayWrite, leaves, is_indirect}
use Rattle.task_graph.specs.Soundness.{Sound, SoundTask}
use Rattle.machine_model.specs.Machine.{task_at, no_task, creates}
use Rattle.machine_model.specs.Claims.{plain_of, reads_of}
use Rattle.mips_instructions.proofs.RowLemmas.{zero_not_dest}
use Rattle.machine_model.proofs.Instructions.{written_dest, address_back, fetch_marked, Leads, leads_on}

-- One step

-- the plain machine stands, after n steps and still running, at an instruction with operands a and b
pub record At (p : Listing) (n : ℕ) (index : ℕ) (at : Marked) (a b : ℕ) : Type 0 where
  pub runs : (plain_of p n).outcome ≡ Running
  pub pc_is : (plain_of p n).pc ≡ address index
  pub is_there : slice_get p.code index ≡ Some at
  pub has_a : (plain_of p n).regs (reg_a at.op) ≡ a
  pub has_b : (plain_of p n).regs (reg_b at.op) ≡ b

step_when_is : (p : Input) (n : ℕ) → plain p (suc n) ≡ step_when (plain p n).outcome p (plain p n)
unfolding plain
step_when_is p n = refl

pub plain_step : (p : Listing) (n index : ℕ) (at : Marked) (a b : ℕ) → At p n index at a b → plain_of p (suc n) ≡ do_op (byte_of p.fixed) (plain_of p n) at.op a b
plain_step p n index at a b h =
    step_when_is (input p) n
    ∙ ap (λ (o : Outcome). step_when o (input p) (plain_of p n)) h.runs
    ∙ ap (fetched (input p) (plain_of p n)) (ap (fetch (input p).code) h.pc_is ∙ fetch_marked p index at h.is_there)
    ∙ ap (λ (x : ℕ). do_op (byte_of p.fixed) (plain_of p n) at.op x ((plain_of p n).regs (reg_b at.op))) h.has_a
    ∙ ap (do_op (byte_of p.fixed) (plain_of p n) at.op a) h.has_b

reads_step_is : (p : Input) (n : ℕ) → reads p (suc n) ≡ reads p n ++ reads_when (plain p n).outcome p (plain p n)
unfolding reads
reads_step_is p n = refl

-- what a step leaves, at the address of the instruction
pub record Leaves (p : Listing) (n : ℕ) (index : ℕ) (at : Marked) (a b : ℕ) : Type 0 where
  pub pc : (plain_of p (suc n)).pc ≡ pc_after (outcome_after at.op a) (turn at.op a b (address index)) (address index)
  pub regs : (r : ℕ) → (plain_of p (suc n)).regs r ≡ unwrap_or (written at.op a b (address index) (byte_of p.fixed) (plain_of p n).memory r) ((plain_of p n).regs r)
  pub memory : (plain_of p (suc n)).memory ≡ memory_after at.op a b (plain_of p n).memory
  pub output : (plain_of p (suc n)).output ≡ output_after at.op a (plain_of p n).output
  pub outcome : (plain_of p (suc n)).outcome ≡ outcome_after at.op a
  pub reads : reads_of p (suc n) ≡ reads_of p n ++ record { pc = address index; a = a; b = b } ∷ []

pub step_leaves : (p : Listing) (n index : ℕ) (at : Marked) (a b : ℕ) → At p n index at a b → Leaves p n index at a b
step_leaves p n index at a b h =
    let step = plain_step p n index at a b h in
    record {
      pc = ap (λ (s : PlainState). s.pc) step
          ∙ ap (λ (pc : ℕ). pc_after (outcome_after at.op a) (turn at.op a b pc) pc) h.pc_is;
      regs = λ r. ap (λ (s : PlainState). s.regs r) step
          ∙ ap (λ (pc : ℕ). unwrap_or (written at.op a b pc (byte_of p.fixed) (plain_of p n).memory r) ((plain_of p n).regs r)) h.pc_is;
      memory = ap (λ (s : PlainState). s.memory) step;
      output = ap (λ (s : PlainState). s.output) step;
      outcome = ap (λ (s : PlainState). s.outcome) step;
      reads = reads_step_is (input p) n
          ∙ ap (λ (o : Outcome). reads_of p n ++ reads_when o (input p) (plain_of p n)) h.runs
          ∙ ap (λ (o : Option Op). reads_of p n ++ read_at (plain_of p n) o ∷ []) (ap (fetch (input p).code) h.pc_is ∙ fetch_marked p index at h.is_there)
          ∙ ap (λ (pc : ℕ). reads_of p n ++ record { pc = pc; a = (plain_of p n).regs (reg_a at.op); b = (plain_of p n).regs (reg_b at.op) } ∷ []) h.pc_is
          ∙ ap (λ (x : ℕ). reads_of p n ++ record { pc = address index; a = x; b = (plain_of p n).regs (reg_b at.op) } ∷ []) h.has_a
          ∙ ap (λ (y : ℕ). reads_of p n ++ record { pc = address index; a = a; b = y } ∷ []) h.has_b;
    }

-- register 0 stays 0

zero_fetched : (p : Input) (s : PlainState) (o : Option Op) → s.regs 0 ≡ 0 → (fetched p s o).regs 0 ≡ 0
zero_fetched p s None e = e
zero_fetched p s (Some op) e =
    ap (λ (w : Option ℕ). unwrap_or w (s.regs 0)) (written_dest op _ _ s.pc (byte_of p.fixed) s.memory 0 (zero_not_dest op)) ∙ e

zero_step : (p : Input) (s : PlainState) (o : Outcome) → s.regs 0 ≡ 0 → (step_when o p s).regs 0 ≡ 0
zero_step p s Running e = zero_fetched p s (fetch p.code s.pc) e
zero_step p s Halted e = e
zero_step p s (Trapped trap) e = e

pub plain_zero : (p : Input) (n : ℕ) → (plain p n).regs 0 ≡ 0
unfolding plain
plain_zero p zero = refl
plain_zero p (suc n) = zero_step p (plain p n) (plain p n).outcome (plain_zero p n)

-- Steps inside a task, and the step that leaves it

pub record Steps (p : Listing) (leaving : Bool) (n : ℕ) : Type 0 where
  pub index : ℕ
  pub at : Marked
  pub a : ℕ
  pub b : ℕ
  pub stands : At p n index at a b
  pub goes_on : outcome_after at.op a ≡ Running
  pub kind : leaves at.stop (taken at.op a b) ≡ leaving

-- from n to m over inner edges alone
pub data Follows (p : Listing) : ℕ → ℕ → Type 0 where
  here : {n : ℕ} → Follows p n n
  more : {n m : ℕ} → Steps p false n → Follows p (suc n) m → Follows p n m

-- from n to m over inner edges, and at last over an exit
pub data Ends (p : Listing) : ℕ → ℕ → Type 0 where
  exits : {n : ℕ} → Steps p true n → Ends p n (suc n)
  goes : {n m : ℕ} → Steps p false n → Ends p (suc n) m → Ends p n m

same_kind : (p : Listing) (n i j : ℕ) (at at' : Marked) (a b a' b' : ℕ) → At p n i at a b → At p n j at' a' b' → leaves at.stop (taken at.op a b) ≡ leaves at'.stop (taken at'.op a' b')
same_kind p n i j at at' a b a' b' h h' =
    let same : i ≡ j = address_back i j (sym h.pc_is ∙ h'.pc_is) in
    let there : slice_get p.code j ≡ Some at = subst (λ (k : ℕ). slice_get p.code k ≡ Some at) same h.is_there in
    let there' = h'.is_there in
    let marked : at ≡ at' = cc in
    let first : a ≡ a' = sym h.has_a ∙ ap (λ (m : Marked). (plain_of p n).regs (reg_a m.op)) marked ∙ h'.has_a in
    let second : b ≡ b' = sym h.has_b ∙ ap (λ (m : Marked). (plain_of p n).regs (reg_b m.op)) marked ∙ h'.has_b in
    cc

not_both : (p : Listing) (n : ℕ) → Steps p false n → Steps p true n → ⊥
not_both p n s s' = true≢false (sym s'.kind ∙ sym (same_kind p n s.index s'.index s.at s'.at s.a s.b s'.a s'.b s.stands s'.stands) ∙ s.kind)

pub rest_of : {p : Listing} {n k m : ℕ} → Follows p n k → Ends p n m → Ends p k m
rest_of here e = e
rest_of {p} {n} (more s f) (exits s') = absurd (not_both p n s s')
rest_of (more s f) (goes s' e) = rest_of f e

pub same_end : {p : Listing} {n k m : ℕ} → Ends p n k → Ends p n m → k ≡ m
same_end (exits s) (exits s') = refl
same_end {p} {n} (exits s) (goes s' e) = absurd (not_both p n s' s)
same_end {p} {n} (goes s e) (exits s') = absurd (not_both p n s s')
same_end (goes s e) (goes s' e') = same_end e e'

pub follow_on : {p : Listing} {n m : ℕ} → Follows p n m → Steps p false m → Follows p n (suc m)
follow_on here s = more s here
follow_on (more s f) s' = more s (follow_on f s')

pub end_now : {p : Listing} {n m : ℕ} → Follows p n m → Steps p true m → Ends p n (suc m)
end_now here s = exits s
end_now (more s f) s' = goes s (end_now f s')

step_runs : (p : Listing) (leaving : Bool) (n : ℕ) → Steps p leaving n → (plain_of p (suc n)).outcome ≡ Running
step_runs p leaving n s = (step_leaves p n s.index s.at s.a s.b s.stands).outcome ∙ s.goes_on

pub end_runs : {p : Listing} {n m : ℕ} → Ends p n m → (plain_of p m).outcome ≡ Running
end_runs {p} {n} (exits s) = step_runs p true n s
end_runs (goes s e) = end_runs e

-- Registers that a task leaves as they were

path_first : {p : Listing} {i j k : ℕ} → Edge p false i j → Path p j k → Path p i k
path_first e stay = onward stay e
path_first e (onward q e') = onward (path_first e q) e'

pub may_write_first : {p : Listing} {i j r : ℕ} → Edge p false i j → MayWrite p j r → MayWrite p i r
may_write_first e w = record { place = w.place; comes = path_first e w.comes; at = w.at; is_there = w.is_there; writes = w.writes }

pub not_dest : (p : Listing) (i r : ℕ) (at : Marked) → slice_get p.code i ≡ Some at → (MayWrite p i r → ⊥) → dests at.op r ≡ false
not_dest p i r at there never = false_from_ne_true (dests at.op r) (λ e. never (record { place = i; comes = stay; at = at; is_there = there; writes = e }))

pub step_keeps : (p : Listing) (leaving : Bool) (n i r : ℕ) (s : Steps p leaving n) → s.index ≡ i → (MayWrite p i r → ⊥) → (plain_of p (suc n)).regs r ≡ (plain_of p n).regs r
step_keeps p leaving n i r s e never =
    let there : slice_get p.code i ≡ Some s.at = subst (λ (k : ℕ). slice_get p.code k ≡ Some s.at) e s.stands.is_there in
    (step_leaves p n s.index s.at s.a s.b s.stands).regs r
    ∙ ap (λ (w : Option ℕ). unwrap_or w ((plain_of p n).regs r)) (written_dest s.at.op s.a s.b (address s.index) (byte_of p.fixed) (plain_of p n).memory r (not_dest p i r s.at there never))

-- an inner step goes over an inner edge, to the address of its end
pub record Goes (p : Listing) (n i : ℕ) : Type 0 where
  pub to : ℕ
  pub over : Edge p false i to
  pub comes_to : (plain_of p (suc n)).pc ≡ address to

module _ (p : Listing) (fits : length p.code ≤ 4096) (sound : Sound p) where
  pub sound_at : (t : ℕ) → t < length p.tasks → SoundTask p (task_at p t)
  sound_at t h = sound t (task_at p t) (slice_get-get_or p.tasks t no_task h)

  -- the index and the instruction of a step are below the code's end, and no jump to a register
  -- stays inside
  direct_inside : (t i : ℕ) (at : Marked) (b : Bool) → t < length p.tasks → Path p (task_at p t).entry i → slice_get p.code i ≡ Some at → leaves at.stop b ≡ false → is_indirect at.op ≡ false
  direct_inside t i at b h path there stays =
      false_from_ne_true (is_indirect at.op) (λ e. true≢false (sym (ap (λ (s : _). leaves s b) ((sound_at t h).indirect_stops i at path there e)) ∙ stays))

  pub leads_inside : (t i : ℕ) (at : Marked) (a b : ℕ) → t < length p.tasks → Path p (task_at p t).entry i → slice_get p.code i ≡ Some at → leaves at.stop (taken at.op a b) ≡ false → outcome_after at.op a ≡ Running → Leads at.op a b i
  leads_inside t i at a b h path there stays goes_on =
      let inside : i < length p.code = slice_get_within p.code i at there in
      leads_on at.op a b i (omega arith) (direct_inside t i at (taken at.op a b) h path there stays) goes_on

  step_goes : (t n i : ℕ) → t < length p.tasks → Path p (task_at p t).entry i → (s : Steps p false n) → s.index ≡ i → Goes p n i
  step_goes t n i h path s e =
      let there : slice_get p.code i ≡ Some s.at = subst (λ (k : ℕ). slice_get p.code k ≡ Some s.at) e s.stands.is_there in
      let on = leads_inside t i s.at s.a s.b h path there s.kind s.goes_on in
      record {
        to = on.to;
        over = record { at = s.at; is_there = there; taken = taken s.at.op s.a s.b; leads = on.leads; kind = s.kind };
        comes_to = (step_leaves p n s.index s.at s.a s.b s.stands).pc
            ∙ ap (λ (o : Outcome). pc_after o (turn s.at.op s.a s.b (address s.index)) (address s.index)) s.goes_on
            ∙ ap (λ (k : ℕ). turn s.at.op s.a s.b (address k)) e
            ∙ on.turns;
      }

  -- from a reached place, the rest of a task's run keeps a register that no path from there writes
  pub end_keeps : (t i r : ℕ) {n m : ℕ} → t < length p.tasks → Path p (task_at p t).entry i → (plain_of p n).pc ≡ address i → (MayWrite p i r → ⊥) → Ends p n m → (plain_of p m).regs r ≡ (plain_of p n).regs r
  end_keeps t i r {n} h path pc never (exits s) =
      step_keeps p true n i r s (address_back s.index i (sym s.stands.pc_is ∙ pc)) never
  end_keeps t i r {n} h path pc never (goes s e) =
      let same : s.index ≡ i = address_back s.index i (sym s.stands.pc_is ∙ pc) in
      let g = step_goes t n i h path s same in
      end_keeps t g.to r h (onward path g.over) g.comes_to (λ w. never (may_write_first g.over w)) e
      ∙ step_keeps p false n i r s same never

  -- a task's run keeps a register that its create mask lacks
  pub not_created : (t r : ℕ) {n m : ℕ} → t < length p.tasks → (plain_of p n).pc ≡ address (task_at p t).entry → creates p t r ≡ false → Ends p n m → (plain_of p m).regs r ≡ (plain_of p n).regs r
  not_created t r h pc never e =
      end_keeps t (task_at p t).entry r h stay pc (λ w. true≢false (sym ((sound_at t h).writes_created r w) ∙ never)) e
