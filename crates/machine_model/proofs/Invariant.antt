-- The invariant over the queue. Each unit is right, but only where the plain machine comes by the
-- entry of its task when the units before it are done: nothing at all is said of the others.
use Rattle.std.proofs.Common.{◌≡◌, ℕ, zero, suc, ◌+◌, ◌<◌, ◌≤◌, Bool, true, false, cond, ◌⊎◌, inl, inr, List, [], ◌∷◌, ◌++◌, length, Option, Some, None, refl, sym, ap, ◌∙◌, subst, take, append-nil, eqb-true, add-zero}
use Rattle.std.specs.Prelude.{slice_get, slice_set, nat_eq}
use Rattle.std.specs.Option.{option_or}
use Rattle.std.proofs.lemmas.Bool.{or_parts}
use Rattle.mips_instructions.specs.Words.{address}
use Rattle.mips_plain.specs.declared.outcome.Outcome.TheVariants.{Running}
use Rattle.task_descriptor.specs.Listing.{Listing, input}
use Rattle.task_graph.specs.Edges.{Path, stay, MayWrite}
use Rattle.task_graph.specs.Soundness.{Sound}
use Rattle.machine_model.specs.Machine.{Words, Active, task_at, creates, begins, value, pass}
use Rattle.machine_model.specs.Unit.{put}
use Rattle.machine_model.specs.Step.{is_reserved, filled}
use Rattle.machine_model.specs.Claims.{plain_of, reads_of}
use Rattle.machine_model.specs.declared.event.Spot.{Spot}
use Rattle.machine_model.specs.declared.event.Spot.TheVariants.{Inside, Stopped}
use Rattle.machine_model.proofs.PlainRuns.{Follows, Ends, here, plain_zero, rest_of, same_end, end_runs, end_keeps, not_created}

-- What it says. The unit's task begins where the plain machine stands after n steps, and the unit
-- stands where the plain machine does after m.

abbrev pub PlaceRight : Listing → (t n m : ℕ) → Spot → Type 0
PlaceRight p t n m (Inside i) = Path p (task_at p t).entry i × Follows p n m × ((plain_of p m).pc ≡ address i)
PlaceRight p t n m (Stopped at) = Ends p n m × ((plain_of p m).pc ≡ at)

-- nothing after this place writes r
abbrev pub Last : Listing → Spot → ℕ → Type 0
Last p (Inside i) r = MayWrite p i r → ⊥
Last p (Stopped at) r = Unit {0}

-- a unit after the head has left memory and output as they were, in the plain run too
abbrev pub Quiet : Listing → (behind : Bool) → (n m : ℕ) → Type 0
Quiet p false n m = Unit {0}
Quiet p true n m = ((plain_of p m).memory ≡ (plain_of p n).memory) × ((plain_of p m).output ≡ (plain_of p n).output)

pub record UnitRight (p : Listing) (behind : Bool) (n : ℕ) (u : Active) : Type 0 where
  pub now : ℕ
  pub count : now ≡ n + length u.log
  pub is_task : u.task < length p.tasks
  pub place : PlaceRight p u.task n now u.place
  pub runs : (plain_of p now).outcome ≡ Running
  pub log : reads_of p n ++ u.log ≡ reads_of p now
  -- its own writes are the plain machine's, and what it has not written is as it was
  pub local : (r w : ℕ) → u.local r ≡ Some w → (plain_of p now).regs r ≡ w
  pub kept : (r : ℕ) → u.local r ≡ None → (plain_of p now).regs r ≡ (plain_of p n).regs r
  -- what arrived is what its task begins with
  pub arrived : (r w : ℕ) → u.arrived r ≡ Some w → (plain_of p n).regs r ≡ w
  -- what it sent is right now, and to the end of its task
  pub sent : (r w : ℕ) → u.sent r ≡ Some w → (plain_of p now).regs r ≡ w
  pub last : (r w : ℕ) → u.sent r ≡ Some w → Last p u.place r
  pub quiet : Quiet p behind n now

abbrev pub RightFrom : Listing → (behind : Bool) → (n : ℕ) → List Active → Type 0
RightFrom p behind n [] = Unit {0}
RightFrom p behind n (u ∷ us) =
    (plain_of p n).pc ≡ begins p u.task → UnitRight p behind n u × ((m : ℕ) → Ends p n m → RightFrom p true m us)

-- Words that are looked up, by cases on what was found

pub value_found : (b : Bool) (l a : Option ℕ) (x y w : ℕ) → (b ≡ true → x ≡ 0) → ((v : ℕ) → l ≡ Some v → x ≡ v) → (l ≡ None → x ≡ y) → ((v : ℕ) → a ≡ Some v → y ≡ v) → cond b (Some 0) (option_or l a) ≡ Some w → x ≡ w
value_found true l a x y w zero_is local kept arrived e = zero_is refl ∙ cc
value_found false (Some v) a x y w zero_is local kept arrived e = local v refl ∙ cc
value_found false None a x y w zero_is local kept arrived e = kept refl ∙ arrived w e

pub pass_found : (b : Bool) (s a : Option ℕ) (x y w : ℕ) → (b ≡ true → (v : ℕ) → s ≡ Some v → x ≡ v) → (b ≡ false → x ≡ y) → ((v : ℕ) → a ≡ Some v → y ≡ v) → cond b s a ≡ Some w → x ≡ w
pass_found true s a x y w sent kept arrived e = sent refl w e
pass_found false s a x y w sent kept arrived e = kept refl ∙ arrived w e

put_found : (b : Bool) (old : Option ℕ) (word w : ℕ) → cond b (Some word) old ≡ Some w → ((b ≡ true) × (word ≡ w)) ⊎ (old ≡ Some w)
put_found true old word w e = inl (refl, cc)
put_found false old word w e = inr e

filled_found : (o : Option ℕ) (x w : ℕ) → option_or o (Some x) ≡ Some w → (o ≡ Some w) ⊎ (x ≡ w)
filled_found (Some v) x w e = inl e
filled_found None x w e = inr (cc)

module _ (p : Listing) where
  -- a value that a right unit has is the plain machine's
  pub value_right : {behind : Bool} {n : ℕ} {u : Active} (h : UnitRight p behind n u) (r w : ℕ) → value u r ≡ Some w → (plain_of p h.now).regs r ≡ w
  value_right {behind} {n} {u} h r w e =
      value_found (nat_eq 0 r) (u.local r) (u.arrived r) ((plain_of p h.now).regs r) ((plain_of p n).regs r) w
      (λ z. ap (plain_of p h.now).regs (sym (eqb-true 0 r z)) ∙ plain_zero (input p) h.now)
      (h.local r) (h.kept r) (h.arrived r) e

  -- One unit changes, and no other

  pub update : (behind : Bool) (n : ℕ) (us : List Active) (k : ℕ) (u v : Active) → slice_get us k ≡ Some u → v.task ≡ u.task → ((q : Bool) (i : ℕ) → UnitRight p q i u → UnitRight p q i v) → RightFrom p behind n us → RightFrom p behind n (slice_set us k v)
  update behind n [] k u v e same keeps h = tt
  update behind n (x ∷ us) zero u v e same keeps h =
      let is_u : x ≡ u = cc in
      λ at. (
        keeps behind n (subst (UnitRight p behind n) is_u (h (at ∙ ap (begins p) (same ∙ ap (λ (y : Active). y.task) (sym is_u)))).0),
        (h (at ∙ ap (begins p) (same ∙ ap (λ (y : Active). y.task) (sym is_u)))).1,
      )
  update behind n (x ∷ us) (suc k) u v e same keeps h =
      λ at. ((h at).0, λ m ends. update true m us k u v e same keeps ((h at).1 m ends))

  -- the units before position k stay right when the others go
  pub front : (behind : Bool) (n : ℕ) (us : List Active) (k : ℕ) → RightFrom p behind n us → RightFrom p behind n (take k us)
  front behind n [] zero h = tt
  front behind n [] (suc k) h = tt
  front behind n (u ∷ us) zero h = tt
  front behind n (u ∷ us) (suc k) h = λ at. ((h at).0, λ m ends. front true m us k ((h at).1 m ends))

  -- Registers from unit to unit

  pub arrives : {behind : Bool} {n : ℕ} (u : Active) (r word : ℕ) → (plain_of p n).regs r ≡ word → UnitRight p behind n u → UnitRight p behind n (record u { arrived = put r word u.arrived })
  arrives {behind} {n} u r word right h = record {
    now = h.now;
    count = h.count;
    is_task = h.is_task;
    place = h.place;
    runs = h.runs;
    log = h.log;
    local = h.local;
    kept = h.kept;
    arrived = λ s w e. elim (put_found (nat_eq s r) (u.arrived s) word w e) [
      | inl g ↦ ap (plain_of p n).regs (eqb-true s r g.0) ∙ right ∙ g.1
      | inr g ↦ h.arrived s w g
    ];
    sent = h.sent;
    last = h.last;
    quiet = h.quiet;
  }

  last_stopped : (place : Spot) (at r : ℕ) → place ≡ Stopped at → Last p place r
  last_stopped (Inside i) at r e = cc
  last_stopped (Stopped _) at r e = tt

  pub drained : {behind : Bool} {n : ℕ} (u : Active) (r word at : ℕ) → u.place ≡ Stopped at → value u r ≡ Some word → UnitRight p behind n u → UnitRight p behind n (record u { sent = put r word u.sent })
  drained u r word at stopped has h = record {
    now = h.now;
    count = h.count;
    is_task = h.is_task;
    place = h.place;
    runs = h.runs;
    log = h.log;
    local = h.local;
    kept = h.kept;
    arrived = h.arrived;
    sent = λ s w e. elim (put_found (nat_eq s r) (u.sent s) word w e) [
      | inl g ↦ ap (plain_of p h.now).regs (eqb-true s r g.0) ∙ value_right h r word has ∙ g.1
      | inr g ↦ h.sent s w g
    ];
    last = λ s w e. last_stopped u.place at s stopped;
    quiet = h.quiet;
  }

  quiet_now : (behind : Bool) (n : ℕ) → Quiet p behind n n
  quiet_now false n = tt
  quiet_now true n = (refl, refl)

  -- a unit that has just been assigned
  pub new_right : (behind : Bool) (n t serial : ℕ) (arrived : Words) → t < length p.tasks → (plain_of p n).outcome ≡ Running → (plain_of p n).pc ≡ begins p t → ((r w : ℕ) → arrived r ≡ Some w → (plain_of p n).regs r ≡ w) → UnitRight p behind n (record { task = t; serial = serial; arrived = arrived; local = λ r. None; sent = λ r. None; place = Inside (task_at p t).entry; log = [] })
  new_right behind n t serial arrived is_task runs at right = record {
    now = n;
    count = sym (add-zero n);
    is_task = is_task;
    place = (stay, here, at);
    runs = runs;
    log = append-nil _;
    local = λ r w e. cc;
    kept = λ r e. refl;
    arrived = right;
    sent = λ r w e. cc;
    last = λ r w e. absurd (cc);
    quiet = quiet_now behind n;
  }

  -- the new head takes what has not arrived from the head registers; it owes no quiet any more
  pub filled_right : (us : List Active) (regs : ℕ → ℕ) (n : ℕ) → ((r : ℕ) → regs r ≡ (plain_of p n).regs r) → RightFrom p true n us → RightFrom p false n (filled regs us)
  filled_right [] regs n are h = tt
  filled_right (u ∷ us) regs n are h = λ at.
      let old = (h at).0 in (
        record {
          now = old.now;
          count = old.count;
          is_task = old.is_task;
          place = old.place;
          runs = old.runs;
          log = old.log;
          local = old.local;
          kept = old.kept;
          arrived = λ r w e. elim (filled_found (u.arrived r) (regs r) w e) [
            | inl g ↦ old.arrived r w g
            | inr g ↦ sym (are r) ∙ g
          ];
          sent = old.sent;
          last = old.last;
          quiet = tt;
        },
        (h at).1,
      )

  module _ (fits : length p.code ≤ 4096) (sound : Sound p) where
    -- what is last at its place is the same at the task's end
    last_stays : (place : Spot) (t n now m r : ℕ) → t < length p.tasks → PlaceRight p t n now place → Last p place r → Ends p n m → (plain_of p m).regs r ≡ (plain_of p now).regs r
    last_stays (Inside i) t n now m r is_task place last ends =
        end_keeps p fits sound t i r is_task place.0 place.2 last (rest_of place.1 ends)
    last_stays (Stopped at) t n now m r is_task place last ends =
        ap (λ (k : ℕ). (plain_of p k).regs r) (same_end ends place.0)

    -- what a right unit passes on is what the next task begins with
    pub pass_right : {behind : Bool} {n m : ℕ} (u : Active) (r w : ℕ) → (plain_of p n).pc ≡ begins p u.task → UnitRight p behind n u → Ends p n m → pass p u r ≡ Some w → (plain_of p m).regs r ≡ w
    pass_right {behind} {n} {m} u r w at h ends e =
        pass_found (creates p u.task r) (u.sent r) (u.arrived r) ((plain_of p m).regs r) ((plain_of p n).regs r) w
        (λ created v s. last_stays u.place u.task n h.now m r h.is_task h.place (h.last r v s) ends ∙ h.sent r v s)
        (λ never. not_created p fits sound u.task r h.is_task at never ends)
        (h.arrived r) e

    pub transferred : (behind : Bool) (n : ℕ) (us : List Active) (k r word : ℕ) (giver unit : Active) → slice_get us k ≡ Some giver → slice_get us (suc k) ≡ Some unit → pass p giver r ≡ Some word → RightFrom p behind n us → RightFrom p behind n (slice_set us (suc k) (record unit { arrived = put r word unit.arrived }))
    transferred behind n [] k r word giver unit g u e h = tt
    transferred behind n (x ∷ []) zero r word giver unit g u e h = absurd (cc)
    transferred behind n (x ∷ y ∷ us) zero r word giver unit g u e h =
        let is_giver : giver ≡ x = cc in
        let is_unit : unit ≡ y = cc in
        let passed : pass p x r ≡ Some word = ap (λ (z : Active). pass p z r) (sym is_giver) ∙ e in
        λ at. (
          (h at).0,
          λ m ends at'.
              let at'' : (plain_of p m).pc ≡ begins p y.task = at' ∙ ap (λ (z : Active). begins p z.task) is_unit in
              let right = pass_right x r word at (h at).0 ends passed in
              (arrives unit r word right (subst (UnitRight p true m) (sym is_unit) ((h at).1 m ends at'').0), ((h at).1 m ends at'').1),
        )
    transferred behind n (x ∷ us) (suc k) r word giver unit g u e h =
        λ at. ((h at).0, λ m ends. transferred true m us k r word giver unit g u e ((h at).1 m ends))

    -- Assign

    abbrev Suits : Words → (n : ℕ) → List Active → Type 0
    Suits arrived n us = (r w : ℕ) → arrived r ≡ Some w → (is_reserved p us r ≡ false) × ((plain_of p n).regs r ≡ w)

    pub assigned : (us : List Active) (behind : Bool) (n t serial : ℕ) (arrived : Words) → t < length p.tasks → (plain_of p n).outcome ≡ Running → Suits arrived n us → RightFrom p behind n us → RightFrom p behind n (us ++ record { task = t; serial = serial; arrived = arrived; local = λ r. None; sent = λ r. None; place = Inside (task_at p t).entry; log = [] } ∷ [])
    assigned [] behind n t serial arrived is_task runs suits h = λ at.
        (new_right behind n t serial arrived is_task runs at (λ r w e. (suits r w e).1), λ m ends. tt)
    assigned (u ∷ us) behind n t serial arrived is_task runs suits h = λ at. (
      (h at).0,
      λ m ends. assigned us true m t serial arrived is_task (end_runs ends)
          (λ r w e.
          let parts = or_parts (creates p u.task r) (is_reserved p us r) (suits r w e).0 in
          (parts.1, not_created p fits sound u.task r (h at).0.is_task at parts.0 ends ∙ (suits r w e).1))
          ((h at).1 m ends),
    )
