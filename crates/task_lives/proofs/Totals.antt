-- The lives that retired and those that are unfinished, over one event more: a test of endings that no
-- Squash and no Drop passes keeps what the ledger says.
use Rattle.std.proofs.Common.{◌≡◌, ℕ, zero, suc, ◌+◌, ◌<◌, ◌≤◌, Bool, true, false, true≢false, cond, List, [], ◌∷◌, ◌++◌, map, length, take, Some, None, refl, sym, ap, ◌∙◌, arith, append_assoc}
use Rattle.std.specs.Prelude.{nat_eq}
use Rattle.std.proofs.lemmas.List.{append-nil, map-append, length-map}
use Rattle.std.proofs.lemmas.List.Elements.{filter-append}
use Rattle.std.proofs.lemmas.Bool.{le-ltb, lt-ltb}
use Rattle.task_descriptor.specs.Listing.{Listing}
use Rattle.machine_model.specs.Machine.{State}
use Rattle.machine_model.specs.Replay.{ReplaysFrom}
use Rattle.machine_model.specs.Laws.{EventsCount}
use Rattle.machine_model.specs.HeadEvent.{retired_after, active_after}
use Rattle.machine_model.specs.declared.event.Event.{Event}
use Rattle.machine_model.specs.declared.event.Event.TheVariants.{Assign, Exec, Transfer, Drain, Squash, Retire, Fault, Drop}
use Rattle.task_lives.specs.declared.life.Ending.{Ending}
use Rattle.task_lives.specs.declared.life.Ending.TheVariants.{Retired, Squashed, Dropped, Unfinished}
use Rattle.task_lives.specs.declared.life.Life.{Life}
use Rattle.task_lives.specs.Lives.{position_after, ending_by, executed_at, Course, after_one, course, begun, lives_from}
use Rattle.task_lives.specs.Sums.{Work, work_of_life, work_of_unit, ended}
use Rattle.task_lives.proofs.Carrying.{course_on, course_ends}
use Rattle.task_lives.proofs.Ledgers.{one_executed, queue_after, retired_with, at_work, retired_work, becomes}

-- the work of the lives whose ending passes a test

abbrev pub kept : (Ending → Bool) → List Life → List Work
kept test lives = map work_of_life (ended test lives)

kept-append : (test : Ending → Bool) (xs ys : List Life) → kept test (xs ++ ys) ≡ kept test xs ++ kept test ys
kept-append test xs ys =
    ap (map work_of_life) (filter-append (λ (life : Life). test life.ending) xs ys)
    ∙ map-append work_of_life (ended test xs) (ended test ys)

one_kept : (b : Bool) (life : Life) → map work_of_life (cond b (life ∷ []) []) ≡ cond b (work_of_life life ∷ []) []
one_kept true life = refl
one_kept false life = refl

-- a task at work that fares by a course, if the ending passes
abbrev going_by : (Ending → Bool) → Work → Course → List Work
going_by test w c = cond (test c.ending) (record w { executed = w.executed + c.executed } ∷ []) []

-- the tasks at work, of which the first is at position k
abbrev pub going : (Ending → Bool) → (k : ℕ) → List Work → List Event → List Work
going test k [] es = []
going test k (w ∷ ws) es = going_by test w (course k es) ++ going test (suc k) ws es

module _ (test : Ending → Bool) (squashed : test Squashed ≡ false) (dropped : test Dropped ≡ false) where
  one_on : (n : ℕ) (w : Work) (c : Course) → going_by test w (after_one n c) ≡ going_by test (record w { executed = w.executed + n }) c
  one_on n w c =
      let same : w.executed + (n + c.executed) ≡ w.executed + n + c.executed = omega arith in
      λ i. cond (test c.ending) (record w { executed = same i } ∷ []) []

  none_on : (w : Work) (c : Course) → going_by test w (after_one 0 c) ≡ going_by test w c
  none_on w c =
      let same : w.executed + (0 + c.executed) ≡ w.executed + c.executed = omega arith in
      λ i. cond (test c.ending) (record w { executed = same i } ∷ []) []

  going_on : (k j : ℕ) (e : Event) (es : List Event) (w : Work) → position_after k e ≡ Some j → executed_at k e ≡ 0 → going_by test w (course k (e ∷ es)) ≡ going_by test w (course j es)
  going_on k j e es w is none =
      ap (going_by test w) (course_on k j e es is ∙ ap (λ (n : ℕ). after_one n (course j es)) none) ∙ none_on w (course j es)

  going_past : (e : Event) → ((i : ℕ) → position_after i e ≡ Some i) → ((i : ℕ) → executed_at i e ≡ 0) → (k : ℕ) (ws : List Work) (es : List Event) → going test k ws (e ∷ es) ≡ going test k ws es
  going_past e stays none k [] es = refl
  going_past e stays none k (w ∷ ws) es =
      let rest = going_past e stays none (suc k) ws es in
      let here = going_on k k e es w (stays k) (none k) in
      λ i. here i ++ rest i

  going_exec : (k j : ℕ) (ws : List Work) (es : List Event) → going test k ws (Exec j ∷ es) ≡ going test k (one_executed k j ws) es
  going_exec k j [] es = refl
  going_exec k j (w ∷ ws) es =
      let rest = going_exec (suc k) j ws es in
      let here = one_on (cond (nat_eq j k) 1 0) w (course k es) in
      λ i. here i ++ rest i

  going_nearer : (k : ℕ) (ws : List Work) (es : List Event) → going test (suc k) ws (Retire ∷ es) ≡ going test k ws es
  going_nearer k [] es = refl
  going_nearer k (w ∷ ws) es =
      let rest = going_nearer (suc k) ws es in
      let here = going_on (suc k) k Retire es w refl refl in
      λ i. here i ++ rest i

  head_goes : (w : Work) → going_by test w (record { events = 1; executed = 0; ending = Retired }) ≡ cond (test Retired) (w ∷ []) []
  head_goes w =
      let same : w.executed + 0 ≡ w.executed = omega arith in
      λ i. cond (test Retired) (record w { executed = same i } ∷ []) []

  none_passes : (b : Bool) (w : Work) → b ≡ false → cond b (w ∷ []) [] ≡ []
  none_passes true w e = absurd (true≢false e)
  none_passes false w e = refl

  module _ (e : Event) (limit : ℕ) (stays : (i : ℕ) → i < limit → position_after i e ≡ Some i) (goes : (i : ℕ) → limit ≤ i → position_after i e ≡ None) (none : (i : ℕ) → executed_at i e ≡ 0) (fails : test (ending_by e) ≡ false) where
    all_go : (k : ℕ) → limit ≤ k → (ws : List Work) (es : List Event) → going test k ws (e ∷ es) ≡ []
    all_go k behind [] es = refl
    all_go k behind (w ∷ ws) es =
        let rest = all_go (suc k) (omega arith) ws es in
        let here : going_by test w (course k (e ∷ es)) ≡ [] =
        ap (going_by test w) (course_ends k e es (goes k behind)) ∙ none_passes (test (ending_by e)) (record w { executed = w.executed + 0 }) fails in
        λ i. here i ++ rest i

    cut_from : (m k : ℕ) → limit ≡ k + m → (ws : List Work) (es : List Event) → going test k ws (e ∷ es) ≡ going test k (take m ws) es
    cut_from zero k is ws es = all_go k (omega arith) ws es
    cut_from (suc m) k is [] es = refl
    cut_from (suc m) k is (w ∷ ws) es =
        let rest = cut_from m (suc k) (omega arith) ws es in
        let here = going_on k k e es w (stays k (omega arith)) (none k) in
        λ i. here i ++ rest i

  going_squash : (j : ℕ) (ws : List Work) (es : List Event) → going test 0 ws (Squash j ∷ es) ≡ going test 0 (take (suc j) ws) es
  going_squash j ws es =
      cut_from (Squash j) (suc j)
      (λ i before. ap (λ (b : Bool). cond b None (Some i)) (le-ltb j i (omega arith)))
      (λ i behind. ap (λ (b : Bool). cond b None (Some i)) (lt-ltb j i (omega arith)))
      (λ i. refl) squashed (suc j) 0 (omega arith) ws es

  going_drop : (j : ℕ) (ws : List Work) (es : List Event) → going test 0 ws (Drop j ∷ es) ≡ going test 0 (take j ws) es
  going_drop j ws es =
      cut_from (Drop j) j
      (λ i before. ap (λ (b : Bool). cond b (Some i) None) (lt-ltb i j before))
      (λ i behind. ap (λ (b : Bool). cond b (Some i) None) (le-ltb i j behind))
      (λ i. refl) dropped j 0 (omega arith) ws es

  going_push : (k : ℕ) (ws : List Work) (w : Work) (es : List Event) → going test k (ws ++ w ∷ []) es ≡ going test k ws es ++ going_by test w (course (k + length ws) es)
  going_push k [] w es =
      let here : k ≡ k + 0 = omega arith in
      append-nil (going_by test w (course k es)) ∙ ap (λ (j : ℕ). going_by test w (course j es)) here
  going_push k (v ∷ ws) w es =
      let here : suc k + length ws ≡ k + suc (length ws) = omega arith in
      ap (λ (rest : List Work). going_by test v (course k es) ++ rest)
      (going_push (suc k) ws w es ∙ ap (λ (j : ℕ). going test (suc k) ws es ++ going_by test w (course j es)) here)
      ∙ sym (append_assoc (going_by test v (course k es)) (going test (suc k) ws es) (going_by test w (course (k + suc (length ws)) es)))

  at_end : (b : Bool) (ws rest : List Work) (w : Work) → rest ≡ cond b ws [] → cond b (record w { executed = w.executed + 0 } ∷ []) [] ++ rest ≡ cond b (w ∷ ws) []
  at_end true ws rest w is =
      let same : w.executed + 0 ≡ w.executed = omega arith in
      λ i. record w { executed = same i } ∷ is i
  at_end false ws rest w is = is

  nothing : (b : Bool) (ws : List Work) → ws ≡ [] → ws ≡ cond b ws []
  nothing true ws none = refl
  nothing false ws none = none

  going_end : (k : ℕ) (ws : List Work) → going test k ws [] ≡ cond (test Unfinished) ws []
  going_end k [] = nothing (test Unfinished) [] refl
  going_end k (w ∷ ws) = at_end (test Unfinished) ws (going test (suc k) ws []) w (going_end (suc k) ws)

  -- one event

  retires : (b : Bool) (done : List Work) (w : Work) (rest : List Work) → cond b done [] ++ (cond b (w ∷ []) [] ++ rest ++ []) ≡ cond b (done ++ w ∷ []) [] ++ rest
  retires true done w rest =
      ap (λ (ws : List Work). done ++ (w ∷ ws)) (append-nil rest) ∙ sym (append_assoc done (w ∷ []) rest)
  retires false done w rest = append-nil rest

  abbrev passed : (done ws : List Work) → (e : Event) → List Event → List Life → List Work
  passed done ws e es lives = cond (test Retired) done [] ++ (going test 0 ws (e ∷ es) ++ kept test lives)

  abbrev passes : (done ws : List Work) → Event → List Event → List Work
  passes done ws e es = cond (test Retired) (retired_with done ws e) [] ++ going test 0 (queue_after ws e) es

  same_done : (done : List Work) (xs ys : List Work) → xs ≡ ys → cond (test Retired) done [] ++ (xs ++ []) ≡ cond (test Retired) done [] ++ ys
  same_done done xs ys is = ap (λ (ws : List Work). cond (test Retired) done [] ++ ws) (append-nil xs ∙ is)

  retire_one : (done ws : List Work) (es : List Event) → passed done ws Retire es [] ≡ passes done ws Retire es
  retire_one done [] es = ap (λ (xs : List Work). cond (test Retired) xs [] ++ []) (sym (append-nil done))
  retire_one done (w ∷ ws) es =
      let head = head_goes w in
      let rest = going_nearer 0 ws es in
      (λ i. cond (test Retired) done [] ++ ((head i ++ rest i) ++ []))
      ∙ retires (test Retired) done w (going test 0 ws es)

  one_event : (units r n : ℕ) (done ws : List Work) (e : Event) (es : List Event) → passed done ws e es (begun units r (length ws) n e es) ≡ passes done ws e es
  one_event units r n done ws (Assign t) es =
      let c = course (length ws) es in
      let here : 0 + c.executed ≡ c.executed = omega arith in
      let new : Work = record { task = t; executed = 0 } in
      let one : kept test (begun units r (length ws) n (Assign t) es) ≡ going_by test new c =
      one_kept (test c.ending) _ ∙ (λ i. cond (test c.ending) (record { task = t; executed = sym here i } ∷ []) []) in
      let place : length ws ≡ 0 + length ws = omega arith in
      ap (λ (xs : List Work). cond (test Retired) done [] ++ xs)
      ((λ i. going_past (Assign t) (λ j. refl) (λ j. refl) 0 ws es i ++ one i)
      ∙ ap (λ (k : ℕ). going test 0 ws es ++ going_by test new (course k es)) place
      ∙ sym (going_push 0 ws new es))
  one_event units r n done ws (Exec j) es = same_done done _ _ (going_exec 0 j ws es)
  one_event units r n done ws (Transfer k q) es = same_done done _ _ (going_past (Transfer k q) (λ i. refl) (λ i. refl) 0 ws es)
  one_event units r n done ws (Drain k q) es = same_done done _ _ (going_past (Drain k q) (λ i. refl) (λ i. refl) 0 ws es)
  one_event units r n done ws (Squash j) es = same_done done _ _ (going_squash j ws es)
  one_event units r n done ws Retire es = retire_one done ws es
  one_event units r n done ws Fault es = same_done done _ _ (going_past Fault (λ i. refl) (λ i. refl) 0 ws es)
  one_event units r n done ws (Drop j) es = same_done done _ _ (going_drop j ws es)

  -- all events

  last_state : (done ws : List Work) → cond (test Retired) done [] ++ (going test 0 ws [] ++ []) ≡ cond (test Retired) done [] ++ cond (test Unfinished) ws []
  last_state done ws = same_done done _ _ (going_end 0 ws)

  pub kept_by : EventsCount → (p : Listing) (units : ℕ) (es : List Event) (n : ℕ) (s s' : State) → ReplaysFrom p units s es s'
      → cond (test Retired) (retired_work s) [] ++ (going test 0 (at_work s) es ++ kept test (lives_from units (length s.commits) (length s.queue) n es))
      ≡ cond (test Retired) (retired_work s') [] ++ cond (test Unfinished) (at_work s') []
  kept_by count p units [] n s s' h =
      last_state (retired_work s) (at_work s)
      ∙ ap (λ (x : State). cond (test Retired) (retired_work x) [] ++ cond (test Unfinished) (at_work x) []) (sym h)
  kept_by count p units (e ∷ es) n s s' h =
      let mid = h.0 in
      let counts = count p units s mid e h.1 in
      let b = becomes p units s mid e h.1 in
      let first = begun units (length s.commits) (length s.queue) n e es in
      let later : (r a : ℕ) → List Work = λ r a. kept test (lives_from units r a (suc n) es) in
      let rest = later (length mid.commits) (length mid.queue) in
      let before : List Work = cond (test Retired) (retired_work s) [] in
      let now = going test 0 (at_work s) (e ∷ es) in
      let long : length s.queue ≡ length (at_work s) = sym (length-map s.queue work_of_unit) in
      let r' = sym counts.0 in
      let a' = sym counts.1 in
      ap (λ (ws : List Work). before ++ (now ++ ws))
      (kept-append test first (lives_from units (retired_after (length s.commits) e) (active_after (length s.queue) e) (suc n) es)
      ∙ (λ i. kept test first ++ later (r' i) (a' i)))
      ∙ ap (λ (ws : List Work). before ++ ws) (sym (append_assoc now (kept test first) rest))
      ∙ sym (append_assoc before (now ++ kept test first) rest)
      ∙ ap (λ (ws : List Work). ws ++ rest)
      (ap (λ (a : ℕ). passed (retired_work s) (at_work s) e es (begun units (length s.commits) a n e es)) long
      ∙ one_event units (length s.commits) n (retired_work s) (at_work s) e es
      ∙ (let q = sym b.queue in let d = sym b.retired in λ i. cond (test Retired) (d i) [] ++ going test 0 (q i) es))
      ∙ append_assoc (cond (test Retired) (retired_work mid) []) (going test 0 (at_work mid) es) rest
      ∙ kept_by count p units es (suc n) mid s' h.2
