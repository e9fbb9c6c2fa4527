-- A wait and that of the next step, as one; and one wait more.
use Rattle.std.proofs.Common.{◌≡◌, ℕ, ◌+◌, ◌<◌, List, [], ◌∷◌, ◌++◌, length, take, get_or, sym, ap, ◌∙◌, append_assoc}
use Rattle.std.specs.Prelude.{flat_map, Option}
use Rattle.std.proofs.lemmas.List.{flat_map_more, take_more}
use Rattle.std.proofs.lemmas.List.FromFn.{map-range_with_len_more}
use Rattle.unit_waits.specs.declared.waiting.Waiting.{Waiting}
use Rattle.run_picture.specs.declared.shape.Debt.{Debt}
use Rattle.run_picture.specs.declared.shape.Wait.{Wait}
use Rattle.run_picture.specs.declared.shape.Why.TheVariants.{NeedsRegister, HasToPass}
use Rattle.step_picture.specs.Strips.{each_step, option_list, wait_on, waits_on}

pub joined_steps : (b n : Wait) → record b { step = n.step; count = 1 } ≡ n → n.step ≡ b.step + b.count
    → each_step (record b { count = b.count + 1 }) ≡ each_step b ++ each_step n
joined_steps b n same next =
    map-range_with_len_more (λ (s : ℕ). record b { step = s; count = 1 }) b.step b.count n.step (sym next)
    ∙ ap (λ (w : Wait). each_step b ++ each_step w) same

pub wait_more : (unit : ℕ) (waits : List Waiting) (i : ℕ) (w : Waiting) (found : Option Wait) (base old before new current : List Wait)
    → i < length waits → w ≡ get_or waits i w → found ≡ wait_on unit w → flat_map each_step (option_list found) ≡ option_list found
    → old ++ before ≡ base ++ waits_on (take i waits) unit
    → new ++ current ≡ old ++ (before ++ flat_map each_step (option_list found))
    → new ++ current ≡ base ++ waits_on (take (i + 1) waits) unit
wait_more unit waits i w found base old before new current within is by each so_far more =
    let f : Waiting → List Wait = λ v. option_list (wait_on unit v) in
    more
    ∙ ap (λ (xs : List Wait). old ++ (before ++ xs)) (each ∙ ap (λ (o : Option Wait). option_list o) by)
    ∙ sym (append_assoc old before (f w))
    ∙ ap (λ (xs : List Wait). xs ++ f w) so_far
    ∙ flat_map_more f base (take i waits) w
    ∙ ap (λ (v : Waiting). base ++ flat_map f (take i waits ++ v ∷ [])) is
    ∙ ap (λ (xs : List Waiting). base ++ flat_map f xs) (sym (take_more waits i w within))

-- values with the same parts are the same

pub same_debt : (a b : Debt) → a.register ≡ b.register → a.task ≡ b.task → a.unit ≡ b.unit → a.is_sent ≡ b.is_sent → a ≡ b
same_debt a b register task unit sent = (λ i. record { register = register i; task = task i; unit = unit i; is_sent = sent i })

pub same_need : (a b : Debt) → a ≡ b → NeedsRegister a ≡ NeedsRegister b
same_need a b same = ap (λ (d : Debt). NeedsRegister d) same

pub same_duty : (a b : Debt) → a ≡ b → HasToPass a ≡ HasToPass b
same_duty a b same = ap (λ (d : Debt). HasToPass d) same

pub same_wait : (a b : Wait) → b.count ≡ 1 → a.unit ≡ b.unit → a.task ≡ b.task → a.why ≡ b.why → record a { step = b.step; count = 1 } ≡ b
same_wait a b one unit task why = (λ i. record { unit = unit i; task = task i; step = b.step; count = sym one i; why = why i })
