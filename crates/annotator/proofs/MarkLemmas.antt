-- The lists of the least certificate hold what the tasks reach; from them, which instructions are members,
-- what tasks create, and which instructions write last.
use Rattle.annotator.proofs.Imports.{◌≡◌, ℕ, ◌+◌, ◌<◌, ◌≤◌, ◌⊎◌, ◌↔◌, Bool, true, false, not, ◌&&◌, ◌||◌, eqb, Option, Some, None, List, [], ◌∷◌, ◌++◌, map, take, length, get_or, set, replicate, slice_get, refl, sym, ◌∙◌, ap, subst, arith, zero, suc, inl, inr, Contains, is_some, IsTrue, All, list_any, cases_eq, cases_lt, cases_Bool, or_cases, or_left, or_right, and_from, and_parts, eq-eqb, eqb-true, ne_eqb, cond-true, cond-false, false_from_ne_true, get_or-map, length-map, map-append, take_more, get_or-set_same, get_or-set_other, length-set, length-replicate, get_or_append_left, get_or_push, length_push, get_or_default, Contains-append_left, Contains-push, Contains-push_cases, Contains-get_or, Contains-tail, slice_get_within, slice_get_read, has, dests, released, Op, Listing, IsWellFormed, has_destination, is_bad_mark, registers, passes, Marked, Descriptor, Next, Edge, Path, stay, onward, MayWrite, Reaches, is_marked, Follows, is_among, is_it, unmarked_first, it, that, list_of, mask_at, holds_at, holds_some, some_holds, LeastList, IsLeast, produces, Produces, IsMember, WritesLast, AreExact, may, indices_of, AreMarked, AreMembers, WrittenBehind, ProducedAt, AreCreates, AreForwards}
use Rattle.annotator.proofs.LeastMasks.{some_task}

-- an index has a mask exactly where it is listed
mask_listed : (es : List (ℕ × ℕ)) (i : ℕ) → is_some (mask_at es i) ≡ true → Contains (indices_of es) i
mask_listed [] i h = absurd (cc)
mask_listed (e ∷ es) i h = elim (cases_eq e.0 i) [
  | inl same ↦ (0, omega arith, same)
  | inr ne ↦
      let rest = mask_listed es i (sym (ap (λ (o : Option ℕ). is_some o) (cond-false (eqb e.0 i) (Some e.1) (mask_at es i) (ne_eqb e.0 i ne))) ∙ h) in
      (suc rest.0, omega (arith, rest.1), rest.2)
]

listed_mask : (es : List (ℕ × ℕ)) (i : ℕ) → Contains (indices_of es) i → is_some (mask_at es i) ≡ true
listed_mask [] i c = absurd (omega (arith, c.1))
listed_mask (e ∷ es) i c = elim (cases_eq e.0 i) [
  | inl same ↦ ap (λ (o : Option ℕ). is_some o) (cond-true (eqb e.0 i) (Some e.1) (mask_at es i) (eq-eqb e.0 i same))
  | inr ne ↦ ap (λ (o : Option ℕ). is_some o) (cond-false (eqb e.0 i) (Some e.1) (mask_at es i) (ne_eqb e.0 i ne)) ∙ listed_mask es i (Contains-tail e.0 (indices_of es) i ne c)
]

pub listed_reached : (p : Listing) (d : Descriptor) (es : List (ℕ × ℕ)) → LeastList p d es → (i : ℕ) → Contains (indices_of es) i ↔ Reaches p d.entry i
listed_reached p d es least i = (λ c. (least.reached i).0 (listed_mask es i c), λ r. mask_listed es i ((least.reached i).1 r))

entry_listed : (es : List (ℕ × ℕ)) (k : ℕ) (d : ℕ × ℕ) → k < length es → Contains (indices_of es) (get_or es k d).0
entry_listed es k d less =
    (k, omega (arith, length-map es (λ (e : ℕ × ℕ). e.0)), get_or-map (λ (e : ℕ × ℕ). e.0) es k d (get_or es k d).0 less)

-- the indices of a task's list are instructions
pub entries_inside : (p : Listing) (cert : List (List (ℕ × ℕ))) (t n : ℕ) (es : List (ℕ × ℕ)) → IsLeast p cert → t < length p.tasks → es ≡ list_of cert t → n ≡ length p.code
    → All (λ e. e.0 < n) es
entries_inside p cert t n es least inside is sized k d less =
    let task = some_task p.tasks t inside in
    let list : LeastList p task.0 es = subst (λ (xs : List (ℕ × ℕ)). LeastList p task.0 xs) (sym is) (least.least t task.0 task.1) in
    let within = ((listed_reached p task.0 es list (get_or es k d).0).0 (entry_listed es k d less)).within in
    omega arith

-- one index more of a list
pub one_index_more : (list : List (ℕ × ℕ)) (k : ℕ) (e : ℕ × ℕ) → k < length list → e ≡ get_or list k e → indices_of (take (k + 1) list) ≡ indices_of (take k list) ++ e.0 ∷ []
one_index_more list k e less is =
    ap (λ (xs : List (ℕ × ℕ)). indices_of xs) (take_more list k e less)
    ∙ map-append (λ (x : ℕ × ℕ). x.0) (take k list) (get_or list k e ∷ [])
    ∙ ap (λ (x : ℕ × ℕ). indices_of (take k list) ++ x.0 ∷ []) (sym is)

-- marks
pub marked_none : (marks : List Bool) → AreMarked [] marks marks
marked_none marks = record { sized = refl; kept = λ i h. h; set = λ i c. absurd (omega (arith, c.1)); only = λ i h. inl h }

pub marked_more : (indices more : List ℕ) (index : ℕ) (old new : List Bool) → more ≡ indices ++ index ∷ [] → index < length old → AreMarked indices old new
    → AreMarked more old (set new index true)
marked_more indices more index old new is within m = record {
  sized = length-set new index true ∙ m.sized;
  kept = λ i h. still i (m.kept i h);
  set = λ i c. elim (Contains-push_cases indices index i (subst (λ (xs : List ℕ). Contains xs i) is c)) [
    | inl was ↦ still i (m.set i was)
    | inr same ↦ subst (λ (k : ℕ). is_marked (set new index true) k ≡ true) same here
  ];
  only = λ i h. elim (cases_eq i index) [
    | inl same ↦ inr (subst (λ (k : ℕ). Contains more k) (sym same) (subst (λ (xs : List ℕ). Contains xs index) (sym is) (Contains-push indices index)))
    | inr ne ↦ elim (m.only i (sym (get_or-set_other new index i true false ne) ∙ h)) [
      | inl was ↦ inl was
      | inr c ↦ inr (subst (λ (xs : List ℕ). Contains xs i) (sym is) (Contains-append_left indices (index ∷ []) i c))
    ]
  ];
}
  where
    here : is_marked (set new index true) index ≡ true
    here = get_or-set_same new index true false (omega (arith, m.sized))

    still : (i : ℕ) → is_marked new i ≡ true → is_marked (set new index true) i ≡ true
    still i h = elim (cases_eq i index) [
      | inl same ↦ subst (λ (k : ℕ). is_marked (set new index true) k ≡ true) (sym same) here
      | inr ne ↦ get_or-set_other new index i true false ne ∙ h
    ]

-- members
pub members_none : (p : Listing) (marks : List Bool) (n : ℕ) → marks ≡ replicate n false → n ≡ length p.code → AreMembers p 0 marks
members_none p marks n is sized = record {
  sized = ap (λ (xs : List Bool). length xs) is ∙ length-replicate n false ∙ sized;
  reached = λ i m less. absurd (omega arith);
  only = λ i h. absurd (unmarked_first n i (subst (λ (xs : List Bool). is_marked xs i ≡ true) is h));
}

pub members_more : (p : Listing) (cert : List (List (ℕ × ℕ))) (n : ℕ) (es : List (ℕ × ℕ)) (marks marks' : List Bool) → IsLeast p cert → n < length p.tasks → es ≡ list_of cert n
    → AreMarked (indices_of es) marks marks' → AreMembers p n marks → AreMembers p (n + 1) marks'
members_more p cert n es marks marks' least inside is set before = record {
  sized = set.sized ∙ before.sized;
  reached = λ i m less. elim (cases_lt m.task n) [
    | inl earlier ↦ set.kept i (before.reached i m earlier)
    | inr last ↦
        let same : m.task ≡ n = omega arith in
        let there : slice_get p.tasks n ≡ Some m.descriptor = subst (λ (t : ℕ). slice_get p.tasks t ≡ Some m.descriptor) same m.is_there in
        set.set i ((listed_reached p m.descriptor es (list m.descriptor there) i).1 m.reached)
  ];
  only = λ i h. elim (set.only i h) [
    | inl was ↦ before.only i was
    | inr c ↦
        let task = some_task p.tasks n inside in
        record { task = n; descriptor = task.0; is_there = task.1; reached = (listed_reached p task.0 es (list task.0 task.1) i).0 c }
  ];
}
  where
    list : (d : Descriptor) → slice_get p.tasks n ≡ Some d → LeastList p d es
    list d there = subst (λ (xs : List (ℕ × ℕ)). LeastList p d xs) (sym is) (least.least n d there)

-- what instructions produce
pub produced_none : (code : List Marked) (r : ℕ) → ProducedAt code [] r → ⊥
produced_none code r h = let c = h.listed in omega (arith, c.1)

pub produced_more : (code : List Marked) (indices more : List ℕ) (index set joined r : ℕ) (m : Marked) → more ≡ indices ++ index ∷ [] → slice_get code index ≡ Some m
    → has joined r ≡ (has set r || produces m.op r)
    → ((has set r ≡ true) ↔ ProducedAt code indices r) → (has joined r ≡ true) ↔ ProducedAt code more r
produced_more code indices more index set joined r m is there members before = (
  λ h. elim (or_cases (has set r) (produces m.op r) (sym members ∙ h)) [
    | inl was ↦
        let w = before.0 was in
        record { place = w.place; listed = subst (λ (xs : List ℕ). Contains xs w.place) (sym is) (Contains-append_left indices (index ∷ []) w.place w.listed); at = w.at; is_there = w.is_there; produced = w.produced }
    | inr now ↦ record { place = index; listed = subst (λ (xs : List ℕ). Contains xs index) (sym is) (Contains-push indices index); at = m; is_there = there; produced = now }
  ],
  λ w. members ∙ elim (Contains-push_cases indices index w.place (subst (λ (xs : List ℕ). Contains xs w.place) is w.listed)) [
    | inl was ↦ or_left (has set r) (produces m.op r) (before.1 (record { place = w.place; listed = was; at = w.at; is_there = w.is_there; produced = w.produced }))
    | inr same ↦
        let at_index : slice_get code index ≡ Some w.at = subst (λ (k : ℕ). slice_get code k ≡ Some w.at) (sym same) w.is_there in
        let same_mark : w.at ≡ m = cc (at_index, there) in
        or_right (has set r) (produces m.op r) (subst (λ (x : Marked). produces x.op r ≡ true) same_mark w.produced)
  ],
)

pub creates_none : (p : Listing) (creates : List ℕ) → creates ≡ [] → AreCreates p 0 creates
creates_none p creates is = record { sized = ap (λ (xs : List ℕ). length xs) is; exact = λ t d r less there. absurd (omega arith) }

pub creates_more : (p : Listing) (cert : List (List (ℕ × ℕ))) (n : ℕ) (es : List (ℕ × ℕ)) (code : List Marked) (creates creates' : List ℕ) (create : ℕ) → IsLeast p cert → es ≡ list_of cert n → code ≡ p.code
    → creates' ≡ creates ++ create ∷ [] → ((r : ℕ) → (has create r ≡ true) ↔ ProducedAt code (indices_of es) r)
    → AreCreates p n creates → AreCreates p (n + 1) creates'
creates_more p cert n es code creates creates' create least is same pushed exact before = record {
  sized = ap (λ (xs : List ℕ). length xs) pushed ∙ length_push creates create ∙ ap (λ (k : ℕ). k + 1) before.sized;
  exact = λ t d r less there. elim (cases_lt t n) [
    | inl earlier ↦
        subst (λ (k : ℕ). (has k r ≡ true) ↔ Produces p d r)
        (sym (ap (λ (xs : List ℕ). get_or xs t 0) pushed ∙ get_or_append_left creates (create ∷ []) 0 t (omega (arith, before.sized)))) (before.exact t d r earlier there)
    | inr last ↦
        let here : n ≡ t = omega arith in
        let task : slice_get p.tasks n ≡ Some d = subst (λ (k : ℕ). slice_get p.tasks k ≡ Some d) (sym here) there in
        let list : LeastList p d es = subst (λ (xs : List (ℕ × ℕ)). LeastList p d xs) (sym is) (least.least n d task) in
        subst (λ (k : ℕ). (has k r ≡ true) ↔ Produces p d r)
        (sym (ap (λ (xs : List ℕ). get_or xs t 0) pushed ∙ get_or_push creates create 0 t (before.sized ∙ here))) (by_task d r list)
  ];
}
  where
    by_task : (d : Descriptor) (r : ℕ) → LeastList p d es → (has create r ≡ true) ↔ Produces p d r
    by_task d r list = (
      λ h. let w = (exact r).0 h in
          record { place = w.place; reached = (listed_reached p d es list w.place).0 w.listed; at = w.at; is_there = subst (λ (c : List Marked). slice_get c w.place ≡ Some w.at) same w.is_there; produced = w.produced },
      λ w. (exact r).1 (record { place = w.place; listed = (listed_reached p d es list w.place).1 w.reached; at = w.at; is_there = subst (λ (c : List Marked). slice_get c w.place ≡ Some w.at) (sym same) w.is_there; produced = w.produced }),
    )

-- what is written after an instruction
pub behind_exact : (p : Listing) (masks : List ℕ) (i r : ℕ) (next : Next) (first second joined : ℕ) → AreExact p masks → ((j : ℕ) → (is_among next j ≡ true) ↔ Follows p i j)
    → has first r ≡ holds_at next.first (λ j. has (get_or masks j 0) r) → has second r ≡ holds_at next.second (λ j. has (get_or masks j 0) r)
    → has joined r ≡ (has first r || has second r) → (has joined r ≡ true) ↔ WrittenBehind p i r
behind_exact p masks i r next first second joined exact among one two members = (
  λ h. elim (or_cases (has first r) (has second r) (sym members ∙ h)) [
    | inl a ↦ let k = holds_some next.first test (sym one ∙ a) in from k.0 (or_left (is_it next.first k.0) (is_it next.second k.0) (it next.first k.0 k.1)) k.2
    | inr b ↦ let k = holds_some next.second test (sym two ∙ b) in from k.0 (or_right (is_it next.first k.0) (is_it next.second k.0) (it next.second k.0 k.1)) k.2
  ],
  λ w. members ∙ elim (or_cases (is_it next.first w.next) (is_it next.second w.next) ((among w.next).1 w.follows)) [
    | inl a ↦ or_left (has first r) (has second r) (one ∙ some_holds next.first test w.next (that next.first w.next a) ((exact.exact w.next r).1 w.writes))
    | inr b ↦ or_right (has first r) (has second r) (two ∙ some_holds next.second test w.next (that next.second w.next b) ((exact.exact w.next r).1 w.writes))
  ],
)
  where
    test : ℕ → Bool
    test j = has (get_or masks j 0) r

    from : (j : ℕ) → is_among next j ≡ true → test j ≡ true → WrittenBehind p i r
    from j h held = record { next = j; follows = (among j).0 h; writes = (exact.exact j r).0 held }

-- the last writes: each destination is left when those written after are taken off
not_both : (a b : Bool) → (a && not b) ≡ true → b ≡ true → ⊥
not_both true true h e = cc
not_both true false h e = cc
not_both false b h e = cc

and_not : (a b : Bool) → a ≡ true → (b ≡ true → ⊥) → (a && not b) ≡ true
and_not true true e f = absurd (f refl)
and_not true false e f = refl
and_not false b e f = absurd (cc)

written_inside : (p : Listing) (j r : ℕ) → MayWrite p j r → j < length p.code
written_inside p j r w = starts j w.place w.comes (slice_get_within p.code w.place w.at w.is_there)
  where
    starts : (j k : ℕ) → Path p j k → k < length p.code → j < length p.code
    starts j k stay within = within
    starts j k (onward {j = l} path e) within = starts j l path (slice_get_within p.code l e.at e.is_there)

pub last_exact : (p : Listing) (i : ℕ) (op : Op) (written again left : ℕ) → has_destination op ≡ true → ((r : ℕ) → has written r ≡ dests op r)
    → ((r : ℕ) → (has again r ≡ true) ↔ WrittenBehind p i r) → ((r : ℕ) → has left r ≡ (has written r && not (has again r)))
    → ((r : ℕ) → has written r ≡ true → has left r ≡ true) ↔ WritesLast p i op
last_exact p i op written again left some writes behind members = (
  λ all. record {
    writes = some;
    last = λ j r e d w.
        let within : j < length p.code = written_inside p j r w in
        not_both (has written r) (has again r) (sym (members r) ∙ all r (writes r ∙ d))
        ((behind r).1 (record { next = j; follows = record { edge = e; within = within }; writes = w }));
  },
  λ l r h. members r ∙ and_not (has written r) (has again r) h (λ yes.
      let w = (behind r).0 yes in l.last w.next r w.follows.edge (sym (writes r) ∙ h) w.writes),
)

-- forward bits
pub forwards_none : (p : Listing) (forwards : List Bool) → forwards ≡ [] → AreForwards p 0 forwards
forwards_none p forwards is = record {
  sized = ap (λ (xs : List Bool). length xs) is;
  member = λ i m less. absurd (omega arith);
  beside = λ i m less. absurd (omega arith);
  fits = λ i m less. absurd (omega arith);
}

pub record IsForward (p : Listing) (i : ℕ) (m : Marked) (bit : Bool) : Type 0 where
  pub member : IsMember p i → (bit ≡ true) ↔ WritesLast p i m.op
  pub beside : (IsMember p i → ⊥) → bit ≡ m.forward
  pub fits : bit ≡ true → has_destination m.op ≡ true

pub forwards_more : (p : Listing) (n : ℕ) (forwards forwards' : List Bool) (bit : Bool) (m : Marked) → forwards' ≡ forwards ++ bit ∷ [] → slice_get p.code n ≡ Some m
    → IsForward p n m bit → AreForwards p n forwards → AreForwards p (n + 1) forwards'
forwards_more p n forwards forwards' bit m pushed there right before = record {
  sized = ap (λ (xs : List Bool). length xs) pushed ∙ length_push forwards bit ∙ ap (λ (k : ℕ). k + 1) before.sized;
  member = λ i m' less there'. (at i m' less there').member;
  beside = λ i m' less there'. (at i m' less there').beside;
  fits = λ i m' less there'. (at i m' less there').fits;
}
  where
    at : (i : ℕ) (m' : Marked) → i < n + 1 → slice_get p.code i ≡ Some m' → IsForward p i m' (is_marked forwards' i)
    at i m' less there' = elim (cases_lt i n) [
      | inl earlier ↦
          subst (λ (b : Bool). IsForward p i m' b)
          (sym (ap (λ (xs : List Bool). get_or xs i false) pushed ∙ get_or_append_left forwards (bit ∷ []) false i (omega (arith, before.sized))))
          (record { member = before.member i m' earlier there'; beside = before.beside i m' earlier there'; fits = before.fits i m' earlier there' })
      | inr last ↦
          let here : n ≡ i = omega arith in
          let is_m : slice_get p.code n ≡ Some m' = subst (λ (k : ℕ). slice_get p.code k ≡ Some m') (sym here) there' in
          let same : m ≡ m' = cc (is_m, there) in
          subst (λ (b : Bool). IsForward p i m' b)
          (sym (ap (λ (xs : List Bool). get_or xs i false) pushed ∙ get_or_push forwards bit false i (before.sized ∙ here)))
          (subst (λ (k : ℕ). IsForward p k m' bit) here (subst (λ (x : Marked). IsForward p n x bit) same right))
    ]

pub member_bit : (p : Listing) (i : ℕ) (m : Marked) (bit : Bool) → IsMember p i → ((bit ≡ true) ↔ WritesLast p i m.op) → IsForward p i m bit
member_bit p i m bit is right = record { member = λ h. right; beside = λ none. absurd (none is); fits = λ b. (right.0 b).writes }

pub other_bit : (p : Listing) (i : ℕ) (m : Marked) (bit : Bool) → (IsMember p i → ⊥) → bit ≡ m.forward → (m.forward ≡ true → has_destination m.op ≡ true) → IsForward p i m bit
other_bit p i m bit none same fits = record { member = λ h. absurd (none h); beside = λ h. same; fits = λ b. fits (sym same ∙ b) }

-- a test of each register, of the set and of the instruction
same_any : (f g : ℕ → Bool) → ((x : ℕ) → f x ≡ g x) → (xs : List ℕ) → list_any f xs ≡ list_any g xs
same_any f g same [] = refl
same_any f g same (x ∷ xs) = λ k. same x k || same_any f g same xs k

pub some_written : (op : Op) (written : ℕ) → ((r : ℕ) → has written r ≡ dests op r) → list_any (has written) registers ≡ true → has_destination op ≡ true
some_written op written same h = sym (same_any (has written) (dests op) same registers) ∙ h

pub none_written : (op : Op) (written : ℕ) → ((r : ℕ) → has written r ≡ dests op r) → list_any (has written) registers ≡ false → has_destination op ≡ true → ⊥
none_written op written same none some = both (has_destination op) (sym (same_any (has written) (dests op) same registers) ∙ none) some
  where
    both : (b : Bool) → b ≡ false → b ≡ true → ⊥
    both b f t = cc
