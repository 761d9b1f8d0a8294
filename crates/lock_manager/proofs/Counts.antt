-- How many of the wants are new.
use Rattle.std.proofs.Common.{◌≡◌, ℕ, ◌+◌, ◌≤◌, List, [], ◌∷◌, ◌++◌, length, sym, ◌∙◌, subst, arith, inl, inr}
use Rattle.std.specs.Prelude.{◌⊎◌}
use Rattle.std.specs.List.{Contains}
use Rattle.std.proofs.lemmas.List.Elements.{Contains-append_left, Contains-append_right}
use Rattle.iv_types.specs.declared.lock.Want.{Want}
use Rattle.lock_manager.specs.Table.{HasGained, AddAtMost, AreNew, IsUsed}
use Rattle.lock_manager.proofs.Gains.{contains_none, contains_cases, contains_head, contains_tail, AreGaining, gaining_first, gaining_more, gaining_left, gaining_last}

-- ---- as many places as values

-- a list without one that it has
record IsTakenOut (x : Want) (xs : List Want) : Type 0 where
  pub rest : List Want
  pub fewer : length rest + 1 ≡ length xs
  pub others : (w : Want) → Contains xs w → (w ≡ x) ⊎ Contains rest w

taken_out : (x : Want) (xs : List Want) → Contains xs x → IsTakenOut x xs
taken_out x [] h = absurd (contains_none x h)
taken_out x (y ∷ xs) h = elim (contains_cases y xs x h) [
  | inl e ↦ record { rest = xs; fewer = omega arith; others = λ w k. elim (contains_cases y xs w k) [ inl same ↦ inl (sym same ∙ e) | inr later ↦ inr later ] }
  | inr there ↦
      let out = taken_out x xs there in
      record {
        rest = y ∷ out.rest;
        fewer = let n = out.fewer in omega (arith, n);
        others = λ w k. elim (contains_cases y xs w k) [
          | inl same ↦ inr (subst (Contains (y ∷ out.rest)) same (contains_head y out.rest))
          | inr later ↦ elim (out.others w later) [ inl e ↦ inl e | inr left ↦ inr (contains_tail y out.rest w left) ]
        ];
      }
]

-- each once
abbrev AreDifferent : List Want → Type 0
AreDifferent [] = Unit {0}
AreDifferent (x ∷ xs) = ¬ Contains xs x × AreDifferent xs

no_more : (xs ys : List Want) → AreDifferent xs → ((w : Want) → Contains xs w → Contains ys w) → length xs ≤ length ys
no_more [] ys d sub = omega arith
no_more (x ∷ xs) ys d sub =
    let out = taken_out x ys (sub x (contains_head x xs)) in
    let rest = no_more xs out.rest d.1 (λ w h. elim (out.others w (sub w (contains_tail x xs w h))) [
      | inl e ↦ absurd (d.0 (subst (Contains xs) e h))
      | inr left ↦ left
    ]) in
    let n = out.fewer in
    omega (arith, rest, n)

-- ---- room

pub all_new : (n : ℕ) (locks wants : List Want) → length wants ≤ n → AddAtMost n locks wants
all_new n locks wants le = record { new = wants; few = le; others = λ w h. inr h }

pub with_more : (n m : ℕ) (locks wants : List Want) → n ≤ m → AddAtMost n locks wants → AddAtMost m locks wants
with_more n m locks wants le h = record { new = h.new; few = let few = h.few in omega (arith, le, few); others = h.others }

-- the last want is held
pub room_held : (n : ℕ) (locks wants rest : List Want) (x : Want) → wants ≡ rest ++ x ∷ [] → AddAtMost n locks wants → AddAtMost n locks rest
room_held n locks wants rest x is h = record {
  new = h.new;
  few = h.few;
  others = λ w k. h.others w (subst (λ (l : List Want). Contains l w) (sym is) (Contains-append_left rest (x ∷ []) w k));
}

last_new : (n : ℕ) (locks wants rest : List Want) (x : Want) → wants ≡ rest ++ x ∷ [] → ¬ Contains locks x → (h : AddAtMost n locks wants) → Contains h.new x
last_new n locks wants rest x is out h = elim (h.others x (subst (λ (l : List Want). Contains l x) (sym is) (Contains-append_right rest (x ∷ []) x (contains_head x [])))) [
  | inl held ↦ absurd (out held)
  | inr new ↦ new
]

-- the last want is new
pub room_first : (n : ℕ) (locks wants rest : List Want) (x : Want) → wants ≡ rest ++ x ∷ [] → ¬ Contains locks x → AddAtMost n locks wants → 1 ≤ n
room_first n locks wants rest x is out h =
    let taken = taken_out x h.new (last_new n locks wants rest x is out h) in
    let fewer = taken.fewer in
    let few = h.few in
    omega (arith, fewer, few)

pub room_new : (n m : ℕ) (locks after wants rest : List Want) (x : Want) → wants ≡ rest ++ x ∷ [] → ¬ Contains locks x → HasGained locks (x ∷ []) after → n ≤ m + 1 → AddAtMost n locks wants → AddAtMost m after rest
room_new n m locks after wants rest x is out gained le h =
    let taken = taken_out x h.new (last_new n locks wants rest x is out h) in
    let fewer = taken.fewer in
    let few = h.few in
    record {
      new = taken.rest;
      few = omega (arith, fewer, few, le);
      others = λ w k. elim (h.others w (subst (λ (l : List Want). Contains l w) (sym is) (Contains-append_left rest (x ∷ []) w k))) [
        | inl held ↦ inl ((gained w).1 (inl held))
        | inr new ↦ elim (taken.others w new) [
          | inl e ↦ inl ((gained w).1 (inr (subst (Contains (x ∷ [])) (sym e) (contains_head x []))))
          | inr left ↦ inr left
        ]
      ];
    }

-- ---- one want after the other

-- the locks now are those before and the new ones of the wants but for what is left, so many
pub record AreAdded (old wants now left : List Want) (used : ℕ) : Type 0 where
  pub gaining : AreGaining old wants now left
  pub new : List Want
  pub different : AreDifferent new
  pub wanted : (w : Want) → Contains new w → Contains wants w
  pub not_held : (w : Want) → Contains new w → ¬ Contains old w
  pub are : HasGained old new now
  pub count : length new ≡ used

pub added_first : (old wants : List Want) → AreAdded old wants old wants 0
added_first old wants = record {
  gaining = gaining_first old wants;
  new = [];
  different = tt;
  wanted = λ w h. absurd (contains_none w h);
  not_held = λ w h. absurd (contains_none w h);
  are = λ w. (λ h. inl h, λ h. elim h [ inl there ↦ there | inr none ↦ absurd (contains_none w none) ]);
  count = omega arith;
}

pub added_held : (old wants now left rest : List Want) (x : Want) (used : ℕ) → left ≡ rest ++ x ∷ [] → Contains now x → AreAdded old wants now left used → AreAdded old wants now rest used
added_held old wants now left rest x used is held h = record {
  gaining = gaining_more old wants now left now rest x h.gaining is (λ w. (
    λ k. inl k,
    λ k. elim k [ inl there ↦ there | inr last ↦ elim (contains_cases x [] w last) [ inl e ↦ subst (Contains now) e held | inr none ↦ absurd (contains_none w none) ] ],
  ));
  new = h.new;
  different = h.different;
  wanted = h.wanted;
  not_held = h.not_held;
  are = h.are;
  count = h.count;
}

pub added_new : (old wants now left after rest : List Want) (x : Want) (used : ℕ) → left ≡ rest ++ x ∷ [] → ¬ Contains now x → HasGained now (x ∷ []) after → AreAdded old wants now left used
    → AreAdded old wants after rest (used + 1)
added_new old wants now left after rest x used is out gained h = record {
  gaining = gaining_more old wants now left after rest x h.gaining is gained;
  new = x ∷ h.new;
  different = (λ k. out ((h.are x).1 (inr k)), h.different);
  wanted = λ w k. elim (contains_cases x h.new w k) [
    | inl e ↦ elim (gaining_left old wants now left h.gaining x (subst (λ (l : List Want). Contains l x) (sym is) (Contains-append_right rest (x ∷ []) x (contains_head x [])))) [
      | inl before ↦ absurd (out ((h.are x).1 (inl before)))
      | inr wanted ↦ subst (Contains wants) e wanted
    ]
    | inr earlier ↦ h.wanted w earlier
  ];
  not_held = λ w k. elim (contains_cases x h.new w k) [
    | inl e ↦ λ before. out ((h.are x).1 (inl (subst (Contains old) (sym e) before)))
    | inr earlier ↦ h.not_held w earlier
  ];
  are = λ w. (
    λ k. elim ((gained w).0 k) [
      | inl here ↦ elim ((h.are w).0 here) [ inl before ↦ inl before | inr new ↦ inr (contains_tail x h.new w new) ]
      | inr last ↦ elim (contains_cases x [] w last) [ inl e ↦ inr (subst (Contains (x ∷ h.new)) e (contains_head x h.new)) | inr none ↦ absurd (contains_none w none) ]
    ],
    λ k. elim k [
      | inl before ↦ (gained w).1 (inl ((h.are w).1 (inl before)))
      | inr new ↦ elim (contains_cases x h.new w new) [
        | inl e ↦ (gained w).1 (inr (subst (Contains (x ∷ [])) e (contains_head x [])))
        | inr earlier ↦ (gained w).1 (inl ((h.are w).1 (inr earlier)))
      ]
    ],
  );
  count = let n = h.count in omega (arith, n);
}

pub added_last : (old wants now left : List Want) (used : ℕ) → left ≡ [] → AreAdded old wants now left used → HasGained old wants now × AreNew used old wants
added_last old wants now left used none h =
    let gained = gaining_last old wants now left h.gaining none in (
      gained,
      record {
        enough = record { new = h.new; few = let n = h.count in omega (arith, n); others = λ w k. (h.are w).0 ((gained w).1 (inr k)) };
        least = λ m at_most.
            let n = h.count in
            let few = at_most.few in
            let le = no_more h.new at_most.new h.different (λ w k. elim (at_most.others w (h.wanted w k)) [ inl held ↦ absurd (h.not_held w k held) | inr new ↦ new ]) in
            omega (arith, n, few, le);
      },
    )

-- ---- what is used of a room

pub room_left : (before after : ℕ) (locks wants : List Want) → IsUsed locks wants before after → before ≤ after + length wants
room_left before after locks wants (used, new, is) =
    let most = new.least (length wants) (all_new (length wants) locks wants (omega arith)) in
    omega (arith, most, is)

pub used_within : (n used : ℕ) (locks wants read : List Want) → read ≡ wants → AddAtMost n locks wants → AreNew used locks read → used ≤ n
used_within n used locks wants read is h new = new.least n (subst (AddAtMost n locks) (sym is) h)
