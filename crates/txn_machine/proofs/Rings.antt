-- Recorded waits never close a cycle: who is granted a lock waits for nobody, and who waits was found to close none.
use Rattle.std.specs.Prelude.{◌≡◌, ◌≢◌, ◌⊎◌, ℕ, List, [], ◌∷◌, ◌++◌, Option}
use Rattle.std.specs.List.{AllByRecursion, Contains}
use mathlib.Core.Path.{refl, sym, ap, subst, ◌∙◌}
use mathlib.Core.Logic.{inl, inr}
use Rattle.iv_types.specs.declared.lock.Want.{Want}
use Rattle.iv_types.specs.declared.session.Sessions.{Sessions}
use Rattle.table_laws.proofs.Stored.{by_session}
use Rattle.iv_meaning.specs.Waits.{AreDifferent}
use Rattle.txn_machine.specs.Acts.{Act}
use Rattle.txn_machine.specs.Answers as answer
use Rattle.txn_machine.specs.Answers.{Answer}
use Rattle.txn_machine.specs.Locks.{Locks, with_one, Meet, IsInTheWay}
use Rattle.txn_machine.specs.Waiting.{WaitsOn, Leads, IsRing}
use Rattle.txn_machine.specs.Keeping.{Open}
use Rattle.txn_machine.specs.Store.{Store, locks_of, Effect, does, run}
use Rattle.txn_machine.specs.Ghosts.{the_views}
use Rattle.txn_machine.specs.State.{State}
use Rattle.txn_machine.specs.Steps.{asked, Says, waits_after, Step, Did, Run}
use Rattle.txn_machine.specs.Laws.{WaitsLaw}
use Rattle.txn_machine.proofs.Basics.{one_same, one_other, meet_sym, meet_none}
use Rattle.txn_machine.proofs.Good.{the_open}
use Rattle.txn_machine.proofs.Holding.{by_contains, contains_none}
use Rattle.txn_machine.proofs.Moving.{other_open}

-- t waits for u by way of these
abbrev pub Chain : (ℕ → ℕ → Type 0) → ℕ → List ℕ → ℕ → Type 0
Chain Waits t [] u = Waits t u
Chain Waits t (x ∷ xs) u = Waits t x × Chain Waits x xs u

abbrev pub HasNoCycle : (ℕ → ℕ → Type 0) → Type 0
HasNoCycle Waits = (t : ℕ) (xs : List ℕ) → Chain Waits t xs t → ⊥

chain_join : (W : ℕ → ℕ → Type 0) (t : ℕ) (xs : List ℕ) (u : ℕ) (ys : List ℕ) (v : ℕ) → Chain W t xs u → Chain W u ys v → Chain W t (xs ++ u ∷ ys) v
chain_join W t [] u ys v c d = (c, d)
chain_join W t (x ∷ xs) u ys v c d = (c.0, chain_join W x xs u ys v c.1 d)

chain_leads : (W : ℕ → ℕ → Type 0) (t : ℕ) (xs : List ℕ) (u : ℕ) → Chain W t xs u → Leads W (t ∷ xs) u
chain_leads W t [] u c = c
chain_leads W t (x ∷ xs) u c = (c.0, chain_leads W x xs u c.1)

leads_chain : (W : ℕ → ℕ → Type 0) (t : ℕ) (xs : List ℕ) (u : ℕ) → Leads W (t ∷ xs) u → Chain W t xs u
leads_chain W t [] u c = c
leads_chain W t (x ∷ xs) u c = (c.0, leads_chain W x xs u c.1)

-- ---- a session that waits for nobody is granted what it asks for

module _ (Old New : ℕ → ℕ → Type 0) (u : ℕ) (none_waits : (v : ℕ) → New u v → ⊥) (same : (t v : ℕ) → v ≢ u → New t v → Old t v) where
  starts : (t : ℕ) (xs : List ℕ) (v : ℕ) → Chain New t xs v → t ≢ u
  starts t [] v c e = none_waits v (subst (λ x. New x v) e c)
  starts t (x ∷ xs) v c e = none_waits x (subst (λ y. New y x) e c.0)

  older : (t : ℕ) (xs : List ℕ) (v : ℕ) → v ≢ u → Chain New t xs v → Chain Old t xs v
  older t [] v n c = same t v n c
  older t (x ∷ xs) v n c = (same t x (starts x xs v c.1) c.0, older x xs v n c.1)

  pub grant_keeps : HasNoCycle Old → HasNoCycle New
  grant_keeps h t xs c = h t xs (older t xs t (starts t xs t c) c)

-- ---- a session waits that is in no ring

module _ (Old New : ℕ → ℕ → Type 0) (i : ℕ) (same : (t v : ℕ) → t ≢ i → New t v → Old t v) (none : HasNoCycle Old) (no_ring : (others : List ℕ) → IsRing New i others → ⊥) where
  abbrev Away : List ℕ → Type 0
  Away xs = AllByRecursion (λ j. j ≢ i) xs

  older_away : (t : ℕ) (xs : List ℕ) (u : ℕ) → Away (t ∷ xs) → Chain New t xs u → Chain Old t xs u
  older_away t [] u a c = same t u a.0 c
  older_away t (x ∷ xs) u a c = (same t x a.0 c.0, older_away x xs u a.1 c.1)

  -- the way to one of the sessions on it
  reach : (t : ℕ) (xs : List ℕ) (u y : ℕ) → Away (t ∷ xs) → Chain New t xs u → Contains xs y → (zs : List ℕ) × Chain Old t zs y
  reach t [] u y a c h = absurd (contains_none y h)
  reach t (x ∷ xs) u y a c h = by_contains x xs y h
      (λ e. ([], subst (Old t) e (same t x a.0 c.0)))
      (λ k. let rest = reach x xs u y a.1 c.1 k in (x ∷ rest.0, (same t x a.0 c.0, rest.1)))

  differ : (t : ℕ) (xs : List ℕ) (u : ℕ) → Away (t ∷ xs) → Chain New t xs u → AreDifferent (t ∷ xs)
  differ t [] u a c = ((λ h. contains_none t h), tt)
  differ t (x ∷ xs) u a c = ((λ h. let back = reach t (x ∷ xs) u t a c h in none t back.0 back.1), differ x xs u a.1 c.1)

  not_there : (xs : List ℕ) → Away xs → Contains xs i → ⊥
  not_there [] a h = contains_none i h
  not_there (x ∷ xs) a h = by_contains x xs i h a.0 (λ k. not_there xs a.1 k)

  -- until it comes home
  home : (x : ℕ) (xs : List ℕ) → x ≢ i → Chain New x xs i → (ys : List ℕ) × Away (x ∷ ys) × Chain New x ys i
  home x [] n c = ([], (n, tt), c)
  home x (y ∷ xs) n c = by_session y i
      (λ e. ([], (n, tt), subst (New x) e c.0))
      (λ m. let rest = home y xs m c.1 in (y ∷ rest.0, (n, rest.1), (c.0, rest.2)))

  none_from : (zs : List ℕ) → Chain New i zs i → ⊥
  none_from [] c = no_ring [] (record { different = ((λ h. contains_none i h), tt); leads = c })
  none_from (x ∷ xs) c = by_session x i
      (λ e. no_ring [] (record { different = ((λ h. contains_none i h), tt); leads = subst (New i) e c.0 }))
      (λ n.
      let h = home x xs n c.1 in
      no_ring (x ∷ h.0) (record { different = (not_there (x ∷ h.0) h.1, differ x h.0 i h.1 h.2); leads = (c.0, chain_leads New x h.0 i h.2) }))

  abbrev Before : ℕ → Type 0
  Before t = (t ≡ i) ⊎ ((ys : List ℕ) × Chain New t ys i)

  -- the way goes by the session, or it is one of before
  split : (t : ℕ) (xs : List ℕ) (u : ℕ) → Chain New t xs u → Chain Old t xs u ⊎ (Before t × ((zs : List ℕ) × Chain New i zs u))
  split t [] u c = by_session t i
      (λ e. inr (inl e, ([], subst (λ x. New x u) e c)))
      (λ n. inl (same t u n c))
  split t (x ∷ xs) u c = by_session t i
      (λ e. inr (inl e, (x ∷ xs, (subst (λ y. New y x) e c.0, c.1))))
      (λ n. elim (split x xs u c.1) [
        | inl old ↦ inl (same t x n c.0, old)
        | inr found ↦ inr (elim found.0 [ inl e ↦ inr ([], subst (New t) e c.0) | inr way ↦ inr (x ∷ way.0, (c.0, way.1)) ], found.1)
      ])

  pub wait_keeps : HasNoCycle New
  wait_keeps t xs c = elim (split t xs t c) [
    | inl old ↦ none t xs old
    | inr found ↦ elim found.0 [
      | inl e ↦ none_from found.1.0 (subst (Chain New i found.1.0) e found.1.1)
      | inr way ↦ none_from (found.1.0 ++ t ∷ way.0) (chain_join New i found.1.0 t way.0 i found.1.1 way.1)
    ]
  ]

-- ---- steps

abbrev Waits : State → ℕ → ℕ → Type 0
Waits s = WaitsOn (locks_of s.store) s.waiting

pub other_opens : (s : Store) (i : ℕ) (es : List Effect) (j : ℕ) → j ≢ i → (run the_views s i es).open_of j ≡ s.open_of j
other_opens s i [] j n = refl
other_opens s i (e ∷ es) j n = other_opens (does the_views s i e) i es j n ∙ other_open s i e j n

-- only a blocked step leaves a wait
blocked_or_none : (s : Store) (i : ℕ) (a : Act) (said : Answer) → ((x : Sessions) × (said ≡ answer.Blocked x)) ⊎ (waits_after s i a said ≡ [])
blocked_or_none s i a (answer.Blocked x) = inl (x, refl)
blocked_or_none s i a _ = inr refl

in_way : (locks locks' : Locks) (t v : ℕ) (wants wants' : List Want) → locks' v ≡ locks v → wants' ≡ wants → IsInTheWay locks' t wants' v → IsInTheWay locks t wants v
in_way locks locks' t v wants wants' e f h = record { of_session = h.of_session; not_itself = h.not_itself; meet = subst (λ l. Meet l wants) e (subst (λ w. Meet (locks' v) w) f h.meet) }

step_waits : (s : State) (d : Did) (after : State) → HasNoCycle (Waits s) → Step s d.session d.act d.said after → HasNoCycle (Waits after)
step_waits s d after none step = elim step.does [
  | inr x ↦ subst (λ (z : State). HasNoCycle (Waits z)) (sym x.left) none
  | inl x ↦ elim (blocked_or_none s.store d.session d.act d.said) [
    | inr empty ↦
        let i : ℕ = d.session in
        let waits : Locks = with_one s.waiting i [] in
        let next : Store = run the_views s.store i x.effects in
        subst (λ (z : State). HasNoCycle (Waits z)) (sym x.left)
        (subst (λ w. HasNoCycle (WaitsOn (locks_of next) (with_one s.waiting i w))) (sym empty)
        (grant_keeps (Waits s) (WaitsOn (locks_of next) waits) i
        (λ v h. meet_none (locks_of next v) (meet_sym (locks_of next v) [] (subst (λ w. Meet (locks_of next v) w) (one_same s.waiting i [] i refl) h.meet)))
        (λ t v n h. by_session t i
        (λ e. absurd (meet_none (locks_of next v) (meet_sym (locks_of next v) [] (subst (λ w. Meet (locks_of next v) w) (one_same s.waiting i [] t e) h.meet))))
        (λ m. in_way (locks_of s.store) (locks_of next) t v (s.waiting t) (waits t) (ap (λ (o : Option Open). (the_open o).locks) (other_opens s.store i x.effects v n)) (one_other s.waiting i [] t m) h))
        none))
    | inl blocked ↦
        let i : ℕ = d.session in
        let wants : List Want = asked s.store i d.act in
        let says : Says s i d.act (answer.Blocked blocked.0) x.effects = subst (λ y. Says s i d.act y x.effects) blocked.1 x.says in
        let waits : waits_after s.store i d.act d.said ≡ wants = ap (waits_after s.store i d.act) blocked.1 in
        subst (λ (z : State). HasNoCycle (Waits z)) (sym x.left)
        (subst (λ l. HasNoCycle (WaitsOn (locks_of (run the_views s.store i l)) (with_one s.waiting i (waits_after s.store i d.act d.said)))) (sym says.2)
        (subst (λ w. HasNoCycle (WaitsOn (locks_of s.store) (with_one s.waiting i w))) (sym waits)
        (wait_keeps (Waits s) (WaitsOn (locks_of s.store) (with_one s.waiting i wants)) i
        (λ t v n h. in_way (locks_of s.store) (locks_of s.store) t v (s.waiting t) (with_one s.waiting i wants t) refl (one_other s.waiting i wants t n) h)
        none says.1.no_cycle)))
  ]
]

run_waits : (s : State) (ds : List Did) (after : State) → HasNoCycle (Waits s) → Run s ds after → HasNoCycle (Waits after)
run_waits s [] after none r = subst (λ (z : State). HasNoCycle (Waits z)) (sym r) none
run_waits s (d ∷ ds) after none r = run_waits r.0 ds after (step_waits s d r.0 none r.1) r.2

first_step : (W : ℕ → ℕ → Type 0) (t : ℕ) (xs : List ℕ) (u : ℕ) → Chain W t xs u → (v : ℕ) × W t v
first_step W t [] u c = (u, c)
first_step W t (x ∷ xs) u c = (x, c.0)

pub waits_law : WaitsLaw
waits_law s r first others ring = run_waits _ r.steps s
    (λ t xs c. let one = first_step _ t xs t c in meet_none [] one.1.meet)
    r.run first others (leads_chain (Waits s) first others first ring.leads)
