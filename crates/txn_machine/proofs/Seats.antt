-- Another number's part stays.
use Rattle.std.specs.Prelude.{◌≡◌, ◌≢◌, ◌⊎◌, ℕ, ◌+◌, ◌==◌, Bool, cond, true, false, List, [], ◌∷◌, map, filter, Option, Some, None, is_some, IsSome, not}
use Rattle.std.specs.List.{Contains}
use Rattle.std.specs.Option.{option_map}
use mathlib.Core.Path.{refl, sym, ap, subst, ◌∙◌}
use mathlib.Core.Logic.{inl, inr}
use Rattle.std.proofs.Common.{arith}
use Rattle.std.proofs.lemmas.Option.{none-some}
use Rattle.iv_types.specs.declared.lock.LockMode.{LockMode}
use Rattle.iv_types.specs.declared.lock.LockMode.TheVariants.{Share, Exclusive, Increment}
use Rattle.iv_types.specs.declared.lock.Want.{Want}
use Rattle.iv_meaning.specs.Database.{Database}
use Rattle.iv_meaning.specs.Escrow.{IsSession}
use Rattle.txn_machine.specs.Keeping.{Open}
use Rattle.txn_machine.specs.Ghosts.{MayRead, MayReadIn, the_views}
use Rattle.txn_machine.specs.Store.{Store, committed, schema_of, now, locks_of, Effect, Opens, Takes, Notes, Writes, Pays, Ghosts, Undoes, Loses, Ends, Commits, Defines, Cleans, Prunes, does}
use Rattle.txn_machine.specs.State.{State, Stop, Seat, seat_after, is_fault, stop_after, most_steps}
use Rattle.txn_machine.specs.May.{IsOpen}
use Rattle.txn_machine.specs.Steps.{Did, Run, Step}
use Rattle.txn_machine.specs.Parts.{is_read, reading_of, SeatLaw}
use Rattle.txn_machine.specs.Laws.{IsReached}
use Rattle.table_laws.proofs.Stored.{by_session}
use Rattle.std.proofs.lemmas.Bool.{cases_lt}
use Rattle.std.proofs.Common.{eqb-true}
use Rattle.txn_machine.proofs.Basics.{one_same, one_other}
use Rattle.txn_machine.proofs.Good.{the_open}
use Rattle.txn_machine.proofs.Holding.{contains_here, contains_next}
use Rattle.txn_machine.proofs.Stepping.{some_not_none}
use Rattle.txn_machine.proofs.Telling.{Good', Can'}
use Rattle.txn_machine.proofs.Moving.{frame_law}
use Rattle.txn_machine.proofs.Rings.{other_opens}
use Rattle.txn_machine.proofs.Parting.{part_law}
use Rattle.txn_machine.proofs.Always.{always}

-- ---- locks by which rows are read

may_read_in : (locks : List Want) (w : Want) → Contains locks w → is_read w ≡ true → MayReadIn locks w.index w.interval
may_read_in locks w c e key lies = go w.mode refl e
  where
    go : (m : LockMode) → w.mode ≡ m → elim m [ Share ↦ true | Exclusive ↦ true | Increment ↦ false ] ≡ true → MayRead locks w.index key
    go Share m t = inl (record { lock = w; held = c; mode_is = m; index_is = refl; covers = lies })
    go Exclusive m t = inr (record { lock = w; held = c; mode_is = m; index_is = refl; covers = lies })
    go Increment m t = absurd (cc)

readings_same : (a b : Database) (ws : List Want) → ((w : Want) → Contains ws w → is_read w ≡ true → reading_of b w ≡ reading_of a w) → map (reading_of b) (filter is_read ws) ≡ map (reading_of a) (filter is_read ws)
readings_same a b [] h = refl
readings_same a b (w ∷ ws) h =
    let rest : map (reading_of b) (filter is_read ws) ≡ map (reading_of a) (filter is_read ws) = readings_same a b ws (λ x c. h x (contains_next w ws x c)) in
    elim (is_read w) as (λ t. is_read w ≡ t → map (reading_of b) (cond t (w ∷ filter is_read ws) (filter is_read ws)) ≡ map (reading_of a) (cond t (w ∷ filter is_read ws) (filter is_read ws))) [
      | true ↦ λ e. λ x. h w (contains_here w ws) e x ∷ rest x
      | false ↦ λ e. rest
    ] refl

-- ---- who has a transaction, and who was told of the stop

abbrev pub NobodyElse : Store → Type 0
NobodyElse s = (j : ℕ) → (IsSession j → ⊥) → s.open_of j ≡ None

nobody_else : (s : Store) (i : ℕ) (e : Effect) → Good' s → Can' s i e → NobodyElse s → NobodyElse (does the_views s i e)
nobody_else s i e g can h = λ j n. go e can j n
  where
    apart : (j : ℕ) → (IsSession j → ⊥) → IsSession i → j ≢ i
    apart j n is e = n (subst IsSession (sym e) is)

    go : (e : Effect) → Can' s i e → (j : ℕ) → (IsSession j → ⊥) → (does the_views s i e).open_of j ≡ None
    go (Opens mode) can j n = other_opens s i (Opens mode ∷ []) j (apart j n can.0) ∙ h j n
    go (Takes wants) can j n = other_opens s i (Takes wants ∷ []) j (apart j n can.0) ∙ h j n
    go (Notes x) can j n = other_opens s i (Notes x ∷ []) j (apart j n can) ∙ h j n
    go (Writes p new) can j n = other_opens s i (Writes p new ∷ []) j (apart j n can.0) ∙ h j n
    go Pays can j n = other_opens s i (Pays ∷ []) j (apart j n can.0) ∙ h j n
    go (Ghosts p x) can j n = h j n
    go Undoes can j n = other_opens s i (Undoes ∷ []) j (apart j n can) ∙ h j n
    go Loses can j n = other_opens s i (Loses ∷ []) j (apart j n can) ∙ h j n
    go Ends can j n = other_opens s i (Ends ∷ []) j (apart j n can.0) ∙ h j n
    go Commits can j n = other_opens s i (Commits ∷ []) j (apart j n can.0) ∙ h j n
    go (Defines o) can j n = h j n
    go (Cleans p) can j n = h j n
    go Prunes can j n = h j n

pub session_or : (j : ℕ) → IsSession j ⊎ (IsSession j → ⊥)
session_or j = elim (cases_lt 64 j) [
  | inl more ↦ inr (λ is. omega (arith, more, is.1))
  | inr few ↦ elim (cases_lt 0 j) [
    | inl some ↦ inl (omega (arith, some), few)
    | inr none ↦ inr (λ is. omega (arith, none, is.0))
  ]
]

-- who was told of the stop was told the truth
abbrev ToldStops : State → Type 0
ToldStops s = (j : ℕ) → (s.seat_of j).told_of_stop ≡ true → IsSome s.stop

told_step : (s : State) (d : Did) (after : State) → ToldStops s → Step s d.session d.act d.said after → ToldStops after
told_step s d after h step = elim step.does [
  | inr x ↦ subst ToldStops (sym x.left) (λ j told. ap is_some x.stopped)
  | inl x ↦ subst ToldStops (sym x.left) (λ j told. by_session j d.session
      (λ e. fault (is_fault d.said) refl (sym (ap (λ (y : Seat). y.told_of_stop) (one_same s.seat_of d.session (seat_after (s.seat_of d.session) (s.steps + 1) d.said) j e)) ∙ told) x.runs)
      (λ n. absurd (some_not_none s.stop (h j (sym (ap (λ (y : Seat). y.told_of_stop) (one_other s.seat_of d.session (seat_after (s.seat_of d.session) (s.steps + 1) d.said) j n)) ∙ told)) x.runs)))
]
  where
    stop : Stop
    stop = record { step = s.steps + 1; act = d.act }

    fault : (b : Bool) → is_fault d.said ≡ b → cond (is_fault d.said) true (s.seat_of d.session).told_of_stop ≡ true → s.stop ≡ None → IsSome (stop_after s.stop (s.steps + 1) d.act d.said)
    fault true f told runs = ap (λ b. is_some (cond b (Some stop) (cond (s.steps + 1 == most_steps) (Some stop) s.stop))) f
    fault false f told runs = absurd (some_not_none s.stop (h d.session (sym (ap (λ b. cond b true (s.seat_of d.session).told_of_stop) f) ∙ told)) runs)

told_run : (s : State) (ds : List Did) (after : State) → ToldStops s → Run s ds after → ToldStops after
told_run s [] after h r = subst ToldStops (sym r) h
told_run s (d ∷ ds) after h r = told_run r.0 ds after (told_step s d r.0 h r.1) r.2

pub nobody_open : (s : State) → IsReached s → NobodyElse s.store
nobody_open s r = always NobodyElse nobody_else s r (λ j n. refl)

-- ---- the parts

pub seat_law : SeatLaw
seat_law s r d after step j n =
    let p = part_law s d after step in
    let same = p.0 j n in
    λ x. record {
      origin = p.1 x;
      opening = opening_is x;
      transaction = same.open_is x;
      objects = objects_are x;
      readings = readings_are x;
      waiting = same.waiting x;
      seat = same.seat x;
      stop = stop_is x;
      cleaner = cleaner_is x;
    }
  where
    none_told : ToldStops s
    none_told = told_run _ r.steps s (λ j e. absurd (cc)) r.run

    nobody : NobodyElse s.store
    nobody = nobody_open s r

    open_is : after.store.open_of j ≡ s.store.open_of j
    open_is = ((part_law s d after step).0 j n).open_is

    seat_is : after.seat_of j ≡ s.seat_of j
    seat_is = ((part_law s d after step).0 j n).seat

    opening_is : after.opening ≡ s.opening
    opening_is = elim step.does [ inl x ↦ ap (λ (z : State). z.opening) x.left | inr x ↦ ap (λ (z : State). z.opening) x.left ]

    -- a transaction is a session's
    is_open : (t : Open) → s.store.open_of j ≡ Some t → IsOpen s.store j
    is_open t e = elim (session_or j) [
      | inl is ↦ record { of_session = is; transaction = t; is_open = e }
      | inr not ↦ absurd (none-some t (sym (nobody j not) ∙ e))
    ]

    objects_are : option_map (λ t. schema_of after.store) (after.store.open_of j) ≡ option_map (λ t. schema_of s.store) (s.store.open_of j)
    objects_are = ap (option_map (λ t. schema_of after.store)) open_is ∙ go (s.store.open_of j) refl
      where
        go : (o : Option Open) → s.store.open_of j ≡ o → option_map (λ t. schema_of after.store) o ≡ option_map (λ t. schema_of s.store) o
        go None e = refl
        go (Some t) e = ap Some ((part_law s d after step).3 j n (is_open t e))

    readings_are : map (reading_of (committed after.store)) (filter is_read (now after.store j).locks) ≡ map (reading_of (committed s.store)) (filter is_read (now s.store j).locks)
    readings_are = ap (λ (o : Option Open). map (reading_of (committed after.store)) (filter is_read (the_open o).locks)) open_is ∙ go (s.store.open_of j) refl
      where
        go : (o : Option Open) → s.store.open_of j ≡ o → map (reading_of (committed after.store)) (filter is_read (the_open o).locks) ≡ map (reading_of (committed s.store)) (filter is_read (the_open o).locks)
        go None e = refl
        go (Some t) e = readings_same (committed s.store) (committed after.store) t.locks (λ w c reads.
            let locks_are : t.locks ≡ locks_of s.store j = sym (ap (λ (o : Option Open). (the_open o).locks) e) in
            sym (frame_law s r d after step j n (is_open t e) w.index w.interval (may_read_in (locks_of s.store j) w (subst (λ (ls : List Want). Contains ls w) locks_are c) reads)))

    stop_is : cond (after.seat_of j).told_of_stop after.stop None ≡ cond (s.seat_of j).told_of_stop s.stop None
    stop_is = ap (λ (y : Seat). cond y.told_of_stop after.stop None) seat_is ∙ go (s.seat_of j).told_of_stop refl
      where
        go : (b : Bool) → (s.seat_of j).told_of_stop ≡ b → cond b after.stop None ≡ cond b s.stop None
        go false e = refl
        go true e = elim step.does [
          | inl x ↦ absurd (some_not_none s.stop (none_told j e) x.runs)
          | inr x ↦ ap (λ (z : State). z.stop) x.left
        ]

    cleaner_is : cond (j == 0) (Some after.cleaner) None ≡ cond (j == 0) (Some s.cleaner) None
    cleaner_is = go (j == 0) refl
      where
        go : (b : Bool) → (j == 0) ≡ b → cond b (Some after.cleaner) None ≡ cond b (Some s.cleaner) None
        go false e = refl
        go true e = ap Some ((part_law s d after step).2 (λ z. n (eqb-true j 0 e ∙ sym z)))
