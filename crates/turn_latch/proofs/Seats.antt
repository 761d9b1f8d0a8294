-- Seats that come, meet and end keep the rule of the latch.
use Rattle.std.proofs.Common.{◌≡◌, ◌≢◌, ◌⊎◌, ℕ, zero, suc, ◌+◌, ◌*◌, ◌^◌, ◌≤◌, Bool, true, false, if◌then◌else◌, List, [], ◌∷◌, ◌++◌, length, get_or, set, refl, sym, ap, ◌∙◌, subst, ⊎_elim, inl, inr, arith, Option, Some, None}
use mathlib.Core.Option.{some, none, some-ne-none, some-injective}
use lib.ListN.{get_elem?}
use lib.Seq.{set-get_or}
use Rattle.std.proofs.lemmas.Option.{none-some}
use Rattle.atomic_table.specs.Table.{State, Me, step, Allows, Splits, Joins, keeps, opening}
use Rattle.atomic_table.proofs.Lists.{at_set, set_again, set_else, at_longer}
use Rattle.turn_latch.specs.declared.view.View.{View}
use Rattle.turn_latch.specs.declared.view.Retired.{Retired}
use Rattle.turn_latch.specs.declared.view.Exchange.{Exchange}
use Rattle.turn_latch.specs.Exchanges.{maker, Saw}
use Rattle.turn_latch.proofs.Exchanges.{saw_all}
use Rattle.turn_latch.specs.Histories.{Begins, of}
use Rattle.turn_latch.specs.Views.{seen_of, longer, first_view, note_of, parent, child, meeting, retiring, retired_of}
use Rattle.turn_latch.specs.Latched.{Apart, Gone, Holder, Fits, Knows, Latched, looked, compared}
use Rattle.turn_latch.proofs.Histories.{begins_self, of_begins, of_between, longer_begins}
use Rattle.std.specs.Prelude.{nat_lt}
use Rattle.std.proofs.lemmas.Bool.{ltb-true, ltb-false}
use Rattle.turn_latch.proofs.Keeps.{seats_stay, apart_stay, gone_stay, holder_stays, changes}

-- an element of a list and one more stands in the list, or is the last
pub at_end : {A : Type 0} (l : List A) (a b : A) (j : ℕ) → get_elem? (l ++ a ∷ []) j ≡ some b → (get_elem? l j ≡ some b) ⊎ ((j ≡ length l) × (a ≡ b))
at_end [] a b zero e = inr (refl, some-injective a b e)
at_end [] a b (suc j) e = absurd (some-ne-none b (sym e))
at_end (x ∷ xs) a b zero e = inl e
at_end (x ∷ xs) a b (suc j) e = ⊎_elim (λ h. inl h) (λ t. inr (ap suc t.0, t.1)) (at_end xs a b j e)

module _ {T E Q : Type 0} (history : T → List E) (by : E → ℕ) (part : T → ℕ → Q) where
  abbrev V : Type 0
  V = View T

  abbrev M : Type 0
  M = Me (Option T) V

  abbrev Rule : State (Option T) V → Type 0
  Rule = Latched history by part

  abbrev Lone : V → Type 0
  Lone v = (j : ℕ) (w : V) → get_elem? (v ∷ []) j ≡ some w → (j ≡ 0) × (v ≡ w)

  alone : (v : V) → Lone v
  alone v zero w e = (refl, some-injective v w e)
  alone v (suc j) w e = absurd (some-ne-none w (sym e))

  nowhere : {A : Type 0} (k : ℕ) (q : A) → get_elem? [] k ≡ some q → ⊥
  nowhere k q e = some-ne-none q (sym e)

  no_number : false ≡ true → ⊥
  no_number e = subst (λ (b : Bool). elim b as (λ _. Type 0) [ true ↦ ⊥ | false ↦ Unit {0} ]) e tt

  pub opens : (x : T) → history x ≡ [] → Rule (opening (0 ∷ []) (Some x ∷ []) (first_view x))
  opens x empty = let v : V = first_view x in let one = alone v in record {
    value = x;
    origin = x;
    made = 0;
    turn = None;
    taker = None;
    log = [];
    short = subst (λ (l : List E). length l ≤ 2 ^ 62) (sym empty) (omega arith);
    lies = (ap (λ (l : List E). (2 * length l) ∷ []) (sym empty), refl);
    each = λ j w e. subst (Knows history by part x x 0 [] None j) (one j w e).1 record {
      begins = (history x, refl);
      met = (history x, refl);
      fits = λ _. (record { begins = (history x, refl); part_is = (x, refl, refl); mine = ap (of by 0) empty }, omega arith, saw_all [] 0);
      put_in = λ _. refl;
      first = λ _ _. refl;
      holds = λ y h. absurd (none-some y h);
      retired = λ k q h. absurd (nowhere k q h);
    };
    apart = λ i j a b ea eb _ _ _. (one i a ea).0 ∙ sym (one j b eb).0;
    gone = λ i j k a b q ea eq _ _ _. nowhere k q (ap (λ (z : V). get_elem? z.retired k) (one i a ea).1 ∙ eq);
    holder = λ j e. absurd (none-some j e);
    idle = λ _. refl;
    leads = (refl, refl);
    unmade = λ k _. (refl, ap (of by k) empty, refl);
  }

  -- a view comes last
  push_apart : (vs : List V) (w : V) → Apart vs → ((j : ℕ) (v : V) → get_elem? vs j ≡ some v → v.numbered ≡ true → w.numbered ≡ true → v.number ≢ w.number) → Apart (vs ++ w ∷ [])
  push_apart vs w apart new i j a b ea eb na nb e = ⊎_elim
      (λ (x : get_elem? vs i ≡ some a). ⊎_elim (λ (y : get_elem? vs j ≡ some b). apart i j a b x y na nb e)
      (λ (y : (j ≡ length vs) × (w ≡ b)). absurd (new i a x na (ap (λ (z : V). z.numbered) y.1 ∙ nb) (e ∙ ap (λ (z : V). z.number) (sym y.1)))) (at_end vs w b j eb))
      (λ (x : (i ≡ length vs) × (w ≡ a)). ⊎_elim (λ (y : get_elem? vs j ≡ some b). absurd (new j b y nb (ap (λ (z : V). z.numbered) x.1 ∙ na) (sym e ∙ ap (λ (z : V). z.number) (sym x.1))))
      (λ (y : (j ≡ length vs) × (w ≡ b)). x.0 ∙ sym y.0) (at_end vs w b j eb))
      (at_end vs w a i ea)

  push_gone : (vs : List V) (w : V) → w.retired ≡ [] → Gone vs → ((j k : ℕ) (v : V) (q : Retired T) → get_elem? vs j ≡ some v → get_elem? v.retired k ≡ some q → w.numbered ≡ true → w.number ≢ q.number) → Gone (vs ++ w ∷ [])
  push_gone vs w none_yet gone new i j k a b q ea eq eb nb e = ⊎_elim
      (λ (x : get_elem? vs i ≡ some a). ⊎_elim (λ (y : get_elem? vs j ≡ some b). gone i j k a b q x eq y nb e)
      (λ (y : (j ≡ length vs) × (w ≡ b)). new i k a q x eq (ap (λ (z : V). z.numbered) y.1 ∙ nb) (ap (λ (z : V). z.number) y.1 ∙ e)) (at_end vs w b j eb))
      (λ (x : (i ≡ length vs) × (w ≡ a)). nowhere k q (ap (λ (l : List (Retired T)). get_elem? l k) (sym none_yet) ∙ (ap (λ (z : V). get_elem? z.retired k) x.1 ∙ eq)))
      (at_end vs w a i ea)

  push_holder : (turn taker : Option ℕ) (x : T) (vs : List V) (w : V) → Holder turn taker x vs → Holder turn taker x (vs ++ w ∷ [])
  push_holder turn taker x vs w holder j e = let h = holder j e in (h.0, at_longer vs (w ∷ []) j h.0 h.1, h.2, h.3, h.4)

  push_each : (K : ℕ → V → Type 0) (vs : List V) (w : V) → ((j : ℕ) → K j w) → ((j : ℕ) (v : V) → get_elem? vs j ≡ some v → K j v) → (j : ℕ) (v : V) → get_elem? (vs ++ w ∷ []) j ≡ some v → K j v
  push_each K vs w new old j v e = ⊎_elim (λ h. old j v h) (λ (t : (j ≡ length vs) × (w ≡ v)). subst (K j) t.1 (new j)) (at_end vs w v j e)

  -- the first seat splits off a seat
  pub splits : (id : ℕ) (v : V) → v.numbered ≡ true → v.number ≡ 0 → Splits Rule id v (parent v) (child v)
  splits id v numbered zeroth s r at =
      let mine = r.each id v at in let f = mine.first numbered zeroth in let p : V = parent v in let w : V = child v in let x = r.value in
      let n : ℕ = v.made + 1 in
      let new = r.unmade n (let e : v.made ≡ r.made = f in omega arith) in let o = mine.put_in numbered in let saw : Saw r.log v.number v.log = (mine.fits numbered).2 in
      let part_now : (z : T) × (w.knew ≡ Some z) × (part x n ≡ part z n) = (r.origin, o, new.0) in
      let left = seats_stay (Knows history by part x r.origin (r.made + 1) r.log r.turn) s.views id p
      record { begins = mine.begins; met = mine.met; fits = λ h. let t = mine.fits h in (t.0, (let le = t.1 in omega arith), t.2); put_in = mine.put_in; first = λ _ _. ap (λ (k : ℕ). k + 1) f; holds = mine.holds; retired = λ k q e. let t = mine.retired k q e in (t.0, (let le = t.1 in omega arith), t.2) }
      (λ j u other e. let k = r.each j u e in record {
        begins = k.begins;
        met = k.met;
        fits = λ h. let t = k.fits h in (t.0, (let le = t.1 in omega arith), t.2);
        put_in = k.put_in;
        first = λ h z. absurd (other (r.apart j id u v e at h numbered (z ∙ sym zeroth)));
        holds = k.holds;
        retired = λ i q h. let t = k.retired i q h in (t.0, (let le = t.1 in omega arith), t.2);
      }) in
      let below = seats_stay (λ j u. (u.numbered ≡ true → u.number ≤ r.made) × ((k : ℕ) (q : Retired T) → get_elem? u.retired k ≡ some q → q.number ≤ r.made)) s.views id p
      (λ h. (mine.fits h).1, λ k q e. (mine.retired k q e).1) (λ j u _ e. (λ h. ((r.each j u e).fits h).1, λ k q h. ((r.each j u e).retired k q h).1)) in
      let is_next : v.made ≡ r.made = f in
      record {
        value = x;
        origin = r.origin;
        made = r.made + 1;
        turn = r.turn;
        taker = r.taker;
        log = r.log;
        short = r.short;
        lies = r.lies;
        each = push_each (Knows history by part x r.origin (r.made + 1) r.log r.turn) (set s.views id p) w
            (λ j. record {
              begins = mine.begins;
              met = (history x, refl);
              fits = λ _. (record { begins = mine.begins; part_is = part_now; mine = new.1 ∙ sym (of_begins by n (seen_of history v.seen) (history x) mine.begins new.1) }, (let e : v.made ≡ r.made = f in omega arith), (saw.0, new.2 ∙ sym (of_begins maker n v.log r.log saw.0 new.2)));
              put_in = λ _. o;
              first = λ _ z. absurd (let b : ⊥ = omega (arith, z) in b);
              holds = λ y h. absurd (none-some y h);
              retired = λ k q h. absurd (nowhere k q h);
            }) left;
        apart = push_apart (set s.views id p) w (apart_stay s.views id v p at (refl, refl, refl) r.apart) (λ j u e h _ is. let le = (below j u e).0 h in omega arith);
        gone = push_gone (set s.views id p) w refl (gone_stay s.views id v p at (refl, refl, refl) r.gone) (λ j k u q e eq _ is. let le = (below j u e).1 k q eq in omega arith);
        holder = push_holder r.turn r.taker x (set s.views id p) w (holder_stays r.turn r.taker x s.views id v p at refl refl refl r.holder);
        idle = r.idle;
        leads = r.leads;
        unmade = λ k more. r.unmade k (omega arith);
      }

  pub looks : (slots id : ℕ) (m : M) → Allows Rule slots id m 0 (λ n. n) (looked history by (step 1 0 0 0 none) m)
  looks slots id m s r _ at _ = let mine = r.each id m.0 at in (
    m.0,
    keeps,
    tt,
    changes history by part s r id (set s.words 0 (get_or s.words 0 0)) m.0 m.0 (set-get_or s.words 0 0) at (refl, refl, refl) refl mine,
    (refl, λ k numbered zeroth more. let same = mine.first numbered zeroth in of_begins by k (seen_of history m.0.seen) (history r.value) mine.begins (r.unmade k (omega arith)).1),
  )

  -- a seat gives a copy of what it has seen
  pub notes : (id : ℕ) (v : V) → Splits Rule id v v (note_of v.seen)
  notes id v s r at = let w : V = note_of v.seen in let same : set s.views id v ≡ s.views = set_again s.views id v at in
      subst (λ (vs : List V). Rule record { words = s.words; homes = s.homes; views = vs ++ w ∷ [] }) (sym same) record {
        value = r.value;
        origin = r.origin;
        made = r.made;
        turn = r.turn;
        taker = r.taker;
        log = r.log;
        short = r.short;
        lies = r.lies;
        each = push_each (Knows history by part r.value r.origin r.made r.log r.turn) s.views w
            (λ j. record {
              begins = (r.each id v at).begins;
              met = (history r.value, refl);
              fits = λ h. absurd (no_number h);
              put_in = λ h. absurd (no_number h);
              first = λ h _. absurd (no_number h);
              holds = λ y h. absurd (none-some y h);
              retired = λ k q h. absurd (nowhere k q h);
            }) r.each;
        apart = push_apart s.views w r.apart (λ j u e _ h _. no_number h);
        gone = push_gone s.views w refl r.gone (λ j k u q e eq h _. no_number h);
        holder = push_holder r.turn r.taker r.value s.views w r.holder;
        idle = r.idle;
        leads = r.leads;
        unmade = r.unmade;
      }

  module _ (id other : ℕ) (v w both : V) where
    abbrev Spent : V
    Spent = note_of None

    abbrev Came : List V → ℕ → V → Type 0
    Came vs j a = a.numbered ≡ true → (o : V) × (get_elem? vs j ≡ some o) × (o.numbered ≡ true) × (a.number ≡ o.number) × (j ≢ other)

    abbrev Had : List V → ℕ → V → Type 0
    Had vs i a = (k : ℕ) (q : Retired T) → get_elem? a.retired k ≡ some q
        → ((l : ℕ) × (o : V) × (get_elem? vs i ≡ some o) × (get_elem? o.retired l ≡ some q)) ⊎ ((w.numbered ≡ true) × (q.number ≡ w.number))

    -- the seat takes in another, which holds no turn
    takes_in : w.held ≡ None → both.numbered ≡ v.numbered → both.number ≡ v.number → both.held ≡ v.held
        → ((k : ℕ) (q : Retired T) → get_elem? both.retired k ≡ some q → ((l : ℕ) × (get_elem? v.retired l ≡ some q)) ⊎ ((w.numbered ≡ true) × (q.number ≡ w.number)))
        → ((x origin : T) (made : ℕ) (log : List (Exchange T)) (turn : Option ℕ) → Knows history by part x origin made log turn id v → Knows history by part x origin made log turn other w → Knows history by part x origin made log turn id both)
        → Joins Rule id v other w both Spent
    takes_in free numbered number held had knows s r at away at_other =
        let vs = s.views in let there : get_elem? vs other ≡ some w = sym (set_else vs id other both away) ∙ at_other in
        let third = λ (P : ℕ → V → Type 0) (a : P other Spent) (b : P id both) (rest : (j : ℕ) (u : V) → j ≢ other → j ≢ id → get_elem? vs j ≡ some u → P j u).
        seats_stay P (set vs id both) other Spent a (λ j u ne e. ⊎_elim (λ (t : (j ≡ id) × (both ≡ u)). subst (λ (x : ℕ × V). P x.0 x.1) (λ i. (sym t.0 i, t.1 i)) b)
        (λ (t : (j ≢ id) × (get_elem? vs j ≡ some u)). rest j u ne t.0 t.1) (at_set vs id j both u e)) in
        let came = third (Came vs) (λ h. absurd (no_number h)) (λ h. (v, at, sym numbered ∙ h, number, (λ e. away (sym e)))) (λ j u ne _ e h. (u, e, h, refl, ne)) in
        let kept = third (Had vs) (λ k q h. absurd (nowhere k q h)) (λ k q h. ⊎_elim (λ (t : (l : ℕ) × (get_elem? v.retired l ≡ some q)). inl (t.0, v, at, t.1)) (λ t. inr t) (had k q h)) (λ j u _ _ e k q h. inl (k, u, e, h)) in
        record {
          value = r.value;
          origin = r.origin;
          made = r.made;
          turn = r.turn;
          taker = r.taker;
          log = r.log;
          short = r.short;
          lies = r.lies;
          each = third (Knows history by part r.value r.origin r.made r.log r.turn)
              record {
                begins = (history r.value, refl);
                met = (history r.value, refl);
                fits = λ h. absurd (no_number h);
                put_in = λ h. absurd (no_number h);
                first = λ h _. absurd (no_number h);
                holds = λ y h. absurd (none-some y h);
                retired = λ k q h. absurd (nowhere k q h);
              }
              (knows r.value r.origin r.made r.log r.turn (r.each id v at) (r.each other w there)) (λ j u _ _ e. r.each j u e);
          apart = λ i j a b ea eb na nb e. let x = came i a ea na in let y = came j b eb nb in r.apart i j x.0 y.0 x.1 y.1 x.2 y.2 (sym x.3 ∙ (e ∙ y.3));
          gone = λ i j k a b q ea eq eb nb e. let y = came j b eb nb in ⊎_elim
              (λ (t : (l : ℕ) × (o : V) × (get_elem? vs i ≡ some o) × (get_elem? o.retired l ≡ some q)). r.gone i j t.0 t.1 y.0 q t.2 t.3 y.1 y.2 (sym y.3 ∙ e))
              (λ (t : (w.numbered ≡ true) × (q.number ≡ w.number)). y.4 (r.apart j other y.0 w y.1 there y.2 t.0 (sym y.3 ∙ (e ∙ t.1)))) (kept i a ea k q eq);
          holder = λ j is. let h = r.holder j is in let ne : j ≢ other = (λ e. let same : h.0 ≡ w = some-injective h.0 w (sym h.1 ∙ (ap (get_elem? vs) e ∙ there)) in none-some r.value (sym free ∙ (ap (λ (z : V). z.held) (sym same) ∙ h.3))) in
              let one = holder_stays r.turn r.taker r.value vs id v both at numbered number held r.holder j is in (one.0, set_else (set vs id both) other j Spent ne ∙ one.1, one.2, one.3, one.4);
          idle = r.idle;
          leads = r.leads;
          unmade = r.unmade;
        }

  abbrev Compared : T → T → ℕ → List (Exchange T) → Option ℕ → ℕ → V → Option T → Type 0
  Compared x origin made log turn id v l = Knows history by part x origin made log turn id record v { seen = l; met = None } × Begins (seen_of history l) (seen_of history v.seen) × Begins (seen_of history l) (seen_of history v.met)
      × (v.numbered ≡ true → of by v.number (seen_of history l) ≡ of by v.number (seen_of history v.seen))

  -- what a seat knows once it has compared what it has seen with a note, where b says whether the note has seen more
  met_knows : (x origin : T) (made : ℕ) (log : List (Exchange T)) (turn : Option ℕ) (id : ℕ) (v : V) → Knows history by part x origin made log turn id v
      → (b : Bool) → nat_lt (length (seen_of history v.seen)) (length (seen_of history v.met)) ≡ b → Compared x origin made log turn id v (if b then v.met else v.seen)
  met_knows x origin made log turn id v k true is = let lt = ltb-true _ _ is in
      let first = longer_begins (seen_of history v.met) (seen_of history v.seen) (history x) k.met k.begins (omega arith) in
      let mine = λ (h : v.numbered ≡ true). of_between by v.number (seen_of history v.seen) (seen_of history v.met) (history x) first k.met (k.fits h).0.mine in (
        record {
          begins = k.met;
          met = (history x, refl);
          fits = λ h. let t = k.fits h in (record { begins = k.met; part_is = t.0.part_is; mine = mine h }, t.1, t.2);
          put_in = k.put_in;
          first = k.first;
          holds = k.holds;
          retired = k.retired;
        },
        first,
        begins_self (seen_of history v.met),
        λ h. sym (mine h) ∙ (k.fits h).0.mine,
      )
  met_knows x origin made log turn id v k false is = (
    record { begins = k.begins; met = (history x, refl); fits = k.fits; put_in = k.put_in; first = k.first; holds = k.holds; retired = k.retired },
    begins_self (seen_of history v.seen),
    longer_begins (seen_of history v.seen) (seen_of history v.met) (history x) k.begins k.met (ltb-false _ _ is),
    λ _. refl,
  )

  pub compares : (slots id : ℕ) (m : M) → Allows Rule slots id m 0 (λ n. n) (compared history by (step 1 0 0 0 none) m)
  compares slots id m s r _ at _ =
      let c = met_knows r.value r.origin r.made r.log r.turn id m.0 (r.each id m.0 at) (nat_lt (length (seen_of history m.0.seen)) (length (seen_of history m.0.met))) refl in
      let w : V = record (m.0) { seen = longer history m.0.seen m.0.met; met = None } in (
        w,
        keeps,
        tt,
        changes history by part s r id (set s.words 0 (get_or s.words 0 0)) m.0 w (set-get_or s.words 0 0) at (refl, refl, refl) refl c.0,
        (refl, c.1, c.2, c.3),
      )

  pub meets : (id other : ℕ) (v w : V) → w.held ≡ None → Joins Rule id v other w (meeting v w) (note_of None)
  meets id other v w free = takes_in id other v w (meeting v w) free refl refl refl (λ k q h. inl (k, h))
      (λ x origin made log turn k l. record { begins = k.begins; met = l.begins; fits = k.fits; put_in = k.put_in; first = k.first; holds = k.holds; retired = k.retired })

  pub retires : (id other : ℕ) (v w : V) → w.numbered ≡ true → w.held ≡ None → Joins Rule id v other w (retiring v w) (note_of None)
  retires id other v w numbered free = takes_in id other v w (retiring v w) free refl refl refl
      (λ k q h. ⊎_elim (λ (e : get_elem? v.retired k ≡ some q). inl (k, e)) (λ (t : (k ≡ length v.retired) × (retired_of w ≡ q)). inr (numbered, ap (λ (z : Retired T). z.number) (sym t.1))) (at_end v.retired (retired_of w) q k h))
      (λ x origin made log turn k l. record {
        begins = k.begins;
        met = k.met;
        fits = k.fits;
        put_in = k.put_in;
        first = k.first;
        holds = k.holds;
        retired = λ i q h. ⊎_elim (λ (e : get_elem? v.retired i ≡ some q). k.retired i q e)
            (λ (t : (i ≡ length v.retired) × (retired_of w ≡ q)). subst (λ (z : Retired T). Fits history by part x z.number z.seen z.knew × (z.number ≤ made) × Saw log z.number z.log) t.1 (l.fits numbered)) (at_end v.retired (retired_of w) q i h);
      })
