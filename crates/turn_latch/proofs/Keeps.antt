-- Each step of a turn keeps the rule of the latch.
use Rattle.std.proofs.Common.{◌≡◌, ◌≢◌, ℕ, zero, suc, ◌+◌, ◌*◌, ◌^◌, ◌%◌, ◌<◌, ◌≤◌, true, List, [], ◌∷◌, ◌++◌, length, get_or, set, refl, sym, ap, ◌∙◌, subst, ⊎_elim, inl, inr, arith, Option, Some, None}
use mathlib.Core.Option.{some, none, some-ne-none, some-injective}
use mathlib.Core.Option as maybe
use mathlib.Core.Logic.{dite}
use native.Mathlib.Decide.{ℕ_discrete}
use lib.ListN.{get_elem?}
use Rattle.std.specs.Int.Bits.{bit_or}
use Rattle.std.proofs.lemmas.Option.{none-some, same_Some}
use Rattle.atomic_table.specs.Table.{State, Me, Act, Valid, step, stepped, carried_after, homes_after, rest, Allows, keeps, takes, gives}
use Rattle.atomic_table.proofs.Lists.{at_set, set_else}
use Rattle.turn_latch.specs.declared.view.View.{View}
use Rattle.turn_latch.specs.declared.view.Retired.{Retired}
use Rattle.turn_latch.specs.Histories.{of, AddsOne}
use Rattle.turn_latch.specs.declared.view.Exchange.{Exchange}
use Rattle.turn_latch.specs.Exchanges.{exchange, maker, Saw, Others, Leads, Run}
use Rattle.turn_latch.specs.Views.{seen_of, tried, holding, after_turn}
use Rattle.turn_latch.specs.Turns.{Turned}
use Rattle.turn_latch.specs.Latched.{Apart, Gone, Holder, Lies, Fits, Knows, Latched, IsBusy, took, released}
use Rattle.turn_latch.proofs.Exchanges.{saw_all, saw_on, saw_others, leads_on}
use Rattle.turn_latch.proofs.Histories.{begins_self, begins_trans, adds_begins, adds_other, begins_length, or_even, or_odd}

pub set_at : {A : Type 0} (l : List A) (i : ℕ) (a b : A) → get_elem? l i ≡ some a → get_elem? (set l i b) i ≡ some b
set_at [] i a b e = absurd (some-ne-none a (sym e))
set_at (x ∷ xs) zero a b e = refl
set_at (x ∷ xs) (suc i) a b e = set_at xs i a b e

module _ {T : Type 0} where
  -- the two views have one number, or none, and have taken in the same seats
  abbrev pub Alike : View T → View T → Type 0
  Alike a o = (a.numbered ≡ o.numbered) × (a.number ≡ o.number) × (a.retired ≡ o.retired)

  pub seats_stay : (K : ℕ → View T → Type 0) (vs : List (View T)) (me : ℕ) (w : View T) → K me w → ((j : ℕ) (v : View T) → j ≢ me → get_elem? vs j ≡ some v → K j v)
      → (j : ℕ) (v : View T) → get_elem? (set vs me w) j ≡ some v → K j v
  seats_stay K vs me w mine others j v e = ⊎_elim (λ (t : (j ≡ me) × (w ≡ v)). subst (λ (x : ℕ × View T). K x.0 x.1) (λ i. (sym t.0 i, t.1 i)) mine)
      (λ (t : (j ≢ me) × (get_elem? vs j ≡ some v)). others j v t.0 t.1) (at_set vs me j w v e)

  pub back : (vs : List (View T)) (me : ℕ) (v w : View T) → get_elem? vs me ≡ some v → Alike w v
      → (j : ℕ) (a : View T) → get_elem? (set vs me w) j ≡ some a → (o : View T) × (get_elem? vs j ≡ some o) × Alike a o
  back vs me v w at alike = seats_stay (λ j a. (o : View T) × (get_elem? vs j ≡ some o) × Alike a o) vs me w (v, at, alike) (λ j a _ e. (a, e, (refl, refl, refl)))

  pub apart_stay : (vs : List (View T)) (me : ℕ) (v w : View T) → get_elem? vs me ≡ some v → Alike w v → Apart vs → Apart (set vs me w)
  apart_stay vs me v w at alike apart i j a b ei ej na nb e = let x = back vs me v w at alike i a ei in let y = back vs me v w at alike j b ej in
      apart i j x.0 y.0 x.1 y.1 (sym x.2.0 ∙ na) (sym y.2.0 ∙ nb) (sym x.2.1 ∙ (e ∙ y.2.1))

  pub gone_stay : (vs : List (View T)) (me : ℕ) (v w : View T) → get_elem? vs me ≡ some v → Alike w v → Gone vs → Gone (set vs me w)
  gone_stay vs me v w at alike gone i j k a b q ei eq ej nb e = let x = back vs me v w at alike i a ei in let y = back vs me v w at alike j b ej in
      gone i j k x.0 y.0 q x.1 (ap (λ (l : List (Retired T)). get_elem? l k) (sym x.2.2) ∙ eq) y.1 (sym y.2.0 ∙ nb) (sym y.2.1 ∙ e)

  pub holder_stays : (turn taker : Option ℕ) (x : T) (vs : List (View T)) (me : ℕ) (v w : View T) → get_elem? vs me ≡ some v → w.numbered ≡ v.numbered → w.number ≡ v.number → w.held ≡ v.held → Holder turn taker x vs → Holder turn taker x (set vs me w)
  holder_stays turn taker x vs me v w at numbered number held holder j is = let h = holder j is in dite (ℕ_discrete j me)
      (λ e. let same : h.0 ≡ v = some-injective h.0 v (sym h.1 ∙ (ap (get_elem? vs) e ∙ at)) in
      (w, ap (get_elem? (set vs me w)) e ∙ set_at vs me v w at, numbered ∙ (ap (λ (z : View T). z.numbered) (sym same) ∙ h.2), held ∙ (ap (λ (z : View T). z.held) (sym same) ∙ h.3), h.4 ∙ ap Some (ap (λ (z : View T). z.number) same ∙ sym number)))
      (λ ne. (h.0, set_else vs me j w ne ∙ h.1, h.2, h.3, h.4))

module _ {T E Q : Type 0} (history : T → List E) (by : E → ℕ) (part : T → ℕ → Q) where
  abbrev V : Type 0
  V = View T

  abbrev St : Type 0
  St = State (Option T) V

  abbrev M : Type 0
  M = Me (Option T) V

  abbrev Rule : St → Type 0
  Rule = Latched history by part

  -- a step that changes one view, and neither a number nor what was taken in
  pub changes : (s : St) (r : Rule s) (id : ℕ) (ws : List ℕ) (v w : V) → ws ≡ s.words → get_elem? s.views id ≡ some v → Alike w v → w.held ≡ v.held → Knows history by part r.value r.origin r.made r.log r.turn id w
      → Rule record { words = ws; homes = s.homes; views = set s.views id w }
  changes s r id ws v w same at alike held knows = record {
    value = r.value;
    origin = r.origin;
    made = r.made;
    turn = r.turn;
    taker = r.taker;
    log = r.log;
    short = r.short;
    lies = subst (λ (ws : List ℕ). Lies history ws s.homes r.value r.turn) (sym same) r.lies;
    each = seats_stay (Knows history by part r.value r.origin r.made r.log r.turn) s.views id w knows (λ j u _ e. r.each j u e);
    apart = apart_stay s.views id v w at alike r.apart;
    gone = gone_stay s.views id v w at alike r.gone;
    holder = holder_stays r.turn r.taker r.value s.views id v w at alike.0 alike.1 held r.holder;
    idle = r.idle;
    leads = r.leads;
    unmade = r.unmade;
  }

  -- the seat id makes an exchange more: what others know of theirs stays true
  module _ (s : St) (r : Rule s) (id : ℕ) (v : V) (e : Exchange T) (at : get_elem? s.views id ≡ some v) (numbered : v.numbered ≡ true) (by_it : e.number ≡ v.number) where
    other_saw : (j : ℕ) (u : V) → j ≢ id → get_elem? s.views j ≡ some u → u.numbered ≡ true → Saw (r.log ++ e ∷ []) u.number u.log
    other_saw j u other there nu = saw_on r.log e u.number u.log (λ is. other (r.apart j id u v there at nu numbered (is ∙ by_it))) ((r.each j u there).fits nu).2

    gone_saw : (j k : ℕ) (u : V) (q : Retired T) → get_elem? s.views j ≡ some u → get_elem? u.retired k ≡ some q → Saw (r.log ++ e ∷ []) q.number q.log
    gone_saw j k u q there eq = saw_on r.log e q.number q.log (λ is. r.gone j id k u v q there eq at numbered (sym (is ∙ by_it))) ((r.each j u there).retired k q eq).2

    none_more : (k : ℕ) → r.made < k → of maker k (r.log ++ e ∷ []) ≡ []
    none_more k more = adds_other maker e.number k r.log (r.log ++ e ∷ []) (λ is. let le = ((r.each id v at).fits numbered).1 in omega (arith, is, by_it, le, more)) (inr (e, refl, refl)) ∙ (r.unmade k more).2

  abbrev Takes : St → ℕ → M → ℕ → Type 0
  Takes s id m n = (w : V) × (a : Act (Option T)) × Valid s.homes m.1 a × Rule (stepped s 0 (bit_or n 1) id m.1 w a) × took history by part (step 1 0 1 0 none) m n (w, carried_after m.1 a)

  take_by : (s : St) (r : Rule s) (id : ℕ) (m : M) → m.0.numbered ≡ true → m.0.held ≡ None → get_elem? s.views id ≡ some m.0 → (t : Option ℕ) → r.turn ≡ t → Takes s id m (get_or s.words 0 0)
  take_by s r id m numbered free at None is =
      let x = r.value in let mine = r.each id m.0 at in let n : ℕ = length (history x) in
      let e : Exchange T = exchange m.0.number (get_or s.words 0 0) (Some x) in let log : List (Exchange T) = r.log ++ e ∷ [] in let w : V = holding m.0 log x in
      let l : Lies history s.words s.homes x None = subst (Lies history s.words s.homes x) is r.lies in
      let leads : Leads history r.origin None r.log x None = subst (Leads history r.origin None r.log x) (r.idle is) r.leads in
      let found : get_or s.words 0 0 ≡ 2 * n = ap (λ (ws : List ℕ). get_or ws 0 0) l.0 in (
        w,
        takes 0 (Some x),
        ap (λ (hs : List (maybe.Option (Option T))). get_elem? hs 0) l.1,
        record {
          value = x;
          origin = r.origin;
          made = r.made;
          turn = Some id;
          taker = Some m.0.number;
          log = log;
          short = r.short;
          lies = (ap (λ (ws : List ℕ). set ws 0 (bit_or (get_or ws 0 0) 1)) l.0 ∙ ap (λ (k : ℕ). k ∷ []) (or_even n), ap (λ (hs : List (maybe.Option (Option T))). set hs 0 none) l.1);
          each = seats_stay (Knows history by part x r.origin r.made log (Some id)) s.views id w
              record {
                begins = mine.begins;
                met = mine.met;
                fits = λ h. let t = mine.fits h in (t.0, t.1, saw_all log m.0.number);
                put_in = mine.put_in;
                first = mine.first;
                holds = λ y h. (refl, sym (same_Some x y h));
                retired = λ k q h. let t = mine.retired k q h in (t.0, t.1, gone_saw s r id m.0 e at numbered refl id k m.0 q at h);
              }
              (λ j v other there. let k = r.each j v there in record {
                begins = k.begins;
                met = k.met;
                fits = λ h. let t = k.fits h in (t.0, t.1, other_saw s r id m.0 e at numbered refl j v other there h);
                put_in = k.put_in;
                first = k.first;
                holds = λ y h. absurd (none-some j (sym is ∙ (k.holds y h).0));
                retired = λ i q h. let t = k.retired i q h in (t.0, t.1, gone_saw s r id m.0 e at numbered refl j i v q there h);
              });
          apart = apart_stay s.views id m.0 w at (refl, refl, refl) r.apart;
          gone = gone_stay s.views id m.0 w at (refl, refl, refl) r.gone;
          holder = λ j h. (w, ap (get_elem? (set s.views id w)) (sym (same_Some id j h)) ∙ set_at s.views id m.0 w at, numbered, refl, refl);
          idle = λ h. absurd (none-some id (sym h));
          leads = leads_on history r.origin None r.log x None e x (Some m.0.number) leads (found, refl, refl, refl);
          unmade = λ k more. let u = r.unmade k more in (u.0, u.1, none_more s r id m.0 e at numbered refl k more);
        },
        (
          r.log,
          x,
          saw_others r.log m.0.number m.0.log (mine.fits numbered).2,
          (λ _. (refl, (mine.fits numbered).0, found, r.short, (r.origin, mine.put_in numbered, leads))),
          λ odd. absurd (odd (let z : get_or s.words 0 0 % 2 ≡ 0 = omega arith in z)),
        ),
      )
  take_by s r id m numbered free at (Some j) is =
      let x = r.value in let n : ℕ = length (history x) in let mine = r.each id m.0 at in let h = r.holder j is in
      let e : Exchange T = exchange m.0.number (get_or s.words 0 0) None in let log : List (Exchange T) = r.log ++ e ∷ [] in let w : V = tried m.0 log in
      let l : Lies history s.words s.homes x (Some j) = subst (Lies history s.words s.homes x) is r.lies in
      let leads : Leads history r.origin None r.log x (Some h.0.number) = subst (Leads history r.origin None r.log x) h.4 r.leads in
      let found : get_or s.words 0 0 ≡ 2 * n + 1 = ap (λ (ws : List ℕ). get_or ws 0 0) l.0 in
      let has = begins_length (seen_of history m.0.seen) (history x) mine.begins in
      let least = r.short in
      let other : h.0.number ≢ m.0.number = (λ same. let place : j ≡ id = r.apart j id h.0 m.0 h.1 at h.2 numbered same in
      let one : h.0 ≡ m.0 = some-injective h.0 m.0 (sym h.1 ∙ (ap (get_elem? s.views) place ∙ at)) in none-some r.value (sym free ∙ (ap (λ (z : V). z.held) (sym one) ∙ h.3))) in
      let some_made : m.0.number ≡ 0 → 0 < m.0.made = (λ z. let le = ((r.each j h.0 h.1).fits h.2).1 in let made = mine.first numbered z in
      dite (ℕ_discrete h.0.number 0) (λ (c : h.0.number ≡ 0). absurd (other (c ∙ sym z))) (λ (c : h.0.number ≢ 0). omega (arith, le, made, c))) in
      let busy : IsBusy history by part m.0 (get_or s.words 0 0) = (omega (arith, found), omega (arith, found, has), omega (arith, found, least), some_made) in
      let same : set s.words 0 (bit_or (get_or s.words 0 0) 1) ≡ s.words = ap (λ (ws : List ℕ). set ws 0 (bit_or (get_or ws 0 0) 1)) l.0 ∙ (ap (λ (k : ℕ). k ∷ []) (or_odd n) ∙ sym l.0) in (
        w,
        keeps,
        tt,
        record {
          value = x;
          origin = r.origin;
          made = r.made;
          turn = r.turn;
          taker = r.taker;
          log = log;
          short = r.short;
          lies = subst (λ (ws : List ℕ). Lies history ws s.homes x r.turn) (sym same) r.lies;
          each = seats_stay (Knows history by part x r.origin r.made log r.turn) s.views id w
              record {
                begins = mine.begins;
                met = mine.met;
                fits = λ h. let t = mine.fits h in (t.0, t.1, saw_all log m.0.number);
                put_in = mine.put_in;
                first = mine.first;
                holds = mine.holds;
                retired = λ k q h. let t = mine.retired k q h in (t.0, t.1, gone_saw s r id m.0 e at numbered refl id k m.0 q at h);
              }
              (λ i v other there. let k = r.each i v there in record {
                begins = k.begins;
                met = k.met;
                fits = λ h. let t = k.fits h in (t.0, t.1, other_saw s r id m.0 e at numbered refl i v other there h);
                put_in = k.put_in;
                first = k.first;
                holds = k.holds;
                retired = λ c q h. let t = k.retired c q h in (t.0, t.1, gone_saw s r id m.0 e at numbered refl i c v q there h);
              });
          apart = apart_stay s.views id m.0 w at (refl, refl, refl) r.apart;
          gone = gone_stay s.views id m.0 w at (refl, refl, refl) r.gone;
          holder = holder_stays r.turn r.taker x s.views id m.0 w at refl refl refl r.holder;
          idle = r.idle;
          leads = subst (Leads history r.origin None log x) (sym h.4)
              (leads_on history r.origin None r.log x (Some h.0.number) e x (Some h.0.number) leads (found, inl (other, refl, refl, refl)));
          unmade = λ k more. let u = r.unmade k more in (u.0, u.1, none_more s r id m.0 e at numbered refl k more);
        },
        (
          r.log,
          x,
          saw_others r.log m.0.number m.0.log (mine.fits numbered).2,
          (λ even. absurd (let o : ⊥ = omega (arith, even, found) in o)),
          λ _. (refl, busy, found, (h.0.number, other, (r.origin, mine.put_in numbered, leads))),
        ),
      )

  -- a seat with a number tries to take the value
  pub takes_turn : (slots id : ℕ) (m : M) → m.0.numbered ≡ true → m.0.held ≡ None → Allows Rule slots id m 0 (λ n. bit_or n 1) (took history by part (step 1 0 1 0 none) m)
  takes_turn slots id m numbered free s r _ at _ = take_by s r id m numbered free at r.turn refl

  -- who has another number knows as much after a turn
  fits_stay : (x y : T) (n k : ℕ) (seen knew : Option T) → AddsOne by n (history x) (history y) → ((k : ℕ) → k ≢ n → part y k ≡ part x k) → k ≢ n → Fits history by part x k seen knew → Fits history by part y k seen knew
  fits_stay x y n k seen knew adds others other f = record {
    begins = begins_trans (seen_of history seen) (history x) (history y) f.begins (adds_begins by n (history x) (history y) adds);
    part_is = (f.part_is.0, f.part_is.1, others k other ∙ f.part_is.2);
    mine = adds_other by n k (history x) (history y) other adds ∙ f.mine;
  }

  abbrev picked : T → List (ℕ × Option T) → T
  picked d [] = d
  picked d ((k, None) ∷ xs) = d
  picked d ((k, Some y) ∷ xs) = y

  -- the seat that holds the turn puts the value back, as one turn has left it
  ends_turn : (slots id : ℕ) (m : M) (x y : T) (f : ℕ → ℕ) → m.0.numbered ≡ true → m.0.held ≡ Some x → m.1 ≡ (0, Some y) ∷ [] → AddsOne by m.0.number (history x) (history y)
      → length (history y) ≤ 2 ^ 62 → ((k : ℕ) → k ≢ m.0.number → part y k ≡ part x k) → (length (history x) ≤ 2 ^ 62 → f (2 * length (history x) + 1) ≡ 2 * length (history y))
      → Allows Rule slots id m 0 f (released history (step 1 0 1 0 none) m)
  ends_turn slots id m x y f numbered held has adds short others word s r _ at _ =
      let mine = r.each id m.0 at in let h = mine.holds x held in let n = m.0.number in
      let e : Exchange T = exchange m.0.number (get_or s.words 0 0) (Some y) in let log : List (Exchange T) = r.log ++ e ∷ [] in let w : V = after_turn m.0 log y in
      let old = mine.fits numbered in let grows = adds_begins by n (history x) (history y) adds in
      let was : x ≡ r.value = h.1 in
      let l : Lies history s.words s.homes x (Some id) = subst (λ (p : T × Option ℕ). Lies history s.words s.homes p.0 p.1) (λ i. (sym was i, h.0 i)) r.lies in
      let fine : length (history x) ≤ 2 ^ 62 = subst (λ (z : T). length (history z) ≤ 2 ^ 62) (sym was) r.short in
      let knew = λ (j : ℕ) (v : V) (e : get_elem? s.views j ≡ some v). subst (λ (z : T). Knows history by part z r.origin r.made r.log r.turn j v) (sym was) (r.each j v e) in
      let it = r.holder id h.0 in let me : it.0 ≡ m.0 = some-injective it.0 m.0 (sym it.1 ∙ at) in
      let taker : r.taker ≡ Some n = it.4 ∙ ap (λ (z : V). Some z.number) me in
      let leads : Leads history r.origin None r.log x (Some n) = subst (λ (p : T × Option ℕ). Leads history r.origin None r.log p.0 p.1) (λ i. (sym was i, taker i)) r.leads in
      let found : get_or s.words 0 0 ≡ 2 * length (history x) + 1 = ap (λ (ws : List ℕ). get_or ws 0 0) l.0 in
      let on : Leads history r.origin None log y None = leads_on history r.origin None r.log x (Some n) e y None leads (found, inr (refl, refl, refl)) in (
        w,
        gives,
        tt,
        record {
          value = y;
          origin = r.origin;
          made = r.made;
          turn = None;
          taker = None;
          log = log;
          short = short;
          lies = (ap (λ (ws : List ℕ). set ws 0 (f (get_or ws 0 0))) l.0 ∙ ap (λ (k : ℕ). k ∷ []) (word fine), (λ i. homes_after (l.1 i) (has i) gives));
          each = seats_stay (Knows history by part y r.origin r.made log None) s.views id w
              (let k = knew id m.0 at in record {
                begins = begins_self (history y);
                met = begins_trans (seen_of history m.0.met) (history x) (history y) k.met grows;
                fits = λ _. (record { begins = begins_self (history y); part_is = (y, refl, refl); mine = refl }, old.1, saw_all log n);
                put_in = mine.put_in;
                first = mine.first;
                holds = λ z e. absurd (none-some z e);
                retired = λ i q eq. let t = k.retired i q eq in (fits_stay x y n q.number q.seen q.knew adds others (λ is. r.gone id id i m.0 m.0 q at eq at numbered (sym is)) t.0, t.1, gone_saw s r id m.0 e at numbered refl id i m.0 q at eq);
              })
              (λ j v other there. let k = knew j v there in record {
                begins = begins_trans (seen_of history v.seen) (history x) (history y) k.begins grows;
                met = begins_trans (seen_of history v.met) (history x) (history y) k.met grows;
                fits = λ nv. let g = k.fits nv in (fits_stay x y n v.number v.seen v.knew adds others (λ is. other (r.apart j id v m.0 there at nv numbered is)) g.0, g.1, other_saw s r id m.0 e at numbered refl j v other there nv);
                put_in = k.put_in;
                first = k.first;
                holds = λ z e'. absurd (other (same_Some j id (sym (k.holds z e').0 ∙ h.0)));
                retired = λ i q eq. let t = k.retired i q eq in (fits_stay x y n q.number q.seen q.knew adds others (λ is. r.gone j id i v m.0 q there eq at numbered (sym is)) t.0, t.1, gone_saw s r id m.0 e at numbered refl j i v q there eq);
              });
          apart = apart_stay s.views id m.0 w at (refl, refl, refl) r.apart;
          gone = gone_stay s.views id m.0 w at (refl, refl, refl) r.gone;
          holder = λ j e. absurd (none-some j e);
          idle = λ _. refl;
          leads = on;
          unmade = λ k more. let o : k ≢ n = (λ is. let le = old.1 in omega arith) in let u = subst (λ (z : T). (part z k ≡ part r.origin k) × (of by k (history z) ≡ []) × (of maker k r.log ≡ [])) (sym was) (r.unmade k more) in
              (others k o ∙ u.0, adds_other by n k (history x) (history y) o adds ∙ u.1, none_more s r id m.0 e at numbered refl k more);
        },
        λ z is_z. let same : y ≡ z = ap (picked y) (sym has ∙ is_z) in (
          r.log,
          saw_others r.log n m.0.log old.2,
          (λ i. (after_turn m.0 (r.log ++ exchange n (get_or s.words 0 0) (Some (same i)) ∷ []) (same i), rest (has i))),
          (r.origin, mine.put_in numbered, subst (λ (c : T). Leads history r.origin None (r.log ++ exchange n (get_or s.words 0 0) (Some c) ∷ []) c None) same on),
          (λ u is_u. let took : x ≡ u = same_Some x u (sym held ∙ is_u) in found ∙ ap (λ (c : T). 2 * length (history c) + 1) took),
        ),
      )

  abbrev first_slot : List (ℕ × Option T) → Option T
  first_slot [] = None
  first_slot (x ∷ xs) = x.1

  -- the seat after the value was taken out, changed and put in
  pub between : (m m' m1 m2 : M) (n : List (Exchange T)) (x0 x y : T) (out : Option T) → m.1 ≡ [] → m' ≡ (holding m.0 n x0, (0, Some x0) ∷ m.1) → m'.1 ≡ (0, out) ∷ rest m'.1 → out ≡ Some x → m1 ≡ (m'.0, (0, None) ∷ rest m'.1)
      → m2 ≡ (m1.0, (0, Some y) ∷ rest m1.1) → (x0 ≡ x) × (m2 ≡ (holding m.0 n x, (0, Some y) ∷ []))
  between m m' m1 m2 n x0 x y out free took_is out_is out_some in_none in_some =
      let same : x0 ≡ x = same_Some x0 x (ap (λ (z : M). first_slot z.1) (sym took_is) ∙ (ap first_slot out_is ∙ out_some)) in
      let left : rest m1.1 ≡ [] = ap (λ (z : M). rest z.1) in_none ∙ (ap (λ (z : M). rest z.1) took_is ∙ free) in
      let view : m1.0 ≡ holding m.0 n x = ap (λ (z : M). z.0) in_none ∙ (ap (λ (z : M). z.0) took_is ∙ ap (holding m.0 n) same) in
      (same, in_some ∙ (λ i. (view i, (0, Some y) ∷ left i)))

  -- the seat puts the value back, where a work with its number has changed it
  pub ends : (slots id n : ℕ) (k : List (Exchange T)) (m m2 : M) (x y : T) (f : ℕ → ℕ) → m.0.numbered ≡ true → n ≡ m.0.number → m2 ≡ (holding m.0 k x, (0, Some y) ∷ []) → AddsOne by n (history x) (history y)
      → length (history y) ≤ 2 ^ 62 → ((k : ℕ) → k ≢ n → part y k ≡ part x k) → (length (history x) ≤ 2 ^ 62 → f (2 * length (history x) + 1) ≡ 2 * length (history y))
      → Allows Rule slots id m2 0 f (released history (step 1 0 1 0 none) m2)
  ends slots id n k m m2 x y f numbered number is adds short others word =
      subst (λ (z : M). Allows Rule slots id z 0 f (released history (step 1 0 1 0 none) z)) (sym is)
      (ends_turn slots id (holding m.0 k x, (0, Some y) ∷ []) x y f numbered refl refl (subst (λ (k : ℕ). AddsOne by k (history x) (history y)) number adds) short
      (λ k other. others k (λ e. other (e ∙ number))) word)

  -- the two exchanges of a seat are one turn
  pub one_turn : (m m2 : M) (n k : ℕ) (log : List (Exchange T)) (x0 x y : T) (does : T → T → Type 0) → k ≡ m.0.number → Others m.0.number m.0.log log → Fits history by part x0 m.0.number m.0.seen m.0.knew
      → n ≡ 2 * length (history x0) → Run history m.0.origin log x0 None → x0 ≡ x → m2 ≡ (holding m.0 (log ++ exchange m.0.number n (Some x0) ∷ []) x, (0, Some y) ∷ [])
      → does x y → AddsOne by k (history x) (history y) → length (history y) ≤ 2 ^ 62 → (slots n2 : ℕ) (m3 : M) → released history (step slots 0 1 0 none) m2 n2 m3 → Turned history by part does m.0 m3.0
  one_turn m m2 n k log x0 x y does number others fits word run same is done adds short slots n2 m3 release =
      let l : List (Exchange T) = log ++ exchange m.0.number n (Some x0) ∷ [] in
      let r = subst (λ (z : M). released history (step slots 0 1 0 none) z n2 m3) is release y refl in
      let first : n ≡ 2 * length (history x) = word ∙ ap (λ (c : T). 2 * length (history c)) same in
      let second : n2 ≡ 2 * length (history x) + 1 = r.4 x refl in record {
        found = x;
        left = y;
        before = log;
        until = r.0;
        fits = subst (λ (c : T). Fits history by part c m.0.number m.0.seen m.0.knew) same fits;
        done = done;
        adds = subst (λ (c : ℕ). AddsOne by c (history x) (history y)) number adds;
        short = short;
        first = others;
        free = subst (λ (c : T). Run history m.0.origin log c None) same run;
        held = subst (λ (p : ℕ × T). Others m.0.number (log ++ exchange m.0.number p.0 (Some p.1) ∷ []) r.0) (λ i. (first i, same i)) r.1;
        ends = subst (λ (c : ℕ). Run history m.0.origin (r.0 ++ exchange m.0.number c (Some y) ∷ []) y None) second r.3;
        knows = ap (λ (z : M). z.0) r.2 ∙ ap (λ (c : ℕ). after_turn m.0 (r.0 ++ exchange m.0.number c (Some y) ∷ []) y) second;
      }
