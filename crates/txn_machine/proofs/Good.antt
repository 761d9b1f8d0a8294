-- What holds in every state that steps lead to, for all views that keep the laws, and how it is put together where one
-- session's transaction is replaced.
use Rattle.std.specs.Prelude.{◌≡◌, ◌≢◌, ◌⊎◌, ℕ, cond, eqb, true, false, List, [], ◌∷◌, ℤ, pos, ◌+ℤ◌, ◌≤ℤ◌, Option, None}
use Rattle.std.specs.Option.{unwrap_or}
use mathlib.Core.Path.{refl, sym, ap, subst, ◌∙◌}
use mathlib.Core.Logic.{inl, inr}
use Rattle.std.proofs.Common.{arith}
use Rattle.std.proofs.lemmas.Int.{ints}
use Rattle.std.specs.FinMap.{get}
use Rattle.iv_types.specs.declared.lock.LockMode.TheVariants.{Exclusive, Increment}
use Rattle.iv_types.specs.declared.lock.Want.{Want}
use Rattle.iv_types.specs.Encoding.{IsHuge}
use Rattle.table_laws.specs.Place.{Place}
use Rattle.table_laws.specs.Kept.{Touches, redo, AreTrue, with_kept, IsStored}
use Rattle.table_laws.proofs.Kept.{by_touch, redo_untouched}
use Rattle.table_laws.proofs.Place.{place_cmp_total, place_cmp-IsAntisymmetric}
use Rattle.table_laws.proofs.Stored.{by_session}
use Rattle.iv_meaning.specs.Schema.{Schema}
use Rattle.iv_meaning.specs.Database.{Rows, Database}
use Rattle.iv_meaning.specs.History.{Entry}
use Rattle.iv_meaning.specs.Escrow.{IsSession, lo, hi, over_sessions}
use Rattle.txn_machine.specs.Locks.{Meet, with_one}
use Rattle.txn_machine.specs.Deltas.{RowChange, due, place_of}
use Rattle.txn_machine.specs.Keeping.{KeptStep, Put, Pay, changes_of, increments, IsSettled, Open, idle}
use Rattle.txn_machine.specs.Stored.{ViewRows, stored_number}
use Rattle.txn_machine.specs.Entries.{AgreeAt, HasEntry, NeedsAt}
use Rattle.txn_machine.specs.Ghosts.{Holds, MayRead}
use Rattle.txn_machine.specs.Store.{Store, Views, now, changes_by, locks_of}
use Rattle.txn_machine.specs.ViewLaws.{AreSound, ViewLaws}
use Rattle.txn_machine.proofs.Basics.{one_same, one_other, after_all, meet_sym, read_meets, by_someone}
use Rattle.txn_machine.proofs.Agreeing.{TouchesAt, untouched_at}
use Rattle.txn_machine.proofs.Columns.{paid_in, owes_in}
use Rattle.txn_machine.proofs.Bounds.{over_set, all_low, all_high}
use Rattle.txn_machine.proofs.Entered.{AreProper, sound_redo, right_next, IsHistoryOf}

-- ---- one session

-- the session holds the locks of a change
pub record HoldsFor (objects : Schema) (locks : List Want) (c : RowChange) : Type 0 where
  pub key : Holds locks Exclusive c.key.0 c.key.1
  pub before : (number : ℕ) (key : List ℕ) → HasEntry objects number key c.key c.before → Holds locks Exclusive number key
  pub after : (number : ℕ) (key : List ℕ) → HasEntry objects number key c.key c.after → Holds locks Exclusive number key
  pub needs : (number : ℕ) (key : List ℕ) → NeedsAt objects c number key → MayRead locks number key

-- and of all that it keeps
abbrev pub HeldKept : Schema → List Want → List KeptStep → Type 0
HeldKept objects locks [] = Unit {0}
HeldKept objects locks (Put c ds ∷ ks) = HoldsFor objects locks c × HeldKept objects locks ks
HeldKept objects locks (Pay d ∷ ks) = Holds locks Increment d.view d.group × HeldKept objects locks ks

-- one of these pays is on the place
abbrev pub PaysOn : Place → List KeptStep → Type 0
PaysOn p [] = ⊥
PaysOn p (Put c ds ∷ ks) = PaysOn p ks
PaysOn p (Pay d ∷ ks) = (p ≡ place_of d) ⊎ PaysOn p ks

pub touched_held : (objects : Schema) (locks : List Want) (number : ℕ) (key : List ℕ) (ks : List KeptStep) → HeldKept objects locks ks → TouchesAt objects number key (changes_of ks) → Holds locks Exclusive number key
touched_held objects locks number key [] h t = absurd t
touched_held objects locks number key (Put c ds ∷ ks) h (inl e) = h.0.before number key e
touched_held objects locks number key (Put c ds ∷ ks) h (inr (inl e)) = h.0.after number key e
touched_held objects locks number key (Put c ds ∷ ks) h (inr (inr t)) = touched_held objects locks number key ks h.1 t
touched_held objects locks number key (Pay d ∷ ks) h t = touched_held objects locks number key ks h.1 t

pub key_held : (objects : Schema) (locks : List Want) (q : Place) (ks : List KeptStep) → HeldKept objects locks ks → Touches q (changes_of ks) → Holds locks Exclusive q.0 q.1
key_held objects locks q [] h t = absurd t
key_held objects locks q (Put c ds ∷ ks) h (inl e) = subst (λ (x : Place). Holds locks Exclusive x.0 x.1) (sym e) h.0.key
key_held objects locks q (Put c ds ∷ ks) h (inr t) = key_held objects locks q ks h.1 t
key_held objects locks q (Pay d ∷ ks) h t = key_held objects locks q ks h.1 t

pub pays_held : (objects : Schema) (locks : List Want) (p : Place) (ks : List KeptStep) → HeldKept objects locks ks → PaysOn p ks → Holds locks Increment p.0 p.1
pays_held objects locks p [] h t = absurd t
pays_held objects locks p (Put c ds ∷ ks) h t = pays_held objects locks p ks h.1 t
pays_held objects locks p (Pay d ∷ ks) h (inl e) = subst (λ (x : Place). Holds locks Increment x.0 x.1) (sym e) h.0
pays_held objects locks p (Pay d ∷ ks) h (inr t) = pays_held objects locks p ks h.1 t

abbrev pub the_open : Option Open → Open
the_open o = unwrap_or o idle

-- the kept changes of all sessions, where one session's transaction is this one
pub kept_anew : (open_of : ℕ → Option Open) (i : ℕ) (o : Option Open) (cs : List RowChange) → changes_of (the_open o).kept ≡ cs
    → ◌≡◌ {A = ℕ → List RowChange} (with_kept (λ j. changes_of (the_open (open_of j)).kept) i cs) (λ j. changes_of (the_open (with_one open_of i o j)).kept)
kept_anew open_of i o cs e = λ x j. one j x
  where
    one : (j : ℕ) → with_kept (λ j. changes_of (the_open (open_of j)).kept) i cs j ≡ changes_of (the_open (with_one open_of i o j)).kept
    one j = elim (eqb j i) as (λ b. cond b cs (changes_of (the_open (open_of j)).kept) ≡ changes_of (the_open (cond b o (open_of j))).kept) [ true ↦ sym e | false ↦ refl ]

module _ (views : Views) (value : Schema → Rows → Place → ℕ → ℤ) (laws : ViewLaws views value) where
  -- each change owed what it would owe alone
  abbrev pub ToldKept : Schema → Rows → List KeptStep → Type 0
  ToldKept objects base [] = Unit {0}
  ToldKept objects base (Put c ds ∷ ks) = (ds ≡ views.owed objects (redo (changes_of ks) base) c) × ToldKept objects base ks
  ToldKept objects base (Pay d ∷ ks) = ToldKept objects base ks

  pub record TxnGood (base : Database) (t : Open) : Type 0 where
    pub held : HeldKept base.schema t.locks t.kept
    pub proper : AreProper base.schema (changes_of t.kept)
    pub told : ToldKept base.schema base.rows t.kept
    pub settled : IsSettled t.kept t.owed

  abbrev pub all_paid : (ℕ → Option Open) → Place → ℕ → ℤ
  all_paid open_of p column = over_sessions (λ j. paid_in p column (the_open (open_of j)).kept)

  abbrev pub all_lo : (ℕ → Option Open) → Place → ℕ → ℤ
  all_lo open_of p column = over_sessions (λ j. lo (increments p column (the_open (open_of j)).kept))

  abbrev pub all_hi : (ℕ → Option Open) → Place → ℕ → ℤ
  all_hi open_of p column = over_sessions (λ j. hi (increments p column (the_open (open_of j)).kept))

  pub record Good (base : Database) (s : Store) : Type 0 where
    pub sound : AreSound base.schema base.rows
    pub apart : (i j : ℕ) → IsSession i → IsSession j → i ≢ j → Meet (locks_of s i) (locks_of s j) → ⊥
    pub stored : IsStored 64 (changes_by s) base.rows s.rows
    pub each : (i : ℕ) → IsSession i → TxnGood base (now s i)
    pub view : (p : Place) (column : ℕ) → stored_number s.view p column ≡ value base.schema base.rows p column +ℤ all_paid s.open_of p column
    -- no pay is kept where no row is stored
    pub present : (p : Place) → get s.view p ≡ None → (i : ℕ) → IsSession i → PaysOn p (now s i).kept → ⊥
    pub low : (p : Place) (column : ℕ) → IsHuge (value base.schema base.rows p column +ℤ all_lo s.open_of p column)
    pub high : (p : Place) (column : ℕ) → IsHuge (value base.schema base.rows p column +ℤ all_hi s.open_of p column)
    pub history : IsHistoryOf s.origin s.history

  -- ---- what follows

  pub value-redo : (objects : Schema) (base : Rows) (ks : List KeptStep) (p : Place) (column : ℕ) → AreSound objects base → AreProper objects (changes_of ks) → AreTrue base (changes_of ks) → ToldKept objects base ks
      → value objects (redo (changes_of ks) base) p column ≡ value objects base p column +ℤ owes_in p column ks
  value-redo objects base [] p column s a t h = omega (arith, ints)
  value-redo objects base (Put c ds ∷ ks) p column s a t h =
      let one : value objects (redo (c ∷ changes_of ks) base) p column ≡ value objects (redo (changes_of ks) base) p column +ℤ due p column (views.owed objects (redo (changes_of ks) base) c) =
      laws.sum objects (redo (changes_of ks) base) c (right_next objects base c (changes_of ks) s a t) p column in
      let owes : due p column ds ≡ due p column (views.owed objects (redo (changes_of ks) base) c) = ap (due p column) h.0 in
      let rest : value objects (redo (changes_of ks) base) p column ≡ value objects base p column +ℤ owes_in p column ks = value-redo objects base ks p column s a.1 t.1 h.1 in
      omega (arith, ints)
  value-redo objects base (Pay d ∷ ks) p column s a t h = value-redo objects base ks p column s a t h

  module _ (base : Database) (s : Store) (good : Good base s) where
    pub base_sound : AreSound base.schema base.rows
    base_sound = good.sound

    pub own_sound : (i : ℕ) → IsSession i → AreSound base.schema (redo (changes_by s i) base.rows)
    own_sound i is = sound_redo base.schema base.rows (changes_by s i) base_sound (good.each i is).proper

    -- the stored rows are sound, since each is a row of the base or of some session's own rows
    pub stored_sound : AreSound base.schema s.rows
    stored_sound = record {
      objects = good.sound.objects;
      rows = λ p r e. by_someone p (changes_by s) 64
          (λ j is t. (own_sound j is).rows p r (sym (good.stored.own j p is t) ∙ e))
          (λ none. good.sound.rows p r (sym (good.stored.others p none) ∙ e));
      joins = good.sound.joins;
      typed = good.sound.typed;
    }

    -- another session's changes touch no point that this session may read
    pub others_apart : (i j : ℕ) → IsSession i → IsSession j → i ≢ j → (number : ℕ) (key : List ℕ) → MayRead (locks_of s i) number key → TouchesAt base.schema number key (changes_by s j) → ⊥
    others_apart i j is js n number key r t = good.apart i j is js n (read_meets (locks_of s i) (locks_of s j) number key r (touched_held base.schema (locks_of s j) number key (now s j).kept (good.each j js).held t))

    -- the frame
    pub frame_at : (i j : ℕ) → IsSession i → IsSession j → i ≢ j → (number : ℕ) (key : List ℕ) → MayRead (locks_of s j) number key
        → AgreeAt base.schema number key (redo (changes_by s i) base.rows) base.rows
    frame_at i j is js n number key r = untouched_at base.schema number key (changes_by s i) base.rows (good.stored.told i is) (others_apart j i js is (λ e. n (sym e)) number key r)

    -- a session finds its own rows at each point that it may read
    pub read_at : (i : ℕ) → IsSession i → (number : ℕ) (key : List ℕ) → MayRead (locks_of s i) number key
        → AgreeAt base.schema number key s.rows (redo (changes_by s i) base.rows)
    read_at i is number key r =
        let own : (q : Place) → (Touches q (changes_by s i) → ⊥) → get (redo (changes_by s i) base.rows) q ≡ get base.rows q = λ q u. redo_untouched place_cmp_total place_cmp-IsAntisymmetric q (changes_by s i) base.rows u in
        record {
          there = λ q row h e. by_touch place_cmp_total place_cmp-IsAntisymmetric q (changes_by s i)
              (λ t. sym (good.stored.own i q is t) ∙ e)
              (λ u. own q u ∙ by_someone q (changes_by s) 64
              (λ j js t. by_session j i
              (λ k. absurd (u (subst (λ x. Touches q (changes_by s x)) k t)))
              (λ n. (frame_at j i js is n number key r).there q row h (sym (good.stored.own j q js t) ∙ e)))
              (λ none. sym (good.stored.others q none) ∙ e));
          back = λ q row h e. by_touch place_cmp_total place_cmp-IsAntisymmetric q (changes_by s i)
              (λ t. good.stored.own i q is t ∙ e)
              (λ u. by_someone q (changes_by s) 64
              (λ j js t. by_session j i
              (λ k. absurd (u (subst (λ x. Touches q (changes_by s x)) k t)))
              (λ n. good.stored.own j q js t ∙ (frame_at j i js is n number key r).back q row h (sym (own q u) ∙ e)))
              (λ none. good.stored.others q none ∙ (sym (own q u) ∙ e)));
        }

  -- ---- one session's transaction is replaced

  pub record Parts (s : Store) (i : ℕ) (u : Open) (base : Database) (rows : Rows) (view : ViewRows) (history : List Entry) : Type 0 where
    pub one : IsSession i
    pub sound : AreSound base.schema base.rows
    pub apart : (j : ℕ) → IsSession j → j ≢ i → Meet u.locks (locks_of s j) → ⊥
    pub stored : IsStored 64 (with_kept (changes_by s) i (changes_of u.kept)) base.rows rows
    pub each_new : TxnGood base u
    pub each_old : (j : ℕ) → IsSession j → j ≢ i → TxnGood base (now s j)
    pub sums : (p : Place) (column : ℕ) → stored_number view p column +ℤ paid_in p column (now s i).kept ≡ (value base.schema base.rows p column +ℤ all_paid s.open_of p column) +ℤ paid_in p column u.kept
    pub present_new : (p : Place) → get view p ≡ None → PaysOn p u.kept → ⊥
    pub present_old : (p : Place) → get view p ≡ None → (j : ℕ) → IsSession j → j ≢ i → PaysOn p (now s j).kept → ⊥
    -- x and y are what all sessions' least and greatest sums come to
    pub bounds : (p : Place) (column : ℕ) (x y : ℤ) → x +ℤ lo (increments p column (now s i).kept) ≡ all_lo s.open_of p column +ℤ lo (increments p column u.kept)
        → y +ℤ hi (increments p column (now s i).kept) ≡ all_hi s.open_of p column +ℤ hi (increments p column u.kept) → x ≤ℤ pos 0 → pos 0 ≤ℤ y
        → IsHuge (value base.schema base.rows p column +ℤ x) × IsHuge (value base.schema base.rows p column +ℤ y)
    pub entered : IsHistoryOf s.origin history

  pub assembled : (s : Store) (i : ℕ) (o : Option Open) (old base : Database) (rows : Rows) (view : ViewRows) (history : List Entry) (mark : ℕ) → Good old s → Parts s i (the_open o) base rows view history
      → Good base (record { origin = s.origin; history = history; rows = rows; view = view; mark = mark; open_of = with_one s.open_of i o })
  assembled s i o old base rows view history mark good p =
      let u : Open = the_open o in
      let anew : ℕ → Option Open = with_one s.open_of i o in
      let bounded : (q : Place) (column : ℕ) → IsHuge (value base.schema base.rows q column +ℤ all_lo anew q column) × IsHuge (value base.schema base.rows q column +ℤ all_hi anew q column) =
      λ q column. p.bounds q column (all_lo anew q column) (all_hi anew q column)
      (over_set (λ (x : Option Open). lo (increments q column (the_open x).kept)) s.open_of i o p.one)
      (over_set (λ (x : Option Open). hi (increments q column (the_open x).kept)) s.open_of i o p.one)
      (all_low (λ j. increments q column (the_open (anew j)).kept)) (all_high (λ j. increments q column (the_open (anew j)).kept)) in
      record {
        sound = p.sound;
        apart = λ a b is js n. by_session a i
            (λ e. let m : b ≢ i = λ f. n (e ∙ sym f) in
            subst (λ (x : Option Open). Meet (the_open x).locks (the_open (anew b)).locks → ⊥) (sym (one_same s.open_of i o a e))
            (subst (λ (x : Option Open). Meet u.locks (the_open x).locks → ⊥) (sym (one_other s.open_of i o b m)) (p.apart b js m)))
            (λ l. by_session b i
            (λ e. subst (λ (x : Option Open). Meet (the_open (anew a)).locks (the_open x).locks → ⊥) (sym (one_same s.open_of i o b e))
            (subst (λ (x : Option Open). Meet (the_open x).locks u.locks → ⊥) (sym (one_other s.open_of i o a l)) (λ h. p.apart a is l (meet_sym (locks_of s a) u.locks h))))
            (λ m. subst (λ (x : Option Open). Meet (the_open x).locks (the_open (anew b)).locks → ⊥) (sym (one_other s.open_of i o a l))
            (subst (λ (x : Option Open). Meet (locks_of s a) (the_open x).locks → ⊥) (sym (one_other s.open_of i o b m)) (good.apart a b is js n))));
        stored = subst (λ (x : ℕ → List RowChange). IsStored 64 x base.rows rows) (kept_anew s.open_of i o (changes_of u.kept) refl) p.stored;
        each = λ j js. after_all s.open_of i o (λ (x : Option Open). TxnGood base (the_open x)) j p.each_new (λ n. p.each_old j js n);
        view = λ q column.
            let here : stored_number view q column +ℤ paid_in q column (now s i).kept ≡ (value base.schema base.rows q column +ℤ all_paid s.open_of q column) +ℤ paid_in q column u.kept = p.sums q column in
            let sum : all_paid anew q column +ℤ paid_in q column (now s i).kept ≡ all_paid s.open_of q column +ℤ paid_in q column u.kept = over_set (λ (x : Option Open). paid_in q column (the_open x).kept) s.open_of i o p.one in
            omega (arith, ints);
        present = λ q e j js. after_all s.open_of i o (λ (x : Option Open). PaysOn q (the_open x).kept → ⊥) j (p.present_new q e) (λ n. p.present_old q e j js n);
        low = λ q column. (bounded q column).0;
        high = λ q column. (bounded q column).1;
        history = p.entered;
      }
