-- Each effect of a session keeps what holds.
use Rattle.std.specs.Prelude.{◌≡◌, ◌≢◌, ℕ, ◌+◌, ◌<◌, ◌≤◌, cond, eqb, true, false, List, [], ◌∷◌, ◌++◌, length, ℤ, pos, ◌+ℤ◌, ◌≤ℤ◌, neg_ℤ, Option, Some, None}
use mathlib.Core.Path.{refl, sym, ap, subst, ◌∙◌}
use mathlib.Core.Logic.{inl, inr}
use Rattle.std.proofs.Common.{arith, eqb-true}
use Rattle.std.proofs.lemmas.Bool.{cases_lt}
use Rattle.std.proofs.lemmas.Int.{ints}
use Rattle.std.proofs.lemmas.Option.{none-some}
use Rattle.std.proofs.lemmas.List.{get_or_past}
use Rattle.std.specs.FinMap.{get}
use Rattle.iv_types.specs.declared.lock.GroupDelta.{GroupDelta}
use Rattle.iv_types.specs.declared.lock.LockMode.TheVariants.{Exclusive, Increment}
use Rattle.iv_types.specs.declared.lock.Want.{Want}
use Rattle.iv_types.specs.Encoding.{IsHuge}
use Rattle.table_laws.specs.Place.{Place}
use Rattle.table_laws.specs.Table.{write}
use Rattle.table_laws.specs.Kept.{Touches, redo, AreTrue, with_kept, IsStored}
use Rattle.table_laws.proofs.Place.{place_cmp_total, place_cmp-IsAntisymmetric}
use Rattle.table_laws.proofs.Stored.{kept_other, stored_write, stored_undo, stored_commit}
use Rattle.iv_meaning.specs.Schema.{Schema}
use Rattle.iv_meaning.specs.Database.{Row, Rows, Database}
use Rattle.iv_meaning.specs.History.{Entry}
use Rattle.iv_meaning.specs.Escrow.{IsSession, IsAllowed, lo, hi, inf, sup, with_increment, Account}
use Rattle.txn_machine.specs.Locks.{Meet, IsInTheWay}
use Rattle.txn_machine.specs.Deltas.{RowChange, due, place_of, is_for, worth, columns_of, negated}
use Rattle.txn_machine.specs.Keeping.{KeptStep, Put, Pay, changes_of, increments, IsSettled, Open}
use Rattle.txn_machine.specs.Stored.{ViewRows, stored_number, add_to, zeros}
use Rattle.txn_machine.specs.Ghosts.{Holds}
use Rattle.txn_machine.specs.Store.{Store, Views, committed, now, changes_by, locks_of, account, with_txn, change_at, notes_before, wrote, paid_first, undone, entry_changes, with_entry}
use Rattle.txn_machine.specs.ViewLaws.{AreSound, IsRight, ViewLaws}
use Rattle.txn_machine.proofs.Basics.{meet_sym, meet_append, meet_none, holds_meet, holds_more, read_more}
use Rattle.txn_machine.proofs.Agreeing.{by_place, agree_back, agree_redo, agree_first, written_at, written_other}
use Rattle.txn_machine.proofs.Columns.{adds, is_for_here, is_for_other, get_or-zeros, number_in_row, stored_add, adds-negated, added_there, paid_in, owes_in, paid_in_pay, settled_sum}
use Rattle.txn_machine.proofs.Bounds.{all_low, all_high, signs, lo_more, hi_more, lo_zero, hi_zero, huge_inside, inf_with, sup_with, over_zero}
use Rattle.txn_machine.proofs.Entered.{IsProper, AreProper, sound_after, right_next, IsHistoryOf}
use Rattle.txn_machine.proofs.Good.{HoldsFor, HeldKept, PaysOn, key_held, pays_held, the_open, ToldKept, TxnGood, all_paid, all_lo, all_hi, Good, value-redo, base_sound, own_sound, stored_sound, frame_at, read_at, assembled}

pub shift : (a b : ℤ) → IsHuge a → a ≡ b → IsHuge b
shift a b h e = subst IsHuge e h

kept_same : (kept : ℕ → List RowChange) (i : ℕ) (cs : List RowChange) → cs ≡ kept i → ◌≡◌ {A = ℕ → List RowChange} kept (with_kept kept i cs)
kept_same kept i cs e = λ x j. one j x
  where
    one : (j : ℕ) → kept j ≡ with_kept kept i cs j
    one j = elim (eqb j i) as (λ b. eqb j i ≡ b → kept j ≡ cond b cs (kept j)) [ true ↦ λ k. ap kept (eqb-true j i k) ∙ sym e | false ↦ λ k. refl ] refl

pub by_less : {P : Type 0} (m n : ℕ) → (m < n → P) → (n ≤ m → P) → P
by_less m n f g = elim (cases_lt m n) [ inl h ↦ f h | inr h ↦ g h ]

-- more locks hold what was held
pub for_more : (objects : Schema) (ls ms : List Want) (c : RowChange) → HoldsFor objects ms c → HoldsFor objects (ls ++ ms) c
for_more objects ls ms c h = record {
  key = holds_more Exclusive ls ms c.key.0 c.key.1 h.key;
  before = λ n k e. holds_more Exclusive ls ms n k (h.before n k e);
  after = λ n k e. holds_more Exclusive ls ms n k (h.after n k e);
  needs = λ n k e. read_more ls ms n k (h.needs n k e);
}

pub held_more : (objects : Schema) (ls ms : List Want) (ks : List KeptStep) → HeldKept objects ms ks → HeldKept objects (ls ++ ms) ks
held_more objects ls ms [] h = tt
held_more objects ls ms (Put c ds ∷ ks) h = (for_more objects ls ms c h.0, held_more objects ls ms ks h.1)
held_more objects ls ms (Pay d ∷ ks) h = (holds_more Increment ls ms d.view d.group h.0, held_more objects ls ms ks h.1)

-- one more pay lowers the least sum, if it does anything
lo_pay : (p : Place) (column : ℕ) (d : GroupDelta) (ks : List KeptStep) → lo (increments p column (Pay d ∷ ks)) ≤ℤ lo (increments p column ks)
lo_pay p column d ks = elim (is_for p d) as (λ b. lo (cond b (worth column d ∷ increments p column ks) (increments p column ks)) ≤ℤ lo (increments p column ks)) [
  | true ↦ lo_more (worth column d) (increments p column ks)
  | false ↦ omega (arith, ints)
]

hi_pay : (p : Place) (column : ℕ) (d : GroupDelta) (ks : List KeptStep) → hi (increments p column ks) ≤ℤ hi (increments p column (Pay d ∷ ks))
hi_pay p column d ks = elim (is_for p d) as (λ b. hi (increments p column ks) ≤ℤ hi (cond b (worth column d ∷ increments p column ks) (increments p column ks))) [
  | true ↦ hi_more (worth column d) (increments p column ks)
  | false ↦ omega (arith, ints)
]

pub pays_none : (objects : Schema) (locks : List Want) (p : Place) (column : ℕ) (ks : List KeptStep) → HeldKept objects locks ks → (Holds locks Increment p.0 p.1 → ⊥) → paid_in p column ks ≡ pos 0
pays_none objects locks p column [] h n = refl
pays_none objects locks p column (Put c ds ∷ ks) h n = pays_none objects locks p column ks h.1 n
pays_none objects locks p column (Pay d ∷ ks) h n =
    let none : adds p column d ≡ pos 0 = ap (λ b. cond b (worth column d) (pos 0)) (is_for_other p d (λ e. n (subst (λ (x : Place). Holds locks Increment x.0 x.1) (sym e) h.0))) in
    let rest : paid_in p column ks ≡ pos 0 = pays_none objects locks p column ks h.1 n in
    let one : paid_in p column (Pay d ∷ ks) ≡ paid_in p column ks +ℤ adds p column d = paid_in_pay p column d ks in
    omega (arith, ints)

module _ (views : Views) (value : Schema → Rows → Place → ℕ → ℤ) (laws : ViewLaws views value) where
  abbrev Good' : Database → Store → Type 0
  Good' = Good views value laws

  abbrev Txn' : Database → Open → Type 0
  Txn' = TxnGood views value laws

  abbrev lo_of : (ℕ → Option Open) → Place → ℕ → ℤ
  lo_of = all_lo views value laws

  abbrev hi_of : (ℕ → Option Open) → Place → ℕ → ℤ
  hi_of = all_hi views value laws

  abbrev paid_of : (ℕ → Option Open) → Place → ℕ → ℤ
  paid_of = all_paid views value laws

  module _ (base : Database) (s : Store) (good : Good' base s) where
    abbrev worth_of : Place → ℕ → ℤ
    worth_of p column = value base.schema base.rows p column

    -- the increments stay
    same_bounds : (i : ℕ) (ks : List KeptStep) → ((p : Place) (column : ℕ) → increments p column ks ≡ increments p column (now s i).kept)
        → (p : Place) (column : ℕ) (x y : ℤ) → x +ℤ lo (increments p column (now s i).kept) ≡ lo_of s.open_of p column +ℤ lo (increments p column ks)
        → y +ℤ hi (increments p column (now s i).kept) ≡ hi_of s.open_of p column +ℤ hi (increments p column ks) → x ≤ℤ pos 0 → pos 0 ≤ℤ y
        → IsHuge (worth_of p column +ℤ x) × IsHuge (worth_of p column +ℤ y)
    same_bounds i ks e p column x y ex ey nx py =
        let sl : lo (increments p column ks) ≡ lo (increments p column (now s i).kept) = ap lo (e p column) in
        let sh : hi (increments p column ks) ≡ hi (increments p column (now s i).kept) = ap hi (e p column) in
        let ax : lo_of s.open_of p column ≡ x = omega (arith, ints) in
        let ay : hi_of s.open_of p column ≡ y = omega (arith, ints) in
        (subst (λ z. IsHuge (worth_of p column +ℤ z)) ax (good.low p column), subst (λ z. IsHuge (worth_of p column +ℤ z)) ay (good.high p column))

    module _ (i : ℕ) (is : IsSession i) where
      -- what is kept stays
      same_kept : (o : Option Open) → (the_open o).kept ≡ (now s i).kept → ((j : ℕ) → IsSession j → j ≢ i → Meet (the_open o).locks (locks_of s j) → ⊥)
          → Txn' base (the_open o) → Good' base (with_txn s i o)
      same_kept o e apart new = assembled views value laws s i o base base s.rows s.view s.history s.mark good (record {
        one = is;
        sound = good.sound;
        apart = apart;
        stored = subst (λ (x : ℕ → List RowChange). IsStored 64 x base.rows s.rows) (kept_same (changes_by s) i (changes_of (the_open o).kept) (ap changes_of e)) good.stored;
        each_new = new;
        each_old = λ j js n. good.each j js;
        sums = λ p column.
            let old : stored_number s.view p column ≡ worth_of p column +ℤ paid_of s.open_of p column = good.view p column in
            let same : paid_in p column (the_open o).kept ≡ paid_in p column (now s i).kept = ap (paid_in p column) e in
            omega (arith, ints);
        present_new = λ p a. subst (λ ks. PaysOn p ks → ⊥) (sym e) (good.present p a i is);
        present_old = λ p a j js n. good.present p a j js;
        bounds = same_bounds i (the_open o).kept (λ p column. ap (increments p column) e);
        entered = good.history;
      })

      -- nothing is kept and nothing is locked
      pub leaves : (o : Option Open) → (the_open o).kept ≡ [] → (the_open o).locks ≡ [] → (the_open o).owed ≡ [] → (now s i).kept ≡ [] → Good' base (with_txn s i o)
      leaves o none no_locks no_owed kept = same_kept o (none ∙ sym kept)
          (λ j js n m. meet_none (locks_of s j) (subst (λ ls. Meet ls (locks_of s j)) no_locks m))
          (record {
            held = subst (HeldKept base.schema (the_open o).locks) (sym none) tt;
            proper = subst (λ ks. AreProper base.schema (changes_of ks)) (sym none) tt;
            told = subst (ToldKept views value laws base.schema base.rows) (sym none) tt;
            settled = subst (λ ks. IsSettled ks (the_open o).owed) (sym none) no_owed;
          })

      -- a part of the transaction that is not kept, owed or locked
      pub stays : (u : Open) → u.kept ≡ (now s i).kept → u.owed ≡ (now s i).owed → u.locks ≡ (now s i).locks → Good' base (with_txn s i (Some u))
      stays u kept owed locks =
          let g = good.each i is in
          same_kept (Some u) kept
          (λ j js n m. good.apart i j is js (λ e. n (sym e)) (subst (λ ls. Meet ls (locks_of s j)) locks m))
          (record {
            held = subst (λ ks. HeldKept base.schema u.locks ks) (sym kept) (subst (λ ls. HeldKept base.schema ls (now s i).kept) (sym locks) g.held);
            proper = subst (λ ks. AreProper base.schema (changes_of ks)) (sym kept) g.proper;
            told = subst (ToldKept views value laws base.schema base.rows) (sym kept) g.told;
            settled = subst (λ ks. IsSettled ks u.owed) (sym kept) (subst (IsSettled (now s i).kept) (sym owed) g.settled);
          })

      pub takes : (wants : List Want) → ((j : ℕ) → IsInTheWay (locks_of s) i wants j → ⊥) → Good' base (with_txn s i (Some (record (now s i) { locks = wants ++ (now s i).locks })))
      takes wants free =
          let t : Open = now s i in
          let g = good.each i is in
          same_kept (Some (record t { locks = wants ++ t.locks })) refl
          (λ j js n m. elim (meet_append wants t.locks (locks_of s j) m) [
            | inl h ↦ free j (record { of_session = js; not_itself = n; meet = meet_sym wants (locks_of s j) h })
            | inr h ↦ good.apart i j is js (λ e. n (sym e)) h
          ])
          (record { held = held_more base.schema wants t.locks t.kept g.held; proper = g.proper; told = g.told; settled = g.settled })

      -- no other session changed a key that this one holds
      alone_at : (key : Place) → Holds (locks_of s i) Exclusive key.0 key.1 → (j : ℕ) → IsSession j → j ≢ i → Touches key (changes_by s j) → ⊥
      alone_at key h j js n t = good.apart i j is js (λ e. n (sym e)) (holds_meet Exclusive Exclusive (λ g. g) (locks_of s i) (locks_of s j) key.0 key.1 h (key_held base.schema (locks_of s j) key (now s j).kept (good.each j js).held t))

      pub writes : (key : Place) (new : Option Row) → (now s i).owed ≡ [] → HoldsFor base.schema (locks_of s i) (change_at s key new) → IsProper base.schema (change_at s key new)
          → Good' base (wrote s i (now s i) (change_at s key new) (views.owed base.schema s.rows (change_at s key new)))
      writes key new none holds proper =
          let t : Open = now s i in
          let g = good.each i is in
          let c : RowChange = change_at s key new in
          let ds : List GroupDelta = views.owed base.schema s.rows c in
          let own : Rows = redo (changes_by s i) base.rows in
          let found : get s.rows key ≡ get own key = agree_first base.schema s.rows own key (read_at views value laws base s good i is key.0 key.1 (inr holds.key)) in
          let right_stored : IsRight base.schema s.rows c = record {
            sound = stored_sound views value laws base s good;
            after = sound_after base.schema s.rows c (stored_sound views value laws base s good) proper;
            told = refl;
          } in
          let right_own : IsRight base.schema own c = record {
            sound = own_sound views value laws base s good i is;
            after = sound_after base.schema own c (own_sound views value laws base s good i is) proper;
            told = found;
          } in
          assembled views value laws s i (Some (record t { kept = Put c ds ∷ t.kept; owed = ds; back = 0 })) base base (write s.rows key new) s.view s.history s.mark good (record {
            one = is;
            sound = good.sound;
            apart = λ j js n. good.apart i j is js (λ e. n (sym e));
            stored = stored_write place_cmp_total place_cmp-IsAntisymmetric 64 (changes_by s) base.rows s.rows good.stored i is key new (alone_at key holds.key);
            each_new = record {
              held = (holds, g.held);
              proper = (proper, g.proper);
              told = (laws.local base.schema s.rows own c right_stored right_own (λ n k h. read_at views value laws base s good i is n k (holds.needs n k h)), g.told);
              settled = (refl, subst (IsSettled t.kept) none g.settled);
            };
            each_old = λ j js n. good.each j js;
            sums = λ p column. let old : stored_number s.view p column ≡ worth_of p column +ℤ paid_of s.open_of p column = good.view p column in omega (arith, ints);
            present_new = λ p a. good.present p a i is;
            present_old = λ p a j js n. good.present p a j js;
            bounds = same_bounds i (Put c ds ∷ t.kept) (λ p column. refl);
            entered = good.history;
          })

      undoes_put : (c : RowChange) (ds : List GroupDelta) (ks : List KeptStep) → (now s i).kept ≡ Put c ds ∷ ks → Good' base (undone s i (now s i) (Put c ds ∷ ks))
      undoes_put c ds ks e =
          let t : Open = now s i in
          let g = good.each i is in
          let held : HeldKept base.schema t.locks (Put c ds ∷ ks) = subst (HeldKept base.schema t.locks) e g.held in
          let proper : AreProper base.schema (changes_of (Put c ds ∷ ks)) = subst (λ x. AreProper base.schema (changes_of x)) e g.proper in
          let told : ToldKept views value laws base.schema base.rows (Put c ds ∷ ks) = subst (ToldKept views value laws base.schema base.rows) e g.told in
          let settled : IsSettled (Put c ds ∷ ks) t.owed = subst (λ x. IsSettled x t.owed) e g.settled in
          assembled views value laws s i (Some (record t { kept = ks; owed = []; back = 0; notes = notes_before (length ks) t.notes })) base base (write s.rows c.key c.before) s.view s.history s.mark good (record {
            one = is;
            sound = good.sound;
            apart = λ j js n. good.apart i j is js (λ f. n (sym f));
            stored = stored_undo place_cmp_total place_cmp-IsAntisymmetric 64 (changes_by s) base.rows s.rows good.stored i is c (changes_of ks) (ap changes_of e);
            each_new = record { held = held.1; proper = proper.1; told = told.1; settled = settled.1 };
            each_old = λ j js n. good.each j js;
            sums = λ p column.
                let old : stored_number s.view p column ≡ worth_of p column +ℤ paid_of s.open_of p column = good.view p column in
                let same : paid_in p column t.kept ≡ paid_in p column ks = ap (paid_in p column) e in
                omega (arith, ints);
            present_new = λ p a. subst (λ x. PaysOn p x → ⊥) e (good.present p a i is);
            present_old = λ p a j js n. good.present p a j js;
            bounds = same_bounds i ks (λ p column. sym (ap (increments p column) e));
            entered = good.history;
          })

      undoes_pay : (d : GroupDelta) (ks : List KeptStep) → (now s i).kept ≡ Pay d ∷ ks → Good' base (undone s i (now s i) (Pay d ∷ ks))
      undoes_pay d ks e =
          let t : Open = now s i in
          let g = good.each i is in
          let held : HeldKept base.schema t.locks (Pay d ∷ ks) = subst (HeldKept base.schema t.locks) e g.held in
          assembled views value laws s i (Some (record t { kept = ks; owed = d ∷ t.owed; back = t.back + 1 })) base base s.rows (add_to s.view (negated d)) s.history s.mark good (record {
            one = is;
            sound = good.sound;
            apart = λ j js n. good.apart i j is js (λ f. n (sym f));
            stored = subst (λ (x : ℕ → List RowChange). IsStored 64 x base.rows s.rows) (kept_same (changes_by s) i (changes_of ks) (sym (ap changes_of e))) good.stored;
            each_new = record {
              held = held.1;
              proper = subst (λ x. AreProper base.schema (changes_of x)) e g.proper;
              told = subst (ToldKept views value laws base.schema base.rows) e g.told;
              settled = subst (λ x. IsSettled x t.owed) e g.settled;
            };
            each_old = λ j js n. good.each j js;
            sums = λ p column.
                let old : stored_number s.view p column ≡ worth_of p column +ℤ paid_of s.open_of p column = good.view p column in
                let same : paid_in p column t.kept ≡ paid_in p column (Pay d ∷ ks) = ap (paid_in p column) e in
                let one : paid_in p column (Pay d ∷ ks) ≡ paid_in p column ks +ℤ adds p column d = paid_in_pay p column d ks in
                let added : stored_number (add_to s.view (negated d)) p column ≡ stored_number s.view p column +ℤ adds p column (negated d) = stored_add s.view (negated d) p column in
                let turned : adds p column (negated d) ≡ neg_ℤ (adds p column d) = adds-negated p column d in
                omega (arith, ints);
            present_new = λ p a h. subst (λ x. PaysOn p x → ⊥) e (good.present p (added_there s.view (negated d) p a).0 i is) (inr h);
            present_old = λ p a j js n. good.present p (added_there s.view (negated d) p a).0 j js;
            bounds = λ p column x y ex ey nx py.
                let sl : lo (increments p column t.kept) ≡ lo (increments p column (Pay d ∷ ks)) = ap (λ z. lo (increments p column z)) e in
                let sh : hi (increments p column t.kept) ≡ hi (increments p column (Pay d ∷ ks)) = ap (λ z. hi (increments p column z)) e in
                let l : lo (increments p column (Pay d ∷ ks)) ≤ℤ lo (increments p column ks) = lo_pay p column d ks in
                let h : hi (increments p column ks) ≤ℤ hi (increments p column (Pay d ∷ ks)) = hi_pay p column d ks in
                let ln : lo_of s.open_of p column ≤ℤ pos 0 = all_low (λ j. increments p column (now s j).kept) in
                let hp : pos 0 ≤ℤ hi_of s.open_of p column = all_high (λ j. increments p column (now s j).kept) in (
                  huge_inside (worth_of p column +ℤ lo_of s.open_of p column) (worth_of p column +ℤ x) (worth_of p column +ℤ hi_of s.open_of p column) (good.low p column) (omega (arith, ints)) (omega (arith, ints)) (good.high p column),
                  huge_inside (worth_of p column +ℤ lo_of s.open_of p column) (worth_of p column +ℤ y) (worth_of p column +ℤ hi_of s.open_of p column) (good.low p column) (omega (arith, ints)) (omega (arith, ints)) (good.high p column),
                );
            entered = good.history;
          })

      pub undoes : (ks : List KeptStep) → (now s i).kept ≡ ks → Good' base (undone s i (now s i) ks)
      undoes [] e = good
      undoes (Put c ds ∷ ks) e = undoes_put c ds ks e
      undoes (Pay d ∷ ks) e = undoes_pay d ks e

      -- the bounds of a place on which one more delta is paid
      paid_bounds : (d : GroupDelta) (column : ℕ) → (column < length (columns_of d) → IsAllowed (account s (value base.schema base.rows) (place_of d) column) i (worth column d))
          → (x y : ℤ) → x +ℤ lo (increments (place_of d) column (now s i).kept) ≡ lo_of s.open_of (place_of d) column +ℤ lo (worth column d ∷ increments (place_of d) column (now s i).kept)
          → y +ℤ hi (increments (place_of d) column (now s i).kept) ≡ hi_of s.open_of (place_of d) column +ℤ hi (worth column d ∷ increments (place_of d) column (now s i).kept)
          → IsHuge (worth_of (place_of d) column +ℤ x) × IsHuge (worth_of (place_of d) column +ℤ y)
      paid_bounds d column allowed x y ex ey =
          let p : Place = place_of d in
          let a : Account = account s (value base.schema base.rows) p column in
          let xs : List ℤ = increments p column (now s i).kept in
          by_less column (length (columns_of d))
          (λ below.
          let may : IsAllowed a i (worth column d) = allowed below in
          let il : inf (with_increment a i (worth column d)) +ℤ lo xs ≡ (worth_of p column +ℤ lo_of s.open_of p column) +ℤ lo (worth column d ∷ xs) = inf_with a i (worth column d) is in
          let ih : sup (with_increment a i (worth column d)) +ℤ hi xs ≡ (worth_of p column +ℤ hi_of s.open_of p column) +ℤ hi (worth column d ∷ xs) = sup_with a i (worth column d) is in (
            shift (inf (with_increment a i (worth column d))) (worth_of p column +ℤ x) may.inf (omega (arith, ints)),
            shift (sup (with_increment a i (worth column d))) (worth_of p column +ℤ y) may.sup (omega (arith, ints)),
          ))
          (λ past.
          let none : worth column d ≡ pos 0 = get_or_past (columns_of d) column (pos 0) past in
          let l : lo (worth column d ∷ xs) ≡ lo xs = lo_zero (worth column d) xs none in
          let h : hi (worth column d ∷ xs) ≡ hi xs = hi_zero (worth column d) xs none in (
            shift (worth_of p column +ℤ lo_of s.open_of p column) (worth_of p column +ℤ x) (good.low p column) (omega (arith, ints)),
            shift (worth_of p column +ℤ hi_of s.open_of p column) (worth_of p column +ℤ y) (good.high p column) (omega (arith, ints)),
          ))

      pub pays : (d : GroupDelta) (ds : List GroupDelta) → (now s i).owed ≡ d ∷ ds → get s.view (place_of d) ≢ None → Holds (locks_of s i) Increment d.view d.group
          → ((column : ℕ) → column < length (columns_of d) → IsAllowed (account s (value base.schema base.rows) (place_of d) column) i (worth column d))
          → Good' base (paid_first s i (now s i) (d ∷ ds))
      pays d ds e there holds allowed =
          let t : Open = now s i in
          let g = good.each i is in
          assembled views value laws s i (Some (record t { kept = Pay d ∷ t.kept; owed = ds })) base base s.rows (add_to s.view d) s.history s.mark good (record {
            one = is;
            sound = good.sound;
            apart = λ j js n. good.apart i j is js (λ f. n (sym f));
            stored = subst (λ (x : ℕ → List RowChange). IsStored 64 x base.rows s.rows) (kept_same (changes_by s) i (changes_of t.kept) refl) good.stored;
            each_new = record { held = (holds, g.held); proper = g.proper; told = g.told; settled = subst (IsSettled t.kept) e g.settled };
            each_old = λ j js n. good.each j js;
            sums = λ p column.
                let old : stored_number s.view p column ≡ worth_of p column +ℤ paid_of s.open_of p column = good.view p column in
                let one : paid_in p column (Pay d ∷ t.kept) ≡ paid_in p column t.kept +ℤ adds p column d = paid_in_pay p column d t.kept in
                let added : stored_number (add_to s.view d) p column ≡ stored_number s.view p column +ℤ adds p column d = stored_add s.view d p column in
                omega (arith, ints);
            present_new = λ p a h. elim h [ inl k ↦ (added_there s.view d p a).1 k | inr k ↦ good.present p (added_there s.view d p a).0 i is k ];
            present_old = λ p a j js n. good.present p (added_there s.view d p a).0 j js;
            bounds = λ p column x y ex ey nx py. by_place p (place_of d)
                (λ k. subst (λ (q : Place). IsHuge (worth_of q column +ℤ x) × IsHuge (worth_of q column +ℤ y)) (sym k)
                (let same : increments (place_of d) column (Pay d ∷ t.kept) ≡ worth column d ∷ increments (place_of d) column t.kept = ap (λ b. cond b (worth column d ∷ increments (place_of d) column t.kept) (increments (place_of d) column t.kept)) (is_for_here (place_of d) d refl) in
                paid_bounds d column (allowed column) x y
                (subst (λ (z : List ℤ). x +ℤ lo (increments (place_of d) column t.kept) ≡ lo_of s.open_of (place_of d) column +ℤ lo z) same (subst (λ (q : Place). x +ℤ lo (increments q column t.kept) ≡ lo_of s.open_of q column +ℤ lo (increments q column (Pay d ∷ t.kept))) k ex))
                (subst (λ (z : List ℤ). y +ℤ hi (increments (place_of d) column t.kept) ≡ hi_of s.open_of (place_of d) column +ℤ hi z) same (subst (λ (q : Place). y +ℤ hi (increments q column t.kept) ≡ hi_of s.open_of q column +ℤ hi (increments q column (Pay d ∷ t.kept))) k ey))))
                (λ n.
                let same : increments p column (Pay d ∷ t.kept) ≡ increments p column t.kept = ap (λ b. cond b (worth column d ∷ increments p column t.kept) (increments p column t.kept)) (is_for_other p d n) in
                let sl : lo (increments p column (Pay d ∷ t.kept)) ≡ lo (increments p column t.kept) = ap lo same in
                let sh : hi (increments p column (Pay d ∷ t.kept)) ≡ hi (increments p column t.kept) = ap hi same in (
                  shift (worth_of p column +ℤ lo_of s.open_of p column) (worth_of p column +ℤ x) (good.low p column) (omega (arith, ints)),
                  shift (worth_of p column +ℤ hi_of s.open_of p column) (worth_of p column +ℤ y) (good.high p column) (omega (arith, ints)),
                ));
            entered = good.history;
          })

      -- ---- commit

      module _ (none : (now s i).owed ≡ []) where
        abbrev own_rows : Rows
        own_rows = redo (changes_by s i) base.rows

        abbrev new_base : Database
        new_base = record base { number = base.number + 1; rows = own_rows }

        stored_now : IsStored 64 (with_kept (changes_by s) i []) own_rows s.rows
        stored_now = stored_commit place_cmp_total place_cmp-IsAntisymmetric 64 (changes_by s) base.rows s.rows good.stored i is

        new_sound : AreSound base.schema own_rows
        new_sound = own_sound views value laws base s good i is

        frame_told : (j : ℕ) → IsSession j → j ≢ i → (ks : List KeptStep) → HeldKept base.schema (locks_of s j) ks → AreProper base.schema (changes_of ks)
            → AreTrue base.rows (changes_of ks) → AreTrue own_rows (changes_of ks) → ToldKept views value laws base.schema base.rows ks → ToldKept views value laws base.schema own_rows ks
        frame_told j js n [] h p t u k = tt
        frame_told j js n (Put c ds ∷ ks) h p t u k = (
          k.0 ∙ laws.local base.schema (redo (changes_of ks) base.rows) (redo (changes_of ks) own_rows) c
              (right_next base.schema base.rows c (changes_of ks) (base_sound views value laws base s good) p t)
              (right_next base.schema own_rows c (changes_of ks) new_sound p u)
              (λ number key m. agree_redo base.schema number key (changes_of ks) base.rows own_rows (agree_back base.schema number key own_rows base.rows (frame_at views value laws base s good i j is js (λ e. n (sym e)) number key (h.0.needs number key m)))),
          frame_told j js n ks h.1 p.1 t.1 u.1 k.1,
        )
        frame_told j js n (Pay d ∷ ks) h p t u k = frame_told j js n ks h.1 p t u k

        frame_txn : (j : ℕ) → IsSession j → j ≢ i → Txn' new_base (now s j)
        frame_txn j js n =
            let g = good.each j js in
            record {
              held = g.held;
              proper = g.proper;
              told = frame_told j js n (now s j).kept g.held g.proper (good.stored.told j js)
                  (subst (λ (x : List RowChange). AreTrue own_rows x) (kept_other (changes_by s) i [] j n) (stored_now.told j js)) g.told;
              settled = g.settled;
            }

        abbrev entry_made : Entry
        entry_made = record { number = (committed s).number + 1; session = i; kept = entry_changes (now s i).kept }

        pub commits : IsHistoryOf s.origin (s.history ++ entry_made ∷ []) → Good' new_base (with_txn (with_entry s i (entry_changes (now s i).kept)) i None)
        commits history =
            let t : Open = now s i in
            let g = good.each i is in
            assembled views value laws s i None base new_base s.rows s.view (s.history ++ entry_made ∷ []) s.mark good (record {
              one = is;
              sound = new_sound;
              apart = λ j js n m. meet_none (locks_of s j) m;
              stored = stored_now;
              each_new = record { held = tt; proper = tt; told = tt; settled = refl };
              each_old = frame_txn;
              sums = λ p column.
                  let old : stored_number s.view p column ≡ worth_of p column +ℤ paid_of s.open_of p column = good.view p column in
                  let settled : paid_in p column t.kept +ℤ due p column [] ≡ owes_in p column t.kept = settled_sum p column t.kept [] (subst (IsSettled t.kept) none g.settled) in
                  let redone : value base.schema own_rows p column ≡ worth_of p column +ℤ owes_in p column t.kept = value-redo views value laws base.schema base.rows t.kept p column (base_sound views value laws base s good) g.proper (good.stored.told i is) g.told in
                  omega (arith, ints);
              present_new = λ p a h. h;
              present_old = λ p a j js n. good.present p a j js;
              bounds = λ p column x y ex ey nx py.
                  let settled : paid_in p column t.kept +ℤ due p column [] ≡ owes_in p column t.kept = settled_sum p column t.kept [] (subst (IsSettled t.kept) none g.settled) in
                  let redone : value base.schema own_rows p column ≡ worth_of p column +ℤ owes_in p column t.kept = value-redo views value laws base.schema base.rows t.kept p column (base_sound views value laws base s good) g.proper (good.stored.told i is) g.told in
                  let sl : lo (increments p column t.kept) ≤ℤ paid_in p column t.kept = (signs (increments p column t.kept)).1 in
                  let sh : paid_in p column t.kept ≤ℤ hi (increments p column t.kept) = (signs (increments p column t.kept)).3 in (
                    huge_inside (worth_of p column +ℤ lo_of s.open_of p column) (value base.schema own_rows p column +ℤ x) (worth_of p column +ℤ hi_of s.open_of p column) (good.low p column) (omega (arith, ints)) (omega (arith, ints)) (good.high p column),
                    huge_inside (worth_of p column +ℤ lo_of s.open_of p column) (value base.schema own_rows p column +ℤ y) (worth_of p column +ℤ hi_of s.open_of p column) (good.low p column) (omega (arith, ints)) (omega (arith, ints)) (good.high p column),
                  );
              entered = history;
            })

    -- ---- stored rows that say the same

    view_anew : (view : ViewRows) → ((p : Place) (column : ℕ) → stored_number view p column ≡ stored_number s.view p column)
        → ((p : Place) → get view p ≡ None → (i : ℕ) → IsSession i → PaysOn p (now s i).kept → ⊥) → Good' base (record s { view = view })
    view_anew view same present = record {
      sound = good.sound;
      apart = good.apart;
      stored = good.stored;
      each = good.each;
      view = λ p column. same p column ∙ good.view p column;
      present = present;
      low = good.low;
      high = good.high;
      history = good.history;
    }

    pub ghosts : (place : Place) (columns : ℕ) → get s.view place ≡ None → Good' base (record s { view = write s.view place (Some (zeros columns)) })
    ghosts place columns none = view_anew (write s.view place (Some (zeros columns)))
        (λ p column. by_place p place
        (λ e. ap (number_in_row column) (written_at s.view place (Some (zeros columns)) p e) ∙ (get_or-zeros columns column ∙ sym (ap (number_in_row column) (ap (get s.view) e ∙ none))))
        (λ n. ap (number_in_row column) (written_other s.view place (Some (zeros columns)) p n)))
        (λ p a i is. by_place p place
        (λ e. absurd (none-some (zeros columns) (sym a ∙ written_at s.view place (Some (zeros columns)) p e)))
        (λ n. good.present p (sym (written_other s.view place (Some (zeros columns)) p n) ∙ a) i is))

    pub cleans : (place : Place) → worth_of place 0 ≡ pos 0 → ((i : ℕ) → IsSession i → Holds (locks_of s i) Increment place.0 place.1 → ⊥) → Good' base (record s { view = write s.view place None })
    cleans place zero free =
        let was : (column : ℕ) → stored_number s.view place column ≡ pos 0 = λ column.
        let kept : stored_number s.view place column ≡ worth_of place column +ℤ paid_of s.open_of place column = good.view place column in
        let none : worth_of place column ≡ pos 0 = laws.none base.schema base.rows place zero column in
        let idle_ : paid_of s.open_of place column ≡ pos 0 = over_zero (λ j. paid_in place column (now s j).kept) (λ j js. pays_none base.schema (locks_of s j) place column (now s j).kept (good.each j js).held (free j js)) in
        omega (arith, ints) in
        view_anew (write s.view place None)
        (λ p column. by_place p place
        (λ e. ap (number_in_row column) (written_at s.view place None p e) ∙ sym (ap (λ x. stored_number s.view x column) e ∙ was column))
        (λ n. ap (number_in_row column) (written_other s.view place None p n)))
        (λ p a i is. by_place p place
        (λ e h. free i is (pays_held base.schema (locks_of s i) place (now s i).kept (good.each i is).held (subst (λ (x : Place). PaysOn x (now s i).kept) e h)))
        (λ n. good.present p (sym (written_other s.view place None p n) ∙ a) i is))

    pub prunes : (mark : ℕ) → Good' base (record s { mark = mark })
    prunes mark = record {
      sound = good.sound;
      apart = good.apart;
      stored = good.stored;
      each = good.each;
      view = good.view;
      present = good.present;
      low = good.low;
      high = good.high;
      history = good.history;
    }
