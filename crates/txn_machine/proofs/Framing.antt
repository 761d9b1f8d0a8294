-- What a session may read by its locks, no step of another session changes; and what it reads is its own.
use Rattle.std.specs.Prelude.{◌≡◌, ◌≢◌, ℕ, true, List, [], ◌∷◌, ℤ, pos, ◌+ℤ◌, Option, Some, None}
use mathlib.Core.Path.{refl, sym, ap, subst, ◌∙◌}
use mathlib.Core.Logic.{inr}
use Rattle.std.proofs.Common.{arith}
use Rattle.std.proofs.lemmas.Int.{ints}
use Rattle.iv_types.specs.declared.lock.Want.{Want}
use Rattle.iv_types.specs.declared.value.Interval.{Interval}
use Rattle.table_laws.specs.Place.{Place}
use Rattle.table_laws.specs.Kept.{redo, AreTrue}
use Rattle.table_laws.proofs.Stored.{by_session}
use Rattle.iv_meaning.specs.Schema.{Schema, Object, table, index, view, ViewTree, numbered}
use Rattle.iv_meaning.specs.Database.{Row, Rows, Database}
use Rattle.iv_types.specs.Encoding.{lies_in}
use Rattle.iv_meaning.specs.View.{object_rows, read}
use Rattle.iv_meaning.specs.Escrow.{IsSession, over_sessions}
use Rattle.txn_machine.specs.Deltas.{RowChange, rows_after, due, owed}
use Rattle.txn_machine.specs.Keeping.{KeptStep, Put, Pay, changes_of, IsSettled}
use Rattle.txn_machine.specs.Stored.{stored_number}
use Rattle.txn_machine.specs.Fresh.{fresh}
use Rattle.txn_machine.specs.Locks.{with_one}
use Rattle.txn_machine.specs.Entries.{AgreeAt}
use Rattle.txn_machine.specs.Ghosts.{MayRead, MayReadIn, the_views}
use Rattle.txn_machine.specs.Store.{Store, now, changes_by, locks_of}
use Rattle.txn_machine.specs.Steps.{FindsIn}
use Rattle.txn_machine.specs.ViewLaws.{AreSound, IsRight}
use Rattle.txn_machine.proofs.Basics.{read_meets_increment, one_same, one_other}
use Rattle.txn_machine.proofs.Agreeing.{agree_back, agree_redo, agree_first}
use Rattle.txn_machine.proofs.Columns.{paid_in, owes_in, settled_sum}
use Rattle.txn_machine.proofs.Bounds.{over_set, over_zero, over_same}
use Rattle.txn_machine.proofs.Entered.{AreProper, right_next}
use Rattle.txn_machine.proofs.Good.{HoldsFor, HeldKept, all_paid, Good, value-redo, base_sound, own_sound, stored_sound, frame_at, read_at}
use Rattle.txn_machine.proofs.Keeps.{pays_none}
use Rattle.txn_machine.proofs.Reading.{IsTableIndex, first, secondary, read_same}
use Rattle.txn_machine.proofs.Summing.{sum_law}
use Rattle.txn_machine.proofs.Looking.{local_law, view_laws}
use Rattle.txn_machine.proofs.Listing.{view_read, views_same}

abbrev pub Fine : Database → Store → Type 0
Fine = Good the_views fresh view_laws

-- what these locks may read is the same in both
pub record Framed (objects : Schema) (locks : List Want) (one other : Rows) : Type 0 where
  pub agree : (number : ℕ) (key : List ℕ) → MayRead locks number key → AgreeAt objects number key one other
  pub same : (number : ℕ) (key : List ℕ) → MayRead locks number key → (column : ℕ) → fresh objects one (number, key) column ≡ fresh objects other (number, key) column

pub framed_itself : (objects : Schema) (locks : List Want) (rows : Rows) → Framed objects locks rows rows
framed_itself objects locks rows = record {
  agree = λ n k r. record { there = λ p x h e. e; back = λ p x h e. e };
  same = λ n k r column. refl;
}

pub framed_back : (objects : Schema) (locks : List Want) (one other : Rows) → Framed objects locks one other → Framed objects locks other one
framed_back objects locks one other f = record {
  agree = λ n k r. agree_back objects n k one other (f.agree n k r);
  same = λ n k r column. sym (f.same n k r column);
}

-- a commit of another session
pub framed_commit : (base : Database) (s : Store) (good : Fine base s) (i j : ℕ) → IsSession i → IsSession j → j ≢ i → (now s i).owed ≡ [] → Framed base.schema (locks_of s j) base.rows (redo (changes_by s i) base.rows)
framed_commit base s good i j is js n none = record {
  agree = λ number key r. agree_back base.schema number key (redo (changes_by s i) base.rows) base.rows (frame_at the_views fresh view_laws base s good i j is js (λ e. n (sym e)) number key r);
  same = λ number key r column.
      let t = good.each i is in
      let p : Place = (number, key) in
      let redone : fresh base.schema (redo (changes_by s i) base.rows) p column ≡ fresh base.schema base.rows p column +ℤ owes_in p column (now s i).kept =
      value-redo the_views fresh view_laws base.schema base.rows (now s i).kept p column (base_sound the_views fresh view_laws base s good) t.proper (good.stored.told i is) t.told in
      let settled : paid_in p column (now s i).kept +ℤ due p column [] ≡ owes_in p column (now s i).kept = settled_sum p column (now s i).kept [] (subst (IsSettled (now s i).kept) none t.settled) in
      let free : paid_in p column (now s i).kept ≡ pos 0 = pays_none base.schema (locks_of s i) p column (now s i).kept t.held (λ h. good.apart j i js is n (read_meets_increment (locks_of s j) (locks_of s i) number key r h)) in
      omega (arith, ints);
}

-- ---- after changes whose locks are held

abbrev pub HoldsAll : Schema → List Want → List RowChange → Type 0
HoldsAll objects locks [] = Unit {0}
HoldsAll objects locks (c ∷ cs) = HoldsFor objects locks c × HoldsAll objects locks cs

pub holds_changes : (objects : Schema) (locks : List Want) (ks : List KeptStep) → HeldKept objects locks ks → HoldsAll objects locks (changes_of ks)
holds_changes objects locks [] h = tt
holds_changes objects locks (Put c ds ∷ ks) h = (h.0, holds_changes objects locks ks h.1)
holds_changes objects locks (Pay d ∷ ks) h = holds_changes objects locks ks h.1

module _ (objects : Schema) (locks : List Want) (one other : Rows) (f : Framed objects locks one other) (so : AreSound objects one) (ss : AreSound objects other) where
  pub framed_redo : (cs : List RowChange) → HoldsAll objects locks cs → AreProper objects cs → AreTrue one cs → Framed objects locks (redo cs one) (redo cs other) × AreTrue other cs
  framed_redo [] h p t = (f, tt)
  framed_redo (c ∷ cs) h p t =
      let rest = framed_redo cs h.1 p.1 t.1 in
      let true_other : AreTrue other (c ∷ cs) = (t.0 ∙ agree_first objects (redo cs one) (redo cs other) c.key (rest.0.agree c.key.0 c.key.1 (inr h.0.key)), rest.1) in
      let right_one : IsRight objects (redo cs one) c = right_next objects one c cs so p t in
      let right_other : IsRight objects (redo cs other) c = right_next objects other c cs ss p true_other in
      let owes : owed objects (redo cs one) c ≡ owed objects (redo cs other) c = local_law objects (redo cs one) (redo cs other) c right_one right_other (λ n k m. rest.0.agree n k (h.0.needs n k m)) in (
        record {
          agree = λ n k r. agree_redo objects n k (c ∷ []) (redo cs one) (redo cs other) (rest.0.agree n k r);
          same = λ n k r column.
              let a : fresh objects (rows_after c (redo cs one)) (n, k) column ≡ fresh objects (redo cs one) (n, k) column +ℤ due (n, k) column (owed objects (redo cs one) c) = sum_law objects (redo cs one) c (n, k) column in
              let b : fresh objects (rows_after c (redo cs other)) (n, k) column ≡ fresh objects (redo cs other) (n, k) column +ℤ due (n, k) column (owed objects (redo cs other) c) = sum_law objects (redo cs other) c (n, k) column in
              let d : due (n, k) column (owed objects (redo cs one) c) ≡ due (n, k) column (owed objects (redo cs other) c) = ap (due (n, k) column) owes in
              let r : fresh objects (redo cs one) (n, k) column ≡ fresh objects (redo cs other) (n, k) column = rest.0.same n k r column in
              omega (arith, ints);
        },
        true_other,
      )

-- ---- readings

view_number : (objects : Schema) (rows : Rows) (n : ℕ) (v : ViewTree) → AreSound objects rows → numbered objects n ≡ Some (view v) → v.number ≡ n
view_number objects rows n v s e = (s.objects n (view v) e).0

pub reads_framed : (objects : Schema) (a b : ℕ) (locks : List Want) (one other : Rows) → Framed objects locks one other → AreSound objects one → AreSound objects other
    → (n : ℕ) (interval : Interval) → MayReadIn locks n interval → read (record { number = a; schema = objects; rows = one }) n interval ≡ read (record { number = b; schema = objects; rows = other }) n interval
reads_framed objects a b locks one other f so ss n interval may = go (numbered objects n) refl
  where
    here : Option Object → List Row
    here x = object_rows (record { number = a; schema = objects; rows = one }) x interval

    there : Option Object → List Row
    there x = object_rows (record { number = b; schema = objects; rows = other }) x interval

    at_table : IsTableIndex (numbered objects n) → here (numbered objects n) ≡ there (numbered objects n)
    at_table i = read_same objects a b one other so ss n i interval (λ k l. f.agree n k (may k l))

    go : (o : Option Object) → numbered objects n ≡ o → here (numbered objects n) ≡ there (numbered objects n)
    go None e = ap here e ∙ sym (ap there e)
    go (Some (table t)) e = at_table (first t e)
    go (Some (index i)) e = at_table (secondary i e)
    go (Some (view v)) e = ap here e ∙ (views_same objects a b one other so ss n v e interval (λ key l column.
        f.same v.number key (subst (λ m. MayRead locks m key) (sym (view_number objects one n v so e)) (may key l)) column) ∙ sym (ap there e))

-- ---- a session's own reading

-- the sum over the sessions where the others have none
pub over_one : (f : ℕ → ℤ) (i : ℕ) → IsSession i → ((j : ℕ) → IsSession j → j ≢ i → f j ≡ pos 0) → over_sessions f ≡ f i
over_one f i is none =
    let zero_ : ℕ → ℤ = λ j. pos 0 in
    let same : over_sessions f ≡ over_sessions (λ j. with_one zero_ i (f i) j) = over_same f (λ j. with_one zero_ i (f i) j) (λ j js. by_session j i
    (λ e. ap f e ∙ sym (one_same zero_ i (f i) j e))
    (λ n. none j js n ∙ sym (other j n))) in
    let set : over_sessions (λ j. with_one zero_ i (f i) j) +ℤ pos 0 ≡ over_sessions (λ j. pos 0) +ℤ f i = over_set (λ (x : ℤ). x) zero_ i (f i) is in
    let all : over_sessions (λ j. pos 0) ≡ pos 0 = over_zero (λ j. pos 0) (λ j js. refl) in
    omega (arith, ints)
  where
    other : (j : ℕ) → j ≢ i → with_one (λ (k : ℕ). pos 0) i (f i) j ≡ pos 0
    other j n = one_other (λ (k : ℕ). pos 0) i (f i) j n

module _ (base : Database) (s : Store) (good : Fine base s) (i : ℕ) (is : IsSession i) (none : (now s i).owed ≡ []) where
  abbrev own : Rows
  own = redo (changes_by s i) base.rows

  pub own_number : (number : ℕ) (key : List ℕ) → MayRead (locks_of s i) number key → (column : ℕ) → stored_number s.view (number, key) column ≡ fresh base.schema own (number, key) column
  own_number number key r column =
      let t = good.each i is in
      let p : Place = (number, key) in
      let kept : stored_number s.view p column ≡ fresh base.schema base.rows p column +ℤ all_paid the_views fresh view_laws s.open_of p column = good.view p column in
      let redone : fresh base.schema own p column ≡ fresh base.schema base.rows p column +ℤ owes_in p column (now s i).kept =
      value-redo the_views fresh view_laws base.schema base.rows (now s i).kept p column (base_sound the_views fresh view_laws base s good) t.proper (good.stored.told i is) t.told in
      let settled : paid_in p column (now s i).kept +ℤ due p column [] ≡ owes_in p column (now s i).kept = settled_sum p column (now s i).kept [] (subst (IsSettled (now s i).kept) none t.settled) in
      let alone : all_paid the_views fresh view_laws s.open_of p column ≡ paid_in p column (now s i).kept = over_one (λ j. paid_in p column (now s j).kept) i is (λ j js n.
      pays_none base.schema (locks_of s j) p column (now s j).kept (good.each j js).held (λ h. good.apart i j is js (λ e. n (sym e)) (read_meets_increment (locks_of s i) (locks_of s j) number key r h))) in
      omega (arith, ints)

  -- what is found is what the session's own database has
  pub finds_own : (a b n : ℕ) (interval : Interval) → MayReadIn (locks_of s i) n interval → (rows : List Row)
      → FindsIn (record { number = a; schema = base.schema; rows = s.rows }) s.view (numbered base.schema n) n interval rows
      → read (record { number = b; schema = base.schema; rows = own }) n interval ≡ rows
  finds_own a b n interval may rows h = go (numbered base.schema n) refl h
    where
      so : AreSound base.schema s.rows
      so = stored_sound the_views fresh view_laws base s good

      ss : AreSound base.schema own
      ss = own_sound the_views fresh view_laws base s good i is

      at_table : IsTableIndex (numbered base.schema n) → read (record { number = a; schema = base.schema; rows = s.rows }) n interval ≡ read (record { number = b; schema = base.schema; rows = own }) n interval
      at_table x = read_same base.schema a b s.rows own so ss n x interval (λ k l. read_at the_views fresh view_laws base s good i is n k (may k l))

      go : (o : Option Object) → numbered base.schema n ≡ o → FindsIn (record { number = a; schema = base.schema; rows = s.rows }) s.view o n interval rows → read (record { number = b; schema = base.schema; rows = own }) n interval ≡ rows
      go None e h = ap (λ x. object_rows (record { number = b; schema = base.schema; rows = own }) x interval) e ∙ (sym (ap (λ x. object_rows (record { number = a; schema = base.schema; rows = s.rows }) x interval) e) ∙ h)
      go (Some (table t)) e h = sym (at_table (first t e)) ∙ h
      go (Some (index x)) e h = sym (at_table (secondary x e)) ∙ h
      go (Some (view v)) e h =
          let agrees : (key : List ℕ) → lies_in key interval ≡ true → (column : ℕ) → stored_number s.view (v.number, key) column ≡ fresh base.schema own (v.number, key) column =
          λ key l column. own_number v.number key (subst (λ m. MayRead (locks_of s i) m key) (sym (view_number base.schema s.rows n v so e)) (may key l)) column in
          ap (λ x. object_rows (record { number = b; schema = base.schema; rows = own }) x interval) e ∙ view_read (record { number = b; schema = base.schema; rows = own }) ss n v e interval s.view agrees rows h
