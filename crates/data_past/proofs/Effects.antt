-- Each effect of the machine keeps that a store has the past of its state, with what it does to pending rows and to versions.
use Rattle.std.specs.Prelude.{◌≡◌, ◌⊎◌, ◌≤◌, ◌+◌, ℕ, zero, suc, max, nat_le, Bool, true, false, cond, List, [], ◌∷◌, ◌++◌, map, length, Option, Some, None}
use Rattle.std.specs.List.{Contains}
use Rattle.std.proofs.lemmas.List.Elements.{Contains-append_cases}
use mathlib.Core.Path.{refl, sym, ap, subst, ◌∙◌}
use mathlib.Core.Logic.{inl, inr}
use Rattle.std.proofs.Common.{arith, append-nil, append_assoc}
use Rattle.std.proofs.lemmas.List.{map-append}
use Rattle.std.specs.FinMap.{get, empty, get-empty}
use Rattle.std.specs.Ordering.{eq_by_cmp}
use Rattle.iv_types.specs.declared.lock.GroupDelta.{GroupDelta}
use Rattle.iv_types.specs.declared.lock.Want.{Want}
use Rattle.iv_types.specs.declared.statement.Mode.{Mode}
use Rattle.table_laws.specs.Place.{Place, place_cmp}
use Rattle.table_laws.specs.Table.{write}
use Rattle.table_laws.specs.Kept.{Touches, redo}
use Rattle.table_laws.proofs.Kept.{redo_untouched}
use Rattle.table_laws.proofs.Place.{place_cmp_total, place_cmp-IsAntisymmetric}
use Rattle.iv_meaning.specs.Schema.{Schema, Object, table, index, view, numbered}
use Rattle.iv_meaning.specs.Database.{Row, Rows, Database}
use Rattle.iv_meaning.specs.Statement.{Kept, sets, defines, keep, keep_all}
use Rattle.iv_meaning.specs.History.{Entry, fold}
use Rattle.iv_meaning.specs.Escrow.{IsSession}
use Rattle.iv_meaning.specs.Sound.{IsRow}
use Rattle.txn_machine.specs.Locks.{with_one}
use Rattle.txn_machine.specs.Deltas.{RowChange, place_of, is_for, negated}
use Rattle.txn_machine.specs.Fresh.{fresh}
use Rattle.txn_machine.specs.Ghosts.{the_views, versions}
use Rattle.txn_machine.specs.Keeping.{KeptStep, Put, Pay, Note, Open, changes_of, begun, IsSettled}
use Rattle.txn_machine.specs.Stored.{ViewRows, add_to, add_all, zeros}
use Rattle.txn_machine.specs.Store.{Store, opened, committed, schema_of, now, changes_by, change_at, with_txn, notes_before, paid_first, undone, with_entry, entry_changes, entry_deltas, deltas_above, least_snapshot, Opens, Takes, Notes, Writes, Pays, Ghosts, Undoes, Loses, Ends, Commits, Defines, Cleans, Prunes, does}
use Rattle.txn_machine.specs.Steps.{NoneIsOpen}
use Rattle.txn_machine.proofs.Agreeing.{by_place, written_at, written_other}
use Rattle.txn_machine.proofs.Columns.{is_for_place}
use Rattle.txn_machine.proofs.Entered.{IsEntryOf, IsHistoryOf}
use Rattle.txn_machine.proofs.Good.{the_open, PaysOn}
use Rattle.txn_machine.proofs.Looking.{view_laws}
use Rattle.txn_machine.proofs.Making.{numbered_more}
use Rattle.txn_machine.proofs.Marks.{prune_law}
use Rattle.txn_machine.proofs.Runs.{committed_after, defined}
use Rattle.txn_machine.proofs.Telling.{Good'}
use Rattle.version_chain.specs.Versions.{Version, above}
use Rattle.version_chain.specs.Law.{Prune}
use Rattle.version_chain.specs.States.{commits_in, commits_of}
use Rattle.version_chain.specs.declared.deltas.Delta.{Delta}
use Rattle.version_chain.proofs.LawLemmas.{same_place}
use Rattle.data_store.specs.Past.{Pendings, RowVersions}
use Rattle.data_store.specs.ViewPast.{DeltaVersions}
use Rattle.data_store.specs.Machine.{bytes_by, bytes_of, changes_on, kept_up_to, kept_on, pending_of, AreLeft, version_by, versions_by, delta_by, deltas_by, IsPast}
use Rattle.data_store.specs.declared.store.Pending.{Pending}
use Rattle.data_store.proofs.RowsThen.{none_touch, objects_stay}
use Rattle.data_past.specs.Moves.{one_more, one_less, fewer, ChangesAt, pushed_all, pays_of}
use Rattle.data_past.proofs.Counting.{changes_in, kept_after, on_other, on_key, kept_alone}
use Rattle.data_past.proofs.Pendings.{more_pending, less_pending, fewer_pending}
use Rattle.data_past.proofs.Entering.{left_pushed, left_pruned, versions_more, deltas_more, pays_are_deltas}

-- the committed bytes under a key
abbrev pub bytes_at : Store → Place → Option (List ℕ)
bytes_at s p = bytes_of (schema_of s) p (get (committed s).rows p)

-- ---- a store that is opened

none_yet : (db : Database) (stored_view : ViewRows) (p : Place) (n : ℕ) → kept_up_to (changes_by (opened db stored_view)) p n ≡ 0
none_yet db stored_view p zero = refl
none_yet db stored_view p (suc n) = let rest = none_yet db stored_view p n in omega (arith, rest)

pub past_opened : (db : Database) (stored_view : ViewRows) → IsPast [] [] empty (opened db stored_view)
past_opened db stored_view = record {
  pending = λ p. get-empty place_cmp p ∙ ap (λ n. pending_of n (bytes_at (opened db stored_view) p)) (sym (none_yet db stored_view p 64));
  rows = record { calls = Prune db.number ∷ []; pushed = refl; left = ap (λ (n : ℕ). ([], n)) (let e : max 0 db.number ≡ db.number = omega arith in e) };
  deltas = record { calls = Prune db.number ∷ []; pushed = refl; left = ap (λ (n : ℕ). ([], n)) (let e : max 0 db.number ≡ db.number = omega arith in e) };
  absent = λ p none d c. absurd (omega (arith, c.1));
}

-- ---- view rows stay

written_there : (rows : ViewRows) (key : Place) (numbers : _) (p : Place) → get (write rows key (Some numbers)) p ≡ None → get rows p ≡ None
written_there rows key numbers p none = by_place p key
    (λ e. let some : get (write rows key (Some numbers)) p ≡ Some numbers = written_at rows key (Some numbers) p e in absurd (cc))
    (λ n. sym (written_other rows key (Some numbers) p n) ∙ none)

added_there : (rows : ViewRows) (ds : List GroupDelta) (p : Place) → get (add_all rows ds) p ≡ None → get rows p ≡ None
added_there rows [] p none = none
added_there rows (d ∷ ds) p none = written_there rows (place_of d) _ p (added_there (add_to rows d) ds p none)

-- ---- deltas of an entry

deltas_push : (k : ℕ) (es : List Entry) (e : Entry) (db : Database)
    → deltas_above the_views k db (es ++ e ∷ []) ≡ deltas_above the_views k db es ++ cond (nat_le e.number k) [] (entry_deltas the_views (fold es db) e.kept)
deltas_push k [] e db = elim (nat_le e.number k) as (λ b. cond b [] (entry_deltas the_views db e.kept ++ []) ≡ [] ++ cond b [] (entry_deltas the_views db e.kept)) [ true ↦ refl | false ↦ append-nil (entry_deltas the_views db e.kept) ]
deltas_push k (x ∷ es) e db =
    let next : Database = fold (x ∷ []) db in
    let rest : deltas_above the_views k next (es ++ e ∷ []) ≡ deltas_above the_views k next es ++ cond (nat_le e.number k) [] (entry_deltas the_views (fold es next) e.kept) = deltas_push k es e next in
    let more : List GroupDelta = cond (nat_le e.number k) [] (entry_deltas the_views (fold es next) e.kept) in
    elim (nat_le x.number k) as (λ b. cond b (deltas_above the_views k next (es ++ e ∷ [])) (entry_deltas the_views db x.kept ++ deltas_above the_views k next (es ++ e ∷ []))
    ≡ cond b (deltas_above the_views k next es) (entry_deltas the_views db x.kept ++ deltas_above the_views k next es) ++ more) [
      | true ↦ rest
      | false ↦ ap (λ ds. entry_deltas the_views db x.kept ++ ds) rest ∙ sym (append_assoc (entry_deltas the_views db x.kept) (deltas_above the_views k next es) more)
    ]

pays_on_it : (p : Place) (ks : List KeptStep) (d : GroupDelta) → Contains (pays_of ks) d → is_for p d ≡ true → PaysOn p ks
pays_on_it p [] d c for = absurd (omega (arith, c.1))
pays_on_it p (Put x ds ∷ ks) d c for = pays_on_it p ks d c for
pays_on_it p (Pay x ∷ ks) d c for = elim (Contains-append_cases (pays_of ks) (x ∷ []) d c) [
  | inl early ↦ inr (pays_on_it p ks d early for)
  | inr last ↦ inl (is_for_place p x (ap (is_for p) (only x d last) ∙ for))
]
  where
    only : (x d : GroupDelta) → Contains (x ∷ []) d → x ≡ d
    only x d (zero, lt, e) = e
    only x d (suc k, lt, e) = absurd (omega (arith, lt))

some_touch : (p : Place) (cs : List RowChange) (n : ℕ) → changes_on p cs ≡ suc n → Touches p cs
some_touch p [] n e = absurd (omega (arith, e))
some_touch p (c ∷ cs) n e = by (eq_by_cmp place_cmp p c.key) refl (some_touch p cs n)
  where
    by : (b : Bool) → eq_by_cmp place_cmp p c.key ≡ b → (changes_on p cs ≡ suc n → Touches p cs) → Touches p (c ∷ cs)
    by true is rest = inl (same_place p c.key is)
    by false is rest = inr (rest (sym (on_other p c cs is) ∙ e))

-- ---- versions of rows after a definition

-- the bytes of a row whose table is there stay the same
same_bytes : (objects : Schema) (o : Object) (p : Place) (row : Option Row) → ((x : Row) → row ≡ Some x → IsRow objects p x) → bytes_of (objects ++ o ∷ []) p row ≡ bytes_of objects p row
same_bytes objects o p None h = no_bytes (numbered (objects ++ o ∷ []) p.0) ∙ sym (no_bytes (numbered objects p.0))
  where
    no_bytes : (x : Option Object) → bytes_by x None ≡ None
    no_bytes None = refl
    no_bytes (Some (table t)) = refl
    no_bytes (Some (index t)) = refl
    no_bytes (Some (view t)) = refl
same_bytes objects o p (Some x) h = let r = h x refl in ap (λ (y : Option Object). bytes_by y (Some x)) (numbered_more objects o p.0 (table r.of) r.table_is)

known_in : (objects : Schema) (o : Object) (m : ℕ) (ks : List Kept) (db : Database) → IsEntryOf db ks → ((n : ℕ) (x : Object) → numbered (keep_all ks db).schema n ≡ Some x → numbered objects n ≡ Some x)
    → map (version_by (objects ++ o ∷ [])) (commits_in m ks) ≡ map (version_by objects) (commits_in m ks)
known_in objects o m [] db h stay = refl
known_in objects o m (sets c ∷ ks) db h stay =
    let rest = known_in objects o m ks (keep (sets c) db) h.1 stay in
    let here : bytes_of (objects ++ o ∷ []) c.key c.before ≡ bytes_of objects c.key c.before =
    same_bytes objects o c.key c.before (λ x e. let r : IsRow db.schema c.key x = h.0.sound.rows c.key x (sym h.0.told ∙ e) in record { of = r.of; table_is = stay c.key.0 (table r.of) (stays_in ks (keep (sets c) db) c.key.0 (table r.of) r.table_is); key = r.key; fits = r.fits }) in
    λ i. ((c.key, m), here i) ∷ rest i
  where
    stays_in : (ks : List Kept) (db : Database) (n : ℕ) (x : Object) → numbered db.schema n ≡ Some x → numbered (keep_all ks db).schema n ≡ Some x
    stays_in [] db n x e = e
    stays_in (sets c ∷ ks) db n x e = stays_in ks (keep (sets c) db) n x e
    stays_in (defines y ∷ ks) db n x e = stays_in ks (keep (defines y) db) n x (numbered_more db.schema y n x e ∙ e)
known_in objects o m (defines y ∷ ks) db h stay = known_in objects o m ks (keep (defines y) db) h.1 stay

known_versions : (objects : Schema) (o : Object) (es : List Entry) (db : Database) → IsHistoryOf db es → ((n : ℕ) (x : Object) → numbered (fold es db).schema n ≡ Some x → numbered objects n ≡ Some x)
    → versions_by (objects ++ o ∷ []) es ≡ versions_by objects es
known_versions objects o [] db h stay = refl
known_versions objects o (e ∷ es) db h stay =
    map-append (version_by (objects ++ o ∷ [])) (commits_in e.number e.kept) (commits_of es)
    ∙ ((λ i. known_in objects o e.number e.kept db h.1 (λ n x is. stay n x (objects_stay es (fold (e ∷ []) db) n x is)) i ++ known_versions objects o es (fold (e ∷ []) db) h.2 stay i)
    ∙ sym (map-append (version_by objects) (commits_in e.number e.kept) (commits_of es)))

module _ (R : RowVersions) (D : DeltaVersions) (P : Pendings) (s : Store) (past : IsPast R D P s) where
  -- ---- what leaves kept changes alone

  pub past_still : (rows : Rows) (view_rows : ViewRows) (open_of : ℕ → Option Open) → ((p : Place) → kept_up_to (changes_in open_of) p 64 ≡ kept_on s p) → ((p : Place) → get view_rows p ≡ None → get s.view p ≡ None)
      → IsPast R D P (record s { rows = rows; view = view_rows; open_of = open_of })
  past_still rows view_rows open_of same stays = record {
    pending = λ p. past.pending p ∙ ap (λ n. pending_of n (bytes_at s p)) (sym (same p));
    rows = past.rows;
    deltas = past.deltas;
    absent = λ p none. past.absent p (stays p none);
  }

  same_changes : (i : ℕ) (o : Option Open) → IsSession i → changes_of (the_open o).kept ≡ changes_by s i → (p : Place) → kept_up_to (changes_in (with_one s.open_of i o)) p 64 ≡ kept_on s p
  same_changes i o is same p =
      let sum = kept_after s i o p is in
      let own : changes_on p (changes_of (the_open o).kept) ≡ changes_on p (changes_by s i) = ap (changes_on p) same in
      omega (arith, sum, own)

  -- a session's transaction is another one, with the same changes
  pub past_txn : (i : ℕ) (o : Option Open) → IsSession i → changes_of (the_open o).kept ≡ changes_by s i → IsPast R D P (with_txn s i o)
  past_txn i o is same = past_still s.rows s.view (with_one s.open_of i o) (same_changes i o is same) (λ p none. none)

  pub past_opens : (i : ℕ) (mode : Mode) → IsSession i → s.open_of i ≡ None → IsPast R D P (does the_views s i (Opens mode))
  past_opens i mode is none = past_txn i (Some (begun mode (committed s).number)) is (sym (ap (λ (o : Option Open). changes_of (the_open o).kept) none))

  pub past_takes : (i : ℕ) (wants : List Want) → IsSession i → IsPast R D P (does the_views s i (Takes wants))
  past_takes i wants is = past_txn i (Some (record (now s i) { locks = wants ++ (now s i).locks })) is refl

  pub past_notes : (i : ℕ) (note : Note) → IsSession i → IsPast R D P (does the_views s i (Notes note))
  past_notes i note is = past_txn i (Some (record (now s i) { notes = note ∷ (now s i).notes })) is refl

  pub past_loses : (i : ℕ) → IsSession i → IsPast R D P (does the_views s i Loses)
  past_loses i is = past_txn i (Some (record (now s i) { is_lost = true })) is refl

  pub past_ends : (i : ℕ) → IsSession i → (now s i).kept ≡ [] → IsPast R D P (does the_views s i Ends)
  past_ends i is none = past_txn i None is (sym (ap changes_of none))

  pays_one : (i : ℕ) → IsSession i → (ds : List GroupDelta) → IsPast R D P (paid_first s i (now s i) ds)
  pays_one i is [] = past
  pays_one i is (d ∷ ds) =
      past_still s.rows (add_to s.view d) (with_one s.open_of i (Some (record (now s i) { kept = Pay d ∷ (now s i).kept; owed = ds })))
      (same_changes i (Some (record (now s i) { kept = Pay d ∷ (now s i).kept; owed = ds })) is refl) (λ p none. written_there s.view (place_of d) _ p none)

  pub past_pays : (i : ℕ) → IsSession i → IsPast R D P (does the_views s i Pays)
  past_pays i is = pays_one i is (now s i).owed

  -- a pay is taken back
  pub past_unpaid : (i : ℕ) → IsSession i → (d : GroupDelta) (ks : List KeptStep) → (now s i).kept ≡ Pay d ∷ ks → IsPast R D P (does the_views s i Undoes)
  past_unpaid i is d ks kept = subst (λ (l : List KeptStep). IsPast R D P (undone s i (now s i) l)) (sym kept)
      (past_still s.rows (add_to s.view (negated d)) (with_one s.open_of i (Some (record (now s i) { kept = ks; owed = d ∷ (now s i).owed; back = (now s i).back + 1 })))
      (same_changes i (Some (record (now s i) { kept = ks; owed = d ∷ (now s i).owed; back = (now s i).back + 1 })) is (sym (ap changes_of kept))) (λ p none. written_there s.view (place_of (negated d)) _ p none))

  pub past_ghosts : (i : ℕ) (place : Place) (columns : ℕ) → IsPast R D P (does the_views s i (Ghosts place columns))
  past_ghosts i place columns = past_still s.rows (write s.view place (Some (zeros columns))) s.open_of (λ p. refl) (λ p none. written_there s.view place (zeros columns) p none)

  -- a ghost is removed of which no version is kept
  pub past_cleans : (i : ℕ) (place : Place) → ((d : GroupDelta) → Contains (versions s) d → is_for place d ≡ true → ⊥) → IsPast R D P (does the_views s i (Cleans place))
  past_cleans i place none = record {
    pending = past.pending;
    rows = past.rows;
    deltas = past.deltas;
    absent = λ p gone. by_place p place
        (λ e d c for. none d c (subst (λ (q : Place). is_for q d ≡ true) e for))
        (λ n. past.absent p (sym (written_other s.view place None p n) ∙ gone));
  }

  pub past_prunes : (i : ℕ) → s.mark ≤ least_snapshot s.open_of 64 (committed s).number
      → IsPast (above (least_snapshot s.open_of 64 (committed s).number) R) (above (least_snapshot s.open_of 64 (committed s).number) D) P (does the_views s i Prunes)
  past_prunes i le = record {
    pending = past.pending;
    rows = left_pruned R s.mark (least_snapshot s.open_of 64 (committed s).number) (versions_by (schema_of s) s.history) le past.rows;
    deltas = left_pruned D s.mark (least_snapshot s.open_of 64 (committed s).number) (deltas_by s.origin s.history) le past.deltas;
    absent = λ p none d c. past.absent p none d (prune_law s (least_snapshot s.open_of 64 (committed s).number) le d c);
  }

  -- ---- a change is put, or taken back

  module _ (i : ℕ) (is : IsSession i) (key : Place) where
    moved : (after : Pendings) (f : Option Pending → Option Pending) (rows : Rows) (o : Option Open) → ChangesAt key f P after
        → ((p : Place) → eq_by_cmp place_cmp p key ≡ true → f (pending_of (kept_on s p) (bytes_at s p)) ≡ pending_of (kept_up_to (changes_in (with_one s.open_of i o)) p 64) (bytes_at s p))
        → ((p : Place) → eq_by_cmp place_cmp p key ≡ false → kept_up_to (changes_in (with_one s.open_of i o)) p 64 ≡ kept_on s p)
        → IsPast R D after (record s { rows = rows; open_of = with_one s.open_of i o })
    moved after f rows o changes here other = record {
      pending = λ p. changes p ∙ by p (eq_by_cmp place_cmp p key) refl;
      rows = past.rows;
      deltas = past.deltas;
      absent = past.absent;
    }
      where
        by : (p : Place) (b : Bool) → eq_by_cmp place_cmp p key ≡ b → cond b (f (get P p)) (get P p) ≡ pending_of (kept_up_to (changes_in (with_one s.open_of i o)) p 64) (bytes_at s p)
        by p true e = ap f (past.pending p) ∙ here p e
        by p false e = past.pending p ∙ ap (λ n. pending_of n (bytes_at s p)) (sym (other p e))

    -- the change is one more of its key
    pub past_writes : (after : Pendings) (new : Option Row) (bytes : Option (List ℕ)) → bytes ≡ bytes_at s key → ChangesAt key (one_more bytes) P after → IsPast R D after (does the_views s i (Writes key new))
    past_writes after new bytes same changes =
        let c : RowChange = change_at s key new in
        let owed : List GroupDelta = the_views.owed (schema_of s) s.rows c in
        let o : Option Open = Some (record (now s i) { kept = Put c owed ∷ (now s i).kept; owed = owed; back = 0 }) in
        moved after (one_more bytes) (write s.rows key new) o changes
        (λ p e.
        let sum = kept_after s i o p is in
        let one = on_key p c (changes_by s i) e in
        let count : suc (kept_on s p) ≡ kept_up_to (changes_in (with_one s.open_of i o)) p 64 = omega (arith, sum, one) in
        let at : p ≡ key = same_place p key e in
        ap (λ (b : Option (List ℕ)). one_more b (pending_of (kept_on s p) (bytes_at s p))) (same ∙ ap (bytes_at s) (sym at))
        ∙ (more_pending (kept_on s p) (bytes_at s p) ∙ ap (λ n. pending_of n (bytes_at s p)) count))
        (λ p e.
        let sum = kept_after s i o p is in
        let none = on_other p c (changes_by s i) e in
        omega (arith, sum, none))

  -- the latest change is one less of its key
  pub past_unput : (i : ℕ) (is : IsSession i) (after : Pendings) (c : RowChange) (ds : List GroupDelta) (ks : List KeptStep) → (now s i).kept ≡ Put c ds ∷ ks → ChangesAt c.key one_less P after → IsPast R D after (does the_views s i Undoes)
  past_unput i is after c ds ks kept changes = subst (λ (l : List KeptStep). IsPast R D after (undone s i (now s i) l)) (sym kept)
      (moved i is c.key after one_less (write s.rows c.key c.before) o changes
      (λ p e.
      let sum = kept_after s i o p is in
      let one = on_key p c (changes_of ks) e in
      let own : changes_on p (changes_by s i) ≡ changes_on p (c ∷ changes_of ks) = ap (λ (l : List KeptStep). changes_on p (changes_of l)) kept in
      let count : kept_on s p ≡ suc (kept_up_to (changes_in (with_one s.open_of i o)) p 64) = omega (arith, sum, one, own) in
      ap (λ n. one_less (pending_of n (bytes_at s p))) count ∙ less_pending (kept_up_to (changes_in (with_one s.open_of i o)) p 64) (bytes_at s p))
      (λ p e.
      let sum = kept_after s i o p is in
      let none = on_other p c (changes_of ks) e in
      let own : changes_on p (changes_by s i) ≡ changes_on p (c ∷ changes_of ks) = ap (λ (l : List KeptStep). changes_on p (changes_of l)) kept in
      omega (arith, sum, none, own)))
    where
      o : Option Open
      o = Some (record (now s i) { kept = ks; owed = []; back = 0; notes = notes_before (length ks) (now s i).notes })

  -- ---- a commit

  module _ (i : ℕ) (is : IsSession i) (good : Good' s) (owes_none : (now s i).owed ≡ []) where
    abbrev number_next : ℕ
    number_next = (committed s).number + 1

    abbrev entry : Entry
    entry = record { number = (committed s).number + 1; session = i; kept = entry_changes (now s i).kept }

    abbrev after_commit : Store
    after_commit = does the_views s i Commits

    schema_stays : schema_of (does the_views s i Commits) ≡ schema_of s
    schema_stays = ap (λ (d : Database). d.schema) (committed_after the_views fresh view_laws s i)

    rows_move : (committed (does the_views s i Commits)).rows ≡ redo (changes_by s i) (committed s).rows
    rows_move = ap (λ (d : Database). d.rows) (committed_after the_views fresh view_laws s i)

    -- the changes of a row that this session keeps are all, or none
    left_over : (p : Place) (n : ℕ) → changes_on p (changes_by s i) ≡ n → (m : ℕ) → m + n ≡ kept_on s p → pending_of m (bytes_at s p) ≡ pending_of m (bytes_at (does the_views s i Commits) p)
    left_over p zero own m sum = ap (pending_of m)
        ((λ j. bytes_of (sym schema_stays j) p (get (committed s).rows p))
        ∙ ap (bytes_of (schema_of (does the_views s i Commits)) p) (sym (redo_untouched place_cmp_total place_cmp-IsAntisymmetric p (changes_by s i) (committed s).rows (none_touch p (changes_by s i) own)) ∙ ap (λ (rows : Rows). get rows p) (sym rows_move)))
    left_over p (suc n) own m sum =
        let all : kept_on s p ≡ changes_on p (changes_by s i) = kept_alone (changes_by s) i p 64 is.0 is.1 (λ j low high ne t. good.stored.apart i j p is (low, high) (λ e. ne (sym e)) (some_touch p (changes_by s i) n own) t) in
        let none : m ≡ 0 = omega (arith, own, all, sum) in
        ap (λ k. pending_of k (bytes_at s p)) none ∙ ap (λ k. pending_of k (bytes_at (does the_views s i Commits) p)) (sym none)

    more_versions : (mark : ℕ) → (d : GroupDelta) → Contains (deltas_above the_views mark s.origin (s.history ++ entry ∷ [])) d
        → Contains (deltas_above the_views mark s.origin s.history) d ⊎ Contains (entry_deltas the_views (committed s) (entry_changes (now s i).kept)) d
    more_versions mark d c = by (nat_le ((committed s).number + 1) mark) (Contains-append_cases (deltas_above the_views mark s.origin s.history) _ d (subst (λ (l : List GroupDelta). Contains l d) (deltas_push mark s.history entry s.origin) c))
      where
        by : (b : Bool) → Contains (deltas_above the_views mark s.origin s.history) d ⊎ Contains (cond b [] (entry_deltas the_views (committed s) (entry_changes (now s i).kept))) d
            → Contains (deltas_above the_views mark s.origin s.history) d ⊎ Contains (entry_deltas the_views (committed s) (entry_changes (now s i).kept)) d
        by true (inl h) = inl h
        by true (inr h) = absurd (omega (arith, h.1))
        by false h = h

    abbrev row_pushes : RowVersions
    row_pushes = map (version_by (schema_of s)) (commits_in ((committed s).number + 1) (entry_changes (now s i).kept))

    abbrev delta_pushes : DeltaVersions
    delta_pushes = map (delta_by ((committed s).number + 1)) (pays_of (now s i).kept)

    pub past_commits : {A B : Type 0} (f : A → Version (Option (List ℕ))) (xs : List A) (g : B → Version Delta) (ys : List B) (R' : RowVersions) (D' : DeltaVersions) (P' : Pendings)
        → map f xs ≡ row_pushes → map g ys ≡ delta_pushes → R' ≡ pushed_all f xs s.mark R → D' ≡ pushed_all g ys s.mark D
        → ((p : Place) → get P' p ≡ fewer (changes_on p (changes_by s i)) (get P p)) → IsPast R' D' P' (does the_views s i Commits)
    past_commits f xs g ys R' D' P' rows_pushed deltas_pushed rows_are deltas_are pending_are = record {
      pending = λ p.
          let o : Option Open = None in
          let sum = kept_after s i o p is in
          let none : changes_on p (changes_of (the_open o).kept) ≡ 0 = refl in
          let m : ℕ = kept_up_to (changes_in (with_one s.open_of i o)) p 64 in
          let own : ℕ = changes_on p (changes_by s i) in
          let count : m + own ≡ kept_on s p = omega (arith, sum, none) in
          pending_are p ∙ (ap (fewer own) (past.pending p ∙ ap (λ n. pending_of n (bytes_at s p)) (sym count)) ∙ (fewer_pending own m (bytes_at s p) ∙ left_over p own refl m count));
      rows = subst (λ (l : RowVersions). AreLeft R' s.mark l) (ap (λ (l : RowVersions). versions_by (schema_of s) s.history ++ l) rows_pushed ∙ sym (ap (λ (x : Schema). versions_by x (s.history ++ entry ∷ [])) schema_stays ∙ versions_more (schema_of s) s.history entry))
          (subst (λ (l : RowVersions). AreLeft l s.mark (versions_by (schema_of s) s.history ++ map f xs)) (sym rows_are) (left_pushed f R s.mark (versions_by (schema_of s) s.history) xs past.rows));
      deltas = subst (λ (l : DeltaVersions). AreLeft D' s.mark l)
          (ap (λ (l : DeltaVersions). deltas_by s.origin s.history ++ l) deltas_pushed ∙ sym (deltas_more s.history entry s.origin ∙ ap (λ (ds : List GroupDelta). deltas_by s.origin s.history ++ map (delta_by ((committed s).number + 1)) ds) owed_are))
          (subst (λ (l : DeltaVersions). AreLeft l s.mark (deltas_by s.origin s.history ++ map g ys)) (sym deltas_are) (left_pushed g D s.mark (deltas_by s.origin s.history) ys past.deltas));
      absent = λ p none d c for. elim (more_versions s.mark d c) [
        | inl old ↦ past.absent p none d old for
        | inr new ↦ good.present p none i is (pays_on_it p (now s i).kept d (subst (λ (ds : List GroupDelta). Contains ds d) owed_are new) for)
      ];
    }
      where
        owed_are : entry_deltas the_views (committed s) (entry_changes (now s i).kept) ≡ pays_of (now s i).kept
        owed_are = pays_are_deltas (now s i).kept (committed s) (good.each i is).told (subst (IsSettled (now s i).kept) owes_none (good.each i is).settled)

  -- ---- a definition

  module _ (i : ℕ) (good : Good' s) (none_open : NoneIsOpen s) (o : Object) where
    abbrev definition : Entry
    definition = record { number = (committed s).number + 1; session = i; kept = defines o ∷ [] }

    nothing_kept : (p : Place) (n : ℕ) → n ≤ 64 → kept_up_to (changes_by s) p n ≡ 0
    nothing_kept p zero le = refl
    nothing_kept p (suc n) le =
        let rest : kept_up_to (changes_by s) p n ≡ 0 = nothing_kept p n (omega (arith, le)) in
        let here : changes_on p (changes_by s (suc n)) ≡ 0 = ap (λ (x : Option Open). changes_on p (changes_of (the_open x).kept)) (none_open (suc n) (omega arith, le)) in
        omega (arith, rest, here)

    schema_grows : schema_of (does the_views s i (Defines o)) ≡ schema_of s ++ o ∷ []
    schema_grows = ap (λ (d : Database). d.schema) (defined the_views fresh view_laws s i o)

    same_versions : versions_by (schema_of (does the_views s i (Defines o))) (s.history ++ definition ∷ []) ≡ versions_by (schema_of s) s.history
    same_versions =
        ap (λ (x : Schema). versions_by x (s.history ++ definition ∷ [])) schema_grows
        ∙ (versions_more (schema_of s ++ o ∷ []) s.history definition ∙ (append-nil (versions_by (schema_of s ++ o ∷ []) s.history) ∙ known_versions (schema_of s) o s.history s.origin good.history (λ n x e. e)))

    pub past_defines : IsPast R D P (does the_views s i (Defines o))
    past_defines = record {
      pending = λ p.
          let zero_kept = nothing_kept p 64 (omega arith) in
          past.pending p ∙ (ap (λ n. pending_of n (bytes_at s p)) zero_kept ∙ ap (λ n. pending_of n (bytes_at (does the_views s i (Defines o)) p)) (sym zero_kept));
      rows = subst (AreLeft R s.mark) (sym same_versions) past.rows;
      deltas = subst (AreLeft D s.mark) (sym (deltas_more s.history definition s.origin ∙ append-nil (deltas_by s.origin s.history))) past.deltas;
      absent = λ p none d c. past.absent p (added_there s.view (the_views.made_of (schema_of (with_entry s i (defines o ∷ []))) s.rows o) p none) d (old (nat_le ((committed s).number + 1) s.mark) d (subst (λ (l : List GroupDelta). Contains l d) (deltas_push s.mark s.history definition s.origin) c));
    }
      where
        old : (b : Bool) (d : GroupDelta) → Contains (deltas_above the_views s.mark s.origin s.history ++ cond b [] []) d → Contains (deltas_above the_views s.mark s.origin s.history) d
        old true d c = subst (λ (l : List GroupDelta). Contains l d) (append-nil (deltas_above the_views s.mark s.origin s.history)) c
        old false d c = subst (λ (l : List GroupDelta). Contains l d) (append-nil (deltas_above the_views s.mark s.origin s.history)) c
