-- Tables that are lists in the order of their keys: what is read of them, and written to them, is computed on the lists.
use Rattle.std.specs.Prelude.{◌≡◌, ℕ, ◌==◌, Bool, true, false, cond, not, T, List, [], ◌∷◌, ◌++◌, map, filter, ℤ, Option, Some, None, is_some}
use Rattle.std.specs.List.{flat_map}
use Rattle.std.specs.Option.{unwrap_or}
use mathlib.Core.Path.{refl, sym, ap, ◌∙◌}
use Rattle.std.specs.FinMap.{get, empty, entries, entries_sorted, find, put as put_entry, is_sorted, from_entries, same_entries_map, entries-from_sorted, entries-insert, get-entries, get-empty, get-from_sorted, get-remove, same_map}
use Rattle.std.specs.FinMap.{nat_cmp-IsAntisymmetric, slice_cmp-IsAntisymmetric}
use Rattle.std.specs.FinMap.Entries.{where_key, same_entries, is_sorted-put, is_sorted-where_key, find-where_key}
use Rattle.std.specs.declared.cmp.Ordering.{Ordering}
use Rattle.std.specs.Ordering.{nat_cmp, eq_by_cmp}
use Rattle.std.specs.Cmp.{eq_by_cmp_equiv}
use Rattle.std.specs.Cmp.Lexicographic.{slice_cmp, nat_list_cmp_total}
use Rattle.iv_types.specs.declared.catalog.IndexDef.{IndexDef}
use Rattle.iv_types.specs.declared.lock.GroupDelta.{GroupDelta}
use Rattle.iv_types.specs.declared.value.Interval.{Interval}
use Rattle.table_laws.specs.Place.{Place, place_cmp}
use Rattle.table_laws.specs.Table.{write, rows_where}
use Rattle.table_laws.proofs.Place.{place_cmp_total, place_cmp-IsAntisymmetric}
use Rattle.iv_meaning.specs.Schema.{Schema, Object, table, index, view, ViewTree, numbered}
use Rattle.iv_meaning.specs.Database.{Row, Rows, Database, rows_of, key_of}
use Rattle.iv_types.specs.Encoding.{lies_in}
use Rattle.iv_meaning.specs.View.{index_key, view_key, view_rows, whole_view, rows_between, index_rows, object_rows, read}
use Rattle.iv_meaning.specs.Statement.{Kept, sets, defines, keep_all}
use Rattle.iv_meaning.specs.History.{Entry, fold}
use Rattle.iv_meaning.proofs.SaleLemmas.{no_entries}
use Rattle.txn_machine.specs.Deltas.{RowChange, contributions, views_of, exchanged, columns_of, place_of, owed_to, owed}
use Rattle.txn_machine.specs.Fresh.{fresh, made_of}
use Rattle.txn_machine.specs.Stored.{ViewRows, plus, add_to, add_all}
use Rattle.txn_machine.specs.Store.{committed}
use Rattle.txn_machine.proofs.PlainStates.{table_of, set_in, bare, Plain, state_of, kept_in, kept_objects, rows_after, objects_after, number_after, base, schema, number_of, rows_at, listed, between, view_rows_in, index_rows_in, found_in, object_rows_in, contributions_in, around, owed_to_in, owed_in, add_in, adds_in, all_in, fresh_in, made_in, is_made}

abbrev pub InOrder : {X : Type 0} → List (Place × X) → Type 0
InOrder l = T (is_sorted place_cmp l)

pub entries_are : {X : Type 0} (l : List (Place × X)) → InOrder l → entries (table_of l) ≡ l
entries_are l h = entries-from_sorted place_cmp l h

pub get_is : {X : Type 0} (l : List (Place × X)) (k : Place) → InOrder l → get (table_of l) k ≡ find place_cmp k l
get_is l k h = get-from_sorted place_cmp l k h

pub none_is : {X : Type 0} → empty {X = X} {R = place_cmp} ≡ table_of []
none_is {X = X} = same_entries_map (empty {X = X} {R = place_cmp}) (table_of []) (no_entries ∙ sym (entries_are [] tt))

-- ---- writes

pub set_sorted : {X : Type 0} (k : Place) (o : Option X) (l : List (Place × X)) → InOrder l → InOrder (set_in k o l)
set_sorted k None l h = is_sorted-where_key place_cmp (λ x. not (eq_by_cmp place_cmp k x)) l h
set_sorted k (Some x) l h = is_sorted-put place_cmp place_cmp_total k x l h

turned : {A : Type 0} (b : Bool) (x y : A) → cond (not b) x y ≡ cond b y x
turned true x y = refl
turned false x y = refl

removed_find : {X : Type 0} (k q : Place) (l : List (Place × X)) → find place_cmp q (where_key place_cmp (λ x. not (eq_by_cmp place_cmp k x)) l) ≡ cond (not (eq_by_cmp place_cmp k q)) (find place_cmp q l) None
removed_find k q l = find-where_key place_cmp (λ x. not (eq_by_cmp place_cmp k x)) q (λ x e. ap (λ (y : Place). not (eq_by_cmp place_cmp k y)) (sym (place_cmp-IsAntisymmetric q x e))) l

pub write_is : {X : Type 0} (k : Place) (o : Option X) (l : List (Place × X)) → InOrder l → write (table_of l) k o ≡ table_of (set_in k o l)
write_is k None l h = same_map place_cmp_total place_cmp-IsAntisymmetric (write (table_of l) k None) (table_of (set_in k None l)) (λ q.
    get-remove place_cmp_total (table_of l) k q
    ∙ (ap (λ b. cond b None (get (table_of l) q)) (sym ((eq_by_cmp_equiv place_cmp_total).symm k q))
    ∙ (ap (cond (eq_by_cmp place_cmp k q) None) (get_is l q h)
    ∙ (sym (turned (eq_by_cmp place_cmp k q) (find place_cmp q l) None)
    ∙ (sym (removed_find k q l)
    ∙ sym (get_is (set_in k None l) q (set_sorted k None l h)))))))
write_is k (Some x) l h = same_entries_map (write (table_of l) k (Some x)) (table_of (set_in k (Some x) l))
    (entries-insert place_cmp_total (table_of l) k x ∙ (ap (put_entry place_cmp k x) (entries_are l h) ∙ sym (entries_are (set_in k (Some x) l) (set_sorted k (Some x) l h))))

-- a delta added to its row
pub add_is : (d : GroupDelta) (l : List (Place × List ℤ)) → InOrder l → add_to (table_of l) d ≡ table_of (add_in d l)
add_is d l h =
    ap (λ (o : Option (List ℤ)). write (table_of l) (place_of d) (Some (plus (unwrap_or o []) (columns_of d)))) (get_is l (place_of d) h)
    ∙ write_is (place_of d) (Some (plus (unwrap_or (find place_cmp (place_of d) l) []) (columns_of d))) l h

pub adds_are : (ds : List GroupDelta) (l : List (Place × List ℤ)) → InOrder l → add_all (table_of l) ds ≡ table_of (adds_in ds l)
adds_are [] l h = refl
adds_are (d ∷ ds) l h =
    ap (λ (v : ViewRows). add_all v ds) (add_is d l h) ∙ adds_are ds (add_in d l) (set_sorted (place_of d) (Some (plus (unwrap_or (find place_cmp (place_of d) l) []) (columns_of d))) l h)

-- ---- what was committed

pub kept_sorted : (ks : List Kept) (l : List (Place × Row)) → InOrder l → InOrder (kept_in ks l)
kept_sorted [] l h = h
kept_sorted (sets c ∷ ks) l h = kept_sorted ks (set_in c.key c.after l) (set_sorted c.key c.after l h)
kept_sorted (defines o ∷ ks) l h = kept_sorted ks l h

pub rows_sorted : (es : List Entry) (l : List (Place × Row)) → InOrder l → InOrder (rows_after es l)
rows_sorted [] l h = h
rows_sorted (e ∷ es) l h = rows_sorted es (kept_in e.kept l) (kept_sorted e.kept l h)

-- the database of these definitions and rows
abbrev pub with_rows : ℕ → Schema → List (Place × Row) → Database
with_rows n objects l = record { number = n; schema = objects; rows = table_of l }

pub keeps_is : (ks : List Kept) (n : ℕ) (objects : Schema) (l : List (Place × Row)) → InOrder l → keep_all ks (with_rows n objects l) ≡ with_rows n (kept_objects ks objects) (kept_in ks l)
keeps_is [] n objects l h = refl
keeps_is (sets c ∷ ks) n objects l h =
    ap (λ (m : Rows). keep_all ks (record { number = n; schema = objects; rows = m })) (write_is c.key c.after l h)
    ∙ keeps_is ks n objects (set_in c.key c.after l) (set_sorted c.key c.after l h)
keeps_is (defines o ∷ ks) n objects l h = keeps_is ks n (objects ++ o ∷ []) l h

pub fold_is : (es : List Entry) (n : ℕ) (objects : Schema) (l : List (Place × Row)) → InOrder l → fold es (with_rows n objects l) ≡ with_rows (number_after es n) (objects_after es objects) (rows_after es l)
fold_is [] n objects l h = refl
fold_is (e ∷ es) n objects l h =
    ap (λ (db : Database). fold es (record db { number = e.number })) (keeps_is e.kept n objects l h)
    ∙ fold_is es e.number (kept_objects e.kept objects) (kept_in e.kept l) (kept_sorted e.kept l h)

-- the database as it was opened
pub origin_is : (n : ℕ) (objects : Schema) → bare n objects ≡ with_rows n objects []
origin_is n objects = ap (λ (m : Rows). record { number = n; schema = objects; rows = m }) none_is

abbrev pub plain_db : Plain → Database
plain_db p = with_rows (number_of p) (schema p) (base p)

pub base_sorted : (p : Plain) → InOrder (base p)
base_sorted p = rows_sorted p.history [] tt

pub committed_is : (p : Plain) → committed (state_of p).store ≡ plain_db p
committed_is p = ap (fold p.history) (origin_is p.number p.objects) ∙ fold_is p.history p.number p.objects [] tt

-- ---- what is read

abbrev pub key_cmp : List ℕ → List ℕ → Ordering
key_cmp = slice_cmp nat_cmp

no_keys : entries (empty {X = Row} {R = key_cmp}) ≡ []
no_keys = same_entries key_cmp nat_list_cmp_total (slice_cmp-IsAntisymmetric nat_cmp-IsAntisymmetric) (entries (empty {X = Row} {R = key_cmp})) [] (entries_sorted empty) tt (λ q. sym (get-entries empty q) ∙ get-empty key_cmp q)

listed_is : (l : List (List ℕ × Row)) → entries (from_entries {R = key_cmp} l) ≡ listed l
listed_is [] = no_keys
listed_is (e ∷ es) = entries-insert nat_list_cmp_total (from_entries es) e.0 e.1 ∙ ap (put_entry key_cmp e.0 e.1) (listed_is es)

between_is : (key : Row → List ℕ) (interval : Interval) (rows : List Row) → rows_between key interval rows ≡ between key interval rows
between_is key interval rows =
    ap (λ (es : List (List ℕ × Row)). map (λ (e : List ℕ × Row). e.1) (filter (λ (e : List ℕ × Row). lies_in e.0 interval) es)) (listed_is (map (λ row. (key row, row)) rows))

-- what is said of the entries of a table holds of its list
abbrev of_entries : {X : Type 0} (f : List (Place × Row) → X) (l : List (Place × Row)) → InOrder l → f (entries (table_of l)) ≡ f l
of_entries f l h = ap f (entries_are l h)

index_read : (n : ℕ) (objects : Schema) (l : List (Place × Row)) (i : IndexDef) (o : Option Object) (interval : Interval) → InOrder l → index_rows (with_rows n objects l) i o interval ≡ index_rows_in l i o interval
index_read n objects l i (Some (table t)) interval h =
    between_is (index_key t i) interval (rows_of (table_of l) t.number) ∙ of_entries (λ es. between (index_key t i) interval (rows_at es t.number)) l h
index_read n objects l i (Some (index x)) interval h = refl
index_read n objects l i (Some (view v)) interval h = refl
index_read n objects l i None interval h = refl

object_read : (n : ℕ) (objects : Schema) (l : List (Place × Row)) (o : Option Object) (interval : Interval) → InOrder l → object_rows (with_rows n objects l) o interval ≡ object_rows_in objects l o interval
object_read n objects l (Some (table t)) interval h =
    between_is (key_of t) interval (rows_of (table_of l) t.number) ∙ of_entries (λ es. between (key_of t) interval (rows_at es t.number)) l h
object_read n objects l (Some (index i)) interval h = index_read n objects l i (numbered objects i.table) interval h
object_read n objects l (Some (view v)) interval h =
    between_is (view_key objects v) interval (view_rows objects (table_of l) v) ∙ of_entries (λ es. between (view_key objects v) interval (view_rows_in objects es v)) l h
object_read n objects l None interval h = refl

pub read_is : (n : ℕ) (objects : Schema) (l : List (Place × Row)) (number : ℕ) (interval : Interval) → InOrder l → read (with_rows n objects l) number interval ≡ found_in objects l number interval
read_is n objects l number interval h = object_read n objects l (numbered objects number) interval h

-- ---- what is owed

contributions_are : (objects : Schema) (v : ViewTree) (l : List (Place × Row)) (o : Option Row) → InOrder l → contributions objects v (table_of l) o ≡ contributions_in objects v l o
contributions_are objects v l None h = refl
contributions_are objects v l (Some row) h = of_entries (λ es. contributions_in objects v es (Some row)) l h

abbrev owed_by : Schema → ViewTree → Rows → Rows → (Place → Option Row) → (Place → Option Row) → List (Place × Row) → List GroupDelta
owed_by objects v rows after f g es =
    flat_map (λ k. exchanged (contributions objects v rows (f k)) (contributions objects v after (g k))) (map (λ (e : Place × Row). e.0) (rows_where (λ place row. place.0 == v.first) es))

around_is : (l : List (Place × Row)) (k : Place) (o new : Option Row) → InOrder l → o ≡ new
    → entries (elim o [ None ↦ table_of l | Some row ↦ write (table_of l) k new ]) ≡ around l k o
around_is l k None new h e = entries_are l h
around_is l k (Some row) new h e =
    ap (λ (x : Option Row). entries (write (table_of l) k x)) (sym e)
    ∙ (ap entries (write_is k (Some row) l h) ∙ entries_are (set_in k (Some row) l) (set_sorted k (Some row) l h))

owed_to_is : (objects : Schema) (l : List (Place × Row)) (c : RowChange) (v : ViewTree) → InOrder l → owed_to objects (table_of l) c v ≡ owed_to_in objects l c.key c.after v
owed_to_is objects l c v h =
    let later : List (Place × Row) = set_in c.key c.after l in
    let sorted : InOrder later = set_sorted c.key c.after l h in
    let places : List Place = map (λ (e : Place × Row). e.0) (rows_where (λ place row. place.0 == v.first) (around l c.key c.after)) in
    ap (λ (es : List (Place × Row)). owed_by objects v (table_of l) (write (table_of l) c.key c.after) (get (table_of l)) (get (write (table_of l) c.key c.after)) es) (around_is l c.key c.after c.after h refl)
    ∙ (ap (λ (m : Rows). owed_by objects v (table_of l) m (get (table_of l)) (get m) (around l c.key c.after)) (write_is c.key c.after l h)
    ∙ ((λ i. owed_by objects v (table_of l) (table_of later) (λ k. get_is l k h i) (λ k. get_is later k sorted i) (around l c.key c.after))
    ∙ (λ i. flat_map (λ k. exchanged (contributions_are objects v l (find place_cmp k l) h i) (contributions_are objects v later (find place_cmp k later) sorted i)) places)))

pub owed_is : (objects : Schema) (l : List (Place × Row)) (c : RowChange) → InOrder l → owed objects (table_of l) c ≡ owed_in objects l c.key c.after
owed_is objects l c h = λ i. flat_map (λ v. owed_to_is objects l c v h i) (views_of objects)

-- ---- views evaluated afresh

pub fresh_is : (objects : Schema) (l : List (Place × Row)) (place : Place) (column : ℕ) → InOrder l → fresh objects (table_of l) place column ≡ fresh_in objects l place column
fresh_is objects l place column h = of_entries (λ es. fresh_in objects es place column) l h

pub made_is : (objects : Schema) (l : List (Place × Row)) (o : Object) → InOrder l → made_of objects (table_of l) o ≡ made_in objects l o
made_is objects l (table t) h = refl
made_is objects l (index i) h = refl
made_is objects l (view v) h = of_entries (λ es. all_in objects es v) l h

pub whole_is : (objects : Schema) (l : List (Place × Row)) (v : ViewTree) → InOrder l → is_some (whole_view objects (table_of l) v) ≡ is_made objects l (view v)
whole_is objects l v h = of_entries (λ es. is_made objects es (view v)) l h
