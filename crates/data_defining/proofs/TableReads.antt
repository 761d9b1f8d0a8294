-- What a new object reads of tables.
use Rattle.std.specs.Prelude.{◌≡◌, ◌⊎◌, ℕ, suc, ◌<◌, Bool, true, List, [], ◌∷◌, ◌++◌, map, filter, length, cond, slice_get, Option, None, Some, Ok, Err, IsSome}
use Rattle.std.specs.List.{AllByRecursion, cons_option}
use Rattle.std.specs.Option.{option_map}
use mathlib.Core.Path.{refl, sym, ap, subst, ◌∙◌}
use mathlib.Core.Logic.{inl, inr}
use Rattle.std.proofs.Common.{arith}
use Rattle.std.proofs.lemmas.List.{length-map}
use Rattle.std.proofs.lemmas.List.Elements.{recursion_from_All}
use Rattle.iv_types.specs.Maps.{Map}
use Rattle.iv_types.specs.Definitions.{Definitions, AreNumbered}
use Rattle.iv_types.specs.declared.catalog.TableDef.{TableDef}
use Rattle.iv_types.specs.declared.catalog.IndexDef.{IndexDef}
use Rattle.iv_types.specs.declared.catalog.Second.{Second}
use Rattle.iv_types.specs.declared.value.Kind.{Kind}
use Rattle.iv_types.specs.declared.value.Interval.{Interval}
use Rattle.iv_types.specs.declared.value.RowsOf.{RowsOf}
use Rattle.iv_types.specs.declared.refusal.Refusal.{Refusal}
use Rattle.iv_types.specs.declared.refusal.Refusal.TheVariants as refused
use Rattle.iv_types.specs.Encoding.{FitAll, kinds_of, lies_in}
use Rattle.iv_meaning.specs.Database.{Row, Rows, Database, rows_of, key_of}
use Rattle.iv_meaning.specs.Objects.{schema_of}
use Rattle.iv_meaning.specs.Schema as schema
use Rattle.iv_meaning.specs.Schema.{Schema, Object, ViewTree, numbered, items_at, kinds_of_table, primary_of, sources_of}
use Rattle.iv_meaning.specs.Sound.{AreColumns, IsTable, IsView}
use Rattle.iv_meaning.specs.Statement.{Refused, create_meaning}
use Rattle.iv_meaning.specs.View.{read, object_rows, rows_between, whole_view}
use Rattle.query_laws.proofs.Rising.{between_rising}
use Rattle.query_laws.proofs.TableRows.{rows_law}
use Rattle.row_eval.specs.Fresh.{table_rows, AreAlike, RowsFit, JoinsAlike, IsReadable}
use Rattle.row_eval.specs.Grouped.{Gives}
use Rattle.table_store.specs.Stored.{table_of, AreRows}
use Rattle.txn_machine.specs.Steps.{FindsIn}
use Rattle.txn_machine.specs.ViewLaws.{AreSound, IsJoin, IsJoined}
use Rattle.txn_machine.proofs.Sharing.{table_fits}
use Rattle.ghost_rows.specs.State.{State}
use Rattle.data_store.specs.Contents.{Contents}
use Rattle.data_store.specs.Reading.{CanBeRead, CanFind, HasRows}
use Rattle.data_store.proofs.Finding.{is_some_table, table_there}
use Rattle.data_defining.specs.Defining.{CanEvaluate, CanReadView}
use Rattle.data_defining.proofs.Defined.{last_cases, at_last}
use Rattle.data_defining.proofs.NewRows.{was_table, tables_were}

-- ---- a whole table

all_lie : (key : List ℕ) → lies_in key (record { low = []; high = None }) ≡ true
all_lie [] = refl
all_lie (x ∷ xs) = refl

all_pass : {X : Type 0} (p : X → Bool) → ((x : X) → p x ≡ true) → (xs : List X) → filter p xs ≡ xs
all_pass p h [] = refl
all_pass p h (x ∷ xs) = ap (λ b. cond b (x ∷ filter p xs) (filter p xs)) (h x) ∙ ap (λ l. x ∷ l) (all_pass p h xs)

pub whole_table : (c : Contents) → AreSound c.objects c.rows → (n : ℕ) → IsTable c.objects n → (low : List ℕ) → low ≡ [] → (found : List Row)
    → FindsIn (record { number = 0; schema = c.objects; rows = c.rows }) c.view (numbered c.objects n) n (record { low = low; high = None }) found → found ≡ rows_of c.rows n
whole_table c sound n has low from found finds =
    let db : Database = record { number = 0; schema = c.objects; rows = c.rows } in
    let t : TableDef = has.0 in
    let whole : Interval = record { low = []; high = None } in
    let told : read db n whole ≡ found = subst (λ l. read db n (record { low = l; high = None }) ≡ found) from (subst (λ o. FindsIn db c.view o n (record { low = low; high = None }) found) has.1 finds) in
    let number : t.number ≡ n = (sound.objects n (schema.table t) has.1).0 in
    let rises = (rows_law db (record { objects = sound.objects; rows = sound.rows }) n t has.1).0 in
    sym told ∙ (ap (λ o. object_rows db o whole) has.1
    ∙ (ap (λ m. rows_between (key_of t) whole (rows_of c.rows m)) number
    ∙ (between_rising (key_of t) whole (rows_of c.rows n) rises ∙ all_pass (λ row. lies_in (key_of t row) whole) (λ row. all_lie (key_of t row)) (rows_of c.rows n))))

pub can_find : (ds : Definitions) (maps : ℕ → Map) (state : State) (c : Contents) → CanBeRead ds maps state c → (n : ℕ) → IsTable c.objects n → CanFind ds maps state n
can_find ds maps state c r n has = record { contents = c; readable = r; has_rows = subst (HasRows c.objects) (sym has.1) tt }

-- a table of other contents of the store
pub same_table_in : (ds : Definitions) (maps : ℕ → Map) (state : State) (c e : Contents) → CanBeRead ds maps state c → CanBeRead ds maps state e → (n : ℕ) → IsTable c.objects n → IsTable e.objects n
same_table_in ds maps state c e r q n has = (has.0, ap (λ os. numbered os n) (sym q.held.objects ∙ r.held.objects) ∙ has.1)

-- ---- what a view reads

pub second_there : (objects : Schema) (first : ℕ) (s : Option Second) (second : Second) → s ≡ Some second → AllByRecursion (IsTable objects) (first ∷ elim s as (λ (x : Option Second). List ℕ) [ None ↦ [] | Some x ↦ x.table ∷ [] ]) → IsTable objects second.table
second_there objects first s second is h = (subst (λ (x : Option Second). AllByRecursion (IsTable objects) (first ∷ elim x as (λ (x : Option Second). List ℕ) [ None ↦ [] | Some y ↦ y.table ∷ [] ])) is h).1.0

rows_fit_each : (objects : Schema) (rows : Rows) (tables : List RowsOf) → AreSound objects rows → (ns : List ℕ) → AllByRecursion (IsTable objects) ns → map (table_rows tables) ns ≡ map (rows_of rows) ns → AllByRecursion (RowsFit objects tables) ns
rows_fit_each objects rows tables sound [] h same = tt
rows_fit_each objects rows tables sound (n ∷ ns) h same =
    let head : table_rows tables n ≡ rows_of rows n = first_same same in
    (subst (AllByRecursion (λ row. FitAll (kinds_of_table (numbered objects n)) row)) (sym head) (table_fits objects rows sound n h.0), rows_fit_each objects rows tables sound ns h.1 (rest_same same))
  where
    first_same : {X : Type 0} {x y : X} {xs ys : List X} → x ∷ xs ≡ y ∷ ys → x ≡ y
    first_same e = cc

    rest_same : {X : Type 0} {x y : X} {xs ys : List X} → x ∷ xs ≡ y ∷ ys → xs ≡ ys
    rest_same e = cc

item : {X : Type 0} (xs : List X) (i : ℕ) → i < length xs → (x : X) × (slice_get xs i ≡ Some x)
item [] i lt = absurd (omega (arith, lt))
item (x ∷ xs) ℕ.zero lt = (x, refl)
item (x ∷ xs) (suc i) lt = item xs i (omega (arith, lt))

alike : (one other : List Kind) (columns places : List ℕ) → AllByRecursion (λ p. p < length one) columns → AllByRecursion (λ p. p < length other) places → length columns ≡ length places → items_at one columns ≡ items_at other places → AreAlike one other columns places
alike one other [] [] h k same e = tt
alike one other [] (p ∷ ps) h k same e = absurd (omega (arith, same))
alike one other (c ∷ cs) [] h k same e = absurd (omega (arith, same))
alike one other (c ∷ cs) (p ∷ ps) h k same e =
    let a = item one c h.0 in
    let b = item other p k.0 in
    let both : a.0 ∷ items_at one cs ≡ b.0 ∷ items_at other ps = sym (ap (λ (o : Option Kind). cons_option o (items_at one cs)) a.1) ∙ (e ∙ ap (λ (o : Option Kind). cons_option o (items_at other ps)) b.1) in
    let here : b.0 ≡ a.0 = cc in
    let rest : items_at one cs ≡ items_at other ps = cc in
    (subst (λ (o : Option Kind). Rattle.row_eval.specs.Fresh.HasOneKind o (slice_get other p)) (sym a.1) (b.1 ∙ ap Some here), alike one other cs ps h.1 k.1 (omega (arith, same)) rest)

module _ (objects : Schema) (rows : Rows) (v : ViewTree) (sound : AreSound objects rows) (is : IsView (objects ++ schema.view v ∷ []) v) (joined : IsJoined (objects ++ schema.view v ∷ []) v) where
  columns_kinds : (t : TableDef) (places : List ℕ) → AreColumns t places → AllByRecursion (λ p. p < length (kinds_of t)) places
  columns_kinds t places h = subst (λ n. AllByRecursion (λ p. p < n) places) (sym (length-map t.columns _)) (recursion_from_All (λ p. p < length t.columns) places h)

  joins : (s : Option Second) → elim s as (λ (x : Option Second). Type 0) [ None ↦ Unit {0} | Some second ↦ IsJoin (objects ++ schema.view v ∷ []) v second ] → JoinsAlike objects v s
  joins None j = tt
  joins (Some second) j =
      let first : numbered objects v.first ≡ Some (schema.table j.first) = was_table objects v is joined v.first j.first j.first_is in
      let other : numbered objects second.table ≡ Some (schema.table j.other) = was_table objects v is joined second.table j.other j.other_is in
      let their = (sound.objects second.table (schema.table j.other) other).1 in
      let so : AreAlike (kinds_of j.first) (kinds_of j.other) second.joined j.other.primary =
      alike (kinds_of j.first) (kinds_of j.other) second.joined j.other.primary (columns_kinds j.first second.joined j.columns) (columns_kinds j.other j.other.primary their) j.all j.kinds in
      subst (λ (x : Option Object). AreAlike (kinds_of_table x) (kinds_of_table (numbered objects second.table)) second.joined (primary_of (numbered objects second.table))) (sym first)
      (subst (λ (x : Option Object). AreAlike (kinds_of j.first) (kinds_of_table x) second.joined (primary_of x)) (sym other) so)

  readable : (tables : List RowsOf) → map (table_rows tables) (sources_of v) ≡ map (rows_of rows) (sources_of v) → IsReadable objects tables v
  readable tables same = record { rows = rows_fit_each objects rows tables sound (sources_of v) (tables_were objects v is joined) same; joined = joins v.second joined }

-- ---- by what can be evaluated

module _ (ds : Definitions) (maps : ℕ → Map) (state : State) (c : Contents) where
  last_there : (o : Object) → numbered (c.objects ++ o ∷ []) (suc (length c.objects)) ≡ Some o
  last_there o = at_last c.objects o

  -- a new view
  pub may_read : (v : ViewTree) → CanEvaluate ds maps state (schema.view v) c → CanReadView ds maps state v c
  may_read v e = record {
    readable = e.readable;
    sound = e.sound;
    is_view = (e.after.objects (suc (length c.objects)) (schema.view v) (last_there (schema.view v))).1;
    is_joined = e.after.joins (suc (length c.objects)) v (last_there (schema.view v));
  }

  pub its_tables : (v : ViewTree) → CanReadView ds maps state v c → AllByRecursion (IsTable c.objects) (sources_of v)
  its_tables v r = tables_were c.objects v r.is_view r.is_joined

  pub can_recompute : (v : ViewTree) → CanReadView ds maps state v c → (tables : List RowsOf) → map (table_rows tables) (sources_of v) ≡ map (rows_of c.rows) (sources_of v) → IsReadable (schema_of ds) tables v
  can_recompute v r tables same = subst (λ os. IsReadable os tables v) (sym r.readable.held.objects) (readable c.objects c.rows v r.sound r.is_view r.is_joined tables same)

  pub its_table : (i : IndexDef) → CanEvaluate ds maps state (schema.index i) c → IsTable c.objects i.table
  its_table i e =
      let its = (e.after.objects (suc (length c.objects)) (schema.index i) (last_there (schema.index i))).1 in
      elim (last_cases c.objects (schema.index i) i.table (schema.table its.of) its.table_is) [
        | inl old ↦ (its.of, old)
        | inr new ↦ absurd (let bad : schema.index i ≡ schema.table its.of = new.1 in cc)
      ]

  pub table_defined : (i : IndexDef) → CanEvaluate ds maps state (schema.index i) c → IsSome (table_of ds i.table)
  table_defined i e = is_some_table ds maps state c e.readable.held i.table (its_table i e)

  pub rows_there : (i : IndexDef) → CanEvaluate ds maps state (schema.index i) c → AreNumbered ds → (t : TableDef) → table_of ds i.table ≡ Some t → t.number ≡ i.table → AreRows t (maps t.number)
  rows_there i e are t is number =
      let has = table_there ds maps state c e.readable.held are i.table (its_table i e) in
      let same : has.0 ≡ t = Rattle.table_store.proofs.Rows.some_same has.0 t (sym has.1 ∙ is) in
      subst (λ n. AreRows t (maps n)) (sym number) (subst (λ (u : TableDef). AreRows u (maps i.table)) same has.2)

-- ---- what is given, and what is refused

-- what is given is what there is
pub given : {X Y : Type 0} (f : X → Y) (o : Option X) (y : Y) → Gives (option_map f o) (Ok y) → (x : X) × (o ≡ Some x) × (y ≡ f x)
given f None y h = absurd h
given f (Some x) y h = (x, refl, h)

pub view_refused : (db : Database) (v : ViewTree) (r : Refusal) (o : Option (List Row)) {Y : Type 0} (f : List Row → Y) → whole_view db.schema db.rows v ≡ o → Gives (option_map f o) (Err r) → (r ≡ refused.NoMemory) ⊎ (create_meaning (schema.view v) db ≡ Refused r)
view_refused db v r (Some rows) f e h = inl h
view_refused db v r None f e h = elim h [
  | inl range ↦ inr (ap (λ (x : Option (List Row)). cond (Rattle.std.specs.Prelude.is_some x) (Rattle.iv_meaning.specs.Statement.Accepted [] 0 (Rattle.iv_meaning.specs.Statement.defines (schema.view v) ∷ [])) (Refused refused.NumberRange)) e ∙ ap Refused (sym range))
  | inr memory ↦ inl memory
]
