-- Entries that stand for rows, groups and parts of definitions are those of pages.
use Rattle.std.proofs.Common.{◌≡◌, ◌≢◌, inl, inr, ◌⊎◌, ⊎_elim, ℕ, zero, suc, ℤ, pos, List, [], ◌∷◌, ◌++◌, map, length, get_or, Option, Some, None, refl, sym, ap, subst, ◌∙◌}
use Rattle.std.specs.Prelude.{reverse}
use Rattle.std.specs.List.{Contains, All, AllByRecursion, concat}
use Rattle.std.specs.Option.{option_map_or}
use Rattle.std.specs.FinMap.{get, get-empty, empty}
use Rattle.std.proofs.lemmas.Bool.{cases_lt}
use Rattle.std.proofs.lemmas.Option.{none-some}
use Rattle.std.proofs.lemmas.List.{get_or_past, reverse-append}
use Rattle.std.proofs.lemmas.List.Elements.{All-from_recursion}
use Rattle.iv_types.specs.Encoding.{IsHuge, row_bytes}
use Rattle.table_laws.specs.Place.{Place, place_cmp}
use Rattle.table_laws.specs.Table.{write}
use Rattle.table_laws.proofs.Place.{place_cmp_total, place_cmp-IsAntisymmetric}
use Rattle.table_laws.proofs.Tables.{get-write_at, get-write_other}
use Rattle.iv_meaning.specs.Schema.{Schema, Object, view, numbered, kinds_of_table}
use Rattle.iv_meaning.specs.Database.{Row, Rows, created}
use Rattle.iv_meaning.specs.Sound.{IsRow}
use Rattle.txn_machine.specs.Stored.{ViewRows, IsStoredRow, stored_number}
use Rattle.txn_machine.specs.ViewLaws.{AreSound}
use Rattle.txn_machine.proofs.Agreeing.{by_place}
use Rattle.txn_machine.proofs.Basics.{contains_none}
use Rattle.txn_machine.proofs.Creating.{creates_sound}
use Rattle.txn_machine.proofs.Holding.{contains_here, contains_next, contains_map}
use Rattle.txn_machine.proofs.Ranging.{huge_zero}
use Rattle.txn_log.specs.Replay.{Pages}
use Rattle.txn_log.specs.Appended.{Creates}
use Rattle.txn_log.specs.Stored.{PageEntry, total_bytes, AreParts, IsPartEntry, AllCreate}
use Rattle.txn_log.specs.Damaged.{Found, texts_found, MakesNext, EntryStands}
use Rattle.txn_log.proofs.Placing.{in_rest}
use Rattle.txn_log.proofs.Printed.{one_statement}
use Rattle.txn_log.proofs.Standing.{creates_once}
use Rattle.log_disk.specs.Bears.{all_entries, AreLeaves, StandOnce, AreStoredAs}
use Rattle.log_disk.specs.Found.{AreDefinitions}
use Rattle.log_disk.proofs.Defining.{create_more}
use Rattle.log_disk.proofs.Ordered.{is_part, part_there}
use Rattle.log_disk.proofs.Parting.{AllHold, ArePartsOf}
use Rattle.log_disk.proofs.Sound.{in_map}

-- ---- definitions

-- what texts make one after another
pub all_make : (earlier ts : List (ℕ × List ℕ)) (objects : Schema) → AllCreate [] (reverse (texts_found earlier)) objects → AllHold MakesNext earlier ts → (all : Schema) × AllCreate objects (texts_found ts) all
all_make earlier [] objects done h = (objects, refl)
all_make earlier (t ∷ ts) objects done h =
    let same : h.0.0 ≡ objects = creates_once one_statement [] (reverse (texts_found earlier)) h.0.0 objects h.0.1 done in
    let makes : Creates objects t.1 h.0.2 = subst (λ x. Creates x t.1 h.0.2) same h.0.3 in
    let more : AllCreate [] (reverse (texts_found (t ∷ earlier))) (objects ++ h.0.2 ∷ []) =
    subst (λ (xs : List (List ℕ)). AllCreate [] xs (objects ++ h.0.2 ∷ [])) (sym (reverse-append (t.1 ∷ []) (texts_found earlier)))
    (create_more [] (reverse (texts_found earlier)) objects (objects ++ h.0.2 ∷ []) t.1 h.0.2 done makes refl) in
    let rest = all_make (t ∷ earlier) ts (objects ++ h.0.2 ∷ []) more h.1 in
    (rest.0, (h.0.2, makes, rest.1))

pub no_rows : (objects : Schema) → AreSound objects created.rows → (texts : List (List ℕ)) (all : Schema) → AllCreate objects texts all → AreSound all created.rows
no_rows objects sound [] all h = subst (λ x. AreSound x created.rows) (sym h) sound
no_rows objects sound (text ∷ texts) all h =
    no_rows (objects ++ h.0 ∷ []) (creates_sound (record { number = 0; schema = objects; rows = created.rows }) h.1.0 h.0 sound h.1.2) texts all h.2

none_numbered : (n : ℕ) (o : Object) → numbered [] n ≡ Some o → ⊥
none_numbered zero o e = absurd (cc)
none_numbered (suc n) o e = absurd (cc)

pub none_sound : AreSound [] created.rows
none_sound = record {
  objects = λ n o there. absurd (none_numbered n o there);
  rows = λ place row there. absurd (none-some row (sym (get-empty place_cmp place) ∙ there));
  joins = λ n v there. absurd (none_numbered n (view v) there);
  typed = λ n v there. absurd (none_numbered n (view v) there);
}

-- ---- rows and groups

abbrev IsHeld : Schema → Rows → ViewRows → PageEntry → Type 0
IsHeld objects rows stored e =
    (((row : Row) × (get rows e.0 ≡ Some row) × (e.1 ≡ row_bytes (kinds_of_table (numbered objects e.0.0)) row)) ⊎ ((ns : List ℤ) × (get stored e.0 ≡ Some ns) × (e.1 ≡ total_bytes ns)))
    ⊎ (e.0.0 ≡ 0)

-- rows and view rows of these entries, which are all but those of index 0
record AreHeld (objects : Schema) (es : List PageEntry) : Type 0 where
  rows : Rows
  view : ViewRows
  there : (e : PageEntry) → Contains es e → IsHeld objects rows view e
  row_in : (k : Place) (row : Row) → get rows k ≡ Some row → Contains es (k, row_bytes (kinds_of_table (numbered objects k.0)) row) × IsRow objects k row
  total_in : (k : Place) (ns : List ℤ) → get view k ≡ Some ns → Contains es (k, total_bytes ns) × IsStoredRow objects k ns × All IsHuge ns

some_same : {X : Type 0} (x y : X) → Some x ≡ Some y → x ≡ y
some_same x y e = cc

module _ (objects : Schema) (e : PageEntry) (es : List PageEntry) (once : Contains (map (λ f. f.0) es) e.0 → ⊥) (h : AreHeld objects es) where
  apart : (f : PageEntry) → Contains es f → f.0 ≢ e.0
  apart f c same = once (subst (Contains (map (λ (x : PageEntry). x.0) es)) same (contains_map (λ (x : PageEntry). x.0) es f c))

  with_part : e.0.0 ≡ 0 → AreHeld objects (e ∷ es)
  with_part index = record {
    rows = h.rows;
    view = h.view;
    there = λ f c. in_rest e f es c (λ same. inr (ap (λ (x : PageEntry). x.0.0) (sym same) ∙ index)) (λ d. h.there f d);
    row_in = λ k row got. let one = h.row_in k row got in (contains_next e es _ one.0, one.1);
    total_in = λ k ns got. let one = h.total_in k ns got in (contains_next e es _ one.0, one.1, one.2);
  }

  with_row : (row : Row) → e.1 ≡ row_bytes (kinds_of_table (numbered objects e.0.0)) row → IsRow objects e.0 row → AreHeld objects (e ∷ es)
  with_row row value is = record {
    rows = more;
    view = h.view;
    there = λ f c. in_rest e f es c
        (λ same. subst (IsHeld objects more h.view) same (inl (inl (row, at e.0 refl, value))))
        (λ d. elim (h.there f d) [
          | inl (inl found) ↦ inl (inl (found.0, other f.0 (apart f d) ∙ found.1, found.2))
          | inl (inr found) ↦ inl (inr found)
          | inr index ↦ inr index
        ]);
    row_in = λ k r got. by_place k e.0
        (λ same.
        let one : row ≡ r = some_same row r (sym (at k same) ∙ got) in
        (subst (Contains (e ∷ es)) (λ t. (sym same t, (value ∙ (λ u. row_bytes (kinds_of_table (numbered objects (sym same u).0)) (one u))) t)) (contains_here e es), subst (λ x. IsRow objects x r) (sym same) (subst (IsRow objects e.0) one is)))
        (λ differ. let one = h.row_in k r (sym (other k differ) ∙ got) in (contains_next e es _ one.0, one.1));
    total_in = λ k ns got. let one = h.total_in k ns got in (contains_next e es _ one.0, one.1, one.2);
  }
    where
      more : Rows
      more = write h.rows e.0 (Some row)

      at : (k : Place) → k ≡ e.0 → get more k ≡ Some row
      at k same = get-write_at place_cmp_total place_cmp-IsAntisymmetric h.rows e.0 (Some row) k same

      other : (k : Place) → k ≢ e.0 → get more k ≡ get h.rows k
      other k differ = get-write_other place_cmp_total place_cmp-IsAntisymmetric h.rows e.0 (Some row) k differ

  with_total : (ns : List ℤ) → e.1 ≡ total_bytes ns → IsStoredRow objects e.0 ns → All IsHuge ns → AreHeld objects (e ∷ es)
  with_total ns value is huge = record {
    rows = h.rows;
    view = more;
    there = λ f c. in_rest e f es c
        (λ same. subst (IsHeld objects h.rows more) same (inl (inr (ns, at e.0 refl, value))))
        (λ d. elim (h.there f d) [
          | inl (inl found) ↦ inl (inl found)
          | inl (inr found) ↦ inl (inr (found.0, other f.0 (apart f d) ∙ found.1, found.2))
          | inr index ↦ inr index
        ]);
    row_in = λ k row got. let one = h.row_in k row got in (contains_next e es _ one.0, one.1);
    total_in = λ k ms got. by_place k e.0
        (λ same.
        let one : ns ≡ ms = some_same ns ms (sym (at k same) ∙ got) in
        (subst (Contains (e ∷ es)) (λ t. (sym same t, (value ∙ ap total_bytes one) t)) (contains_here e es), subst (λ x. IsStoredRow objects x ms) (sym same) (subst (IsStoredRow objects e.0) one is), subst (All IsHuge) one huge))
        (λ differ. let one = h.total_in k ms (sym (other k differ) ∙ got) in (contains_next e es _ one.0, one.1, one.2));
  }
    where
      more : ViewRows
      more = write h.view e.0 (Some ns)

      at : (k : Place) → k ≡ e.0 → get more k ≡ Some ns
      at k same = get-write_at place_cmp_total place_cmp-IsAntisymmetric h.view e.0 (Some ns) k same

      other : (k : Place) → k ≢ e.0 → get more k ≡ get h.view k
      other k differ = get-write_other place_cmp_total place_cmp-IsAntisymmetric h.view e.0 (Some ns) k differ

held : (objects : Schema) (es : List PageEntry) → StandOnce es → AllByRecursion (EntryStands objects) es → AreHeld objects es
held objects [] once stand = record {
  rows = created.rows;
  view = empty;
  there = λ e c. absurd (contains_none e c);
  row_in = λ k row got. absurd (none-some row (sym (get-empty place_cmp k) ∙ got));
  total_in = λ k ns got. absurd (none-some ns (sym (get-empty place_cmp k) ∙ got));
}
held objects (e ∷ es) once stand =
    let rest = held objects es once.1 stand.1 in
    elim stand.0 [
      | inl index ↦ with_part objects e es once.0 rest index
      | inr (inl r) ↦
          with_row objects e es once.0 rest r.1 (r.4 ∙ ap (λ (o : Option Object). row_bytes (kinds_of_table o) r.1) (sym r.2)) (record { of = r.0; table_is = r.2; key = r.5; fits = r.3 })
      | inr (inr t) ↦
          with_total objects e es once.0 rest t.1 t.4 (record { of = t.0.of; view_is = t.0.view_is; group = t.0.group; fits = t.0.fits; key = t.0.key; width = t.2 }) t.3
    ]

-- ---- the pages

huge_at : (ns : List ℤ) (column : ℕ) → All IsHuge ns → IsHuge (get_or ns column (pos 0))
huge_at ns column huge = ⊎_elim (λ lt. huge column (pos 0) lt) (λ le. subst IsHuge (sym (get_or_past ns column (pos 0) le)) huge_zero) (cases_lt column (length ns))

module _ (stored : List (Option (List ℕ))) (number : ℕ) (leaves : AreLeaves stored) (apart : StandOnce (all_entries stored)) (all ds : List Found) (are : map (λ f. f.entry) all ≡ all_entries stored)
    (defs : AreDefinitions all ds) (parts : ArePartsOf ds) (objects : Schema) (creates : AllCreate [] (map concat parts.texts) objects) (stand : AllByRecursion (EntryStands objects) (all_entries stored)) where
  abbrev h : AreHeld objects (all_entries stored)
  h = held objects (all_entries stored) apart stand

  abbrev pages : Pages
  pages = record { db = record { number = number; schema = objects; rows = h.rows }; view = h.view }

  sound : AreSound objects created.rows
  sound = no_rows [] none_sound (map concat parts.texts) objects creates

  in_range : (place : Place) (column : ℕ) → IsHuge (stored_number h.view place column)
  in_range place column = by (get h.view place) refl
    where
      by : (o : Option (List ℤ)) → get h.view place ≡ o → IsHuge (option_map_or (λ ns. get_or ns column (pos 0)) o (pos 0))
      by None is = huge_zero
      by (Some ns) is = huge_at ns column (h.total_in place ns is).2

  -- an entry of index 0 is a part of one of the texts
  part_of : (e : PageEntry) → Contains (all_entries stored) e → e.0.0 ≡ 0 → IsPartEntry parts.texts e
  part_of e c index =
      let f = in_map (λ (x : Found). x.entry) all e (subst (λ (xs : List PageEntry). Contains xs e) (sym are) c) in
      let among : Contains ds f.0 = (defs.among f.0).1 (f.1, ap (λ (x : PageEntry). x.0.0) f.2 ∙ index) in
      is_part parts.texts e (subst (λ (xs : List PageEntry). Contains xs e) parts.are (subst (Contains (map (λ x. x.entry) ds)) f.2 (contains_map (λ (x : Found). x.entry) ds f.0 among)))

  -- and the parts are all there
  part_in : (e : PageEntry) → IsPartEntry parts.texts e → Contains (all_entries stored) e
  part_in e is =
      let f = in_map (λ (x : Found). x.entry) ds e (subst (λ (xs : List PageEntry). Contains xs e) (sym parts.are) (part_there parts.texts e is)) in
      subst (λ (xs : List PageEntry). Contains xs e) are (subst (Contains (map (λ x. x.entry) all)) f.2 (contains_map (λ (x : Found). x.entry) all f.0 ((defs.among f.0).0 f.1).0))

  are_built : AreStoredAs stored pages
  are_built = record {
    proper = record {
      sound = record { objects = sound.objects; rows = λ place row got. (h.row_in place row got).1; joins = sound.joins; typed = sound.typed };
      stored = λ place ns got. (h.total_in place ns got).1;
      in_range = in_range;
    };
    leaves = leaves;
    apart = apart;
    texts = parts.texts;
    few = parts.few;
    short = parts.short;
    define = (All-from_recursion AreParts parts.texts parts.parts, creates);
    stand = λ e. (
      (λ c. elim (h.there e c) [
        | inl stored ↦ inl stored
        | inr index ↦ inr (part_of e c index)
      ]),
      (λ is. elim is [
        | inl (inl row) ↦ subst (Contains (all_entries stored)) (λ t. (e.0, sym row.2 t)) (h.row_in e.0 row.0 row.1).0
        | inl (inr total) ↦ subst (Contains (all_entries stored)) (λ t. (e.0, sym total.2 t)) (h.total_in e.0 total.0 total.1).0
        | inr part ↦ part_in e part
      ]),
    );
  }

  pub built : (p : Pages) × AreStoredAs stored p × (p.db.number ≡ number)
  built = (pages, are_built, refl)
