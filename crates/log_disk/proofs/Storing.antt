-- For proper pages there are stored pages that hold them: each entry in a page of its own.
use Rattle.std.proofs.Common.{◌≡◌, inl, inr, ◌⊎◌, Bool, true, false, T, ◌&&◌, ℕ, ◌+◌, ◌/◌, ◌%◌, ◌^◌, ◌<◌, ◌≤◌, ℤ, List, [], ◌∷◌, ◌++◌, map, length, replicate, Option, Some, refl, sym, ◌∙◌, ap, subst, arith}
use Rattle.std.specs.List.{Contains, All, AllByRecursion}
use Rattle.std.specs.FinMap.{get, entries_sorted, is_sorted}
use Rattle.std.specs.FinMap as maps
use Rattle.std.specs.FinMap.Entries.{below_all}
use Rattle.std.specs.declared.cmp.Ordering.{Ordering}
use Rattle.std.specs.declared.cmp.Ordering.TheVariants.{Less, Equal, Greater}
use Rattle.std.specs.Ordering.{is_lt}
use Rattle.std.proofs.Math.ListN.{set}
use Rattle.std.proofs.lemmas.List.{length-set, length-replicate}
use Rattle.std.proofs.lemmas.List.Elements.{Contains-append_left, Contains-append_right, Contains-append_cases, recursion_from_All}
use Rattle.disk_io.specs.Disk.{splice}
use Rattle.disk_io.specs.Bytes.{length-splice, byte-splice_before, byte-splice_in, byte-splice_after}
use Rattle.slot_page.specs.Page.{cell, Holds, IsLeaf}
use Rattle.slot_page.specs.Bytes.{number, Wrote}
use Rattle.slot_page.proofs.Pages.{length-cell, emptied, appended, entries_held, page_held, length-entries, packed_lies}
use Rattle.iv_types.specs.Encoding.{row_bytes}
use Rattle.table_laws.specs.Place.{Place, place_cmp}
use Rattle.table_laws.proofs.Place.{place_cmp_total, place_cmp-IsAntisymmetric}
use Rattle.table_laws.proofs.Tables.{Contains-entries}
use Rattle.iv_meaning.specs.Schema.{Schema, table, view, numbered, kinds_of_table}
use Rattle.iv_meaning.specs.Database.{Row}
use Rattle.iv_meaning.specs.Sound.{IsRow}
use Rattle.txn_machine.specs.Stored.{IsStoredRow}
use Rattle.txn_machine.proofs.Basics.{contains_none}
use Rattle.txn_machine.proofs.Holding.{contains_here, contains_next, contains_map}
use Rattle.txn_log.specs.Replay.{Pages}
use Rattle.txn_log.specs.Stored.{PageEntry, total_bytes, IsRowEntry, IsTotalEntry, StandFor, AreParts, AreProper}
use Rattle.txn_log.proofs.Placing.{in_rest}
use Rattle.txn_log.proofs.Standing.{row_numbered, total_numbered}
use Rattle.log_disk.specs.Bears.{page_entries, all_entries, AreLeaves, StandOnce, FitsPage, StoredLaw}
use Rattle.log_disk.specs.Found.{AreByKey}
use Rattle.log_disk.proofs.Borne.{all_get}
use Rattle.log_disk.proofs.Ordered.{less_apart, texts_from, is_part, part_there, texts_order}

-- ---- a page of one entry

spliced : (at : ℕ) (xs old : List ℕ) → at + length xs ≤ length old → Wrote at xs old (splice at xs old)
spliced at xs old fits = record {
  size = length-splice at xs old fits;
  shown = λ j lt. byte-splice_in at xs old j (omega (arith, fits)) lt;
  below = λ j lt. byte-splice_before at xs old j (omega (arith, fits)) lt;
  above = λ j le. byte-splice_after at xs old j (omega (arith, fits)) le;
}

page_over : (p0 : List ℕ) → length p0 ≡ 8192 → (e : PageEntry) → FitsPage e → (page : List ℕ) × Holds page e.0.0 ((e.0.1, e.1) ∷ [])
page_over p0 size e fits =
    let of : ℕ = e.0.0 in
    let p1 : List ℕ = set p0 0 1 in
    let s1 : length p1 ≡ 8192 = length-set p0 0 1 ∙ size in
    let p2 : List ℕ = splice 2 (number 0) p1 in
    let w2 : Wrote 2 (number 0) p1 p2 = spliced 2 (number 0) p1 (omega (arith, s1)) in
    let s2 : length p2 ≡ 8192 = w2.size ∙ s1 in
    let p3 : List ℕ = splice 4 (number (of / 65536)) p2 in
    let w3 : Wrote 4 (number (of / 65536)) p2 p3 = spliced 4 (number (of / 65536)) p2 (omega (arith, s2)) in
    let s3 : length p3 ≡ 8192 = w3.size ∙ s2 in
    let p4 : List ℕ = splice 6 (number (of % 65536)) p3 in
    let w4 : Wrote 6 (number (of % 65536)) p3 p4 = spliced 6 (number (of % 65536)) p3 (omega (arith, s3)) in
    let s4 : length p4 ≡ 8192 = w4.size ∙ s3 in
    let long : length (cell (e.0.1, e.1)) ≡ 4 + length e.0.1 + length e.1 = length-cell (e.0.1, e.1) in
    let q1 : List ℕ = splice 16 (cell (e.0.1, e.1)) p4 in
    let v1 : Wrote 16 (cell (e.0.1, e.1)) p4 q1 = spliced 16 (cell (e.0.1, e.1)) p4 (omega (arith, s4, long, fits.1)) in
    let t1 : length q1 ≡ 8192 = v1.size ∙ s4 in
    let q2 : List ℕ = splice 8190 (number 16) q1 in
    let v2 : Wrote 8190 (number 16) q1 q2 = spliced 8190 (number 16) q1 (omega (arith, t1)) in
    let t2 : length q2 ≡ 8192 = v2.size ∙ t1 in
    let q3 : List ℕ = splice 2 (number 1) q2 in
    let v3 : Wrote 2 (number 1) q2 q3 = spliced 2 (number 1) q2 (omega (arith, t2)) in
    (q3, appended p4 q1 q2 q3 of [] (e.0.1, e.1) (emptied p0 p1 p2 p3 p4 of size fits.0 refl w2 w3 w4) (omega (arith, fits.1)) v1 v2 v3)

a_page : (e : PageEntry) → FitsPage e → (page : List ℕ) × Holds page e.0.0 ((e.0.1, e.1) ∷ [])
a_page e fits = page_over (replicate 8192 0) (length-replicate {A = ℕ} 8192 0) e fits

held_leaf : (page : List ℕ) (of : ℕ) (es : List (List ℕ × List ℕ)) → Holds page of es → IsLeaf page
held_leaf page of es h = record {
  kind = h.kind;
  each = λ i lt. packed_lies page i (page_held page of es h) (let n = length-entries page in omega (arith, lt, n));
}

held_entries : (page : List ℕ) (e : PageEntry) → Holds page e.0.0 ((e.0.1, e.1) ∷ []) → page_entries page ≡ e ∷ []
held_entries page e h = λ t. map (λ (x : List ℕ × List ℕ). ((h.of_index t, x.0), x.1)) (entries_held page e.0.0 ((e.0.1, e.1) ∷ []) h t)

pages_for : (es : List PageEntry) → ((e : PageEntry) → Contains es e → FitsPage e) → (stored : List (Option (List ℕ))) × AreLeaves stored × (all_entries stored ≡ es)
pages_for [] fit = ([], tt, refl)
pages_for (e ∷ es) fit =
    let page = a_page e (fit e (contains_here e es)) in
    let rest = pages_for es (λ f c. fit f (contains_next e es f c)) in
    (Some page.0 ∷ rest.0, (held_leaf page.0 e.0.0 ((e.0.1, e.1) ∷ []) page.1, rest.1), (λ t. held_entries page.0 e page.1 t ++ rest.2 t))

-- ---- entries that stand once

-- a key of entries is that of one of them
pub keyed : (es : List PageEntry) (k : Place) → Contains (map (λ f. f.0) es) k → (f : PageEntry) × Contains es f × (f.0 ≡ k)
keyed [] k c = absurd (contains_none k c)
keyed (e ∷ es) k c = in_rest e.0 k (map (λ f. f.0) es) c
    (λ same. (e, contains_here e es, same))
    (λ d. let one = keyed es k d in (one.0, contains_next e es one.0 one.1, one.2))

order_apart : (es : List PageEntry) → AreByKey es → StandOnce es
order_apart [] h = tt
order_apart (e ∷ es) h = (
  (λ c.
      let one = keyed es e.0 c in
      let less : place_cmp e.0 e.0 ≡ Less = subst (λ k. place_cmp e.0 k ≡ Less) one.2 (h.0 one.0 one.1) in
      less_apart e.0 e.0 less less),
  order_apart es h.1,
)

pub once_both : (xs ys : List PageEntry) → StandOnce xs → StandOnce ys → ((e f : PageEntry) → Contains xs e → Contains ys f → e.0 ≡ f.0 → ⊥) → StandOnce (xs ++ ys)
once_both [] ys h k apart = k
once_both (x ∷ xs) ys h k apart = (
  (λ c.
      let one = keyed (xs ++ ys) x.0 c in
      elim (Contains-append_cases xs ys one.0 one.1) [
        | inl among ↦ h.0 (subst (Contains (map (λ (f : PageEntry). f.0) xs)) one.2 (contains_map (λ (f : PageEntry). f.0) xs one.0 among))
        | inr among ↦ apart x one.0 (contains_here x xs) among (sym one.2)
      ]),
  once_both xs ys h.1 k (λ e f c d. apart e f (contains_next x xs e c) d),
)

both_hold : (a b : Bool) → T (a && b) → T a × T b
both_hold true b h = (tt, h)
both_hold false b h = absurd h

is_less : (o : Ordering) → T (is_lt o) → o ≡ Less
is_less Less h = refl
is_less Equal h = absurd h
is_less Greater h = absurd h

-- ---- entries of a table by place

module _ {X : Type 0} (bytes : Place → X → List ℕ) where
  abbrev stored_as : Place × X → PageEntry
  stored_as e = (e.0, bytes e.0 e.1)

  below_less : (q : Place) (es : List (Place × X)) → T (below_all place_cmp q es) → (f : PageEntry) → Contains (map stored_as es) f → place_cmp q f.0 ≡ Less
  below_less q [] h f c = absurd (contains_none f c)
  below_less q (e ∷ es) h f c =
      let both = both_hold (is_lt (place_cmp q e.0)) (below_all place_cmp q es) h in
      in_rest (stored_as e) f (map stored_as es) c
      (λ same. subst (λ (x : PageEntry). place_cmp q x.0 ≡ Less) same (is_less (place_cmp q e.0) both.0))
      (λ d. below_less q es both.1 f d)

  in_order : (es : List (Place × X)) → T (is_sorted place_cmp es) → AreByKey (map stored_as es)
  in_order [] h = tt
  in_order (e ∷ es) h = let both = both_hold (below_all place_cmp e.0 es) (is_sorted place_cmp es) h in (below_less e.0 es both.0, in_order es both.1)

  of_one : (es : List (Place × X)) (f : PageEntry) → Contains (map stored_as es) f → (e : Place × X) × Contains es e × (stored_as e ≡ f)
  of_one [] f c = absurd (contains_none f c)
  of_one (e ∷ es) f c = in_rest (stored_as e) f (map stored_as es) c
      (λ same. (e, contains_here e es, same))
      (λ d. let one = of_one es f d in (one.0, contains_next e es one.0 one.1, one.2))

  module _ (m : maps.FinMap place_cmp X) where
    abbrev all_stored : List PageEntry
    all_stored = map stored_as (maps.entries m)

    once : StandOnce all_stored
    once = order_apart all_stored (in_order (maps.entries m) (entries_sorted m))

    stands : (f : PageEntry) → Contains all_stored f → (x : X) × (get m f.0 ≡ Some x) × (f.1 ≡ bytes f.0 x)
    stands f c =
        let one = of_one (maps.entries m) f c in
        subst (λ (g : PageEntry). (x : X) × (get m g.0 ≡ Some x) × (g.1 ≡ bytes g.0 x)) one.2
        (one.0.1, (Contains-entries place_cmp_total place_cmp-IsAntisymmetric m one.0.0 one.0.1).0 one.1, refl)

    is_there : (f : PageEntry) (x : X) → get m f.0 ≡ Some x → f.1 ≡ bytes f.0 x → Contains all_stored f
    is_there f x got same = subst (Contains all_stored) (λ t. (f.0, sym same t))
        (contains_map stored_as (maps.entries m) (f.0, x) ((Contains-entries place_cmp_total place_cmp-IsAntisymmetric m f.0 x).1 got))

-- ---- all of them

-- a table is no view
no_view : (objects : Schema) (place : Place) (row : Row) (numbers : List ℤ) → IsRow objects place row → IsStoredRow objects place numbers → ⊥
no_view objects place row numbers r t = absurd (let both : Some (table r.of) ≡ Some (view t.of) = sym r.table_is ∙ t.view_is in cc)

short_part : (parts : List (List ℕ)) → AreParts parts → AllByRecursion (λ part. length part ≤ 1024) parts
short_part [] h = tt
short_part (part ∷ []) h = (h, tt)
short_part (part ∷ other ∷ parts) h = (omega (arith, h.0), short_part (other ∷ parts) h.1)

module _ (p : Pages) (texts : List (List (List ℕ))) (proper : AreProper p) (few : length texts < 2 ^ 32) (short : AllByRecursion (λ parts. length parts ≤ 2 ^ 16) texts) where
  abbrev row_as : Place → Row → List ℕ
  row_as place row = row_bytes (kinds_of_table (numbered p.db.schema place.0)) row

  abbrev total_as : Place → List ℤ → List ℕ
  total_as place numbers = total_bytes numbers

  abbrev rows : List PageEntry
  rows = all_stored row_as p.db.rows

  abbrev totals : List PageEntry
  totals = all_stored total_as p.view

  abbrev all : List PageEntry
  all = rows ++ (totals ++ texts_from 1 texts)

  stand : StandFor all texts p
  stand e = (
    (λ c. elim (Contains-append_cases rows (totals ++ texts_from 1 texts) e c) [
      | inl row ↦ inl (inl (stands row_as p.db.rows e row))
      | inr more ↦ elim (Contains-append_cases totals (texts_from 1 texts) e more) [
        | inl total ↦ inl (inr (stands total_as p.view e total))
        | inr part ↦ inr (is_part texts e part)
      ]
    ]),
    (λ h. elim h [
      | inl (inl row) ↦ Contains-append_left rows (totals ++ texts_from 1 texts) e (is_there row_as p.db.rows e row.0 row.1 row.2)
      | inl (inr total) ↦ Contains-append_right rows (totals ++ texts_from 1 texts) e (Contains-append_left totals (texts_from 1 texts) e (is_there total_as p.view e total.0 total.1 total.2))
      | inr part ↦ Contains-append_right rows (totals ++ texts_from 1 texts) e (Contains-append_right totals (texts_from 1 texts) e (part_there texts e part))
    ]),
  )

  apart : StandOnce all
  apart = once_both rows (totals ++ texts_from 1 texts) (once row_as p.db.rows)
      (once_both totals (texts_from 1 texts) (once total_as p.view) (order_apart (texts_from 1 texts) (texts_order 1 texts (omega (arith, few)) short))
      (λ e f c d same.
      let total = stands total_as p.view e c in
      total_numbered p.db.schema e.0 total.0 (proper.stored e.0 total.0 total.1) (ap (λ (k : Place). k.0) same ∙ (is_part texts f d).index)))
      (λ e f c d same.
      let row = stands row_as p.db.rows e c in
      let is_row : IsRow p.db.schema e.0 row.0 = proper.sound.rows e.0 row.0 row.1 in
      elim (Contains-append_cases totals (texts_from 1 texts) f d) [
        | inl among ↦
            let total = stands total_as p.view f among in
            no_view p.db.schema f.0 row.0 total.0 (subst (λ k. IsRow p.db.schema k row.0) same is_row) (proper.stored f.0 total.0 total.1)
        | inr among ↦ row_numbered p.db.schema e.0 row.0 is_row (ap (λ (k : Place). k.0) same ∙ (is_part texts f among).index)
      ])

  fit_all : All AreParts texts → ((e : PageEntry) → IsRowEntry p e ⊎ IsTotalEntry p e → FitsPage e) → (e : PageEntry) → Contains all e → FitsPage e
  fit_all parts fit e c = elim ((stand e).0 c) [
    | inl stored ↦ fit e stored
    | inr part ↦ (
        let size : length e.1 ≤ 1024 = all_get (λ bs. length bs ≤ 1024) part.parts part.part e.1
        (short_part part.parts (all_get AreParts texts part.before part.parts (recursion_from_All AreParts texts parts) part.parts_are)) part.value in
        let index = part.index in
        let key = ap length part.key in
        (omega (arith, index), omega (arith, size, key)))
  ]

pub are_stored : StoredLaw
are_stored p texts proper define few short fit =
    let pages = pages_for (all p texts proper few short) (fit_all p texts proper few short define.0 fit) in (
      pages.0,
      record {
        proper = proper;
        leaves = pages.1;
        apart = subst StandOnce (sym pages.2) (apart p texts proper few short);
        texts = texts;
        few = few;
        short = short;
        define = define;
        stand = subst (λ es. StandFor es texts p) (sym pages.2) (stand p texts proper few short);
      },
    )
