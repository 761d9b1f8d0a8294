-- The bytes of data where what open transactions keep is taken back.
use Rattle.std.specs.Prelude.{◌≡◌, ◌≢◌, cond, ℕ, zero, suc, ◌+◌, ◌≤◌, ℤ, Bool, List, [], ◌∷◌, ◌++◌, map, length, Option, Some, None, IsSome}
use Rattle.std.specs.Option.{option_map_or, unwrap_or}
use Rattle.std.specs.List.{sum}
use Rattle.std.specs.FinMap.{FinMap, get, entries, entries-insert, get-entries}
use Rattle.std.specs.FinMap.Entries.{put, find, by_order}
use Rattle.std.specs.declared.cmp.Ordering.{Ordering}
use Rattle.std.specs.declared.cmp.Ordering.TheVariants.{Less, Equal, Greater}
use mathlib.Core.Path.{refl, sym, ap, subst, ◌∙◌}
use Rattle.std.proofs.Common.{arith}
use Rattle.std.specs.Ordering.{is_eq}
use Rattle.std.proofs.lemmas.Bool.{false≢true}
use Rattle.std.proofs.lemmas.Option.{none-some}
use Rattle.table_laws.specs.Place.{Place, place_cmp}
use Rattle.table_laws.specs.Table.{write}
use Rattle.table_laws.specs.Kept.{IsSession}
use Rattle.table_laws.proofs.Place.{place_cmp_total, place_cmp-IsAntisymmetric}
use Rattle.table_laws.proofs.Tables.{same_table}
use Rattle.iv_meaning.specs.Schema.{Schema, ViewTree}
use Rattle.iv_meaning.specs.Database.{Rows, Database}
use Rattle.txn_machine.specs.Counts.{sum_over}
use Rattle.txn_machine.specs.KeptLaws.{IsDelta}
use Rattle.iv_types.specs.declared.lock.GroupDelta.{GroupDelta}
use Rattle.txn_machine.specs.Deltas.{negated, place_of, columns_of}
use Rattle.txn_machine.specs.Keeping.{KeptStep, Put, Pay, Open}
use Rattle.txn_machine.specs.Stored.{ViewRows, add_to, plus, AreStored, IsStoredRow}
use Rattle.txn_machine.specs.Log.{Log, row_entries, perhaps_entries, growth_back, view_entry, view_entries, definition_entries, room_kept, data_bytes}
use Rattle.txn_machine.specs.Store.{Store, schema_of, now}
use Rattle.txn_machine.proofs.Agreeing.{by_place, written_at, written_other}
use Rattle.txn_machine.proofs.Good.{the_open}
use Rattle.txn_machine.proofs.LogSums.{sum_first, sum_same, sum_none}
use Rattle.txn_machine.proofs.Shapes.{add_stored, negated_is, same_view}
use Rattle.txn_log.specs.Replay.{What, Wrote, Added, Deed, Pages, Reading, Stored, recovered, own, rows_without, view_without, all_rows_back, all_view_back}
use Rattle.txn_log.specs.Fitting.{AllDeeds, AllBack, BackFits}
use Rattle.txn_log.specs.Appended.{written, AllSay, IsRead}
use Rattle.txn_log.specs.Moments.{Disk, image_of, At, opened_world}
use Rattle.txn_log.specs.Laws.{ReadingLaw}
use Rattle.txn_log.specs.Room.{rows_bytes, DataRoomLaw}
use Rattle.txn_log.proofs.Memory.{Memory, reading_of}
use Rattle.txn_log.proofs.Following.{PrintsAgain}
use Rattle.txn_log.proofs.Happening.{IsFollowed, good_run, good_opened}
use Rattle.txn_log.proofs.Finding.{by_number}
use Rattle.txn_log.proofs.Owning.{own_this, own_other}
use Rattle.txn_log.proofs.Reversing.{by_owner, own_tail, not_nothing}
use Rattle.txn_log.proofs.Tying.{IsShaped, Tied, replay_of, whats_of, whats_in, shaped_live, back_now}

-- ---- one entry of a map is another

module _ {X : Type 0} (f : Place → X → ℕ) where
  abbrev total : List (Place × X) → ℕ
  total es = sum (map (λ e. f e.0 e.1) es)

  abbrev perhaps : Place → Option X → ℕ
  perhaps k o = option_map_or (f k) o 0

  first_of_all : (e : Place × X) (es : List (Place × X)) → total (e ∷ es) ≡ f e.0 e.1 + total es
  first_of_all e es = sum_first (f e.0 e.1) (map (λ x. f x.0 x.1) es)

  put_new : (k : Place) (v : X) (es : List (Place × X)) → find place_cmp k es ≡ None → total (put place_cmp k v es) ≡ total es + f k v
  put_new k v [] h = (let one = first_of_all (k, v) [] in omega (arith, one))
  put_new k v (e ∷ es) h = by_cmp (put_new k v es) (place_cmp k e.0) refl
    where
      by_cmp : (find place_cmp k es ≡ None → total (put place_cmp k v es) ≡ total es + f k v) → (o : Ordering) → place_cmp k e.0 ≡ o → total (by_order (place_cmp k e.0) ((k, v) ∷ e ∷ es) ((e.0, v) ∷ es) (e ∷ put place_cmp k v es)) ≡ total (e ∷ es) + f k v
      by_cmp more Less c = ap (λ o. total (by_order o ((k, v) ∷ e ∷ es) ((e.0, v) ∷ es) (e ∷ put place_cmp k v es))) c ∙ (let one = first_of_all (k, v) (e ∷ es) in omega (arith, one))
      by_cmp more Equal c = absurd (none-some e.1 (sym h ∙ ap (λ o. cond (is_eq o) (Some e.1) (find place_cmp k es)) c))
      by_cmp more Greater c =
          let later : find place_cmp k es ≡ None = sym (ap (λ o. cond (is_eq o) (Some e.1) (find place_cmp k es)) c) ∙ h in
          let rest = more later in
          let one = first_of_all e es in
          let two = first_of_all e (put place_cmp k v es) in
          ap (λ o. total (by_order o ((k, v) ∷ e ∷ es) ((e.0, v) ∷ es) (e ∷ put place_cmp k v es))) c ∙ omega (arith, rest, one, two)

  module _ (m : FinMap place_cmp X) (k : Place) where
    abbrev without : FinMap place_cmp X
    without = write m k None

    none_there : get without k ≡ None
    none_there = written_at m k None k refl

    -- with another value there
    again : (o : Option X) → write m k o ≡ write without k o
    again o = same_table place_cmp_total place_cmp-IsAntisymmetric (write m k o) (write without k o) (λ q. by_key q
        (λ e. written_at m k o q e ∙ sym (written_at without k o q e))
        (λ n. written_other m k o q n ∙ (sym (written_other m k None q n) ∙ sym (written_other without k o q n))))
      where
        by_key : {P : Type 0} (q : Place) → (q ≡ k → P) → (q ≢ k → P) → P
        by_key q f g = by_place q k f g

    as_it_was : m ≡ write m k (get m k)
    as_it_was = same_table place_cmp_total place_cmp-IsAntisymmetric m (write m k (get m k)) (λ q. by_place q k
        (λ e. ap (get m) e ∙ sym (written_at m k (get m k) q e))
        (λ n. sym (written_other m k (get m k) q n)))

    with_one : (o : Option X) → total (entries (write without k o)) ≡ total (entries without) + perhaps k o
    with_one None = (let same = ap (λ x. total (entries x)) (sym (again None)) in omega (arith, same))
    with_one (Some v) = ap total (entries-insert place_cmp_total without k v) ∙ put_new k v (entries without) (sym (get-entries without k) ∙ none_there)

    -- what a write adds to the total and takes from it
    pub wrote_total : (o : Option X) → total (entries (write m k o)) + perhaps k (get m k) ≡ total (entries m) + perhaps k o
    wrote_total o =
        let new = ap (λ x. total (entries x)) (again o) in
        let one = with_one o in
        let old = ap (λ x. total (entries x)) (as_it_was ∙ again (get m k)) in
        let two = with_one (get m k) in
        omega (arith, new, one, old, two)

-- ---- rows

abbrev what_growth : Schema → What → ℕ
what_growth objects (Wrote c) = growth_back objects c
what_growth objects (Added d) = 0

-- of all of these
abbrev pub whats_total : (What → ℕ) → List What → ℕ
whats_total f [] = 0
whats_total f (w ∷ ws) = f w + whats_total f ws

abbrev pub whats_growth : Schema → List What → ℕ
whats_growth objects ws = whats_total (what_growth objects) ws

pub rows_back : (objects : Schema) (xs : List Deed) (rows : Rows) (stored : ViewRows) → AllBack xs rows stored → rows_bytes objects (all_rows_back xs rows) ≤ rows_bytes objects rows + whats_growth objects (whats_of xs)
rows_back objects [] rows stored h = omega arith
rows_back objects (x ∷ xs) rows stored h = one x.what h.0 (rows_back objects xs (rows_without x.what rows) (view_without x.what stored) h.1)
  where
    one : (w : What) → BackFits rows stored w
        → rows_bytes objects (all_rows_back xs (rows_without w rows)) ≤ rows_bytes objects (rows_without w rows) + whats_growth objects (whats_of xs)
        → rows_bytes objects (all_rows_back xs (rows_without w rows)) ≤ rows_bytes objects rows + (what_growth objects w + whats_growth objects (whats_of xs))
    one (Wrote c) there rest =
        let moved = wrote_total (row_entries objects) rows c.key c.before in
        let after = ap (perhaps_entries objects c.key) there in
        omega (arith, moved, after, rest)
    one (Added d) there rest = omega (arith, rest)

-- ---- view rows

width : (objects : Schema) (place : Place) (ms ns : List ℤ) → IsStoredRow objects place ms → IsStoredRow objects place ns → length ms ≡ length ns
width objects place ms ns a b = a.width ∙ (ap (λ (v : ViewTree). suc (length v.sums)) (same_view a.of b.of (sym a.view_is ∙ b.view_is)) ∙ sym b.width)

-- a delta leaves the width of the row that it is added to
pub added_entries : (objects : Schema) (stored : ViewRows) (d : GroupDelta) → IsDelta objects d → AreStored objects stored → IsSome (get stored (place_of d)) → view_entries (add_to stored d) ≡ view_entries stored
added_entries objects stored d delta are = some (get stored (place_of d)) refl
  where
    some : (o : Option (List ℤ)) → get stored (place_of d) ≡ o → IsSome o → view_entries (add_to stored d) ≡ view_entries stored
    some None e h = absurd (false≢true h)
    some (Some ns) e h =
        let p : Place = place_of d in
        let stays : AreStored objects (add_to stored d) = add_stored objects stored d are delta in
        let ms : List ℤ = plus (unwrap_or (get stored p) []) (columns_of d) in
        let there : get (add_to stored d) p ≡ Some ms = written_at stored p (Some ms) p refl in
        let long : length ms ≡ length ns = width objects p ms ns (stays p ms there) (are p ns e) in
        let moved = wrote_total (λ (q : Place) (xs : List ℤ). view_entry q (length xs)) stored p (Some ms) in
        let before = ap (λ (o : Option (List ℤ)). option_map_or (λ xs. view_entry p (length xs)) o 0) e in
        let same = ap (view_entry p) long in
        omega (arith, moved, before, same)

pub view_back : (objects : Schema) (xs : List Deed) (rows : Rows) (stored : ViewRows) → AllBack xs rows stored → AllDeeds (IsShaped objects) xs → AreStored objects stored → view_entries (all_view_back xs stored) ≡ view_entries stored
view_back objects [] rows stored h shaped are = refl
view_back objects (x ∷ xs) rows stored h shaped are = one x.what h.0 shaped.0 (λ later. view_back objects xs (rows_without x.what rows) (view_without x.what stored) h.1 shaped.1 later)
  where
    one : (w : What) → BackFits rows stored w → IsShaped objects w → (AreStored objects (view_without w stored) → view_entries (all_view_back xs (view_without w stored)) ≡ view_entries (view_without w stored))
        → view_entries (all_view_back xs (view_without w stored)) ≡ view_entries stored
    one (Wrote c) there shape rest = rest are
    one (Added d) there shape rest =
        let back : IsDelta objects (negated d) = negated_is objects d shape in
        rest (add_stored objects stored (negated d) are back) ∙ added_entries objects stored (negated d) back are there.0

-- ---- what each session keeps

sum_most : (n : ℕ) (f g : ℕ → ℕ) → ((j : ℕ) → IsSession n j → f j ≤ g j) → sum_over n f ≤ sum_over n g
sum_most zero f g h = omega arith
sum_most (suc n) f g h =
    let below = sum_most n f g (λ j is. h j (is.0, (let x = is.1 in omega (arith, x)))) in
    let here = h (suc n) (omega arith, omega arith) in
    omega (arith, below, here)

-- where all but one are the same
one_more : (n : ℕ) (f g : ℕ → ℕ) (i : ℕ) → 1 ≤ i → i ≤ n → ((j : ℕ) → IsSession n j → j ≢ i → g j ≡ f j) → sum_over n g + f i ≡ sum_over n f + g i
one_more zero f g i l m h = absurd (omega (arith, l, m))
one_more (suc n) f g i l m h = by_number (suc n) i
    (λ e.
    let below : sum_over n g ≡ sum_over n f = sum_same n f g (λ j lo hi. h j (lo, omega (arith, hi)) (λ x. absurd (omega (arith, hi, x, e)))) in
    let fi : f i ≡ f (suc n) = ap f (sym e) in
    let gi : g i ≡ g (suc n) = ap g (sym e) in
    omega (arith, below, fi, gi))
    (λ d.
    let less : i ≤ n = by_most i n m d in
    let below = one_more n f g i l less (λ j is other. h j (is.0, (let x = is.1 in omega (arith, x))) other) in
    let here : g (suc n) ≡ f (suc n) = h (suc n) (omega arith, omega arith) d in
    omega (arith, below, here))
  where
    by_most : (a b : ℕ) → a ≤ suc b → suc b ≢ a → a ≤ b
    by_most a b l d = omega (arith, l, d)

-- the sum over the sessions of what their transactions' records come to is what all come to
pub total_all : (f : What → ℕ) (ids : ℕ → ℕ) (xs : List Deed)
    → ((s t : ℕ) → IsSession 64 s → IsSession 64 t → s ≢ t → ids s ≡ ids t → own (ids s) xs ≡ [])
    → ((t : ℕ) → ((s : ℕ) → IsSession 64 s → ids s ≡ t → ⊥) → own t xs ≡ [])
    → sum_over 64 (λ j. whats_total f (whats_of (own (ids j) xs))) ≡ whats_total f (whats_of xs)
total_all f ids [] apart rest = sum_none 64 (λ j. 0) (λ j lo hi. refl)
total_all f ids (x ∷ xs) apart rest =
    let before : sum_over 64 (λ j. whats_total f (whats_of (own (ids j) xs))) ≡ whats_total f (whats_of xs) = total_all f ids xs
    (λ s t k l d e. own_tail (ids s) x xs (apart s t k l d e))
    (λ t none. own_tail t x xs (rest t none)) in
    by_owner ids x.transaction 64
    (λ s k e.
    let same : (t : ℕ) → IsSession 64 t → t ≢ s → own (ids t) (x ∷ xs) ≡ own (ids t) xs =
    λ t l d. own_other (ids t) x xs (λ i. not_nothing x (own (ids t) xs) (sym (own_this (ids t) x xs i) ∙ apart t s l k d (sym i ∙ sym e))) in
    let sums = one_more 64 (λ t. whats_total f (whats_of (own (ids t) xs))) (λ t. whats_total f (whats_of (own (ids t) (x ∷ xs)))) s k.0 k.1
    (λ t l d. ap (λ (ys : List Deed). whats_total f (whats_of ys)) (same t l d)) in
    let this : whats_total f (whats_of (own (ids s) (x ∷ xs))) ≡ f x.what + whats_total f (whats_of (own (ids s) xs)) =
    ap (λ (ys : List Deed). whats_total f (whats_of ys)) (own_this (ids s) x xs (sym e)) in
    omega (arith, before, sums, this))
    (λ none. absurd (not_nothing x (own x.transaction xs) (sym (own_this x.transaction x xs refl) ∙ rest x.transaction none)))

-- what taking back would enlarge is kept room
kept_room : (objects : Schema) (t : Open) (ghosted : Bool) (ks : List KeptStep) → whats_growth objects (whats_in ks) ≤ room_kept objects (Some (record t { kept = ks })) ghosted
kept_room objects t ghosted [] = omega arith
kept_room objects t ghosted (Put c ds ∷ ks) = (let rest = kept_room objects t ghosted ks in omega (arith, rest))
kept_room objects t ghosted (Pay d ∷ ks) = (let rest = kept_room objects t ghosted ks in omega (arith, rest))

open_room : (objects : Schema) (o : Option Open) (ghosted : Bool) → whats_growth objects (whats_in (the_open o).kept) ≤ room_kept objects o ghosted
open_room objects None ghosted = omega arith
open_room objects (Some t) ghosted = kept_room objects t ghosted t.kept

-- ---- all of it

-- The log that tells which owed deltas had their Ghost may be any.
module _ (s : Store) (l : Log) (d : Disk) (is : IsFollowed s l d) (any : Log) (texts : List (List ℕ)) where
  abbrev m : Memory
  m = is.memory

  abbrev st : Stored
  st = replay_of m

  tied : Tied s m
  tied = is.sound.tied

  schema_is : st.db.schema ≡ schema_of s
  schema_is = ap (λ (db : Database). db.schema) tied.db

  rows_are : st.db.rows ≡ s.rows
  rows_are = ap (λ (db : Database). db.rows) tied.db

  all_back : AllBack st.live st.db.rows st.view
  all_back = back_now s m is.sound.good tied

  enlarged : whats_growth (schema_of s) (whats_of st.live) ≤ sum_over 64 (λ j. room_kept (schema_of s) (s.open_of j) (any.logged j).ghosted)
  enlarged =
      let all = total_all (what_growth (schema_of s)) (λ j. (m.txn_of j).id) st.live
      (λ i j k n differ same. by_number (m.txn_of i).id 0
      (λ z. ap (λ a. own a st.live) z ∙ tied.carried.of_none)
      (λ z. absurd (tied.apart.apart i j k n differ (omega arith) same)))
      tied.carried.others in
      let each = sum_most 64 (λ j. whats_growth (schema_of s) (whats_of (own (m.txn_of j).id st.live))) (λ j. room_kept (schema_of s) (s.open_of j) (any.logged j).ghosted)
      (λ j js.
      let kept : whats_of (own (m.txn_of j).id st.live) ≡ whats_in (now s j).kept = ap whats_of (tied.carried.each j js) ∙ tied.whats j js in
      let room = open_room (schema_of s) (s.open_of j) (any.logged j).ghosted in
      subst (λ (ws : List What). whats_growth (schema_of s) ws ≤ room_kept (schema_of s) (s.open_of j) (any.logged j).ghosted) (sym kept) room) in
      omega (arith, all, each)

  pub data_now : rows_bytes st.db.schema (all_rows_back st.live st.db.rows) + view_entries (all_view_back st.live st.view) + sum (map definition_entries texts) ≤ data_bytes s any texts
  data_now =
      let rows = rows_back (schema_of s) st.live st.db.rows st.view all_back in
      let same = ap (λ objects. rows_bytes objects (all_rows_back st.live st.db.rows)) schema_is in
      let before = ap (rows_bytes (schema_of s)) rows_are in
      let views = view_back (schema_of s) st.live st.db.rows st.view all_back (shaped_live s m is.sound.good tied) (subst (AreStored (schema_of s)) (sym tied.view) is.sound.shape) in
      let stored_views = ap view_entries tied.view in
      let room = enlarged in
      omega (arith, rows, same, before, views, stored_views, room)

-- what an image of all records leaves
pub room_left : ReadingLaw → (s : Store) (l : Log) (d : Disk) → IsFollowed s l d → (any : Log) (r : Reading) → IsRead (image_of d d.waiting) r → (texts : List (List ℕ))
    → rows_bytes (recovered r).db.schema (recovered r).db.rows + view_entries (recovered r).view + sum (map definition_entries texts) ≤ data_bytes s any texts
room_left once s l d is any r read texts =
    let reading : Reading = reading_of is.memory is.memory.waiting in
    let same : reading ≡ r = once (image_of d d.waiting) reading r (record {
      pages = is.follows.pages;
      carried = ap (map written) (sym is.follows.carried);
      after = subst (λ (q : Pages). AllSay q.db.schema (d.waiting ++ d.flushed) (is.memory.waiting ++ is.memory.flushed)) is.follows.pages is.follows.say;
    }) read in
    subst (λ (x : Reading). rows_bytes (recovered x).db.schema (recovered x).db.rows + view_entries (recovered x).view + sum (map definition_entries texts) ≤ data_bytes s any texts) same
    (data_now s l d is any texts)

pub data_room : PrintsAgain → ReadingLaw → DataRoomLaw
data_room printed once p was opening s d run r read texts =
    room_left once s.store s.log d (good_run printed (opened_world opening p) (At s d) run (good_opened printed opening p was)) s.log r read texts
