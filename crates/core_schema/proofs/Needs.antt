-- What a definition makes of the data.
use Rattle.std.specs.Prelude.{◌≡◌, ◌≢◌, ℕ, suc, ◌+◌, ◌*◌, ◌-◌, ◌<◌, ◌≤◌, ◌^◌, min, List, [], ◌∷◌, ◌++◌, map, length, Option, None, Some, IsSome, refl}
use Rattle.std.specs.List.{AllByRecursion, sum}
use mathlib.Core.Path.{sym, ap, subst, ◌∙◌}
use Rattle.std.proofs.Common.{arith, length-append}
use mathlib.Core.Logic.{inl, inr}
use Rattle.std.proofs.lemmas.Bool.{cases_eq}
use Rattle.std.proofs.lemmas.List.{length-map}
use Rattle.iv_types.specs.Maps.{Map, IsWithin, map_size, used, with_map, last_index}
use Rattle.iv_types.specs.Printing.{statement_text}
use Rattle.iv_types.specs.Syntax.{StatementTree}
use Rattle.iv_types.specs.declared.catalog.Definition.{Definition}
use Rattle.iv_types.specs.declared.lock.IndexEntry.{IndexEntry}
use Rattle.iv_types.specs.declared.limit.TheConstants.{LONGEST_DEFINITION}
use Rattle.iv_types.proofs.MapSizes.{used_same, used_with, with_here, with_other}
use Rattle.iv_meaning.specs.Escrow.{IsSession}
use Rattle.iv_meaning.specs.Objects.{object_of}
use Rattle.iv_meaning.specs.Schema.{Schema, Object}
use Rattle.query_laws.proofs.LimitedLemmas.{numbers_law}
use Rattle.row_codec.proofs.Formats.{one_spelling}
use Rattle.row_codec.proofs.RowFormat.{row_format}
use Rattle.row_codec.proofs.KeyFormat.{key_format}
use Rattle.table_store.specs.Changes.{sizes}
use Rattle.table_store.specs.Filling.{filled, CanPutAll}
use Rattle.table_store.proofs.Rooms.{sizes_cons}
use Rattle.txn_machine.specs.Counts.{told_need}
use Rattle.txn_machine.specs.Keeping.{Open}
use Rattle.txn_machine.specs.Fresh.{made_of}
use Rattle.txn_machine.specs.Log.{Logged, Within, definition_entries, made_entries, view_entries, room_kept}
use Rattle.txn_machine.specs.State.{State}
use Rattle.txn_machine.specs.Steps.{FitsData, made_need, used_data, texts_of}
use Rattle.txn_machine.specs.Store.{committed, schema_of}
use Rattle.txn_machine.specs.Stored.{AreStored, add_all}
use Rattle.txn_machine.proofs.Shapes.{add_all_stored, made_are, more_stored, last_numbered}
use Rattle.txn_log.specs.Room.{rows_bytes}
use Rattle.txn_log.specs.Stored.{in_parts}
use Rattle.txn_log.proofs.Defining.{made_is}
use Rattle.definition_parts.specs.Parts.{parts_map, part_entries, IsShort, CanPutText, HasTexts}
use Rattle.definition_parts.proofs.Entries.{entries_many}
use Rattle.definition_parts.proofs.Sizes.{size_filled, sizes_are}
use Rattle.ghost_rows.specs.Rows.{no_rows}
use Rattle.data_store.specs.Contents.{Contents, contents_of}
use Rattle.data_defining.specs.Defining.{AreFirst, CanDefine, with_object}
use Rattle.data_defining.proofs.Defined.{can_put, defined_held}
use Rattle.data_room.specs.Reserved.{Where, kept_for, IsReserved}
use Rattle.data_room.proofs.Kept.{reserved_alike}
use Rattle.data_room.proofs.Used.{used_is}
use Rattle.data_room.proofs.Wheres.{where_map, within_is, within_fewer}
use Rattle.core_state.specs.declared.state.CoreState.{CoreState}
use Rattle.core_state.proofs.Data.{began_entries, began_used, limit_of}
use Rattle.core_schema.specs.Making.{MayMake}
use Rattle.core_schema.proofs.Made.{can_define, rows_stay}
use Rattle.data_defining.proofs.Short.{text_short}
use Rattle.core_schema.proofs.Short.{few_parts}

-- each entry counts eight bytes at least
entries_few : (es : List IndexEntry) → 8 * length es ≤ sizes es
entries_few [] = omega arith
entries_few (e ∷ es) = let rest = entries_few es in let all = sizes_cons e es in omega (arith, rest, all)

where_some : {P : Type 0} (limit : Option ℕ) → IsSome limit → Where limit P → P
where_some None some p = absurd (cc)
where_some (Some most) some p = p

-- a text is no longer than what it counts in the data
text_long : (text : List ℕ) → length text ≤ definition_entries text
text_long text = no_less (length text) _
  where
    no_less : (a b : ℕ) → a ≤ a + b
    no_less a b = omega arith

-- the text of a definition for which the data have room is short
pub text_few : {M : Type 0} (maps : M → ℕ → Map) (spare : M → ℕ → ℕ) (limit : M → Option ℕ) (core : CoreState M) (s : State) (i : ℕ) (statement : StatementTree) (d : Definition) → MayMake maps spare limit s core i statement d
    → Where s.opening.data_limit (used_data s + made_need s.store statement (object_of d) < 2 ^ 32) → length (statement_text statement) < 2 ^ 32
text_few maps spare limit core s i statement d m small =
    let long = text_long (statement_text statement) in
    let need : made_need s.store statement (object_of d) ≡ definition_entries (statement_text statement) + made_entries (schema_of s.store) (committed s.store).rows (object_of d) = refl in
    let lt : used_data s + made_need s.store statement (object_of d) < 2 ^ 32 = where_some s.opening.data_limit (subst IsSome (sym (limit_of maps spare limit core s i m.began)) m.began.opening.bounded) small in
    omega (arith, long, need, lt)

all_push : {X : Type 0} (P : X → Type 0) (xs : List X) (y : X) → AllByRecursion P xs → P y → AllByRecursion P (xs ++ y ∷ [])
all_push P [] y h k = (k, tt)
all_push P (x ∷ xs) y h k = (h.0, all_push P xs y h.1 k)

module _ {M : Type 0} (maps : M → ℕ → Map) (spare : M → ℕ → ℕ) (limit : M → Option ℕ) (core : CoreState M) (s : State) (i : ℕ) (statement : StatementTree) (d : Definition) (m : MayMake maps spare limit s core i statement d)
    (first : List IndexEntry) (first_are : AreFirst core.store.catalog (maps core.store.tables) (contents_of s.store) d first) where
  abbrev o : Object
  o = object_of d

  abbrev old : ℕ → Map
  old = maps core.store.tables

  abbrev c : Contents
  c = contents_of s.store

  can : CanDefine core.store.catalog old core.store.views d first c
  can = can_define maps spare limit core s i statement d m first first_are

  abbrev n : ℕ
  n = suc (length core.store.catalog)

  abbrev new : ℕ → Map
  new = with_map old n (filled (old n) first)

  few : n ≤ last_index
  few =
      let most : length (schema_of s.store ++ o ∷ []) ≤ 192 = numbers_law.1 (schema_of s.store ++ o ∷ []) can.evaluated.limited in
      let more : length (schema_of s.store ++ o ∷ []) ≡ length (schema_of s.store) + 1 = length-append (schema_of s.store) (o ∷ []) in
      let long : length (schema_of s.store) ≡ length core.store.catalog = sym (ap length m.began.holds.stored.objects) ∙ length-map core.store.catalog object_of in
      omega (arith, most, more, long)

  putting : CanPutAll n old (length first) None first
  putting = can_put core.store.catalog old core.store.views d first c can (one_spelling row_format) (one_spelling key_format) (length first) None (omega arith) tt

  new_used : used new ≡ used old + sizes first
  new_used =
      let moved = used_with old n (filled (old n) first) few in
      let more = size_filled (old n) first putting.apart putting.absent in
      omega (arith, moved, more)

  stored_then : AreStored (schema_of s.store ++ o ∷ []) (add_all s.store.view (made_of (schema_of s.store ++ o ∷ []) s.store.rows o))
  stored_then =
      add_all_stored (schema_of s.store ++ o ∷ []) s.store.view (made_of (schema_of s.store ++ o ∷ []) s.store.rows o)
      (more_stored (schema_of s.store) s.store.rows o s.store.view can.evaluated.sound can.evaluated.readable.stored)
      (made_are (schema_of s.store ++ o ∷ []) s.store.rows can.evaluated.after (suc (length (schema_of s.store))) o (last_numbered (schema_of s.store) o))

  after_used : used new ≡ rows_bytes (schema_of s.store ++ o ∷ []) s.store.rows + view_entries (add_all s.store.view (made_of (schema_of s.store ++ o ∷ []) s.store.rows o)) + map_size (new 0)
  after_used = used_is (core.store.catalog ++ d ∷ []) new (record core.store.views { rows = no_rows }) (with_object c o)
      (defined_held core.store.catalog old core.store.views d first c can (one_spelling row_format) (one_spelling key_format) new (with_here old n (filled (old n) first)) (λ k ne. with_other old n k (filled (old n) first) ne))
      can.evaluated.after stored_then can.evaluated.limited

  -- the parts of texts count as before
  texts_there : map_size (new 0) ≡ sum (map definition_entries (texts_of s))
  texts_there =
      ap map_size (with_other old n 0 (filled (old n) first) (λ e. absurd (omega (arith, e))) ∙ m.began.holds.texts.are)
      ∙ sizes_are (texts_of s) m.began.holds.texts.short m.began.holds.texts.few

  -- what it begins with counts what the machine says
  pub first_sizes : sizes first ≡ made_entries (schema_of s.store) (committed s.store).rows o
  first_sizes =
      let before = began_entries maps spare limit core s i m.began in
      let after = after_used in
      let grown = new_used in
      let made = made_is (schema_of s.store) o s.store.rows s.store.view can.evaluated.sound can.evaluated.readable.stored can.evaluated.after in
      let here : sizes first ≡ made_entries (schema_of s.store) s.store.rows o = let texts = texts_there in omega (arith, before, after, grown, made, texts) in
      here ∙ ap (λ rows. made_entries (schema_of s.store) rows o) (rows_stay maps spare limit core s i statement d m)

  pub need_is : (text : List ℕ) → text ≡ statement_text statement → (need : ℕ) → need ≡ min (definition_entries text + sizes first) (2 ^ 64 - 1) → need ≡ told_need (made_need s.store statement o)
  need_is text is need e = e ∙ (λ x. told_need (definition_entries (is x) + first_sizes x))

  -- there is room for what it begins with
  pub first_within : FitsData s (made_need s.store statement o) → IsWithin (limit core.store.tables) (used old + sizes first)
  first_within fits =
      subst (λ x. IsWithin x (used old + sizes first)) (sym m.began.holds.most)
      (within_fewer core.data_room.limit (used_data s + made_need s.store statement o) (used old + sizes first)
      (where_map core.data_room.limit (λ (e : used old + core.data_room.total ≡ used_data s).
      let same = first_sizes in
      let need : made_need s.store statement o ≡ definition_entries (statement_text statement) + made_entries (schema_of s.store) (committed s.store).rows o = refl in
      let le : used old + sizes first ≤ used_data s + made_need s.store statement o = omega (arith, e, same, need) in le) (began_used maps spare limit core s i m.began))
      (within_is core.data_room.limit (used_data s + made_need s.store statement o) (subst (λ x. Within x (used_data s + made_need s.store statement o)) (limit_of maps spare limit core s i m.began) fits)))

  -- and is few
  pub first_few : Where s.opening.data_limit (used_data s + made_need s.store statement o < 2 ^ 32) → length first < 2 ^ 32
  first_few small =
      let same = first_sizes in
      let many = entries_few first in
      let need : made_need s.store statement o ≡ definition_entries (statement_text statement) + made_entries (schema_of s.store) (committed s.store).rows o = refl in
      let lt : used_data s + made_need s.store statement o < 2 ^ 32 = where_some s.opening.data_limit (subst IsSome (sym (limit_of maps spare limit core s i m.began)) m.began.opening.bounded) small in
      omega (arith, same, many, need, lt)

  -- what is used once it has begun
  begun_used : (mid : ℕ → Map) → mid n ≡ filled (old n) first → ((k : ℕ) → k ≢ n → mid k ≡ old k) → used mid ≡ used old + sizes first
  begun_used mid here others = used_same mid new at_each ∙ new_used
    where
      at_each : (k : ℕ) → mid k ≡ new k
      at_each k = elim (cases_eq k n) [
        | inl e ↦ ap mid e ∙ (here ∙ (sym (with_here old n (filled (old n) first)) ∙ ap new (sym e)))
        | inr other ↦ others k other ∙ sym (with_other old n k (filled (old n) first) other)
      ]

  -- there is room for the parts of its text then
  parts_within : FitsData s (made_need s.store statement o) → (text : List ℕ) → text ≡ statement_text statement → IsWithin (limit core.store.tables) (used old + sizes first + definition_entries text)
  parts_within fits text is =
      subst (λ x. IsWithin x (used old + sizes first + definition_entries text)) (sym m.began.holds.most)
      (within_fewer core.data_room.limit (used_data s + made_need s.store statement o) (used old + sizes first + definition_entries text)
      (where_map core.data_room.limit (λ (e : used old + core.data_room.total ≡ used_data s).
      let same = first_sizes in
      let text_same : definition_entries text ≡ definition_entries (statement_text statement) = ap definition_entries is in
      let need : made_need s.store statement o ≡ definition_entries (statement_text statement) + made_entries (schema_of s.store) (committed s.store).rows o = refl in
      let le : used old + sizes first + definition_entries text ≤ used_data s + made_need s.store statement o = omega (arith, e, same, text_same, need) in le) (began_used maps spare limit core s i m.began))
      (within_is core.data_room.limit (used_data s + made_need s.store statement o) (subst (λ x. Within x (used_data s + made_need s.store statement o)) (limit_of maps spare limit core s i m.began) fits)))

  -- its parts come behind those of the other texts
  pub text_short_then : (text : List ℕ) → text ≡ statement_text statement → IsShort text
  text_short_then text is = few_parts text (subst (λ (x : List ℕ). length x ≤ LONGEST_DEFINITION) (sym is) (text_short (schema_of s.store) statement o m.makes.bound))

  pub can_put_text : (mid : ℕ → Map) → mid n ≡ filled (old n) first → ((k : ℕ) → k ≢ n → mid k ≡ old k) → (room : ℕ) (most : Option ℕ) → most ≡ limit core.store.tables → FitsData s (made_need s.store statement o)
      → (text : List ℕ) → text ≡ statement_text statement → (parts : List IndexEntry) → parts ≡ part_entries n text → length (in_parts text) ≤ room → CanPutText mid room most (texts_of s) text parts
  can_put_text mid here others room most same fits text is parts are places =
      let many : length (texts_of s) ≡ length core.store.catalog = m.began.holds.texts.many in record {
        are = are ∙ ap (λ k. part_entries (suc k) text) (sym many);
        stored = others 0 (λ e. absurd (omega (arith, e))) ∙ m.began.holds.texts.are;
        few = let most_objects = few in omega (arith, most_objects, many);
        short = text_short_then text is;
        places = let count = entries_many n 0 (in_parts text) in let all = ap length are in omega (arith, count, all, places);
        within = subst (λ x. IsWithin x (used mid + definition_entries text)) (sym same) (subst (λ k. IsWithin (limit core.store.tables) (k + definition_entries text)) (sym (begun_used mid here others)) (parts_within fits text is));
      }

  -- and they are those of all texts then
  pub has_texts : (after : Map) → after ≡ parts_map ((texts_of s) ++ statement_text statement ∷ []) → HasTexts after (core.store.catalog ++ d ∷ []) ((texts_of s) ++ statement_text statement ∷ [])
  has_texts after are =
      let many : length (texts_of s) ≡ length core.store.catalog = m.began.holds.texts.many in
      let more = length-append (texts_of s) (statement_text statement ∷ []) in
      let other = length-append core.store.catalog (d ∷ []) in
      let most_objects = few in
      record {
        are = are;
        many = omega (arith, many, more, other);
        short = all_push IsShort (texts_of s) (statement_text statement) m.began.holds.texts.short (text_short_then (statement_text statement) refl);
        few = omega (arith, many, more, most_objects);
      }

  -- no transaction is open that keeps anything
  pub defined_reserved : (objects : Schema) (then : ℕ → Logged) → IsReserved core.data_room objects s.store.open_of then
  defined_reserved objects then =
      reserved_alike core.data_room (schema_of s.store) objects s.store.open_of s.store.open_of s.log.logged then (λ j js. nothing objects then j js ∙ sym (nothing (schema_of s.store) s.log.logged j js)) m.began.reserves.data_room
    where
      nothing : (os : Schema) (logged : ℕ → Logged) (j : ℕ) → IsSession j → kept_for os s.store.open_of logged j ≡ 0
      nothing os logged j js = ap (λ (x : Option Open). room_kept os x (logged j).ghosted) (m.none j js)
