-- What is known of the first delta that a session owes.
use Rattle.std.specs.Prelude.{◌≡◌, ◌≢◌, ℕ, zero, suc, ◌+◌, ◌≤◌, ◌<◌, ℤ, cond, List, [], ◌∷◌, drop, length, reverse, Option, None, Some, refl}
use Rattle.std.specs.List.{Contains}
use Rattle.std.specs.FinMap.{get, insert}
use Rattle.std.specs.Option.{option_map}
use mathlib.Core.Path.{sym, ap, subst, ◌∙◌}
use Rattle.std.proofs.Common.{arith}
use Rattle.std.proofs.lemmas.List.Elements.{recursion_from_All, Contains-append_left}
use Rattle.iv_types.specs.Maps.{Map, IsWithin, used, with_map}
use Rattle.iv_types.specs.Encoding.{IsHuge}
use Rattle.iv_types.proofs.MapSizes.{used_insert, used_present}
use Rattle.iv_types.specs.declared.lock.GroupDelta.{GroupDelta}
use Rattle.iv_types.specs.declared.lock.KeptStep.{KeptStep as BookStep}
use Rattle.iv_types.specs.declared.lock.KeptStep.TheVariants as step
use Rattle.iv_meaning.specs.Schema.{Schema, view, ViewTree, numbered}
use Rattle.table_laws.specs.Place.{Place}
use Rattle.query_laws.specs.Limited.{IsLimited}
use Rattle.query_laws.proofs.Widths.{width_law}
use Rattle.ghost_rows.specs.Kept as ghost
use Rattle.ghost_rows.specs.Kept.{width}
use Rattle.ghost_rows.specs.Numbers.{numbers_bytes}
use Rattle.ghost_rows.specs.State.{IsReady, CanStore}
use Rattle.ghost_rows.proofs.NumberSteps.{length_numbers}
use Rattle.lock_desk.specs.PayWants.{wants_at}
use Rattle.txn_machine.specs.Deltas.{place_of, is_for}
use Rattle.txn_machine.specs.Keeping.{KeptStep, Put, Pay}
use Rattle.txn_machine.specs.KeptLaws.{IsDelta}
use Rattle.txn_machine.specs.Log.{Log, delta_entry}
use Rattle.txn_machine.specs.Stored.{ViewRows, AreStored}
use Rattle.txn_machine.specs.Store.{Store, now, schema_of}
use Rattle.txn_book.specs.Opens.{open_at}
use Rattle.txn_book.specs.Holding.{AreKept}
use Rattle.txn_book.specs.Txns.{txn_of}
use Rattle.txn_book.specs.declared.open_table.Open.{Open as BookOpen}
use Rattle.data_store.specs.Contents.{contents_of, pays_on}
use Rattle.data_changes.specs.Paying.{HasFor}
use Rattle.data_room.specs.Reserved.{Where}
use Rattle.data_room.proofs.Entries.{few_numbers}
use Rattle.data_room.proofs.Wheres.{where_always, where_map, within_fewer}
use Rattle.core_state.specs.Rooms.{IsCovered, still_owed, paid_on}
use Rattle.core_state.specs.Stands.{Holds, told, Texts}
use Rattle.core_state.proofs.Texts.{told_stored}
use Rattle.core_state.specs.declared.state.CoreState.{CoreState}
use Rattle.core_effects.specs.Owing.{OwesFirst}
use Rattle.core_effects.proofs.Opened.{Has, own}

-- the pays on a row are the same in the book
pub paid_as : (place : Place) (bs : List BookStep) (ks : List KeptStep) (ns : List ℕ) → AreKept bs ks ns → paid_on place bs ≡ pays_on place ks
paid_as place [] [] [] h = refl
paid_as place (step.Put k a b m ∷ bs) (Put c owed ∷ ks) (n ∷ ns) h = paid_as place bs ks ns h.2
paid_as place (step.Pay d before m ∷ bs) (Pay e ∷ ks) (n ∷ ns) h =
    ap (λ x. cond (is_for place x) (x ∷ paid_on place bs) (paid_on place bs)) h.0 ∙ ap (λ xs. cond (is_for place e) (e ∷ xs) xs) (paid_as place bs ks ns h.2)
paid_as place [] (k ∷ ks) ns h = absurd h
paid_as place [] [] (n ∷ ns) h = absurd h
paid_as place (step.Put k a b m ∷ bs) [] ns h = absurd h
paid_as place (step.Put k a b m ∷ bs) (Pay e ∷ ks) ns h = absurd h
paid_as place (step.Put k a b m ∷ bs) (Put c owed ∷ ks) [] h = absurd h
paid_as place (step.Pay d before m ∷ bs) [] ns h = absurd h
paid_as place (step.Pay d before m ∷ bs) (Put c owed ∷ ks) ns h = absurd h
paid_as place (step.Pay d before m ∷ bs) (Pay e ∷ ks) [] h = absurd h

-- a delta of the schema's views
module _ (objects : Schema) (limited : IsLimited objects) (d : GroupDelta) (is : IsDelta objects d) where
  pub few_sums : length d.sums ≤ 8
  few_sums = let most = (limited.narrow d.view (view is.of) is.view_is).1 in let same : length d.sums ≡ length is.of.sums = is.sums in omega (arith, most, same)

  pub ghost_delta : ghost.IsDelta d
  ghost_delta = record { sums = recursion_from_All IsHuge d.sums is.in_range; few = few_sums }

  pub key_fits : length d.group ≤ 1024
  key_fits =
      let most = (limited.narrow d.view (view is.of) is.view_is).0 in
      let bytes = (width_law _ is.group is.fits).1 in
      let same : length d.group ≡ length (Rattle.iv_types.specs.Encoding.key_bytes _ is.group) = ap length is.key in
      omega (arith, most, bytes, same)

  -- its row takes the place of one that is as long, or there is room kept for its entry
  pub can_store : (maps : ℕ → Map) (limit : Option ℕ) (rows : ViewRows) (total : ℕ) → AreStored objects rows → get (maps d.view) d.group ≡ option_map numbers_bytes (get rows (place_of d)) → IsWithin limit (used maps + total)
      → (get rows (place_of d) ≡ None → Where limit (delta_entry d ≤ total)) → CanStore maps limit (place_of d) (width d)
  can_store maps limit rows total shaped shows within room value long = (
    record { of_index = at; of_key = key_fits; of_value = let few = few_sums in omega (arith, long, few) },
    by (get rows (place_of d)) refl,
  )
    where
      at : d.view ≤ 192
      at = few_numbers objects d.view (view is.of) limited is.view_is

      by : (o : Option (List ℤ)) → get rows (place_of d) ≡ o → IsWithin limit (used (with_map maps d.view (insert (maps d.view) d.group value)))
      by None e =
          let more = used_insert maps d.view d.group value at (shows ∙ ap (option_map numbers_bytes) e) in
          within_fewer limit (used maps + total) (used (with_map maps d.view (insert (maps d.view) d.group value)))
          (where_map limit (λ (le : delta_entry d ≤ total). let less : used (with_map maps d.view (insert (maps d.view) d.group value)) ≤ used maps + total = omega (arith, more, long, le) in less) (room e)) within
      by (Some ns) e =
          let same = used_present maps d.view d.group value (numbers_bytes ns) at (shows ∙ ap (option_map numbers_bytes) e) in
          let r = shaped (place_of d) ns e in
          let one : Some (view r.of) ≡ Some (view is.of) = sym r.view_is ∙ is.view_is in
          let of : r.of ≡ is.of = cc in
          let wide : length ns ≡ suc (length is.of.sums) = r.width ∙ ap (λ (v : ViewTree). suc (length v.sums)) of in
          let sums : length d.sums ≡ length is.of.sums = is.sums in
          let bytes = length_numbers ns in
          within_fewer limit (used maps + total) (used (with_map maps d.view (insert (maps d.view) d.group value)))
          (where_always limit (let less : used (with_map maps d.view (insert (maps d.view) d.group value)) ≤ used maps + total = omega (arith, same, wide, sums, bytes, long) in less)) within

module _ {M : Type 0} (maps : M → ℕ → Map) (spare : M → ℕ → ℕ) (limit : M → Option ℕ) (core : CoreState M) (s : Store) (l : Log) (texts : Texts) (i : ℕ) (h : Holds maps spare limit core s l texts) (o : OwesFirst s i) where
  abbrev pub mine : Has (schema_of s) (open_at core.book.opens i) (now s i) (l.logged i)
  mine = own maps spare limit core s l texts i h o.is_open

  pub covered : IsCovered core.store.catalog core.store.views core.locks (wants_at core.wants i) i (txn_of mine.txn)
  covered = h.rooms.each i o.is_open.of_session mine.txn mine.there

  pub owed_there : (txn_of mine.txn).owed ≡ o.first ∷ o.others
  owed_there = mine.is.owed ∙ o.owed_is

  pub back_there : mine.txn.back ≡ 0
  back_there = mine.is.back ∙ o.none_back

  pub still_there : still_owed (txn_of mine.txn) ≡ o.first ∷ o.others
  still_there = ap (λ n. drop n (txn_of mine.txn).owed) back_there ∙ owed_there

  pub limited_here : IsLimited (schema_of s)
  limited_here = subst IsLimited h.stored.objects h.rooms.limited

  pub has_for : HasFor core.store.catalog (maps core.store.tables) core.store.views o.first (told s texts)
  has_for = record { held = told_stored maps spare limit core s l texts h; of_view = record { of = o.delta.of; is = o.delta.view_is; sums = o.delta.sums } }

  pub is_ready : IsReady core.store.views (place_of o.first) i
  is_ready =
      let c = covered in
      let many : length (still_owed (txn_of mine.txn)) ≡ suc (length o.others) = ap length still_there in
      record {
        seat = c.seats o.first (Contains-append_left (still_owed (txn_of mine.txn)) _ o.first (subst (λ ds. Contains ds o.first) (sym still_there) (0, omega arith, refl)));
        room = let buffers = c.buffers in omega (arith, buffers, many);
      }

  -- the one that the book has first
  pub first_is : (t : BookOpen) → open_at core.book.opens i ≡ Some t → (x : GroupDelta) → ((d : GroupDelta) (ds : List GroupDelta) → reverse t.owed.items ≡ d ∷ ds → x ≡ d) → x ≡ o.first
  first_is t there x f =
      let one : Some t ≡ Some mine.txn = sym there ∙ mine.there in
      let same : t ≡ mine.txn = cc in
      f o.first o.others (ap (λ (y : BookOpen). reverse y.owed.items) same ∙ owed_there)

  -- the book's transaction owes something
  pub owes_some : (t : BookOpen) → open_at core.book.opens i ≡ Some t → t.owed.items ≢ []
  owes_some t there none =
      let one : Some t ≡ Some mine.txn = sym there ∙ mine.there in
      let same : t ≡ mine.txn = cc in
      let bad : [] ≡ o.first ∷ o.others = sym (ap reverse none) ∙ (ap (λ (y : BookOpen). reverse y.owed.items) same ∙ owed_there) in
      absurd cc
