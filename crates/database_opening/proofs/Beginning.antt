-- A core can be begun on what was read.
use Rattle.std.proofs.Common.{◌≡◌, ℕ, ◌+◌, ◌≤◌, ◌^◌, List, map, false, None, Some, refl, sym, ap, subst, ◌∙◌, arith, append-nil}
use Rattle.std.specs.Prelude.{Option}
use Rattle.std.specs.List.{sum}
use Rattle.iv_types.specs.Definitions.{Definitions}
use Rattle.iv_types.specs.Maps.{Map, map_size, used}
use Rattle.query_laws.specs.Limited.{IsLimited}
use Rattle.txn_machine.specs.Counts.{sum_over}
use Rattle.txn_machine.specs.Log.{definition_entries, room_kept}
use Rattle.txn_machine.specs.State.{opened_state}
use Rattle.txn_machine.specs.Steps.{used_data}
use Rattle.txn_machine.specs.Store.{opened}
use Rattle.txn_log.specs.Damaged.{FitsDevice}
use Rattle.txn_log.specs.Replay.{Pages}
use Rattle.log_disk.specs.Placed.{data_limit}
use Rattle.version_chain.specs.Chains.{Chains}
use Rattle.version_chain.specs.declared.deltas.Delta.{Delta}
use Rattle.ghost_rows.specs.State.{State}
use Rattle.table_store.specs.Lists.{map_at}
use Rattle.definition_parts.specs.Parts.{HasTexts}
use Rattle.definition_parts.proofs.Sizes.{sizes_are}
use Rattle.data_store.specs.Contents.{contents_of}
use Rattle.data_store.specs.Held.{IsHeld}
use Rattle.data_store.specs.declared.store.DataStore.{DataStore}
use Rattle.data_room.proofs.Used.{used_is}
use Rattle.ordered_index.specs.Tree.{Tree, map_of, limit_of}
use Rattle.core_opening.specs.Opening.{HasDatabase}
use Rattle.image_catalog.proofs.Making.{made_so}
use Rattle.image_finding.specs.Headers.{as_header}
use Rattle.image_finding.specs.declared.header.LiveHeader.{LiveHeader}
use Rattle.image_opening.specs.Telling.{HasNoPast, HasSound}
use Rattle.image_opening.specs.declared.read.Recovered.{Recovered}
use Rattle.database_opening.specs.Opened.{CanBegin, IsOf, opening_of}
use Rattle.database_opening.specs.Pages.{IsSameOver}

module _ (r : Recovered) (sound : HasSound r) (past : HasNoPast r.replay.store) (size : ℕ) (fits : FitsDevice (as_header r.header) size)
    (new : DataStore Tree) (same : IsSameOver r.replay.store new) (limit : limit_of new.tables ≡ Some (data_limit r.header.pages)) (next : ℕ) (early : next ≤ 2 ^ 62 + 1) (p : Pages) (is : IsOf r p) where
  abbrev maps : ℕ → Map
  maps = map_at r.replay.store.tables

  maps_are : map_of new.tables ≡ maps
  maps_are = λ t index. same.entries index t

  abbrev texts : List (List ℕ)
  texts = is.has.texts.texts

  limited : IsLimited p.db.schema
  limited = subst IsLimited is.has.closed.held.objects (made_so _ is.has.made).limited

  stored : IsHeld new.catalog (map_of new.tables) new.views (contents_of (opened p.db p.view))
  stored =
      subst (λ (ds : Definitions). IsHeld ds (map_of new.tables) new.views (contents_of (opened p.db p.view))) (sym same.catalog)
      (subst (λ (ms : ℕ → Map). IsHeld r.replay.store.catalog ms new.views (contents_of (opened p.db p.view))) (sym maps_are)
      (subst (λ (v : State). IsHeld r.replay.store.catalog maps v (contents_of (opened p.db p.view))) (sym same.views) is.has.closed.held))

  has_texts : HasTexts (map_of new.tables 0) new.catalog texts
  has_texts = subst (λ (ds : Definitions). HasTexts (map_of new.tables 0) ds texts) (sym same.catalog) (subst (λ (m : Map). HasTexts m r.replay.store.catalog texts) (sym (same.entries 0)) is.has.texts.has)

  has_database : HasDatabase map_of limit_of new p.db p.view texts
  has_database = record {
    stored = stored;
    texts = has_texts;
    row_versions = ap (λ (x : Chains (Option (List ℕ))). x.versions) same.row_versions ∙ past.row_versions;
    delta_versions = ap (λ (x : Chains Delta). x.versions) same.delta_versions ∙ past.delta_versions;
    row_mark = let one = ap (λ (x : Chains (Option (List ℕ))). x.pruned) same.row_versions in let none = past.row_mark in omega (arith, one, none);
    delta_mark = let one = ap (λ (x : Chains Delta). x.pruned) same.delta_versions in let none = past.delta_mark in omega (arith, one, none);
    pending = ap (λ x. x.entries) same.pending ∙ past.pending;
  }

  -- what the data use is what the entries count
  data_are : (faults moment : ℕ) → used_data (opened_state (opening_of r.header texts next faults moment) (opened p.db p.view)) ≡ used maps
  data_are faults moment =
      let all = used_is r.replay.store.catalog maps r.replay.store.views (contents_of (opened p.db p.view)) is.has.closed.held is.has.sound is.has.stored limited in
      let parts : map_size (maps 0) ≡ sum (map definition_entries texts) = ap map_size is.has.texts.has.are ∙ sizes_are texts is.has.texts.has.short is.has.texts.has.few in
      let nothing : sum_over 64 (λ session. room_kept p.db.schema None false) ≡ 0 = refl in
      let same_texts = ap (λ ts. sum (map definition_entries ts)) (append-nil texts) in
      omega (arith, all, parts, nothing, same_texts)

  pub can_begin : CanBegin new r.header r.replay.commits next p
  can_begin = record {
    texts = texts;
    create = is.has.texts.create;
    opens = λ faults moment. record {
      log_is = refl;
      data_is = refl;
      next_is = refl;
      number_is = is.commits;
      was_opened = record { sound = is.has.sound; rows = λ place column. sound.fresh_at p is.has place column; stored = is.has.stored; in_range = sound.in_range p is.has };
      limited = limited;
      has = has_database;
      maps_limit = limit;
      within = let same_bytes = data_are faults moment in let within = sound.within in omega (arith, same_bytes, within);
      least = let least = fits.areas.0 in omega (arith, least);
      few = sound.few;
      early = early;
    };
  }

-- and so where the maps are others with the same entries
pub same_entries : (store : DataStore Tree) (tables : Tree) (h : LiveHeader) (commits next : ℕ) (p : Pages) → map_of tables ≡ map_of store.tables → limit_of tables ≡ limit_of store.tables
    → CanBegin store h commits next p → CanBegin (record store { tables = tables }) h commits next p
same_entries store tables h commits next p maps limit can = record {
  texts = can.texts;
  create = can.create;
  opens = λ faults moment.
      let o = can.opens faults moment in record {
        log_is = o.log_is;
        data_is = o.data_is;
        next_is = o.next_is;
        number_is = o.number_is;
        was_opened = o.was_opened;
        limited = o.limited;
        has = record {
          stored = subst (λ (ms : ℕ → Map). IsHeld store.catalog ms store.views (contents_of (opened p.db p.view))) (sym maps) o.has.stored;
          texts = subst (λ (ms : ℕ → Map). HasTexts (ms 0) store.catalog can.texts) (sym maps) o.has.texts;
          row_versions = o.has.row_versions;
          delta_versions = o.has.delta_versions;
          row_mark = o.has.row_mark;
          delta_mark = o.has.delta_mark;
          pending = o.has.pending;
        };
        maps_limit = limit ∙ o.maps_limit;
        within = o.within;
        least = o.least;
        few = o.few;
        early = o.early;
      };
}
