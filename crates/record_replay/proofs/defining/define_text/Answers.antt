use Rattle.std.proofs.Common.{sym, ap, subst, ◌∙◌}
use Rattle.iv_meaning.specs.Objects.{schema_of}
use Rattle.data_store.specs.declared.store.DataStore.{DataStore}
use Rattle.image_catalog.specs.Storing.{HasBefore}
use Rattle.record_replay.proofs.Defined.{can_replay, defines_none, has_before, defines_one}
use Rattle.record_replay.proofs.Texts.{told_in, one_counts}
use Rattle.record_replay.proofs.defining.define_text.Goals as goal

pub replay_definition-requires-clause-stands : goal.replay_definition-requires-clause-stands
replay_definition-requires-clause-stands g c κs within =
    let maps = g.M.SortedMaps.maps in
    let limit = g.M.SortedMaps.limit in
    let store = c.args.store.now in
    let q = c.requires.has in
    (told_in maps store q.0, can_replay maps limit store q.0 q.1)

pub returns-then-not-branch-clause-told : goal.returns-then-not-branch-clause-told
returns-then-not-branch-clause-told g c = λ p h.
    defines_none g.M.SortedMaps.maps g.M.SortedMaps.limit c.args.store.now p h c.replay_definition.new.store c.args.text.now (c.in_ok-replay_definition.ensures.other c.if-not-branch.true)

pub put_next_text-requires-clause-creates : goal.put_next_text-requires-clause-creates
put_next_text-requires-clause-creates g c κs within =
    let replayed = c.in_ok-replay_definition.ensures.defines c.if-not-branch.false in
    (schema_of c.args.store.now.catalog, replayed.object, replayed.creates)

pub put_next_text-requires-clause-before : goal.put_next_text-requires-clause-before
put_next_text-requires-clause-before g c κs within =
    let maps = g.M.SortedMaps.maps in
    let limit = g.M.SortedMaps.limit in
    let q = c.requires.has in (
      q.1.texts.texts,
      subst (λ t. HasBefore c.next_number-number.result (maps t 0) q.1.texts.texts) (sym c.maps_mut.ensures.value)
          (has_before maps limit c.args.store.now q.0 q.1 c.replay_definition.new.store c.args.text.now (c.in_ok-replay_definition.ensures.defines c.if-not-branch.false) c.next_number-number.result c.next_number-number.ensures),
    )

pub returns-clause-told : goal.returns-clause-told
returns-clause-told g c = λ p h.
    let maps = g.M.SortedMaps.maps in
    let limit = g.M.SortedMaps.limit in
    let store = c.args.store.now in
    let mid = c.replay_definition.new.store in
    let replayed = c.in_ok-replay_definition.ensures.defines c.if-not-branch.false in
    let value = c.maps_mut.ensures.value in
    let before = has_before maps limit store p h mid c.args.text.now replayed c.next_number-number.result c.next_number-number.ensures in
    defines_one maps limit store p h mid c.args.text.now replayed c.put_next_text.new.maps
    c.in_ok-replay_definition.ensures.made (ap (λ (d : DataStore g.row.M.Denot). d.views) c.replay_definition.ensures.rest) c.replay_definition.ensures.limit
    (λ i other. c.put_next_text.ensures.others i other ∙ ap (λ t. maps t i) value) (c.put_next_text.ensures.limit ∙ ap limit value)
    (c.in_ok-put_next_text.ensures.stored h.texts.texts (subst (λ t. HasBefore c.next_number-number.result (maps t 0) h.texts.texts) (sym value) before))

pub returns-clause-texts : goal.returns-clause-texts
returns-clause-texts g c =
    let maps = g.M.SortedMaps.maps in
    let limit = g.M.SortedMaps.limit in
    let store = c.args.store.now in
    let q = c.requires.has in
    let replayed = c.in_ok-replay_definition.ensures.defines c.if-not-branch.false in
    let before = has_before maps limit store q.0 q.1 c.replay_definition.new.store c.args.text.now replayed c.next_number-number.result c.next_number-number.ensures in
    one_counts (maps store.tables 0) (maps c.put_next_text.new.maps 0) store.catalog q.0.db.schema c.args.text.now q.1.texts
    (c.in_ok-put_next_text.ensures.stored q.1.texts.texts (subst (λ t. HasBefore c.next_number-number.result (maps t 0) q.1.texts.texts) (sym c.maps_mut.ensures.value) before))
