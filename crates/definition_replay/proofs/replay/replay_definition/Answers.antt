use Rattle.std.proofs.Common.{Option, sym, ap, subst}
use Rattle.std.proofs.lemmas.Result.{IfOk-weaker}
use Rattle.iv_types.specs.declared.catalog.Definition.{Definition}
use Rattle.iv_meaning.specs.Objects.{object_of, schema_of}
use Rattle.data_store.specs.declared.store.DataStore.{DataStore}
use Rattle.image_catalog.specs.Texts.{AreMade, IsDefined}
use Rattle.image_catalog.proofs.Making.{takes_one}
use Rattle.definition_replay.proofs.Replayed.{either_way, may_begin, is_replayed, none_accepted, made_more}
use Rattle.definition_replay.proofs.replay.replay_definition.Goals as goal

pub begin-requires-clause-adds : goal.begin-requires-clause-adds
begin-requires-clause-adds g c κs within =
    takes_one c.args.store.now.catalog c.args.text.now c.in-Ok-Some.definition c.requires.made
    (subst (λ (o : Option Definition). IsDefined (schema_of c.args.store.now.catalog) c.args.text.now o) c.in-Ok-Some.field-0-is c.in-Ok-Some.ensures)

pub begin-requires-clause-begins : goal.begin-requires-clause-begins
begin-requires-clause-begins g c κs within =
    let q = c.requires.stands in
    let creates = subst (λ (o : Option Definition). IsDefined (schema_of c.args.store.now.catalog) c.args.text.now o) c.in-Ok-Some.field-0-is c.in-Ok-Some.ensures in
    (q.0, may_begin c.args.store.now.catalog (g.M.SortedMaps.maps c.args.store.now.tables) c.args.store.now.views c.args.text.now (object_of c.in-Ok-Some.definition) c.requires.made creates q.0 q.1)

pub returns-in-Ok-Some-clause-defines : goal.returns-in-Ok-Some-clause-defines
returns-in-Ok-Some-clause-defines g c =
    let creates = subst (λ (o : Option Definition). IsDefined (schema_of c.args.store.now.catalog) c.args.text.now o) c.in-Ok-Some.field-0-is c.in-Ok-Some.ensures in
    IfOk-weaker c.begin.result _ _ (λ b begun yes.
    is_replayed c.args.store.now.catalog (g.M.SortedMaps.maps c.args.store.now.tables) c.args.store.now.views c.args.text.now c.in-Ok-Some.definition c.requires.made creates c.begin.new.store.catalog (g.M.SortedMaps.maps c.begin.new.store.tables) (begun yes)) c.begin.ensures.begun

pub returns-in-Ok-Some-clause-other : goal.returns-in-Ok-Some-clause-other
returns-in-Ok-Some-clause-other g c =
    let creates = subst (λ (o : Option Definition). IsDefined (schema_of c.args.store.now.catalog) c.args.text.now o) c.in-Ok-Some.field-0-is c.in-Ok-Some.ensures in
    IfOk-weaker c.begin.result _ _ (λ b other none.
    none_accepted c.args.store.now.catalog (g.M.SortedMaps.maps c.args.store.now.tables) c.args.store.now.views c.args.text.now c.in-Ok-Some.definition c.requires.made creates (other none)) c.begin.ensures.other

pub returns-in-Ok-Some-clause-made : goal.returns-in-Ok-Some-clause-made
returns-in-Ok-Some-clause-made g c =
    let creates = subst (λ (o : Option Definition). IsDefined (schema_of c.args.store.now.catalog) c.args.text.now o) c.in-Ok-Some.field-0-is c.in-Ok-Some.ensures in
    either_way c.begin.result (AreMade (schema_of c.begin.new.store.catalog))
    (IfOk-weaker c.begin.result _ _ (λ b begun yes.
    made_more c.args.store.now.catalog (g.M.SortedMaps.maps c.args.store.now.tables) c.args.store.now.views c.args.text.now c.in-Ok-Some.definition c.requires.made creates c.begin.new.store.catalog (begun yes).defined) c.begin.ensures.begun)
    (IfOk-weaker c.begin.result _ _ (λ b untouched none. subst AreMade (sym (ap (λ (x : DataStore g.row.M.Denot). schema_of x.catalog) (untouched none))) c.requires.made) c.begin.ensures.untouched)

pub returns-in-Ok-None-clause-other : goal.returns-in-Ok-None-clause-other
returns-in-Ok-None-clause-other g c = λ _ o creates.
    absurd (subst (λ (x : Option Definition). IsDefined (schema_of c.args.store.now.catalog) c.args.text.now x) c.in-Ok-None.field-0-is c.in-Ok-None.ensures o creates)
