use Rattle.std.proofs.Common.{◌≡◌, ◌∙◌, sym, ap, subst}
use Rattle.iv_types.specs.Definitions.{Definitions}
use Rattle.table_store.specs.Lists.{map_at}
use Rattle.txn_log.specs.Replay.{Pages, recovered}
use Rattle.record_replay.specs.Standing.{Has, contents_of}
use Rattle.image_pages.specs.Pages.{no_limit}
use Rattle.image_opening.specs.Faults.{views_fault, counted_by}
use Rattle.image_opening.specs.Telling.{Refuses}
use Rattle.image_opening.specs.declared.fault.OpenFault.{OpenFault}
use Rattle.image_opening.proofs.Opening.{can_compare, is_within, has_sound, is_fine, refuses, refuses_all, no_fault}
use Rattle.image_opening.proofs.read.compared.Goals as goal

pub checked-requires : goal.checked-requires
checked-requires c = let has = c.requires.has in (contents_of has.0, can_compare c.args.replay.store has.0 has.1)

pub returns-in-Ok-clause-opened : goal.returns-in-Ok-clause-opened
returns-in-Ok-clause-opened c bytes are passes has counts rec = (
  passes,
  (λ i im.
      let r = rec i im in (
        is_fine bytes are c.args.image.now has i im c.args.text_bytes counts c.args.replay r c.data_bytes-bytes.result c.data_limit.result c.data_bytes-bytes.ensures c.data_limit.ensures
            (c.in-Ok.ensures.fine (contents_of (recovered r.reading)) (can_compare c.args.replay.store (recovered r.reading) r.has)),
        r,
      )),
)

pub returns-in-Err-clause-refused : goal.returns-in-Err-clause-refused
returns-in-Err-clause-refused c bytes are passes has counts rec =
    let is : c.views_fault.result ≡ views_fault c.args.replay.store.catalog c.in-Err.fault = c.views_fault.ensures ∙ ap (λ (ds : Definitions). views_fault ds c.in-Err.fault) c.catalog_of.ensures in
    subst (Refuses bytes) (sym is)
    (refuses_all bytes (views_fault c.args.replay.store.catalog c.in-Err.fault) passes.passes (λ i im.
    let r = rec i im in
    refuses bytes are c.args.image.now has i im c.args.text_bytes counts c.args.replay r c.data_bytes-bytes.result c.data_limit.result c.data_bytes-bytes.ensures c.data_limit.ensures
    c.in-Err.fault (c.in-Err.ensures.refused (contents_of (recovered r.reading)) (can_compare c.args.replay.store (recovered r.reading) r.has))))

pub returns-in-Err-clause-no_disk : goal.returns-in-Err-clause-no_disk
returns-in-Err-clause-no_disk c = λ count. subst (λ (f : OpenFault). counted_by f count count) (sym c.views_fault.ensures) (no_fault c.catalog_of.result c.in-Err.fault count)

pub returns-in-Ok-clause-sound : goal.returns-in-Ok-clause-sound
returns-in-Ok-clause-sound c =
    let has = c.requires.has in
    let fine = λ (q : Pages) (h : Has map_at no_limit c.args.replay.store q). c.in-Ok.ensures.fine (contents_of q) (can_compare c.args.replay.store q h) in
    has_sound c.data_bytes-bytes.result c.data_limit.result (record { header = c.args.image.now.header; replay = c.args.replay }) has.0 has.1 has.2 has.3 fine c.requires.few
    (is_within c.args.image.now (map_at c.args.replay.store.tables) c.args.text_bytes c.data_bytes-bytes.result c.data_limit.result c.requires.texts c.data_bytes-bytes.ensures c.data_limit.ensures (fine has.0 has.1).within)
