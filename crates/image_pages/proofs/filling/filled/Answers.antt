use Rattle.std.proofs.Common.{sym, ap, subst, ◌∙◌}
use Rattle.iv_types.specs.Definitions.{Definitions}
use Rattle.table_store.specs.Lists.{map_at}
use Rattle.txn_log.specs.Damaged.{in_texts, texts_found}
use Rattle.data_defining.proofs.Beside.{beside_held}
use Rattle.image_entries.specs.Parts.{parts_found}
use Rattle.image_store.specs.Filled as store
use Rattle.image_pages.specs.Pages.{IsFilledWith}
use Rattle.image_pages.proofs.filling.filled.Goals as goal

pub returns-clause-filled : goal.returns-clause-filled
returns-clause-filled c =
    let f = c.in_ok-store.ensures.filled in
    let put = c.in_ok-put_texts.ensures in
    let new = map_at c.put_texts.new.maps in
    subst (λ (ds : Definitions). IsFilledWith (texts_found (in_texts (parts_found c.args.parts.now)).1) c.args.entries.entries ds new c.in_ok-store.store.views) (sym c.in_ok-store.ensures.catalog)
    (record {
      pages = f.pages;
      held = beside_held c.args.catalog (map_at c.in_ok-store.store.tables) new c.in_ok-store.store.views (store.contents_of f.pages)
          (λ i other. put.others i other ∙ ap (λ lists. map_at lists i) c.maps_mut.ensures.value) f.held;
      entries = f.entries;
      proper = f.proper;
      closed = f.closed;
      has_texts = record { are = put.stored; many = put.many c.args.catalog c.requires.made; short = put.short; few = put.few };
    })
