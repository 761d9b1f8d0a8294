use Rattle.std.proofs.Common.{List, [], sym, subst}
use Rattle.iv_types.specs.Definitions.{Definitions}
use Rattle.table_store.specs.Lists.{map_at}
use Rattle.iv_meaning.specs.Objects.{schema_of}
use Rattle.txn_log.specs.Damaged.{Found, in_texts, texts_found}
use Rattle.txn_log.specs.Stored.{AllCreate}
use Rattle.image_entries.specs.Parts.{parts_found}
use Rattle.image_pages.proofs.Counted.{index_counts}
use Rattle.image_pages.proofs.Stored.{has_some, has_those}
use Rattle.image_pages.proofs.filling.with_rows.Goals as goal

pub returns-in-Ok-filled-clause-has : goal.returns-in-Ok-filled-clause-has
returns-in-Ok-filled-clause-has c =
    let texts = texts_found (in_texts (parts_found c.args.parts.now)).1 in
    has_some c.in-Ok-filled.store texts c.args.entries.entries c.in-Ok-filled.ensures.filled
    (subst (λ (ds : Definitions). AllCreate [] texts (schema_of ds)) (sym c.in-Ok-filled.ensures.catalog) c.requires.made)

pub returns-in-Ok-filled-clause-pages : goal.returns-in-Ok-filled-clause-pages
returns-in-Ok-filled-clause-pages c bytes image from stands =
    let texts = texts_found (in_texts (parts_found c.args.parts.now)).1 in
    has_those bytes image c.args.entries.entries c.args.parts.now from c.in-Ok-filled.store c.in-Ok-filled.ensures.filled
    (subst (λ (ds : Definitions). AllCreate [] texts (schema_of ds)) (sym c.in-Ok-filled.ensures.catalog) c.requires.made)

pub returns-in-Ok-filled-clause-passes : goal.returns-in-Ok-filled-clause-passes
returns-in-Ok-filled-clause-passes c bytes image from stands =
    c.in-Ok.ensures.passes bytes image from.found from.gathers (subst (λ (fs : List Found). AllCreate [] (texts_found (in_texts fs).1) (schema_of c.args.catalog)) from.parts_are c.requires.made) stands

pub returns-in-Err-clause-refused : goal.returns-in-Err-clause-refused
returns-in-Err-clause-refused c bytes image from stands =
    c.in-Err.ensures.rule bytes image from.found from.gathers (subst (λ (fs : List Found). AllCreate [] (texts_found (in_texts fs).1) (schema_of c.args.catalog)) from.parts_are c.requires.made) stands

pub returns-in-Ok-filled-clause-counts : goal.returns-in-Ok-filled-clause-counts
returns-in-Ok-filled-clause-counts c =
    let store = c.in-Ok-filled.store in
    index_counts (map_at store.tables 0) store.catalog (parts_found c.args.parts.now) c.requires.sizes c.in-Ok-filled.ensures.filled.has_texts
