use Rattle.std.proofs.Common.{◌≡◌, ◌+◌, ◌-◌, ◌^◌, List, [], ◌∷◌, ◌++◌, arith, min}
use mathlib.Core.Path.{sym, ap, subst, ◌∙◌}
use Rattle.txn_machine.specs.Log.{Within, block_bytes, reserved, definition_need}
use Rattle.txn_machine.specs.Records.{definition_bytes}
use Rattle.txn_machine.specs.Steps.{texts_of}
use Rattle.iv_types.specs.Definitions.{Definitions}
use Rattle.iv_types.specs.declared.lock.Change.{Change}
use Rattle.txn_book.specs.Books.{Defined}
use Rattle.data_store.specs.Contents.{contents_of}
use Rattle.data_store.specs.declared.store.DataStore.{DataStore}
use Rattle.iv_types.specs.Printing.{statement_text}
use Rattle.iv_meaning.specs.Objects.{object_of}
use Rattle.table_store.specs.Filling.{filled}
use Rattle.definition_parts.specs.Parts.{parts_map, part_entries, CanPutText, HasTexts}
use Rattle.data_defining.specs.Defining.{with_object}
use Rattle.data_defining.proofs.Defined.{number_is}
use Rattle.data_defining.proofs.Beside.{beside_held}
use Rattle.core_state.proofs.Counted.{counted}
use Rattle.core_state.proofs.Logged.{log_limit_of}
use Rattle.core_schema.specs.Making.{with_catalog}
use Rattle.core_schema.proofs.Entered.{can, entered_told}
use Rattle.core_schema.proofs.Needs.{first_within, can_put_text, has_texts}
use Rattle.core_schema.proofs.entering.enter_flushed.Goals as goal

pub text_of-requires : goal.text_of-requires
text_of-requires g c = (c.requires.2.text, c.requires.2.texts)

pub enter_first-requires-clause-last : goal.enter_first-requires-clause-last
enter_first-requires-clause-last g c κs within =
    let s = c.requires.0 in
    let r = c.requires.2 in
    (r.before, r.definition, contents_of s.store, r.last, can g.M.SortedMaps.maps g.M.SortedMaps.spare g.M.SortedMaps.limit s c.args.session c.requires.1 r.definition c.args.first r.text c.args.need (with_catalog r.before c.args.core.now) r.may c.book_law.ensures)

pub enter_first-requires-clause-room : goal.enter_first-requires-clause-room
enter_first-requires-clause-room g c κs within = c.requires.2.first_room

pub enter_first-requires-clause-within : goal.enter_first-requires-clause-within
enter_first-requires-clause-within g c κs within =
    let s = c.requires.0 in
    let r = c.requires.2 in
    first_within g.M.SortedMaps.maps g.M.SortedMaps.spare g.M.SortedMaps.limit (with_catalog r.before c.args.core.now) s c.args.session c.requires.1 r.definition r.may.may c.args.first r.may.first_are r.may.data_room

pub put_parts-requires-after_bounds : goal.put_parts-requires-after_bounds
put_parts-requires-after_bounds g c κs within =
    let s = c.requires.0 in
    let r = c.requires.2 in
    let core = with_catalog r.before c.args.core.now in
    let store = c.enter_first.new.store in
    let at = r.last.number_is ∙ number_is r.before (g.M.SortedMaps.maps core.store.tables) core.store.views r.definition c.args.first (contents_of s.store)
    (can g.M.SortedMaps.maps g.M.SortedMaps.spare g.M.SortedMaps.limit s c.args.session c.requires.1 r.definition c.args.first r.text c.args.need core r.may c.book_law.ensures) in (
      (texts_of s),
      r.text,
      subst (λ t. CanPutText (g.M.SortedMaps.maps t) (g.M.SortedMaps.spare t 0) (g.M.SortedMaps.limit t) (texts_of s) r.text c.args.parts) (sym c.maps_mut.ensures.value)
          (can_put_text g.M.SortedMaps.maps g.M.SortedMaps.spare g.M.SortedMaps.limit core s c.args.session c.requires.1 r.definition r.may.may c.args.first r.may.first_are (g.M.SortedMaps.maps store.tables)
          (subst (λ n. g.M.SortedMaps.maps store.tables n ≡ filled (g.M.SortedMaps.maps core.store.tables n) c.args.first) at c.enter_first.ensures.entries)
          (λ k ne. c.enter_first.ensures.others k (λ e. ne (e ∙ at))) (g.M.SortedMaps.spare store.tables 0) (g.M.SortedMaps.limit store.tables) c.enter_first.ensures.limit r.may.data_room r.text r.may.text_is c.args.parts
          (r.parts_are ∙ ap (λ n. part_entries n r.text) at)
          (let had = r.parts_room in let left = c.enter_first.ensures.other_rooms 0 (λ e. absurd (omega (arith, e, at))) in omega (arith, had, left))),
    )

pub define-commit-requires-clause-room : goal.define-commit-requires-clause-room
define-commit-requires-clause-room g c = c.requires.2.entry_room

pub define-commit-requires-clause-fits : goal.define-commit-requires-clause-fits
define-commit-requires-clause-fits g c =
    let r = c.requires.2 in
    let all = counted g.M.SortedMaps.maps g.M.SortedMaps.spare g.M.SortedMaps.limit (with_catalog r.before c.args.core.now) c.requires.0 c.args.session r.may.may.began c.book_law.ensures in
    let room = r.may.room in
    omega (arith, all, room)

pub returns : goal.returns
returns g c = λ s statement r.
    let m = r.may in
    let core = with_catalog r.before c.args.core.now in
    let began = m.may.began in
    let store = c.enter_first.new.store in
    let tables = c.put_parts.new.maps in
    let defines = can g.M.SortedMaps.maps g.M.SortedMaps.spare g.M.SortedMaps.limit s c.args.session statement r.definition c.args.first r.text c.args.need core m c.book_law.ensures in
    let at = r.last.number_is ∙ number_is r.before (g.M.SortedMaps.maps core.store.tables) core.store.views r.definition c.args.first (contents_of s.store) defines in
    let catalog : store.catalog ≡ c.args.core.now.store.catalog = ap (λ (x : DataStore g.row.M.Denot). x.catalog) c.enter_first.ensures.rest in
    let can_text = can_put_text g.M.SortedMaps.maps g.M.SortedMaps.spare g.M.SortedMaps.limit core s c.args.session statement r.definition m.may c.args.first m.first_are (g.M.SortedMaps.maps store.tables)
    (subst (λ n. g.M.SortedMaps.maps store.tables n ≡ filled (g.M.SortedMaps.maps core.store.tables n) c.args.first) at c.enter_first.ensures.entries)
    (λ k ne. c.enter_first.ensures.others k (λ e. ne (e ∙ at))) (g.M.SortedMaps.spare store.tables 0) (g.M.SortedMaps.limit store.tables) c.enter_first.ensures.limit m.data_room r.text m.text_is c.args.parts
    (r.parts_are ∙ ap (λ n. part_entries n r.text) at)
    (let had = r.parts_room in let left = c.enter_first.ensures.other_rooms 0 (λ e. absurd (omega (arith, e, at))) in omega (arith, had, left)) in
    let stored : g.M.SortedMaps.maps tables 0 ≡ parts_map ((texts_of s) ++ r.text ∷ []) =
    c.put_parts.ensures.stored (texts_of s) r.text (subst (λ t. CanPutText (g.M.SortedMaps.maps t) (g.M.SortedMaps.spare t 0) (g.M.SortedMaps.limit t) (texts_of s) r.text c.args.parts) (sym c.maps_mut.ensures.value) can_text) in
    let all : store.catalog ≡ r.before ++ r.definition ∷ [] = catalog ∙ r.last.are in
    entered_told g.M.SortedMaps.maps g.M.SortedMaps.spare g.M.SortedMaps.limit s c.args.session statement r.definition c.args.first r.text c.args.need core m c.book_law.ensures
    (record c.args.core.now { store = record store { tables = tables }; book = c.define-commit.new.self; log_room = c.define.new.self; next = c.args.core.now.next + 1 })
    r.texts.change r.texts.is_text (subst (λ (l : List Change). Defined c.args.core.now.book c.define-commit.new.self c.args.session l c.args.need) r.texts.are c.define-commit.ensures.entry)
    (beside_held store.catalog (g.M.SortedMaps.maps store.tables) (g.M.SortedMaps.maps tables) store.views (with_object (contents_of s.store) (object_of r.definition))
    (λ k ne. c.put_parts.ensures.others k ne ∙ ap (λ t. g.M.SortedMaps.maps t k) c.maps_mut.ensures.value)
    (c.enter_first.ensures.held r.before r.definition (contents_of s.store) r.last defines))
    (subst (λ ds. HasTexts (g.M.SortedMaps.maps tables 0) ds ((texts_of s) ++ statement_text statement ∷ [])) (sym all)
    (has_texts g.M.SortedMaps.maps g.M.SortedMaps.spare g.M.SortedMaps.limit core s c.args.session statement r.definition m.may c.args.first m.first_are (g.M.SortedMaps.maps tables 0) (stored ∙ ap (λ t. parts_map ((texts_of s) ++ t ∷ [])) m.text_is)))
    (c.put_parts.ensures.limit ∙ (ap g.M.SortedMaps.limit c.maps_mut.ensures.value ∙ c.enter_first.ensures.limit))
    (ap (λ (x : DataStore g.row.M.Denot). record c.args.core.now { store = record x { tables = tables }; book = c.define-commit.new.self; log_room = c.define.new.self; next = c.args.core.now.next + 1 })
    (c.enter_first.ensures.rest ∙ ap (λ (ds : Definitions). record c.args.core.now.store { catalog = ds; tables = store.tables; views = store.views }) (sym catalog)))
    c.define.ensures.limit
    (c.define.ensures.room s.store s.log c.args.session statement _ (subst (λ t. c.definition_need-log_bytes.result ≡ min (definition_bytes t + block_bytes) (2 ^ 64 - 1)) (c.text_of.ensures r.text r.texts ∙ m.text_is) c.definition_need-log_bytes.ensures) began.reserves.log_room
    (subst (λ x. Within x (s.log.used + reserved s.store s.log + definition_need statement)) (log_limit_of g.M.SortedMaps.maps g.M.SortedMaps.spare g.M.SortedMaps.limit core s c.args.session began) m.log_room))
    c.define-commit.result c.define-commit.ensures.number
