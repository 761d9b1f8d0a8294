-- The texts of definitions under index 0: they stay while rows change, and one comes behind them; and what they count.
use Rattle.std.proofs.Common.{◌≡◌, inl, inr, ℕ, ◌+◌, ◌*◌, ◌≤◌, List, [], ◌∷◌, ◌++◌, map, length, Option, Some, None, Result, refl, sym, ap, ◌∙◌, subst, arith, length-append}
use Rattle.std.specs.Prelude.{OnOk}
use Rattle.std.specs.List.{sum}
use Rattle.std.proofs.lemmas.Bool.{cases_lt}
use Rattle.std.proofs.lemmas.Result.{on_ok_weaker}
use Rattle.iv_types.specs.Definitions.{Definitions}
use Rattle.iv_types.specs.Maps.{Map, map_size}
use Rattle.iv_meaning.specs.Objects.{schema_of}
use Rattle.iv_meaning.specs.Schema.{Schema, Object}
use Rattle.query_laws.proofs.Each.{each_append}
use Rattle.txn_machine.specs.Log.{definition_entries, part_bytes}
use Rattle.txn_machine.proofs.LogSums.{sum_first}
use Rattle.txn_log.specs.Appended.{Creates}
use Rattle.txn_log.specs.Replay.{Pages}
use Rattle.txn_log.specs.Stored.{AllCreate}
use Rattle.definition_parts.specs.Parts.{IsShort}
use Rattle.ghost_rows.specs.State.{State}
use Rattle.data_store.specs.Contents.{Contents, with_texts}
use Rattle.data_store.specs.declared.store.DataStore.{DataStore}
use Rattle.data_store.proofs.Told.{told_held, untold_held}
use Rattle.definition_parts.specs.Parts.{HasTexts}
use Rattle.definition_parts.proofs.Sizes.{sizes_are}
use Rattle.definition_parts.proofs.Staying.{same_texts}
use Rattle.image_catalog.specs.Storing.{IsKept, StoresKept}
use Rattle.image_catalog.proofs.Kept.{short_by_length}
use Rattle.image_catalog.proofs.Telling.{and_one}
use Rattle.image_catalog.proofs.Putting.{one_each, few_texts}
use Rattle.group_replay.specs.Closed.{IsClosed}
use Rattle.record_replay.specs.Standing.{contents_of, HasItsTexts, Has}

-- ---- the entries of index 0, told

abbrev pub told_in : {M : Type 0} → (M → ℕ → Map) → DataStore M → Pages → Contents
told_in maps store p = with_texts (Some (maps store.tables 0)) (contents_of p)

pub told_closed : {M : Type 0} (maps : M → ℕ → Map) (limit : M → Option ℕ) (store : DataStore M) (p : Pages) → Has maps limit store p → IsClosed store.catalog (maps store.tables) store.views (told_in maps store p)
told_closed maps limit store p h = record {
  held = told_held store.catalog (maps store.tables) store.views (contents_of p) (maps store.tables 0) refl h.closed.held;
  closed = h.closed.closed;
  unkept = λ session. refl;
}

-- or not
pub untold_closed : (ds : Definitions) (maps : ℕ → Map) (state : State) (c : Contents) → IsClosed ds maps state c → IsClosed ds maps state (with_texts None c)
untold_closed ds maps state c h = record { held = untold_held ds maps state c h.held; closed = h.closed; unkept = h.unkept }

-- ---- texts stay

pub texts_stay : (old new : Map) (ds others : Definitions) (objects : Schema) → new ≡ old → others ≡ ds → HasItsTexts old ds objects → HasItsTexts new others objects
texts_stay old new ds others objects entries same h = record {
  texts = h.texts;
  has = subst (λ (xs : Definitions). HasTexts new xs h.texts) (sym same) (same_texts old new ds h.texts h.has entries);
  create = h.create;
}

-- ---- one text more

pub one_text : (old new : Map) (ds more : Definitions) (objects : Schema) (o : Object) (text : List ℕ) (h : HasItsTexts old ds objects) → schema_of more ≡ objects ++ o ∷ [] → Creates objects text o → StoresKept text h.texts new
    → HasItsTexts new more (objects ++ o ∷ [])
one_text old new ds more objects o text h are creates stores =
    let all : AllCreate [] (h.texts ++ stores.kept ∷ []) (objects ++ o ∷ []) = and_one [] h.texts objects stores.kept o h.create (stores.is_kept.same objects o creates) in
    let few = few_texts (h.texts ++ stores.kept ∷ []) (objects ++ o ∷ []) all in
    record {
      texts = h.texts ++ stores.kept ∷ [];
      has = record {
        are = stores.stored;
        many = one_each (h.texts ++ stores.kept ∷ []) more (subst (AllCreate [] (h.texts ++ stores.kept ∷ [])) (sym are) all);
        short = each_append IsShort h.texts (stores.kept ∷ []) h.has.short (stores.is_kept.short, tt);
        few = omega (arith, few);
      };
      create = all;
    }

-- ---- what they count

abbrev pub sizes : List (List ℕ) → ℕ
sizes texts = sum (map definition_entries texts)

pub both_sizes : (xs ys : List (List ℕ)) → sizes (xs ++ ys) ≡ sizes xs + sizes ys
both_sizes [] ys = omega arith
both_sizes (x ∷ xs) ys =
    let all = sum_first (definition_entries x) (map definition_entries (xs ++ ys)) in
    let one = sum_first (definition_entries x) (map definition_entries xs) in
    let rest = both_sizes xs ys in
    omega (arith, all, one, rest)

-- what is kept of a text counts no more: it is the text itself, or short where that is not
kept_counts : (text kept : List ℕ) → IsKept text kept → definition_entries kept ≤ definition_entries text
kept_counts text kept is = elim (cases_lt (65536 * part_bytes) (length text)) [
  | inl long ↦ (let few = (short_by_length kept).1 is.short in omega (arith, long, few))
  | inr few ↦ (let same = ap definition_entries (is.itself ((short_by_length text).0 few)) in omega (arith, same))
]

-- one text more
pub one_counts : (old new : Map) (ds : Definitions) (objects : Schema) (text : List ℕ) (h : HasItsTexts old ds objects) → StoresKept text h.texts new → map_size new ≤ map_size old + definition_entries text
one_counts old new ds objects text h stores =
    let all : List (List ℕ) = h.texts ++ stores.kept ∷ [] in
    let few = few_texts h.texts objects h.create in
    let long = length-append h.texts (stores.kept ∷ []) in
    let before : map_size old ≡ sizes h.texts = ap map_size h.has.are ∙ sizes_are h.texts h.has.short h.has.few in
    let after : map_size new ≡ sizes all = ap map_size stores.stored ∙ sizes_are all (each_append IsShort h.texts (stores.kept ∷ []) h.has.short (stores.is_kept.short, tt)) (omega (arith, few, long)) in
    let both = both_sizes h.texts (stores.kept ∷ []) in
    let one = sum_first (definition_entries stores.kept) [] in
    let most = kept_counts text stores.kept stores.is_kept in
    omega (arith, before, after, both, one, most)

-- none more
pub same_counts : {X E : Type 0} (old new : Map) (n : ℕ) (r : Result X E) → OnOk r (new ≡ old) → OnOk r (map_size new ≤ map_size old + n)
same_counts old new n r h = on_ok_weaker r (λ same. let size = ap map_size same in omega (arith, size)) h
