-- What the entries of a row count in the indexes of its table.
use Rattle.std.specs.Prelude.{◌≡◌, ◌==◌, ℕ, ◌+◌, ◌<◌, true, false, cond, List, [], ◌∷◌, map, length, drop, get_or}
use Rattle.std.specs.List.{sum}
use Rattle.std.proofs.Common.{arith}
use Rattle.std.proofs.lemmas.List.{drop_more}
use Rattle.std.proofs.lemmas.List.Sums.{sum_by-cons}
use mathlib.Core.Path.{sym, ap, ◌∙◌}
use Rattle.iv_types.specs.declared.catalog.TableDef.{TableDef}
use Rattle.iv_types.specs.declared.catalog.IndexDef.{IndexDef}
use Rattle.iv_types.specs.declared.catalog.Definition.{Definition}
use Rattle.iv_meaning.specs.Schema.{Schema, Object, table, index, view, indexes_of}
use Rattle.iv_meaning.specs.Objects.{schema_of, object_of}
use Rattle.iv_meaning.specs.Database.{Row}
use Rattle.iv_meaning.specs.View.{index_key}
use Rattle.txn_machine.specs.Log.{entry_bytes}

module _ (t : TableDef) (row : Row) where
  abbrev size_in : IndexDef → ℕ
  size_in i = entry_bytes (length (index_key t i row)) 0

  abbrev pub index_sum : Schema → ℕ
  index_sum objects = sum (map size_in (indexes_of objects t.number))

  first_sum : (o : Object) (objects : Schema) → index_sum (o ∷ objects) ≡ index_sum (o ∷ []) + index_sum objects
  first_sum (table u) objects = let e : index_sum objects ≡ 0 + index_sum objects = omega arith in e
  first_sum (view v) objects = let e : index_sum objects ≡ 0 + index_sum objects = omega arith in e
  first_sum (index i) objects =
      let rest : List IndexDef = indexes_of objects t.number in
      elim (i.table == t.number) as (λ b. sum (map size_in (cond b (i ∷ rest) rest)) ≡ sum (map size_in (cond b (i ∷ []) [])) + sum (map size_in rest)) [
        | true ↦ omega (arith, sum_by-cons (λ n. n) (size_in i) (map size_in rest), sum_by-cons (λ n. n) (size_in i) [])
        | false ↦ let e : index_sum objects ≡ 0 + index_sum objects = omega arith in e
      ]

  pub one_more : (definitions : List Definition) (at : ℕ) (d : Definition) (size n whole : ℕ) → at < length definitions → d ≡ get_or definitions at d
      → n ≡ index_sum (object_of d ∷ []) → size + index_sum (schema_of (drop at definitions)) ≡ whole → (size + n) + index_sum (schema_of (drop (at + 1) definitions)) ≡ whole
  one_more definitions at d size n whole lt is counts told =
      let split : index_sum (schema_of (drop at definitions)) ≡ index_sum (object_of d ∷ []) + index_sum (schema_of (drop (at + 1) definitions)) =
      ap (λ (ds : List Definition). index_sum (schema_of ds)) (drop_more definitions at d lt ∙ ap (λ (x : Definition). x ∷ drop (at + 1) definitions) (sym is))
      ∙ first_sum (object_of d) (schema_of (drop (at + 1) definitions)) in
      omega (arith, split, counts, told)
