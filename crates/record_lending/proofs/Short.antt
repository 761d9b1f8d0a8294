-- What definitions within their limits know is short.
use Rattle.std.proofs.Common.{◌≡◌, ◌<◌, ◌^◌, ℕ, List, Option, None, Some, length, sym, ap, subst, arith}
use Rattle.std.specs.Option.{option_map, IfSome}
use Rattle.iv_types.specs.declared.catalog.TableDef.{TableDef}
use Rattle.iv_types.specs.Encoding.{kinds_of, row_bytes, key_bytes}
use Rattle.table_laws.specs.Place.{Place}
use Rattle.iv_meaning.specs.Schema as schema
use Rattle.iv_meaning.specs.Schema.{Schema, Object, items_at, kinds_of_table, numbered, group_kinds}
use Rattle.iv_meaning.specs.Database.{Row}
use Rattle.query_laws.specs.Limited.{IsLimited}
use Rattle.query_laws.proofs.Widths.{width_law}
use Rattle.table_store.proofs.IndexKeys.{items_fit}
use Rattle.txn_machine.specs.May.{FitsUnder}
use Rattle.txn_machine.specs.Records.{Write, Delta, Ghost, Clean, Undo, Commit, Abort, Definition}
use Rattle.txn_log.specs.Fitting.{IsGroup, IsKeyOf}
use Rattle.record_lending.specs.Known.{ShortLaw}

-- of a table
module _ (objects : Schema) (limited : IsLimited objects) (number : ℕ) (t : TableDef) (is : numbered objects number ≡ Some (schema.table t)) where
  key_short : (key : List ℕ) → IsKeyOf t key → length key < 2 ^ 16
  key_short key k =
      let narrow = limited.narrow number (schema.table t) is in
      let bytes = (width_law (items_at (kinds_of t) t.primary) (items_at k.0 t.primary) (items_fit (kinds_of t) k.0 t.primary k.1)).1 in
      let long : length key ≡ length (key_bytes (items_at (kinds_of t) t.primary) (items_at k.0 t.primary)) = ap length k.2 in
      let one = narrow.0 in
      omega (arith, bytes, long, one)

  row_short : (key : List ℕ) (row : Option Row) → FitsUnder t key row → IfSome (option_map (row_bytes (kinds_of t)) row) (λ bytes. length bytes < 2 ^ 16)
  row_short key None h = tt
  row_short key (Some row) h =
      let narrow = limited.narrow number (schema.table t) is in
      let wide = (width_law (kinds_of t) row h.1).0 in
      let other = narrow.1 in
      omega (arith, wide, other)

-- of a view
group_short : (objects : Schema) (place : Place) → IsLimited objects → IsGroup objects place → length place.1 < 2 ^ 16
group_short objects place limited g =
    let narrow = limited.narrow place.0 (schema.view g.of) g.view_is in
    let bytes = (width_law (group_kinds objects g.of) g.group g.fits).1 in
    let long : length place.1 ≡ length (key_bytes (group_kinds objects g.of) g.group) = ap length g.key in
    let one = narrow.0 in
    omega (arith, bytes, long, one)

pub short_law : ShortLaw
short_law objects limited (Write transaction c) h =
    let rows = λ (o : Option Object). IfSome (option_map (row_bytes (kinds_of_table o)) c.before) (λ bytes. length bytes < 2 ^ 16) × IfSome (option_map (row_bytes (kinds_of_table o)) c.after) (λ bytes. length bytes < 2 ^ 16) in
    let both : rows (numbered objects c.key.0) = subst rows (sym h.table_is)
    (row_short objects limited c.key.0 h.of h.table_is c.key.1 c.before h.before, row_short objects limited c.key.0 h.of h.table_is c.key.1 c.after h.after) in
    (key_short objects limited c.key.0 h.of h.table_is c.key.1 h.key, both.0, both.1)
short_law objects limited (Delta transaction d) h =
    let narrow = limited.narrow d.view (schema.view h.0.of) h.0.view_is in
    let few = narrow.1 in
    let sums = h.1 in
    (group_short objects (d.view, d.group) limited h.0, omega (arith, few, sums))
short_law objects limited (Ghost place) h = group_short objects place limited h
short_law objects limited (Clean place) h = group_short objects place limited h
short_law objects limited (Undo transaction number) h = tt
short_law objects limited (Commit transaction number session) h = tt
short_law objects limited (Abort transaction) h = tt
short_law objects limited (Definition number session text) h = h
