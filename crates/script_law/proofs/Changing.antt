-- Kept changes, one after the other.
use Rattle.std.specs.Prelude.{◌≡◌, List, [], ◌∷◌, ◌++◌, Option, Some, None}
use mathlib.Core.Path.{refl, sym, ap, ◌∙◌}
use Rattle.std.proofs.Common.{append-nil}
use Rattle.std.proofs.lemmas.List.{append_assoc}
use Rattle.table_laws.specs.Kept.{redo}
use Rattle.table_laws.specs.Table.{write}
use Rattle.iv_meaning.specs.Database.{Rows, Database}
use Rattle.iv_meaning.specs.Statement.{sets, keep_all}
use Rattle.txn_machine.specs.Deltas.{RowChange}
use Rattle.txn_machine.specs.Alone.{with_changes}
use Rattle.txn_machine.proofs.Entered.{keep_changes}
use Rattle.script_law.specs.Seen.{changes, in_order}
use Rattle.script_law.proofs.Showing.{in_order_is}

pub changes_append : (xs ys : List (Option RowChange)) → changes (xs ++ ys) ≡ changes xs ++ changes ys
changes_append [] ys = refl
changes_append (Some c ∷ xs) ys = ap (λ l. c ∷ l) (changes_append xs ys)
changes_append (None ∷ xs) ys = changes_append xs ys

pub redo_append : (xs ys : List RowChange) (rows : Rows) → redo (xs ++ ys) rows ≡ redo xs (redo ys rows)
redo_append [] ys rows = refl
redo_append (c ∷ xs) ys rows = ap (λ r. write r c.key c.after) (redo_append xs ys rows)

pub in_order_append : (xs ys : List RowChange) → in_order (xs ++ ys) ≡ in_order ys ++ in_order xs
in_order_append [] ys = sym (append-nil (in_order ys))
in_order_append (c ∷ xs) ys = ap (λ l. l ++ sets c ∷ []) (in_order_append xs ys) ∙ append_assoc (in_order ys) (in_order xs) (sets c ∷ [])

-- what they make of a database
pub kept_makes : (cs : List RowChange) (db : Database) → keep_all (in_order cs) db ≡ with_changes cs db
kept_makes cs db = ap (λ ks. keep_all ks db) (in_order_is cs) ∙ keep_changes cs db

pub with_more : (xs ys : List RowChange) (db : Database) → with_changes (xs ++ ys) db ≡ with_changes xs (with_changes ys db)
with_more xs ys db = ap (λ r. record db { rows = r }) (redo_append xs ys db.rows)
