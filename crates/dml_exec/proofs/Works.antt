-- What is still to be changed is what the works of statements change.
use Rattle.std.specs.Prelude.{◌≡◌, ℕ, List, [], ◌∷◌, map, Some, None}
use mathlib.Core.Path.{refl, ap}
use Rattle.iv_types.specs.declared.catalog.TableDef.{TableDef}
use Rattle.iv_types.specs.declared.lock.LockMode.TheVariants.{Exclusive}
use Rattle.iv_types.specs.Intervals.{point}
use Rattle.iv_meaning.specs.Database.{Row, key_of}
use Rattle.script_law.specs.Works.{fetches, puts}
use Rattle.statement_law.specs.Inserting.{unless_there, inserts}
use Rattle.statement_law.specs.Changing as meant
use Rattle.statement_law.specs.Changing.{puts_all, set_to}
use Rattle.dml_exec.specs.Tasks.{put_in, taken_out, set_in, puts_by, inserts_by}

pub inserts_is : (t : TableDef) (rows : List Row) (count : ℕ) → inserts_by t.number (map (put_in t) rows) count ≡ inserts t rows count
inserts_is t [] count = refl
inserts_is t (row ∷ rows) count =
    ap (λ w. fetches t.number (point (key_of t row)) Exclusive (λ found. unless_there found (puts t.number (key_of t row) (Some row) (λ before. w)))) (inserts_is t rows count)

pub deletes_is : (t : TableDef) (rows : List Row) (count : ℕ) → puts_by t.number (map (taken_out t) rows) count ≡ puts_all t (map meant.taken_out rows) count
deletes_is t [] count = refl
deletes_is t (row ∷ rows) count = ap (λ w. puts t.number (key_of t row) None (λ before. w)) (deletes_is t rows count)

pub updates_is : (t : TableDef) (ps : List (Row × Row)) (count : ℕ) → puts_by t.number (map (set_in t) ps) count ≡ puts_all t (map set_to ps) count
updates_is t [] count = refl
updates_is t (p ∷ ps) count = ap (λ w. puts t.number (key_of t p.0) (Some p.1) (λ before. w)) (updates_is t ps count)
