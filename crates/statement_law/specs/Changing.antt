-- No clause of `run` rests on this module: it serves contracts between crates.
--
-- How UPDATE and DELETE work: the interval of their plan is locked and read, all that passes is evaluated, and then each row is
-- changed.
use Rattle.std.specs.Prelude.{ℕ, List, [], ◌∷◌, map, filter, length, Option, Some, None}
use Rattle.std.specs.Option.{option_to_list}
use Rattle.iv_types.specs.declared.catalog.TableDef.{TableDef}
use Rattle.iv_types.specs.declared.statement.Mode.{Mode}
use Rattle.iv_types.specs.declared.lock.LockMode.TheVariants.{Exclusive}
use Rattle.iv_types.specs.declared.refusal.Refusal.TheVariants.{NumberRange}
use Rattle.iv_types.specs.Syntax.{Tree}
use Rattle.iv_meaning.specs.Schema.{Schema}
use Rattle.iv_meaning.specs.Database.{Row, key_of}
use Rattle.iv_meaning.specs.Query.{chosen, conjunction}
use Rattle.iv_meaning.specs.Grouping.{all_of}
use Rattle.iv_meaning.specs.Statement.{BoundTree, BoundSet, row_after, pairs, is_changed}
use Rattle.iv_meaning.specs.Plan.{plan, interval_of}
use Rattle.iv_meaning.specs.Reading.{Source, source_of, in_key_order}
use Rattle.script_law.specs.Works.{Work, done, refuses, fetches, puts}

-- ---- what is read

-- one interval, always; its rows are gone on with in the order of the primary key
abbrev pub on_interval : List Source → (List Row → Work) → Work
on_interval [] next = next []
on_interval (s ∷ ss) next = fetches s.part.index (interval_of s.kinds s.part []) Exclusive (λ rows. next (in_key_order s.key rows))

-- that of the one part of the statement's plan
abbrev pub by_plan : Mode → Schema → BoundTree → (List Row → Work) → Work
by_plan mode objects statement next = on_interval (map (source_of objects) (plan objects statement mode)) next

-- those of which the condition, if there is one, is true, unless it is refused for one
abbrev pub chosen_by : Option Tree → List Row → Option (List Row)
chosen_by condition rows = chosen (λ row. conjunction (option_to_list condition) (row ∷ [])) rows

-- ---- what is changed

-- one row after the other is set to another, or taken out
abbrev pub puts_all : TableDef → List (Row × Option Row) → ℕ → Work
puts_all t [] count = done [] count
puts_all t (p ∷ ps) count = puts t.number (key_of t p.0) p.1 (λ before. puts_all t ps count)

abbrev pub set_to : Row × Row → Row × Option Row
set_to p = (p.0, Some p.1)

abbrev pub taken_out : Row → Row × Option Row
taken_out row = (row, None)

-- a row of which nothing changes is counted and not put
abbrev pub updates : TableDef → List Row → Option (List Row) → Work
updates t rows None = refuses NumberRange
updates t rows (Some after) = puts_all t (map set_to (filter is_changed (pairs rows after))) (length rows)

abbrev pub update_rows : TableDef → List BoundSet → Option (List Row) → Work
update_rows t ss None = refuses NumberRange
update_rows t ss (Some rows) = updates t rows (all_of (map (row_after t ss) rows))

abbrev pub delete_rows : TableDef → Option (List Row) → Work
delete_rows t None = refuses NumberRange
delete_rows t (Some rows) = puts_all t (map taken_out rows) (length rows)
