-- A SELECT's work comes to what it means.
use Rattle.std.specs.Prelude.{◌≡◌, ℕ, List, [], ◌∷◌, ◌++◌, map, length, Option, Some, None, Ok}
use mathlib.Core.Path.{refl, ap, ◌∙◌}
use Rattle.iv_types.specs.declared.statement.Mode.{Mode}
use Rattle.iv_types.specs.declared.reply.Reply.TheVariants as reply
use Rattle.iv_types.specs.Syntax.{StatementTree}
use Rattle.iv_meaning.specs.Database.{Row, Database}
use Rattle.iv_meaning.specs.Query.{BoundQuery}
use Rattle.iv_meaning.specs.View.{read, select_answer}
use Rattle.iv_meaning.specs.Statement.{select, select_meaning, bound_meaning}
use Rattle.iv_meaning.specs.Binding.{bind}
use Rattle.iv_meaning.specs.Sound.{IsSound}
use Rattle.iv_meaning.specs.Reading.{Program, done as replies_with, fetch, program, replies_by, replies_of, sources_for}
use Rattle.query_laws.proofs.ReadingLemmas.{reading_law}
use Rattle.query_laws.proofs.SoundLemmas.{relations_law}
use Rattle.script_law.specs.Works.{done, alone_on}
use Rattle.statement_law.specs.Selecting.{with_row, replied, reads, select_work}

lists : (rows : List Row) (count : ℕ) → replied (map reply.Row rows ++ reply.Done count ∷ []) ≡ done rows count
lists [] count = refl
lists (row ∷ rows) count = ap (with_row row) (lists rows count)

replies_mean : (o : Option (List Row)) (db : Database) → alone_on (replied (replies_of (select_meaning o))) db [] ≡ select_meaning o
replies_mean None db = refl
replies_mean (Some rows) db = ap (λ w. alone_on w db []) (lists rows (length rows))

reads_alone : (p : Program) (db : Database) → alone_on (reads p) db [] ≡ alone_on (replied (replies_by (read db) p)) db []
reads_alone (replies_with replies) db = refl
reads_alone (fetch i interval more) db = reads_alone (more (read db i interval)) db

pub select_right : (mode : Mode) (db : Database) → IsSound db → (statement : StatementTree) (query : BoundQuery) → bind db.schema statement ≡ Ok (select query)
    → alone_on (select_work mode db.schema query) db [] ≡ bound_meaning (select query) db
select_right mode db sound statement query is =
    reads_alone (program query (sources_for db.schema query mode)) db
    ∙ (ap (λ l. alone_on (replied l) db []) (reading_law db sound query (relations_law db sound statement query is) mode) ∙ replies_mean (select_answer query db) db)
