-- The works of statements keep the laws of works.
use Rattle.std.specs.Prelude.{◌≡◌, ℕ, true, List, [], ◌∷◌, None, Result, Ok, Err}
use mathlib.Core.Path.{refl, sym, ap, subst, ◌∙◌}
use Rattle.iv_types.specs.declared.statement.Mode.{Mode}
use Rattle.iv_types.specs.declared.statement.Mode.TheVariants.{Serial, Snapshot}
use Rattle.iv_types.specs.declared.statement.Order.{Order}
use Rattle.iv_types.specs.declared.lock.Want.{Want}
use Rattle.iv_types.specs.declared.reply.Reply.{Reply}
use Rattle.iv_types.specs.declared.reply.Reply.TheVariants as reply
use Rattle.iv_types.specs.declared.refusal.Refusal.{Refusal}
use Rattle.iv_types.specs.Syntax as s
use Rattle.iv_types.specs.Syntax.{StatementTree, QueryTree}
use Rattle.iv_meaning.specs.Schema.{Schema}
use Rattle.iv_meaning.specs.Database.{Row, Database}
use Rattle.iv_meaning.specs.Binding.{bind}
use Rattle.iv_meaning.specs.Statement.{BoundTree, insert, update, delete, select, bound_meaning, tuple_rows, on_table, insert_meaning, update_meaning, delete_meaning, matching}
use Rattle.iv_meaning.specs.Query.{BoundQuery}
use Rattle.iv_meaning.specs.Reading.{Program, done as replies_with, fetch, program, sources_for}
use Rattle.iv_meaning.specs.Transaction.{means, bound_or_refused, refused_inside}
use Rattle.txn_machine.specs.ViewLaws.{AreSound}
use Rattle.script_law.specs.Works.{Work, done, refuses, fetches, puts, alone_on, OnlyReads, is_work}
use Rattle.script_law.specs.Sessions.{programs_of}
use Rattle.script_law.proofs.OverMachine.{machine_law}
use Rattle.script_law.proofs.Right.{programs_law}
use Rattle.statement_law.specs.Selecting.{with_row, replied, reads}
use Rattle.statement_law.specs.Inserting.{insert_work}
use Rattle.statement_law.specs.Changing.{by_plan, chosen_by, update_rows, delete_rows}
use Rattle.statement_law.specs.Telling.{tell}
use Rattle.statement_law.specs.Fitting.{EachFits}
use Rattle.statement_law.specs.Laws.{WorksLaw, FitsLaw, StatementsLaw}
use Rattle.statement_law.specs.Statements.{work_on, bound_work, work_if_bound, statement_work, the_works}
use Rattle.statement_law.proofs.Rows.{is_sound}
use Rattle.statement_law.proofs.Selecting.{select_right}
use Rattle.statement_law.proofs.Binding.{IsTarget, IsOf, IsWork, tuples_fit, bound_so, bound_is_work, bound_select}
use Rattle.statement_law.proofs.Inserting.{insert_right}
use Rattle.statement_law.proofs.Changing.{update_right, delete_right}
use Rattle.statement_law.proofs.Asking.{select_fits}
use Rattle.statement_law.proofs.Fitting.{sound_left, insert_fits, update_fits, delete_fits}
use Rattle.statement_law.proofs.Telling.{told_engines}

-- a statement that can be bound comes to what it means
module _ (mode : Mode) (db : Database) (sound : AreSound db.schema db.rows) where
  abbrev Comes : BoundTree → Type 0
  Comes what = alone_on (bound_work mode db.schema what) db [] ≡ bound_meaning what db

  -- the table of a number
  at_table : (number : ℕ) (n : IsTarget db number) (f : ℕ → BoundTree) → Comes (f n.of.number) → Comes (f number)
  at_table number n f h = subst (λ m. Comes (f m)) n.number_is h

  comes_so : (statement : StatementTree) (what : BoundTree) → bind db.schema statement ≡ Ok what → IsWork what → IsOf db what → Comes what
  comes_so statement (select query) e w of = select_right mode db (is_sound db sound) statement query e
  comes_so statement (insert number tuples) e w of =
      let t = of.target.of in
      at_table number of.target (λ m. insert m tuples)
      (ap (λ o. alone_on (work_on (λ t. insert_work t (tuple_rows t tuples)) o) db []) of.target.there
      ∙ (insert_right db t of.target.there sound (tuple_rows t tuples) (λ rows is. tuples_fit t tuples of.long rows is)
      ∙ sym (ap (λ o. on_table (λ t. insert_meaning t (tuple_rows t tuples) db.rows) o) of.target.there)))
  comes_so statement (update number sets where_) e w of =
      let t = of.target.of in
      at_table number of.target (λ m. update m sets where_)
      (ap (λ o. alone_on (work_on (λ t'. by_plan mode db.schema (update t.number sets where_) (λ rows. update_rows t' sets (chosen_by where_ rows))) o) db []) of.target.there
      ∙ (update_right db t sound of.target.there mode sets where_
      ∙ sym (ap (λ o. on_table (λ t'. update_meaning t' sets (matching t' where_ db.rows)) o) of.target.there)))
  comes_so statement (delete number where_) e w of =
      let t = of.of in
      at_table number of (λ m. delete m where_)
      (ap (λ o. alone_on (work_on (λ t'. by_plan mode db.schema (delete t.number where_) (λ rows. delete_rows t' (chosen_by where_ rows))) o) db []) of.there
      ∙ (delete_right db t sound of.there mode where_
      ∙ sym (ap (λ o. on_table (λ t'. delete_meaning t' (matching t' where_ db.rows)) o) of.there)))
  comes_so statement _ e w of = absurd w

  pub right : (statement : StatementTree) → is_work statement ≡ true → alone_on (statement_work mode db.schema statement) db [] ≡ means statement db
  right statement w = by (bind db.schema statement) refl
    where
      by : (r : Result BoundTree Refusal) → bind db.schema statement ≡ r → alone_on (work_if_bound mode db.schema r) db [] ≡ bound_or_refused r db
      by (Err why) e = refl
      by (Ok what) e = comes_so statement what e (bound_is_work db.schema statement what w e) (bound_so db (is_sound db sound) statement what e)

-- ---- each step fits, and what is left is sound

module _ (db : Database) (sound : AreSound db.schema db.rows) where
  abbrev FitsSo : BoundTree → Type 0
  FitsSo what = (locks : List Want) → EachFits Serial db (bound_work Serial db.schema what) locks []

  fits_at : (number : ℕ) (n : IsTarget db number) (f : ℕ → BoundTree) → FitsSo (f n.of.number) → FitsSo (f number)
  fits_at number n f h = subst (λ m. FitsSo (f m)) n.number_is h

  fits_so : (what : BoundTree) → IsWork what → IsOf db what → FitsSo what
  fits_so (select query) w of = λ locks. select_fits db (is_sound db sound) Serial query locks []
  fits_so (insert number tuples) w of =
      let t = of.target.of in
      fits_at number of.target (λ m. insert m tuples) (λ locks.
      subst (λ o. EachFits Serial db (work_on (λ t. insert_work t (tuple_rows t tuples)) o) locks []) (sym of.target.there)
      (insert_fits db t of.target.there sound (tuple_rows t tuples) (λ rows is. tuples_fit t tuples of.long rows is) locks))
  fits_so (update number sets where_) w of =
      let t = of.target.of in
      fits_at number of.target (λ m. update m sets where_) (λ locks.
      subst (λ o. EachFits Serial db (work_on (λ t'. by_plan Serial db.schema (update t.number sets where_) (λ rows. update_rows t' sets (chosen_by where_ rows))) o) locks []) (sym of.target.there)
      (update_fits db sound t of.target.there where_ sets of.keeps_key locks))
  fits_so (delete number where_) w of =
      let t = of.of in
      fits_at number of (λ m. delete m where_) (λ locks.
      subst (λ o. EachFits Serial db (work_on (λ t'. by_plan Serial db.schema (delete t.number where_) (λ rows. delete_rows t' (chosen_by where_ rows))) o) locks []) (sym of.there)
      (delete_fits db sound t of.there where_ locks))
  fits_so _ w of = absurd w

  fits_serial : (statement : StatementTree) → is_work statement ≡ true → (locks : List Want) → EachFits Serial db (statement_work Serial db.schema statement) locks []
  fits_serial statement w locks = by (bind db.schema statement) refl
    where
      by : (r : Result BoundTree Refusal) → bind db.schema statement ≡ r → EachFits Serial db (work_if_bound Serial db.schema r) locks []
      by (Err why) e = tt
      by (Ok what) e = fits_so what (bound_is_work db.schema statement what w e) (bound_so db (is_sound db sound) statement what e) locks

-- a snapshot may do a SELECT alone
select_bound : (objects : Schema) (query : QueryTree) (order : List Order) (P : Result BoundTree Refusal → Type 0) → ((why : Refusal) → P (Err why)) → ((made : BoundQuery) → P (Ok (select made))) → P (bind objects (s.select query order))
select_bound objects query order P refused selected = by (bind objects (s.select query order)) refl
  where
    by : (r : Result BoundTree Refusal) → bind objects (s.select query order) ≡ r → P r
    by (Err why) e = refused why
    by (Ok what) e = let b = bound_select objects query order what e in subst (λ x. P (Ok x)) (sym b.1) (selected b.0)

fits_snapshot : (db : Database) → AreSound db.schema db.rows → (statement : StatementTree) → is_work statement ≡ true → refused_inside Snapshot [] statement ≡ None → (locks : List Want)
    → EachFits Snapshot db (statement_work Snapshot db.schema statement) locks []
fits_snapshot db sound (s.select query order) w e locks =
    select_bound db.schema query order (λ r. EachFits Snapshot db (work_if_bound Snapshot db.schema r) locks []) (λ why. tt) (λ query. select_fits db (is_sound db sound) Snapshot query locks [])
fits_snapshot db sound (s.insert target tuples) w e locks = absurd (cc)
fits_snapshot db sound (s.update target ss condition) w e locks = absurd (cc)
fits_snapshot db sound (s.delete target condition) w e locks = absurd (cc)
fits_snapshot db sound _ w e locks = absurd (cc)

pub fits_law : FitsLaw
fits_law Serial statement w e db sound locks = fits_serial db sound statement w locks
fits_law Snapshot statement w e db sound locks = fits_snapshot db sound statement w e locks

-- ---- the laws of works

with_reads : (row : Row) (w : Work) → OnlyReads w → OnlyReads (with_row row w)
with_reads row (done listed count) h = tt
with_reads row (refuses why) h = tt
with_reads row (fetches i interval lock f) h = h
with_reads row (puts number key new f) h = h

replied_reads : (replies : List Reply) → OnlyReads (replied replies)
replied_reads [] = tt
replied_reads (reply.Row row ∷ more) = with_reads row (replied more) (replied_reads more)
replied_reads (reply.Done count ∷ more) = tt
replied_reads (reply.Error why ∷ more) = tt
replied_reads (r ∷ more) = replied_reads more

reads_only : (p : Program) → OnlyReads (reads p)
reads_only (replies_with replies) = replied_reads replies
reads_only (fetch i interval more) = λ rows. reads_only (more rows)

reads_law : (statement : StatementTree) → is_work statement ≡ true → refused_inside Snapshot [] statement ≡ None → (objects : Schema) → OnlyReads (statement_work Snapshot objects statement)
reads_law (s.select query order) w e objects =
    select_bound objects query order (λ r. OnlyReads (work_if_bound Snapshot objects r)) (λ why. tt) (λ query. reads_only (program query (sources_for objects query Snapshot)))
reads_law (s.insert target tuples) w e objects = absurd (cc)
reads_law (s.update target ss condition) w e objects = absurd (cc)
reads_law (s.delete target condition) w e objects = absurd (cc)
reads_law _ w e objects = absurd (cc)

pub works_law : WorksLaw
works_law = record {
  right = λ mode statement w db sound. right mode db sound statement w;
  sound = λ statement w db sound listed count kept e.
      sound_left db (statement_work Serial db.schema statement) [] [] (fits_serial db sound statement w []) sound listed count kept (right Serial db sound statement w ∙ e);
  reads = reads_law;
  engines = λ objects delta why. (told_engines objects delta why).0;
  deadlocks = λ objects delta why. (told_engines objects delta why).1;
}

-- ---- scripts

pub statements_law : StatementsLaw
statements_law db stored opening opened_so lines out after runs =
    machine_law (programs_of the_works) (tell [] None) (programs_law the_works works_law) (λ why. (told_engines [] None why).0) db stored opening opened_so lines out after runs
