-- Definitions are only added.
use Rattle.std.specs.Prelude.{ℕ, List, [], ◌∷◌, ◌++◌}
use mathlib.Core.Path.{refl, sym, ap, ◌∙◌}
use Rattle.std.proofs.Common.{append-nil}
use Rattle.std.proofs.lemmas.List.{append_assoc}
use Rattle.iv_meaning.specs.Schema.{Schema}
use Rattle.iv_meaning.specs.Database.{Database}
use Rattle.iv_meaning.specs.Statement.{Kept, sets, defines, keep, keep_all}
use Rattle.iv_meaning.specs.Transaction.{outside}
use Rattle.iv_meaning.specs.History.{Entry, fold}
use Rattle.script_law.specs.Seen.{Event, Commits, Creates, Visible, committed, entries, kept_by, visible_after}
use Rattle.script_law.specs.Programs.{Grows}

pub same_grows : (objects : Schema) → Grows objects objects
same_grows objects = ([], sym (append-nil objects))

pub grows_by : (one other third : Schema) → Grows one other → Grows other third → Grows one third
grows_by one other third g h = (g.0 ++ h.0, h.1 ∙ ap (λ l. l ++ h.0) g.1 ∙ append_assoc one g.0 h.0)

kept_grows : (ks : List Kept) (db : Database) → Grows db.schema (keep_all ks db).schema
kept_grows [] db = same_grows db.schema
kept_grows (sets c ∷ ks) db = kept_grows ks (keep (sets c) db)
kept_grows (defines o ∷ ks) db =
    grows_by db.schema (keep (defines o) db).schema (keep_all (defines o ∷ ks) db).schema (o ∷ [], refl) (kept_grows ks (keep (defines o) db))

folded_grows : (es more : List Entry) (db : Database) → Grows (fold es db).schema (fold (es ++ more) db).schema
folded_grows [] [] db = same_grows db.schema
folded_grows [] (e ∷ more) db =
    let next : Database = record (keep_all e.kept db) { number = e.number } in
    grows_by db.schema next.schema (fold more next).schema (kept_grows e.kept db) (folded_grows [] more next)
folded_grows (e ∷ es) more db = folded_grows es more (record (keep_all e.kept db) { number = e.number })

pub step_grows : (v : Visible) (i : ℕ) (e : Event) → Grows (committed v).schema (committed (visible_after v i e)).schema
step_grows v i (Commits number) = folded_grows v.history (entries (committed v).number i (kept_by (v.open_of i))) v.origin
step_grows v i (Creates statement number) = folded_grows v.history (entries (committed v).number i (outside statement (committed v)).kept) v.origin
step_grows v i _ = same_grows (committed v).schema
