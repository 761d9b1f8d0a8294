-- The history: its entries are right where they were made, and what they leave.
use Rattle.std.specs.Prelude.{◌≡◌, ◌+◌, List, [], ◌∷◌, ◌++◌, map, reverse, Some}
use mathlib.Core.Path.{refl, sym, ap, subst, ◌∙◌}
use Rattle.std.proofs.lemmas.List.{map-append}
use Rattle.std.proofs.lemmas.Grind.{reverse_onto}
use Rattle.table_laws.specs.Kept.{redo, AreTrue}
use Rattle.iv_meaning.specs.Schema.{Schema}
use Rattle.iv_meaning.specs.Database.{Row, Rows, Database}
use Rattle.iv_meaning.specs.Statement.{Kept, sets, defines, keep, keep_all}
use Rattle.iv_meaning.specs.History.{Entry, fold}
pub use Rattle.iv_meaning.proofs.SerialLemmas.{fold_push, keep_append}
use Rattle.iv_meaning.specs.Sound.{IsRow}
use Rattle.txn_machine.specs.Deltas.{RowChange, rows_after}
use Rattle.txn_machine.specs.ViewLaws.{AreSound, IsRight}
use Rattle.txn_machine.proofs.Agreeing.{by_place, written_at, written_other}

-- the change sets a row of its table, if it sets one
abbrev pub IsProper : Schema → RowChange → Type 0
IsProper objects c = (row : Row) → c.after ≡ Some row → IsRow objects c.key row

pub sound_after : (objects : Schema) (rows : Rows) (c : RowChange) → AreSound objects rows → IsProper objects c → AreSound objects (rows_after c rows)
sound_after objects rows c s proper = record {
  objects = s.objects;
  rows = λ p r e. by_place p c.key
      (λ i. subst (λ x. IsRow objects x r) (sym i) (proper r (sym (written_at rows c.key c.after p i) ∙ e)))
      (λ n. s.rows p r (sym (written_other rows c.key c.after p n) ∙ e));
  joins = s.joins;
  typed = s.typed;
}

abbrev pub AreProper : Schema → List RowChange → Type 0
AreProper objects [] = Unit {0}
AreProper objects (c ∷ cs) = IsProper objects c × AreProper objects cs

pub sound_redo : (objects : Schema) (rows : Rows) (cs : List RowChange) → AreSound objects rows → AreProper objects cs → AreSound objects (redo cs rows)
sound_redo objects rows [] s p = s
sound_redo objects rows (c ∷ cs) s p = sound_after objects (redo cs rows) c (sound_redo objects rows cs s p.1) p.0

pub right_next : (objects : Schema) (rows : Rows) (c : RowChange) (cs : List RowChange) → AreSound objects rows → AreProper objects (c ∷ cs) → AreTrue rows (c ∷ cs) → IsRight objects (redo cs rows) c
right_next objects rows c cs s p t = record {
  sound = sound_redo objects rows cs s p.1;
  after = sound_redo objects rows (c ∷ cs) s p;
  told = t.0;
}

-- ---- entries

abbrev pub IsEntryOf : Database → List Kept → Type 0
IsEntryOf db [] = Unit {0}
IsEntryOf db (sets c ∷ ks) = IsRight db.schema db.rows c × IsEntryOf (keep (sets c) db) ks
IsEntryOf db (defines o ∷ ks) = (AreSound db.schema db.rows × AreSound (db.schema ++ o ∷ []) db.rows) × IsEntryOf (keep (defines o) db) ks

abbrev pub IsHistoryOf : Database → List Entry → Type 0
IsHistoryOf db [] = Unit {0}
IsHistoryOf db (e ∷ es) = (e.number ≡ db.number + 1) × IsEntryOf db e.kept × IsHistoryOf (fold (e ∷ []) db) es

pub history_push : (es : List Entry) (e : Entry) (db : Database) → IsHistoryOf db es → e.number ≡ (fold es db).number + 1 → IsEntryOf (fold es db) e.kept → IsHistoryOf db (es ++ e ∷ [])
history_push [] e db h n k = (n, k, tt)
history_push (x ∷ es) e db h n k = (h.0, h.1, history_push es e (fold (x ∷ []) db) h.2 n k)

entry_append : (xs ys : List Kept) (db : Database) → IsEntryOf db xs → IsEntryOf (keep_all xs db) ys → IsEntryOf db (xs ++ ys)
entry_append [] ys db h k = k
entry_append (sets c ∷ xs) ys db h k = (h.0, entry_append xs ys (keep (sets c) db) h.1 k)
entry_append (defines o ∷ xs) ys db h k = (h.0, entry_append xs ys (keep (defines o) db) h.1 k)

-- the changes as an entry keeps them, with the latest last
pub entry_next : (c : RowChange) (cs : List RowChange) → map sets (reverse (c ∷ cs)) ≡ map sets (reverse cs) ++ sets c ∷ []
entry_next c cs = ap (map sets) (reverse_onto cs c []) ∙ map-append sets (reverse cs) (c ∷ [])

pub keep_changes : (cs : List RowChange) (db : Database) → keep_all (map sets (reverse cs)) db ≡ record db { rows = redo cs db.rows }
keep_changes [] db = refl
keep_changes (c ∷ cs) db =
    ap (λ ks. keep_all ks db) (entry_next c cs)
    ∙ (keep_append (map sets (reverse cs)) (sets c ∷ []) db ∙ ap (keep (sets c)) (keep_changes cs db))

pub entry_changes_right : (cs : List RowChange) (db : Database) → AreSound db.schema db.rows → AreProper db.schema cs → AreTrue db.rows cs → IsEntryOf db (map sets (reverse cs))
entry_changes_right [] db s p t = tt
entry_changes_right (c ∷ cs) db s p t =
    subst (IsEntryOf db) (sym (entry_next c cs))
    (entry_append (map sets (reverse cs)) (sets c ∷ []) db (entry_changes_right cs db s p.1 t.1)
    (subst (λ (d : Database). IsEntryOf d (sets c ∷ [])) (sym (keep_changes cs db)) (right_next db.schema db.rows c cs s p t, tt)))
