-- The rows at a number, key by key.
use Rattle.std.specs.Prelude.{◌≡◌, cond, List, [], ◌∷◌, if◌then◌else◌}
use Rattle.std.specs.FinMap.{get}
use Rattle.std.specs.Ordering.{eq_by_cmp}
use mathlib.Core.Path.{refl, sym, ap, ◌∙◌}
use Rattle.table_laws.specs.Place.{Place, place_cmp}
use Rattle.table_laws.specs.Table.{write}
use Rattle.table_laws.specs.Kept.{take_back}
use Rattle.table_laws.proofs.Place.{place_cmp_total, place_cmp-IsAntisymmetric}
use Rattle.table_laws.proofs.Tables.{same_key, other_key}
use Rattle.iv_meaning.specs.Database.{Rows}
use Rattle.txn_machine.specs.Deltas.{RowChange}
use Rattle.txn_machine.specs.Store.{committed}
use Rattle.txn_machine.specs.Laws.{changes_above}
use Rattle.txn_machine.specs.KeptLaws.{row_before, RowAtLaw}
use Rattle.txn_machine.proofs.Agreeing.{by_place, written_at, written_other}
use Rattle.txn_machine.proofs.Marks.{rows_at_law}

one_back : (p : Place) (c : RowChange) (rows : Rows) → get (write rows c.key c.before) p ≡ (if eq_by_cmp place_cmp p c.key then c.before else get rows p)
one_back p c rows = by_place p c.key
    (λ e. written_at rows c.key c.before p e ∙ sym (ap (λ b. cond b c.before (get rows p)) (same_key place_cmp_total place_cmp-IsAntisymmetric p c.key e)))
    (λ n. written_other rows c.key c.before p n ∙ sym (ap (λ b. cond b c.before (get rows p)) (other_key place_cmp_total place_cmp-IsAntisymmetric p c.key n)))

all_back : (p : Place) (cs : List RowChange) (rows : Rows) → get (take_back cs rows) p ≡ row_before p cs (get rows p)
all_back p [] rows = refl
all_back p (c ∷ cs) rows = all_back p cs (write rows c.key c.before) ∙ ap (row_before p cs) (one_back p c rows)

pub row_at_law : RowAtLaw
row_at_law s r number p = sym (ap (λ (rows : Rows). get rows p) (rows_at_law s r number)) ∙ all_back p (changes_above number s.store.history) (committed s.store).rows
