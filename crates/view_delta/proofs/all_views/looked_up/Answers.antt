use Rattle.std.proofs.Common.{◌≡◌, ◌<◌, ◌+◌, ◌∙◌, ◌++◌, ◌∷◌, ℕ, List, length, drop, get_or, sym, ap, subst, append_assoc}
use Rattle.std.specs.List.{AllByRecursion}
use Rattle.std.proofs.lemmas.List.{drop_more}
use Rattle.iv_types.specs.declared.lock.Want.{Want}
use Rattle.iv_meaning.specs.Objects.{schema_of}
use Rattle.table_store.specs.Stored.{CanRead}
use Rattle.view_delta.specs.Parts.{one_read, rows_read}
use Rattle.view_delta.proofs.all_views.looked_up.Goals as goal

at_item : {X : Type 0} (xs : List X) (i : ℕ) (x : X) → i < length xs → x ≡ get_or xs i x → drop i xs ≡ x ∷ drop (i + 1) xs
at_item xs i x lt is = drop_more xs i x lt ∙ ap (λ y. y ∷ drop (i + 1) xs) (sym is)

pub add_read-requires-after_bounds : goal.add_read-requires-after_bounds
add_read-requires-after_bounds g c κs within =
    let maps = g.M.SortedMaps.maps c.args.tables.now in
    let split = at_item c.args.wants.now c.loop-index.index c.index-wants-index.result c.loop-index-test.true c.index-wants-index.is in
    (subst (AllByRecursion (λ (w : Want). CanRead c.args.catalog.now maps w.index)) split c.loop-index.invariant.left).0

pub loop-index-preserved : goal.loop-index-preserved
loop-index-preserved g c =
    let o = schema_of c.args.catalog.now in
    let maps = g.M.SortedMaps.maps c.args.tables.now in
    let split = at_item c.args.wants.now c.loop-index.index c.index-wants-index.result c.loop-index-test.true c.index-wants-index.is in
    let rest = drop (c.loop-index.index + 1) c.args.wants.now in
    record {
      left = (subst (AllByRecursion (λ (w : Want). CanRead c.args.catalog.now maps w.index)) split c.loop-index.invariant.left).1;
      found = λ rows holds.
          ap (λ l. l ++ rows_read o rows rest) (c.in_ok-add_read.ensures rows holds)
          ∙ (append_assoc c.loop-index.found (one_read o rows c.index-wants-index.result) (rows_read o rows rest)
          ∙ (ap (λ ws. c.loop-index.found ++ rows_read o rows ws) (sym split) ∙ c.loop-index.invariant.found rows holds));
    }
