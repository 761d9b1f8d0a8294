-- What is left of versions after further pushes and after a prune, and what an entry pushes.
use Rattle.std.specs.Prelude.{◌≡◌, ◌≤◌, ℕ, max, List, [], ◌∷◌, ◌++◌, map, reverse}
use mathlib.Core.Path.{refl, sym, ap, ◌∙◌}
use Rattle.std.proofs.Common.{arith, append-nil, append_assoc}
use Rattle.std.proofs.lemmas.List.{map-append}
use Rattle.iv_types.specs.declared.lock.GroupDelta.{GroupDelta}
use Rattle.table_laws.specs.Kept.{redo}
use Rattle.iv_meaning.specs.Schema.{Schema}
use Rattle.iv_meaning.specs.Database.{Database}
use Rattle.iv_meaning.specs.Statement.{Kept, sets, defines, keep, keep_all}
use Rattle.iv_meaning.specs.History.{Entry, fold}
use Rattle.txn_machine.specs.Deltas.{RowChange, owed}
use Rattle.txn_machine.specs.Fresh.{fresh}
use Rattle.txn_machine.specs.Ghosts.{the_views}
use Rattle.txn_machine.specs.Keeping.{KeptStep, Put, Pay, changes_of, IsSettled}
use Rattle.txn_machine.specs.Store.{entry_changes, entry_deltas}
use Rattle.txn_machine.proofs.Entered.{entry_next, keep_changes}
use Rattle.txn_machine.proofs.Good.{ToldKept}
use Rattle.txn_machine.proofs.Looking.{view_laws}
use Rattle.version_chain.specs.Versions.{Version, above}
use Rattle.version_chain.specs.Law.{Call, Push, Prune, called, called_all, pushed_by, Committed}
use Rattle.version_chain.specs.States.{commits_in, commits_of}
use Rattle.iv_meaning.specs.Database.{Row}
use Rattle.data_store.specs.Machine.{AreLeft, version_by, versions_by, delta_by, deltas_by}
use Rattle.data_past.specs.Moves.{pushed_all, pays_of}

-- ---- pushes and prunes

module _ {V : Type 0} where
  calls_both : (c : List (Version V) × ℕ) (xs ys : List (Call V)) → called_all c (xs ++ ys) ≡ called_all (called_all c xs) ys
  calls_both c [] ys = refl
  calls_both c (x ∷ xs) ys = calls_both (called c x) xs ys

  pushes_both : (xs ys : List (Call V)) → pushed_by (xs ++ ys) ≡ pushed_by xs ++ pushed_by ys
  pushes_both [] ys = refl
  pushes_both (Push v ∷ xs) ys = ap (λ (l : List (Version V)). v ∷ l) (pushes_both xs ys)
  pushes_both (Prune n ∷ xs) ys = pushes_both xs ys

  module _ {A : Type 0} (f : A → Version V) where
    abbrev pushing : List A → List (Call V)
    pushing xs = map (λ x. Push (f x)) xs

    pushed_those : (xs : List A) → pushed_by (pushing xs) ≡ map f xs
    pushed_those [] = refl
    pushed_those (x ∷ xs) = ap (λ (l : List (Version V)). f x ∷ l) (pushed_those xs)

    mark_stays : (xs : List A) (c : List (Version V) × ℕ) → (called_all c (pushing xs)).1 ≡ c.1
    mark_stays [] c = refl
    mark_stays (x ∷ xs) c = mark_stays xs (called c (Push (f x)))

    pub left_pushed : (versions : List (Version V)) (mark : ℕ) (pushes : List (Version V)) (more : List A) → AreLeft versions mark pushes → AreLeft (pushed_all f more mark versions) mark (pushes ++ map f more)
    left_pushed versions mark pushes more left = record {
      calls = left.calls ++ pushing more;
      pushed = pushes_both left.calls (pushing more) ∙ (λ i. left.pushed i ++ pushed_those more i);
      left =
          calls_both ([], 0) left.calls (pushing more)
          ∙ (ap (λ (c : List (Version V) × ℕ). called_all c (pushing more)) left.left
          ∙ ap (λ (n : ℕ). ((called_all (versions, mark) (pushing more)).0, n)) (mark_stays more (versions, mark)));
    }

  pub left_pruned : (versions : List (Version V)) (mark oldest : ℕ) (pushes : List (Version V)) → mark ≤ oldest → AreLeft versions mark pushes → AreLeft (above oldest versions) oldest pushes
  left_pruned versions mark oldest pushes le left = record {
    calls = left.calls ++ Prune oldest ∷ [];
    pushed = pushes_both left.calls (Prune oldest ∷ []) ∙ (append-nil (pushed_by left.calls) ∙ left.pushed);
    left =
        calls_both ([], 0) left.calls (Prune oldest ∷ [])
        ∙ (ap (λ (c : List (Version V) × ℕ). called c (Prune oldest)) left.left
        ∙ ap (λ (n : ℕ). (above oldest versions, n)) (let e : max mark oldest ≡ oldest = omega (arith, le) in e));
  }

-- ---- the pushes of an entry

commits_more : (es : List Entry) (e : Entry) → commits_of (es ++ e ∷ []) ≡ commits_of es ++ commits_in e.number e.kept
commits_more [] e = append-nil (commits_in e.number e.kept)
commits_more (x ∷ es) e = ap (λ (l : List (Committed Row)). commits_in x.number x.kept ++ l) (commits_more es e) ∙ sym (append_assoc (commits_in x.number x.kept) (commits_of es) (commits_in e.number e.kept))

pub versions_more : (objects : Schema) (es : List Entry) (e : Entry) → versions_by objects (es ++ e ∷ []) ≡ versions_by objects es ++ map (version_by objects) (commits_in e.number e.kept)
versions_more objects es e = ap (map (version_by objects)) (commits_more es e) ∙ map-append (version_by objects) (commits_of es) (commits_in e.number e.kept)

pub deltas_more : (es : List Entry) (e : Entry) (db : Database) → deltas_by db (es ++ e ∷ []) ≡ deltas_by db es ++ map (delta_by e.number) (entry_deltas the_views (fold es db) e.kept)
deltas_more [] e db = append-nil (map (delta_by e.number) (entry_deltas the_views db e.kept))
deltas_more (x ∷ es) e db =
    let here = map (delta_by x.number) (entry_deltas the_views db x.kept) in
    ap (λ l. here ++ l) (deltas_more es e (fold (x ∷ []) db)) ∙ sym (append_assoc here (deltas_by (fold (x ∷ []) db) es) (map (delta_by e.number) (entry_deltas the_views (fold es (fold (x ∷ []) db)) e.kept)))

pub sets_in : (n : ℕ) (cs : List RowChange) → commits_in n (map sets cs) ≡ map (λ c. (n, c)) cs
sets_in n [] = refl
sets_in n (c ∷ cs) = ap (λ (l : List (Committed Row)). (n, c) ∷ l) (sets_in n cs)

-- ---- the deltas of an entry are the pays of its transaction

-- what kept changes owed, in their order
abbrev pub all_owed : List KeptStep → List GroupDelta
all_owed [] = []
all_owed (Put c ds ∷ ks) = all_owed ks ++ ds
all_owed (Pay d ∷ ks) = all_owed ks

pub paid_owed : (ks : List KeptStep) (owed : List GroupDelta) → IsSettled ks owed → pays_of ks ++ owed ≡ all_owed ks
paid_owed [] owed s = s
paid_owed (Pay d ∷ ks) owed s = append_assoc (pays_of ks) (d ∷ []) owed ∙ paid_owed ks (d ∷ owed) s
paid_owed (Put c ds ∷ ks) owed s = ap (λ l. pays_of ks ++ l) s.0 ∙ ap (λ l. l ++ ds) (sym (append-nil (pays_of ks)) ∙ paid_owed ks [] s.1)

entry_both : (xs ys : List Kept) (db : Database) → entry_deltas the_views db (xs ++ ys) ≡ entry_deltas the_views db xs ++ entry_deltas the_views (keep_all xs db) ys
entry_both [] ys db = refl
entry_both (sets c ∷ xs) ys db =
    ap (λ ds. owed db.schema db.rows c ++ ds) (entry_both xs ys (keep (sets c) db))
    ∙ sym (append_assoc (owed db.schema db.rows c) (entry_deltas the_views (keep (sets c) db) xs) (entry_deltas the_views (keep_all xs (keep (sets c) db)) ys))
entry_both (defines o ∷ xs) ys db = entry_both xs ys (keep (defines o) db)

-- an entry's changes owe again what they owed as they were made
owed_again : (ks : List KeptStep) (db : Database) → ToldKept the_views fresh view_laws db.schema db.rows ks → entry_deltas the_views db (entry_changes ks) ≡ all_owed ks
owed_again [] db h = refl
owed_again (Put c ds ∷ ks) db h =
    let cs : List RowChange = changes_of ks in
    let before : List Kept = map sets (reverse cs) in
    ap (entry_deltas the_views db) (entry_next c cs) ∙ (entry_both before (sets c ∷ []) db
    ∙ (ap (λ (d : Database). entry_deltas the_views db before ++ (owed d.schema d.rows c ++ [])) (keep_changes cs db)
    ∙ (ap (λ xs. entry_deltas the_views db before ++ xs) (append-nil (owed db.schema (redo cs db.rows) c) ∙ sym h.0)
    ∙ ap (λ xs. xs ++ ds) (owed_again ks db h.1))))
owed_again (Pay d ∷ ks) db h = owed_again ks db h

pub pays_are_deltas : (ks : List KeptStep) (db : Database) → ToldKept the_views fresh view_laws db.schema db.rows ks → IsSettled ks [] → entry_deltas the_views db (entry_changes ks) ≡ pays_of ks
pays_are_deltas ks db told settled = owed_again ks db told ∙ (sym (paid_owed ks [] settled) ∙ append-nil (pays_of ks))
