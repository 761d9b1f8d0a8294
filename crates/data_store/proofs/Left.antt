-- What is left of versions that were pushed for a history, and what it tells of a number that is not below the mark.
use Rattle.std.specs.Prelude.{◌≡◌, ◌≤◌, ◌+◌, ℕ, nat_lt, Bool, true, false, List, [], ◌∷◌, ◌++◌, map, Option}
use mathlib.Core.Path.{refl, sym, ap, subst, ◌∙◌}
use Rattle.std.proofs.Common.{arith}
use Rattle.std.proofs.lemmas.List.{map-append}
use Rattle.std.specs.List.{AllByRecursion}
use Rattle.std.specs.FinMap.{get}
use Rattle.iv_types.specs.declared.lock.GroupDelta.{GroupDelta}
use Rattle.table_laws.specs.Place.{Place}
use Rattle.iv_meaning.specs.Schema.{Schema}
use Rattle.iv_meaning.specs.Database.{Row, Rows, Database}
use Rattle.iv_meaning.specs.Statement.{Kept, sets, defines, keep, keep_all}
use Rattle.iv_meaning.specs.History.{Entry, fold, state_at}
use Rattle.txn_machine.specs.Ghosts.{the_views}
use Rattle.txn_machine.specs.Store.{entry_deltas}
use Rattle.txn_machine.proofs.Entered.{IsEntryOf, IsHistoryOf}
use Rattle.version_chain.specs.Versions.{Version, number, above}
use Rattle.version_chain.specs.Chains.{is_of, chain_of, row_at}
use Rattle.version_chain.specs.Law.{AreRising, Committed, version_of, rows_after, AreTrue}
use Rattle.version_chain.specs.States.{commits_in, commits_of}
use Rattle.version_chain.proofs.LawLemmas.{chain_law, prune_law, row_chain, row_of_state, same_place}
use Rattle.version_chain.proofs.Histories.{state_law}
use Rattle.data_store.specs.Machine.{bytes_of, AreLeft, version_by, versions_by, delta_by, deltas_by}

-- ---- numbers rise

module _ {V : Type 0} where
  abbrev pub AllAt : ℕ → List (Version V) → Type 0
  AllAt n vs = AllByRecursion (λ v. number v ≡ n) vs

  abbrev pub AllFrom : ℕ → List (Version V) → Type 0
  AllFrom n vs = AllByRecursion (λ v. n ≤ number v) vs

  from_at : (n m : ℕ) (vs : List (Version V)) → n ≤ m → AllAt m vs → AllFrom n vs
  from_at n m [] le h = tt
  from_at n m (v ∷ vs) le h = (let e = h.0 in omega (arith, le, e), from_at n m vs le h.1)

  from_less : (n m : ℕ) (vs : List (Version V)) → n ≤ m → AllFrom m vs → AllFrom n vs
  from_less n m [] le h = tt
  from_less n m (v ∷ vs) le h = (let e = h.0 in omega (arith, le, e), from_less n m vs le h.1)

  both_from : (n : ℕ) (vs ws : List (Version V)) → AllFrom n vs → AllFrom n ws → AllFrom n (vs ++ ws)
  both_from n [] ws h k = k
  both_from n (v ∷ vs) ws h k = (h.0, both_from n vs ws h.1 k)

  pub rising_both : (n : ℕ) (vs ws : List (Version V)) → AllAt n vs → AllFrom n ws → AreRising ws → AreRising (vs ++ ws)
  rising_both n [] ws h k r = r
  rising_both n (v ∷ vs) ws h k r =
      let e = h.0 in
      (both_from (number v) vs ws (from_at (number v) n vs (omega (arith, e)) h.1) (from_less (number v) n ws (omega (arith, e)) k), rising_both n vs ws h.1 k r)

  -- the versions of an entry and those of the later ones
  pub rising_next : (n m : ℕ) (vs ws : List (Version V)) → m ≡ n + 1 → AllAt m vs → AreRising ws × AllFrom (m + 1) ws → AreRising (vs ++ ws) × AllFrom (n + 1) (vs ++ ws)
  rising_next n m vs ws e at r =
      (rising_both m vs ws at (from_less m (m + 1) ws (omega arith) r.1) r.0, both_from (n + 1) vs ws (from_at (n + 1) m vs (omega (arith, e)) at) (from_less (n + 1) (m + 1) ws (omega (arith, e)) r.1))

module _ {V : Type 0} (f : Committed Row → Version V) (numbers : (c : Committed Row) → number (f c) ≡ c.0) where
  commits_at : (m : ℕ) (ks : List Kept) → AllAt m (map f (commits_in m ks))
  commits_at m [] = tt
  commits_at m (sets c ∷ ks) = (numbers (m, c), commits_at m ks)
  commits_at m (defines o ∷ ks) = commits_at m ks

  rising_from : (es : List Entry) (db : Database) → IsHistoryOf db es → AreRising (map f (commits_of es)) × AllFrom (db.number + 1) (map f (commits_of es))
  rising_from [] db h = (tt, tt)
  rising_from (e ∷ es) db h =
      subst (λ (vs : List (Version V)). AreRising vs × AllFrom (db.number + 1) vs) (sym (map-append f (commits_in e.number e.kept) (commits_of es)))
      (rising_next db.number e.number (map f (commits_in e.number e.kept)) (map f (commits_of es)) h.0 (commits_at e.number e.kept) (rising_from es (fold (e ∷ []) db) h.2))

  pub commits_rise : (es : List Entry) (db : Database) → IsHistoryOf db es → AreRising (map f (commits_of es))
  commits_rise es db h = (rising_from es db h).0

deltas_at : (m : ℕ) (ds : List GroupDelta) → AllAt m (map (delta_by m) ds)
deltas_at m [] = tt
deltas_at m (d ∷ ds) = (refl, deltas_at m ds)

deltas_from : (es : List Entry) (db : Database) → IsHistoryOf db es → AreRising (deltas_by db es) × AllFrom (db.number + 1) (deltas_by db es)
deltas_from [] db h = (tt, tt)
deltas_from (e ∷ es) db h =
    rising_next db.number e.number (map (delta_by e.number) (entry_deltas the_views db e.kept)) (deltas_by (fold (e ∷ []) db) es) h.0 (deltas_at e.number (entry_deltas the_views db e.kept)) (deltas_from es (fold (e ∷ []) db) h.2)

pub deltas_rise : (es : List Entry) (db : Database) → IsHistoryOf db es → AreRising (deltas_by db es)
deltas_rise es db h = (deltas_from es db h).0

-- ---- what is left tells the same

module _ {V : Type 0} (versions : List (Version V)) (mark : ℕ) (pushes : List (Version V)) (left : AreLeft versions mark pushes) (rising : AreRising pushes) where
  pub left_chain : (p : Place) → chain_of p versions ≡ chain_of p (above mark pushes)
  left_chain p =
      let calls = left.calls in
      ap (λ (c : List (Version V) × ℕ). chain_of p c.0) (sym left.left)
      ∙ (chain_law calls (subst AreRising (sym left.pushed) rising) p
      ∙ (λ i. chain_of p (above (left.left i).1 (left.pushed i))))

module _ {X : Type 0} (versions : List (Version (Option X))) (mark : ℕ) (pushes : List (Version (Option X))) (left : AreLeft versions mark pushes) (rising : AreRising pushes) where
  pub left_row : (n : ℕ) → mark ≤ n → (p : Place) (now : Option X) → row_at n p now versions ≡ row_at n p now pushes
  left_row n le p now =
      row_chain n p now versions ∙ (ap (row_at n p now) (left_chain versions mark pushes left rising p) ∙ (sym (row_chain n p now (above mark pushes)) ∙ prune_law pushes mark n le p now))

-- ---- rows and their bytes

module _ (objects : Schema) where
  pub encoded_at : (n : ℕ) (p : Place) (now : Option Row) (cs : List (Committed Row)) → row_at n p (bytes_of objects p now) (map (version_by objects) cs) ≡ bytes_of objects p (row_at n p now (map version_of cs))
  encoded_at n p now [] = refl
  encoded_at n p now (c ∷ cs) = by (is_of p (version_of c)) (nat_lt n c.0) refl refl (encoded_at n p now cs)
    where
      by : (a b : Bool) → is_of p (version_of c) ≡ a → nat_lt n c.0 ≡ b → row_at n p (bytes_of objects p now) (map (version_by objects) cs) ≡ bytes_of objects p (row_at n p now (map version_of cs))
          → row_at n p (bytes_of objects p now) (map (version_by objects) (c ∷ cs)) ≡ bytes_of objects p (row_at n p now (map version_of (c ∷ cs)))
      by true true of is rest = rw of (rw is (ap (λ (q : Place). bytes_of objects q c.1.before) (sym (same_place p c.1.key of))))
      by true false of is rest = rw of (rw is rest)
      by false b of is rest = rw of rest

-- ---- the rows that a history leaves

true_in : (m : ℕ) (ks : List Kept) (db : Database) (cs : List (Committed Row)) → IsEntryOf db ks → AreTrue (keep_all ks db).rows cs → AreTrue db.rows (commits_in m ks ++ cs)
true_in m [] db cs h k = k
true_in m (sets c ∷ ks) db cs h k = (h.0.told, true_in m ks (keep (sets c) db) cs h.1 k)
true_in m (defines o ∷ ks) db cs h k = true_in m ks (keep (defines o) db) cs h.1 k

pub commits_true : (es : List Entry) (db : Database) → IsHistoryOf db es → AreTrue db.rows (commits_of es)
commits_true [] db h = tt
commits_true (e ∷ es) db h = true_in e.number e.kept db (commits_of es) h.1 (commits_true es (fold (e ∷ []) db) h.2)

after_in : (m : ℕ) (ks : List Kept) (db : Database) (cs : List (Committed Row)) → rows_after (commits_in m ks ++ cs) db.rows ≡ rows_after cs (keep_all ks db).rows
after_in m [] db cs = refl
after_in m (sets c ∷ ks) db cs = after_in m ks (keep (sets c) db) cs
after_in m (defines o ∷ ks) db cs = after_in m ks (keep (defines o) db) cs

pub rows_then : (es : List Entry) (db : Database) → rows_after (commits_of es) db.rows ≡ (fold es db).rows
rows_then [] db = refl
rows_then (e ∷ es) db = after_in e.number e.kept db (commits_of es) ∙ rows_then es (fold (e ∷ []) db)

-- a row at a number by the rows before the changes that came later
pub row_then : (es : List Entry) (db : Database) → IsHistoryOf db es → (n : ℕ) (p : Place) → row_at n p (get (fold es db).rows p) (map version_of (commits_of es)) ≡ get (state_at db es n).rows p
row_then es db h n p =
    ap (λ (rows : Rows). row_at n p (get rows p) (map version_of (commits_of es))) (sym (rows_then es db))
    ∙ (row_of_state n db.rows (commits_of es) (commits_true es db h) (commits_rise version_of (λ c. refl) es db h) p
    ∙ ap (λ (rows : Rows). get rows p) (sym (state_law db es n)))

-- the bytes of a row at a number by what is left of the versions
pub bytes_then : (objects : Schema) (versions : List (Version (Option (List ℕ)))) (mark : ℕ) (es : List Entry) (db : Database) → IsHistoryOf db es → AreLeft versions mark (versions_by objects es) → (n : ℕ) → mark ≤ n → (p : Place)
    → row_at n p (bytes_of objects p (get (fold es db).rows p)) versions ≡ bytes_of objects p (get (state_at db es n).rows p)
bytes_then objects versions mark es db h left n le p =
    left_row versions mark (versions_by objects es) left (commits_rise (version_by objects) (λ c. refl) es db h) n le p (bytes_of objects p (get (fold es db).rows p))
    ∙ (encoded_at objects n p (get (fold es db).rows p) (commits_of es) ∙ ap (bytes_of objects p) (row_then es db h n p))
