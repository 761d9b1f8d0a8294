-- What an engine remembers follows the machine's log and the records on the disk and in memory, effect by effect.
use Rattle.std.specs.Prelude.{◌≡◌, ℕ, suc, ◌+◌, Bool, true, false, List, [], ◌∷◌, ◌++◌, length, Option, Some, None, if◌then◌else◌}
use mathlib.Core.Path.{refl, sym, ap, subst, ◌∙◌}
use Rattle.iv_types.specs.declared.statement.Mode.TheVariants.{Serial, Snapshot}
use Rattle.iv_types.specs.declared.lock.GroupDelta.{GroupDelta}
use Rattle.iv_types.specs.Grammar.{Spells}
use Rattle.iv_types.specs.Printing.{statement_text}
use Rattle.iv_types.specs.Syntax.{StatementTree}
use Rattle.table_laws.specs.Place.{Place}
use Rattle.iv_meaning.specs.Schema.{Schema, numbered}
use Rattle.iv_meaning.specs.Binding.{bind}
use Rattle.txn_machine.specs.KeptLaws.{IsDelta}
use Rattle.iv_meaning.specs.Database.{Database}
use Rattle.iv_meaning.specs.Escrow.{IsSession}
use Rattle.txn_machine.specs.Acts.{Act}
use Rattle.txn_machine.specs.Deltas.{RowChange}
use Rattle.txn_machine.specs.Keeping.{KeptStep, Put, Pay, Open, begun}
use Rattle.txn_machine.specs.Fresh.{fresh}
use Rattle.txn_machine.specs.Locks.{with_one}
use Rattle.txn_machine.specs.Store.{Store, committed, schema_of, now, change_at, with_txn, notes_before, paid_first, undone, Effect, Opens, Takes, Notes, Writes, Pays, Ghosts, Undoes, Loses, Ends, Commits, Defines, Cleans, Prunes, does}
use Rattle.txn_machine.specs.Ghosts.{the_views}
use Rattle.txn_machine.specs.Records as log
use Rattle.txn_machine.specs.Records.{Record}
use Rattle.txn_machine.specs.Log as machine
use Rattle.txn_machine.specs.Log.{Log, Logged, not_logged, appended, with_logged, rest, logs, record_of, pay_record, undo_record, text_of}
use Rattle.txn_machine.proofs.Basics.{one_same, one_other}
use Rattle.txn_machine.proofs.Good.{the_open}
use Rattle.txn_machine.proofs.Looking.{view_laws}
use Rattle.txn_machine.proofs.Runs.{Can}
use Rattle.txn_machine.proofs.Shapes.{owes_deltas}
use Rattle.txn_log.specs.Replay.{What, Wrote, Added, Deed, Event, Kept, Ghost, Clean, Undo, Commit, Abort, Defined, Pages}
use Rattle.txn_log.specs.Meaning.{definitions}
use Rattle.txn_log.specs.Appended.{Numbered, written, Says, AllSay}
use Rattle.txn_log.specs.Moments.{Txn, what_of, txn_in, txn_at, kept_deeds, Disk, with_record}
use Rattle.txn_log.proofs.Memory.{no_txn, Memory, deed_now, keeps, pays, undoes, aborts, remembers, set_txn}
use Rattle.txn_log.proofs.Finding.{by_number}
use Rattle.txn_log.proofs.Meaning.{meant}
use Rattle.txn_log.proofs.Tying.{Tied, whats_of, whats_in}
use Rattle.txn_log.proofs.Numbering.{OpenFor}
use Rattle.txn_log.proofs.Running.{IsSound}

-- as many
abbrev pub AreAsMany : List Numbered → List Event → Type 0
AreAsMany [] [] = Unit {0}
AreAsMany (r ∷ rs) (e ∷ es) = AreAsMany rs es
AreAsMany _ _ = ⊥

pub record Follows (s : Store) (l : Log) (d : Disk) (m : Memory) : Type 0 where
  pub txns : (j : ℕ) → m.txn_of j ≡ txn_at s l j
  pub begun : m.begun ≡ l.begun
  pub next : m.next ≡ l.next
  pub pages : m.pages ≡ d.pages
  pub carried : m.carried ≡ d.carried
  pub acknowledged : m.acknowledged ≡ d.acknowledged
  pub many : AreAsMany d.waiting m.waiting
  pub say : AllSay m.pages.db.schema (d.waiting ++ d.flushed) (m.waiting ++ m.flushed)

-- the schema that stands, by the events
pub schema_now : (s : Store) (m : Memory) → Tied s m → schema_of s ≡ definitions m.pages.db.schema (m.waiting ++ m.flushed)
schema_now s m t = sym (ap (λ (db : Database). db.schema) t.db) ∙ (meant m.pages m.carried (m.waiting ++ m.flushed) t.fits).schema

-- ---- transactions

module _ (s : Store) (l : Log) (m : Memory) (i : ℕ) (txns : (j : ℕ) → m.txn_of j ≡ txn_at s l j) where
  -- one session's transaction is replaced in all three
  txns_set : (o : Option Open) (t : Logged) (u : Txn) (logged : ℕ → Logged) → logged ≡ with_one l.logged i t → u ≡ txn_in t (the_open o).kept
      → (j : ℕ) → with_one m.txn_of i u j ≡ txn_in (logged j) (the_open (with_one s.open_of i o j)).kept
  txns_set o t u logged is this j = by_number j i
      (λ e. one_same m.txn_of i u j e ∙ (this
      ∙ (ap (λ (x : Logged). txn_in x (the_open o).kept) (sym (one_same l.logged i t j e) ∙ ap (λ f. f j) (sym is))
      ∙ ap (λ (p : Option Open). txn_in (logged j) (the_open p).kept) (sym (one_same s.open_of i o j e)))))
      (λ n. one_other m.txn_of i u j n ∙ (txns j
      ∙ (ap (λ (x : Logged). txn_in x (now s j).kept) (sym (one_other l.logged i t j n) ∙ ap (λ f. f j) (sym is))
      ∙ ap (λ (p : Option Open). txn_in (logged j) (the_open p).kept) (sym (one_other s.open_of i o j n)))))

  -- in the machine alone, which keeps what it kept
  txns_open : (o : Option Open) (logged : ℕ → Logged) → logged ≡ with_one l.logged i (l.logged i) → (the_open o).kept ≡ (now s i).kept
      → (j : ℕ) → m.txn_of j ≡ txn_in (logged j) (the_open (with_one s.open_of i o j)).kept
  txns_open o logged is kept j = by_number j i
      (λ e. txns j
      ∙ (ap (λ (x : Logged). txn_in x (now s j).kept) (ap l.logged e ∙ (sym (one_same l.logged i (l.logged i) j e) ∙ ap (λ f. f j) (sym is)))
      ∙ (ap (λ n. txn_in (logged j) (now s n).kept) e ∙ (ap (txn_in (logged j)) (sym kept)
      ∙ ap (λ (p : Option Open). txn_in (logged j) (the_open p).kept) (sym (one_same s.open_of i o j e))))))
      (λ n. txns j
      ∙ (ap (λ (x : Logged). txn_in x (now s j).kept) (sym (one_other l.logged i (l.logged i) j n) ∙ ap (λ f. f j) (sym is))
      ∙ ap (λ (p : Option Open). txn_in (logged j) (the_open p).kept) (sym (one_other s.open_of i o j n))))

  -- nowhere
  txns_same : (logged : ℕ → Logged) → logged ≡ with_one l.logged i (l.logged i) → (j : ℕ) → m.txn_of j ≡ txn_in (logged j) (now s j).kept
  txns_same logged is j = by_number j i
      (λ e. txns j ∙ ap (λ (x : Logged). txn_in x (now s j).kept) (ap l.logged e ∙ (sym (one_same l.logged i (l.logged i) j e) ∙ ap (λ f. f j) (sym is))))
      (λ n. txns j ∙ ap (λ (x : Logged). txn_in x (now s j).kept) (sym (one_other l.logged i (l.logged i) j n) ∙ ap (λ f. f j) (sym is)))

-- ---- one record more, or none

module _ (s after : Store) (l k : Log) (d : Disk) (m n : Memory) (f : Follows s l d m) where
  follows_none : ((j : ℕ) → n.txn_of j ≡ txn_at after k j) → n.begun ≡ k.begun → n.next ≡ m.next → k.next ≡ l.next → n.pages ≡ m.pages → n.carried ≡ m.carried
      → n.acknowledged ≡ m.acknowledged → n.waiting ≡ m.waiting → n.flushed ≡ m.flushed → Follows after k d n
  follows_none txns begun next knext pages carried ack waiting flushed = record {
    txns = txns;
    begun = begun;
    next = next ∙ (f.next ∙ sym knext);
    pages = pages ∙ f.pages;
    carried = carried ∙ f.carried;
    acknowledged = ack ∙ f.acknowledged;
    many = subst (AreAsMany d.waiting) (sym waiting) f.many;
    say = subst (λ (p : Pages). AllSay p.db.schema (d.waiting ++ d.flushed) (n.waiting ++ n.flushed)) (sym pages)
        (subst (AllSay m.pages.db.schema (d.waiting ++ d.flushed)) (λ x. sym waiting x ++ sym flushed x) f.say);
  }

  follows_one : (r : Record) (e : Event) → Says (definitions m.pages.db.schema (m.waiting ++ m.flushed)) (record { number = l.next; of = r }) e
      → ((j : ℕ) → n.txn_of j ≡ txn_at after k j) → n.begun ≡ k.begun → n.next ≡ m.next + 1 → k.next ≡ l.next + 1 → n.pages ≡ m.pages → n.carried ≡ m.carried
      → n.acknowledged ≡ m.acknowledged → n.waiting ≡ e ∷ m.waiting → n.flushed ≡ m.flushed → Follows after k (with_record (Some r) l.next d) n
  follows_one r e says txns begun next knext pages carried ack waiting flushed = record {
    txns = txns;
    begun = begun;
    next = next ∙ (ap (λ x. x + 1) f.next ∙ sym knext);
    pages = pages ∙ f.pages;
    carried = carried ∙ f.carried;
    acknowledged = ack ∙ f.acknowledged;
    many = subst (AreAsMany (record { number = l.next; of = r } ∷ d.waiting)) (sym waiting) f.many;
    say = subst (λ (p : Pages). AllSay p.db.schema (record { number = l.next; of = r } ∷ (d.waiting ++ d.flushed)) (n.waiting ++ n.flushed)) (sym pages)
        (subst (AllSay m.pages.db.schema (record { number = l.next; of = r } ∷ (d.waiting ++ d.flushed))) (λ x. sym waiting x ++ sym flushed x) (says, f.say));
  }

-- ---- each effect

-- a statement's own text is that of the statement
abbrev pub PrintsAgain : Type 0
PrintsAgain = (text : List ℕ) (statement : StatementTree) → Spells text statement → Spells (statement_text statement) statement

module _ (s : Store) (l : Log) (d : Disk) (m : Memory) (i : ℕ) (f : Follows s l d m) where
  abbrev after_of : Effect → Store
  after_of e = does the_views s i e

  same_number : (w : What) → record { number = l.next; of = (written (deed_now m i w)).of } ≡ written (deed_now m i w)
  same_number w = ap (λ n. record { number = n; of = (written (deed_now m i w)).of }) (sym f.next)

  id_is : (m.txn_of i).id ≡ (l.logged i).transaction
  id_is = ap (λ (t : Txn). t.id) (f.txns i)

  -- a Write or a Delta
  deed_says : (objects : Schema) (w : What) (r : Record) → r ≡ (written (record { number = l.next; transaction = (l.logged i).transaction; what = w })).of
      → Says objects (record { number = l.next; of = r }) (Kept (deed_now m i w))
  deed_says objects w r e = ap (λ x. record { number = l.next; of = x }) e ∙ ap written deed_is
    where
      deed_is : record { number = l.next; transaction = (l.logged i).transaction; what = w } ≡ deed_now m i w
      deed_is = λ x. record { number = sym f.next x; transaction = sym id_is x; what = w }

  kept_more : (w : What) (k : KeptStep) → w ≡ what_of k → deed_now m i w ∷ (m.txn_of i).kept ≡ kept_deeds (l.logged i).transaction (l.next ∷ (l.logged i).kept) (k ∷ (now s i).kept)
  kept_more w k e = λ x. record { number = f.next x; transaction = id_is x; what = e x } ∷ (f.txns i x).kept

  wrote_is : (m.txn_of i).wrote ≡ (l.logged i).wrote
  wrote_is = ap (λ (t : Txn). t.wrote) (f.txns i)

  follows_written : (w : What) (k : KeptStep) (r : Record) → w ≡ what_of k → r ≡ (written (record { number = l.next; transaction = (l.logged i).transaction; what = w })).of
      → (o : Open) → o.kept ≡ k ∷ (now s i).kept → (after : Store) → ((j : ℕ) → now after j ≡ the_open (with_one s.open_of i (Some o) j)) → (n : Memory) → n ≡ keeps m i w
      → Follows after (record (appended (schema_of s) (Some r) (with_logged l i (machine.keeps (l.logged i) l.next))) { begun = l.begun }) (with_record (Some r) l.next d) (keeps m i w)
  follows_written w k r what of o kept after now_is n same =
      follows_one s after l _ d m (keeps m i w) f r (Kept (deed_now m i w)) (deed_says (definitions m.pages.db.schema (m.waiting ++ m.flushed)) w r of)
      (λ j. txns_set s l m i f.txns (Some o) (machine.keeps (l.logged i) l.next) (record { id = (m.txn_of i).id; kept = deed_now m i w ∷ (m.txn_of i).kept; wrote = true }) _ refl
      (λ x. record { id = id_is x; kept = (kept_more w k what ∙ ap (kept_deeds (l.logged i).transaction (l.next ∷ (l.logged i).kept)) (sym kept)) x; wrote = true }) j
      ∙ ap (λ (t : Open). txn_in (with_one l.logged i (machine.keeps (l.logged i) l.next) j) t.kept) (sym (now_is j)))
      f.begun refl refl refl refl refl refl refl

  follows_paid : (x : GroupDelta) (xs : List GroupDelta)
      → Follows (paid_first s i (now s i) (x ∷ xs)) (record (appended (schema_of s) (pay_record (l.logged i) (x ∷ xs)) (with_logged l i (machine.keeps (l.logged i) l.next))) { begun = l.begun })
      (with_record (pay_record (l.logged i) (x ∷ xs)) l.next d) (pays m i (x ∷ xs))
  follows_paid x xs = follows_written (Added x) (Pay x) (log.Delta (l.logged i).transaction x) refl refl (record (now s i) { kept = Pay x ∷ (now s i).kept; owed = xs }) refl
      (paid_first s i (now s i) (x ∷ xs)) (λ j. refl) (keeps m i (Added x)) refl

  -- the latest kept step taken back
  follows_back : (k : KeptStep) (ks : List KeptStep) (n : ℕ) (ns : List ℕ) → (now s i).kept ≡ k ∷ ks → (l.logged i).kept ≡ n ∷ ns → (o : Open) → o.kept ≡ ks → (t : Logged)
      → t.transaction ≡ (l.logged i).transaction → t.kept ≡ ns → t.wrote ≡ (l.logged i).wrote
      → (after : Store) → ((j : ℕ) → now after j ≡ the_open (with_one s.open_of i (Some o) j))
      → Follows after (record (appended (schema_of s) (undo_record (l.logged i) (n ∷ ns)) (with_logged l i t)) { begun = l.begun }) (with_record (undo_record (l.logged i) (n ∷ ns)) l.next d)
      (undoes m i (record { number = n; transaction = (l.logged i).transaction; what = what_of k } ∷ kept_deeds (l.logged i).transaction ns ks))
  follows_back k ks n ns steps numbers o kept t id number wrote after now_is =
      follows_one s after l _ d m _ f (log.Undo (l.logged i).transaction n) (Undo m.next (m.txn_of i).id n) (λ x. record { number = sym f.next x; of = log.Undo (sym id_is x) n })
      (λ j. txns_set s l m i f.txns (Some o) t (record { id = (m.txn_of i).id; kept = kept_deeds (l.logged i).transaction ns ks; wrote = (m.txn_of i).wrote }) _ refl
      (λ x. record { id = (id_is ∙ sym id) x; kept = kept_deeds (sym id x) (sym number x) (sym kept x); wrote = (wrote_is ∙ sym wrote) x }) j
      ∙ ap (λ (p : Open). txn_in (with_one l.logged i t j) p.kept) (sym (now_is j)))
      f.begun refl refl refl refl refl refl refl

  follows_undone : (k : KeptStep) (ks : List KeptStep) (n : ℕ) (ns : List ℕ) → (now s i).kept ≡ k ∷ ks → (l.logged i).kept ≡ n ∷ ns
      → Follows (undone s i (now s i) (k ∷ ks)) (record (appended (schema_of s) (undo_record (l.logged i) (n ∷ ns)) (with_logged l i (machine.undoes (l.logged i) (k ∷ ks)))) { begun = l.begun })
      (with_record (undo_record (l.logged i) (n ∷ ns)) l.next d)
      (undoes m i (record { number = n; transaction = (l.logged i).transaction; what = what_of k } ∷ kept_deeds (l.logged i).transaction ns ks))
  follows_undone (Put c ds) ks n ns steps numbers =
      follows_back (Put c ds) ks n ns steps numbers (record (now s i) { kept = ks; owed = []; back = 0; notes = notes_before (length ks) (now s i).notes }) refl
      (machine.undoes (l.logged i) (Put c ds ∷ ks)) refl (ap rest numbers) refl (undone s i (now s i) (Put c ds ∷ ks)) (λ j. refl)
  follows_undone (Pay x) ks n ns steps numbers =
      follows_back (Pay x) ks n ns steps numbers (record (now s i) { kept = ks; owed = x ∷ (now s i).owed; back = (now s i).back + 1 }) refl
      (machine.undoes (l.logged i) (Pay x ∷ ks)) refl (ap rest numbers) refl (undone s i (now s i) (Pay x ∷ ks)) (λ j. refl)

  follows_end : (b : Bool) → Follows (with_txn s i None) (record (appended (schema_of s) (if b then Some (log.Abort (l.logged i).transaction) else None) (with_logged l i not_logged)) { begun = l.begun })
      (with_record (if b then Some (log.Abort (l.logged i).transaction) else None) l.next d) (set_txn (aborts m (m.txn_of i).id b) i no_txn)
  follows_end true = follows_one s _ l _ d m _ f (log.Abort (l.logged i).transaction) (Abort m.next (m.txn_of i).id) (λ x. record { number = sym f.next x; of = log.Abort (sym id_is x) })
      (txns_set s l m i f.txns None not_logged no_txn _ refl refl) f.begun refl refl refl refl refl refl refl
  follows_end false = follows_none s _ l _ d m _ f (txns_set s l m i f.txns None not_logged no_txn _ refl refl) f.begun refl refl refl refl refl refl refl

  module _ (printed : PrintsAgain) (a : Act) (is : IsSound s m) where
    schema_is : schema_of s ≡ definitions m.pages.db.schema (m.waiting ++ m.flushed)
    schema_is = schema_now s m is.tied

    -- a step that is taken back has its number
    follows_undoes : IsSession i → (k : KeptStep) (ks : List KeptStep) → (now s i).kept ≡ k ∷ ks → (numbers : List ℕ) → (l.logged i).kept ≡ numbers
        → Follows (does the_views s i Undoes) (logs s i a Undoes l) (with_record (record_of s i a l Undoes) l.next d) (remembers s i Undoes m)
    follows_undoes one k ks steps [] numbers =
        let kept_is : (m.txn_of i).kept ≡ [] = ap (λ (t : Txn). t.kept) (f.txns i) ∙ ap (λ ns. kept_deeds (l.logged i).transaction ns (now s i).kept) numbers in
        absurd (some_whats k ks (sym (ap whats_in steps) ∙ (sym (is.tied.whats i one) ∙ ap whats_of kept_is)))
      where
        some_whats : (k : KeptStep) (ks : List KeptStep) → whats_in (k ∷ ks) ≡ [] → ⊥
        some_whats (Put c ds) ks e = cc
        some_whats (Pay x) ks e = cc
    follows_undoes one k ks steps (n ∷ ns) numbers =
        let kept_is : (m.txn_of i).kept ≡ record { number = n; transaction = (l.logged i).transaction; what = what_of k } ∷ kept_deeds (l.logged i).transaction ns ks =
        ap (λ (t : Txn). t.kept) (f.txns i) ∙ (λ x. kept_deeds (l.logged i).transaction (numbers x) (steps x)) in
        subst (λ (xs : List KeptStep). Follows (undone s i (now s i) xs)
        (record (appended (schema_of s) (undo_record (l.logged i) (l.logged i).kept) (with_logged l i (machine.undoes (l.logged i) xs))) { begun = l.begun })
        (with_record (undo_record (l.logged i) (l.logged i).kept) l.next d) (undoes m i (m.txn_of i).kept)) (sym steps)
        (subst (λ (ys : List ℕ). Follows (undone s i (now s i) (k ∷ ks))
        (record (appended (schema_of s) (undo_record (l.logged i) ys) (with_logged l i (machine.undoes (l.logged i) (k ∷ ks)))) { begun = l.begun })
        (with_record (undo_record (l.logged i) ys) l.next d) (undoes m i (m.txn_of i).kept)) (sym numbers)
        (subst (λ (zs : List Deed). Follows (undone s i (now s i) (k ∷ ks))
        (record (appended (schema_of s) (undo_record (l.logged i) (n ∷ ns)) (with_logged l i (machine.undoes (l.logged i) (k ∷ ks)))) { begun = l.begun })
        (with_record (undo_record (l.logged i) (n ∷ ns)) l.next d) (undoes m i zs)) (sym kept_is) (follows_undone k ks n ns steps numbers)))

    pub follows_does : (e : Effect) → Can the_views fresh view_laws s i e → OpenFor s i a e
        → Follows (does the_views s i e) (logs s i a e l) (with_record (record_of s i a l e) l.next d) (remembers s i e m)
    follows_does (Opens Serial) can h =
        follows_none s _ l _ d m _ f (txns_set s l m i f.txns (Some (begun Serial (committed s).number)) (record not_logged { transaction = l.begun + 1 }) (record { id = m.begun + 1; kept = []; wrote = false }) _ refl
        (λ x. record { id = f.begun x + 1; kept = []; wrote = false })) (ap (λ x. x + 1) f.begun) refl refl refl refl refl refl refl
    follows_does (Opens Snapshot) can h =
        follows_none s _ l _ d m _ f (txns_set s l m i f.txns (Some (begun Snapshot (committed s).number)) not_logged no_txn _ refl refl) f.begun refl refl refl refl refl refl refl
    follows_does (Takes wants) can h =
        follows_none s _ l _ d m _ f (txns_open s l m i f.txns (Some (record (now s i) { locks = wants ++ (now s i).locks })) _ refl refl) f.begun refl refl refl refl refl refl refl
    follows_does (Notes note) can h =
        follows_none s _ l _ d m _ f (txns_open s l m i f.txns (Some (record (now s i) { notes = note ∷ (now s i).notes })) _ refl refl) f.begun refl refl refl refl refl refl refl
    follows_does (Writes place new) can h =
        let c : RowChange = change_at s place new in
        let owed : List GroupDelta = the_views.owed (schema_of s) s.rows c in
        follows_written (Wrote c) (Put c owed) (log.Write (l.logged i).transaction c) refl refl (record (now s i) { kept = Put c owed ∷ (now s i).kept; owed = owed; back = 0 }) refl
        (does the_views s i (Writes place new)) (λ j. refl) (keeps m i (Wrote c)) refl
    follows_does Pays can h =
        subst (λ owed. Follows (paid_first s i (now s i) owed) (record (appended (schema_of s) (pay_record (l.logged i) owed) (with_logged l i (machine.keeps (l.logged i) l.next))) { begun = l.begun })
        (with_record (pay_record (l.logged i) owed) l.next d) (pays m i owed)) (sym h.2.2) (follows_paid h.2.0 h.2.1)
    follows_does (Ghosts p n) can h =
        let x : IsDelta (schema_of s) can.2.0 = owes_deltas s is.good i can.1 can.2.0 can.2.1 in
        follows_one s _ l _ d m _ f (log.Ghost p) (Ghost m.next p n) (
          ap (λ k. record { number = k; of = log.Ghost p }) (sym f.next),
          x.of,
          ap (λ objects. numbered objects p.0) (sym schema_is) ∙ (ap (λ (q : Place). numbered (schema_of s) q.0) can.2.2 ∙ x.view_is),
          can.2.3 ∙ ap suc x.sums,
        ) (txns_same s l m i f.txns _ refl) f.begun refl refl refl refl refl refl refl
    follows_does Undoes can h = follows_undoes can h.1.0 h.1.1 h.1.2 (l.logged i).kept refl
    follows_does Loses can h = follows_none s _ l _ d m _ f (txns_open s l m i f.txns (Some (record (now s i) { is_lost = true })) _ refl refl) f.begun refl refl refl refl refl refl refl
    follows_does Ends can h =
        subst (λ b. Follows (with_txn s i None) (logs s i a Ends l) (with_record (record_of s i a l Ends) l.next d) (set_txn (aborts m (m.txn_of i).id b) i no_txn)) (sym wrote_is) (follows_end (l.logged i).wrote)
    follows_does Commits can h =
        follows_one s _ l _ d m _ f (log.Commit (l.logged i).transaction ((committed s).number + 1) i) (Commit m.next (m.txn_of i).id ((committed s).number + 1))
        (i, λ x. record { number = sym f.next x; of = log.Commit (sym id_is x) ((committed s).number + 1) i })
        (txns_set s l m i f.txns None not_logged no_txn _ refl refl) f.begun refl refl refl refl refl refl refl
    follows_does (Defines o) can h =
        let text_is : text_of a ≡ statement_text h.0 = ap text_of h.1 in
        follows_one s _ l _ d m _ f (log.Definition ((committed s).number + 1) i (text_of a)) (Defined m.next ((committed s).number + 1) o) (
          i,
          text_of a,
          ap (λ k. record { number = k; of = log.Definition ((committed s).number + 1) i (text_of a) }) (sym f.next),
          (h.0, subst (λ text. Spells text h.0) (sym text_is) (printed h.3.0 h.0 h.3.1), ap (λ objects. bind objects h.0) (sym schema_is) ∙ h.2.bound),
        ) (txns_same s l m i f.txns _ refl) f.begun refl refl refl refl refl refl refl
    follows_does (Cleans p) can h =
        follows_one s _ l _ d m _ f (log.Clean p) (Clean m.next p) (ap (λ k. record { number = k; of = log.Clean p }) (sym f.next)) (txns_same s l m i f.txns _ refl) f.begun refl refl refl refl refl refl refl
    follows_does Prunes can h = follows_none s _ l _ d m _ f (txns_same s l m i f.txns _ refl) f.begun refl refl refl refl refl refl refl
