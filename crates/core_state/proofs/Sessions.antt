-- What a core has of a session's transaction, and what it has where one transaction changed.
use Rattle.std.specs.Prelude.{◌≡◌, ◌≢◌, ◌⊎◌, ℕ, ◌<◌, ◌≤◌, ◌==◌, cond, true, false, List, [], ◌∷◌, length, drop, ◌+◌, Option, None, Some, IsSome, refl}
use Rattle.std.specs.Option.{unwrap_or}
use mathlib.Core.Path.{sym, ap, subst, ◌∙◌}
use mathlib.Core.Logic.{inl, inr}
use Rattle.std.proofs.Common.{arith}
use Rattle.table_laws.proofs.Stored.{by_session}
use Rattle.iv_types.specs.Maps.{Map}
use Rattle.iv_types.specs.declared.lock.KeptStep.{KeptStep as BookStep}
use Rattle.iv_types.specs.declared.lock.KeptStep.TheVariants as step
use Rattle.iv_types.specs.declared.statement.Mode.TheVariants.{Serial, Snapshot}
use Rattle.iv_meaning.specs.Schema.{Schema}
use Rattle.iv_meaning.specs.Escrow.{IsSession}
use Rattle.txn_machine.specs.Locks.{with_one}
use Rattle.txn_machine.specs.Keeping.{KeptStep, Put, Pay, changes_of, Open, idle}
use Rattle.txn_machine.specs.Store.{schema_of, now, changes_by}
use Rattle.txn_machine.specs.Log.{Logged, Within, block_bytes}
use Rattle.txn_machine.specs.State.{State}
use Rattle.txn_machine.specs.May.{IsOpen, IsReady}
use Rattle.txn_machine.proofs.Basics.{one_same, one_other}
use Rattle.txn_machine.proofs.LogSteps.{roomy_reached}
use Rattle.txn_machine.proofs.LogRoom.{IsBare}
use Rattle.txn_book.specs.Opens.{open_at}
use Rattle.txn_book.specs.Books.{IsBook}
use Rattle.txn_book.specs.Txns.{txn_of, changes_in}
use Rattle.txn_book.specs.Holding.{IsTxn, IsSame, AreKept}
use Rattle.txn_book.specs.declared.open_table.Open.{Open as BookOpen}
use Rattle.data_store.specs.Contents.{Contents, with_texts}
use Rattle.core_state.specs.Rooms.{still_owed}
use Rattle.core_state.specs.Stands.{Began}
use Rattle.iv_types.specs.declared.statement.Mode.{Mode}
use Rattle.core_state.specs.declared.state.CoreState.{CoreState}

-- ---- one session's transaction is another

-- contents with the same parts
pub contents_as : (c d : Contents) → c.objects ≡ d.objects → c.rows ≡ d.rows → c.view ≡ d.view → ((j : ℕ) → c.kept j ≡ d.kept j) → c ≡ with_texts c.texts d
contents_as c d objects rows view kept = λ i. record { objects = objects i; rows = rows i; view = view i; kept = λ j. kept j i; texts = c.texts }

-- what sessions keep
pub kept_of : (open_of : ℕ → Option Open) (i : ℕ) (o : Option Open) (j : ℕ) → (unwrap_or (with_one open_of i o j) idle).kept ≡ with_one (λ k. (unwrap_or (open_of k) idle).kept) i (unwrap_or o idle).kept j
kept_of open_of i o j = elim (j == i) as (λ b. (unwrap_or (cond b o (open_of j)) idle).kept ≡ cond b (unwrap_or o idle).kept (unwrap_or (open_of j) idle).kept) [ true ↦ refl | false ↦ refl ]

-- what sessions keep where one keeps what it kept
pub kept_same : (open_of : ℕ → Option Open) (i : ℕ) (o : Option Open) → (unwrap_or o idle).kept ≡ (unwrap_or (open_of i) idle).kept → (j : ℕ) → (unwrap_or (with_one open_of i o j) idle).kept ≡ (unwrap_or (open_of j) idle).kept
kept_same open_of i o same j = by_session j i
    (λ e. ap (λ x. (unwrap_or x idle).kept) (one_same open_of i o j e) ∙ (same ∙ ap (λ k. (unwrap_or (open_of k) idle).kept) (sym e)))
    (λ n. ap (λ x. (unwrap_or x idle).kept) (one_other open_of i o j n))

-- what sessions have locked where one has locked what it had
pub locks_same : (open_of : ℕ → Option Open) (i : ℕ) (o : Option Open) → (unwrap_or o idle).locks ≡ (unwrap_or (open_of i) idle).locks → (j : ℕ) → (unwrap_or (with_one open_of i o j) idle).locks ≡ (unwrap_or (open_of j) idle).locks
locks_same open_of i o same j = by_session j i
    (λ e. ap (λ x. (unwrap_or x idle).locks) (one_same open_of i o j e) ∙ (same ∙ ap (λ k. (unwrap_or (open_of k) idle).locks) (sym e)))
    (λ n. ap (λ x. (unwrap_or x idle).locks) (one_other open_of i o j n))

-- ---- the book's transaction

pub record HasTxn (objects : Schema) (o : Option BookOpen) (t : Open) (l : Logged) : Type 0 where
  pub txn : BookOpen
  pub there : o ≡ Some txn
  pub is : IsTxn objects (txn_of txn) t l

has_txn : (objects : Schema) (o : Option BookOpen) (m : Option Open) (t : Open) (l : Logged) → m ≡ Some t → IsSame objects o m l → HasTxn objects o t l
has_txn objects None None t l e h = absurd (cc)
has_txn objects None (Some u) t l e h = absurd h
has_txn objects (Some b) None t l e h = absurd h
has_txn objects (Some b) (Some u) t l e h = let same : u ≡ t = cc in record { txn = b; there = refl; is = subst (λ x. IsTxn objects (txn_of b) x l) same h }

-- as many changes in both
pub as_many : (bs : List BookStep) (ks : List KeptStep) (ns : List ℕ) → AreKept bs ks ns → length (changes_in bs) ≡ length (changes_of ks)
as_many [] [] ns h = refl
as_many (step.Put k a b n ∷ bs) (Put c owed ∷ ks) (m ∷ ns) h = ap ℕ.suc (as_many bs ks ns h.2)
as_many (step.Pay d before n ∷ bs) (Pay e ∷ ks) (m ∷ ns) h = as_many bs ks ns h.2
as_many [] (k ∷ ks) ns h = absurd h
as_many (step.Put k a b n ∷ bs) (Put c owed ∷ ks) [] h = absurd h
as_many (step.Pay d before n ∷ bs) (Pay e ∷ ks) [] h = absurd h
as_many (step.Put k a b n ∷ bs) (Pay e ∷ ks) ns h = absurd h
as_many (step.Pay d before n ∷ bs) (Put c owed ∷ ks) ns h = absurd h
as_many (step.Put k a b n ∷ bs) [] ns h = absurd h
as_many (step.Pay d before n ∷ bs) [] ns h = absurd h

drop_none : {X : Type 0} (n : ℕ) → drop {A = X} n [] ≡ []
drop_none ℕ.zero = refl
drop_none (ℕ.suc n) = refl

module _ {M : Type 0} (maps : M → ℕ → Map) (spare : M → ℕ → ℕ) (limit : M → Option ℕ) (core : CoreState M) (s : State) (i : ℕ) (h : Began maps spare limit core s i) where
  pub own_txn : (o : IsOpen s.store i) → HasTxn (schema_of s.store) (open_at core.book.opens i) o.transaction (s.log.logged i)
  own_txn o = has_txn (schema_of s.store) (open_at core.book.opens i) (s.store.open_of i) o.transaction (s.log.logged i) o.is_open (h.holds.book.txns i o.of_session)

  pub is_there : (o : IsOpen s.store i) → IsSome (open_at core.book.opens i)
  is_there o = subst IsSome (sym (own_txn o).there) refl

  -- a session without a transaction has none in the book
  pub none_there : IsSession i → s.store.open_of i ≡ None → open_at core.book.opens i ≡ None
  none_there is none = nothing (open_at core.book.opens i) (s.store.open_of i) none (h.holds.book.txns i is)
    where
      nothing : (o : Option BookOpen) (m : Option Open) → m ≡ None → IsSame (schema_of s.store) o m (s.log.logged i) → o ≡ None
      nothing None m e same = refl
      nothing (Some b) None e same = absurd same
      nothing (Some b) (Some u) e same = absurd (cc)

  -- the machine has it as it is
  pub now_is : (o : IsOpen s.store i) → now s.store i ≡ o.transaction
  now_is o = ap (λ x. unwrap_or x idle) o.is_open

  -- how many changes it keeps
  pub puts_are : (o : IsOpen s.store i) → IsBook core.book → (own_txn o).txn.puts ≡ length (changes_by s.store i)
  puts_are o good =
      let own = own_txn o in
      (good.roomy i own.txn own.there).puts ∙ (as_many (txn_of own.txn).kept o.transaction.kept (s.log.logged i).kept own.is.kept ∙ ap (λ (t : Open). length (changes_of t.kept)) (sym (now_is o)))

  -- a snapshot keeps nothing
  pub bare : (j : ℕ) → IsSession j → IsBare (s.store.open_of j) (s.log.logged j)
  bare j js = (roomy_reached s h.reached (subst (λ m. Within m (block_bytes + 1)) (sym h.opening.log_is) h.opening.least) h.runs).bare j js

  pub snapshots_bare : (j : ℕ) (t : Open) → IsSession j → s.store.open_of j ≡ Some t → t.mode ≡ Snapshot → t.kept ≡ []
  snapshots_bare j t js e mode = (subst (λ o. IsBare o (s.log.logged j)) e (bare j js) mode).0

  -- whether it has appended a record
  pub wrote_is : (o : IsOpen s.store i) (b : BookOpen) → open_at core.book.opens i ≡ Some b → b.has_written ≡ (s.log.logged i).wrote
  wrote_is o b there =
      let own = own_txn o in
      let one : Some b ≡ Some own.txn = sym there ∙ own.there in
      let same : b ≡ own.txn = cc in
      ap (λ (x : BookOpen). x.has_written) same ∙ own.is.wrote

  puts_of : (o : IsOpen s.store i) (b : BookOpen) → IsBook core.book → open_at core.book.opens i ≡ Some b → b.puts ≡ length (changes_by s.store i)
  puts_of o b good there =
      let own = own_txn o in
      let one : Some b ≡ Some own.txn = sym there ∙ own.there in
      let same : b ≡ own.txn = cc in
      ap (λ (x : BookOpen). x.puts) same ∙ puts_are o good

  pub some_changes : (o : IsOpen s.store i) (b : BookOpen) → IsBook core.book → open_at core.book.opens i ≡ Some b → 0 < b.puts → changes_by s.store i ≢ []
  some_changes o b good there some none = let many : b.puts ≡ 0 = puts_of o b good there ∙ ap length none in omega (arith, some, many)

  pub no_changes : (o : IsOpen s.store i) (b : BookOpen) → IsBook core.book → open_at core.book.opens i ≡ Some b → b.puts ≤ 0 → changes_by s.store i ≡ []
  no_changes o b good there none = nothing (changes_by s.store i) (let many : b.puts ≡ length (changes_by s.store i) = puts_of o b good there in omega (arith, none, many))
    where
      nothing : {X : Type 0} (xs : List X) → length xs ≡ 0 → xs ≡ []
      nothing [] e = refl
      nothing (x ∷ xs) e = absurd (omega (arith, e))

  -- who may go on has a transaction
  abbrev pub of_ready : {mode : Mode} → IsReady s.store i mode → IsOpen s.store i
  of_ready r = record { of_session = r.goes_on.of_session; transaction = r.goes_on.transaction; is_open = r.goes_on.is_open }

  -- and owes nothing, in the book too
  pub owes_none : {mode : Mode} (r : IsReady s.store i mode) (t : BookOpen) → open_at core.book.opens i ≡ Some t → still_owed (txn_of t) ≡ []
  owes_none r t there =
      let own = own_txn (of_ready r) in
      let one : Some t ≡ Some own.txn = sym there ∙ own.there in
      let same : t ≡ own.txn = cc in
      let owed : (txn_of t).owed ≡ [] = ap (λ (x : BookOpen). (txn_of x).owed) same ∙ (own.is.owed ∙ r.owes_nothing) in
      ap (drop t.back) owed ∙ drop_none t.back

  -- who may commit has a transaction, and who keeps changes a serial one
  pub open_to_commit : IsReady s.store i Serial ⊎ IsReady s.store i Snapshot → IsOpen s.store i
  open_to_commit (inl r) = record { of_session = r.goes_on.of_session; transaction = r.goes_on.transaction; is_open = r.goes_on.is_open }
  open_to_commit (inr r) = record { of_session = r.goes_on.of_session; transaction = r.goes_on.transaction; is_open = r.goes_on.is_open }

  pub serial_to_commit : IsReady s.store i Serial ⊎ IsReady s.store i Snapshot → changes_by s.store i ≢ [] → IsReady s.store i Serial
  serial_to_commit (inl r) some = r
  serial_to_commit (inr r) some =
      let bare_of = snapshots_bare i r.goes_on.transaction r.goes_on.of_session r.goes_on.is_open r.goes_on.mode_is in
      absurd (some (ap (λ x. changes_of (unwrap_or x idle).kept) r.goes_on.is_open ∙ ap changes_of bare_of))
