-- A store after a change is put or taken back, and after a commit, by what the calls did.
use Rattle.std.specs.Prelude.{◌≡◌, ◌≤◌, ◌<◌, ◌+◌, ◌-◌, ◌^◌, ℕ, zero, suc, List, [], ◌∷◌, ◌++◌, map, reverse, length, Option, Some, None, IfSome}
use Rattle.std.specs.Option.{option_map, option_and_then}
use mathlib.Core.Path.{refl, sym, ap, subst, ◌∙◌}
use mathlib.Core.Logic.{inl, inr}
use Rattle.std.proofs.Common.{arith}
use Rattle.std.proofs.lemmas.List.{append-nil}
use Rattle.std.proofs.lemmas.List.Elements.{filter_map-append}
use Rattle.std.proofs.lemmas.Grind.{reverse_onto}
use Rattle.std.proofs.lemmas.Bool.Decides.{leb_tells}
use Rattle.std.specs.FinMap.{get}
use Rattle.iv_types.specs.declared.lock.GroupDelta.{GroupDelta}
use Rattle.iv_types.specs.declared.lock.KeptStep.{KeptStep}
use Rattle.iv_types.specs.declared.lock.KeptStep.TheVariants.{Put, Pay}
use Rattle.iv_types.specs.declared.catalog.Definition.{Definition}
use Rattle.iv_types.specs.declared.catalog.Definition.TheVariants.{Table, Index, View}
use Rattle.iv_types.specs.declared.catalog.TableDef.{TableDef}
use Rattle.iv_types.specs.Definitions.{Definitions}
use Rattle.iv_types.specs.Definitions as definitions
use Rattle.iv_types.specs.Maps.{Map}
use Rattle.table_laws.specs.Place.{Place}
use Rattle.iv_meaning.specs.Objects.{schema_of, object_of}
use Rattle.iv_meaning.specs.Schema.{Schema}
use Rattle.iv_meaning.specs.Database.{Row}
use Rattle.iv_meaning.specs.Statement.{sets}
use Rattle.iv_meaning.specs.Escrow.{IsSession}
use Rattle.table_store.specs.Stored.{as_table, table_of, stored}
use Rattle.txn_machine.specs.Deltas.{RowChange}
use Rattle.txn_machine.specs.Keeping as machine
use Rattle.txn_machine.specs.Keeping.{changes_of, IsSettled}
use Rattle.txn_machine.specs.Store as store
use Rattle.txn_machine.specs.Store.{Store, committed, now, changes_by, change_at, entry_changes, Writes, Undoes, Commits, does}
use Rattle.txn_machine.specs.State.{State}
use Rattle.txn_machine.specs.Laws.{IsReached}
use Rattle.txn_machine.specs.Ghosts.{the_views}
use Rattle.txn_machine.proofs.Telling.{Good'}
use Rattle.version_chain.specs.States.{commits_in}
use Rattle.version_chain.specs.declared.rows.Version as row
use Rattle.ghost_rows.specs.State as views
use Rattle.data_store.specs.Contents.{contents_of}
use Rattle.data_store.specs.Held.{IsHeld}
use Rattle.data_store.specs.Past.{Pendings, RowVersions, committed_value}
use Rattle.data_store.specs.ViewPast.{DeltaVersions}
use Rattle.data_store.specs.declared.store.Pending.{Pending}
use Rattle.data_store.specs.Machine.{bytes_by, bytes_of, changes_on, kept_up_to, kept_on, pending_of, version_by, delta_by, IsPast}
use Rattle.data_store.proofs.Finding.{alike}
use Rattle.data_store.proofs.RowsThen.{committed_is}
use Rattle.iv_types.specs.declared.lock.Change.{Change}
use Rattle.txn_machine.specs.RowChanges.{row_change}
use Rattle.data_past.specs.Ahead.{made_of}
use Rattle.data_past.specs.Moves.{version_of, one_more, fewer, ChangesAt, CanCount, HasChange, CanForget, put_in, puts_in, delta_in, deltas_in, bytes_in, versions_in, version_at, delta_at, pushed_all, pays_of, AreSteps}
use Rattle.data_past.proofs.Effects.{past_writes, past_commits}
use Rattle.data_past.proofs.Counting.{kept_few, on_itself}
use Rattle.data_past.proofs.Pendings.{on_both, pending_has}
use Rattle.data_past.proofs.Entering.{sets_in, all_owed, paid_owed}

-- ---- kept steps

-- of some steps, the latest first, the others and then it
reversed : {X : Type 0} (x : X) (xs : List X) → reverse (x ∷ xs) ≡ reverse xs ++ x ∷ []
reversed x xs = reverse_onto xs x []

pub same_puts : (bs : List KeptStep) (ks : List machine.KeptStep) → AreSteps bs ks → puts_in (reverse bs) ≡ reverse (changes_of ks)
same_puts [] [] h = refl
same_puts [] (k ∷ ks) h = absurd h
same_puts (b ∷ bs) [] h = absurd (none b bs h)
  where
    none : (b : KeptStep) (bs : List KeptStep) → AreSteps (b ∷ bs) [] → ⊥
    none (Put kept txn_bytes history_bytes number) bs h = h
    none (Pay delta before number) bs h = h
same_puts (Put kept txn_bytes history_bytes number ∷ bs) (machine.Put c owed ∷ ks) h =
    ap puts_in (reversed (Put kept txn_bytes history_bytes number) bs)
    ∙ (filter_map-append put_in (reverse bs) (Put kept txn_bytes history_bytes number ∷ [])
    ∙ ((λ i. same_puts bs ks h.1 i ++ h.0 i ∷ []) ∙ sym (reversed c (changes_of ks))))
same_puts (Put kept txn_bytes history_bytes number ∷ bs) (machine.Pay d ∷ ks) h = absurd h
same_puts (Pay delta before number ∷ bs) (machine.Put c owed ∷ ks) h = absurd h
same_puts (Pay delta before number ∷ bs) (machine.Pay d ∷ ks) h =
    ap puts_in (reversed (Pay delta before number) bs) ∙ (filter_map-append put_in (reverse bs) (Pay delta before number ∷ []) ∙ (append-nil (puts_in (reverse bs)) ∙ same_puts bs ks h.1))

pub same_pays : (bs : List KeptStep) (ks : List machine.KeptStep) → AreSteps bs ks → deltas_in (reverse bs) ≡ pays_of ks
same_pays [] [] h = refl
same_pays [] (k ∷ ks) h = absurd h
same_pays (b ∷ bs) [] h = absurd (none b bs h)
  where
    none : (b : KeptStep) (bs : List KeptStep) → AreSteps (b ∷ bs) [] → ⊥
    none (Put kept txn_bytes history_bytes number) bs h = h
    none (Pay delta before number) bs h = h
same_pays (Put kept txn_bytes history_bytes number ∷ bs) (machine.Put c owed ∷ ks) h =
    ap deltas_in (reversed (Put kept txn_bytes history_bytes number) bs) ∙ (filter_map-append delta_in (reverse bs) (Put kept txn_bytes history_bytes number ∷ []) ∙ (append-nil (deltas_in (reverse bs)) ∙ same_pays bs ks h.1))
same_pays (Put kept txn_bytes history_bytes number ∷ bs) (machine.Pay d ∷ ks) h = absurd h
same_pays (Pay delta before number ∷ bs) (machine.Put c owed ∷ ks) h = absurd h
same_pays (Pay delta before number ∷ bs) (machine.Pay d ∷ ks) h =
    ap deltas_in (reversed (Pay delta before number) bs) ∙ (filter_map-append delta_in (reverse bs) (Pay delta before number ∷ []) ∙ (λ i. same_pays bs ks h.1 i ++ h.0 i ∷ []))

-- the bytes of a row by the catalog are those by the schema
same_bytes : (ds : Definitions) (n : ℕ) (key : List ℕ) (before : Option Row) → bytes_in ds n before ≡ bytes_of (schema_of ds) (n, key) before
same_bytes ds n key before = by (definitions.numbered ds n) ∙ ap (λ o. bytes_by o before) (sym (alike ds n))
  where
    by : (d : Option Definition) → option_and_then (λ t. stored t before) (as_table d) ≡ bytes_by (option_map object_of d) before
    by None = refl
    by (Some (Table t)) = refl
    by (Some (Index i)) = refl
    by (Some (View v)) = refl

-- the version that code makes of a change is that of the machine's
pub made_as : (ds : Definitions) (change : Change) → version_of ds change ≡ made_of (schema_of ds) (row_change change)
made_as ds change = ap (λ b. record { index = change.table; key = change.key; before = b }) (same_bytes ds change.table change.key change.before)

-- the versions that code makes are those of the entry
pub same_versions : (ds : Definitions) (m : ℕ) (bs : List KeptStep) (ks : List machine.KeptStep) → AreSteps bs ks
    → map (version_at m) (versions_in ds (reverse bs)) ≡ map (version_by (schema_of ds)) (commits_in m (entry_changes ks))
same_versions ds m bs ks h = each (reverse bs) ∙ ap (map (version_by (schema_of ds))) (sym (ap (λ (cs : List RowChange). commits_in m (map sets cs)) (sym (same_puts bs ks h)) ∙ sets_in m (puts_in (reverse bs))))
  where
    each : (bs : List KeptStep) → map (version_at m) (versions_in ds bs) ≡ map (version_by (schema_of ds)) (map (λ c. (m, c)) (puts_in bs))
    each [] = refl
    each (Put kept txn_bytes history_bytes number ∷ bs) = λ i. (((kept.change.table, kept.change.key), m), same_bytes ds kept.change.table kept.change.key kept.change.before i) ∷ each bs i
    each (Pay delta before number ∷ bs) = each bs

pub same_count : (p : Place) (cs : List RowChange) → changes_on p (reverse cs) ≡ changes_on p cs
same_count p [] = refl
same_count p (c ∷ cs) = ap (changes_on p) (reversed c cs) ∙ (on_both p (reverse cs) (c ∷ []) ∙ (let rest = same_count p cs in omega (arith, rest)))

-- ---- what the calls ask

part_of : (changes : ℕ → List RowChange) (p : Place) (n i : ℕ) → 1 ≤ i → i ≤ n → changes_on p (changes i) ≤ kept_up_to changes p n
part_of changes p zero i low high = absurd (omega (arith, low, high))
part_of changes p (suc n) i low high = elim (leb_tells i n) [
  | inl t ↦ let rest = part_of changes p n i low t.1 in omega (arith, rest)
  | inr f ↦
      let last : i ≡ suc n = (let above = f.1 in omega (arith, high, above)) in
      let same : changes_on p (changes i) ≡ changes_on p (changes (suc n)) = ap (λ j. changes_on p (changes j)) last in
      omega (arith, same)
]

module _ (R : RowVersions) (D : DeltaVersions) (P : Pendings) (s : Store) (past : IsPast R D P s) (i : ℕ) (is : IsSession i) where
  -- the changes that a session keeps are counted
  pub can_forget : (bs : List KeptStep) → AreSteps bs (now s i).kept → CanForget P (puts_in (reverse bs))
  can_forget bs h p =
      let all = part_of (changes_by s) p 64 i is.0 is.1 in
      let same : changes_on p (puts_in (reverse bs)) ≡ changes_on p (changes_by s i) = ap (changes_on p) (same_puts bs (now s i).kept h) ∙ same_count p (changes_by s i) in
      (kept_on s p, bytes_of (store.schema_of s) p (get (committed s).rows p), past.pending p, omega (arith, all, same))

  -- the latest change that a session keeps is counted
  pub latest_counted : (c : RowChange) (owed : List GroupDelta) (ks : List machine.KeptStep) → (now s i).kept ≡ machine.Put c owed ∷ ks → HasChange P c.key
  latest_counted c owed ks kept =
      let all = part_of (changes_by s) c.key 64 i is.0 is.1 in
      let own : changes_on c.key (changes_by s i) ≡ changes_on c.key (c ∷ changes_of ks) = ap (λ (l : List machine.KeptStep). changes_on c.key (changes_of l)) kept in
      let one = on_itself c (changes_of ks) in
      let found = pending_has (kept_on s c.key) (bytes_of (store.schema_of s) c.key (get (committed s).rows c.key)) (omega (arith, all, own, one)) in
      (found.0, past.pending c.key ∙ found.1, found.2)

  -- one more can be counted, where each session keeps few
  pub can_count : (p : Place) → ((j : ℕ) → IsSession j → length (changes_by s j) ≤ 2 ^ 32) → CanCount P p
  can_count p few =
      let all = kept_few (changes_by s) p (2 ^ 32) 64 (λ j low high. few j (low, high)) in
      subst (λ (o : Option Pending). IfSome o (λ x. x.changes < 2 ^ 64 - 1)) (sym (past.pending p)) (by (kept_on s p) (omega (arith, all)))
    where
      by : (n : ℕ) → n < 2 ^ 64 - 1 → IfSome (pending_of n (bytes_of (store.schema_of s) p (get (committed s).rows p))) (λ x. x.changes < 2 ^ 64 - 1)
      by zero lt = tt
      by (suc n) lt = lt

  -- ---- what the calls make

  -- a commit, by the versions that were made of its kept steps
  pub committed_past : Good' s → (now s i).owed ≡ [] → (ds : Definitions) → schema_of ds ≡ store.schema_of s → (bs : List KeptStep) → AreSteps bs (now s i).kept
      → (versions : List row.Version) (paid : List GroupDelta) (R' : RowVersions) (D' : DeltaVersions) (P' : Pendings) → versions ≡ versions_in ds (reverse bs) → paid ≡ deltas_in (reverse bs)
      → R' ≡ pushed_all (version_at ((committed s).number + 1)) versions s.mark R → D' ≡ pushed_all (delta_at ((committed s).number + 1)) paid s.mark D
      → ((p : Place) → get P' p ≡ fewer (changes_on p (puts_in (reverse bs))) (get P p)) → IsPast R' D' P' (does the_views s i Commits)
  committed_past good none ds schema bs h versions paid R' D' P' versions_are paid_are rows deltas pending =
      past_commits R D P s past i is good none (version_at ((committed s).number + 1)) versions (delta_at ((committed s).number + 1)) paid R' D' P'
      (ap (map (version_at ((committed s).number + 1))) versions_are
      ∙ (same_versions ds ((committed s).number + 1) bs (now s i).kept h ∙ ap (λ (o : Schema). map (version_by o) (commits_in ((committed s).number + 1) (entry_changes (now s i).kept))) schema))
      (ap (map (delta_by ((committed s).number + 1))) (paid_are ∙ same_pays bs (now s i).kept h)) rows deltas
      (λ p. pending p ∙ ap (λ n. fewer n (get P p)) (ap (changes_on p) (same_puts bs (now s i).kept h) ∙ same_count p (changes_by s i)))

-- a change is put, of which the bytes that are committed were read before it
pub put_past : (ds : Definitions) (maps : ℕ → Map) (state : views.State) (s : State) → IsReached s → IsHeld ds maps state (contents_of s.store) → (R : RowVersions) (D : DeltaVersions) (P : Pendings) → IsPast R D P s.store
    → (t : TableDef) → table_of ds t.number ≡ Some t → (i : ℕ) → IsSession i → (key : List ℕ) (new : Option Row) (bytes : Option (List ℕ)) (after : Pendings)
    → bytes ≡ committed_value P maps (t.number, key) → ChangesAt (t.number, key) (one_more bytes) P after → IsPast R D after (does the_views s.store i (Writes (t.number, key) new))
put_past ds maps state s r held R D P past t of i is key new bytes after same changes =
    past_writes R D P s.store past i is (t.number, key) after new bytes (same ∙ committed_is ds maps state s r held R D P past t of key) changes

-- ---- versions that were made ahead

-- the deltas that kept changes owed are the paid ones, where all is paid
pub ahead_paid : (bs : List KeptStep) (ks : List machine.KeptStep) → AreSteps bs ks → IsSettled ks [] → all_owed ks ≡ deltas_in (reverse bs)
ahead_paid bs ks h settled = sym (same_pays bs ks h ∙ (sym (append-nil (pays_of ks)) ∙ paid_owed ks [] settled))
