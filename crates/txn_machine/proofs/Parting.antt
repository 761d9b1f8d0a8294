-- A step leaves the parts of the other sessions.
use Rattle.std.specs.Prelude.{◌≡◌, ◌≢◌, ℕ, zero, suc, ◌+◌, true, ℤ, List, [], ◌∷◌, length, Some, None, is_some, IsSome}
use Rattle.std.specs.Option.{unwrap_or}
use Rattle.std.specs.FinMap.{get}
use Rattle.std.specs.List.{AllByRecursion}
use mathlib.Core.Path.{refl, sym, ap, subst, ◌∙◌}
use mathlib.Core.Logic.{inl, inr}
use Rattle.std.proofs.lemmas.Option.{none-some}
use Rattle.iv_types.specs.declared.lock.GroupDelta.{GroupDelta}
use Rattle.iv_types.specs.declared.lock.LockMode.TheVariants.{Increment}
use Rattle.iv_types.specs.declared.lock.Want.{Want}
use Rattle.iv_types.specs.declared.refusal.EngineRefusal.TheVariants as refusal
use Rattle.table_laws.specs.Place.{Place}
use Rattle.table_laws.specs.Table.{write}
use Rattle.iv_meaning.specs.Schema.{Object}
use Rattle.iv_meaning.specs.Database.{Database}
use Rattle.iv_meaning.specs.Statement.{defines}
use Rattle.txn_machine.specs.Acts as act
use Rattle.txn_machine.specs.Acts.{Act}
use Rattle.txn_machine.specs.Answers as answer
use Rattle.txn_machine.specs.Answers.{Answer}
use Rattle.txn_machine.specs.Deltas.{RowChange, place_of, columns_of, negated}
use Rattle.txn_machine.specs.Keeping.{KeptStep, Put, Pay, Open}
use Rattle.txn_machine.specs.Stored.{ViewRows, plus, add_to, add_all, zeros}
use Rattle.txn_machine.specs.Ghosts.{Holds, the_views, IsFirstCleanable}
use Rattle.txn_machine.specs.Store.{Store, schema_of, now, changes_by, locks_of, with_entry, paid_first, undone, Effect, Opens, Takes, Notes, Writes, Pays, Ghosts, Undoes, Loses, Ends, Commits, Defines, Cleans, Prunes, does, run}
use Rattle.txn_machine.specs.Fresh.{fresh, made_of}
use Rattle.txn_machine.specs.State.{State, Seat, Cleaner, cleaner_after, seat_after}
use Rattle.txn_machine.specs.May.{IsOpen, Owes, MayAct}
use Rattle.txn_machine.specs.Steps.{NoneIsOpen, CommitsAs, Says, waits_after}
use Rattle.txn_machine.specs.Laws.{SamePart, PartLaw, GhostedLaw}
use Rattle.txn_machine.proofs.Basics.{one_other}
use Rattle.txn_machine.proofs.Agreeing.{by_place, written_at, written_other}
use Rattle.txn_machine.proofs.Runs.{committed_after}
use Rattle.txn_machine.proofs.Stepping.{some_not_none, now_is}
use Rattle.txn_machine.proofs.Looking.{view_laws}
use Rattle.txn_machine.proofs.Moving.{same_pays, same_undoes, may_of}
use Rattle.txn_machine.proofs.Rings.{other_opens}

-- only the cleaner's own acts are answered by what it counts
cleaner_stays : (s : State) (i : ℕ) (a : Act) (said : Answer) (es : List Effect) (c : Cleaner) (n m : ℕ) → i ≢ 0 → MayAct s.store i a → Says s i a said es → cleaner_after c n m said ≡ c
cleaner_stays s i act.Prune answer.Pruned es c n m not_zero may h = absurd (not_zero may)
cleaner_stays s i act.Clean (answer.Cleaned count) es c n m not_zero may h = absurd (not_zero may)
cleaner_stays s i act.Checkpoint (answer.Saved number) es c n m not_zero may h = absurd (not_zero may)
cleaner_stays s i _ answer.Pruned es c n m not_zero may h = absurd h
cleaner_stays s i _ (answer.Cleaned zero) es c n m not_zero may h = absurd h
cleaner_stays s i _ (answer.Cleaned (suc zero)) es c n m not_zero may h = absurd h
cleaner_stays s i _ (answer.Cleaned (suc (suc k))) es c n m not_zero may h = absurd h
cleaner_stays s i _ (answer.Saved number) es c n m not_zero may h = absurd h
cleaner_stays s i a _ es c n m not_zero may h = refl

-- ---- what was opened, and the schema

same_origin : (s : Store) (i : ℕ) (e : Effect) → (does the_views s i e).origin ≡ s.origin
same_origin s i Pays = pays (now s i).owed
  where
    pays : (ds : List GroupDelta) → (paid_first s i (now s i) ds).origin ≡ s.origin
    pays [] = refl
    pays (d ∷ ds) = refl
same_origin s i Undoes = undoes (now s i).kept
  where
    undoes : (ks : List KeptStep) → (undone s i (now s i) ks).origin ≡ s.origin
    undoes [] = refl
    undoes (Put c ds ∷ ks) = refl
    undoes (Pay d ∷ ks) = refl
same_origin s i (Opens mode) = refl
same_origin s i (Takes wants) = refl
same_origin s i (Notes n) = refl
same_origin s i (Writes p new) = refl
same_origin s i (Ghosts p n) = refl
same_origin s i Loses = refl
same_origin s i Ends = refl
same_origin s i Commits = refl
same_origin s i (Defines o) = refl
same_origin s i (Cleans p) = refl
same_origin s i Prunes = refl

same_origins : (s : Store) (i : ℕ) (es : List Effect) → (run the_views s i es).origin ≡ s.origin
same_origins s i [] = refl
same_origins s i (e ∷ es) = same_origins (does the_views s i e) i es ∙ same_origin s i e

-- no definition
abbrev IsPlain : Effect → Type 0
IsPlain (Defines o) = ⊥
IsPlain _ = Unit {0}

abbrev ArePlain : List Effect → Type 0
ArePlain = AllByRecursion IsPlain

same_schema : (s : Store) (i : ℕ) (e : Effect) → IsPlain e → schema_of (does the_views s i e) ≡ schema_of s
same_schema s i Pays p = ap (λ (d : Database). d.schema) (same_pays s i (now s i).owed)
same_schema s i Undoes p = ap (λ (d : Database). d.schema) (same_undoes s i (now s i).kept)
same_schema s i Commits p = ap (λ (d : Database). d.schema) (committed_after the_views fresh view_laws s i)
same_schema s i (Defines o) p = absurd p
same_schema s i (Opens mode) p = refl
same_schema s i (Takes wants) p = refl
same_schema s i (Notes n) p = refl
same_schema s i (Writes q new) p = refl
same_schema s i (Ghosts q n) p = refl
same_schema s i Loses p = refl
same_schema s i Ends p = refl
same_schema s i (Cleans q) p = refl
same_schema s i Prunes p = refl

same_schemas : (s : Store) (i : ℕ) (es : List Effect) → ArePlain es → schema_of (run the_views s i es) ≡ schema_of s
same_schemas s i [] p = refl
same_schemas s i (e ∷ es) p = same_schemas (does the_views s i e) i es p.1 ∙ same_schema s i e p.0

-- neither a definition nor a ghost that is removed
abbrev IsUsual : Effect → Type 0
IsUsual (Defines o) = ⊥
IsUsual (Cleans p) = ⊥
IsUsual _ = Unit {0}

-- what is true of usual effects, of a definition where no transaction is open, and of a cleanable row that is removed is true of
-- all effects of a step
module _ (s : State) (i : ℕ) (Q : Effect → Type 0) (usual : (e : Effect) → IsUsual e → Q e) (defines : (o : Object) → NoneIsOpen s.store → Q (Defines o)) (cleans : (p : Place) → IsFirstCleanable s.store p → Q (Cleans p)) where
  abbrev Each : List Effect → Type 0
  Each = AllByRecursion Q

  one_effect : (es : List Effect) (e : Effect) → es ≡ e ∷ [] → IsUsual e → Each es
  one_effect es e is u = subst Each (sym is) (usual e u, tt)

  two_effects : (es : List Effect) (e f : Effect) → es ≡ e ∷ f ∷ [] → IsUsual e → IsUsual f → Each es
  two_effects es e f is u w = subst Each (sym is) (usual e u, (usual f w, tt))

  commit_effects : (number : ℕ) (cs : List RowChange) (es : List Effect) → CommitsAs s.store i cs number es → Each es
  commit_effects number [] es h = one_effect es Ends h.1 tt
  commit_effects number (c ∷ cs) es h = one_effect es Commits h.1 tt

  each_effect : (a : Act) (said : Answer) (es : List Effect) → Says s i a said es → Each es
  each_effect a (answer.Blocked sessions) es h = subst Each (sym h.2) tt
  each_effect a (answer.Refused (refusal.Deadlock cycle)) es h = one_effect es Loses h.2 tt
  each_effect a (answer.Refused refusal.NoMemory) es h = subst Each (sym h.1) tt
  each_effect (act.Begin mode) (answer.Begun number defs) es h = one_effect es (Opens mode) h.effects tt
  each_effect (act.Begin mode) (answer.Refused (refusal.HistoryFull kept need)) es h = subst Each (sym h.3) tt
  each_effect act.Defs (answer.Defs objects) es h = subst Each (sym h.1) tt
  each_effect (act.Fetch number interval mode) (answer.Rows rows) es h = two_effects es (Takes _) (Notes _) h.effects tt tt
  each_effect (act.Fetch number interval mode) (answer.Refused (refusal.TxnFull kept need)) es h = subst Each (sym h.1) tt
  each_effect (act.Peek number interval) (answer.Rows rows) es h = subst Each (sym h.1) tt
  each_effect (act.Put number key new) (answer.Changed before deltas) es h = two_effects es (Takes _) (Writes _ _) h.effects tt tt
  each_effect (act.Put number key new) (answer.Refused (refusal.TxnFull kept need)) es h = subst Each (sym h.1) tt
  each_effect (act.Put number key new) (answer.Refused (refusal.HistoryFull kept need)) es h = subst Each (sym h.1) tt
  each_effect act.Pay (answer.Paid left) es h = two_effects es (Takes _) Pays h.effects tt tt
  each_effect act.Pay answer.NeedsGhost es h = one_effect es (Takes _) h.effects tt
  each_effect act.Pay (answer.Refused (refusal.Escrow column low high)) es h = one_effect es (Takes _) h.effects tt
  each_effect act.Ghost answer.Ghosted es h = elim h.effects [ inl m ↦ one_effect es (Ghosts _ _) m.1 tt | inr m ↦ subst Each (sym m.1) tt ]
  each_effect act.UndoOne (answer.Undone left) es h = one_effect es Undoes h.effects tt
  each_effect act.End answer.Ended es h = one_effect es Ends h tt
  each_effect act.Commit (answer.Committed number) es h = commit_effects number (changes_by s.store i) es h
  each_effect (act.Schema statement) (answer.Committed number) es h = subst Each (sym h.effects) (defines h.object h.none_open, tt)
  each_effect (act.Schema statement) (answer.Denied why) es h = subst Each (sym h.1) tt
  each_effect (act.Schema statement) (answer.Refused (refusal.SchemaBusy busy)) es h = subst Each (sym h.1) tt
  each_effect (act.Schema statement) (answer.Refused (refusal.HistoryFull kept need)) es h = subst Each (sym h.1) tt
  each_effect act.Clean (answer.Cleaned zero) es h = subst Each (sym h.1) tt
  each_effect act.Clean (answer.Cleaned (suc zero)) es h = subst Each (sym h.2) (cleans h.0 h.1, tt)
  each_effect act.Prune answer.Pruned es h = one_effect es Prunes h tt
  each_effect (act.Begin mode) (answer.Refused (refusal.LogFull used reserved need)) es h = subst Each (sym h.0) tt
  each_effect (act.Put number key new) (answer.Refused (refusal.LogFull used reserved need)) es h = subst Each (sym h.1) tt
  each_effect (act.Put number key new) (answer.Refused (refusal.DataFull used need)) es h = subst Each (sym h.1) tt
  each_effect act.Commit (answer.Refused refusal.DiskFault) es h = subst Each (sym h.0) tt
  each_effect (act.Schema statement) (answer.Refused (refusal.LogFull used reserved need)) es h = subst Each (sym h.1) tt
  each_effect (act.Schema statement) (answer.Refused (refusal.DataFull used need)) es h = subst Each (sym h.1) tt
  each_effect (act.Schema statement) (answer.Refused refusal.DiskFault) es h = subst Each (sym h.0) tt
  each_effect act.Clean (answer.Refused (refusal.LogFull used reserved need)) es h = subst Each (sym h.0) tt
  each_effect act.Checkpoint (answer.Saved greatest) es h = subst Each (sym h.0) tt
  each_effect act.Checkpoint (answer.Refused refusal.DiskFault) es h = subst Each (sym h) tt
  each_effect act.Cancel answer.Cancelled es h = subst Each (sym h) tt
  each_effect _ _ es h = absurd h

usual_plain : (e : Effect) → IsUsual e → IsPlain e
usual_plain (Defines o) u = u
usual_plain (Cleans p) u = tt
usual_plain (Opens mode) u = tt
usual_plain (Takes wants) u = tt
usual_plain (Notes n) u = tt
usual_plain (Writes p new) u = tt
usual_plain Pays u = tt
usual_plain (Ghosts p n) u = tt
usual_plain Undoes u = tt
usual_plain Loses u = tt
usual_plain Ends u = tt
usual_plain Commits u = tt
usual_plain Prunes u = tt

-- where a transaction is open, a step defines nothing
plain_says : (s : State) (i : ℕ) (a : Act) (said : Answer) (es : List Effect) → (j : ℕ) → IsOpen s.store j → Says s i a said es → ArePlain es
plain_says s i a said es j o h = each_effect s i IsPlain usual_plain (λ x none. absurd (none-some o.transaction (sym (none j o.of_session) ∙ o.is_open))) (λ p c. tt) a said es h

-- ---- stored rows

written_there : (m : ViewRows) (k : Place) (x : List ℤ) (p : Place) → IsSome (get m p) → IsSome (get (write m k (Some x)) p)
written_there m k x p h = by_place p k (λ e. ap is_some (written_at m k (Some x) p e)) (λ n. ap is_some (written_other m k (Some x) p n) ∙ h)

added_there : (m : ViewRows) (ds : List GroupDelta) (p : Place) → IsSome (get m p) → IsSome (get (add_all m ds) p)
added_there m [] p h = h
added_there m (d ∷ ds) p h = added_there (add_to m d) ds p (written_there m (place_of d) (plus (unwrap_or (get m (place_of d)) []) (columns_of d)) p h)

-- the row is not removed
abbrev pub Leaves : Place → Effect → Type 0
Leaves p (Cleans q) = p ≢ q
Leaves p _ = Unit {0}

usual_leaves : (p : Place) (e : Effect) → IsUsual e → Leaves p e
usual_leaves p (Defines o) u = tt
usual_leaves p (Cleans q) u = absurd u
usual_leaves p (Opens mode) u = tt
usual_leaves p (Takes wants) u = tt
usual_leaves p (Notes n) u = tt
usual_leaves p (Writes q new) u = tt
usual_leaves p Pays u = tt
usual_leaves p (Ghosts q n) u = tt
usual_leaves p Undoes u = tt
usual_leaves p Loses u = tt
usual_leaves p Ends u = tt
usual_leaves p Commits u = tt
usual_leaves p Prunes u = tt

pub stays_there : (s : Store) (i : ℕ) (e : Effect) (p : Place) → Leaves p e → IsSome (get s.view p) → IsSome (get (does the_views s i e).view p)
stays_there s i Pays p l h = pays (now s i).owed
  where
    pays : (ds : List GroupDelta) → IsSome (get (paid_first s i (now s i) ds).view p)
    pays [] = h
    pays (d ∷ ds) = added_there s.view (d ∷ []) p h
stays_there s i Undoes p l h = undoes (now s i).kept
  where
    undoes : (ks : List KeptStep) → IsSome (get (undone s i (now s i) ks).view p)
    undoes [] = h
    undoes (Put c ds ∷ ks) = h
    undoes (Pay d ∷ ks) = added_there s.view (negated d ∷ []) p h
stays_there s i (Ghosts q n) p l h = written_there s.view q (zeros n) p h
stays_there s i (Cleans q) p l h = ap is_some (written_other s.view q None p l) ∙ h
stays_there s i (Defines o) p l h = added_there s.view (made_of (schema_of (with_entry s i (defines o ∷ []))) s.rows o) p h
stays_there s i (Opens mode) p l h = h
stays_there s i (Takes wants) p l h = h
stays_there s i (Notes n) p l h = h
stays_there s i (Writes q new) p l h = h
stays_there s i Loses p l h = h
stays_there s i Ends p l h = h
stays_there s i Commits p l h = h
stays_there s i Prunes p l h = h

stay_there : (s : Store) (i : ℕ) (es : List Effect) (p : Place) → AllByRecursion (Leaves p) es → IsSome (get s.view p) → IsSome (get (run the_views s i es).view p)
stay_there s i [] p l h = h
stay_there s i (e ∷ es) p l h = stay_there (does the_views s i e) i es p l.1 (stays_there s i e p l.0 h)

-- ---- steps

pub part_law : PartLaw
part_law s d after step = elim step.does [
  | inl x ↦
      let i : ℕ = d.session in
      let wants : List Want = waits_after s.store i d.act d.said in
      let seat : Seat = seat_after (s.seat_of i) (s.steps + 1) d.said in
      subst (λ (z : State). ((j : ℕ) → j ≢ i → SamePart s z j) × (z.store.origin ≡ s.store.origin) × (i ≢ 0 → z.cleaner ≡ s.cleaner) × ((j : ℕ) → j ≢ i → IsOpen s.store j → schema_of z.store ≡ schema_of s.store)) (sym x.left) (
        λ j n. record { open_is = other_opens s.store i x.effects j n; waiting = one_other s.waiting i wants j n; seat = one_other s.seat_of i seat j n },
        same_origins s.store i x.effects,
        λ n. cleaner_stays s i d.act d.said x.effects s.cleaner (s.steps + 1) (length s.store.history) n (may_of s i d.act x.runs step.may.1) x.says,
        λ j n o. same_schemas s.store i x.effects (plain_says s i d.act d.said x.effects j o x.says),
      )
  | inr x ↦
      let i : ℕ = d.session in
      subst (λ (z : State). ((j : ℕ) → j ≢ i → SamePart s z j) × (z.store.origin ≡ s.store.origin) × (i ≢ 0 → z.cleaner ≡ s.cleaner) × ((j : ℕ) → j ≢ i → IsOpen s.store j → schema_of z.store ≡ schema_of s.store)) (sym x.left) (
        λ j n. record { open_is = refl; waiting = refl; seat = one_other s.seat_of i (record (s.seat_of i) { told_of_stop = true }) j n },
        refl,
        λ n. refl,
        λ j n o. refl,
      )
]

pub ghosted_law : GhostedLaw
ghosted_law = (
  λ s d after step j js p holds there. elim step.does [
    | inl x ↦ subst (λ (z : State). IsSome (get z.store.view p)) (sym x.left)
        (stay_there s.store d.session x.effects p (each_effect s d.session (Leaves p) (usual_leaves p) (λ o none. tt)
        (λ q c e. c.is.not_locked j js (subst (λ (r : Place). Holds (locks_of s.store j) Increment r.0 r.1) e holds)) d.act d.said x.effects x.says) there)
    | inr x ↦ subst (λ (z : State). IsSome (get z.store.view p)) (sym x.left) there
  ],
  λ s i after o there step. elim step.does [
    | inl x ↦
        let same : x.says.pays.first ≡ o.first = first_is (sym x.says.pays.owed_is ∙ owed_now s.store i o) in
        some_not_none (get s.store.view (place_of o.first)) there (ap (λ (d : GroupDelta). get s.store.view (place_of d)) (sym same) ∙ x.says.absent)
    | inr x ↦ absurd (cc)
  ],
  λ s i after o step. elim step.does [
    | inl x ↦
        let same : x.says.first ≡ o.first = first_is (sym x.says.owed_is ∙ owed_now s.store i o) in
        subst (λ (z : State). IsSome (get z.store.view (place_of o.first))) (sym x.left)
        (subst (λ (d : GroupDelta). IsSome (get (run the_views s.store i x.effects).view (place_of d))) same (elim x.says.effects [
          | inl m ↦ subst (λ es. IsSome (get (run the_views s.store i es).view (place_of x.says.first))) (sym m.1)
              (ap is_some (written_at s.store.view (place_of x.says.first) (Some (zeros (length (columns_of x.says.first)))) (place_of x.says.first) refl))
          | inr m ↦ subst (λ es. IsSome (get (run the_views s.store i es).view (place_of x.says.first))) (sym m.1) m.0
        ]))
    | inr x ↦ absurd (cc)
  ],
)
  where
    owed_now : (s : Store) (i : ℕ) (o : Owes s i) → (now s i).owed ≡ o.first ∷ o.others
    owed_now s i o = ap (λ (t : Open). t.owed) (now_is view_laws s i o.goes_on.transaction o.goes_on.is_open) ∙ o.owed_is

    first_is : {d e : GroupDelta} {ds es : List GroupDelta} → d ∷ ds ≡ e ∷ es → d ≡ e
    first_is e = cc
