-- What stood at each commit number: no view is refused there, so that a snapshot can read it.
use Rattle.std.specs.Prelude.{◌≡◌, ℕ, ◌+◌, ◌≤◌, nat_le, cond, true, filter, List, [], ◌∷◌, ◌++◌}
use mathlib.Core.Path.{refl, sym, ap, subst, ◌∙◌}
use mathlib.Core.Logic.{inl, inr}
use Rattle.std.proofs.Common.{arith}
use Rattle.std.proofs.lemmas.Bool.Decides.{leb_tells}
use Rattle.iv_types.specs.declared.statement.Mode.TheVariants.{Snapshot}
use Rattle.iv_types.specs.declared.lock.GroupDelta.{GroupDelta}
use Rattle.iv_meaning.specs.Database.{Database}
use Rattle.iv_meaning.specs.View.{read}
use Rattle.iv_meaning.specs.Statement.{Kept, sets, defines, keep, keep_all}
use Rattle.iv_meaning.specs.History.{Entry, fold, state_at}
use Rattle.txn_machine.specs.Acts as act
use Rattle.txn_machine.specs.Keeping.{KeptStep, Put, Pay, Open}
use Rattle.txn_machine.specs.Fresh.{fresh}
use Rattle.txn_machine.specs.Ghosts.{the_views}
use Rattle.txn_machine.specs.Store.{Store, committed, schema_of, now, paid_first, undone, entry_changes, Effect, Opens, Takes, Notes, Writes, Pays, Ghosts, Undoes, Loses, Ends, Commits, Defines, Cleans, Prunes, does, run}
use Rattle.txn_machine.specs.State.{State}
use Rattle.txn_machine.specs.May.{IsOpenIn, IsOpen}
use Rattle.txn_machine.specs.Steps.{Peeks, Step, Did, Run}
use Rattle.txn_machine.specs.ViewLaws.{AreSound}
use Rattle.txn_machine.specs.Laws.{AreInRange, IsReached, IsReadableAt, SnapshotReadableLaw, PeekLaw}
use Rattle.txn_machine.proofs.Entered.{IsHistoryOf, fold_push}
use Rattle.txn_machine.proofs.Runs.{CanAll, keeps, opened_good}
use Rattle.txn_machine.proofs.Stepping.{now_is, can_says, step_good}
use Rattle.txn_machine.proofs.Looking.{view_laws}
use Rattle.txn_machine.proofs.Refusing.{rows_there}
use Rattle.txn_machine.proofs.Telling.{Good', Can', state_at_push}
use Rattle.txn_machine.proofs.Moving.{may_of, numbers_rise, at_most}
use Rattle.txn_machine.proofs.Reached.{may_define, reached}
use Rattle.txn_machine.proofs.Fetching.{committed_huge}
use Rattle.txn_machine.proofs.Marks.{AreSets, ArePlain, AreAbove, rest_above, none_kept, snap_of}

-- ---- the state at a number

-- entries up to the number are all there
all_kept : (n : ℕ) (es : List Entry) (db : Database) → IsHistoryOf db es → (fold es db).number ≤ n → filter (λ (e : Entry). nat_le e.number n) es ≡ es
all_kept n [] db h l = refl
all_kept n (e ∷ es) db h l =
    let low : e.number ≤ (fold es (fold (e ∷ []) db)).number = (numbers_rise es (fold (e ∷ []) db) h.2).0 in
    ap (λ b. cond b (e ∷ filter (λ (x : Entry). nat_le x.number n) es) (filter (λ (x : Entry). nat_le x.number n) es)) (at_most e.number n (omega (arith, low, l)))
    ∙ ap (λ (l : List Entry). e ∷ l) (all_kept n es (fold (e ∷ []) db) h.2 l)

-- an entry up to the number is part of the state
kept_first : (n : ℕ) (e : Entry) (es : List Entry) (db : Database) → nat_le e.number n ≡ true → state_at db (e ∷ es) n ≡ state_at (fold (e ∷ []) db) es n
kept_first n e es db t = ap (λ b. fold (cond b (e ∷ filter (λ (x : Entry). nat_le x.number n) es) (filter (λ (x : Entry). nat_le x.number n) es)) db) t

number_kept : (n : ℕ) (es : List Entry) (db : Database) → IsHistoryOf db es → db.number ≤ n → n ≤ (fold es db).number → (state_at db es n).number ≡ n
number_kept n [] db h low high = omega (arith, low, high)
number_kept n (e ∷ es) db h low high = elim (leb_tells e.number n) [
  | inl t ↦ ap (λ (d : Database). d.number) (kept_first n e es db t.0) ∙ number_kept n es (fold (e ∷ []) db) h.2 t.1 high
  | inr f ↦
      let one : e.number ≡ db.number + 1 = h.0 in
      let later = f.1 in
      ap (λ (l : List Entry). (fold l db).number) (none_kept n (e ∷ es) (f.0, rest_above n es (fold (e ∷ []) db) later h.2)) ∙ omega (arith, low, one, later)
]

-- entries that define nothing leave the schema
sets_schema : (ks : List Kept) (db : Database) → AreSets ks → (keep_all ks db).schema ≡ db.schema
sets_schema [] db h = refl
sets_schema (sets c ∷ ks) db h = sets_schema ks (keep (sets c) db) h
sets_schema (defines o ∷ ks) db h = absurd h

above_schema : (n : ℕ) (es : List Entry) (db : Database) → AreAbove n es → ArePlain n es → (fold es db).schema ≡ db.schema
above_schema n [] db a h = refl
above_schema n (e ∷ es) db a h = above_schema n es (fold (e ∷ []) db) a.1 h.1 ∙ sets_schema e.kept db (h.0 a.0)

schema_kept : (n : ℕ) (es : List Entry) (db : Database) → IsHistoryOf db es → ArePlain n es → (state_at db es n).schema ≡ (fold es db).schema
schema_kept n [] db h a = refl
schema_kept n (e ∷ es) db h a = elim (leb_tells e.number n) [
  | inl t ↦ ap (λ (d : Database). d.schema) (kept_first n e es db t.0) ∙ schema_kept n es (fold (e ∷ []) db) h.2 a.1
  | inr f ↦
      let all : AreAbove n (e ∷ es) = (f.0, rest_above n es (fold (e ∷ []) db) f.1 h.2) in
      ap (λ (l : List Entry). (fold l db).schema) (none_kept n (e ∷ es) all) ∙ sym (above_schema n (e ∷ es) db all a)
]

-- ---- the state at every number is sound, with its numbers in range

abbrev IsRanged : Database → Type 0
IsRanged db = AreSound db.schema db.rows × AreInRange db.schema db.rows

abbrev AreRanged : Database → List Entry → Type 0
AreRanged origin es = (n : ℕ) → IsRanged (state_at origin es n)

ranged_now : (s : Store) → Good' s → IsRanged (committed s)
ranged_now s g = (g.sound, λ p column. committed_huge s g p column)

-- a new entry adds one state
ranged_push : (origin : Database) (es : List Entry) (e : Entry) → IsHistoryOf origin (es ++ e ∷ []) → IsRanged (fold (es ++ e ∷ []) origin) → AreRanged origin es → AreRanged origin (es ++ e ∷ [])
ranged_push origin es e h new was n = elim (leb_tells (fold (es ++ e ∷ []) origin).number n) [
  | inl t ↦ subst IsRanged (sym (ap (λ (l : List Entry). fold l origin) (all_kept n (es ++ e ∷ []) origin h t.1))) new
  | inr f ↦
      let later = f.1 in
      let last : (fold (es ++ e ∷ []) origin).number ≡ e.number = ap (λ (d : Database). d.number) (fold_push es e origin) in
      subst IsRanged (sym (state_at_push origin es e n (omega (arith, later, last)))) (was n)
]

abbrev Ranged : Store → Type 0
Ranged s = AreRanged s.origin s.history

pays_ranged : (s : Store) (i : ℕ) → Ranged s → (ds : List GroupDelta) → Ranged (paid_first s i (now s i) ds)
pays_ranged s i r [] = r
pays_ranged s i r (d ∷ ds) = r

undoes_ranged : (s : Store) (i : ℕ) → Ranged s → (ks : List KeptStep) → Ranged (undone s i (now s i) ks)
undoes_ranged s i r [] = r
undoes_ranged s i r (Put c ds ∷ ks) = r
undoes_ranged s i r (Pay d ∷ ks) = r

ranged_effect : (s : Store) (i : ℕ) (e : Effect) → Good' s → Can' s i e → Ranged s → Ranged (does the_views s i e)
ranged_effect s i (Opens mode) g can r = r
ranged_effect s i (Takes wants) g can r = r
ranged_effect s i (Notes n) g can r = r
ranged_effect s i (Writes p new) g can r = r
ranged_effect s i Pays g can r = pays_ranged s i r (now s i).owed
ranged_effect s i (Ghosts p n) g can r = r
ranged_effect s i Undoes g can r = undoes_ranged s i r (now s i).kept
ranged_effect s i Loses g can r = r
ranged_effect s i Ends g can r = r
ranged_effect s i Commits g can r =
    let good : Good' (does the_views s i Commits) = keeps the_views fresh view_laws s i Commits g can in
    ranged_push s.origin s.history (record { number = (committed s).number + 1; session = i; kept = entry_changes (now s i).kept }) good.history (ranged_now (does the_views s i Commits) good) r
ranged_effect s i (Defines o) g can r =
    let good : Good' (does the_views s i (Defines o)) = keeps the_views fresh view_laws s i (Defines o) g can in
    ranged_push s.origin s.history (record { number = (committed s).number + 1; session = i; kept = defines o ∷ [] }) good.history (ranged_now (does the_views s i (Defines o)) good) r
ranged_effect s i (Cleans p) g can r = r
ranged_effect s i Prunes g can r = r

ranged_run : (s : Store) (i : ℕ) (es : List Effect) → Good' s → CanAll the_views fresh view_laws s i es → Ranged s → Ranged (run the_views s i es)
ranged_run s i [] g can r = r
ranged_run s i (e ∷ es) g can r = ranged_run (does the_views s i e) i es (keeps the_views fresh view_laws s i e g can.0) can.1 (ranged_effect s i e g can.0 r)

ranged_step : (s : State) (d : Did) (after : State) → Good' s.store → Ranged s.store → Step s d.session d.act d.said after → Ranged after.store
ranged_step s d after g r step = elim step.does [
  | inl x ↦ subst (λ (z : State). Ranged z.store) (sym x.left)
      (ranged_run s.store d.session x.effects g (can_says view_laws may_define s d.session d.act d.said x.effects g (may_of s d.session d.act x.runs step.may.1) x.says) r)
  | inr x ↦ subst (λ (z : State). Ranged z.store) (sym x.left) r
]

ranged_steps : (s : State) (ds : List Did) (after : State) → Good' s.store → Ranged s.store → Run s ds after → Ranged after.store
ranged_steps s [] after g r steps = subst (λ (z : State). Ranged z.store) (sym steps) r
ranged_steps s (d ∷ ds) after g r steps = ranged_steps steps.0 ds after (step_good view_laws may_define s d.session d.act d.said steps.0 g steps.1) (ranged_step s d steps.0 g r steps.1) steps.2

ranged : (s : State) → IsReached s → Ranged s.store
ranged s r = ranged_steps _ r.steps s (opened_good the_views fresh view_laws r.db r.view r.was_opened.sound r.was_opened.rows r.was_opened.in_range)
    (λ n. (r.was_opened.sound, r.was_opened.in_range)) r.run

-- ---- no view is refused

readable_at : (s : State) → IsReached s → (n : ℕ) → s.store.origin.number ≤ n → n ≤ (committed s.store).number → IsReadableAt n (state_at s.store.origin s.store.history n)
readable_at s r n low high =
    let is : IsRanged (state_at s.store.origin s.store.history n) = ranged s r n in record {
      number_is = number_kept n s.store.history s.store.origin (reached s r).history low high;
      sound = is.0;
      in_range = is.1;
      views = λ m v of. rows_there (state_at s.store.origin s.store.history n) is.0 m v of is.1;
    }

readable_open : (s : State) → IsReached s → (i : ℕ) → (o : IsOpen s.store i) → o.transaction.mode ≡ Snapshot
    → IsReadableAt o.transaction.number (state_at s.store.origin s.store.history o.transaction.number) × ((state_at s.store.origin s.store.history o.transaction.number).schema ≡ schema_of s.store)
readable_open s r i o m =
    let snap = snap_of s r i o m in (
      readable_at s r o.transaction.number snap.since snap.below,
      schema_kept o.transaction.number s.store.history s.store.origin (reached s r).history snap.plain,
    )

pub snapshot_readable_law : SnapshotReadableLaw
snapshot_readable_law s r = (λ n low high. readable_at s r n low high, λ i o m. readable_open s r i o m)

-- ---- what a snapshot reads

abbrev opened_by : (s : Store) (i : ℕ) → IsOpenIn s i Snapshot → IsOpen s i
opened_by s i on = record { of_session = on.of_session; transaction = on.transaction; is_open = on.is_open }

pub peek_law : PeekLaw
peek_law s r i n interval = (
  λ rows after step. elim step.does [
    | inl x ↦
        let on : IsOpenIn s.store i Snapshot = (may_of s i (act.Peek n interval) x.runs step.may.1).0 in
        let found : Peeks s.store i n interval rows = x.says.0 in (
          opened_by s.store i on,
          on.mode_is,
          subst (λ (t : Open). read (state_at s.store.origin s.store.history t.number) n interval ≡ rows) (now_is view_laws s.store i on.transaction on.is_open) found,
          ap (λ (z : State). z.store) x.left ∙ ap (run the_views s.store i) x.says.1,
        )
    | inr x ↦ absurd (cc)
  ],
  λ runs on may.
      let found : Peeks s.store i n interval (read (state_at s.store.origin s.store.history (now s.store i).number) n interval) = refl in
      (_, _, record { may = (on.of_session.1, inr (on, may)); does = inl (record { runs = runs; effects = []; says = (found, refl); left = refl }) }),
)
