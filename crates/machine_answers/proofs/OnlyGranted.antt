-- Acts that ask for locks have one answer where nobody is in the way.
use Rattle.std.specs.Prelude.{◌≡◌, ℕ, zero, suc, ◌+◌, ◌≤◌, ◌<◌, ℤ, List, [], ◌∷◌, ◌++◌, map, length, Option, Some, None, IsSome}
use Rattle.std.specs.List.{AllZip}
use Rattle.std.specs.FinMap.{get}
use mathlib.Core.Path.{refl, sym, ap, subst, ◌∙◌}
use mathlib.Core.Logic.{inl, inr}
use Rattle.std.proofs.Common.{arith}
use Rattle.iv_types.specs.declared.lock.GroupDelta.{GroupDelta}
use Rattle.iv_types.specs.declared.lock.LockMode.{LockMode}
use Rattle.iv_types.specs.declared.lock.Want.{Want}
use Rattle.iv_types.specs.declared.value.Interval.{Interval}
use Rattle.iv_types.specs.declared.value.Value.TheVariants.{Number}
use Rattle.iv_types.specs.declared.refusal.EngineRefusal.TheVariants as refusal
use Rattle.table_laws.specs.Place.{Place}
use Rattle.iv_meaning.specs.Schema.{Schema, Object, table, index, view, ViewTree, numbered, group_kinds}
use Rattle.iv_meaning.specs.Database.{Row, Database}
use Rattle.iv_meaning.specs.Escrow.{inf, sup}
use Rattle.txn_machine.specs.Acts as act
use Rattle.txn_machine.specs.Answers as answer
use Rattle.txn_machine.specs.Answers.{Answer}
use Rattle.txn_machine.specs.Deltas.{RowChange, place_of}
use Rattle.txn_machine.specs.Stored.{ViewRows, IsShown, first_numbers}
use Rattle.txn_machine.specs.Store.{schema_of, now, change_at, Effect, Takes, Notes, Writes, Pays}
use Rattle.txn_machine.specs.Ghosts.{account_of}
use Rattle.txn_machine.specs.Counts.{fetch_size, transaction_size, most_of_transaction, kept_change_size, most_of_history, told_need}
use Rattle.txn_machine.specs.Log.{Above, reserved}
use Rattle.txn_machine.specs.State.{State}
use Rattle.txn_machine.specs.Steps.{Says, asked, stored, FindsIn, Finds, FitsTransaction, FitsLog, FitsData, FitsHistory, note_of, put_owed, put_need, log_need, data_need, used_data, history_bytes, AllAllow, IsRefusedBy}
use Rattle.txn_machine.proofs.KeysApart.{keys_tell}
use Rattle.machine_answers.proofs.Choosing.{at_most_or_more}
use Rattle.machine_answers.proofs.Only.{IsChosen, IsPlain, Both, both_same, not_both}
use Rattle.machine_answers.proofs.OnlySimple.{same_first, not_there}

-- ---- one list of rows is found

zip_same : {X Y : Type 0} (P : X → Y → Type 0) → ((x : X) (y z : Y) → P x y → P x z → y ≡ z) → (xs : List X) (ys zs : List Y) → AllZip P xs ys → AllZip P xs zs → ys ≡ zs
zip_same P same [] [] [] h k = refl
zip_same P same [] (y ∷ ys) zs h k = absurd h
zip_same P same [] [] (z ∷ zs) h k = absurd k
zip_same P same (x ∷ xs) [] zs h k = absurd h
zip_same P same (x ∷ xs) (y ∷ ys) [] h k = absurd k
zip_same P same (x ∷ xs) (y ∷ ys) (z ∷ zs) h k = λ i. same x y z h.0 k.0 i ∷ zip_same P same xs ys zs h.1 k.1 i

shown_same : (objects : Schema) (v : ViewTree) (x : Place × List ℤ) (y z : Row) → IsShown objects v x y → IsShown objects v x z → y ≡ z
shown_same objects v x y z h k =
    let group : h.group ≡ k.group = keys_tell (group_kinds objects v) h.group k.group h.fits k.fits (h.key ∙ sym k.key) in
    h.row_is ∙ (ap (λ (g : Row). g ++ map Number (first_numbers (suc (length v.sums)) x.1)) group ∙ sym k.row_is)

found_same : (db : Database) (view_rows : ViewRows) (o : Option Object) (number : ℕ) (interval : Interval) (rows more : List Row) → FindsIn db view_rows o number interval rows → FindsIn db view_rows o number interval more → rows ≡ more
found_same db view_rows None number interval rows more h k = sym h ∙ k
found_same db view_rows (Some (table t)) number interval rows more h k = sym h ∙ k
found_same db view_rows (Some (index i)) number interval rows more h k = sym h ∙ k
found_same db view_rows (Some (view v)) number interval rows more h k = zip_same (IsShown db.schema v) (shown_same db.schema v) _ rows more h k

module _ (s : State) (session : ℕ) where
  -- ---- Fetch

  module _ (number : ℕ) (interval : Interval) (mode : LockMode) where
    abbrev need_of : List Row → ℕ
    need_of rows = fetch_size (schema_of s.store) number interval rows

    one_found : (rows more : List Row) → Finds s.store number interval rows → Finds s.store number interval more → rows ≡ more
    one_found rows more h k = found_same (stored s.store) s.store.view (numbered (schema_of s.store) number) number interval rows more h k

    abbrev pub FetchTest : ℕ → Type 0
    FetchTest n = (rows : List Row) × Finds s.store number interval rows × FitsTransaction s.store session (need_of rows)

    abbrev pub IsFetch : ℕ → Answer → List Effect → Type 0
    IsFetch zero said es = (rows : List Row) × Finds s.store number interval rows × Both (answer.Refused (refusal.TxnFull (transaction_size (schema_of s.store) (now s.store session)) (told_need (need_of rows)))) [] said es
    IsFetch (suc n) said es = (rows : List Row) × Finds s.store number interval rows
        × Both (answer.Rows rows) (Takes (asked s.store session (act.Fetch number interval mode)) ∷ Notes (note_of s.store session number interval rows) ∷ []) said es

    pub fetch_says : (said : Answer) (es : List Effect) → IsPlain said → Says s session (act.Fetch number interval mode) said es → IsChosen FetchTest 1 IsFetch said es
    fetch_says (answer.Blocked x) es of h = absurd of
    fetch_says (answer.Refused (refusal.Deadlock c)) es of h = absurd of
    fetch_says (answer.Refused refusal.NoMemory) es of h = absurd of
    fetch_says (answer.Rows rows) es of h = record {
      number = 1;
      most = omega arith;
      passed = (tt, (rows, h.found, h.room));
      failed = λ less. absurd (omega (arith, less));
      is = (rows, h.found, (refl, h.effects));
    }
    fetch_says (answer.Refused (refusal.TxnFull kept need)) es of h =
        let f = h.0.full in record {
          number = 0;
          most = omega arith;
          passed = tt;
          failed = λ less t.
              let kept_is : kept ≡ transaction_size (schema_of s.store) (now s.store session) = f.kept_is in
              let need_is : need_of h.0.rows ≡ need_of t.0 = ap need_of (one_found h.0.rows t.0 h.0.found t.1) in
              let full : most_of_transaction < kept + need_of h.0.rows = f.full in
              let fits : transaction_size (schema_of s.store) (now s.store session) + need_of t.0 ≤ most_of_transaction = t.2 in
              omega (arith, kept_is, need_is, full, fits);
          is = (h.0.rows, h.0.found, ((λ i. answer.Refused (refusal.TxnFull (f.kept_is i) (h.0.need_is i))), h.1));
        }
    fetch_says _ es of h = absurd h

    pub is_fetch : (n : ℕ) (one other : Answer) (es fs : List Effect) → IsFetch n one es → IsFetch n other fs → (one ≡ other) × (es ≡ fs)
    is_fetch zero one other es fs h k =
        let same : h.0 ≡ k.0 = one_found h.0 k.0 h.1 k.1 in
        (h.2.0 ∙ (ap (λ (rows : List Row). answer.Refused (refusal.TxnFull (transaction_size (schema_of s.store) (now s.store session)) (told_need (need_of rows)))) same ∙ sym k.2.0), h.2.1 ∙ sym k.2.1)
    is_fetch (suc n) one other es fs h k =
        let same : h.0 ≡ k.0 = one_found h.0 k.0 h.1 k.1 in (
          h.2.0 ∙ (ap answer.Rows same ∙ sym k.2.0),
          h.2.1 ∙ (ap (λ (rows : List Row). Takes (asked s.store session (act.Fetch number interval mode)) ∷ Notes (note_of s.store session number interval rows) ∷ []) same ∙ sym k.2.1),
        )

  -- ---- Put

  module _ (number : ℕ) (key : List ℕ) (new : Option Row) where
    abbrev change : RowChange
    change = change_at s.store (number, key) new

    abbrev pub PutTest : ℕ → Type 0
    PutTest zero = FitsTransaction s.store session (put_need s.store change)
    PutTest (suc zero) = FitsLog s (log_need s.store change)
    PutTest (suc (suc zero)) = FitsData s (data_need s.store change)
    PutTest (suc (suc (suc n))) = FitsHistory s (kept_change_size (schema_of s.store) change)

    abbrev pub IsPut : ℕ → Answer → List Effect → Type 0
    IsPut zero said es = Both (answer.Refused (refusal.TxnFull (transaction_size (schema_of s.store) (now s.store session)) (told_need (put_need s.store change)))) [] said es
    IsPut (suc zero) said es = Both (answer.Refused (refusal.LogFull s.log.used (reserved s.store s.log) (told_need (log_need s.store change)))) [] said es
    IsPut (suc (suc zero)) said es = Both (answer.Refused (refusal.DataFull (used_data s) (told_need (data_need s.store change)))) [] said es
    IsPut (suc (suc (suc zero))) said es = Both (answer.Refused (refusal.HistoryFull (history_bytes s) (told_need (kept_change_size (schema_of s.store) change)))) [] said es
    IsPut (suc (suc (suc (suc n)))) said es =
        Both (answer.Changed change.before (put_owed s.store change)) (Takes (asked s.store session (act.Put number key new)) ∷ Writes change.key change.after ∷ []) said es

    pub put_says : (said : Answer) (es : List Effect) → IsPlain said → Says s session (act.Put number key new) said es → IsChosen PutTest 4 IsPut said es
    put_says (answer.Blocked x) es of h = absurd of
    put_says (answer.Refused (refusal.Deadlock c)) es of h = absurd of
    put_says (answer.Refused refusal.NoMemory) es of h = absurd of
    put_says (answer.Changed before deltas) es of h = record {
      number = 4;
      most = omega arith;
      passed = ((((tt, h.room), h.log_room), h.data_room), h.history_room);
      failed = λ less. absurd (omega (arith, less));
      is = ((λ i. answer.Changed (h.before_is i) (h.owed_is i)), h.effects);
    }
    put_says (answer.Refused (refusal.TxnFull kept need)) es of h =
        let f = h.0.full in record {
          number = 0;
          most = omega arith;
          passed = tt;
          failed = λ less fits.
              let kept_is : kept ≡ transaction_size (schema_of s.store) (now s.store session) = f.kept_is in
              let full : most_of_transaction < kept + put_need s.store change = f.full in
              omega (arith, kept_is, full, fits);
          is = ((λ i. answer.Refused (refusal.TxnFull (f.kept_is i) (h.0.need_is i))), h.1);
        }
    put_says (answer.Refused (refusal.LogFull used reserved_bytes need)) es of h =
        let f = h.0.full in record {
          number = 1;
          most = omega arith;
          passed = (tt, h.0.room);
          failed = λ less fits. not_both s.opening.log_limit _ fits (subst (λ n. Above s.opening.log_limit n) (λ i. f.used_is i + f.reserved_is i + log_need s.store change) f.full);
          is = ((λ i. answer.Refused (refusal.LogFull (f.used_is i) (f.reserved_is i) (h.0.need_is i))), h.1);
        }
    put_says (answer.Refused (refusal.DataFull used need)) es of h =
        let f = h.0.full in record {
          number = 2;
          most = omega arith;
          passed = ((tt, h.0.room), h.0.log_room);
          failed = λ less fits. not_both s.opening.data_limit _ fits (subst (λ n. Above s.opening.data_limit n) (λ i. f.used_is i + data_need s.store change) f.full);
          is = ((λ i. answer.Refused (refusal.DataFull (f.used_is i) (h.0.need_is i))), h.1);
        }
    put_says (answer.Refused (refusal.HistoryFull kept need)) es of h =
        let f = h.0.full in record {
          number = 3;
          most = omega arith;
          passed = (((tt, h.0.room), h.0.log_room), h.0.data_room);
          failed = λ less fits.
              let full : most_of_history < kept + kept_change_size (schema_of s.store) change = f.full in
              let kept_is : kept ≡ history_bytes s = f.kept_is in
              omega (arith, fits, full, kept_is);
          is = ((λ i. answer.Refused (refusal.HistoryFull (f.kept_is i) (h.0.need_is i))), h.1);
        }
    put_says _ es of h = absurd h

    pub is_put : (n : ℕ) (one other : Answer) (es fs : List Effect) → IsPut n one es → IsPut n other fs → (one ≡ other) × (es ≡ fs)
    is_put zero one other es fs h k = both_same _ _ one other es fs h k
    is_put (suc zero) one other es fs h k = both_same _ _ one other es fs h k
    is_put (suc (suc zero)) one other es fs h k = both_same _ _ one other es fs h k
    is_put (suc (suc (suc zero))) one other es fs h k = both_same _ _ one other es fs h k
    is_put (suc (suc (suc (suc n)))) one other es fs h k = both_same _ _ one other es fs h k

  -- ---- Pay

  abbrev wants : List Want
  wants = asked s.store session act.Pay

  -- the first owed delta is this one, before these
  abbrev OwesFirst : GroupDelta → List GroupDelta → Type 0
  OwesFirst d ds = (now s.store session).owed ≡ d ∷ ds

  abbrev pub PayTest : ℕ → Type 0
  PayTest zero = (d : GroupDelta) × (ds : List GroupDelta) × OwesFirst d ds × IsSome (get s.store.view (place_of d))
  PayTest (suc n) = (d : GroupDelta) × (ds : List GroupDelta) × OwesFirst d ds × AllAllow s.store session d

  abbrev pub IsPay : ℕ → Answer → List Effect → Type 0
  IsPay zero said es = Both answer.NeedsGhost (Takes wants ∷ []) said es
  IsPay (suc zero) said es = (d : GroupDelta) × (ds : List GroupDelta) × OwesFirst d ds × (column : ℕ) × (low : ℤ) × (high : ℤ) × IsRefusedBy s.store session d column low high
      × Both (answer.Refused (refusal.Escrow column low high)) (Takes wants ∷ []) said es
  IsPay (suc (suc n)) said es = (d : GroupDelta) × (ds : List GroupDelta) × OwesFirst d ds × Both (answer.Paid (length ds)) (Takes wants ∷ Pays ∷ []) said es

  pub pay_says : (said : Answer) (es : List Effect) → IsPlain said → Says s session act.Pay said es → IsChosen PayTest 2 IsPay said es
  pay_says (answer.Blocked x) es of h = absurd of
  pay_says (answer.Refused (refusal.Deadlock c)) es of h = absurd of
  pay_says (answer.Refused refusal.NoMemory) es of h = absurd of
  pay_says answer.NeedsGhost es of h = record {
    number = 0;
    most = omega arith;
    passed = tt;
    failed = λ less t. not_there s session (get s.store.view (place_of t.0))
        (subst (λ (d : GroupDelta). get s.store.view (place_of d) ≡ None) (same_first s session h.pays.first t.0 h.pays.others t.1 h.pays.owed_is t.2).0 h.absent) t.3;
    is = (refl, h.effects);
  }
  pay_says (answer.Refused (refusal.Escrow column low high)) es of h = record {
    number = 1;
    most = omega arith;
    passed = (tt, (h.pays.first, h.pays.others, h.pays.owed_is, h.there));
    failed = λ less t.
        let same : t.0 ≡ h.pays.first = (same_first s session t.0 h.pays.first t.1 h.pays.others t.2 h.pays.owed_is).0 in
        h.refused.refuses (subst (λ (d : GroupDelta). AllAllow s.store session d) same t.3 column h.refused.is_column);
    is = (h.pays.first, h.pays.others, h.pays.owed_is, column, low, high, h.refused, (refl, h.effects));
  }
  pay_says (answer.Paid left) es of h = record {
    number = 2;
    most = omega arith;
    passed = ((tt, (h.pays.first, h.pays.others, h.pays.owed_is, h.there)), (h.pays.first, h.pays.others, h.pays.owed_is, h.allowed));
    failed = λ less. absurd (omega (arith, less));
    is = (h.pays.first, h.pays.others, h.pays.owed_is, (ap answer.Paid h.left_is, h.effects));
  }
  pay_says _ es of h = absurd h

  one_column : (d : GroupDelta) (a b : ℕ) (low high least most : ℤ) → IsRefusedBy s.store session d a low high → IsRefusedBy s.store session d b least most → a ≡ b
  one_column d a b low high least most h k = elim (at_most_or_more a b) [
    | inr less ↦ absurd (k.refuses (h.first b less))
    | inl up ↦ elim (at_most_or_more b a) [
      | inr less ↦ absurd (h.refuses (k.first a less))
      | inl down ↦ omega (arith, up, down)
    ]
  ]

  same_refusal : (d : GroupDelta) (a b : ℕ) (low high least most : ℤ) → IsRefusedBy s.store session d a low high → IsRefusedBy s.store session d b least most
      → answer.Refused (refusal.Escrow a low high) ≡ answer.Refused (refusal.Escrow b least most)
  same_refusal d a b low high least most h k =
      let column : a ≡ b = one_column d a b low high least most h k in
      let low_is : low ≡ least = h.low_is ∙ (ap (λ (c : ℕ). inf (account_of s.store (place_of d) c)) column ∙ sym k.low_is) in
      let high_is : high ≡ most = h.high_is ∙ (ap (λ (c : ℕ). sup (account_of s.store (place_of d) c)) column ∙ sym k.high_is) in
      λ i. answer.Refused (refusal.Escrow (column i) (low_is i) (high_is i))

  pub is_pay : (n : ℕ) (one other : Answer) (es fs : List Effect) → IsPay n one es → IsPay n other fs → (one ≡ other) × (es ≡ fs)
  is_pay zero one other es fs h k = both_same _ _ one other es fs h k
  is_pay (suc zero) one other es fs (d, ds, owes, column, low, high, refuses, is) (c, cs, owed, place, least, most, lacks, also) =
      let same : c ≡ d = (same_first s session c d cs ds owed owes).0 in
      (is.0 ∙ (same_refusal d column place low high least most refuses (subst (λ (x : GroupDelta). IsRefusedBy s.store session x place least most) same lacks) ∙ sym also.0), is.1 ∙ sym also.1)
  is_pay (suc (suc n)) one other es fs (d, ds, owes, is) (c, cs, owed, also) =
      let same : ds ≡ cs = (same_first s session d c ds cs owes owed).1 in
      (is.0 ∙ (ap (λ (l : List GroupDelta). answer.Paid (length l)) same ∙ sym also.0), is.1 ∙ sym also.1)
