-- Each effect keeps what an engine remembers sound: whatever a crash may leave of it is right.
use Rattle.std.specs.Prelude.{◌≡◌, ◌⊎◌, ℕ, zero, suc, ◌+◌, ◌≤◌, Bool, true, false, List, [], ◌∷◌, ◌++◌, drop}
use mathlib.Core.Path.{refl, sym, ap, subst, ◌∙◌}
use mathlib.Core.Logic.{inl, inr}
use Rattle.std.proofs.Common.{arith}
use Rattle.std.specs.FinMap.{get}
use Rattle.iv_types.specs.declared.lock.GroupDelta.{GroupDelta}
use Rattle.iv_types.specs.declared.statement.Mode.{Mode}
use Rattle.iv_types.specs.declared.statement.Mode.TheVariants.{Serial, Snapshot}
use Rattle.table_laws.specs.Place.{Place}
use Rattle.table_laws.specs.Kept.{Touches, redo}
use Rattle.table_laws.proofs.Tables.{same_table}
use Rattle.table_laws.proofs.Place.{place_cmp_total, place_cmp-IsAntisymmetric}
use Rattle.iv_meaning.specs.Database.{Rows, Database}
use Rattle.iv_meaning.specs.Statement.{defines}
use Rattle.iv_meaning.specs.Escrow.{IsSession}
use Rattle.iv_meaning.specs.History.{Entry, state_at}
use Rattle.txn_machine.specs.Acts.{Act}
use Rattle.txn_machine.specs.Keeping.{KeptStep, Put, Pay}
use Rattle.txn_machine.specs.Fresh.{fresh}
use Rattle.txn_machine.specs.Store.{Store, opened, committed, schema_of, now, changes_by, entry_changes, paid_first, undone, Effect, Opens, Takes, Notes, Writes, Pays, Ghosts, Undoes, Loses, Ends, Commits, Defines, Cleans, Prunes, does}
use Rattle.txn_machine.specs.Ghosts.{the_views}
use Rattle.txn_machine.specs.Steps.{stored}
use Rattle.txn_machine.specs.Laws.{IsOpened}
use Rattle.txn_machine.proofs.Looking.{view_laws}
use Rattle.txn_machine.proofs.Runs.{Can, keeps, committed_after, defined, opened_good}
use Rattle.txn_machine.proofs.Telling.{state_at_push}
use Rattle.txn_machine.proofs.Reached.{Holds'}
use Rattle.txn_machine.proofs.Shapes.{Stored', each_stored}
use Rattle.txn_log.specs.Replay.{Reading, Deed, Event, Pages, own, carried_rows}
use Rattle.txn_log.specs.Fitting.{DoNumbersFall, CarriedBelow, IsKnown}
use Rattle.txn_log.specs.Moments.{Txn, AreCarried, pages_now}
use Rattle.txn_log.proofs.Memory.{no_txn, Memory, reading_of, set_txn, pays, undoes, aborts, begins, remembers, HasNumber, Recovers}
use Rattle.txn_log.proofs.Finding.{by_number}
use Rattle.txn_log.proofs.Owning.{IsKept, kept_weaker, own_this, own_other}
use Rattle.txn_log.proofs.Reversing.{by_owner, changes_of}
use Rattle.txn_log.proofs.Backing.{carried_agree}
use Rattle.txn_log.proofs.Meaning.{row_all_carried}
use Rattle.txn_log.proofs.Tying.{same_changes, Tied, right_now, whats_of, AllWhats, of_each}
use Rattle.txn_log.proofs.KeptTied.{tied_does}
use Rattle.txn_log.proofs.KeptKnown.{AllKept, kept_does}
use Rattle.txn_log.proofs.Numbering.{IsNumbered, OpenFor, has_number, numbered_does, finds}

-- ---- cuts

abbrev pub EachCut : (List Event → Type 0) → List Event → Type 0
EachCut P [] = P []
EachCut P (r ∷ rs) = P (r ∷ rs) × EachCut P rs

pub cut_at : (P : List Event → Type 0) (rs : List Event) → EachCut P rs → (k : ℕ) → P (drop k rs)
cut_at P [] h zero = h
cut_at P [] h (suc k) = h
cut_at P (r ∷ rs) h zero = h.0
cut_at P (r ∷ rs) h (suc k) = cut_at P rs h.1 k

each_weaker : (P Q : List Event → Type 0) (rs : List Event) → ((xs : List Event) → P xs → Q xs) → EachCut P rs → EachCut Q rs
each_weaker P Q [] f h = f [] h
each_weaker P Q (r ∷ rs) f h = (f (r ∷ rs) h.0, each_weaker P Q rs f h.1)

-- ---- an effect appends a record or none

pub record Appends (l after : Memory) : Type 0 where
  pub pages : after.pages ≡ l.pages
  pub carried : after.carried ≡ l.carried
  pub flushed : after.flushed ≡ l.flushed
  pub acknowledged : after.acknowledged ≡ l.acknowledged
  pub waiting : (after.waiting ≡ l.waiting) ⊎ ((r : Event) × (after.waiting ≡ r ∷ l.waiting))

none_more : (l after : Memory) → after.pages ≡ l.pages → after.carried ≡ l.carried → after.flushed ≡ l.flushed → after.acknowledged ≡ l.acknowledged
    → after.waiting ≡ l.waiting → Appends l after
none_more l after p c f a w = record { pages = p; carried = c; flushed = f; acknowledged = a; waiting = inl w }

one_more : (l after : Memory) (r : Event) → after.pages ≡ l.pages → after.carried ≡ l.carried → after.flushed ≡ l.flushed → after.acknowledged ≡ l.acknowledged
    → after.waiting ≡ r ∷ l.waiting → Appends l after
one_more l after r p c f a w = record { pages = p; carried = c; flushed = f; acknowledged = a; waiting = inr (r, w) }

begins_appends : (l : Memory) (i : ℕ) (mode : Mode) → Appends l (begins l i mode)
begins_appends l i Serial = none_more l _ refl refl refl refl refl
begins_appends l i Snapshot = none_more l _ refl refl refl refl refl

pays_appends : (l : Memory) (i : ℕ) (owed : List GroupDelta) → Appends l (pays l i owed)
pays_appends l i [] = none_more l _ refl refl refl refl refl
pays_appends l i (d ∷ ds) = one_more l _ _ refl refl refl refl refl

undoes_appends : (l : Memory) (i : ℕ) (xs : List Deed) → Appends l (undoes l i xs)
undoes_appends l i [] = none_more l _ refl refl refl refl refl
undoes_appends l i (x ∷ xs) = one_more l _ _ refl refl refl refl refl

ends_appends : (l : Memory) (i : ℕ) (t : Txn) (n : ℕ) (wrote : Bool) → Appends l (set_txn (aborts l n wrote) i t)
ends_appends l i t n true = one_more l _ _ refl refl refl refl refl
ends_appends l i t n false = none_more l _ refl refl refl refl refl

appends : (s : Store) (l : Memory) (i : ℕ) (e : Effect) → Appends l (remembers s i e l)
appends s l i (Opens mode) = begins_appends l i mode
appends s l i (Takes wants) = none_more l _ refl refl refl refl refl
appends s l i (Notes n) = none_more l _ refl refl refl refl refl
appends s l i (Writes place new) = one_more l _ _ refl refl refl refl refl
appends s l i Pays = pays_appends l i (now s i).owed
appends s l i (Ghosts p n) = one_more l _ _ refl refl refl refl refl
appends s l i Undoes = undoes_appends l i (l.txn_of i).kept
appends s l i Loses = none_more l _ refl refl refl refl refl
appends s l i Ends = ends_appends l i _ (l.txn_of i).id (l.txn_of i).wrote
appends s l i Commits = one_more l _ _ refl refl refl refl refl
appends s l i (Defines o) = one_more l _ _ refl refl refl refl refl
appends s l i (Cleans p) = one_more l _ _ refl refl refl refl refl
appends s l i Prunes = none_more l _ refl refl refl refl refl

-- ---- an effect leaves what was committed

pub record Grows (s after : Store) : Type 0 where
  pub states : (n : ℕ) → n ≤ (committed s).number → state_at after.origin after.history n ≡ state_at s.origin s.history n
  pub more : (committed s).number ≤ (committed after).number

grows_paid : (s : Store) (i : ℕ) (owed : List GroupDelta) → Grows s (paid_first s i (now s i) owed)
grows_paid s i [] = record { states = λ n h. refl; more = omega arith }
grows_paid s i (d ∷ ds) = record { states = λ n h. refl; more = omega arith }

grows_undone : (s : Store) (i : ℕ) (ks : List KeptStep) → Grows s (undone s i (now s i) ks)
grows_undone s i [] = record { states = λ n h. refl; more = omega arith }
grows_undone s i (Put c ds ∷ ks) = record { states = λ n h. refl; more = omega arith }
grows_undone s i (Pay d ∷ ks) = record { states = λ n h. refl; more = omega arith }

pub grows : (s : Store) (i : ℕ) (e : Effect) → Grows s (does the_views s i e)
grows s i (Opens mode) = record { states = λ n h. refl; more = omega arith }
grows s i (Takes wants) = record { states = λ n h. refl; more = omega arith }
grows s i (Notes n) = record { states = λ n h. refl; more = omega arith }
grows s i (Writes place new) = record { states = λ n h. refl; more = omega arith }
grows s i Pays = grows_paid s i (now s i).owed
grows s i (Ghosts p n) = record { states = λ n h. refl; more = omega arith }
grows s i Undoes = grows_undone s i (now s i).kept
grows s i Loses = record { states = λ n h. refl; more = omega arith }
grows s i Ends = record { states = λ n h. refl; more = omega arith }
grows s i Commits =
    let e : Entry = record { number = (committed s).number + 1; session = i; kept = entry_changes (now s i).kept } in
    let number = ap (λ (d : Database). d.number) (committed_after the_views fresh view_laws s i) in
    record { states = λ n h. state_at_push s.origin s.history e n (omega arith); more = omega (arith, number) }
grows s i (Defines o) =
    let e : Entry = record { number = (committed s).number + 1; session = i; kept = defines o ∷ [] } in
    let number = ap (λ (d : Database). d.number) (defined the_views fresh view_laws s i o) in
    record { states = λ n h. state_at_push s.origin s.history e n (omega arith); more = omega (arith, number) }
grows s i (Cleans p) = record { states = λ n h. refl; more = omega arith }
grows s i Prunes = record { states = λ n h. refl; more = omega arith }

still_right : (s after : Store) (i : Reading) (a : ℕ) → Grows s after → Recovers s i a → Recovers after i a
still_right s after i a g is = record {
  fits = is.fits;
  db = is.db ∙ sym (g.states _ is.not_more);
  has_all = is.has_all;
  not_more = (let m = g.more in let n = is.not_more in omega arith);
  opens = is.opens;
}

-- ---- sound states

pub record IsSound (s : Store) (l : Memory) : Type 0 where
  pub good : Holds' s
  pub shape : Stored' s
  pub kept : AllKept s
  pub tied : Tied s l
  pub numbered : IsNumbered s l
  pub has_all : l.acknowledged ≤ (committed s).number
  pub cuts : EachCut (λ rs. Recovers s (reading_of l rs) l.acknowledged) l.waiting

-- the same cuts, after an effect
same_cuts : (s after : Store) (l m : Memory) → Appends l m → Grows s after → EachCut (λ rs. Recovers s (reading_of l rs) l.acknowledged) l.waiting
    → EachCut (λ rs. Recovers after (reading_of m rs) m.acknowledged) l.waiting
same_cuts s after l m app g h =
    let image_is : (rs : List Event) → reading_of l rs ≡ reading_of m rs =
    λ rs x. record { pages = sym app.pages x; carried = sym app.carried x; after = rs ++ sym app.flushed x } in
    each_weaker (λ rs. Recovers s (reading_of l rs) l.acknowledged) (λ rs. Recovers after (reading_of m rs) m.acknowledged) l.waiting
    (λ rs is. subst (λ a. Recovers after (reading_of m rs) a) (sym app.acknowledged)
    (subst (λ i. Recovers after i l.acknowledged) (image_is rs) (still_right s after (reading_of l rs) l.acknowledged g is))) h

pub sound_effect : (s : Store) (l : Memory) (i : ℕ) (a : Act) (e : Effect) → IsSound s l → Can the_views fresh view_laws s i e → OpenFor s i a e
    → IsSound (does the_views s i e) (remembers s i e l)
sound_effect s l i a e is can found =
    let has : HasNumber e (l.txn_of i) = has_number s l i a e can is.tied is.numbered found in
    let after : Store = does the_views s i e in
    let m : Memory = remembers s i e l in
    let app : Appends l m = appends s l i e in
    let g : Grows s after = grows s i e in
    let good : Holds' after = keeps the_views fresh view_laws s i e is.good can in
    let shape : Stored' after = each_stored s i e is.good can is.shape in
    let tied : Tied after m = tied_does s l i e is.good is.shape good is.tied can has (finds s i a e is.good found) in
    let acknowledged : m.acknowledged ≡ l.acknowledged = app.acknowledged in
    let had : l.acknowledged ≤ (committed s).number = is.has_all in
    let more : (committed s).number ≤ (committed after).number = g.more in
    let has_now : m.acknowledged ≤ (committed after).number = omega arith in
    let now_is : Recovers after (reading_of m m.waiting) m.acknowledged = right_now after m good shape tied has_now in
    let old : EachCut (λ rs. Recovers after (reading_of m rs) m.acknowledged) l.waiting = same_cuts s after l m app g is.cuts in record {
      good = good;
      shape = shape;
      kept = kept_does s i e is.good can (finds s i a e is.good found) is.kept;
      tied = tied;
      numbered = numbered_does s l i a e can is.numbered found;
      has_all = has_now;
      cuts = elim app.waiting [
        | inl w ↦ subst (EachCut (λ rs. Recovers after (reading_of m rs) m.acknowledged)) (sym w) old
        | inr w ↦ subst (EachCut (λ rs. Recovers after (reading_of m rs) m.acknowledged)) (sym w.1)
            (subst (λ rs. Recovers after (reading_of m rs) m.acknowledged) w.1 now_is, old)
      ];
    }

-- ---- a flush, an acknowledgment and a checkpoint

pub sound_flush : (s : Store) (l : Memory) → IsSound s l → IsSound s (record l { flushed = l.waiting ++ l.flushed; waiting = [] })
sound_flush s l is = record {
  good = is.good;
  shape = is.shape;
  kept = is.kept;
  numbered = is.numbered;
  tied = record {
    carried = is.tied.carried;
    apart = is.tied.apart;
    clear = record { ours = is.tied.clear.ours; new = is.tied.clear.new };
    whats = is.tied.whats;
    db = is.tied.db;
    view = is.tied.view;
    fits = is.tied.fits;
    known = is.tied.known;
    fall = is.tied.fall;
    below = is.tied.below;
  };
  has_all = is.has_all;
  cuts = right_now s l is.good is.shape is.tied is.has_all;
}

pub sound_acknowledge : (s : Store) (l : Memory) → l.waiting ≡ [] → IsSound s l → IsSound s (record l { acknowledged = (committed s).number })
sound_acknowledge s l none is =
    let m : Memory = record l { acknowledged = (committed s).number } in
    let tied : Tied s m = record {
      carried = is.tied.carried;
      apart = is.tied.apart;
      clear = record { ours = is.tied.clear.ours; new = is.tied.clear.new };
      whats = is.tied.whats;
      db = is.tied.db;
      view = is.tied.view;
      fits = is.tied.fits;
      known = is.tied.known;
      fall = is.tied.fall;
      below = is.tied.below;
    } in
    let now_is : Recovers s (reading_of m l.waiting) (committed s).number = right_now s m is.good is.shape tied (omega arith) in record {
      good = is.good;
      shape = is.shape;
      kept = is.kept;
      tied = tied;
      numbered = is.numbered;
      has_all = omega arith;
      cuts = subst (EachCut (λ rs. Recovers s (reading_of m rs) (committed s).number)) (sym none)
          (subst (λ rs. Recovers s (reading_of m rs) (committed s).number) none now_is);
    }

low_kept : (t n : ℕ) (xs : List Deed) → IsKept t n xs → CarriedBelow n xs
low_kept t n [] h = tt
low_kept t n (x ∷ xs) h = (h.1, low_kept t n xs (kept_weaker t x.number n xs (let l = h.1 in omega arith) h.2))

low_owned : (n : ℕ) (xs : List Deed) → ((t : ℕ) → CarriedBelow n (own t xs)) → CarriedBelow n xs
low_owned n [] h = tt
low_owned n (x ∷ xs) h = (
  (subst (CarriedBelow n) (own_this x.transaction x xs refl) (h x.transaction)).0,
  low_owned n xs (λ t. by_number x.transaction t
      (λ e. (subst (CarriedBelow n) (own_this t x xs e) (h t)).1)
      (λ d. subst (CarriedBelow n) (own_other t x xs d) (h t))),
)

-- the numbers of what is carried are below the next
carried_below : (s : Store) (l : Memory) (xs : List Deed) → AreCarried l.txn_of xs → Tied s l → CarriedBelow l.next xs
carried_below s l xs are t = low_owned l.next xs (λ j. by_owner (λ i. (l.txn_of i).id) j 64
    (λ i is e. subst (λ a. CarriedBelow l.next (own a xs)) e
    (subst (CarriedBelow l.next) (sym (are.each i is)) (low_kept (l.txn_of i).id l.next (l.txn_of i).kept (t.apart.kept i is))))
    (λ none. subst (CarriedBelow l.next) (sym (are.others j none)) tt))

-- what is carried of a row is what is stored
carried_there : (s : Store) (l : Memory) → Holds' s → Tied s l → (xs : List Deed) → AreCarried l.txn_of xs
    → (q : Place) (j : ℕ) → Touches q (changes_of (own j xs)) → get s.rows q ≡ get (redo (changes_of (own j xs)) (committed s).rows) q
carried_there s l g t xs are q j u =
    let own_is : (i : ℕ) → IsSession i → changes_of (own (l.txn_of i).id xs) ≡ changes_by s i = λ i is. ap changes_of (are.each i is) ∙ same_changes s l g t i is in
    by_owner (λ i. (l.txn_of i).id) j 64
    (λ i is e.
    g.stored.own i q is (subst (Touches q) (own_is i is) (subst (λ a. Touches q (changes_of (own a xs))) (sym e) u))
    ∙ (ap (λ cs. get (redo cs (committed s).rows) q) (sym (own_is i is)) ∙ ap (λ a. get (redo (changes_of (own a xs)) (committed s).rows) q) e))
    (λ none. absurd (subst (λ ys. Touches q (changes_of ys)) (are.others j none) u))

-- so what is carried leaves the rows
carried_rows_same : (s : Store) (l : Memory) → Holds' s → Tied s l → (xs : List Deed) → AreCarried l.txn_of xs → carried_rows xs s.rows ≡ s.rows
carried_rows_same s l g t xs are = same_table place_cmp_total place_cmp-IsAntisymmetric (carried_rows xs s.rows) s.rows (λ q.
    row_all_carried xs s.rows q ∙ carried_agree (committed s).rows xs q (get s.rows q) (carried_there s l g t xs are q))

pub sound_checkpoint : (s : Store) (l : Memory) (xs : List Deed) → AreCarried l.txn_of xs → DoNumbersFall xs → IsSound s l
    → IsSound s (record l { pages = pages_now s; carried = xs; flushed = []; waiting = [] })
sound_checkpoint s l xs are fall is =
    let m : Memory = record l { pages = pages_now s; carried = xs; flushed = []; waiting = [] } in
    let tied : Tied s m = record {
      carried = are;
      apart = is.tied.apart;
      clear = record { ours = λ i k at n h. refl; new = λ t h n g. refl };
      whats = is.tied.whats;
      db = ap (λ (m : Rows). record (stored s) { rows = m }) (carried_rows_same s l is.good is.tied xs are);
      view = refl;
      fits = tt;
      known = of_each (IsKnown (schema_of s)) xs (λ j. by_owner (λ i. (l.txn_of i).id) j 64
          (λ i k e. subst (λ a. AllWhats (IsKnown (schema_of s)) (whats_of (own a xs))) e
          (subst (AllWhats (IsKnown (schema_of s))) (sym (ap whats_of (are.each i k) ∙ is.tied.whats i k)) (is.kept i k)))
          (λ none. subst (λ ys. AllWhats (IsKnown (schema_of s)) (whats_of ys)) (sym (are.others j none)) tt));
      fall = fall;
      below = carried_below s l xs are is.tied;
    } in record {
      good = is.good;
      shape = is.shape;
      kept = is.kept;
      tied = tied;
      numbered = is.numbered;
      has_all = is.has_all;
      cuts = right_now s m is.good is.shape tied is.has_all;
    }

-- ---- the opened state

abbrev pub opened_memory : ℕ → Pages → Memory
opened_memory next p = record { txn_of = λ session. no_txn; begun = 0; next = next; pages = p; carried = []; flushed = []; waiting = []; acknowledged = p.db.number }

pub sound_opened : (next : ℕ) (p : Pages) → IsOpened p.db p.view → IsSound (opened p.db p.view) (opened_memory next p)
sound_opened next p was =
    let s : Store = opened p.db p.view in
    let l : Memory = opened_memory next p in
    let good : Holds' s = opened_good the_views fresh view_laws p.db p.view was.sound was.rows was.in_range in
    let tied : Tied s l = record {
      carried = record { each = λ i k. refl; of_none = refl; others = λ t none. refl };
      apart = record { in_range = λ i k. omega arith; apart = λ i j k h d at. absurd (omega arith); kept = λ i k. tt };
      clear = record { ours = λ i k at n h. refl; new = λ t h n g. refl };
      whats = λ i k. refl;
      db = refl;
      view = refl;
      fits = tt;
      known = tt;
      fall = tt;
      below = tt;
    } in
    record {
      good = good;
      shape = was.stored;
      kept = λ i k. tt;
      tied = tied;
      numbered = λ i k. (refl, refl);
      has_all = omega arith;
      cuts = right_now s l good was.stored tied (omega arith);
    }
