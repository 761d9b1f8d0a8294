-- What the machine has of a session whose transaction is open in the core.
use Rattle.std.specs.Prelude.{◌≡◌, ◌≢◌, ℕ, false, List, [], ◌∷◌, length, reverse, Option, None, Some, refl}
use mathlib.Core.Path.{sym, ap, subst, ◌∙◌}
use Rattle.std.proofs.Common.{arith}
use Rattle.std.proofs.lemmas.List.{length-reverse}
use Rattle.iv_types.specs.declared.lock.GroupDelta.{GroupDelta}
use Rattle.iv_types.specs.declared.lock.LockMode.TheVariants.{Increment}
use Rattle.iv_types.specs.declared.statement.Mode.{Mode}
use Rattle.iv_types.specs.declared.statement.Mode.TheVariants.{Serial}
use Rattle.iv_meaning.specs.Escrow.{IsSession}
use Rattle.iv_meaning.specs.Schema.{Schema}
use Rattle.lock_manager.specs.Table as table
use Rattle.lock_manager.specs.Table.{Covers, HasSome}
use Rattle.txn_machine.specs.Acts as act
use Rattle.txn_machine.specs.Ghosts.{Holds}
use Rattle.txn_machine.specs.Keeping.{Open}
use Rattle.txn_machine.specs.Log.{Logged}
use Rattle.txn_machine.specs.May.{IsOpen, IsOpenIn, IsReady, MayAct, Owes}
use Rattle.txn_machine.specs.State.{State}
use Rattle.txn_machine.specs.Store.{schema_of, locks_of}
use Rattle.txn_book.specs.Holding.{IsSame, IsTxn}
use Rattle.txn_book.specs.Opens.{open_at}
use Rattle.txn_book.specs.Txns.{txn_of}
use Rattle.txn_book.specs.declared.open_table.Open.{Open as BookOpen}
use Rattle.ordered_index.specs.Tree.{Tree}
use Rattle.core_state.specs.declared.state.CoreState.{CoreState}
use Rattle.core_effects.proofs.Counted.{many_same}
use Rattle.core_cases.specs.Asking.{IsAt}

pub record IsThere (objects : Schema) (t : BookOpen) (m : Option Open) (l : Logged) : Type 0 where
  pub txn : Open
  pub is_open : m ≡ Some txn
  pub same : IsTxn objects (txn_of t) txn l

there_as : (objects : Schema) (o : Option BookOpen) (t : BookOpen) (m : Option Open) (l : Logged) → o ≡ Some t → IsSame objects o m l → IsThere objects t m l
there_as objects None t m l e h = absurd (cc)
there_as objects (Some b) t None l e h = absurd h
there_as objects (Some b) t (Some u) l e h = let same : b ≡ t = cc in record { txn = u; is_open = refl; same = subst (λ x. IsTxn objects (txn_of x) u l) same h }

none_as : (objects : Schema) (o : Option BookOpen) (m : Option Open) (l : Logged) → o ≡ None → IsSame objects o m l → m ≡ None
none_as objects None None l e h = refl
none_as objects None (Some u) l e h = absurd h
none_as objects (Some b) m l e h = absurd (cc)

pub record Parts {A : Type 0} (xs : List A) : Type 0 where
  pub first : A
  pub others : List A
  pub is : xs ≡ first ∷ others

parts : {A : Type 0} (xs : List A) → xs ≢ [] → Parts xs
parts [] some = absurd (some refl)
parts (x ∷ xs) some = record { first = x; others = xs; is = refl }

pub none_of : {A : Type 0} (xs : List A) → length xs ≡ 0 → xs ≡ []
none_of [] e = refl
none_of (x ∷ xs) e = absurd (omega (arith, e))

module _ (core : CoreState Tree) (s : State) (h : IsAt core s) (i : ℕ) (is : IsSession i) where
  pub closed : open_at core.book.opens i ≡ None → s.store.open_of i ≡ None
  closed none = none_as (schema_of s.store) (open_at core.book.opens i) (s.store.open_of i) (s.log.logged i) none (h.holds.book.txns i is)

  module _ (t : BookOpen) (there : open_at core.book.opens i ≡ Some t) where
    pub here : IsThere (schema_of s.store) t (s.store.open_of i) (s.log.logged i)
    here = there_as (schema_of s.store) (open_at core.book.opens i) t (s.store.open_of i) (s.log.logged i) there (h.holds.book.txns i is)

    pub opened : IsOpen s.store i
    opened = record { of_session = is; transaction = here.txn; is_open = here.is_open }

    pub opened_in : (mode : Mode) → t.mode ≡ mode → t.is_lost ≡ false → IsOpenIn s.store i mode
    opened_in mode e fine = record { of_session = is; transaction = here.txn; is_open = here.is_open; mode_is = sym here.same.mode ∙ e; not_lost = sym here.same.lost ∙ fine }

    pub ready : (mode : Mode) → t.mode ≡ mode → t.is_lost ≡ false → t.owed.items ≡ [] → IsReady s.store i mode
    unfolding opened_in here
    ready mode e fine none = record { goes_on = opened_in mode e fine; owes_nothing = sym here.same.owed ∙ ap reverse none }

    owed_parts : t.owed.items ≢ [] → Parts (reverse t.owed.items)
    owed_parts some = parts (reverse t.owed.items) (λ e. some (none_of t.owed.items (sym (length-reverse t.owed.items) ∙ ap length e)))

    pub owing : t.mode ≡ Serial → t.is_lost ≡ false → t.owed.items ≢ [] → t.back ≡ 0 → Owes s.store i
    unfolding opened_in here owed_parts
    owing e fine some none = record {
      goes_on = opened_in Serial e fine;
      first = (owed_parts some).first;
      others = (owed_parts some).others;
      owed_is = sym here.same.owed ∙ (owed_parts some).is;
      none_back = sym here.same.back ∙ none;
    }

    -- the lock of the first delta's group is held
    pub holding : (e : t.mode ≡ Serial) (fine : t.is_lost ≡ false) (some : t.owed.items ≢ []) (none : t.back ≡ 0) (x : GroupDelta) → ((d : GroupDelta) (ds : List GroupDelta) → reverse t.owed.items ≡ d ∷ ds → x ≡ d)
        → HasSome (Covers x.view x.group Increment) (table.locks_of core.locks i) → MayAct s.store i act.Ghost
    unfolding owing owed_parts opened_in here
    holding e fine some none x first held = (
      owing e fine some none,
      subst (λ (d : GroupDelta). Holds (locks_of s.store i) Increment d.view d.group) (first (owed_parts some).first (owed_parts some).others (owed_parts some).is)
          (record { lock = held.0; held = (h.holds.locks i is held.0).0 held.1; mode_is = held.2.has_mode; index_is = held.2.on_index; covers = held.2.has_key }),
    )

    kept_many : length t.kept.items ≡ length here.txn.kept
    kept_many = sym (length-reverse t.kept.items) ∙ many_same (txn_of t).kept here.txn.kept (s.log.logged i).kept here.same.kept

    pub keeping : t.kept.items ≢ [] → MayAct s.store i act.UndoOne
    unfolding opened here
    keeping some = (opened, λ none. some (none_of t.kept.items (kept_many ∙ ap length none)))

    pub keeping_none : t.kept.items ≡ [] → MayAct s.store i act.End
    unfolding opened here
    keeping_none none = (opened, none_of here.txn.kept (sym kept_many ∙ ap length none))
