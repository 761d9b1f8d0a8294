-- What a core holds where one session's transaction is another.
use Rattle.std.specs.Prelude.{◌≡◌, ℕ, List, Option, None, Some, refl}
use Rattle.std.specs.Option.{unwrap_or}
use mathlib.Core.Path.{sym, ap, subst}
use Rattle.iv_types.specs.Maps.{Map}
use Rattle.iv_meaning.specs.Schema.{Schema}
use Rattle.txn_machine.specs.Keeping.{Open, idle}
use Rattle.txn_machine.specs.Log.{Log, Logged}
use Rattle.txn_machine.specs.May.{IsOpen}
use Rattle.txn_machine.specs.Store.{Store, now, schema_of}
use Rattle.txn_book.specs.Opens.{open_at}
use Rattle.txn_book.specs.Txns.{Txn, txn_of}
use Rattle.txn_book.specs.Holding.{IsTxn, IsSame}
use Rattle.txn_book.specs.declared.open_table.Open.{Open as BookOpen}
use Rattle.core_state.specs.Stands.{Holds, Texts}
use Rattle.core_state.specs.declared.state.CoreState.{CoreState}

-- the book's transaction of a session
pub record Has (objects : Schema) (o : Option BookOpen) (t : Open) (l : Logged) : Type 0 where
  pub txn : BookOpen
  pub there : o ≡ Some txn
  pub is : IsTxn objects (txn_of txn) t l

has : (objects : Schema) (o : Option BookOpen) (m : Option Open) (t : Open) (l : Logged) → m ≡ Some t → IsSame objects o m l → Has objects o t l
has objects None None t l e h = absurd (cc)
has objects None (Some u) t l e h = absurd h
has objects (Some b) None t l e h = absurd h
has objects (Some b) (Some u) t l e h = let same : u ≡ t = cc in record { txn = b; there = refl; is = subst (λ x. IsTxn objects (txn_of b) x l) same h }

module _ {M : Type 0} (maps : M → ℕ → Map) (spare : M → ℕ → ℕ) (limit : M → Option ℕ) (core : CoreState M) (s : Store) (l : Log) (texts : Texts) (i : ℕ) (h : Holds maps spare limit core s l texts) (o : IsOpen s i) where
  pub own : Has (schema_of s) (open_at core.book.opens i) (now s i) (l.logged i)
  own =
      let here : Has (schema_of s) (open_at core.book.opens i) o.transaction (l.logged i) = has (schema_of s) (open_at core.book.opens i) (s.open_of i) o.transaction (l.logged i) o.is_open (h.book.txns i o.of_session) in
      subst (λ t. Has (schema_of s) (open_at core.book.opens i) t (l.logged i)) (sym (ap (λ x. unwrap_or x idle) o.is_open)) here

-- a transaction with other locks is the same to the book
pub locked_is : (objects : Schema) (t : Txn) (o p : Open) (l : Logged) → p.mode ≡ o.mode → p.number ≡ o.number → p.kept ≡ o.kept → p.owed ≡ o.owed → p.back ≡ o.back → p.is_lost ≡ o.is_lost → p.notes ≡ o.notes → IsTxn objects t o l → IsTxn objects t p l
locked_is objects t o p l mode number kept owed back lost notes is =
    subst (λ x. IsTxn objects t x l) (λ i. record { mode = sym mode i; number = sym number i; locks = p.locks; notes = sym notes i; kept = sym kept i; owed = sym owed i; back = sym back i; is_lost = sym lost i })
    (record { mode = is.mode; number = is.number; id = is.id; kept = is.kept; owed = is.owed; back = is.back; ghosted = is.ghosted; lost = is.lost; wrote = is.wrote; txn_bytes = is.txn_bytes; history_bytes = is.history_bytes; counted = is.counted })
