-- What a Put asks for.
use Rattle.std.specs.Prelude.{◌≡◌, ◌≢◌, ℕ, Option, Some, Result, Ok, Err, OnOk}
use mathlib.Core.Path.{sym, subst, ◌∙◌}
use Rattle.std.specs.FinMap.{get}
use Rattle.iv_types.specs.declared.catalog.TableDef.{TableDef}
use Rattle.iv_types.specs.declared.catalog.Definition.TheVariants.{Table}
use Rattle.iv_types.specs.Definitions as definitions
use Rattle.iv_meaning.specs.Database.{Row}
use Rattle.iv_meaning.specs.Schema.{Object, table, numbered}
use Rattle.iv_meaning.specs.Objects as objects
use Rattle.std.proofs.Common.{arith, inl, inr, ◌≤◌}
use Rattle.txn_machine.specs.Acts as machine
use Rattle.txn_machine.specs.May.{MayAct, MayAsk, MayPut, FitsUnder}
use Rattle.txn_machine.specs.State.{State}
use Rattle.txn_machine.specs.Store.{Store, schema_of}
use Rattle.txn_book.specs.Acts.{act_of}
use Rattle.txn_book.specs.declared.step.Act.{Act}
use Rattle.ordered_index.specs.Tree.{Tree}
use Rattle.data_store.proofs.Finding.{object_at}
use Rattle.core_state.specs.declared.state.CoreState.{CoreState}
use Rattle.core_cases.specs.Asking.{IsAt}

pub on_ok : {E A : Type 0} (r : Result A E) (P Q : Type 0) → (P → Q) → OnOk r P → OnOk r Q
on_ok (Ok a) P Q f p = f p
on_ok (Err e) P Q f p = tt

-- the catalog is that of the state
pub on_schema : (core : CoreState Tree) (s : State) (n : ℕ) (P : Option Object → Type 0) → IsAt core s → P (numbered (objects.schema_of core.store.catalog) n) → P (numbered (schema_of s.store) n)
on_schema core s n P h p = subst (λ o. P (numbered o n)) h.holds.stored.objects p

pub table_there : (core : CoreState Tree) (s : State) (n : ℕ) (t : TableDef) → IsAt core s → definitions.numbered core.store.catalog n ≡ Some (Table t) → numbered (schema_of s.store) n ≡ Some (table t)
table_there core s n t h e = on_schema core s n (λ o. o ≡ Some (table t)) h (object_at core.store.catalog n (Table t) e)

pub puts : (core : CoreState Tree) (s : State) (n : ℕ) (t : TableDef) (key : _) (new before : Option Row) → IsAt core s → definitions.numbered core.store.catalog n ≡ Some (Table t) → FitsUnder t key new → get s.store.rows (n, key) ≡ before → before ≢ new → MayPut s.store n key new
puts core s n t key new before h e fits there differ = record { of = t; table_is = table_there core s n t h e; fits = fits; changes = λ same. differ (sym there ∙ same) }

pub on_both : {E A : Type 0} (r : Result A E) (P Q R : Type 0) → (P → Q → R) → OnOk r P → OnOk r Q → OnOk r R
on_both (Ok a) P Q R f p q = f p q
on_both (Err e) P Q R f p q = tt

-- an act may be done that may be done by another name
pub acts : {E A : Type 0} (r : Result A E) (core : CoreState Tree) (session : ℕ) (a b : Act) → a ≡ b → OnOk r ((s : State) → IsAt core s → MayAct s.store session (act_of b))
    → OnOk r ((s : State) → IsAt core s → MayAct s.store session (act_of a))
acts r core session a b e h = subst (λ x. OnOk r ((s : State) → IsAt core s → MayAct s.store session (act_of x))) (sym e) h

-- who may do an act may ask for it
pub asks : (s : Store) (session : ℕ) (a : machine.Act) → MayAct s session a → MayAsk session a
asks s session (machine.Begin mode) m = m.0.1
asks s session machine.Defs m = m
asks s session (machine.Fetch number interval mode) m = m.0.goes_on.of_session.1
asks s session (machine.Peek number interval) m = m.0.of_session.1
asks s session (machine.Put number key new) m = m.0.goes_on.of_session.1
asks s session machine.Pay m = m.goes_on.of_session.1
asks s session machine.Ghost m = m.0.goes_on.of_session.1
asks s session machine.UndoOne m = m.0.of_session.1
asks s session machine.End m = m.0.of_session.1
asks s session machine.Commit (inl ready) = ready.goes_on.of_session.1
asks s session machine.Commit (inr ready) = ready.goes_on.of_session.1
asks s session (machine.Schema statement) m = m.0
asks s session machine.Clean m = omega (arith, m)
asks s session machine.Prune m = omega (arith, m)
asks s session machine.Checkpoint m = omega (arith, m)
asks s session machine.Cancel m = m
