-- The accounts of a view row's columns, as the stored rows have them.
use Rattle.std.specs.Prelude.{◌≡◌, ℕ, ℤ, cond, true, false, Bool, List, [], ◌∷◌, map, refl}
use mathlib.Core.Path.{sym, ap, subst, ◌∙◌}
use Rattle.iv_types.specs.declared.lock.GroupDelta.{GroupDelta}
use Rattle.table_laws.specs.Place.{Place}
use Rattle.iv_meaning.specs.Escrow.{IsAllowed, inf, sup, value}
use Rattle.ghost_rows.specs.Kept as ghost
use Rattle.ghost_rows.specs.Kept.{width}
use Rattle.txn_machine.specs.Deltas.{place_of, is_for, worth}
use Rattle.txn_machine.specs.Fresh.{fresh}
use Rattle.txn_machine.specs.Ghosts.{account_of}
use Rattle.txn_machine.specs.Keeping.{KeptStep, Put, Pay, increments}
use Rattle.txn_machine.specs.Steps.{AllAllow, IsRefusedBy}
use Rattle.txn_machine.specs.Store.{Store, now, schema_of, committed}
use Rattle.data_store.specs.Contents.{Contents, pays_on}
use Rattle.data_changes.specs.Paying.{AreCommittedAt, IsRefusedWith}
use Rattle.ghost_rows.specs.declared.view_rows.PayRefusal.TheVariants.{Escrow}

-- the increments of a column are what its pays add
pub increments_as : (place : Place) (column : ℕ) (ks : List KeptStep) → map (worth column) (pays_on place ks) ≡ increments place column ks
increments_as place column [] = refl
increments_as place column (Put c ds ∷ ks) = increments_as place column ks
increments_as place column (Pay d ∷ ks) = by (is_for place d) (increments_as place column ks)
  where
    by : (b : Bool) → map (worth column) (pays_on place ks) ≡ increments place column ks → map (worth column) (cond b (d ∷ pays_on place ks) (pays_on place ks)) ≡ cond b (worth column d ∷ increments place column ks) (increments place column ks)
    by true rest = ap (λ xs. worth column d ∷ xs) rest
    by false rest = rest

-- the numbers that are committed
abbrev pub fresh_at : Store → Place → ℕ → ℤ
fresh_at s place column = fresh (schema_of s) (committed s).rows place column

-- the contents keep what a store's sessions keep
module _ (s : Store) (c : Contents) (kept : (j : ℕ) → c.kept j ≡ (now s j).kept) (view : c.view ≡ s.view) where
  pub account_as : (place : Place) (column : ℕ) → ghost.account (fresh_at s place column) column (λ j. pays_on place (c.kept j)) ≡ account_of s place column
  account_as place column = λ x. record { committed = fresh_at s place column; kept = λ j. (ap (λ ks. map (worth column) (pays_on place ks)) (kept j) ∙ increments_as place column (now s j).kept) x }

  module _ (d : GroupDelta) where
    pub committed_here : ((column : ℕ) → Rattle.txn_machine.specs.Stored.stored_number s.view (place_of d) column ≡ value (account_of s (place_of d) column)) → AreCommittedAt c d (fresh_at s (place_of d))
    committed_here law at lt = ap value (account_as (place_of d) at) ∙ (sym (law at) ∙ ap (λ v. Rattle.txn_machine.specs.Stored.stored_number v (place_of d) at) (sym view))

    pub all_allow : (i : ℕ) → ghost.IsAllowedIn (fresh_at s (place_of d)) (λ j. pays_on (place_of d) (c.kept j)) i d (width d) → AllAllow s i d
    all_allow i allowed column lt = subst (λ a. IsAllowed a i (worth column d)) (account_as (place_of d) column) (allowed column lt)

    pub refused_by : (i column : ℕ) (low high : ℤ) → IsRefusedWith c i d (fresh_at s (place_of d)) (Escrow column low high) → IsRefusedBy s i d column low high
    refused_by i column low high r = record {
      is_column = r.within;
      refuses = λ allowed. r.refused (subst (λ a. IsAllowed a i (worth column d)) (sym (account_as (place_of d) column)) allowed);
      first = λ earlier lt. subst (λ a. IsAllowed a i (worth earlier d)) (account_as (place_of d) earlier) (r.earlier earlier lt);
      low_is = r.inf_is ∙ ap inf (account_as (place_of d) column);
      high_is = r.sup_is ∙ ap sup (account_as (place_of d) column);
    }
