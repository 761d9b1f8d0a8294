-- Kept steps, the latest first, and the room to take them back.
use Rattle.std.specs.Prelude.{◌≡◌, ℕ, suc, ◌≤◌, List, [], ◌∷◌, ◌++◌, reverse, length, Some, vec_capacity}
use Rattle.std.specs.Option.{option_to_list}
use mathlib.Core.Path.{sym, ap, subst, ◌∙◌}
use Rattle.std.proofs.Common.{arith}
use Rattle.std.proofs.lemmas.List.{reverse-append}
use Rattle.iv_types.specs.declared.lock.KeptStep.{KeptStep}
use Rattle.iv_types.specs.declared.lock.KeptStep.TheVariants.{Put, Pay}
use Rattle.txn_book.specs.declared.open_table.Open.{Open}
use Rattle.txn_book.specs.Txns.{changes_in, CanComeBack, Counted, IsRoomy}

-- the last comes first
pub reverse_last : {X : Type 0} (xs : List X) (x : X) → reverse (xs ++ x ∷ []) ≡ x ∷ reverse xs
reverse_last xs x = reverse-append xs (x ∷ [])

-- what was popped, if anything, is the latest
pub popped : {X : Type 0} (old new : List X) (x : X) → old ≡ new ++ option_to_list (Some x) → reverse old ≡ x ∷ reverse new
popped old new x e = ap reverse e ∙ reverse_last new x

-- ---- room

pub more_room : (most more : ℕ) → most ≤ more → (n : ℕ) (ks : List KeptStep) → CanComeBack most n ks → CanComeBack more n ks
more_room most more le n [] can = omega (arith, le, can)
more_room most more le n (Put kept a b c ∷ ks) can = (omega (arith, le, can.0), more_room most more le 0 ks can.1)
more_room most more le n (Pay d before c ∷ ks) can = more_room most more le (suc n) ks can

pub first_fits : (most n : ℕ) (ks : List KeptStep) → CanComeBack most n ks → n ≤ most
first_fits most n [] can = can
first_fits most n (Put kept a b c ∷ ks) can = can.0
first_fits most n (Pay d before c ∷ ks) can = let le = first_fits most (suc n) ks can in omega (arith, le)

-- the same steps in more room
pub roomier : (o n : Open) → n.kept.items ≡ o.kept.items → n.owed.items ≡ o.owed.items → n.entry.items ≡ o.entry.items → n.puts ≡ o.puts → n.back ≡ o.back → n.history_bytes ≡ o.history_bytes
    → vec_capacity o.kept ≤ vec_capacity n.kept → vec_capacity o.owed ≤ vec_capacity n.owed → vec_capacity o.entry ≤ vec_capacity n.entry → IsRoomy o → IsRoomy n
roomier o n kept owed entry puts back bytes more_kept more_owed more_entry roomy = record {
  kept = omega (arith, ap length kept, ap length owed, more_kept, roomy.kept);
  owed = subst (λ ks. CanComeBack (vec_capacity n.owed) (length n.owed.items) (reverse ks)) (sym kept)
      (subst (λ ds. CanComeBack (vec_capacity n.owed) (length ds) (reverse o.kept.items)) (sym owed) (more_room (vec_capacity o.owed) (vec_capacity n.owed) more_owed (length o.owed.items) (reverse o.kept.items) roomy.owed));
  puts = puts ∙ roomy.puts ∙ ap (λ ks. length (changes_in (reverse ks))) (sym kept);
  entry = omega (arith, puts, more_entry, roomy.entry);
  empty = entry ∙ roomy.empty;
  back = omega (arith, back, ap length owed, roomy.back);
  counted = subst (λ ks. Counted n.history_bytes (reverse ks)) (sym kept) (subst (λ b. Counted b (reverse o.kept.items)) (sym bytes) roomy.counted);
}
