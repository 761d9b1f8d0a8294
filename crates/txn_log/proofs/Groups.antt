-- The records of groups, where one group more is written.
use Rattle.std.specs.Prelude.{◌≡◌, List, [], ◌∷◌, ◌++◌, reverse, drop, length}
use mathlib.Core.Path.{refl, sym, ap, ◌∙◌}
use Rattle.std.proofs.Common.{append_assoc}
use Rattle.std.proofs.lemmas.List.{append-nil}
use Rattle.txn_log.specs.Appended.{Numbered}
use Rattle.txn_log.specs.Groups.{after_of, FlushLaw}

pub one_group_more : {X : Type 0} (gs : List (List X)) (rs : List X) → after_of (gs ++ rs ∷ []) ≡ reverse rs ++ after_of gs
one_group_more [] rs = sym (append-nil (reverse rs))
one_group_more {X = X} (g ∷ gs) rs = ap (λ (xs : List X). xs ++ reverse g) (one_group_more gs rs) ∙ append_assoc (reverse rs) (after_of gs) (reverse g)

pub none_left : (xs : List Numbered) → drop (length xs) xs ≡ []
none_left [] = refl
none_left (x ∷ xs) = none_left xs

pub flush_law : FlushLaw
flush_law d gs rs flushed waiting =
    let all : d.waiting ++ d.flushed ≡ after_of (gs ++ rs ∷ []) =
    ap (λ (xs : List Numbered). xs ++ d.flushed) waiting ∙ (ap (λ (ys : List Numbered). reverse rs ++ ys) flushed ∙ sym (one_group_more gs rs)) in
    (ap (λ (xs : List Numbered). xs ++ d.flushed) (none_left d.waiting) ∙ flushed, all, all)
