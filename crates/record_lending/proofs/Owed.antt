-- What owed deltas reserve, whichever of them stands first.
use Rattle.std.proofs.Common.{◌≡◌, ◌+◌, ◌-◌, ◌^◌, ◌≤◌, ℕ, List, [], ◌∷◌, ◌++◌, Bool, true, false, min, map, reverse, take, length, get_or, refl, sym, ap, ◌∙◌, arith}
use Rattle.std.specs.List.{sum}
use Rattle.std.proofs.lemmas.List.{reverse-append, take_all, take_more}
use Rattle.iv_types.specs.declared.lock.GroupDelta.{GroupDelta}
use Rattle.txn_machine.specs.Counts.{told_need}
use Rattle.txn_machine.specs.Log.{pay_bytes, ghost_bytes, owed_bytes}
use Rattle.txn_machine.proofs.LogSums.{sum_first}
use Rattle.txn_log.proofs.Defining.{sum_append}

sum_reversed : (f : GroupDelta → ℕ) (ds : List GroupDelta) → sum (map f (reverse ds)) ≡ sum (map f ds)
sum_reversed f [] = refl
sum_reversed f (d ∷ ds) =
    let parted : sum (map f (reverse (d ∷ ds))) ≡ sum (map f (reverse ds)) + sum (map f (d ∷ [])) = ap (λ (l : List GroupDelta). sum (map f l)) (reverse-append (d ∷ []) ds) ∙ sum_append f (reverse ds) (d ∷ []) in
    let rest : sum (map f (reverse ds)) ≡ sum (map f ds) = sum_reversed f ds in
    let whole : sum (map f (d ∷ ds)) ≡ f d + sum (map f ds) = sum_first (f d) (map f ds) in
    let one : sum (map f (d ∷ [])) ≡ f d + sum (map f []) = sum_first (f d) [] in
    omega (arith, parted, rest, whole, one)

unghosted : (ds : List GroupDelta) → owed_bytes false (reverse ds) ≡ owed_bytes false ds
unghosted ds =
    let pays : sum (map pay_bytes (reverse ds)) ≡ sum (map pay_bytes ds) = sum_reversed pay_bytes ds in
    let ghosts : sum (map ghost_bytes (reverse ds)) ≡ sum (map ghost_bytes ds) = sum_reversed ghost_bytes ds in
    omega (arith, pays, ghosts)

-- the last one had its Ghost
ghosted : (others : List GroupDelta) (d : GroupDelta) → owed_bytes true (reverse (others ++ d ∷ [])) ≡ owed_bytes false others + pay_bytes d
ghosted others d =
    let turned : owed_bytes true (reverse (others ++ d ∷ [])) ≡ owed_bytes true (d ∷ reverse others) = ap (owed_bytes true) (reverse-append others (d ∷ [])) in
    let one : sum (map pay_bytes (d ∷ reverse others)) ≡ pay_bytes d + sum (map pay_bytes (reverse others)) = sum_first (pay_bytes d) (map pay_bytes (reverse others)) in
    let pays : sum (map pay_bytes (reverse others)) ≡ sum (map pay_bytes others) = sum_reversed pay_bytes others in
    let ghosts : sum (map ghost_bytes (reverse others)) ≡ sum (map ghost_bytes others) = sum_reversed ghost_bytes others in
    omega (arith, turned, one, pays, ghosts)

pub none_ghosted : (is_ghosted : Bool) (ds : List GroupDelta) → is_ghosted ≡ false → owed_bytes is_ghosted (reverse ds) ≡ owed_bytes false ds
none_ghosted is_ghosted ds is = ap (λ (g : Bool). owed_bytes g (reverse ds)) is ∙ unghosted ds

pub one_ghosted : (is_ghosted : Bool) (ds : List GroupDelta) (d : GroupDelta) → is_ghosted ≡ true → 1 ≤ length ds → d ≡ get_or ds (length ds - 1) d
    → owed_bytes is_ghosted (reverse ds) ≡ owed_bytes false (take (length ds - 1) ds) + pay_bytes d
one_ghosted is_ghosted ds d is some last =
    let others : List GroupDelta = take (length ds - 1) ds in
    let whole : take (length ds - 1 + 1) ds ≡ ds = take_all (length ds - 1 + 1) ds (omega arith) in
    let parts : ds ≡ others ++ d ∷ [] = sym whole ∙ take_more ds (length ds - 1) d (omega arith) ∙ ap (λ (x : GroupDelta). others ++ x ∷ []) (sym last) in
    ap (λ (g : Bool). owed_bytes g (reverse ds)) is ∙ ap (λ (l : List GroupDelta). owed_bytes true (reverse l)) parts ∙ ghosted others d

-- numbers that stand still, added up
pub both_told : (a b m n sum : ℕ) → a ≡ told_need m → b ≡ told_need n → sum ≡ min (a + b) (2 ^ 64 - 1) → sum ≡ told_need (m + n)
both_told a b m n sum is are all = grind arith
