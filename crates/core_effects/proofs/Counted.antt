-- How many steps a transaction keeps.
use Rattle.std.specs.Prelude.{◌≡◌, ℕ, suc, List, [], ◌∷◌, length, refl}
use mathlib.Core.Path.{ap}
use Rattle.iv_types.specs.declared.lock.KeptStep.{KeptStep as BookStep}
use Rattle.iv_types.specs.declared.lock.KeptStep.TheVariants as step
use Rattle.txn_machine.specs.Keeping.{KeptStep, Put, Pay}
use Rattle.txn_book.specs.Holding.{AreKept}

-- as many in the book
pub many_same : (bs : List BookStep) (ks : List KeptStep) (ns : List ℕ) → AreKept bs ks ns → length bs ≡ length ks
many_same [] [] [] h = refl
many_same [] [] (n ∷ ns) h = absurd h
many_same [] (k ∷ ks) ns h = absurd h
many_same (step.Put k a b m ∷ bs) [] ns h = absurd h
many_same (step.Pay e before m ∷ bs) [] ns h = absurd h
many_same (step.Put k a b m ∷ bs) (Pay d ∷ ks) ns h = absurd h
many_same (step.Pay e before m ∷ bs) (Put c ds ∷ ks) ns h = absurd h
many_same (step.Put k a b m ∷ bs) (Put c ds ∷ ks) [] h = absurd h
many_same (step.Pay e before m ∷ bs) (Pay d ∷ ks) [] h = absurd h
many_same (step.Put k a b m ∷ bs) (Put c ds ∷ ks) (n ∷ ns) h = ap suc (many_same bs ks ns h.2)
many_same (step.Pay e before m ∷ bs) (Pay d ∷ ks) (n ∷ ns) h = ap suc (many_same bs ks ns h.2)
