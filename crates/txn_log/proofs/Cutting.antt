-- Of a list of records and their events, what is left without the latest.
use Rattle.std.specs.Prelude.{ℕ, zero, suc, List, [], ◌∷◌, ◌++◌, drop}
use Rattle.iv_meaning.specs.Schema.{Schema}
use Rattle.txn_log.specs.Replay.{Event}
use Rattle.txn_log.specs.Appended.{Numbered, AllSay}
use Rattle.txn_log.proofs.Following.{AreAsMany}

-- what is left of both says the same
pub cut_says : (objects : Schema) (rs fs : List Numbered) (es gs : List Event) → AreAsMany rs es → AllSay objects (rs ++ fs) (es ++ gs) → (k : ℕ) → AllSay objects (drop k rs ++ fs) (drop k es ++ gs)
cut_says objects [] fs [] gs m h zero = h
cut_says objects [] fs [] gs m h (suc k) = h
cut_says objects (r ∷ rs) fs (e ∷ es) gs m h zero = h
cut_says objects (r ∷ rs) fs (e ∷ es) gs m h (suc k) = cut_says objects rs fs es gs m h.1 k
cut_says objects [] fs (e ∷ es) gs m h k = absurd m
cut_says objects (r ∷ rs) fs [] gs m h k = absurd m
