-- No clause of `run` rests on this module: it serves contracts between crates.
--
-- The blocks of a log area, as groups of records.
use Rattle.std.specs.Prelude.{◌≡◌, List, [], ◌∷◌, ◌++◌, reverse, drop, length}
use Rattle.txn_log.specs.Appended.{Numbered}
use Rattle.txn_log.specs.Moments.{Disk, flushed_all}

-- the records of groups, the latest first; groups and their records stand as on the disk, the first first
abbrev pub after_of : {X : Type 0} → List (List X) → List X
after_of [] = []
after_of (g ∷ gs) = after_of gs ++ reverse g

-- The groups, and those with one more that has all that waited, are both cuts: without all of the waiting records, and with all of
-- them. That a crash in a flush leaves the one or the other is for the disk.
abbrev pub FlushLaw : Type 0
FlushLaw = (d : Disk) (gs : List (List Numbered)) (rs : List Numbered) → d.flushed ≡ after_of gs → d.waiting ≡ reverse rs
    → (drop (length d.waiting) d.waiting ++ d.flushed ≡ after_of gs)
    × (drop 0 d.waiting ++ d.flushed ≡ after_of (gs ++ rs ∷ []))
    -- and so is what a flush leaves that succeeds
    × ((flushed_all d).flushed ≡ after_of (gs ++ rs ∷ []))
