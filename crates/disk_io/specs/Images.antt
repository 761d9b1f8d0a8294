-- No clause of `run` rests on this module: it serves contracts between crates.
--
-- The three images of a crash that a disk in memory can make.
use Rattle.std.specs.Prelude.{ℕ, suc, zero, Bool, true, false, List, [], ◌∷◌, length, take, drop, map, replicate}
use Rattle.disk_io.specs.declared.torn.Torn.{Torn}
use Rattle.disk_io.specs.declared.torn.Torn.TheVariants as torn
use Rattle.disk_io.specs.Events.{Event, Wrote, Synced, after}

-- how many items there are up to the last that passes the test, that included
abbrev pub one_more : Bool → ℕ → ℕ
one_more passes (suc n) = suc (suc n)
one_more true zero = 1
one_more false zero = 0

abbrev pub up_to_last : {X : Type 0} → (X → Bool) → List X → ℕ
up_to_last test [] = 0
up_to_last test (x ∷ xs) = one_more (test x) (up_to_last test xs)

abbrev pub is_sync : Event → Bool
is_sync (Wrote at w) = false
is_sync Synced = true

-- the calls up to the last sync, and those since
abbrev pub settled : List Event → List Event
settled es = take (up_to_last is_sync es) es

abbrev pub unsettled : List Event → List Event
unsettled es = drop (up_to_last is_sync es) es

-- the call with zeros in place of what it wrote
abbrev pub zeroed : Event → Event
zeroed (Wrote at w) = Wrote at (replicate (length w) 0)
zeroed Synced = Synced

-- what stands on a disk that held first, after these calls and a crash: in each range written since the last sync
-- what it held at that sync, what was written, or zeros
abbrev pub image_of : Torn → List Event → List ℕ → List ℕ
image_of torn.Before es first = after (settled es) first
image_of torn.After es first = after es first
image_of torn.Zeros es first = after (map zeroed (unsettled es)) (after (settled es) first)
