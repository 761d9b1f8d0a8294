-- No clause of `run` rests on this module: it serves contracts between crates.
--
-- The open transactions of the sessions, and how they stand in a slab.
use Rattle.std.specs.Prelude.{◌≡◌, ℕ, List, slice_get, Option, Some, IsSome, refl}
use Rattle.std.specs.Option.{option_and_then}
use Rattle.std.specs.Coded.{Coded, coded_ℕ, coded×, coded_list, coded_option, code_by}
use Rattle.slab.specs.Slab.{Slab, get}
use Rattle.txn_book.specs.declared.open_table.Open.{Open}
use Rattle.txn_book.specs.contracts.open_table.Open as transaction

-- session k's at place k, and for how many more there is room
pub record Seats : Type 0 where
  pub opens : List (Option Open)
  pub room : ℕ

abbrev pub coded_seats : Coded Seats
coded_seats = code_by (List (Option Open) × ℕ) (coded× (coded_list (coded_option transaction.the_row.coded)) coded_ℕ) (λ s. (s.opens, s.room)) (λ p. record { opens = p.0; room = p.1 }) (λ _. refl)

-- that of a session
abbrev pub open_at : List (Option Open) → ℕ → Option Open
open_at opens session = option_and_then (λ o. o) (slice_get opens session)

-- ---- in a slab

-- the transaction that stands under a key, if there is one
abbrev pub at_key : Slab Open → Option ℕ → Option Open
at_key slab key = option_and_then (get slab) key

-- each key has a transaction, and no two sessions have one key
pub record AreSeated (slab : Slab Open) (seats : List (Option ℕ)) : Type 0 where
  pub there : (session key : ℕ) → slice_get seats session ≡ Some (Some key) → IsSome (get slab key)
  pub apart : (one other key : ℕ) → slice_get seats one ≡ Some (Some key) → slice_get seats other ≡ Some (Some key) → one ≡ other
