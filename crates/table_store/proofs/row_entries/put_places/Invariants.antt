use Rattle.std.proofs.Common.{◌≡◌, ◌++◌, drop}
use Rattle.table_store.specs.Stored.{key_at}
use Rattle.table_store.proofs.row_entries.put_places.Given as goal

abbrev pub invariant-loop-place : goal.invariant-loop-place
invariant-loop-place l = l.out.items ++ key_at l.table (drop l.place-index l.places) l.row ≡ l.initial.out.items ++ key_at l.table l.places l.row
