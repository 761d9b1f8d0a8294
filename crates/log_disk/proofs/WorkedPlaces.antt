-- The worked image is placed.
use Rattle.std.proofs.Common.{◌≡◌, inl, inr, ℕ, ℤ, pos, List, [], ◌∷◌, get_or, Option, Ok, refl, sym, subst, ◌∙◌, arith}
use Rattle.std.specs.FinMap.{get-empty, empty}
use Rattle.std.specs.Option.{option_map_or}
use Rattle.std.proofs.lemmas.Option.{none-some}
use Rattle.std.proofs.lemmas.List.Elements.{All-from_recursion}
use Rattle.iv_types.specs.Encoding.{IsHuge}
use Rattle.table_laws.specs.Place.{Place, place_cmp}
use Rattle.iv_meaning.specs.Database.{created}
use Rattle.log_records.specs.Area.{laid}
use Rattle.log_records.specs.Scan.{scanned}
use Rattle.log_records.proofs.ScanLaws.{scanned_begins}
use Rattle.txn_machine.specs.Stored.{stored_number}
use Rattle.txn_machine.proofs.Basics.{contains_none}
use Rattle.txn_machine.proofs.Ranging.{huge_zero}
use Rattle.txn_log.specs.Replay.{Pages}
use Rattle.txn_log.specs.Stored.{AreParts}
use Rattle.log_disk.specs.Bears.{AreStoredAs}
use Rattle.log_disk.specs.WorkedPlaces.{carried_entry, further_entry, worked_header, WorkedPlaces}
use Rattle.log_disk.proofs.Areas.{block_long}
use Rattle.log_disk.proofs.Blank.{none_stored}

scan_is : scanned worked_header.log ≡ Ok (laid 0 ((carried_entry ∷ []) ∷ (further_entry ∷ []) ∷ []))
scan_is = scanned_begins ((carried_entry ∷ []) ∷ (further_entry ∷ []) ∷ []) worked_header.log (record { tail = 0 ∷ []; split = refl; more = omega arith; shut = λ e. omega (arith, e) }) (
  record { small = (record { numbered = omega arith; fits = (omega arith, omega arith) }, tt); short = omega arith },
  (record { small = (record { numbered = omega arith; fits = (omega arith, (omega arith, omega arith)) }, tt); short = omega arith }, tt),
)

pub worked_are_placed : WorkedPlaces
unfolding none_stored
worked_are_placed = record {
  stored = none_stored [] tt;
  commits = refl;
  texts = refl;
  limit = refl;
  first = carried_entry ∷ [];
  others = (further_entry ∷ []) ∷ [];
  scan = scan_is;
  redo = sym (block_long _);
  carried = (refl, (tt, refl), tt);
  after = (refl, (λ before leads. (tt, refl)), tt);
}
