-- No clause of `run` rests on this module: it serves contracts between crates.
--
-- The bytes of data: they stay within their limit, also where what open transactions keep is taken back.
use Rattle.std.specs.Prelude.{◌≡◌, ℕ, ◌+◌, ◌≤◌, List, map, length, take}
use Rattle.std.specs.List.{sum}
use Rattle.std.specs.FinMap.{entries}
use Rattle.iv_meaning.specs.Schema.{Schema}
use Rattle.iv_meaning.specs.Database.{Rows}
use Rattle.txn_machine.specs.Log.{Opening, Within, row_entries, view_entries, definition_entries, data_bytes}
use Rattle.txn_machine.specs.Store.{opened}
use Rattle.txn_machine.specs.State.{State, opened_state}
use Rattle.txn_machine.specs.Steps.{texts_of, used_data}
use Rattle.txn_machine.specs.Laws.{IsOpened, IsReached}
use Rattle.txn_log.specs.Replay.{Pages, Reading, recovered}
use Rattle.txn_log.specs.Appended.{IsRead}
use Rattle.txn_log.specs.Stored.{parts_entries}
use Rattle.txn_log.specs.Refused.{PlacedImage, IsPlaced, IsFine, AreSmall, texts_in}
use Rattle.txn_log.specs.Moments.{Disk, World, At, Amid, Halted, Run, opened_world, left_by}

-- the bytes of the entries of rows, in all indexes
abbrev pub rows_bytes : Schema → Rows → ℕ
rows_bytes objects rows = sum (map (λ e. row_entries objects e.0 e.1) (entries rows))

-- an engine is opened with its data within the limit
abbrev pub OpensWithin : Opening → Pages → Type 0
OpensWithin opening p = Within opening.data_limit (used_data (opened_state opening (opened p.db p.view)))

-- So it is on what an image leaves that is refused for nothing, with that limit and texts that take the bytes of the image's.
abbrev pub OpensWithinLaw : Type 0
OpensWithinLaw = (i : PlacedImage) (f : IsFine i) (opening : Opening) → opening.data_limit ≡ i.data_limit
    → sum (map definition_entries opening.definitions) ≡ sum (map parts_entries i.texts) + sum (map definition_entries (texts_in i.after)) → OpensWithin opening (recovered f.reading)

-- Where it is opened so, its data stay within the limit, with the room that open transactions keep, whatever steps it does, and also
-- where a fault of the disk stopped it. So Pay, Ghost, UndoOne, End and Commit find their room.
abbrev pub DataLimitLaw : Type 0
DataLimitLaw = (s : State) → (r : IsReached s) → OpensWithin r.opening (record { db = r.db; view = r.view }) → Within r.opening.data_limit (used_data s)

-- what all records leave takes no more bytes of data than the machine counts as used, with the room that open transactions keep
abbrev pub DataRoomLaw : Type 0
DataRoomLaw = (p : Pages) → IsOpened p.db p.view → (opening : Opening) (s : State) (d : Disk) → Run (opened_world opening p) (At s d)
    → (r : Reading) → IsRead (left_by (At s d) 0) r → (texts : List (List ℕ))
    → rows_bytes (recovered r).db.schema (recovered r).db.rows + view_entries (recovered r).view + sum (map definition_entries texts) ≤ data_bytes s.store s.log texts

-- So an image of all records between two steps is refused for nothing, where the engine was opened with its data within the limit. The
-- image has that limit, and its texts take the bytes of those that the state has.
abbrev pub WithinLaw : Type 0
WithinLaw = (p : Pages) → IsOpened p.db p.view → (opening : Opening) → OpensWithin opening p → (s : State) (d : Disk) → Run (opened_world opening p) (At s d)
    → (i : PlacedImage) → IsPlaced i (left_by (At s d) 0) → AreSmall (left_by (At s d) 0).carried → AreSmall (left_by (At s d) 0).after
    → i.data_limit ≡ opening.data_limit → sum (map parts_entries i.texts) + sum (map definition_entries (texts_in i.after)) ≡ sum (map definition_entries (texts_of s))
    → IsFine i

-- the state between two steps, or that the step will leave
abbrev pub state_of : World → State
state_of (At s d) = s
state_of (Amid after session a s l es d) = after
state_of (Halted s next d) = s

-- the texts of the definitions on pages: the first of those that the state has
abbrev pub texts_on : Pages → State → List (List ℕ)
texts_on p s = take (length p.db.schema) (texts_of s)

-- And so is every image that a crash may leave at any moment, without the latest of the waiting records. Its pages' texts take the bytes
-- of those that the state has of their definitions; and the opening has a text for each definition that was there.
abbrev pub WithinAlwaysLaw : Type 0
WithinAlwaysLaw = (p : Pages) → IsOpened p.db p.view → (opening : Opening) → OpensWithin opening p → length opening.definitions ≡ length p.db.schema
    → (w : World) → Run (opened_world opening p) w → (k : ℕ)
    → (i : PlacedImage) → IsPlaced i (left_by w k) → AreSmall (left_by w k).carried → AreSmall (left_by w k).after
    → i.data_limit ≡ opening.data_limit → sum (map parts_entries i.texts) ≡ sum (map definition_entries (texts_on i.pages (state_of w))) → IsFine i
