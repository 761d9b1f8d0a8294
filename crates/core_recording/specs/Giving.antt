-- No clause of `run` rests on this module: it serves contracts between crates.
--
-- What an act gives to the journal.
use Rattle.std.specs.Prelude.{◌≡◌, ◌⊎◌, ℕ, ◌≤◌, ◌^◌, List, [], Option}
use Rattle.iv_types.specs.Maps.{Map}
use Rattle.iv_types.specs.declared.refusal.EngineRefusal.TheVariants.{DiskFault}
use Rattle.iv_meaning.specs.Escrow.{IsSession}
use Rattle.txn_machine.specs.Acts.{Act}
use Rattle.txn_machine.specs.Answers.{Answer, Refused}
use Rattle.txn_machine.specs.Log.{Log}
use Rattle.txn_machine.specs.May.{MayAct}
use Rattle.txn_machine.specs.State.{State}
use Rattle.txn_machine.specs.Store.{committed, schema_of}
use Rattle.txn_machine.specs.Steps.{texts_of}
use Rattle.txn_book.specs.Holding.{IsSame}
use Rattle.txn_book.specs.Opens.{open_at}
use Rattle.txn_book.specs.declared.open_table.Open as book
use Rattle.ghost_rows.specs.State as views
use Rattle.data_store.specs.Contents.{contents_of}
use Rattle.data_store.specs.Held.{IsHeld}
use Rattle.core_journal.specs.Records.{Records, Saved, records_after, GivesTo}
use Rattle.core_journal.specs.Cuts.{Cut, cut_of, MayHave}
use Rattle.definition_parts.specs.Parts.{HasTexts}
use Rattle.core_state.specs.Stands.{Began, Told, Failed}
use Rattle.core_state.specs.declared.state.CoreState.{CoreState}
use Rattle.core_recording.specs.Carried.{CarriesAll}

-- What a checkpoint saves in this state of the machine: the maps and the definitions hold what is stored, the texts of definitions among
-- that, with the greatest commit number and the number that comes next, and the records are those of what open transactions keep.
pub record IsSaved (s : State) (saved : Saved) : Type 0 where
  pub rows : views.State
  pub held : IsHeld saved.definitions saved.maps rows (contents_of s.store)
  pub texts : HasTexts (saved.maps 0) saved.definitions (texts_of s)
  pub number : saved.commits ≡ (committed s.store).number
  pub next_number : saved.next ≡ s.log.next
  pub opens : List (Option book.Open)
  pub same : (session : ℕ) → IsSession session → IsSame (schema_of s.store) (open_at opens session) (s.store.open_of session) (s.log.logged session)
  pub records : CarriesAll (schema_of s.store) opens saved.carried

module _ {M J : Type 0} (maps : M → ℕ → Map) (spare : M → ℕ → ℕ) (limit : M → Option ℕ) (has : J → Records → Type 0) (area : J → Option ℕ) where
  -- the journal has these records, which take what the log counts as used; its limit is the log's, and that of what it saves the data's
  pub record IsBehind (core : CoreState M) (journal : J) (l : Log) (rs : Records) : Type 0 where
    pub has_them : has journal rs
    pub used : rs.used ≡ l.used
    pub same_limit : area journal ≡ core.log_room.limit
    pub same_image : rs.image_limit ≡ core.data_room.limit

  -- an act may be done in some state, of whose log the journal has the records
  pub record CanGive (core : CoreState M) (journal : J) (session : ℕ) (a : Act) : Type 0 where
    pub state : State
    pub began : Began maps spare limit core state session
    pub may : MayAct state.store session a
    pub records : Records
    pub behind : IsBehind core journal state.log records
    -- a step saves one checkpoint at most, beside that of the opening
    pub few : records.saves ≤ 2 ^ 62

  -- what is told of an act, of whose effects the journal has no records yet
  pub record IsUngiven (core : CoreState M) (journal : J) (session : ℕ) (a : Act) (said : Answer) : Type 0 where
    pub state : State
    pub may : MayAct state.store session a
    pub told : Told maps spare limit state session a said core
    pub records : Records
    pub behind : IsBehind core journal state.log records

-- nothing was written, or a crash at any moment of it leaves one of these two
abbrev pub LeavesOne : {J X : Type 0} → (medium : J → X) → (leaves : X → X → Cut → Cut → Type 0) → J → J → Cut → Cut → Type 0
LeavesOne medium leaves journal after x y = (medium after ≡ medium journal) ⊎ leaves (medium journal) (medium after) x y

module _ {M J X : Type 0} (maps : M → ℕ → Map) (spare : M → ℕ → ℕ) (limit : M → Option ℕ) (has : J → Records → Type 0) (area : J → Option ℕ) (medium : J → X) (leaves : X → X → Cut → Cut → Type 0) where
  -- What is told of an act, and the journal has the records of its effects beside those that it had, or after a checkpoint what that
  -- saves. A crash on the way leaves what the medium had, or what it has then.
  pub record Gave (s : State) (session : ℕ) (a : Act) (said : Answer) (core : CoreState M) (journal : J) (then : CoreState M) (after : J) : Type 0 where
    pub told : Told maps spare limit s session a said then
    pub gave : (rs : Records) → IsBehind maps spare limit has area core journal s.log rs
        → GivesTo (λ xs. has after xs × LeavesOne medium leaves journal after (cut_of rs) (cut_of xs)) (IsSaved s) a said (records_after s session a said told.effects rs)
    pub same_limit : area after ≡ area journal

  -- The disk failed: nothing is changed, and what the journal has is not told. A crash leaves what the medium had, or what it was to have.
  pub record GaveUp (s : State) (session : ℕ) (a : Act) (said : Answer) (core : CoreState M) (journal : J) (then : CoreState M) (after : J) : Type 0 where
    pub said_is : said ≡ Refused DiskFault
    pub failed : Failed maps spare limit s session a then
    pub left : (rs : Records) → IsBehind maps spare limit has area core journal s.log rs → MayHave (LeavesOne medium leaves journal after (cut_of rs)) (IsSaved s) a (records_after s session a said [] rs)
    pub same_limit : area after ≡ area journal

  -- one or the other
  abbrev pub Did : State → ℕ → Act → Answer → CoreState M → J → CoreState M → J → Type 0
  Did s session a said core journal then after = Gave s session a said core journal then after ⊎ GaveUp s session a said core journal then after

  -- an act that has no failure, and one that may have it
  abbrev pub Gives : CoreState M → J → ℕ → Act → Answer → CoreState M → J → Type 0
  Gives core journal session a said then after = (s : State) → Began maps spare limit core s session → MayAct s.store session a → Gave s session a said core journal then after

  abbrev pub MayGiveUp : CoreState M → J → ℕ → Act → Answer → CoreState M → J → Type 0
  MayGiveUp core journal session a said then after =
      (s : State) → Began maps spare limit core s session → MayAct s.store session a → Did s session a said core journal then after
