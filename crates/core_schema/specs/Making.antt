-- No clause of `run` rests on this module: it serves contracts between crates.
--
-- When a definition can be made, and the change that its entry in the history has.
use Rattle.std.specs.Prelude.{◌≡◌, ℕ, ◌+◌, ◌<◌, ◌≤◌, ◌^◌, List, [], ◌∷◌, length, Option, None, Some}
use Rattle.iv_types.specs.Definitions.{Definitions}
use Rattle.iv_types.specs.Maps.{Map}
use Rattle.iv_types.specs.Printing.{statement_text}
use Rattle.iv_types.specs.Syntax.{StatementTree}
use Rattle.iv_types.specs.declared.catalog.Definition.{Definition}
use Rattle.iv_types.specs.declared.lock.Change.{Change}
use Rattle.iv_types.specs.declared.lock.IndexEntry.{IndexEntry}
use Rattle.iv_types.specs.declared.value.Value.TheVariants.{Word}
use Rattle.iv_meaning.specs.Objects.{object_of}
use Rattle.txn_machine.specs.Acts as act
use Rattle.txn_machine.specs.Counts.{entry_size, definition_size, most_of_history}
use Rattle.txn_machine.specs.May.{MayAct}
use Rattle.txn_machine.specs.State.{State}
use Rattle.txn_machine.specs.Log.{definition_need}
use Rattle.txn_machine.specs.Steps.{Makes, NoneIsOpen, FitsLog, FitsData, made_need, used_data, history_bytes}
use Rattle.txn_book.specs.Books.{how_many_open}
use Rattle.txn_log.specs.Stored.{in_parts}
use Rattle.definition_parts.specs.Parts.{part_entries}
use Rattle.data_store.specs.Contents.{contents_of}
use Rattle.data_defining.specs.Defining.{AreFirst, IsLast}
use Rattle.data_room.specs.Reserved.{Where}
use Rattle.core_state.specs.Stands.{Began}
use Rattle.core_state.specs.declared.state.CoreState.{CoreState}

-- a definition's text is the row of its one change
pub record IsTextOf (text : List ℕ) (c : Change) : Type 0 where
  pub table : c.table ≡ 0
  pub before : c.before ≡ None
  pub after : c.after ≡ Some (Word text ∷ [])

-- these changes are that one
pub record HaveText (text : List ℕ) (changes : List Change) : Type 0 where
  pub change : Change
  pub are : changes ≡ change ∷ []
  pub is_text : IsTextOf text change

-- a core with this catalog
abbrev pub with_catalog : {M : Type 0} → Definitions → CoreState M → CoreState M
with_catalog definitions core = record core { store = record core.store { catalog = definitions } }

module _ {M : Type 0} (maps : M → ℕ → Map) (spare : M → ℕ → ℕ) (limit : M → Option ℕ) where
  -- the step began, and a statement makes this definition
  pub record IsMade (s : State) (core : CoreState M) (session : ℕ) (statement : StatementTree) (definition : Definition) : Type 0 where
    pub began : Began maps spare limit core s session
    pub may : MayAct s.store session (act.Schema statement)
    pub makes : Makes s.store statement (object_of definition)

  -- the step began, a statement makes this definition, and no transaction is open
  pub record MayMake (s : State) (core : CoreState M) (session : ℕ) (statement : StatementTree) (definition : Definition) : Type 0 where
    pub began : Began maps spare limit core s session
    pub may : MayAct s.store session (act.Schema statement)
    pub none : NoneIsOpen s.store
    pub makes : Makes s.store statement (object_of definition)

  -- it begins with these entries
  pub record MayBegin (s : State) (core : CoreState M) (session : ℕ) (statement : StatementTree) (definition : Definition) (first : List IndexEntry) : Type 0 where
    pub may : MayMake s core session statement definition
    pub first_are : AreFirst core.store.catalog (maps core.store.tables) (contents_of s.store) definition first

  -- it begins with these entries, and this is its text
  pub record MayFit (s : State) (core : CoreState M) (session : ℕ) (statement : StatementTree) (definition : Definition) (first : List IndexEntry) (text : List ℕ) : Type 0 where
    pub may : MayMake s core session statement definition
    pub first_are : AreFirst core.store.catalog (maps core.store.tables) (contents_of s.store) definition first
    pub text_is : text ≡ statement_text statement

  -- it begins with these entries, this is its text, and the log has room for that
  pub record MayLog (s : State) (core : CoreState M) (session : ℕ) (statement : StatementTree) (definition : Definition) (first : List IndexEntry) (text : List ℕ) : Type 0 where
    pub fits : MayFit s core session statement definition first text
    pub log_room : FitsLog s (definition_need statement)

  -- it begins with these entries, this is its text, and the log and the data have room for them
  pub record MayKeep (s : State) (core : CoreState M) (session : ℕ) (statement : StatementTree) (definition : Definition) (first : List IndexEntry) (text : List ℕ) : Type 0 where
    pub may : MayMake s core session statement definition
    pub first_are : AreFirst core.store.catalog (maps core.store.tables) (contents_of s.store) definition first
    pub text_is : text ≡ statement_text statement
    pub log_room : FitsLog s (definition_need statement)
    pub data_room : FitsData s (made_need s.store statement (object_of definition))
    pub data_small : Where s.opening.data_limit (used_data s + made_need s.store statement (object_of definition) < 2 ^ 32)

  -- it begins with these entries, and the log, the data and the history have room for them and for its text
  pub record MayEnter (s : State) (core : CoreState M) (session : ℕ) (statement : StatementTree) (definition : Definition) (first : List IndexEntry) (text : List ℕ) (need : ℕ) : Type 0 where
    pub may : MayMake s core session statement definition
    pub first_are : AreFirst core.store.catalog (maps core.store.tables) (contents_of s.store) definition first
    pub text_is : text ≡ statement_text statement
    pub log_room : FitsLog s (definition_need statement)
    pub data_room : FitsData s (made_need s.store statement (object_of definition))
    pub data_small : Where s.opening.data_limit (used_data s + made_need s.store statement (object_of definition) < 2 ^ 32)
    pub need_is : need ≡ entry_size + definition_size statement
    pub room : history_bytes s + need ≤ most_of_history

  -- the definition stands last in the catalog, without which it may be entered; what that takes memory for is there
  pub record IsReady (s : State) (core : CoreState M) (session : ℕ) (statement : StatementTree) (number : ℕ) (first parts : List IndexEntry) (changes : List Change) (need : ℕ) : Type 0 where
    pub before : Definitions
    pub definition : Definition
    pub text : List ℕ
    pub may : MayEnter s (with_catalog before core) session statement definition first text need
    pub last : IsLast core.store.catalog before definition number
    pub texts : HaveText text changes
    pub parts_are : parts ≡ part_entries number text
    pub first_room : length first ≤ spare core.store.tables number
    pub parts_room : length (in_parts text) ≤ spare core.store.tables 0
    pub entry_room : how_many_open core.book.opens + 1 ≤ core.book.room
