-- No clause of `run` rests on this module: it serves contracts between crates.
--
-- What a store has, in the words of the machine.
use Rattle.std.specs.Prelude.{ℕ, List, [], ◌∷◌, Option, None, if◌then◌else◌}
use Rattle.std.specs.FinMap.{empty}
use Rattle.iv_types.specs.Maps.{Map}
use Rattle.iv_types.specs.declared.lock.GroupDelta.{GroupDelta}
use Rattle.table_laws.specs.Place.{Place}
use Rattle.iv_meaning.specs.Schema.{Schema}
use Rattle.iv_meaning.specs.Database.{Rows}
use Rattle.txn_machine.specs.Deltas.{is_for}
use Rattle.txn_machine.specs.Keeping.{KeptStep, Put, Pay}
use Rattle.txn_machine.specs.Stored.{ViewRows}
use Rattle.txn_machine.specs.Store.{Store, schema_of, now}

pub record Contents : Type 0 where
  pub objects : Schema
  -- the rows of all tables, with the changes of open transactions
  pub rows : Rows
  -- the stored view rows, with the pays of open transactions
  pub view : ViewRows
  -- what each session's open transaction keeps, the latest first
  pub kept : ℕ → List KeptStep
  -- the entries of index 0, if they are told
  pub texts : Option Map

-- those of a state of the machine
abbrev pub contents_of : Store → Contents
contents_of s = record { objects = schema_of s; rows = s.rows; view = s.view; kept = λ session. (now s session).kept; texts = None }

-- of a database that defines nothing
abbrev pub no_contents : Contents
no_contents = record { objects = []; rows = empty; view = empty; kept = λ session. []; texts = None }

-- with these entries of index 0
abbrev pub with_texts : Option Map → Contents → Contents
with_texts texts c = record c { texts = texts }

-- of kept steps, of which the latest stands first, the pays on the row of a place
abbrev pub pays_on : Place → List KeptStep → List GroupDelta
pays_on place [] = []
pays_on place (Put c ds ∷ ks) = pays_on place ks
pays_on place (Pay d ∷ ks) = if is_for place d then d ∷ pays_on place ks else pays_on place ks
