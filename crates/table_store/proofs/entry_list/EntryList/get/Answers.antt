use Rattle.std.proofs.Common.{◌≡◌, rules}
use Rattle.table_store.proofs.Maps.{get_same, get_else, get_end}
use Rattle.table_store.proofs.entry_list.EntryList.get.Goals as goal
use Rattle.table_store.proofs.entry_list.EntryList.get.Goals.{in_default-via-in-Some+else-eq, in_default-via-in_default}

pub returns-in-Some : goal.returns-in-Some
returns-in-Some c =
    let same : c.in-Some.found.now ≡ c.args.key.now = search rules in
    get_same c.args.self.now.map c.args.key.now _ _ c.in-Some.ensures same

pub returns-in_default : goal.returns-in_default
returns-in_default c = elim c.in_default.branch [
  | in_default-via-in-Some+else-eq w ↦ get_else c.args.self.now.map c.args.key.now _ _ w.in-Some.ensures (λ same. search rules)
  | in_default-via-in_default w ↦ get_end c.args.self.now.map c.args.key.now w.in_default.ensures
]
