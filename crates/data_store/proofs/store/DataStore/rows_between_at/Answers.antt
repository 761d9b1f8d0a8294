use Rattle.std.proofs.Common.{rules, ◌≡◌, ◌<◌, ℕ, true, false, List, [], ◌∷◌, ◌++◌, Some, sym, ap, subst, ◌∙◌, append_assoc, append-nil}
use Rattle.std.specs.Prelude.{Option}
use Rattle.std.specs.Option.{option_copied}
use Rattle.std.specs.FinMap.{entries, entries_sorted}
use Rattle.iv_types.specs.Maps.{Entry, entry_at}
use Rattle.iv_meaning.specs.Database.{Row}
use Rattle.table_store.specs.Stored.{Decode, between, before}
use Rattle.table_store.proofs.Walks.{rest_from, from, low_part, todo_first, walk_begins}
use Rattle.data_store.specs.Past.{value_at, entry_of, IsKnown, IsLeast}
use Rattle.data_store.proofs.Merging.{so_many, all_keys, fewer, known_one, walked, walk_done, walk_ended, low_entry, decode_both}
use Rattle.data_store.proofs.store.DataStore.rows_between_at.Goals as goal
use Rattle.data_store.proofs.store.DataStore.rows_between_at.Goals.{in-Some+then-not-is_before, in_default}

pub loop-key-init : goal.loop-key-init
loop-key-init g c = λ m is rest told.
    let interval = c.args.interval.now in
    let start : c.from_vec-from.result ≡ interval.low = c.from_vec-from.ensures ∙ (c.in_ok-from_slice.ensures.items ∙ c.as_slice.ensures) in
    let whole : low_part interval.high (rest_from (from interval.low) (entries m)) ≡ between interval (entries m) =
    ap (low_part interval.high) (sym (todo_first (from interval.low) (entries m) (entries_sorted m))) ∙ walk_begins m interval (entry_at m interval.low) (λ i. entry_at m interval.low) in
    subst (λ (l : List Row). Decode c.args.table.now (between interval (entries m)) (l ++ rest)) (sym c.new-rows.ensures)
    (subst (λ (l : List Entry). Decode c.args.table.now l rest) whole (subst (λ (f : List ℕ). Decode c.args.table.now (low_part interval.high (rest_from (from f) (entries m))) rest) start told))

pub loop-key-smaller : goal.loop-key-smaller
loop-key-smaller g c =
    let store = c.args.self.now in
    let maps = g.M.SortedMaps.maps store.tables in
    let n = c.args.table.now.number in
    let key : List ℕ = c.in-Some.key.now in
    let least : IsLeast (IsKnown store.row_versions.versions store.pending.entries maps n) c.loop-key.from (Some key) =
    subst (λ (f : List ℕ). IsLeast (IsKnown store.row_versions.versions store.pending.entries maps n) f (Some key)) c.as_slice-in-loop-key.ensures
    (subst (λ (o : Option (List ℕ)). IsLeast (IsKnown store.row_versions.versions store.pending.entries maps n) c.as_slice-in-loop-key.result.now o) (ap option_copied c.in-Some.is) c.known_from.ensures) in
    subst (λ (f : List ℕ). so_many (from f) (all_keys store.row_versions.versions store.pending.entries (maps n)) < so_many (from c.loop-key.from) (all_keys store.row_versions.versions store.pending.entries (maps n))) (sym c.in_ok-from.ensures)
    (fewer c.loop-key.from key least.held.0 (all_keys store.row_versions.versions store.pending.entries (maps n)) (known_one store.row_versions.versions store.pending.entries maps n key least.held.1))

pub loop-key-preserved : goal.loop-key-preserved
loop-key-preserved g c = λ m is rest told.
    let store = c.args.self.now in
    let maps = g.M.SortedMaps.maps store.tables in
    let table = c.args.table.now in
    let n = c.args.table.now.number in
    let interval = c.args.interval.now in
    let key : List ℕ = c.in-Some.key.now in
    let value : Option (List ℕ) = value_at c.args.number store.row_versions.versions store.pending.entries maps (n, key) in
    let least : IsLeast (IsKnown store.row_versions.versions store.pending.entries maps n) c.loop-key.from (Some key) =
    subst (λ (f : List ℕ). IsLeast (IsKnown store.row_versions.versions store.pending.entries maps n) f (Some key)) c.as_slice-in-loop-key.ensures
    (subst (λ (o : Option (List ℕ)). IsLeast (IsKnown store.row_versions.versions store.pending.entries maps n) c.as_slice-in-loop-key.result.now o) (ap option_copied c.in-Some.is) c.known_from.ensures) in
    let passes : before interval.high key ≡ true = search rules in
    let left : List Entry = rest_from (from (key ++ 0 ∷ [])) (entries m) in
    let now : low_part interval.high (rest_from (from c.loop-key.from) (entries m)) ≡ entry_of key value ++ low_part interval.high left =
    ap (low_part interval.high) (walked c.args.number store.row_versions.versions store.pending.entries maps n m is c.loop-key.from key least) ∙ low_entry interval.high key value left passes in
    let added = c.in_ok-add_row_at.ensures in
    let later : Decode table (low_part interval.high left) rest = subst (λ (f : List ℕ). Decode table (low_part interval.high (rest_from (from f) (entries m))) rest) c.in_ok-from.ensures told in
    let both : Decode table (low_part interval.high (rest_from (from c.loop-key.from) (entries m))) (added.0 ++ rest) =
    subst (λ (l : List Entry). Decode table l (added.0 ++ rest)) (sym now) (decode_both table (entry_of key value) (low_part interval.high left) added.0 rest added.2 later) in
    subst (λ (l : List Row). Decode table (between interval (entries m)) l) (sym (ap (λ (l : List Row). l ++ rest) added.1 ∙ append_assoc c.loop-key.rows added.0 rest)) (c.loop-key.invariant m is (added.0 ++ rest) both)

pub returns : goal.returns
returns g c = λ m is.
    let store = c.args.self.now in
    let maps = g.M.SortedMaps.maps store.tables in
    let n = c.args.table.now.number in
    let interval = c.args.interval.now in
    let least : IsLeast (IsKnown store.row_versions.versions store.pending.entries maps n) c.loop-key.from (option_copied c.known_from.result) =
    subst (λ (f : List ℕ). IsLeast (IsKnown store.row_versions.versions store.pending.entries maps n) f (option_copied c.known_from.result)) c.as_slice-in-loop-key.ensures c.known_from.ensures in
    let none : low_part interval.high (rest_from (from c.loop-key.from) (entries m)) ≡ [] = elim c.match-known_from.branch [
      | in-Some+then-not-is_before w ↦
          let fails : before interval.high w.in-Some.key.now ≡ false = search rules in
          walk_ended c.args.number store.row_versions.versions store.pending.entries maps n m is interval.high c.loop-key.from w.in-Some.key.now
          (subst (λ (o : Option (List ℕ)). IsLeast (IsKnown store.row_versions.versions store.pending.entries maps n) c.loop-key.from o) (ap option_copied w.in-Some.is) least) fails
      | in_default w ↦
          ap (low_part interval.high) (walk_done c.args.number store.row_versions.versions store.pending.entries maps n m is c.loop-key.from
          (subst (λ (o : Option (List ℕ)). IsLeast (IsKnown store.row_versions.versions store.pending.entries maps n) c.loop-key.from o) (ap option_copied w.in_default.is) least))
    ] in
    subst (λ (l : List Row). Decode c.args.table.now (between interval (entries m)) l) (append-nil c.loop-key.rows)
    (c.loop-key.invariant m is [] (subst (λ (l : List Entry). Decode c.args.table.now l []) (sym none) tt))
