use Rattle.std.proofs.Common.{◌≡◌, ◌++◌, ℕ, List, sym, ap, ◌∙◌}
use Rattle.table_store.specs.Stored.{key_at}
use Rattle.table_store.proofs.IndexKeys.{key_append}
use Rattle.table_store.proofs.row_entries.index_key.Goals as goal

pub returns : goal.returns
returns c =
    let t = c.args.table.now in
    let row = c.args.row.now in
    let columns = c.args.index.now.columns in
    let first : c.put_places.new.out.items ≡ key_at t columns row = c.in_ok-put_places.ensures ∙ (ap (λ (l : List ℕ). l ++ key_at t c.as_slice.result.now row) c.new-key.ensures.items ∙ ap (λ (l : List ℕ). key_at t l row) c.as_slice.ensures) in
    let both : c.put_places-2.new.out.items ≡ c.put_places.new.out.items ++ key_at t t.primary row = c.in_ok-put_places-2.ensures ∙ ap (λ (l : List ℕ). c.put_places.new.out.items ++ key_at t l row) c.as_slice-2.ensures in
    c.from_vec.ensures ∙ (both ∙ (ap (λ (l : List ℕ). l ++ key_at t t.primary row) first ∙ sym (key_append t columns t.primary row c.requires)))
