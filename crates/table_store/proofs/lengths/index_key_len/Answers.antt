use Rattle.std.proofs.Common.{◌≡◌, ◌+◌, ℕ, List, length, sym, ap, ◌∙◌, length-append}
use Rattle.table_store.specs.Stored.{key_at}
use Rattle.table_store.proofs.IndexKeys.{key_append}
use Rattle.table_store.proofs.lengths.index_key_len.Goals as goal

pub returns-clause-len : goal.returns-clause-len
returns-clause-len c =
    let t = c.args.table.now in
    let row = c.args.row.now in
    let columns : List ℕ = c.args.index.now.columns in
    let first : c.places_len.result ≡ length (key_at t columns row) = c.places_len.ensures.len ∙ ap (λ (l : List ℕ). length (key_at t l row)) c.as_slice.ensures in
    let rest : c.places_len-2.result ≡ length (key_at t t.primary row) = c.places_len-2.ensures.len ∙ ap (λ (l : List ℕ). length (key_at t l row)) c.as_slice-2.ensures in
    (λ i. first i + rest i) ∙ (sym (length-append (key_at t columns row) (key_at t t.primary row)) ∙ ap length (sym (key_append t columns t.primary row c.requires)))
