use Rattle.std.proofs.Common.{◌≡◌, ◌++◌, ◌∷◌, [], rules, ap, subst, sym, ◌∙◌}
use Rattle.iv_types.specs.Encoding.{FitAll, key_bytes}
use Rattle.std.proofs.lemmas.List.{append-nil}
use Rattle.table_store.proofs.IndexKeys.{value_fits, value_key, no_value}
use Rattle.table_store.proofs.row_entries.put_place.Goals as goal

pub encode_key-requires : goal.encode_key-requires
encode_key-requires c =
    subst (FitAll (c.in-Some.kind ∷ [])) (sym c.from_ref.ensures.value)
    (value_fits c.args.table.now c.args.place c.args.row.now c.in-Some.kind c.in-Some-value_at.value.now c.requires c.in-Some.ensures c.in-Some-value_at.ensures)

pub returns-in_ok-extend_from_slice : goal.returns-in_ok-extend_from_slice
returns-in_ok-extend_from_slice c =
    let made : c.in_ok-bytes.bytes ≡ key_bytes (c.in-Some.kind ∷ []) (c.in-Some-value_at.value.now ∷ []) = c.in_ok-bytes.ensures ∙ ap (key_bytes (c.in-Some.kind ∷ [])) c.from_ref.ensures.value in
    let put : c.extend_from_slice.new.self.items ≡ c.args.out.now.items ++ c.in_ok-bytes.bytes = search rules in
    put ∙ ap (λ l. c.args.out.now.items ++ l) (made ∙ value_key c.args.table.now c.args.place c.args.row.now c.in-Some.kind c.in-Some-value_at.value.now c.in-Some.ensures c.in-Some-value_at.ensures)

pub returns-in_default-value_at : goal.returns-in_default-value_at
returns-in_default-value_at c =
    sym (ap (λ l. c.args.out.now.items ++ l) (no_value c.args.table.now c.args.place c.args.row.now c.in-Some.kind c.in-Some.ensures c.in_default-value_at.ensures) ∙ append-nil c.args.out.now.items)
