use Rattle.std.proofs.Common.{◌≡◌, List, sym, subst, ◌∙◌}
use Rattle.std.specs.Cmp.Lexicographic.{bytes_decides}
use Rattle.iv_types.specs.declared.value.Kind.{Kind}
use Rattle.iv_types.specs.declared.value.Value.{Value}
use Rattle.iv_types.specs.Encoding.{FitAll, kinds_of, key_bytes}
use Rattle.iv_meaning.specs.Schema.{items_at, key_kinds}
use Rattle.iv_meaning.specs.Database.{key_of}
use Rattle.table_store.proofs.IndexKeys.{items_fit}
use Rattle.record_reading.proofs.key_of_row.is_key_of.Goals as goal

pub encode_key-requires : goal.encode_key-requires
encode_key-requires c =
    let t = c.args.table.now in
    let row = c.args.row.now in
    let kinds : c.as_slice-4.result.now ≡ key_kinds t =
    c.as_slice-4.ensures ∙ (c.in_ok-kinds-2.ensures ∙ (λ i. items_at ((c.as_slice.ensures ∙ c.in_ok-kinds.ensures) i) (c.as_slice-2.ensures i))) in
    let values : c.as_slice-5.result.now ≡ items_at row t.primary = c.as_slice-5.ensures ∙ (c.in_ok-values.ensures ∙ (λ i. items_at row (c.as_slice-3.ensures i))) in
    subst (λ (ks : List Kind). FitAll ks c.as_slice-5.result.now) (sym kinds)
    (subst (λ (vs : List Value). FitAll (key_kinds t) vs) (sym values) (items_fit (kinds_of t) row t.primary c.requires))

pub returns : goal.returns
returns c =
    let t = c.args.table.now in
    let row = c.args.row.now in
    let kinds : c.as_slice-4.result.now ≡ key_kinds t =
    c.as_slice-4.ensures ∙ (c.in_ok-kinds-2.ensures ∙ (λ i. items_at ((c.as_slice.ensures ∙ c.in_ok-kinds.ensures) i) (c.as_slice-2.ensures i))) in
    let values : c.as_slice-5.result.now ≡ items_at row t.primary = c.as_slice-5.ensures ∙ (c.in_ok-values.ensures ∙ (λ i. items_at row (c.as_slice-3.ensures i))) in
    let own : c.as_slice-6.result.now ≡ key_of t row = c.as_slice-6.ensures ∙ (c.in_ok-own.ensures ∙ (λ i. key_bytes (kinds i) (values i))) in
    let test = bytes_decides c.as_slice-6.result.now c.args.key.now in
    ((λ e. sym (test.0 (sym c.eq.ensures ∙ e)) ∙ own), (λ is. c.eq.ensures ∙ test.1 (own ∙ sym is)))
