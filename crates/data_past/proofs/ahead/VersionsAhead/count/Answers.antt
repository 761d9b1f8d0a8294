use Rattle.std.proofs.Common.{◌≡◌, ◌<◌, ◌^◌, ℕ, List, length, get_or, slice_get, Some, refl, ap, subst, ◌∙◌, arith}
use Rattle.std.proofs.lemmas.List.Sums.{sum_by_more}
use Rattle.std.proofs.lemmas.Option.{slice_get_read}
use Rattle.data_past.specs.Ahead.{rows_of, deltas_of, rows_at, deltas_at, rows_in, deltas_in}
use Rattle.data_past.specs.declared.versions.Versions.{Versions}
use Rattle.data_past.proofs.ahead.VersionsAhead.count.Goals as goal

pub loop-versions-preserved : goal.loop-versions-preserved
loop-versions-preserved c =
    let all : List Versions = c.args.self.now in
    let i : ℕ = c.loop-versions.versions-index in
    let v : Versions = c.versions-item.result in
    let same : c.deref-versions-items.result.now ≡ all = c.deref-versions-items.ensures.value ∙ c.self.view_is in
    let lt : i < length all = subst (λ (l : List Versions). i < length l) same c.loop-versions-test.true in
    let is : v ≡ get_or all i v = c.versions-item.is ∙ ap (λ (l : List Versions). get_or l i v) same in
    let at : slice_get all i ≡ Some v = slice_get_read all (length all) i v refl lt is in
    let rows : c.len-rows.result ≡ length v.rows.items = c.len-rows.ensures ∙ v.rows.ok.0 in
    let deltas : c.len-deltas.result ≡ length v.deltas.items = c.len-deltas.ensures ∙ v.deltas.ok.0 in
    let more = sum_by_more rows_in all i v lt in
    let more_deltas = sum_by_more deltas_in all i v lt in
    let own : length v.rows.items ≡ rows_in (get_or all i v) = ap rows_in is in
    let own_deltas : length v.deltas.items ≡ deltas_in (get_or all i v) = ap deltas_in is in
    let few : length (rows_at all i) < 2 ^ 20 = c.requires.rows i in
    let few_deltas : length (deltas_at all i) < 2 ^ 20 = c.requires.deltas i in
    let here : length (rows_at all i) ≡ length v.rows.items = ap (λ o. length (rows_of o)) at in
    let here_deltas : length (deltas_at all i) ≡ length v.deltas.items = ap (λ o. length (deltas_of o)) at in
    let had = c.loop-versions.invariant in
    record {
      rows = (let sum = had.rows in omega (arith, sum, more, own, rows));
      deltas = (let sum = had.deltas in omega (arith, sum, more_deltas, own_deltas, deltas));
      few_rows = (let most = had.few_rows in omega (arith, most, few, here, rows));
      few_deltas = (let most = had.few_deltas in omega (arith, most, few_deltas, here_deltas, deltas));
    }
