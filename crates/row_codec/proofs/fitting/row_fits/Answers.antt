use Rattle.std.proofs.Common.{◌≡◌, ◌<◌, List, length, true, arith, ap, sym, subst, ◌∙◌}
use Rattle.iv_types.specs.declared.value.Value.{Value}
use Rattle.iv_types.specs.Encoding.{FitAll, kinds_of}
use Rattle.row_codec.proofs.Columns.{refuted, fit_lengths, fits_at, fitting_more, kind_at, count_kinds}
use Rattle.row_codec.proofs.fitting.row_fits.Goals as goal

pub returns-then-columns-values : goal.returns-then-columns-values
returns-then-columns-values c =
    let counted = count_kinds c.args.table.now c.as_slice-columns.result.now c.as_slice-columns.ensures in
    refuted (kinds_of c.args.table.now) c.args.row.now (λ h. c.if-columns-values.true (omega (arith, counted, fit_lengths (kinds_of c.args.table.now) c.args.row.now h, ap length c.as_slice-values.ensures)))

pub returns-then-not-fits : goal.returns-then-not-fits
returns-then-not-fits c =
    let ks = kinds_of c.args.table.now in
    let lt : c.loop-place.place < length ks = omega (arith, c.loop-place-test.true, count_kinds c.args.table.now c.as_slice-columns.result.now c.as_slice-columns.ensures) in
    let at = kind_at c.args.table.now c.as_slice-columns.result.now c.loop-place.place c.index-columns-place.result c.as_slice-columns.ensures c.loop-place-test.true c.index-columns-place.is in
    refuted ks c.args.row.now (λ h.
    let moved : FitAll ks c.as_slice-values.result.now = subst (λ (l : List Value). FitAll ks l) (sym c.as_slice-values.ensures) h in
    let e : c.fits.result ≡ true =
    c.fits.ensures ∙ (fits_at ks c.as_slice-values.result.now c.loop-place.place c.index-columns-place.result.kind c.index-values-place.result moved lt at c.index-values-place.is) in
    absurd (cc (e, c.if-not-fits.true)))

pub loop-place-preserved : goal.loop-place-preserved
loop-place-preserved c =
    let lt : c.loop-place.place < length (kinds_of c.args.table.now) = omega (arith, c.loop-place-test.true, count_kinds c.args.table.now c.as_slice-columns.result.now c.as_slice-columns.ensures) in
    fitting_more c.loop-place.invariant c.index-columns-place.result.kind c.index-values-place.result lt
    (kind_at c.args.table.now c.as_slice-columns.result.now c.loop-place.place c.index-columns-place.result c.as_slice-columns.ensures c.loop-place-test.true c.index-columns-place.is) c.index-values-place.is
    (sym c.fits.ensures ∙ c.if-not-fits.false)
