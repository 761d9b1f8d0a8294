use Rattle.std.proofs.Common.{◌≡◌, true, get_or, sym, ◌∙◌}
use Rattle.std.proofs.lemmas.List.{get_or_default}
use Rattle.iv_types.specs.declared.value.Kind.TheVariants.{Int}
use Rattle.row_codec.proofs.Columns.{refuted, fit_lengths, fits_at, fitting_more}
use Rattle.row_codec.proofs.fitting.key_fits.Goals as goal

pub returns-then-kinds-values : goal.returns-then-kinds-values
returns-then-kinds-values c = refuted c.args.kinds.now c.args.values.now (λ h. c.if-kinds-values.true (fit_lengths c.args.kinds.now c.args.values.now h))

pub returns-then-not-fits : goal.returns-then-not-fits
returns-then-not-fits c =
    let k = get_or c.args.kinds.now c.loop-place.place Int in
    refuted c.args.kinds.now c.args.values.now (λ h.
    let e : c.fits.result ≡ true = c.fits.ensures ∙ (fits_at c.args.kinds.now c.args.values.now c.loop-place.place k c.index-values-place.result h c.loop-place-test.true
    (get_or_default c.args.kinds.now c.loop-place.place Int k c.loop-place-test.true) c.index-values-place.is) in
    absurd (cc (e, c.if-not-fits.true)))

pub loop-place-preserved : goal.loop-place-preserved
loop-place-preserved c =
    let k = get_or c.args.kinds.now c.loop-place.place Int in
    fitting_more c.loop-place.invariant k c.index-values-place.result c.loop-place-test.true (get_or_default c.args.kinds.now c.loop-place.place Int k c.loop-place-test.true) c.index-values-place.is
    (sym c.fits.ensures ∙ c.if-not-fits.false)
