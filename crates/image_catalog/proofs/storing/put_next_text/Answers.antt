use Rattle.std.proofs.Common.{[], ◌∷◌, ◌++◌, sym, ap, subst, ◌∙◌}
use Rattle.std.proofs.lemmas.Bool.{false≢true}
use Rattle.std.proofs.lemmas.Result.{on_ok_weaker}
use Rattle.definition_parts.specs.Parts.{parts_map, IsShort}
use Rattle.image_catalog.proofs.Kept.{printed_short, kept_printed}
use Rattle.image_catalog.proofs.storing.put_next_text.Goals as goal

pub put_text-requires-2-clause-short : goal.put_text-requires-2-clause-short
put_text-requires-2-clause-short g c κs within =
    let q = c.requires.creates in
    subst IsShort (sym c.as_slice.ensures) (printed_short c.args.text.now c.in_ok-bytes.bytes c.in_ok-bytes.ensures q.0 q.1 q.2)

pub returns-clause-stored : goal.returns-clause-stored
returns-clause-stored g c =
    let q = c.requires.creates in
    let text = c.args.text.now in
    let bytes = c.in_ok-bytes.bytes in
    let is = c.in_ok-bytes.ensures in
    let long : IsShort text → ⊥ = λ short. false≢true (sym c.if-is_short.false ∙ c.is_short.ensures.1 short) in
    on_ok_weaker c.put_text-2.result (λ stored texts has. record {
      kept = bytes;
      is_kept = kept_printed text bytes is long (printed_short text bytes is q.0 q.1 q.2);
      stored = stored texts has ∙ ap (λ t. parts_map (texts ++ t ∷ [])) c.as_slice.ensures;
    }) c.put_text-2.ensures.stored
