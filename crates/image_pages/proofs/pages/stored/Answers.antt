use Rattle.std.proofs.Common.{List, sym, ap, ◌∙◌, arith}
use Rattle.image_entries.specs.declared.parts.Part.{Part}
use Rattle.image_entries.specs.Parts.{parts_found}
use Rattle.image_pages.specs.Pages.{found_bytes}
use Rattle.image_pages.proofs.Stored.{counts_all}
use Rattle.image_pages.proofs.pages.stored.Goals as goal

pub returns-in-Ok-store_of-clause-pages : goal.returns-in-Ok-store_of-clause-pages
returns-in-Ok-store_of-clause-pages c bytes image has gathers stands = (
  c.in-Ok-store_of.ensures.pages bytes image (record { found = has; gathers = gathers; parts_are = ap parts_found c.deref-in-Ok.ensures.value ∙ c.in-Ok.ensures.parts; stands = stands }),
  counts_all bytes image c.args.entries.entries c.deref.result.now
      (record { found = has; gathers = gathers; parts_are = ap parts_found c.deref.ensures.value ∙ c.in-Ok.ensures.parts; stands = stands })
      c.parts_bytes-text_bytes.result c.parts_bytes-text_bytes.ensures,
)

pub returns-in-Ok-store_of-clause-passes : goal.returns-in-Ok-store_of-clause-passes
returns-in-Ok-store_of-clause-passes c bytes image has gathers stands =
    c.in-Ok-store_of.ensures.passes bytes image (record { found = has; gathers = gathers; parts_are = ap parts_found c.deref-in-Ok.ensures.value ∙ c.in-Ok.ensures.parts; stands = stands })

pub returns-in-Ok-clause-refused : goal.returns-in-Ok-clause-refused
returns-in-Ok-clause-refused c bytes image has gathers stands =
    c.in-Err-store_of.ensures.refused bytes image (record { found = has; gathers = gathers; parts_are = ap parts_found c.deref-in-Ok.ensures.value ∙ c.in-Ok.ensures.parts; stands = stands })

pub returns-in-Ok-store_of-clause-counts : goal.returns-in-Ok-store_of-clause-counts
returns-in-Ok-store_of-clause-counts c =
    let same = ap (λ (ps : List Part). found_bytes (parts_found ps)) (c.deref.ensures.value ∙ sym c.deref-in-Ok.ensures.value) in
    let most = c.in-Ok-store_of.ensures.counts in
    omega (arith, c.parts_bytes-text_bytes.ensures, most, same)
