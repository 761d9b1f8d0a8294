use Rattle.std.proofs.Common.{◌≡◌, ℕ, List, sym, ◌∙◌, ap, subst}
use Rattle.std.specs.Prelude.{IfOk, OnOk}
use Rattle.image_finding.specs.Headers.{as_header, map_in, StandsUpTo}
use Rattle.image_finding.specs.Maps.{AreLeaves}
use Rattle.image_finding.specs.Faults.{IfBad}
use Rattle.image_finding.specs.Rules.{IsRefused}
use Rattle.image_finding.proofs.Outcomes.{none_told, tested_low}
use Rattle.image_finding.proofs.pages.read_pages.Goals as goal

pub returns-in-Ok-clause-map : goal.returns-in-Ok-clause-map
returns-in-Ok-clause-map g c told = subst (λ (b : List ℕ). IfOk c.tested_map.result (λ map. map ≡ b)) (c.in-Ok.ensures.map told) c.tested_map.ensures.map

pub returns-in-Ok-clause-low : goal.returns-in-Ok-clause-low
returns-in-Ok-clause-low g c = tested_low c.tested_map.result c.in-Ok.map.items c.tested_map.ensures.map c.tested_map.ensures.low

pub returns-in-Ok-clause-leaves : goal.returns-in-Ok-clause-leaves
returns-in-Ok-clause-leaves g c told =
    let h = as_header c.args.header.now in
    let s = g.D.Disk.seen c.args.disk.now in
    let e = c.read_map.ensures.only_read.same_bytes told in
    subst (λ (m : List ℕ). OnOk c.tested_map.result (AreLeaves c.args.header.now.area_bytes c.args.header.now.pages m s)) (c.in-Ok.ensures.map told)
    (subst (λ (b : List ℕ). OnOk c.tested_map.result (AreLeaves c.args.header.now.area_bytes c.args.header.now.pages c.in-Ok.map.items b)) e (c.tested_map.ensures.leaves told))

pub returns-in-Ok-clause-stands : goal.returns-in-Ok-clause-stands
returns-in-Ok-clause-stands g c told stands =
    let h = as_header c.args.header.now in
    let e = c.read_map.ensures.only_read.same_bytes told in
    subst (λ (b : List ℕ). OnOk c.tested_map.result (StandsUpTo 9 b h)) e
    (c.tested_map.ensures.stands told (c.in-Ok.ensures.map told ∙ ap (map_in h) (sym e)) (subst (λ (b : List ℕ). StandsUpTo 7 b h) (sym e) stands))

pub returns-in-Ok-clause-refused : goal.returns-in-Ok-clause-refused
returns-in-Ok-clause-refused g c told stands =
    let h = as_header c.args.header.now in
    let e = c.read_map.ensures.only_read.same_bytes told in
    subst (λ (b : List ℕ). IfBad c.tested_map.result (λ bad. IsRefused b bad)) e
    (c.tested_map.ensures.refused told (c.in-Ok.ensures.map told ∙ ap (map_in h) (sym e)) (subst (λ (b : List ℕ). StandsUpTo 7 b h) (sym e) stands))

pub returns-in-Err-clause-refused : goal.returns-in-Err-clause-refused
returns-in-Err-clause-refused g c told stands = none_told c.in-Err.fault _ c.in-Err.ensures.no_rule
