use Rattle.std.proofs.Common.{arith}
use Rattle.std.proofs.lemmas.List.{length-map}
use Rattle.iv_types.proofs.Catalogs.{few_all}
use Rattle.std.specs.HashMap.{values}
use Rattle.iv_types.proofs.catalog.Catalog.next_number.Goals as goal

-- src/catalog.rt:198:9
pub overflow_cast-result : goal.overflow_cast-result
overflow_cast-result c = omega (arith, c.len.ensures.len, few_all (values c.self.inside.named) c.self.invariant.1, length-map c.self.inside.named.entries (λ e. e.1))

-- src/catalog.rt:198:9
pub overflow_add-result : goal.overflow_add-result
overflow_add-result c = omega (arith, c.len.ensures.len, few_all (values c.self.inside.named) c.self.invariant.1, length-map c.self.inside.named.entries (λ e. e.1))
