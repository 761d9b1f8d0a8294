use Rattle.std.proofs.Common.{rules, ◌≡◌, ◌≢◌, ◌-◌, ◌≤◌, ℕ, Some, arith, refl, sym, ap, subst, ◌∙◌}
use Rattle.std.specs.Option.{option_copied}
use Rattle.std.specs.FinMap.{get}
use Rattle.table_laws.specs.Place.{Place}
use Rattle.data_store.specs.Past.{Pendings}
use Rattle.data_store.specs.declared.store.Pending.{Pending}
use Rattle.data_past.proofs.Pendings.{gone_last, one_gone, put_there}
use Rattle.data_past.proofs.noting.forget_change.Goals as goal

pub replace-blank-requires : goal.replace-blank-requires
replace-blank-requires g c = record { held = put_there c.args.store.now.pending.entries c.replace-pending.new.self.entries (c.args.index, c.args.key.now) _ c.replace-pending.ensures.entries }

pub returns-then-left-eq0-clause-pending : goal.returns-then-left-eq0-clause-pending
returns-then-left-eq0-clause-pending g c =
    let old : Pendings = c.args.store.now.pending.entries in
    let key : Place = (c.args.index, c.args.key.now) in
    let p : Pending = c.in-Some.pending.now in
    let there : get old key ≡ Some p = sym c.get.ensures ∙ ap option_copied c.in-Some.is in
    let both : Some c.requires.0 ≡ Some p = sym c.requires.1 ∙ there in
    let same : c.requires.0 ≡ p = cc in
    let some : 1 ≤ p.changes = subst (λ (x : Pending). 1 ≤ x.changes) same c.requires.2 in
    let left : p.changes - 1 ≡ 0 = search rules in
    gone_last old c.take-gone.new.self.entries key p there (omega (arith, some, left)) c.take-gone.ensures.entries

pub returns-else-left-eq0-clause-pending : goal.returns-else-left-eq0-clause-pending
returns-else-left-eq0-clause-pending g c =
    let old : Pendings = c.args.store.now.pending.entries in
    let key : Place = (c.args.index, c.args.key.now) in
    let p : Pending = c.in-Some.pending.now in
    let there : get old key ≡ Some p = sym c.get.ensures ∙ ap option_copied c.in-Some.is in
    let both : Some c.requires.0 ≡ Some p = sym c.requires.1 ∙ there in
    let same : c.requires.0 ≡ p = cc in
    let some : 1 ≤ p.changes = subst (λ (x : Pending). 1 ≤ x.changes) same c.requires.2 in
    let left : p.changes - 1 ≢ 0 = search rules in
    let again : Some c.replace-pending.result ≡ Some p = sym c.replace-pending.ensures.old ∙ there in
    let back : c.replace-pending.result ≡ p = cc in
    one_gone old c.replace-pending.new.self.entries c.replace-blank.new.self.entries key p _ _ there (two p.changes some left) c.replace-pending.ensures.entries c.replace-blank.ensures.entries
    (ap (λ (x : Pending). record x { changes = p.changes - 1 }) back)
  where
    two : (n : ℕ) → 1 ≤ n → n - 1 ≢ 0 → 2 ≤ n
    two ℕ.zero some left = absurd (omega (arith, some))
    two (ℕ.suc ℕ.zero) some left = absurd (left refl)
    two (ℕ.suc (ℕ.suc n)) some left = omega arith
