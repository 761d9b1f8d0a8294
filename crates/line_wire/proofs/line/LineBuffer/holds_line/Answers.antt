use Rattle.std.proofs.Common.{◌≡◌, ◌≢◌, ℕ, Bool, List, ◌∷◌, ◌++◌, length, take, drop, ap, sym, subst, arith, length-append, refl}
use Rattle.std.specs.Prelude.{Option, Some, None, IfSome, IfNone, IsTrue, ◌↔◌}
use Rattle.std.specs.Option.{is_some}
use Rattle.std.proofs.lemmas.Bool.{false≢true}
use Rattle.iv_meaning.specs.Lines.{after_line}
use Rattle.line_wire.specs.Reading.{Reading, before_lf}
use Rattle.line_wire.proofs.Pieces.{slice_held}
use Rattle.line_wire.proofs.line.LineBuffer.holds_line.Goals as goal

shorter : (xs ys : List ℕ) → xs ≡ before_lf xs ++ 10 ∷ ys → before_lf xs ≢ xs
shorter xs ys e same = omega (arith, ap length e, ap length same, length-append (before_lf xs) (10 ∷ ys))

by_end : (r : Option ℕ) (held : List ℕ) → IfSome r (λ place. (held ≡ before_lf held ++ 10 ∷ after_line held) × (place ≡ length (before_lf held))) → IfNone r (before_lf held ≡ held) → IsTrue (is_some r) ↔ (before_lf held ≢ held)
by_end None held some none = (λ t. absurd (false≢true t), λ ne. absurd (ne none))
by_end (Some place) held some none = (λ t. shorter held (after_line held) some.0, λ ne. refl)

told : (t : Bool) (r : Option ℕ) (slice held : List ℕ) → t ≡ is_some r → slice ≡ held → IfSome r (λ place. (slice ≡ before_lf slice ++ 10 ∷ after_line slice) × (place ≡ length (before_lf slice))) → IfNone r (before_lf slice ≡ slice) → IsTrue t ↔ (before_lf held ≢ held)
told t r slice held e same some none =
    subst (λ (b : Bool). IsTrue b ↔ (before_lf held ≢ held)) (sym e)
    (subst (λ (xs : List ℕ). IsTrue (is_some r) ↔ (before_lf xs ≢ xs)) same (by_end r slice some none))

pub returns : goal.returns
returns c =
    let b = c.self.inside in
    let held : drop b.at (take b.end b.chunk.items) ≡ c.args.self.now.held = ap (λ (r : Reading). r.held) c.self.view_is in
    told c.is_some.result c.line_end.result _ c.args.self.now.held c.is_some.ensures (slice_held b.at b.end c.deref.result.now b.chunk.items c.args.self.now.held c.self.invariant.behind c.deref.ensures.value held) c.line_end.ensures.some c.line_end.ensures.none
