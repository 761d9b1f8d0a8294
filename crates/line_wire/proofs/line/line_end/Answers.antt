use Rattle.std.proofs.Common.{◌≡◌, ℕ, List, length, get_or, arith}
use Rattle.std.specs.Prelude.{Option, Some, None, IfSome, IfNone, ◌∷◌, ◌++◌}
use Rattle.std.proofs.lemmas.Bool.{eqb-true, eq-eqb}
use Rattle.memchr.specs.Find.{IsFirstByte, is_byte}
use Rattle.iv_meaning.specs.Lines.{after_line}
use Rattle.line_wire.specs.Reading.{before_lf}
use Rattle.line_wire.proofs.FirstLine.{place_is, no_place, before_lf_whole}
use Rattle.line_wire.proofs.line.line_end.Goals as goal

found : (held : List ℕ) (r : Option ℕ) → IsFirstByte (is_byte 10) held r → IfSome r (λ place. (held ≡ before_lf held ++ 10 ∷ after_line held) × (place ≡ length (before_lf held)))
found held None h = tt
found held (Some place) h =
    let is : place ≡ length (before_lf held) = place_is held place h.0.high (λ k lt e. h.0.before k (omega arith) lt (eq-eqb (get_or held k 0) 10 e)) (eqb-true (get_or held place 0) 10 h.1) in
    let within = h.0.high in
    (before_lf_whole held (omega arith), is)

none : (held : List ℕ) (r : Option ℕ) → IsFirstByte (is_byte 10) held r → IfNone r (before_lf held ≡ held)
none held None h = no_place held (λ k lt e. h k (omega arith) lt (eq-eqb (get_or held k 0) 10 e))
none held (Some place) h = tt

pub returns-clause-some : goal.returns-clause-some
returns-clause-some c = found _ _ c.memchr.ensures

pub returns-clause-none : goal.returns-clause-none
returns-clause-none c = none _ _ c.memchr.ensures
