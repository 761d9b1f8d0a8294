-- No line says two things.
use Rattle.std.specs.Prelude.{◌≡◌, ◌<◌, ◌^◌, ℕ, false, ◌==◌, List, [], ◌∷◌, ◌++◌, length, drop, Result, Ok, Err, codes, decimal, if◌then◌else◌}
use mathlib.Core.Path.{refl, sym, ap, subst, ◌∙◌}
use mathlib.Core.Logic.{inl, inr}
use Rattle.std.proofs.Common.{arith}
use Rattle.std.proofs.lemmas.Bool.{false≢true}
use Rattle.std.proofs.lemmas.List.Prefix.{front_rest}
use Rattle.iv_types.specs.declared.refusal.Refusal.{Refusal}
use Rattle.iv_types.specs.Syntax.{StatementTree}
use Rattle.iv_types.specs.Grammar.{OneStatement}
use Rattle.iv_types.specs.Refusing.{OneRefusal}
use Rattle.iv_meaning.specs.Number.{digits_at_front}
use Rattle.iv_meaning.specs.Said.{Said, nothing, too_long, bad, runs, loads, unread, steps, cleans, checkpoints, IsRead, HasForm, SaysRead}
use Rattle.iv_meaning.specs.SerialLaws.{is_unread, SaysLaw}
use Rattle.iv_meaning.proofs.NumberLemmas.{front-decimal, one_decimal}
use Rattle.iv_meaning.proofs.SessionLemmas.{session_law}

-- what stands behind the number that a line begins with
abbrev pub behind : List ℕ → List ℕ
behind line = drop (digits_at_front line) line

abbrev pub first_byte : List ℕ → ℕ
first_byte [] = 0
first_byte (b ∷ bytes) = b

-- a line's kind, by what stands there, and that of a form
abbrev pub kind_of : List ℕ → ℕ
kind_of rest = if first_byte rest == 99 then length rest else if first_byte rest == 35 then 0 else first_byte rest

abbrev pub kind : Said → ℕ
kind nothing = 0
kind too_long = 1
kind bad = 2
kind (runs session read) = 58
kind (loads session read) = 47
kind (unread session) = 3
kind (steps session) = 43
kind cleans = 5
kind checkpoints = 10

numbered : (line rest : List ℕ) (session : ℕ) → session < 2 ^ 64 → digits_at_front rest ≡ 0 → line ≡ decimal session ++ rest → kind_of (behind line) ≡ kind_of rest
numbered line rest session small none e =
    ap (λ l. kind_of (behind l)) e
    ∙ (ap (λ n. kind_of (drop n (decimal session ++ rest))) (front-decimal session rest small none)
    ∙ ap kind_of (front_rest (decimal session ++ rest) (decimal session) rest refl))

pub kind_is : (line : List ℕ) (said : Said) → HasForm line said → kind_of (behind line) ≡ kind said
kind_is line nothing (inl e) = ap (λ l. kind_of (behind l)) e
kind_is line nothing (inr h) = ap (λ l. kind_of (behind l)) h.1
kind_is line too_long h = absurd h
kind_is line bad h = absurd h
kind_is line (runs session read) h = numbered line (codes ":" ++ (h.1.spaces ++ h.0)) session (omega (arith, h.1.last)) refl h.1.written
kind_is line (loads session read) h = numbered line (codes "/" ++ (h.1.spaces ++ h.0)) session (omega (arith, h.1.last)) refl h.1.written
kind_is line (unread session) h = absurd h
kind_is line (steps session) h = numbered line (codes "+") session (omega (arith, h.last)) refl h.written
kind_is line cleans h = ap (λ l. kind_of (behind l)) h
kind_is line checkpoints h = ap (λ l. kind_of (behind l)) h

module _ (statements : OneStatement) (refusals : OneRefusal) where
  one_read : (text other : List ℕ) (a b : Result StatementTree Refusal) → text ≡ other → IsRead text a → IsRead other b → a ≡ b
  one_read text other (Ok s) (Ok t) e ha hb = ap Ok (statements other s t (subst (λ x. IsRead x (Ok s)) e ha) hb)
  one_read text other (Ok s) (Err r) e ha hb = absurd (refusals.0 other r s hb (subst (λ x. IsRead x (Ok s)) e ha))
  one_read text other (Err r) (Ok s) e ha hb = absurd (refusals.0 other r s (subst (λ x. IsRead x (Err r)) e ha) hb)
  one_read text other (Err r) (Err q) e ha hb = ap Err (refusals.1 other r q (subst (λ x. IsRead x (Err r)) e ha) hb)

  one_form : (line : List ℕ) (a b : Said) → HasForm line a → HasForm line b → a ≡ b
  one_form line nothing nothing ha hb = refl
  one_form line cleans cleans ha hb = refl
  one_form line checkpoints checkpoints ha hb = refl
  one_form line (runs s p) (runs t q) ha hb =
      let same = session_law.0 line ha.0 hb.0 s t ha.1 hb.1 in
      ap (λ n. runs n p) same.0 ∙ ap (runs t) (one_read ha.0 hb.0 p q same.1 ha.2 hb.2)
  one_form line (loads s p) (loads t q) ha hb =
      let same = session_law.1 line ha.0 hb.0 s t ha.1 hb.1 in
      ap (λ n. loads n p) same.0 ∙ ap (loads t) (one_read ha.0 hb.0 p q same.1 ha.2 hb.2)
  one_form line (steps s) (steps t) ha hb = ap steps (one_decimal s t (codes "+") (codes "+") (omega (arith, ha.last)) (omega (arith, hb.last)) refl refl (sym ha.written ∙ hb.written)).0
  one_form line a b ha hb = let e : kind a ≡ kind b = sym (kind_is line a ha) ∙ kind_is line b hb in absurd (omega (arith, e))

  one_reading : (line : List ℕ) (a b : Said) → is_unread a ≡ false → is_unread b ≡ false → SaysRead line a → SaysRead line b → a ≡ b
  one_reading line (unread s) b ra rb ha hb = absurd (false≢true (sym ra))
  one_reading line a (unread t) ra rb ha hb = absurd (false≢true (sym rb))
  one_reading line bad bad ra rb ha hb = refl
  one_reading line bad b ra rb ha hb = absurd (ha b hb)
  one_reading line a bad ra rb ha hb = absurd (hb a ha)
  one_reading line a b ra rb ha hb = one_form line a b ha hb

pub says_law : SaysLaw
says_law statements refusals line a b ra rb (inl x) (inl y) = x.1 ∙ sym y.1
says_law statements refusals line a b ra rb (inl x) (inr y) = let long = x.0 in let short = y.0 in absurd (omega (arith, long, short))
says_law statements refusals line a b ra rb (inr x) (inl y) = let short = x.0 in let long = y.0 in absurd (omega (arith, long, short))
says_law statements refusals line a b ra rb (inr x) (inr y) = one_reading statements refusals line a b ra rb x.1 y.1
