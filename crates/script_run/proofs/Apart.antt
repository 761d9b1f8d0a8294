-- The lines of an input, one after another, with the bytes in which they stand.
use Rattle.std.proofs.Common.{◌≡◌, ◌≢◌, ℕ, Bool, true, false, cond, List, [], ◌∷◌, ◌++◌, refl, ap, sym, ◌∙◌, append_assoc, inl, inr}
use Rattle.std.specs.Prelude.{◌⊎◌, ◌==◌, ◌&&◌, if◌then◌else◌}
use Rattle.std.specs.List.{AllByRecursion}
use Rattle.std.proofs.Math.Bool.{and-false}
use Rattle.std.proofs.lemmas.Bool.{and_parts, false≢true, eqb-false}
use Rattle.iv_meaning.specs.Lines.{begins_with_lf, is_return, first_line, after_line, lines_of, onto_first}
use Rattle.line_wire.specs.Reading.{before_lf}

lf_next : (c : ℕ) (bytes : List ℕ) (t : Bool) → (c == 10) ≡ t → t ≡ true → cond t [] (cond (is_return c bytes) [] (c ∷ first_line bytes)) ≡ []
lf_next c bytes true e here = refl
lf_next c bytes false e here = absurd (false≢true here)

-- what is ahead, a byte before the others
same_lines : (b : ℕ) (bytes : List ℕ) (s t : Bool) → (t ≡ true → first_line bytes ≡ []) → lines_of bytes ≡ first_line bytes ∷ lines_of (after_line bytes) → cond s ([] ∷ lines_of bytes) (cond t (lines_of bytes) (onto_first b (lines_of bytes))) ≡ cond s [] (cond t [] (b ∷ first_line bytes)) ∷ lines_of (cond s bytes (after_line bytes))
same_lines b bytes true t next e = refl
same_lines b bytes false true next e = e ∙ ap (λ (line : List ℕ). line ∷ lines_of (after_line bytes)) (next refl)
same_lines b bytes false false next e = ap (onto_first b) e

last_line : (b : ℕ) (s t : Bool) → t ≡ false → cond s ([] ∷ []) (cond t [] ((b ∷ []) ∷ [])) ≡ cond s [] (cond t [] (b ∷ [])) ∷ lines_of (cond s [] [])
last_line b true t e = refl
last_line b false true e = absurd (false≢true (sym e))
last_line b false false e = refl

-- what is ahead begins with its first line
pub lines_more : (ahead : List ℕ) → ahead ≢ [] → lines_of ahead ≡ first_line ahead ∷ lines_of (after_line ahead)
lines_more [] ne = absurd (ne refl)
lines_more (b ∷ []) ne = last_line b (b == 10) (is_return b []) (and-false (b == 13))
lines_more (b ∷ c ∷ bytes) ne =
    same_lines b (c ∷ bytes) (b == 10) (is_return b (c ∷ bytes))
    (λ here. lf_next c bytes (c == 10) refl (and_parts (b == 13) (c == 10) here).1)
    (lines_more (c ∷ bytes) (λ e. cc))

-- ---- the bytes of a first line, with its LF

abbrev pub line_bytes : List ℕ → List ℕ
line_bytes [] = []
line_bytes (b ∷ bytes) = if b == 10 then b ∷ [] else b ∷ line_bytes bytes

front_by : (b : ℕ) (bytes : List ℕ) (t : Bool) → bytes ≡ line_bytes bytes ++ after_line bytes → b ∷ bytes ≡ cond t (b ∷ []) (b ∷ line_bytes bytes) ++ cond t bytes (after_line bytes)
front_by b bytes true more = refl
front_by b bytes false more = ap (λ (l : List ℕ). b ∷ l) more

-- they are the front of what is ahead
pub line_front : (ahead : List ℕ) → ahead ≡ line_bytes ahead ++ after_line ahead
line_front [] = refl
line_front (b ∷ bytes) = front_by b bytes (b == 10) (line_front bytes)

-- a LF is there
abbrev has_end : List ℕ → Bool
has_end [] = false
has_end (b ∷ bytes) = if b == 10 then true else has_end bytes

last_by : (bytes : List ℕ) (t : Bool) → (has_end bytes ≡ true) ⊎ (after_line bytes ≡ []) → (cond t true (has_end bytes) ≡ true) ⊎ (cond t bytes (after_line bytes) ≡ [])
last_by bytes true more = inl refl
last_by bytes false more = more

ended_or_last : (ahead : List ℕ) → (has_end ahead ≡ true) ⊎ (after_line ahead ≡ [])
ended_or_last [] = inr refl
ended_or_last (b ∷ bytes) = last_by bytes (b == 10) (ended_or_last bytes)

begins_by : (b : ℕ) (bytes more : List ℕ) (t : Bool) → begins_with_lf (cond t (b ∷ []) (b ∷ line_bytes bytes) ++ more) ≡ (b == 10)
begins_by b bytes more true = refl
begins_by b bytes more false = refl

begins_same : (bytes more : List ℕ) → has_end bytes ≡ true → begins_with_lf (line_bytes bytes ++ more) ≡ begins_with_lf bytes
begins_same [] more has = absurd (false≢true has)
begins_same (b ∷ bytes) more has = begins_by b bytes more (b == 10)

-- with anything behind them they are the same line, and then that
first_by : (b : ℕ) (bytes more : List ℕ) (t : Bool) → (b == 10) ≡ t → (has_end bytes ≡ true → first_line (line_bytes bytes ++ more) ≡ first_line bytes) → cond t true (has_end bytes) ≡ true
    → first_line (cond t (b ∷ []) (b ∷ line_bytes bytes) ++ more) ≡ cond t [] (cond (is_return b bytes) [] (b ∷ first_line bytes))
first_by b bytes more true e same has = ap (λ s. cond s [] (cond (is_return b more) [] (b ∷ first_line more))) e
first_by b bytes more false e same has =
    ap (λ s. cond s [] (cond (is_return b (line_bytes bytes ++ more)) [] (b ∷ first_line (line_bytes bytes ++ more)))) e
    ∙ (λ k. cond (b == 13 && begins_same bytes more has k) [] (b ∷ same has k))

first_same : (bytes more : List ℕ) → has_end bytes ≡ true → first_line (line_bytes bytes ++ more) ≡ first_line bytes
first_same [] more has = absurd (false≢true has)
first_same (b ∷ bytes) more has = first_by b bytes more (b == 10) refl (first_same bytes more) has

after_by : (b : ℕ) (bytes more : List ℕ) (t : Bool) → (b == 10) ≡ t → (has_end bytes ≡ true → after_line (line_bytes bytes ++ more) ≡ more) → cond t true (has_end bytes) ≡ true
    → after_line (cond t (b ∷ []) (b ∷ line_bytes bytes) ++ more) ≡ more
after_by b bytes more true e same has = ap (λ s. cond s more (after_line more)) e
after_by b bytes more false e same has = ap (λ s. cond s (line_bytes bytes ++ more) (after_line (line_bytes bytes ++ more))) e ∙ same has

after_same : (bytes more : List ℕ) → has_end bytes ≡ true → after_line (line_bytes bytes ++ more) ≡ more
after_same [] more has = absurd (false≢true has)
after_same (b ∷ bytes) more has = after_by b bytes more (b == 10) refl (after_same bytes more) has

some_by : (b : ℕ) (bytes more : List ℕ) (t : Bool) → cond t (b ∷ []) (b ∷ line_bytes bytes) ++ more ≢ []
some_by b bytes more true e = cc
some_by b bytes more false e = cc

not_empty : (bytes more : List ℕ) → has_end bytes ≡ true → line_bytes bytes ++ more ≢ []
not_empty [] more has e = absurd (false≢true has)
not_empty (b ∷ bytes) more has e = some_by b bytes more (b == 10) e

ended_lines : (bytes more : List ℕ) → has_end bytes ≡ true → lines_of (line_bytes bytes ++ more) ≡ first_line bytes ∷ lines_of more
ended_lines bytes more has = lines_more (line_bytes bytes ++ more) (not_empty bytes more has) ∙ (λ k. first_same bytes more has k ∷ lines_of (after_same bytes more has k))

-- ---- bytes that end where a line does

-- whatever comes behind them has lines of its own
abbrev pub EndsLines : List ℕ → Type 0
EndsLines bytes = (more : List ℕ) → lines_of (bytes ++ more) ≡ lines_of bytes ++ lines_of more

pub append_none : {A : Type 0} (p : List A) → p ++ [] ≡ p
append_none [] = refl
append_none (x ∷ p) = ap (λ (q : List _). x ∷ q) (append_none p)

-- a line more is read: what is read then ends where a line does, or nothing is ahead
pub record OneMore (done ahead : List ℕ) : Type 0 where
  pub lines : lines_of (done ++ line_bytes ahead) ≡ lines_of done ++ first_line ahead ∷ []
  pub ends : EndsLines (done ++ line_bytes ahead) ⊎ (after_line ahead ≡ [])

pub one_more : (done ahead : List ℕ) → ahead ≢ [] → EndsLines done → OneMore done ahead
one_more done ahead ne ends = elim (ended_or_last ahead) [
  | inl has ↦
      let own : lines_of (line_bytes ahead) ≡ first_line ahead ∷ [] = ap lines_of (sym (append_none (line_bytes ahead))) ∙ ended_lines ahead [] has in
      let lines = ends (line_bytes ahead) ∙ ap (λ l. lines_of done ++ l) own in
      record {
        lines = lines;
        ends = inl (λ more.
            ap lines_of (append_assoc done (line_bytes ahead) more) ∙ ends (line_bytes ahead ++ more)
            ∙ ap (λ l. lines_of done ++ l) (ended_lines ahead more has) ∙ sym (append_assoc (lines_of done) (first_line ahead ∷ []) (lines_of more))
            ∙ ap (λ l. l ++ lines_of more) (sym lines));
      }
  | inr none ↦
      let same : line_bytes ahead ≡ ahead = sym (line_front ahead ∙ ap (λ l. line_bytes ahead ++ l) none ∙ append_none (line_bytes ahead)) in
      record {
        lines = ends (line_bytes ahead) ∙ ap (λ l. lines_of done ++ l) (ap lines_of same ∙ lines_more ahead ne ∙ ap (λ l. first_line ahead ∷ lines_of l) none);
        ends = inr none;
      }
]

no_end_by : (b : ℕ) (bytes : List ℕ) (t : Bool) → (b == 10) ≡ t → (before_lf bytes ≡ bytes → AllByRecursion (λ b. b ≢ 10) bytes) → cond t [] (b ∷ before_lf bytes) ≡ b ∷ bytes → (b ≢ 10) × AllByRecursion (λ b. b ≢ 10) bytes
no_end_by b bytes true s more e = absurd (cc)
no_end_by b bytes false s more e = (eqb-false b 10 s, more (cc))

-- in what has no LF no line ends
pub no_end : (bytes : List ℕ) → before_lf bytes ≡ bytes → AllByRecursion (λ b. b ≢ 10) bytes
no_end [] e = tt
no_end (b ∷ bytes) e = no_end_by b bytes (b == 10) refl (no_end bytes) e
