-- What is known in the middle of a line.
use Rattle.std.proofs.Common.{◌≡◌, ◌≢◌, ◌<◌, ◌+◌, ℕ, Bool, true, false, cond, List, [], ◌∷◌, ◌++◌, length, Option, Some, refl, ap, sym, subst, ◌∙◌, arith, append_assoc, length-append, inl, inr}
use Rattle.std.specs.Prelude.{◌⊎◌, ◌==◌, nat_lt}
use Rattle.std.proofs.lemmas.Bool.{eqb-true, eqb-false}
use Rattle.std.proofs.lemmas.Bool.Decides.{nat_tests}
use Rattle.iv_meaning.specs.Lines.{first_line, after_line, longest_line}
use Rattle.line_wire.specs.Reading.{Reading, most_kept, before_lf, DropsReturn}
use Rattle.line_wire.specs.declared.line.Line.{Line}
use Rattle.line_wire.specs.declared.line.Line.TheVariants.{Text, TooLong, End}
use Rattle.line_wire.specs.Found.{Reads, Counted, FoundLine, NoLineTaken, Filled}
use Rattle.line_wire.proofs.FirstLine.{before_lf-append, after_line-append, before_lf_twice, line_unended, line_ended, line_size}

-- the front of `all` was read, with no line end in it, and `text` is what is kept of it
pub record InLine (text : List ℕ) (long : Bool) (all ahead : List ℕ) : Type 0 where
  pub front : List ℕ
  pub whole : all ≡ front ++ ahead
  pub no_end : before_lf front ≡ front
  pub kept : long ≡ false → text ≡ front
  pub longer : long ≡ true → most_kept < length front

-- the same, with what the source has left
pub record Gathering (long : Bool) (all : List ℕ) (before size : ℕ) (now : Reading) (left : Option (List ℕ)) : Type 0 where
  pub counted : Counted before size now left
  pub line : InLine now.text long all (now.held ++ counted.rest)

-- what a piece of the line does to the text
pub record Adds (long before : Bool) (old new piece : List ℕ) : Type 0 where
  pub text : long ≡ false → (before ≡ false) × (new ≡ old ++ piece)
  pub longer : long ≡ true → (before ≡ true) ⊎ (most_kept < length old + length piece)

nothing : (p : List ℕ) → p ++ [] ≡ p
nothing [] = refl
nothing (x ∷ p) = ap (λ (q : List ℕ). x ∷ q) (nothing p)

-- a line begins
begun : (all : List ℕ) → InLine [] false all all
begun all = record { front = []; whole = refl; no_end = refl; kept = λ e. refl; longer = λ e. cc }

longer_by : (before long : Bool) (old front piece : List ℕ) → (before ≡ false → old ≡ front) → (before ≡ true → most_kept < length front) → (before ≡ true) ⊎ (most_kept < length old + length piece) → most_kept < length (front ++ piece)
longer_by before long old front piece kept longer (inl b) = omega (arith, length-append front piece, longer b)
longer_by true long old front piece kept longer (inr l) = omega (arith, length-append front piece, longer refl)
longer_by false long old front piece kept longer (inr l) = omega (arith, length-append front piece, ap length (kept refl))

-- one piece more, in which no line ends
more : (before long : Bool) (old new piece all ahead : List ℕ) → before_lf piece ≡ piece → Adds long before old new piece → InLine old before all (piece ++ ahead) → InLine new long all ahead
more before long old new piece all ahead e adds h = record {
  front = h.front ++ piece;
  whole = h.whole ∙ sym (append_assoc h.front piece ahead);
  no_end = before_lf-append h.front piece h.no_end ∙ ap (λ (xs : List ℕ). h.front ++ xs) e;
  kept = λ f. let t = adds.text f in t.1 ∙ ap (λ (xs : List ℕ). xs ++ piece) (h.kept t.0);
  longer = λ f. longer_by before long old h.front piece h.kept h.longer (adds.longer f);
}

not_empty : (p : List ℕ) (b : ℕ) (q : List ℕ) → p ++ b ∷ q ≢ []
not_empty [] b q e = cc
not_empty (x ∷ p) b q e = cc

-- a line that was read to its end, by its size
by_size : (t : Bool) (text all ahead : List ℕ) → nat_lt longest_line (length text) ≡ t → all ≢ [] → first_line all ≡ text → after_line all ≡ ahead → Reads (cond t TooLong Text) all text ahead
by_size true text all ahead e ne first after = (ne, subst (λ (xs : List ℕ). longest_line < length xs) (sym first) (grind (arith, nat_tests)), sym after)
by_size false text all ahead e ne first after = (ne, grind (arith, nat_tests), sym first, sym after)

ends_by : (long : Bool) (raw text front all ahead : List ℕ) → before_lf front ≡ front → all ≡ front ++ 10 ∷ ahead → (long ≡ false → raw ≡ front) → (long ≡ true → most_kept < length front) → DropsReturn raw text → Reads (cond long TooLong (cond (nat_lt longest_line (length text)) TooLong Text)) all text ahead
ends_by true raw text front all ahead no_end whole kept longer trim =
    let after : after_line all ≡ ahead = ap after_line whole ∙ after_line-append front (10 ∷ ahead) no_end in
    (λ z. not_empty front 10 ahead (sym whole ∙ z), omega (arith, longer refl, line_size front ahead no_end, ap (λ (xs : List ℕ). length (first_line xs)) whole), sym after)
ends_by false raw text front all ahead no_end whole kept longer trim =
    let after : after_line all ≡ ahead = ap after_line whole ∙ after_line-append front (10 ∷ ahead) no_end in
    let first : first_line all ≡ text = ap first_line whole ∙ line_ended front ahead text no_end (subst (λ (xs : List ℕ). DropsReturn xs text) (kept refl) trim) in
    by_size (nat_lt longest_line (length text)) text all ahead refl (λ z. not_empty front 10 ahead (sym whole ∙ z)) first after

-- a line that ends
ends : (before long : Bool) (old new text piece all ahead : List ℕ) → before_lf piece ≡ piece → Adds long before old new piece → DropsReturn new text → InLine old before all (piece ++ 10 ∷ ahead) → Reads (cond long TooLong (cond (nat_lt longest_line (length text)) TooLong Text)) all text ahead
ends before long old new text piece all ahead e adds trim h =
    let m : InLine new long all (10 ∷ ahead) = more before long old new piece all (10 ∷ ahead) e adds h in
    ends_by long new text m.front all ahead m.no_end m.whole m.kept m.longer trim

is_front : (all front : List ℕ) → all ≡ front ++ [] → all ≡ front
is_front all front e = e ∙ nothing front

empty : (xs : List ℕ) → length xs ≡ 0 → xs ≡ []
empty [] e = refl
empty (x ∷ xs) e = absurd (omega arith)

-- a last line, without its end
unended : (text all : List ℕ) (s t : Bool) → nat_lt longest_line (length text) ≡ s → (length text == 0) ≡ t → first_line all ≡ all → after_line all ≡ [] → all ≡ text → Reads (cond s TooLong (cond t End Text)) all text []
unended text all true t e f first after same = (λ z. absurd (let zero : length text ≡ 0 = ap length (sym same ∙ z) in grind (arith, nat_tests)), (let size : length (first_line all) ≡ length text = ap length (first ∙ same) in grind (arith, nat_tests)), sym after)
unended text all false true e f first after same = (same ∙ empty text (eqb-true (length text) 0 f), refl)
unended text all false false e f first after same = (λ z. eqb-false (length text) 0 f (ap length (sym same ∙ z)), grind (arith, nat_tests), sym (first ∙ same), sym after)

unended_by : (long : Bool) (text all front : List ℕ) → all ≡ front → before_lf front ≡ front → (long ≡ false → text ≡ front) → (long ≡ true → most_kept < length front) → Reads (cond long TooLong (cond (nat_lt longest_line (length text)) TooLong (cond (length text == 0) End Text))) all text []
unended_by true text all front same no_end kept longer =
    let first : first_line all ≡ front = ap first_line same ∙ line_unended front no_end in
    let after : after_line all ≡ [] = ap after_line (same ∙ sym (nothing front)) ∙ after_line-append front [] no_end in
    (λ z. omega (arith, longer refl, ap length (sym same ∙ z)), omega (arith, longer refl, ap length first), sym after)
unended_by false text all front same no_end kept longer =
    let first : first_line all ≡ front = ap first_line same ∙ line_unended front no_end in
    let after : after_line all ≡ [] = ap after_line (same ∙ sym (nothing front)) ∙ after_line-append front [] no_end in
    unended text all (nat_lt longest_line (length text)) (length text == 0) refl refl (first ∙ sym same) after (same ∙ sym (kept refl))

-- what stands at the end of the input
last_line : (long : Bool) (text all : List ℕ) → InLine text long all [] → Reads (cond long TooLong (cond (nat_lt longest_line (length text)) TooLong (cond (length text == 0) End Text))) all text []
last_line long text all h = unended_by long text all h.front (is_front all h.front h.whole) h.no_end h.kept h.longer

-- a call begins
pub gathering_begun : (old now : Reading) (bytes : List ℕ) (left : Option (List ℕ)) → left ≡ Some bytes → now.held ≡ old.held → now.taken ≡ old.taken → now.text ≡ [] → Gathering false (old.held ++ bytes) old.taken (length bytes) now left
gathering_begun old now bytes left tells held taken text = record {
  counted = record { rest = bytes; tells = tells; count = omega (arith, taken) };
  line = subst (λ (t : List ℕ). InLine t false (old.held ++ bytes) (now.held ++ bytes)) (sym text) (subst (λ (h : List ℕ). InLine [] false (old.held ++ bytes) (h ++ bytes)) (sym held) (begun (old.held ++ bytes)));
}

-- the line's LF was held
pub gathering_ends : (before long : Bool) (all : List ℕ) (was size : ℕ) (old mid new : Reading) (left : Option (List ℕ)) → Gathering before all was size old left → old.held ≡ before_lf old.held ++ 10 ∷ mid.held → Adds long before old.text mid.text (before_lf old.held) → mid.taken ≡ old.taken → DropsReturn mid.text new.text → new.held ≡ mid.held → new.taken ≡ mid.taken → (line : Line) → line ≡ cond long TooLong (cond (nat_lt longest_line (length new.text)) TooLong Text) → FoundLine line all was size new left
gathering_ends before long all was size old mid new left g end adds taken trim held took line is =
    let rest = g.counted.rest in
    let ahead : old.held ++ rest ≡ before_lf old.held ++ 10 ∷ (mid.held ++ rest) = ap (λ (xs : List ℕ). xs ++ rest) end ∙ append_assoc (before_lf old.held) (10 ∷ mid.held) rest in
    let found = ends before long old.text mid.text new.text (before_lf old.held) all (mid.held ++ rest) (before_lf_twice old.held) adds trim (subst (λ (xs : List ℕ). InLine old.text before all xs) ahead g.line) in
    record {
      counted = record { rest = rest; tells = g.counted.tells; count = omega (arith, g.counted.count, taken, took) };
      reads = subst (λ (l : Line). Reads l all new.text (new.held ++ rest)) (sym is) (subst (λ (xs : List ℕ). Reads (cond long TooLong (cond (nat_lt longest_line (length new.text)) TooLong Text)) all new.text (xs ++ rest)) (sym held) found);
    }

-- all that was held is of the line, and more was taken
pub gathering_more : (before long : Bool) (all : List ℕ) (was size count : ℕ) (old mid new : Reading) (left left' : Option (List ℕ)) → Gathering before all was size old left → before_lf old.held ≡ old.held → Adds long before old.text mid.text (before_lf old.held) → mid.taken ≡ old.taken → ((bytes : List ℕ) → left ≡ Some bytes → Filled bytes count mid.taken new left') → new.text ≡ mid.text → Gathering long all was size new left'
gathering_more before long all was size count old mid new left left' g end adds taken fills text =
    let f = fills g.counted.rest g.counted.tells in
    let ahead : old.held ++ g.counted.rest ≡ before_lf old.held ++ (new.held ++ f.rest) = ap (λ (xs : List ℕ). xs ++ g.counted.rest) (sym end) ∙ ap (λ (xs : List ℕ). before_lf old.held ++ xs) (sym f.same) in
    record {
      counted = record { rest = f.rest; tells = f.tells; count = omega (arith, g.counted.count, f.count_is, taken) };
      line = subst (λ (t : List ℕ). InLine t long all (new.held ++ f.rest)) (sym text)
          (more before long old.text mid.text (before_lf old.held) all (new.held ++ f.rest) (before_lf_twice old.held) adds (subst (λ (xs : List ℕ). InLine old.text before all xs) ahead g.line));
    }

-- no more is taken
pub gathering_stops : (before : Bool) (all : List ℕ) (was size : ℕ) (old new : Reading) (left left' : Option (List ℕ)) → Gathering before all was size old left → before_lf old.held ≡ old.held → new.taken ≡ old.taken → ((bytes : List ℕ) → left ≡ Some bytes → left' ≡ Some bytes) → NoLineTaken all was size new left'
gathering_stops before all was size old new left left' g end taken stays = record {
  counted = record { rest = g.counted.rest; tells = stays g.counted.rest g.counted.tells; count = omega (arith, g.counted.count, taken) };
  front = g.line.front ++ old.held;
  whole = g.line.whole ∙ sym (append_assoc g.line.front old.held g.counted.rest);
  no_lf = before_lf-append g.line.front old.held g.line.no_end ∙ ap (λ (xs : List ℕ). g.line.front ++ xs) end;
}

-- nothing was left to be taken
pub gathering_last : (before long : Bool) (all : List ℕ) (was size count : ℕ) (old mid new : Reading) (left left' : Option (List ℕ)) → Gathering before all was size old left → before_lf old.held ≡ old.held → Adds long before old.text mid.text (before_lf old.held) → mid.taken ≡ old.taken → ((bytes : List ℕ) → left ≡ Some bytes → Filled bytes count mid.taken new left') → count ≡ 0 → new.text ≡ mid.text → (line : Line) → line ≡ cond long TooLong (cond (nat_lt longest_line (length new.text)) TooLong (cond (length new.text == 0) End Text)) → FoundLine line all was size new left'
unfolding gathering_more
gathering_last before long all was size count old mid new left left' g end adds taken fills nothing_taken text line is =
    let f = fills g.counted.rest g.counted.tells in
    let h : Gathering long all was size new left' = gathering_more before long all was size count old mid new left left' g end adds taken fills text in
    let over : new.held ++ f.rest ≡ [] = f.same ∙ f.end nothing_taken in
    record {
      counted = h.counted;
      reads = subst (λ (l : Line). Reads l all new.text (new.held ++ f.rest)) (sym is)
          (subst (λ (xs : List ℕ). Reads (cond long TooLong (cond (nat_lt longest_line (length new.text)) TooLong (cond (length new.text == 0) End Text))) all new.text xs) (sym over)
          (last_line long new.text all (subst (λ (xs : List ℕ). InLine new.text long all xs) over h.line)));
    }
