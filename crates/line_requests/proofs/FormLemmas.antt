-- What the parts of a line make of it, and lines of no form.
use Rattle.std.proofs.Common.{◌≡◌, ◌≢◌, ◌∙◌, ◌<◌, ◌^◌, ℕ, List, ◌++◌, Result, Ok, Err, refl, sym, ap, subst, arith, inl, inr}
use Rattle.std.specs.Prelude.{codes, decimal}
use Rattle.iv_types.specs.declared.statement.Statement.{Statement}
use Rattle.iv_types.specs.declared.refusal.Refusal.{Refusal}
use Rattle.iv_meaning.specs.Number.{digits_at_front}
use Rattle.iv_meaning.specs.Said.{Said, nothing, too_long, bad, runs, loads, unread, steps, cleans, checkpoints, IsRead, IsRemark, IsMarked, HasForm, SaysRead}
use Rattle.iv_meaning.proofs.NumberLemmas.{one_decimal, number_written}
use Rattle.line_requests.specs.declared.asked.Ask.{Ask}
use Rattle.line_requests.specs.declared.asked.Ask.TheVariants as ask
use Rattle.iv_meaning.proofs.SessionLemmas.{same_text}
use Rattle.line_requests.specs.Parts.{IsNumbered, IsBehindSpaces, IsBehind}
use Rattle.line_requests.specs.Requests.{read_of, SaysOf, WasRead, RunsText, LoadsText}

-- one text stands behind a mark and its spaces
pub one_behind : (mark text rest spaced found : List ℕ) (b : IsBehind mark text rest) → spaced ≡ b.behind → IsBehindSpaces spaced found → found ≡ text
one_behind mark text rest spaced found b e s = same_text s.spaces b.spaced.spaces found text s.only_spaces b.spaced.only_spaces s.unspaced b.spaced.unspaced (sym s.whole ∙ e ∙ b.spaced.whole)

-- ---- lines that have a form

pub was_read : (text : List ℕ) (read : Result Statement Refusal) → IsRead text (read_of read) → WasRead read
was_read text (Ok statement) h = (text, h)
was_read text (Err why) h = tt

module _ (session : ℕ) (rest line : List ℕ) (h : IsNumbered session rest line) where
  small : session < 2 ^ 64
  small = omega (arith, h.of_session.1)

  pub marked : (mark text : List ℕ) → IsBehind mark text rest → IsMarked mark session text line
  marked mark text b = record {
    first = h.of_session.0;
    last = h.of_session.1;
    spaces = b.spaced.spaces;
    only_spaces = b.spaced.only_spaces;
    written = h.written ∙ ap (λ (xs : List ℕ). decimal session ++ xs) (b.written ∙ ap (λ (xs : List ℕ). mark ++ xs) b.spaced.whole);
    unspaced = b.spaced.unspaced;
    readable = b.readable;
  }

  pub to_run : (text : List ℕ) (a : Ask) → IsBehind (codes ":") text rest → RunsText text a → (said : Said) → SaysOf session a said → SaysRead line said
  to_run text (ask.Runs read) b t said (inl e) = subst (SaysRead line) (sym e) (text, marked (codes ":") text b, t)
  to_run text (ask.Runs read) b t said (inr e) = subst (SaysRead line) (sym e) (text, inl (marked (codes ":") text b))
  to_run text ask.Unread b t said e = subst (SaysRead line) (sym e) (text, inl (marked (codes ":") text b))
  to_run text (ask.Loads read) b t said e = absurd t
  to_run text ask.Steps b t said e = absurd t

  pub to_load : (text : List ℕ) (a : Ask) → IsBehind (codes "/") text rest → LoadsText text a → (said : Said) → SaysOf session a said → SaysRead line said
  to_load text (ask.Loads read) b t said (inl e) = subst (SaysRead line) (sym e) (text, marked (codes "/") text b, t)
  to_load text (ask.Loads read) b t said (inr e) = subst (SaysRead line) (sym e) (text, inr (marked (codes "/") text b))
  to_load text ask.Unread b t said e = subst (SaysRead line) (sym e) (text, inr (marked (codes "/") text b))
  to_load text (ask.Runs read) b t said e = absurd t
  to_load text ask.Steps b t said e = absurd t

  -- ---- lines that have none

  begins_with_digit : digits_at_front line ≡ 0 → ⊥
  begins_with_digit none = let some = (number_written session rest line small h.ends h.written).0.some in omega (arith, some, none)

  -- what stands behind another number that the line begins with
  same_rest : (another : ℕ) (other : List ℕ) → another < 2 ^ 64 → digits_at_front other ≡ 0 → line ≡ decimal another ++ other → rest ≡ other
  same_rest another other less none e = (one_decimal session another rest other small less h.ends none (sym h.written ∙ e)).1

  behind : (mark text : List ℕ) (another : ℕ) → ((xs : List ℕ) → digits_at_front (mark ++ xs) ≡ 0) → IsMarked mark another text line → IsBehind mark text rest
  behind mark text another none m = record {
    behind = m.spaces ++ text;
    written = same_rest another (mark ++ (m.spaces ++ text)) (omega (arith, m.last)) (none (m.spaces ++ text)) m.written;
    spaced = record { spaces = m.spaces; only_spaces = m.only_spaces; whole = refl; unspaced = m.unspaced };
    readable = m.readable;
  }

  pub no_form : rest ≢ codes "+" → ((text : List ℕ) → ¬ (IsBehind (codes ":") text rest)) → ((text : List ℕ) → ¬ (IsBehind (codes "/") text rest)) → (form : Said) → ¬ (HasForm line form)
  no_form plus colon slash nothing (inl e) = begins_with_digit (ap digits_at_front e)
  no_form plus colon slash nothing (inr r) = begins_with_digit (ap digits_at_front r.1)
  no_form plus colon slash too_long f = f
  no_form plus colon slash bad f = f
  no_form plus colon slash (unread another) f = f
  no_form plus colon slash (runs another read) f = colon f.0 (behind (codes ":") f.0 another (λ xs. refl) f.1)
  no_form plus colon slash (loads another read) f = slash f.0 (behind (codes "/") f.0 another (λ xs. refl) f.1)
  no_form plus colon slash (steps another) f = plus (same_rest another (codes "+") (omega (arith, f.last)) refl f.written)
  no_form plus colon slash cleans f = begins_with_digit (ap digits_at_front f)
  no_form plus colon slash checkpoints f = begins_with_digit (ap digits_at_front f)

-- a line that begins with no session's number, and is none of those that need none
pub unnumbered : (line : List ℕ) → ¬ (IsRemark line) → line ≢ codes "clean" → line ≢ codes "checkpoint" → ((session : ℕ) (rest : List ℕ) → ¬ (IsNumbered session rest line)) → (form : Said) → ¬ (HasForm line form)
unnumbered line remark clean checkpoint none nothing f = remark f
unnumbered line remark clean checkpoint none too_long f = f
unnumbered line remark clean checkpoint none bad f = f
unnumbered line remark clean checkpoint none (unread session) f = f
unnumbered line remark clean checkpoint none (runs session read) f = none session (codes ":" ++ (f.1.spaces ++ f.0)) (record { of_session = (f.1.first, f.1.last); written = f.1.written; ends = refl })
unnumbered line remark clean checkpoint none (loads session read) f = none session (codes "/" ++ (f.1.spaces ++ f.0)) (record { of_session = (f.1.first, f.1.last); written = f.1.written; ends = refl })
unnumbered line remark clean checkpoint none (steps session) f = none session (codes "+") (record { of_session = (f.first, f.last); written = f.written; ends = refl })
unnumbered line remark clean checkpoint none cleans f = clean f
unnumbered line remark clean checkpoint none checkpoints f = checkpoint f
