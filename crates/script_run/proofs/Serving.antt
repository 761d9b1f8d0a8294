-- A run that has answered some lines.
use Rattle.std.proofs.Common.{◌≡◌, ◌≢◌, ◌<◌, ◌+◌, ℕ, List, [], ◌∷◌, ◌++◌, length, take, drop, Option, Some, refl, ap, sym, subst, ◌∙◌, arith, append_assoc, inl, inr}
use Rattle.std.specs.Prelude.{◌⊎◌}
use Rattle.std.specs.List.{AllZip}
use Rattle.std.proofs.lemmas.List.{take-append-drop}
use Rattle.iv_meaning.specs.Lines.{first_line, after_line, lines_of}
use Rattle.iv_meaning.specs.Database.{Database}
use Rattle.iv_meaning.specs.Said.{Said, too_long, Says}
use Rattle.iv_meaning.specs.Serial.{opened_with}
use Rattle.iv_meaning.specs.Script.{IsOutput, AnswersFirst}
use Rattle.txn_machine.specs.Log.{Opening}
use Rattle.txn_machine.specs.State.{State}
use Rattle.txn_machine.specs.Alone.{Story}
use Rattle.line_wire.specs.Wire.{WroteFront, most_bytes}
use Rattle.line_wire.specs.Reading.{Reading}
use Rattle.line_wire.specs.Found.{FoundLine, NoLineTaken, Reads}
use Rattle.line_wire.specs.declared.line.Line.{Line}
use Rattle.line_wire.specs.declared.line.Line.TheVariants.{Text, TooLong, End}
use Rattle.session_table.specs.declared.slot.Slot.{Slot}
use Rattle.session_table.specs.Going.{StandsIn}
use Rattle.session_table.specs.Slots.{table_of}
use Rattle.session_table.proofs.Leading.{line_leads}
use Rattle.script_run.specs.Lines.{HasRun, RanOneMore}
use Rattle.script_run.specs.Writing.{MovesOn, Finishes, FinishFaults}
use Rattle.script_run.specs.Run.{Answered, AnswersTaken, Output, Taken, TookAll}
use Rattle.script_run.specs.declared.status.Status.{Status}
use Rattle.script_run.specs.declared.status.Status.TheVariants.{WriteFault}
use Rattle.script_run.proofs.Apart.{EndsLines, append_none, line_bytes, line_front, lines_more, no_end, one_more}
use Rattle.script_run.proofs.Ran.{serial}
use Rattle.script_run.proofs.Going.{goes_on, has_left}

-- What was read ends where a line does, and its lines were run. What was written and what waits is what they printed.
pub record Serving (db : Database) (opening : Opening) (input before : List ℕ) (now : Reading) (left written : Option (List ℕ)) (waiting : List ℕ) (slots : List Slot) (s : Story) : Type 0 where
  pub opens : s.state.opening ≡ opening
  pub rest : List ℕ
  pub tells : left ≡ Some rest
  pub count : now.taken + length rest ≡ length input
  pub out : List ℕ
  pub wrote : written ≡ Some (before ++ out)
  pub read : List ℕ
  pub split : input ≡ read ++ (now.held ++ rest)
  pub apart : lines_of input ≡ lines_of read ++ lines_of (now.held ++ rest)
  pub ends_lines : EndsLines read ⊎ (now.held ++ rest ≡ [])
  pub said : List Said
  pub says : AllZip Says (lines_of read) said
  pub ran : HasRun db said (out ++ waiting) slots s

-- one more of each
zip_more : {A B : Type 0} (R : A → B → Type 0) (xs : List A) (ys : List B) (x : A) (y : B) → AllZip R xs ys → R x y → AllZip R (xs ++ x ∷ []) (ys ++ y ∷ [])
zip_more R [] [] x y h r = (r, tt)
zip_more R [] (b ∷ ys) x y h r = absurd h
zip_more R (a ∷ xs) [] x y h r = absurd h
zip_more R (a ∷ xs) (b ∷ ys) x y h r = (h.0, zip_more R xs ys x y h.1 r)

-- a run begins
pub begun : (db : Database) (opening : Opening) (input before : List ℕ) (now : Reading) (left written : Option (List ℕ)) (slots : List Slot) (s : Story) → now.held ≡ [] → now.taken ≡ 0 → left ≡ Some input → written ≡ Some before → AllZip Says [] []
    → HasRun db [] [] slots s → s.state.opening ≡ opening → Serving db opening input before now left written [] slots s
begun db opening input before now left written slots s held taken l w none ran opens = record {
  opens = opens;
  rest = input;
  tells = l;
  count = omega (arith, taken);
  out = [];
  wrote = w ∙ ap Some (sym (append_none before));
  read = [];
  split = ap (λ (h : List ℕ). h ++ input) (sym held);
  apart = ap (λ (h : List ℕ). lines_of (h ++ input)) (sym held);
  ends_lines = inl (λ more. refl);
  said = [];
  says = none;
  ran = ran;
}

module _ (db : Database) (opening : Opening) (input before : List ℕ) (now : Reading) (left written : Option (List ℕ)) (waiting : List ℕ) (slots : List Slot) (s : Story) (h : Serving db opening input before now left written waiting slots s) where
  -- some of what waited was written
  pub moved : (written' : Option (List ℕ)) (waiting' : List ℕ) → MovesOn (before ++ h.out) waiting waiting' written' → Serving db opening input before now left written' waiting' slots s
  moved written' waiting' m = record {
    opens = h.opens;
    rest = h.rest;
    tells = h.tells;
    count = h.count;
    out = h.out ++ m.front;
    wrote = m.wrote ∙ ap Some (append_assoc before h.out m.front);
    read = h.read;
    split = h.split;
    apart = h.apart;
    ends_lines = h.ends_lines;
    said = h.said;
    says = h.says;
    ran = subst (λ (xs : List ℕ). HasRun db h.said xs slots s) (sym (append_assoc h.out m.front waiting' ∙ ap (λ (xs : List ℕ). h.out ++ xs) m.whole)) h.ran;
  }

  -- the lines so far
  so_far : IsOutput (opened_with db) h.read (h.out ++ waiting)
  so_far = (h.said, h.says, serial db h.said (h.out ++ waiting) slots s h.ran)

  pub first_lines : AnswersFirst (opened_with db) input (h.out ++ waiting)
  first_lines = (lines_of h.read, lines_of (now.held ++ h.rest), h.apart, so_far)

  -- no line ends in what else was taken
  pub taken_lines : (next : Reading) (left' : Option (List ℕ)) → NoLineTaken (now.held ++ h.rest) now.taken (length h.rest) next left' → AnswersTaken db input left' (h.out ++ waiting)
  taken_lines next left' f = record {
    lines = h.read;
    begun = f.front;
    rest = f.counted.rest;
    tells = f.counted.tells;
    split = h.split ∙ ap (λ (l : List ℕ). h.read ++ l) f.whole;
    apart = h.apart ∙ ap (λ (l : List ℕ). lines_of h.read ++ lines_of l) f.whole;
    no_end = no_end f.front f.no_lf;
    answered = so_far;
  }

  -- the whole input was read
  pub whole : (next : Reading) (left' : Option (List ℕ)) → FoundLine End (now.held ++ h.rest) now.taken (length h.rest) next left' → IsOutput (opened_with db) input (h.out ++ waiting)
  unfolding so_far
  whole next left' f =
      let all : lines_of input ≡ lines_of h.read = h.apart ∙ ap (λ (l : List ℕ). lines_of h.read ++ lines_of l) f.reads.0 ∙ append_none (lines_of h.read) in
      (h.said, subst (λ (ls : List (List ℕ)). AllZip Says ls h.said) (sym all) h.says, so_far.2)

  -- with the front of what waits written
  pub front : (left' written' : Option (List ℕ)) → WroteFront (before ++ h.out) waiting written' → Output db WriteFault input before left' written'
  front left' written' f = record {
    out = h.out ++ take f.count waiting;
    wrote = f.same ∙ ap Some (append_assoc before h.out (take f.count waiting));
    answered = (
      drop f.count waiting,
      subst (λ (xs : List ℕ). AnswersFirst (opened_with db) input xs) (sym (append_assoc h.out (take f.count waiting) (drop f.count waiting) ∙ ap (λ (xs : List ℕ). h.out ++ xs) (take-append-drop f.count waiting))) first_lines,
    );
  }

  -- a run that ends with what waits
  pub ended : (status result : Status) (left' written' : Option (List ℕ)) → Finishes status result (before ++ h.out) waiting written' → Answered db status input left' (h.out ++ waiting) → Output db result input before left' written'
  ended status result left' written' (inl f) a = subst (λ (r : Status). Output db r input before left' written') (sym f.0) (record { out = h.out ++ waiting; wrote = f.1 ∙ ap Some (append_assoc before h.out waiting); answered = a })
  ended status result left' written' (inr f) a = subst (λ (r : Status). Output db r input before left' written') (sym f.0) (front left' written' f.1)

-- ---- a line more

-- what the line that was read may say
abbrev pub MaySay : Line → List ℕ → Said → Type 0
MaySay Text text said = Says text said
MaySay TooLong text said = said ≡ too_long
MaySay End text said = ⊥

line_says : (line : Line) (ahead text then_ : List ℕ) (said : Said) → Reads line ahead text then_ → MaySay line text said → (ahead ≢ []) × Says (first_line ahead) said × (then_ ≡ after_line ahead)
line_says Text ahead text then_ said r m = (r.0, subst (λ l. Says l said) r.2 m, r.3)
line_says TooLong ahead text then_ said r m = (r.0, inl (r.1, m), r.2)
line_says End ahead text then_ said r m = absurd m

-- where nothing is ahead no line is read
is_ended : (read ahead : List ℕ) → ahead ≢ [] → EndsLines read ⊎ (ahead ≡ []) → EndsLines read
is_ended read ahead ne (inl ends) = ends
is_ended read ahead ne (inr none) = absurd (ne none)

-- a line was read and answered
pub served : (db : Database) (opening : Opening) (input before : List ℕ) (line : Line) (now next : Reading) (left left' written : Option (List ℕ)) (waiting waiting' : List ℕ) (slots slots' : List Slot) (s after : Story)
    → (h : Serving db opening input before now left written waiting slots s) → FoundLine line (now.held ++ h.rest) now.taken (length h.rest) next left'
    → RanOneMore db h.said (h.out ++ waiting) (MaySay line next.text) slots s waiting waiting' slots' after → Serving db opening input before next left' written waiting' slots' after
served db opening input before line now next left left' written waiting waiting' slots slots' s after h f a =
    let ahead : List ℕ = now.held ++ h.rest in
    let l = line_says line ahead next.text (next.held ++ f.counted.rest) a.said f.reads a.says in
    let one = one_more h.read ahead l.0 (is_ended h.read ahead l.0 h.ends_lines) in
    record {
      opens = (goes_on s after (has_left db h.said (h.out ++ waiting) slots s h.ran).reached (line_leads a.said (table_of slots) s a.piece (table_of slots') after a.run)).opening ∙ h.opens;
      rest = f.counted.rest;
      tells = f.counted.tells;
      count = omega (arith, f.counted.count, h.count);
      out = h.out;
      wrote = h.wrote;
      read = h.read ++ line_bytes ahead;
      split = h.split ∙ ap (λ (l : List ℕ). h.read ++ l) (line_front ahead) ∙ sym (append_assoc h.read (line_bytes ahead) (after_line ahead)) ∙ ap (λ (x : List ℕ). (h.read ++ line_bytes ahead) ++ x) (sym l.2);
      apart = h.apart ∙ ap (λ (ls : List (List ℕ)). lines_of h.read ++ ls) (lines_more ahead l.0) ∙ sym (append_assoc (lines_of h.read) (first_line ahead ∷ []) (lines_of (after_line ahead)))
          ∙ (λ k. sym one.lines k ++ lines_of (sym l.2 k));
      ends_lines = elim one.ends [ inl ends ↦ inl ends | inr none ↦ inr (l.2 ∙ none) ];
      said = h.said ++ a.said ∷ [];
      says = subst (λ (ls : List (List ℕ)). AllZip Says ls (h.said ++ a.said ∷ [])) (sym one.lines) (zip_more Says (lines_of h.read) h.said (first_line ahead) a.said h.says l.1);
      ran = subst (λ (xs : List ℕ). HasRun db (h.said ++ a.said ∷ []) xs slots' after) (append_assoc h.out waiting a.piece ∙ ap (λ (xs : List ℕ). h.out ++ xs) (sym a.told)) a.ran;
    }

-- ---- ends

-- the engine stands in a state of a story in which so much was read and written
pub so_written : {Stands : State → Type 0} (db : Database) (opening : Opening) (status result : Status) (input before : List ℕ) (now : Reading) (left left' written written' : Option (List ℕ)) (waiting waiting' : List ℕ) (slots : List Slot)
    → StandsIn Stands (Serving db opening input before now left written waiting slots)
    → ((s : Story) (h : Serving db opening input before now left written waiting slots s) → Answered db status input left' (h.out ++ waiting))
    → ((out : List ℕ) → written ≡ Some (before ++ out) → Finishes status result (before ++ out) waiting' written') → waiting' ≡ waiting → Output db result input before left' written'
so_written db opening status result input before now left left' written written' waiting waiting' slots i answered finishes same =
    let h = i.holds in
    ended db opening input before now left written waiting slots i.story h status result left' written'
    (subst (λ (waits : List ℕ). Finishes status result (before ++ h.out) waits written') same (finishes h.out h.wrote)) (answered i.story h)

-- where some of what waited was written before
pub so_moved : {Stands : State → Type 0} (db : Database) (opening : Opening) (input before : List ℕ) (now : Reading) (left written written' : Option (List ℕ)) (waiting waiting' : List ℕ) (slots : List Slot)
    → StandsIn Stands (Serving db opening input before now left written waiting slots) → ((out : List ℕ) → written ≡ Some (before ++ out) → MovesOn (before ++ out) waiting waiting' written')
    → StandsIn Stands (Serving db opening input before now left written' waiting' slots)
so_moved db opening input before now left written written' waiting waiting' slots i moves = record {
  story = i.story;
  stands = i.stands;
  holds = moved db opening input before now left written waiting slots i.story i.holds written' waiting' (moves i.holds.out i.holds.wrote);
}

nothing_left : (a b : List ℕ) → a ++ b ≡ [] → b ≡ []
nothing_left [] b e = e
nothing_left (x ∷ a) b e = absurd (cc)

pub took_all : (input : List ℕ) (now next : Reading) (rest : List ℕ) (left' : Option (List ℕ)) → now.taken + length rest ≡ length input → FoundLine End (now.held ++ rest) now.taken (length rest) next left' → next.taken < most_bytes → TookAll input left'
took_all input now next rest left' count f less =
    let none : f.counted.rest ≡ [] = nothing_left next.held f.counted.rest f.reads.1 in
    record { none = f.counted.tells ∙ ap Some none; less = omega (arith, count, f.counted.count, ap length none) }

-- nothing is said of what was taken where the sink failed
pub taken_by : (status result : Status) (before now : ℕ) (input : List ℕ) (left : Option (List ℕ)) → FinishFaults status result before now → Taken status input left → Taken result input left
taken_by status result before now input left (inl f) t = subst (λ (r : Status). Taken r input left) (sym f.0) t
taken_by status result before now input left (inr f) t = subst (λ (r : Status). Taken r input left) (sym f.0) tt
