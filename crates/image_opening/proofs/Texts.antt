-- The texts of definitions among scanned records are those among the records that are placed.
use Rattle.std.proofs.Common.{◌≡◌, ℕ, ◌+◌, List, [], ◌∷◌, ◌++◌, map, Option, Some, refl, ap, subst, ◌∙◌, arith}
use Rattle.std.specs.Prelude.{reverse}
use Rattle.std.specs.List.{sum}
use Rattle.std.proofs.lemmas.List.{reverse-append}
use Rattle.iv_meaning.specs.Schema.{Schema}
use Rattle.txn_machine.specs.Log.{definition_entries}
use Rattle.txn_machine.specs.Records.{Record, Write, Delta, Ghost, Clean, Undo, Commit, Abort, Definition}
use Rattle.txn_machine.proofs.LogSums.{sum_first}
use Rattle.txn_log.specs.Replay.{What, Wrote, Added, Deed, Event, Pages}
use Rattle.txn_log.specs.Meaning.{definitions}
use Rattle.txn_log.specs.Appended.{Numbered, what_record, written}
use Rattle.txn_log.specs.Refused.{Placed, text_in, text_at, texts_in, CarriedAs, SaidAs}
use Rattle.log_records.specs.declared.record.Scanned.{Scanned}
use Rattle.log_records.specs.Area.{Entry, unplaced}
use Rattle.log_disk.specs.Spelled.{in_bytes}
use Rattle.log_disk.specs.Placed.{StandsFor, AreCarriedAt, AreFurtherAt, known}
use Rattle.log_disk.proofs.Spelling.{said_leads}
use Rattle.log_replay.proofs.Through.{said_known}
use Rattle.record_replay.specs.Texts.{text_entries, texts_entries}
use Rattle.record_replay.proofs.Texts.{sizes, both_sizes}

pub both_texts : (xs ys : List Scanned) → texts_entries (xs ++ ys) ≡ texts_entries xs + texts_entries ys
both_texts [] ys = omega arith
both_texts (x ∷ xs) ys = let rest = both_texts xs ys in omega (arith, rest)

pub same_turned : (xs : List Scanned) → texts_entries (reverse xs) ≡ texts_entries xs
same_turned [] = refl
same_turned (x ∷ xs) =
    let turned = ap texts_entries (reverse-append (x ∷ []) xs) in
    let both = both_texts (reverse xs) (x ∷ []) in
    let rest = same_turned xs in
    omega (arith, turned, both, rest)

-- ---- a record

one_size : (objects : Schema) (of : Record) → text_entries (in_bytes objects of) ≡ sizes (text_in of)
one_size objects (Definition number session text) = let one = sum_first (definition_entries text) [] in omega (arith, one)
one_size objects (Write t c) = refl
one_size objects (Delta t d) = refl
one_size objects (Ghost place) = refl
one_size objects (Clean place) = refl
one_size objects (Undo t n) = refl
one_size objects (Commit t n s) = refl
one_size objects (Abort t) = refl

stands_size : (objects : Schema) (s : Scanned) (n : Numbered) → StandsFor objects (unplaced s) (Some n) → text_entries s.entry ≡ sizes (text_in n.of)
stands_size objects s n h = ap (λ (e : Entry). text_entries e.entry) h.1 ∙ one_size objects n.of

-- ---- carried records have none

no_text : (d : Deed) → sizes (text_in (written d).of) ≡ 0
no_text d = by d.what
  where
    by : (w : What) → sizes (text_in (what_record d.transaction w)) ≡ 0
    by (Wrote c) = refl
    by (Added g) = refl

pub carried_none : (at : ℕ) (objects : Schema) (rs : List Placed) (ds : List Deed) (ss : List Scanned) → CarriedAs objects rs ds → AreCarriedAt at objects rs ss → texts_entries ss ≡ 0
carried_none at objects [] [] [] h a = refl
carried_none at objects [] [] (s ∷ ss) h a = absurd a
carried_none at objects [] (d ∷ ds) ss h a = absurd h
carried_none at objects (r ∷ rs) [] ss h a = absurd h
carried_none at objects (r ∷ rs) (d ∷ ds) [] h a = absurd a
carried_none at objects (r ∷ rs) (d ∷ ds) (s ∷ ss) h a =
    let one : text_entries s.entry ≡ 0 = stands_size objects s (written d) (subst (StandsFor objects (unplaced s)) h.0.0 a.1) ∙ no_text d in
    let rest = carried_none at objects rs ds ss h.1 a.2 in
    omega (arith, one, rest)

-- ---- further records have those that are placed

pub further_texts : (at : ℕ) (p : Pages) (first : List Placed) (ds : List Deed) (rs : List Placed) (es : List Event) (ss : List Scanned) → SaidAs p first ds rs es → AreFurtherAt at p.db.schema rs ss
    → texts_entries ss ≡ sum (map definition_entries (texts_in rs))
further_texts at p first ds [] [] [] h a = refl
further_texts at p first ds [] [] (s ∷ ss) h a = absurd a
further_texts at p first ds [] (e ∷ es) ss h a = absurd h
further_texts at p first ds (r ∷ rs) [] ss h a = absurd h
further_texts at p first ds (r ∷ rs) (e ∷ es) [] h a = absurd a
further_texts at p first ds (r ∷ rs) (e ∷ es) (s ∷ ss) h a =
    let n : Numbered = h.0.0 in
    let before : Schema = definitions p.db.schema es in
    let stands : StandsFor before (unplaced s) (Some n) = subst (StandsFor before (unplaced s)) h.0.1 (a.1 before (said_leads p.db.schema (known rs) es (said_known p first ds rs es h.1))) in
    let one = stands_size before s n stands in
    let rest = further_texts at p first ds rs es ss h.1 a.2 in
    let here : sizes (text_at r.entry) ≡ sizes (text_in n.of) = ap (λ (o : Option Numbered). sizes (text_at o)) h.0.1 in
    let both = both_sizes (texts_in rs) (text_at r.entry) in
    omega (arith, one, rest, here, both)
