-- What is told of all records of an image.
use Rattle.std.proofs.Common.{◌≡◌, ℕ, zero, suc, ◌-◌, ◌<◌, ◌≤◌, true, false, cond, List, [], ◌∷◌, ◌++◌, length, take, drop, Option, Result, Ok, refl, sym, ap, subst, ◌∙◌, arith}
use Rattle.std.specs.Prelude.{◌↔◌, nat_lt, IfOk, OnOk, Err}
use Rattle.std.specs.List.{AllByRecursion}
use Rattle.std.proofs.lemmas.List.Elements.{recursion_from_All}
use Rattle.std.proofs.lemmas.Bool.Decides.{nat_tests}
use Rattle.std.proofs.lemmas.List.{length-drop}
use Rattle.iv_types.specs.Maps.{Map}
use Rattle.txn_log.specs.Replay.{Deed, Event, Reading}
use Rattle.txn_log.specs.Fitting.{AreBelow}
use Rattle.txn_log.specs.Refused.{PlacedImage, PassesAs, BadImage, IsRefused, carried, further, reversal}
use Rattle.image_finding.specs.declared.fault.BadImage as told
use Rattle.image_finding.specs.declared.fault.FindFault.{FindFault}
use Rattle.image_finding.specs.declared.fault.FindFault.TheVariants as faults
use Rattle.image_finding.specs.Faults.{told_by, IfBad}
use Rattle.log_records.specs.declared.record.Scanned.{Scanned}
use Rattle.record_replay.specs.declared.answer.Replayed.{Replayed}
use Rattle.record_replay.specs.declared.answer.Replayed.TheVariants.{Passed, Broken}
use Rattle.record_replay.specs.declared.replay.Replay.{Replay}
use Rattle.record_replay.specs.Past.{carrying, left_by}
use Rattle.record_replay.specs.Standing.{HasReplayed}
use Rattle.record_replay.specs.Telling.{TellsReversed}
use Rattle.record_replay.specs.Texts.{texts_entries}
use Rattle.log_replay.specs.Through.{CarryTo, GoTo}
use Rattle.log_replay.specs.Told.{count_before, AreScanned, TellsEachCarried, TellsEach, IsRecovered}
use Rattle.log_replay.proofs.Through.{carried_to, further_to}
use Rattle.log_replay.proofs.Going.{going}

-- ---- the records before the redo place

before_is : (redo : ℕ) (s : Scanned) (ss : List Scanned) → s.place < redo → count_before redo (s ∷ ss) ≡ suc (count_before redo ss)
before_is redo s ss less = let is : nat_lt s.place redo ≡ true = grind (arith, nat_tests, less) in ap (λ b. cond b (suc (count_before redo ss)) 0) is

none_before : (redo : ℕ) (s : Scanned) (ss : List Scanned) → redo ≤ s.place → count_before redo (s ∷ ss) ≡ 0
none_before redo s ss more = let is : nat_lt s.place redo ≡ false = grind (arith, nat_tests, more) in ap (λ b. cond b (suc (count_before redo ss)) 0) is

count_is : (redo : ℕ) (first others : List Scanned) → AllByRecursion (λ s. s.place < redo) first → AllByRecursion (λ s. redo ≤ s.place) others → count_before redo (first ++ others) ≡ length first
count_is redo [] [] h k = refl
count_is redo [] (s ∷ ss) h k = none_before redo s ss k.0
count_is redo (s ∷ first) others h k = before_is redo s (first ++ others) h.0 ∙ ap suc (count_is redo first others h.1 k)

take_first : (first others : List Scanned) → take (length first) (first ++ others) ≡ first
take_first [] others = refl
take_first (s ∷ first) others = ap (λ (ss : List Scanned). s ∷ ss) (take_first first others)

drop_first : (first others : List Scanned) → drop (length first) (first ++ others) ≡ others
drop_first [] others = refl
drop_first (s ∷ first) others = drop_first first others

take_whole : (ss : List Scanned) → take (length ss) ss ≡ ss
take_whole [] = refl
take_whole (s ∷ ss) = ap (λ (qs : List Scanned). s ∷ qs) (take_whole ss)

-- the records behind a place
pub behind_is : (n : ℕ) (records : List Scanned) → take (length records - n) (drop n records) ≡ drop n records
behind_is n records = ap (λ k. take k (drop n records)) (sym (length-drop n records)) ∙ take_whole (drop n records)

pub drop_past : (n : ℕ) (ss : List Scanned) → length ss ≤ n → drop n ss ≡ []
drop_past zero [] l = refl
drop_past (suc n) [] l = refl
drop_past zero (s ∷ ss) l = absurd (omega (arith, l))
drop_past (suc n) (s ∷ ss) l = drop_past n ss (omega (arith, l))

-- what the texts among them count
pub fewer_texts : (n : ℕ) (ss : List Scanned) → texts_entries (drop n ss) ≤ texts_entries ss
fewer_texts zero ss = omega arith
fewer_texts (suc n) [] = omega arith
fewer_texts (suc n) (s ∷ ss) = let rest = fewer_texts n ss in omega (arith, rest)

module _ (at redo : ℕ) (records : List Scanned) (i : PlacedImage) (scanned : AreScanned at redo records i) where
  so_many : count_before redo records ≡ length scanned.first
  so_many = ap (count_before redo) scanned.split ∙ count_is redo scanned.first scanned.others (recursion_from_All _ scanned.first scanned.before) (recursion_from_All _ scanned.others scanned.behind)

  pub carry_to : CarryTo at i.pages.db.schema [] (take (count_before redo records) records) i.carried
  carry_to =
      subst (λ (ss : List Scanned). CarryTo at i.pages.db.schema [] ss i.carried)
      (sym (ap (λ n. take n records) so_many ∙ (ap (λ (ss : List Scanned). take (length scanned.first) ss) scanned.split ∙ take_first scanned.first scanned.others)))
      (carried_to at i.pages.db.schema scanned.first i.carried scanned.carried scanned.carried_on)

  pub go_to : GoTo at i.pages.db.schema [] (drop (count_before redo records) records) i.after
  go_to =
      subst (λ (ss : List Scanned). GoTo at i.pages.db.schema [] ss i.after)
      (sym (ap (λ n. drop n records) so_many ∙ (ap (λ (ss : List Scanned). drop (length scanned.first) ss) scanned.split ∙ drop_first scanned.first scanned.others)))
      (further_to at i.pages.db.schema scanned.others i.after scanned.after scanned.after_on)

-- ---- what is told

-- of a fault of some rule, if it tells one
pub told_weaker : {P Q : told.BadImage → Type 0} (fault : FindFault) → ((bad : told.BadImage) → P bad → Q bad) → told_by fault P → told_by fault Q
told_weaker (faults.BadImage bad) f p = f bad p
told_weaker faults.DiskFault f p = tt
told_weaker faults.NoMemory f p = tt

pub bad_weaker : {T : Type 0} {P Q : told.BadImage → Type 0} (r : Result T FindFault) → ((bad : told.BadImage) → P bad → Q bad) → IfBad r P → IfBad r Q
bad_weaker (Ok x) f p = tt
bad_weaker (Err fault) f p = told_weaker fault f p

pub once_ok : {X E P Q : Type 0} (r : Result X E) → (P → Q) → OnOk r P → OnOk r Q
once_ok (Ok x) f p = f p
once_ok (Err e) f p = tt

-- of an answer that is known
pub of_answer : {E : Type 0} (P : Replayed → Type 0) (r : Result Replayed E) (answer : Replayed) → r ≡ Ok answer → IfOk r P → P answer
of_answer {E = E} P r answer e h = subst (λ (x : Result Replayed E). IfOk x P) e h

module _ {M : Type 0} (maps : M → ℕ → Map) (limit : M → Option ℕ) (i : PlacedImage) where
  pub refused_first : (now : Replay M) (bad : told.BadImage) → TellsEachCarried maps limit now i.pages i.carried (Broken bad) → IsRefused i (BadImage bad.rule bad.place)
  refused_first now bad h = subst (λ rule. IsRefused i (BadImage rule bad.place)) (sym h.0) (carried bad.place h.1)

  pub refused_further : (before now : Replay M) (ds : List Deed) → HasReplayed maps limit before (carrying i.pages i.carried ds) → (bad : told.BadImage) → TellsEach maps limit now i.pages i.carried ds i.after (Broken bad)
      → IsRefused i (BadImage bad.rule bad.place)
  refused_further before now ds replayed bad h = further ds replayed.passed.carried bad.rule bad.place h

  module _ (before now : Replay M) (ds : List Deed) (es : List Event) (replayed : HasReplayed maps limit before (going maps limit i.pages i.carried ds i.after es)) where
    abbrev reading : Reading
    reading = record { pages = i.pages; carried = ds; after = es }

    passes : PassesAs i reading
    passes = record { pages = refl; carried = replayed.passed.carried; after = replayed.passed.events }

    pub refused_back : (bad : told.BadImage) → TellsReversed maps limit now.store (i.after ++ i.carried) (left_by (going maps limit i.pages i.carried ds i.after es)) (Broken bad) → IsRefused i (BadImage bad.rule bad.place)
    refused_back bad h = reversal reading passes bad.rule bad.place h

    pub is_recovered : TellsReversed maps limit now.store (i.after ++ i.carried) (left_by (going maps limit i.pages i.carried ds i.after es)) Passed → now.commits ≡ before.commits → now.next ≡ before.next → IsRecovered maps limit now i
    is_recovered h commits next = record {
      reading = reading;
      reverses = record { passes = passes; back = h.0 };
      has = h.1;
      commits = commits ∙ replayed.commits;
      next = subst (λ n. (number : ℕ) → AreBelow number ds es ↔ (n ≤ number)) (sym next) replayed.next;
    }
