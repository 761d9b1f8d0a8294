-- The first text that fails, and rule 11.
use Rattle.std.proofs.Common.{◌≡◌, Bool, true, false, ℕ, drop, arith, List, [], ◌∷◌, ◌++◌, reverse, inl, inr, refl, sym, ◌∙◌, ap, subst, append_assoc}
use Rattle.std.specs.FinMap.{FinMap, entries}
use Rattle.std.specs.Str.{bytes_eq}
use Rattle.std.proofs.lemmas.Bool.{false≢true}
use Rattle.std.proofs.lemmas.List.{append-nil, map-append, reverse-append}
use Rattle.byteorder.specs.Endian.{big_bytes}
use Rattle.table_laws.specs.Place.{place_cmp}
use Rattle.iv_meaning.specs.Schema.{Schema, Object}
use Rattle.sql_parse.proofs.Lines.{unique}
use Rattle.txn_log.specs.Appended.{Creates}
use Rattle.txn_log.specs.Stored.{AllCreate}
use Rattle.txn_log.specs.Damaged.{Found, FirstBad, in_texts, texts_found, DefinitionFails, definitions_read, with_next}
use Rattle.txn_log.proofs.Standing.{creates_once}
use Rattle.image_finding.specs.declared.fault.BadImage.{BadImage}
use Rattle.image_finding.specs.declared.image.FoundImage.{FoundImage}
use Rattle.image_finding.specs.Rules.{IsRefused}
use Rattle.image_finding.specs.Headers.{as_header, StandsUpTo}
use Rattle.image_finding.specs.Images.{HasImage}
use Rattle.image_finding.proofs.Passing.{passes_next}
use Rattle.image_entries.specs.declared.stored.StoredEntry.{StoredEntry}
use Rattle.image_entries.specs.Entries.{Gathers, NoneBad, found_entries}
use Rattle.image_entries.specs.Parts.{onto, definitions_in, KeyFails, SizeFails, KeysStand, SizesStand, TellsDefinition}
use Rattle.image_entries.proofs.Firsts.{none_first, first_after}
use Rattle.image_entries.proofs.Linked.{definitions_are, definition_refused}
use Rattle.image_catalog.specs.Texts.{is_first, texts_from, BeginsAt, AreMade, TakesText, RefusesText, TextFails, TellsText}

abbrev pub Texts : Type 0
Texts = List (ℕ × List ℕ)

-- ---- texts that make objects

all_and : (objects : Schema) (xs ys : List (List ℕ)) (between all : Schema) → AllCreate objects xs between → AllCreate between ys all → AllCreate objects (xs ++ ys) all
all_and objects [] ys between all h k = subst (λ a. AllCreate a ys all) h k
all_and objects (x ∷ xs) ys between all h k = (h.0, h.1, all_and (objects ++ h.0 ∷ []) xs ys between all h.2 k)

pub and_one : (objects : Schema) (xs : List (List ℕ)) (between : Schema) (x : List ℕ) (o : Object) → AllCreate objects xs between → Creates between x o → AllCreate objects (xs ++ x ∷ []) (between ++ o ∷ [])
and_one objects xs between x o h creates = all_and objects xs (x ∷ []) between (between ++ o ∷ []) h (o, creates, refl)

reversed : (t : ℕ × List ℕ) (earlier : Texts) → reverse (texts_found (t ∷ earlier)) ≡ reverse (texts_found earlier) ++ t.1 ∷ []
reversed t earlier = reverse-append (t.1 ∷ []) (texts_found earlier)

none_fails : (earlier done : Texts) (objects all : Schema) → AllCreate [] (reverse (texts_found earlier)) objects → AllCreate objects (texts_found done) all → NoneBad TextFails earlier done
none_fails earlier [] objects all h k = tt
none_fails earlier (t ∷ ts) objects all h k = (
  (λ fails. fails (objects, h, k.0, k.1)),
  none_fails (t ∷ earlier) ts (objects ++ k.0 ∷ []) all (subst (λ (xs : List (List ℕ)). AllCreate [] xs (objects ++ k.0 ∷ [])) (sym (reversed t earlier)) (and_one [] (reverse (texts_found earlier)) objects t.1 k.0 h k.1)) k.2,
)

in_order : (done earlier : Texts) → reverse (texts_found (onto done earlier)) ≡ reverse (texts_found earlier) ++ texts_found done
in_order [] earlier = sym (append-nil (reverse (texts_found earlier)))
in_order (t ∷ ts) earlier = in_order ts (t ∷ earlier) ∙ (ap (λ (xs : List (List ℕ)). xs ++ texts_found ts) (reversed t earlier) ∙ append_assoc (reverse (texts_found earlier)) (t.1 ∷ []) (texts_found ts))

-- ---- one text after another

-- the first part is the first of its definition
pub begins_first : (fs : List Found) → KeysStand fs → BeginsAt 0 fs
begins_first [] keys = λ inside. absurd (omega (arith, inside))
begins_first (f ∷ fs) keys = λ inside. by (is_first f) refl
  where
    by : (b : Bool) → is_first f ≡ b → b ≡ true
    by true e = refl
    by false e = absurd (keys.0 (λ is. let first : is_first f ≡ true = ap (λ (k : List ℕ). bytes_eq (drop 4 k) (big_bytes 2 0)) is in false≢true (sym e ∙ first)))

-- the texts before this place made these objects
pub record IsRead (fs : List Found) (at : ℕ) (objects : Schema) : Type 0 where
  pub done : Texts
  pub texts : (in_texts fs).1 ≡ done ++ texts_from at fs
  pub make : AllCreate [] (texts_found done) objects
  pub begins : BeginsAt at fs

module _ (fs : List Found) (at : ℕ) (objects : Schema) (read : IsRead fs at objects) where
  pub are_made : AreMade objects
  are_made = record { texts = texts_found read.done; all_create = read.make }

  pub read_next : (end : ℕ) (after : Schema) → TakesText at end fs objects after → IsRead fs end after
  read_next end after takes = record {
    done = read.done ++ takes.text ∷ [];
    texts = read.texts ∙ (ap (λ (ts : Texts). read.done ++ ts) takes.texts ∙ sym (append_assoc read.done (takes.text ∷ []) (texts_from end fs)));
    make = subst (AllCreate [] (texts_found (read.done ++ takes.text ∷ []))) (sym takes.makes.after_is)
        (subst (λ (xs : List (List ℕ)). AllCreate [] xs (objects ++ takes.makes.object ∷ [])) (sym (map-append (λ (t : ℕ × List ℕ). t.1) read.done (takes.text ∷ [])))
        (and_one [] (texts_found read.done) objects takes.text.1 takes.makes.object read.make takes.makes.creates));
    begins = takes.begins;
  }

  pub read_all : texts_from at fs ≡ [] → AllCreate [] (texts_found (in_texts fs).1) objects
  read_all none = subst (λ (ts : Texts). AllCreate [] (texts_found ts) objects) (sym (read.texts ∙ (ap (λ (ts : Texts). read.done ++ ts) none ∙ append-nil read.done))) read.make

  pub told : (bad : BadImage) → RefusesText at fs objects bad → TellsText fs bad
  told bad refuses = record {
    text = refuses.text;
    first = subst (λ (ts : Texts). FirstBad TextFails [] ts refuses.text) (sym (read.texts ∙ ap (λ (ts : Texts). read.done ++ ts) refuses.texts))
        (first_after TextFails [] read.done refuses.text refuses.later (none_fails [] read.done [] objects refl read.make)
        (λ makes. refuses.makes makes.2
        (let order : AllCreate [] (texts_found read.done) makes.0 = subst (λ (xs : List (List ℕ)). AllCreate [] xs makes.0) (in_order read.done []) makes.1 in
        subst (λ (os : Schema). Creates os refuses.text.1 makes.2) (creates_once unique [] (texts_found read.done) makes.0 objects order read.make) makes.3)));
    rule = refuses.rule;
    place = refuses.place;
  }

-- ---- rule 11

module _ (fs : List Found) (keys : KeysStand fs) (sizes : SizesStand fs) where
  definition_told : (bad : BadImage) → TellsText fs bad → TellsDefinition fs bad
  definition_told bad tells = record {
    rule = tells.rule;
    fails = inr (inr ((λ f first. none_first KeyFails [] fs f keys first), (λ f first. none_first SizeFails [] (with_next fs) f sizes first), tells.text, tells.place, tells.first));
  }

  none_fail : (objects : Schema) → AllCreate [] (texts_found (in_texts fs).1) objects → (place : ℕ) → DefinitionFails fs place → ⊥
  none_fail objects all place (inl h) = none_first KeyFails [] fs h.0 keys h.2
  none_fail objects all place (inr (inl h)) = none_first SizeFails [] (with_next fs) h.1 sizes h.3
  none_fail objects all place (inr (inr h)) = none_first TextFails [] (in_texts fs).1 h.2 (none_fails [] (in_texts fs).1 [] objects refl all) h.4

  module _ (c : List ℕ) (image : FoundImage) (m : FinMap place_cmp StoredEntry) (has : HasImage c image) (gathers : Gathers m (found_entries image c)) (are : fs ≡ definitions_in (entries m)) (stands : StandsUpTo 10 c (as_header image.header)) where
    pub text_refused : (bad : BadImage) → TellsText fs bad → IsRefused c bad
    text_refused bad tells = definition_refused c image has m gathers stands bad (subst (λ (gs : List Found). TellsDefinition gs bad) are (definition_told bad tells))

    pub texts_pass : (objects : Schema) → AllCreate [] (texts_found (in_texts fs).1) objects → StandsUpTo 11 c (as_header image.header)
    texts_pass objects all = record {
      live = stands.live;
      passes = passes_next 10 c definitions_read refl stands.passes (λ d found place fails.
          none_fail objects all place (subst (λ (gs : List Found). DefinitionFails gs place) (sym (are ∙ definitions_are c image has m gathers d found)) fails));
    }
