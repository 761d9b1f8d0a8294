-- Parts joined to a text, one after another.
use Rattle.std.proofs.Common.{◌≡◌, Bool, true, false, if◌then◌else◌, ℕ, suc, ◌+◌, ◌<◌, ◌≤◌, List, [], ◌∷◌, ◌++◌, length, get_or, drop, sym, ◌∙◌, ap, arith, append_assoc}
use Rattle.std.proofs.Math.Seq.{drop-cons}
use Rattle.std.proofs.lemmas.List.{append-nil, drop_all}
use Rattle.txn_log.specs.Damaged.{Found, in_texts}
use Rattle.image_entries.specs.Parts.{no_found}
use Rattle.image_catalog.specs.Texts.{is_first, texts_from}

-- what is left of the parts from there on: what goes on with the text before, and the texts
abbrev pub left_from : ℕ → List Found → List ℕ × List (ℕ × List ℕ)
left_from at fs = in_texts (drop at fs)

-- a text whose first part stands there has these bytes up to a further place
pub record IsJoined (at end : ℕ) (fs : List Found) (page : ℕ) (bytes : List ℕ) : Type 0 where
  pub texts : texts_from at fs ≡ (page, bytes ++ (left_from end fs).0) ∷ (left_from end fs).1
  pub further : at < end

abbrev pub joined_by : Bool → Found → List ℕ × List (ℕ × List ℕ) → List ℕ × List (ℕ × List ℕ)
joined_by first f left = if first then ([], (f.page, f.entry.1 ++ left.0) ∷ left.1) else (f.entry.1 ++ left.0, left.1)

module _ (fs : List Found) (i : ℕ) (inside : i < length fs) where
  abbrev here : Found
  here = get_or fs i no_found

  left_here : (first : Bool) → is_first here ≡ first → left_from i fs ≡ joined_by first here (left_from (i + 1) fs)
  left_here first is =
      ap in_texts (drop-cons fs i no_found inside ∙ ap (λ n. here ∷ drop n fs) (let e : suc i ≡ i + 1 = omega arith in e))
      ∙ ap (λ b. joined_by b here (left_from (i + 1) fs)) is

  pub joined_first : is_first here ≡ true → IsJoined i (i + 1) fs here.page here.entry.1
  joined_first is = record { texts = ap (λ (x : List ℕ × List (ℕ × List ℕ)). x.1) (left_here true is); further = omega arith }

  pub joined_next : (at page : ℕ) (bytes : List ℕ) → is_first here ≡ false → IsJoined at i fs page bytes → IsJoined at (i + 1) fs page (bytes ++ here.entry.1)
  joined_next at page bytes is joined = record {
    texts = joined.texts
        ∙ (ap (λ (x : List ℕ × List (ℕ × List ℕ)). (page, bytes ++ x.0) ∷ x.1) (left_here false is)
        ∙ ap (λ (bs : List ℕ). (page, bs) ∷ (left_from (i + 1) fs).1) (sym (append_assoc bytes here.entry.1 (left_from (i + 1) fs).0)));
    further = omega (arith, joined.further);
  }

  pub joined_before : (at page : ℕ) (bytes : List ℕ) → is_first here ≡ true → IsJoined at i fs page bytes → texts_from at fs ≡ (page, bytes) ∷ texts_from i fs
  joined_before at page bytes is joined =
      joined.texts
      ∙ ap (λ (bs : List ℕ). (page, bs) ∷ (left_from i fs).1) (ap (λ (x : List ℕ × List (ℕ × List ℕ)). bytes ++ x.0) (left_here true is) ∙ append-nil bytes)

none_left : (fs : List Found) (i : ℕ) → length fs ≤ i → left_from i fs ≡ ([], [])
none_left fs i all = ap in_texts (drop_all i fs all)

pub no_texts : (fs : List Found) (i : ℕ) → length fs ≤ i → texts_from i fs ≡ []
no_texts fs i all = ap (λ (x : List ℕ × List (ℕ × List ℕ)). x.1) (none_left fs i all)

pub joined_last : (fs : List Found) (i : ℕ) → length fs ≤ i → (at page : ℕ) (bytes : List ℕ) → IsJoined at i fs page bytes → texts_from at fs ≡ (page, bytes) ∷ texts_from i fs
joined_last fs i all at page bytes joined =
    joined.texts
    ∙ ap (λ (bs : List ℕ). (page, bs) ∷ (left_from i fs).1) (ap (λ (x : List ℕ × List (ℕ × List ℕ)). bytes ++ x.0) (none_left fs i all) ∙ append-nil bytes)
