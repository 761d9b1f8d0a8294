-- Words are parts in one way only.
use Rattle.std.proofs.Common.{◌≡◌, ◌≤◌, ◌<◌, ◌+◌, ◌∙◌, ◌^◌, ◌++◌, ℕ, zero, suc, Bool, List, [], ◌∷◌, Option, Some, None, true, false, refl, sym, ap, subst, codes, decimal, length, drop, get_or, arith, append_assoc, append-nil, ap₂, map, ◌⊎◌}
use Rattle.std.specs.Prelude.{String, string_bytes, MatchOption}
use Rattle.std.specs.List.{AllByRecursion}
use Rattle.std.proofs.lemmas.Fmt.{decimal_injective}
use Rattle.command_words.specs.Words.{Part, file, pages, log_kib, Fits, IsFile, words_of, all_words, files_in, pages_in, logs_in, Gives, Wanted, a_script, a_script_on, rounds, database, AsksFor, IsCommand, IsScript, IsScriptOn, IsMake}
use Rattle.command_words.specs.Init.{HasParts}
use Rattle.command_words.specs.Parts.{PartAt, NoPartAt, sort_of, has_met, with_met}
use Rattle.command_words.specs.declared.parts.Sort.TheVariants as sort
use Rattle.command_words.specs.declared.parts.Met.{Met}
use Rattle.command_words.specs.declared.limits.TheConstants.{LEAST_PAGES, MOST_PAGES, DEFAULT_PAGES, LEAST_LOG_KIB, MOST_LOG_KIB, DEFAULT_LOG_KIB}
use Rattle.command_words.specs.Init.{ValueAt}
use Rattle.std.proofs.Common.{length-append, inl, inr}

first_of_words : List (List ℕ) → List ℕ
first_of_words [] = []
first_of_words (x ∷ xs) = x

rest_of_words : List (List ℕ) → List (List ℕ)
rest_of_words [] = []
rest_of_words (x ∷ xs) = xs

same_first : (x y : List ℕ) (xs ys : List (List ℕ)) → x ∷ xs ≡ y ∷ ys → x ≡ y
unfolding first_of_words
same_first x y xs ys e = ap first_of_words e

same_rest : (x y : List ℕ) (xs ys : List (List ℕ)) → x ∷ xs ≡ y ∷ ys → xs ≡ ys
unfolding rest_of_words
same_rest x y xs ys e = ap rest_of_words e

-- parts that stand at the front of the same words are the same
pub record Same (p q : Part) (r s : List (List ℕ)) : Type 0 where
  pub part : p ≡ q
  pub rest : r ≡ s

no_file : (a b : List ℕ) → IsFile a → a ≡ 45 ∷ b → ⊥
no_file a b here e = let bad : IsFile (45 ∷ b) = subst IsFile e here in bad refl

no_bytes : (b : ℕ) (bs : List ℕ) → b ∷ bs ≡ [] → ⊥
no_bytes b bs e = absurd (cc)

third : List ℕ → ℕ
third w = get_or w 2 0

apart_third : (v w : List ℕ) → v ≡ w → get_or v 2 0 ≡ 112 → get_or w 2 0 ≡ 108 → ⊥
apart_third v w e a b = let same : get_or v 2 0 ≡ get_or w 2 0 = ap (λ (x : List ℕ). get_or x 2 0) e in absurd (omega (arith, same, a, b))

same_number : (m n : ℕ) (least most : ℕ) → most < 2 ^ 64 → m ≤ most → n ≤ most → decimal m ≡ decimal n → m ≡ n
same_number m n least most small low high e = decimal_injective m n (omega (arith, small, low)) (omega (arith, small, high)) e

pub one_part : (p q : Part) (r s : List (List ℕ)) → Fits p → Fits q → words_of p ++ r ≡ words_of q ++ s → Same p q r s
one_part (file a) (file b) r s fp fq e = record { part = ap file (same_first a b r s e); rest = same_rest a b r s e }
one_part (file a) (pages true n) r s fp fq e = absurd (no_file a _ fp (same_first a (codes "--pages" ++ (codes "=" ++ decimal n)) r s e))
one_part (pages true n) (file a) r s fp fq e = absurd (no_file a _ fq (sym (same_first (codes "--pages" ++ (codes "=" ++ decimal n)) a r s e)))
one_part (file a) (pages false n) r s fp fq e = absurd (no_file a _ fp (same_first a (codes "--pages") r (decimal n ∷ s) e))
one_part (pages false n) (file a) r s fp fq e = absurd (no_file a _ fq (sym (same_first (codes "--pages") a (decimal n ∷ r) s e)))
one_part (file a) (log_kib true n) r s fp fq e = absurd (no_file a _ fp (same_first a (codes "--log-kib" ++ (codes "=" ++ decimal n)) r s e))
one_part (log_kib true n) (file a) r s fp fq e = absurd (no_file a _ fq (sym (same_first (codes "--log-kib" ++ (codes "=" ++ decimal n)) a r s e)))
one_part (file a) (log_kib false n) r s fp fq e = absurd (no_file a _ fp (same_first a (codes "--log-kib") r (decimal n ∷ s) e))
one_part (log_kib false n) (file a) r s fp fq e = absurd (no_file a _ fq (sym (same_first (codes "--log-kib") a (decimal n ∷ r) s e)))
one_part (pages true n) (pages true m) r s fp fq e = record { part = ap (pages true) (decimal_injective n m (omega (arith, fp.1)) (omega (arith, fq.1)) (ap (λ (x : List ℕ). drop 8 x) (same_first (codes "--pages" ++ (codes "=" ++ decimal n)) (codes "--pages" ++ (codes "=" ++ decimal m)) r s e))); rest = same_rest (codes "--pages" ++ (codes "=" ++ decimal n)) (codes "--pages" ++ (codes "=" ++ decimal m)) r s e }
one_part (pages true n) (pages false m) r s fp fq e = absurd (no_bytes 61 (decimal n) (ap (λ (x : List ℕ). drop 7 x) (same_first (codes "--pages" ++ (codes "=" ++ decimal n)) (codes "--pages") r (decimal m ∷ s) e)))
one_part (pages true n) (log_kib true m) r s fp fq e = absurd (apart_third _ _ (same_first (codes "--pages" ++ (codes "=" ++ decimal n)) (codes "--log-kib" ++ (codes "=" ++ decimal m)) r s e) refl refl)
one_part (pages true n) (log_kib false m) r s fp fq e = absurd (apart_third _ _ (same_first (codes "--pages" ++ (codes "=" ++ decimal n)) (codes "--log-kib") r (decimal m ∷ s) e) refl refl)
one_part (pages false n) (pages true m) r s fp fq e = absurd (no_bytes 61 (decimal m) (sym (ap (λ (x : List ℕ). drop 7 x) (same_first (codes "--pages") (codes "--pages" ++ (codes "=" ++ decimal m)) (decimal n ∷ r) s e))))
one_part (pages false n) (pages false m) r s fp fq e = record { part = ap (pages false) (decimal_injective n m (omega (arith, fp.1)) (omega (arith, fq.1)) (same_first (decimal n) (decimal m) r s (same_rest (codes "--pages") (codes "--pages") (decimal n ∷ r) (decimal m ∷ s) e))); rest = same_rest (decimal n) (decimal m) r s (same_rest (codes "--pages") (codes "--pages") (decimal n ∷ r) (decimal m ∷ s) e) }
one_part (pages false n) (log_kib true m) r s fp fq e = absurd (apart_third _ _ (same_first (codes "--pages") (codes "--log-kib" ++ (codes "=" ++ decimal m)) (decimal n ∷ r) s e) refl refl)
one_part (pages false n) (log_kib false m) r s fp fq e = absurd (apart_third _ _ (same_first (codes "--pages") (codes "--log-kib") (decimal n ∷ r) (decimal m ∷ s) e) refl refl)
one_part (log_kib true n) (pages true m) r s fp fq e = absurd (apart_third _ _ (sym (same_first (codes "--log-kib" ++ (codes "=" ++ decimal n)) (codes "--pages" ++ (codes "=" ++ decimal m)) r s e)) refl refl)
one_part (log_kib true n) (pages false m) r s fp fq e = absurd (apart_third _ _ (sym (same_first (codes "--log-kib" ++ (codes "=" ++ decimal n)) (codes "--pages") r (decimal m ∷ s) e)) refl refl)
one_part (log_kib true n) (log_kib true m) r s fp fq e = record { part = ap (log_kib true) (decimal_injective n m (omega (arith, fp.1)) (omega (arith, fq.1)) (ap (λ (x : List ℕ). drop 10 x) (same_first (codes "--log-kib" ++ (codes "=" ++ decimal n)) (codes "--log-kib" ++ (codes "=" ++ decimal m)) r s e))); rest = same_rest (codes "--log-kib" ++ (codes "=" ++ decimal n)) (codes "--log-kib" ++ (codes "=" ++ decimal m)) r s e }
one_part (log_kib true n) (log_kib false m) r s fp fq e = absurd (no_bytes 61 (decimal n) (ap (λ (x : List ℕ). drop 9 x) (same_first (codes "--log-kib" ++ (codes "=" ++ decimal n)) (codes "--log-kib") r (decimal m ∷ s) e)))
one_part (log_kib false n) (pages true m) r s fp fq e = absurd (apart_third _ _ (sym (same_first (codes "--log-kib") (codes "--pages" ++ (codes "=" ++ decimal m)) (decimal n ∷ r) s e)) refl refl)
one_part (log_kib false n) (pages false m) r s fp fq e = absurd (apart_third _ _ (sym (same_first (codes "--log-kib") (codes "--pages") (decimal n ∷ r) (decimal m ∷ s) e)) refl refl)
one_part (log_kib false n) (log_kib true m) r s fp fq e = absurd (no_bytes 61 (decimal m) (sym (ap (λ (x : List ℕ). drop 9 x) (same_first (codes "--log-kib") (codes "--log-kib" ++ (codes "=" ++ decimal m)) (decimal n ∷ r) s e))))
one_part (log_kib false n) (log_kib false m) r s fp fq e = record { part = ap (log_kib false) (decimal_injective n m (omega (arith, fp.1)) (omega (arith, fq.1)) (same_first (decimal n) (decimal m) r s (same_rest (codes "--log-kib") (codes "--log-kib") (decimal n ∷ r) (decimal m ∷ s) e))); rest = same_rest (decimal n) (decimal m) r s (same_rest (codes "--log-kib") (codes "--log-kib") (decimal n ∷ r) (decimal m ∷ s) e) }

-- some parts, and then words that are parts, are parts
pub record GoesOn (ps qs : List Part) (rest : List (List ℕ)) : Type 0 where
  pub more : List Part
  pub parts_are : qs ≡ ps ++ more
  pub fit : AllByRecursion Fits more
  pub rest_are : rest ≡ all_words more

some_words : (p : Part) (r : List (List ℕ)) → words_of p ++ r ≡ [] → ⊥
some_words (file a) r e = absurd (cc)
some_words (pages true n) r e = absurd (cc)
some_words (pages false n) r e = absurd (cc)
some_words (log_kib true n) r e = absurd (cc)
some_words (log_kib false n) r e = absurd (cc)

pub goes_on : (ps qs : List Part) (rest : List (List ℕ)) → AllByRecursion Fits ps → AllByRecursion Fits qs → all_words ps ++ rest ≡ all_words qs → GoesOn ps qs rest
goes_on [] qs rest fp fq e = record { more = qs; parts_are = refl; fit = fq; rest_are = e }
goes_on (p ∷ ps) [] rest fp fq e = absurd (some_words p (all_words ps ++ rest) (sym (append_assoc (words_of p) (all_words ps) rest) ∙ e))
goes_on (p ∷ ps) (q ∷ qs) rest fp fq e =
    let same = one_part p q (all_words ps ++ rest) (all_words qs) fp.0 fq.0 (sym (append_assoc (words_of p) (all_words ps) rest) ∙ e) in
    let h = goes_on ps qs rest fp.1 fq.1 same.rest in
    record { more = h.more; parts_are = ap (λ (x : Part). x ∷ qs) (sym same.part) ∙ ap (λ (xs : List Part). p ∷ xs) h.parts_are; fit = h.fit; rest_are = h.rest_are }

-- ---- values of options

cancel : (xs ys zs : List ℕ) → xs ++ ys ≡ xs ++ zs → ys ≡ zs
cancel [] ys zs e = e
cancel (x ∷ xs) ys zs e = cancel xs ys zs (ap (drop 1) e)

longer : (name v : List ℕ) → name ++ codes "=" ++ v ≡ name → ⊥
longer name v e =
    let one : length (codes "=") ≡ 1 = refl in
    absurd (omega (arith, one, length-append (name ++ codes "=") v, length-append name (codes "="), ap (λ (x : List ℕ). length x) e))

pub one_value : (name : List ℕ) (texts : List (List ℕ)) (v w : List ℕ) (m n : ℕ) → ValueAt name texts v m → ValueAt name texts w n → v ≡ w
one_value name texts v w m n (inl a) (inl b) = cancel (name ++ codes "=") v w (same_first _ _ _ _ (sym a.1.1 ∙ b.1.1))
one_value name texts v w m n (inl a) (inr b) = absurd (longer name v (same_first _ _ _ _ (sym a.1.1 ∙ b.1.1)))
one_value name texts v w m n (inr a) (inl b) = absurd (longer name w (same_first _ _ _ _ (sym b.1.1 ∙ a.1.1)))
one_value name texts v w m n (inr a) (inr b) = same_first _ _ _ _ (same_rest _ _ _ _ (sym a.1.1 ∙ b.1.1))

pub pages_part : (texts : List (List ℕ)) (n count : ℕ) → LEAST_PAGES ≤ n → n ≤ MOST_PAGES → ValueAt (codes "--pages") texts (decimal n) count → PartAt texts sort.Pages count
pages_part texts n count low high (inl v) = record { part = pages true n; fits = (low, high); kind_is = refl; rest = v.1.0; are = v.1.1; counted = sym v.0 }
pages_part texts n count low high (inr v) = record { part = pages false n; fits = (low, high); kind_is = refl; rest = v.1.0; are = v.1.1; counted = sym v.0 }

pub log_part : (texts : List (List ℕ)) (n count : ℕ) → LEAST_LOG_KIB ≤ n → n ≤ MOST_LOG_KIB → ValueAt (codes "--log-kib") texts (decimal n) count → PartAt texts sort.LogKib count
log_part texts n count low high (inl v) = record { part = log_kib true n; fits = (low, high); kind_is = refl; rest = v.1.0; are = v.1.1; counted = sym v.0 }
log_part texts n count low high (inr v) = record { part = log_kib false n; fits = (low, high); kind_is = refl; rest = v.1.0; are = v.1.1; counted = sym v.0 }

pub none_at : (texts : List (List ℕ)) → ((number count : ℕ) → LEAST_PAGES ≤ number → number ≤ MOST_PAGES → ValueAt (codes "--pages") texts (decimal number) count → ⊥)
    → ((number count : ℕ) → LEAST_LOG_KIB ≤ number → number ≤ MOST_LOG_KIB → ValueAt (codes "--log-kib") texts (decimal number) count → ⊥)
    → ((name : List ℕ) (rest : List (List ℕ)) → IsFile name → texts ≡ name ∷ rest → ⊥) → NoPartAt texts
none_at texts np nl nf (file a) rest fits e = nf a rest fits e
none_at texts np nl nf (pages true n) rest fits e = np n 1 fits.0 fits.1 (inl (refl, (rest, e)))
none_at texts np nl nf (pages false n) rest fits e = np n 2 fits.0 fits.1 (inr (refl, (rest, e)))
none_at texts np nl nf (log_kib true n) rest fits e = nl n 1 fits.0 fits.1 (inl (refl, (rest, e)))
none_at texts np nl nf (log_kib false n) rest fits e = nl n 2 fits.0 fits.1 (inr (refl, (rest, e)))

-- ---- the parts that were met

abbrev pub times : Bool → ℕ
times true = 1
times false = 0

-- these words are parts, of which these were met, and the rest
pub record Walked (texts rest : List (List ℕ)) (met : Met) : Type 0 where
  pub parts : List Part
  pub fit : AllByRecursion Fits parts
  pub are : texts ≡ all_words parts ++ rest
  pub file_met : length (files_in parts) ≡ times met.file
  pub pages_met : length (pages_in parts) ≡ times met.pages
  pub log_met : length (logs_in parts) ≡ times met.log_kib

pub walked_none : (texts : List (List ℕ)) (met : Met) → met.file ≡ false → met.pages ≡ false → met.log_kib ≡ false → Walked texts texts met
walked_none texts met f p l = record { parts = []; fit = tt; are = refl; file_met = sym (ap times f); pages_met = sym (ap times p); log_met = sym (ap times l) }

files_more : (ps qs : List Part) → length (files_in (ps ++ qs)) ≡ length (files_in ps) + length (files_in qs)
files_more [] qs = omega arith
files_more (file a ∷ ps) qs = omega (arith, files_more ps qs)
files_more (pages j n ∷ ps) qs = files_more ps qs
files_more (log_kib j n ∷ ps) qs = files_more ps qs

pages_more : (ps qs : List Part) → length (pages_in (ps ++ qs)) ≡ length (pages_in ps) + length (pages_in qs)
pages_more [] qs = omega arith
pages_more (file a ∷ ps) qs = pages_more ps qs
pages_more (pages j n ∷ ps) qs = omega (arith, pages_more ps qs)
pages_more (log_kib j n ∷ ps) qs = pages_more ps qs

logs_more : (ps qs : List Part) → length (logs_in (ps ++ qs)) ≡ length (logs_in ps) + length (logs_in qs)
logs_more [] qs = omega arith
logs_more (file a ∷ ps) qs = logs_more ps qs
logs_more (pages j n ∷ ps) qs = logs_more ps qs
logs_more (log_kib j n ∷ ps) qs = omega (arith, logs_more ps qs)

all_more : (ps qs : List Part) → all_words (ps ++ qs) ≡ all_words ps ++ all_words qs
all_more [] qs = refl
all_more (p ∷ ps) qs = ap (λ (xs : List (List ℕ)). words_of p ++ xs) (all_more ps qs) ∙ sym (append_assoc (words_of p) (all_words ps) (all_words qs))

fit_more : (ps qs : List Part) → AllByRecursion Fits ps → AllByRecursion Fits qs → AllByRecursion Fits (ps ++ qs)
fit_more [] qs fp fq = fq
fit_more (p ∷ ps) qs fp fq = (fp.0, fit_more ps qs fp.1 fq)

front_off : (xs ys : List (List ℕ)) (n : ℕ) → length xs ≡ n → drop n (xs ++ ys) ≡ ys
front_off xs ys n e = subst (λ k. drop k (xs ++ ys) ≡ ys) e (by xs)
  where
    by : (zs : List (List ℕ)) → drop (length zs) (zs ++ ys) ≡ ys
    by [] = refl
    by (z ∷ zs) = by zs

-- one part more
walk_on : (texts rest : List (List ℕ)) (met more : Met) (count : ℕ) (p : Part) (r : List (List ℕ)) → Walked texts rest met → Fits p → rest ≡ words_of p ++ r → length (words_of p) ≡ count
    → has_met met (sort_of p) ≡ false → more ≡ with_met met (sort_of p) → Walked texts (drop count rest) more
walk_on texts rest met more count p r w fits e counted fresh is =
    let off : drop count rest ≡ r = ap (drop count) e ∙ front_off (words_of p) r count counted in
    let words : texts ≡ all_words (w.parts ++ p ∷ []) ++ drop count rest =
    w.are ∙ ap (λ (xs : List (List ℕ)). all_words w.parts ++ xs) (e ∙ ap₂ (λ (xs ys : List (List ℕ)). xs ++ ys) (sym (append-nil (words_of p))) (sym off))
    ∙ sym (append_assoc (all_words w.parts) (words_of p ++ []) (drop count rest)) ∙ ap (λ (xs : List (List ℕ)). xs ++ drop count rest) (sym (all_more w.parts (p ∷ []))) in
    subst (λ (m : Met). Walked texts (drop count rest) m) (sym is) (by p fits fresh words)
  where
    by : (q : Part) → Fits q → has_met met (sort_of q) ≡ false → texts ≡ all_words (w.parts ++ q ∷ []) ++ drop count rest → Walked texts (drop count rest) (with_met met (sort_of q))
    by (file a) f unmet words = record {
      parts = w.parts ++ file a ∷ [];
      fit = fit_more w.parts (file a ∷ []) w.fit (f, tt);
      are = words;
      file_met = files_more w.parts (file a ∷ []) ∙ omega (arith, w.file_met, ap times unmet);
      pages_met = pages_more w.parts (file a ∷ []) ∙ omega (arith, w.pages_met);
      log_met = logs_more w.parts (file a ∷ []) ∙ omega (arith, w.log_met);
    }
    by (pages j n) f unmet words = record {
      parts = w.parts ++ pages j n ∷ [];
      fit = fit_more w.parts (pages j n ∷ []) w.fit (f, tt);
      are = words;
      file_met = files_more w.parts (pages j n ∷ []) ∙ omega (arith, w.file_met);
      pages_met = pages_more w.parts (pages j n ∷ []) ∙ omega (arith, w.pages_met, ap times unmet);
      log_met = logs_more w.parts (pages j n ∷ []) ∙ omega (arith, w.log_met);
    }
    by (log_kib j n) f unmet words = record {
      parts = w.parts ++ log_kib j n ∷ [];
      fit = fit_more w.parts (log_kib j n ∷ []) w.fit (f, tt);
      are = words;
      file_met = files_more w.parts (log_kib j n ∷ []) ∙ omega (arith, w.file_met);
      pages_met = pages_more w.parts (log_kib j n ∷ []) ∙ omega (arith, w.pages_met);
      log_met = logs_more w.parts (log_kib j n ∷ []) ∙ omega (arith, w.log_met, ap times unmet);
    }

pub goes : (texts rest : List (List ℕ)) (met more : Met) (count : ℕ) (kind : _) → Walked texts rest met → (p : PartAt rest kind count) → has_met met kind ≡ false → more ≡ with_met met kind → Walked texts (drop count rest) more
goes texts rest met more count kind w p fresh is =
    walk_on texts rest met more count p.part p.rest w p.fits p.are p.counted (ap (has_met met) (sym p.kind_is) ∙ fresh) (is ∙ ap (with_met met) p.kind_is)

-- where words are left that begin with no part, all are not parts
pub stuck : (texts rest : List (List ℕ)) (met : Met) → Walked texts rest met → 0 < length rest → NoPartAt rest → HasParts texts → ⊥
stuck texts rest met w some none h =
    let g = goes_on w.parts h.parts rest w.fit h.fit (sym w.are ∙ h.are) in
    by g.more g.fit g.rest_are
  where
    by : (more : List Part) → AllByRecursion Fits more → rest ≡ all_words more → ⊥
    by [] fit e = absurd (omega (arith, some, ap (λ (xs : List (List ℕ)). length xs) e))
    by (q ∷ qs) fit e = none q (all_words qs) fit.0 e

-- where a part stands again, they are not the parts of `init`
pub again : (texts rest : List (List ℕ)) (met : Met) (count : ℕ) (kind : _) → Walked texts rest met → PartAt rest kind count → has_met met kind ≡ true → HasParts texts → ⊥
again texts rest met count kind w p twice h =
    let g = goes_on w.parts h.parts rest w.fit h.fit (sym w.are ∙ h.are) in
    by g.more g.fit g.rest_are g.parts_are
  where
    count_again : (q : Part) (qs : List Part) → has_met met (sort_of q) ≡ true → h.parts ≡ w.parts ++ q ∷ qs → ⊥
    count_again (file a) qs t e = absurd (omega (arith, h.one_file, ap (λ (xs : List Part). length (files_in xs)) e, files_more w.parts (file a ∷ qs), w.file_met, ap times t))
    count_again (pages j n) qs t e = absurd (omega (arith, h.few_pages, ap (λ (xs : List Part). length (pages_in xs)) e, pages_more w.parts (pages j n ∷ qs), w.pages_met, ap times t))
    count_again (log_kib j n) qs t e = absurd (omega (arith, h.few_log, ap (λ (xs : List Part). length (logs_in xs)) e, logs_more w.parts (log_kib j n ∷ qs), w.log_met, ap times t))

    by : (more : List Part) → AllByRecursion Fits more → rest ≡ all_words more → h.parts ≡ w.parts ++ more → ⊥
    by [] fit e parts = some_words p.part p.rest (sym p.are ∙ e)
    by (q ∷ qs) fit e parts =
        let same = one_part q p.part (all_words qs) p.rest fit.0 p.fits (sym e ∙ p.are) in
        count_again q qs (ap (has_met met) (ap sort_of same.part ∙ sym p.kind_is) ∙ twice) parts

-- at the end of the words
pub ends : (texts rest : List (List ℕ)) (met : Met) → Walked texts rest met → rest ≡ [] → (met.file ≡ true → HasParts texts) × (HasParts texts → met.file ≡ true)
ends texts rest met w none =
    let are : texts ≡ all_words w.parts = w.are ∙ ap (λ (xs : List (List ℕ)). all_words w.parts ++ xs) none ∙ append-nil (all_words w.parts) in (
      λ t. record { parts = w.parts; are = are; fit = w.fit; one_file = w.file_met ∙ ap times t; few_pages = few met.pages w.pages_met; few_log = few met.log_kib w.log_met },
      λ h. let g = goes_on w.parts h.parts [] w.fit h.fit (append-nil (all_words w.parts) ∙ sym are ∙ h.are) in by met.file refl (nothing g.more g.rest_are) h g.parts_are,
    )
  where
    few : (b : Bool) {n : ℕ} → n ≡ times b → n ≤ 1
    few true e = omega (arith, e)
    few false e = omega (arith, e)

    nothing : (more : List Part) → [] ≡ all_words more → more ≡ []
    nothing [] e = refl
    nothing (q ∷ qs) e = absurd (some_words q (all_words qs) (sym e))

    by : (b : Bool) → met.file ≡ b → {more : List Part} → more ≡ [] → (h : HasParts texts) → h.parts ≡ w.parts ++ more → met.file ≡ true
    by true t m h parts = t
    by false t {more} m h parts =
        absurd (omega (arith, h.one_file, ap (λ (xs : List Part). length (files_in xs)) parts, files_more w.parts more, w.file_met, ap times t, ap (λ (xs : List Part). length (files_in xs)) m))

pub drop_texts : {A : Type 0} (f : A → List ℕ) (n : ℕ) (xs : List A) → map f (drop n xs) ≡ drop n (map f xs)
drop_texts f zero xs = refl
drop_texts f (suc n) [] = refl
drop_texts f (suc n) (x ∷ xs) = drop_texts f n xs

pub part_within : (texts : List (List ℕ)) (kind : _) (count : ℕ) → PartAt texts kind count → count ≤ length texts
part_within texts kind count p = omega (arith, p.counted, ap (λ (xs : List (List ℕ)). length xs) p.are, length-append (words_of p.part) p.rest)

-- ---- `init` and its parts

single : {X : Type 0} (xs : List X) → length xs ≡ 1 → (x : X) × (xs ≡ x ∷ [])
single [] e = absurd (omega (arith, e))
single (x ∷ []) e = (x, refl)
single (x ∷ y ∷ xs) e = absurd (omega (arith, e))

some_number : (default : ℕ) (ns : List ℕ) → length ns ≤ 1 → (n : ℕ) × Gives default ns n
some_number default [] low = (default, refl)
some_number default (n ∷ []) low = (n, refl)
some_number default (n ∷ m ∷ ns) low = absurd (omega (arith, low))

few_given : (default : ℕ) (ns : List ℕ) (n : ℕ) → Gives default ns n → length ns ≤ 1
few_given default [] n g = omega arith
few_given default (m ∷ []) n g = omega arith
few_given default (m ∷ k ∷ ns) n g = absurd g

pub init_words : {A : Type 0} (words : List (String A)) (texts : List (List ℕ)) → map string_bytes words ≡ codes "init" ∷ texts → HasParts texts → IsCommand words
init_words words texts e h =
    let name = single (files_in h.parts) h.one_file in
    let p = some_number DEFAULT_PAGES (pages_in h.parts) h.few_pages in
    let l = some_number DEFAULT_LOG_KIB (logs_in h.parts) h.few_log in (
      database name.0 p.0 l.0,
      record {
        parts = h.parts;
        are = e ∙ ap (λ (xs : List (List ℕ)). codes "init" ∷ xs) h.are;
        fit = h.fit;
        one_file = name.1;
        of_pages = p.1;
        of_log = l.1;
      },
    )

first_byte : List (List ℕ) → ℕ
first_byte xs = get_or (first_of_words xs) 0 0

pub init_parts : {A : Type 0} (wanted : Wanted) (words : List (String A)) (texts : List (List ℕ)) → map string_bytes words ≡ codes "init" ∷ texts → AsksFor wanted words → HasParts texts
unfolding first_of_words first_byte
init_parts a_script words texts e asks = let byte : 105 ≡ 115 = ap first_byte (sym e ∙ asks) in absurd (omega (arith, byte))
init_parts (a_script_on name) words texts e asks = let byte : 105 ≡ 115 = ap first_byte (sym e ∙ asks.are) in absurd (omega (arith, byte))
init_parts (rounds n) words texts e asks = let byte : 105 ≡ 109 = ap first_byte (sym e ∙ asks.are) in absurd (omega (arith, byte))
init_parts (database name p l) words texts e asks = record {
  parts = asks.parts;
  are = same_rest _ _ _ _ (sym e ∙ asks.are);
  fit = asks.fit;
  one_file = ap (λ (xs : List (List ℕ)). length xs) asks.one_file;
  few_pages = few_given DEFAULT_PAGES (pages_in asks.parts) p asks.of_pages;
  few_log = few_given DEFAULT_LOG_KIB (logs_in asks.parts) l asks.of_log;
}

pub other_form : {A : Type 0} (words : List (String A)) → IsScript words ⊎ (((name : List ℕ) × IsScriptOn name words) ⊎ ((number : ℕ) × IsMake number words)) → IsCommand words
other_form words (inl s) = (a_script, s)
other_form words (inr (inl s)) = (a_script_on s.0, s.1)
other_form words (inr (inr m)) = (rounds m.0, m.1)

pub other_wanted : {A : Type 0} (wanted : Wanted) (words : List (String A)) (first : List ℕ) (texts : List (List ℕ)) → map string_bytes words ≡ first ∷ texts → (first ≡ codes "init" → ⊥) → AsksFor wanted words
    → IsScript words ⊎ (((name : List ℕ) × IsScriptOn name words) ⊎ ((number : ℕ) × IsMake number words))
other_wanted a_script words first texts e not_init asks = inl asks
other_wanted (a_script_on name) words first texts e not_init asks = inr (inl (name, asks))
other_wanted (rounds n) words first texts e not_init asks = inr (inr (n, asks))
other_wanted (database name p l) words first texts e not_init asks = absurd (not_init (same_first _ _ _ _ (sym e ∙ asks.are)))

pub on_none : {X : Type 0} (r : Option X) (N M : Type 0) (S : X → Type 0) → (N → M) → MatchOption r N S → MatchOption r M S
on_none None N M S f h = f h
on_none (Some x) N M S f h = h

pub some_texts : {A : Type 0} (f : A → List ℕ) (xs : List A) → 0 < length xs → 0 < length (map f xs)
some_texts f [] l = absurd (omega (arith, l))
some_texts f (x ∷ xs) l = omega arith

pub no_texts : {A : Type 0} (f : A → List ℕ) (xs : List A) → length xs ≡ 0 → map f xs ≡ []
no_texts f [] e = refl
no_texts f (x ∷ xs) e = absurd (omega (arith, e))

pub as_many : {A : Type 0} (f : A → List ℕ) (xs : List A) → length (map f xs) ≡ length xs
as_many f [] = refl
as_many f (x ∷ xs) = ap suc (as_many f xs)
