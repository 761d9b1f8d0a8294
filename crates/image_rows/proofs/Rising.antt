-- The entries of stored pages, of which the pages never fall: the first that fails has the least page of those that do.
use Rattle.std.proofs.Common.{◌≡◌, ◌⊎◌, inl, inr, ⊎_elim, ℕ, zero, suc, ◌<◌, ◌≤◌, List, [], ◌∷◌, ◌++◌, get_or, refl, sym, ap, subst, arith}
use Rattle.std.specs.List.{Contains}
use Rattle.std.specs.FinMap.{FinMap, entries}
use Rattle.std.proofs.lemmas.List.Elements.{Contains-append_cases}
use Rattle.page_store.specs.Image.{slot_at}
use Rattle.table_laws.specs.Place.{place_cmp}
use Rattle.iv_meaning.specs.Schema.{Schema}
use Rattle.txn_machine.proofs.Basics.{contains_none}
use Rattle.txn_machine.proofs.Holding.{contains_here, contains_next}
use Rattle.txn_log.specs.Stored.{PageEntry, AllCreate}
use Rattle.txn_log.specs.Damaged.{Found, FirstBad, found_in, in_texts, texts_found, EntryStands, all_found, entries_read}
use Rattle.txn_log.proofs.Placing.{in_rest}
use Rattle.txn_log.proofs.Standing.{creates_once}
use Rattle.txn_log.proofs.Printed.{one_statement}
use Rattle.log_disk.specs.Bears.{page_entries}
use Rattle.disk_io.specs.Disk.{part}
use Rattle.image_finding.specs.declared.fault.BadImage.{BadImage}
use Rattle.image_finding.specs.declared.image.FoundImage.{FoundImage}
use Rattle.image_finding.specs.Rules.{IsRefused}
use Rattle.image_finding.specs.Headers.{as_header, StandsUpTo}
use Rattle.image_finding.specs.Images.{HasImage}
use Rattle.image_finding.specs.Maps.{IsLow}
use Rattle.image_finding.proofs.Passing.{passes_next, refused_next}
use Rattle.image_entries.specs.declared.stored.StoredEntry.{StoredEntry}
use Rattle.image_entries.specs.Entries.{held_of, found_at, found_on, found_before, found_entries, NoneBad, Gathers}
use Rattle.image_entries.specs.Parts.{definitions_in}
use Rattle.image_entries.proofs.Firsts.{none_first}
use Rattle.image_entries.proofs.Pages.{all_are}
use Rattle.image_entries.proofs.Linked.{definitions_are}
use Rattle.image_rows.specs.Rows.{TellsEntry}

-- ---- pages that never fall

abbrev AreRising : List Found → Type 0
AreRising [] = Unit {0}
AreRising (f ∷ fs) = ((g : Found) → Contains fs g → f.page ≤ g.page) × AreRising fs

rising_both : (fs gs : List Found) → AreRising fs → AreRising gs → ((f g : Found) → Contains fs f → Contains gs g → f.page ≤ g.page) → AreRising (fs ++ gs)
rising_both [] gs h k le = k
rising_both (f ∷ fs) gs h k le = (
  (λ g c. ⊎_elim (λ d. h.0 g d) (λ d. le f g (contains_here f fs) d) (Contains-append_cases fs gs g c)),
  rising_both fs gs h.1 k (λ x y c d. le x y (contains_next f fs x c) d),
)

in_page : (place : ℕ) (es : List PageEntry) (f : Found) → Contains (found_in place es) f → f.page ≡ place
in_page place [] f c = absurd (contains_none f c)
in_page place (e ∷ es) f c = in_rest (record { page = place; entry = e }) f (found_in place es) c (λ same. ap (λ (x : Found). x.page) (sym same)) (λ d. in_page place es f d)

page_rises : (place : ℕ) (es : List PageEntry) → AreRising (found_in place es)
page_rises place [] = tt
page_rises place (e ∷ es) = ((λ g c. let is = in_page place es g c in omega (arith, is)), page_rises place es)

on_rises : (room n byte : ℕ) (c : List ℕ) → AreRising (found_on room n byte c)
on_rises room n zero c = tt
on_rises room n (suc slot) c = page_rises (slot_at room n slot) (page_entries (part (slot_at room n slot) 8192 c))

-- a stored page lies between the first slots of its number and of the next
on_between : (room n byte : ℕ) (c : List ℕ) → byte ≤ 2 → (f : Found) → Contains (found_on room n byte c) f → (slot_at room n 0 ≤ f.page) × (f.page < slot_at room (suc n) 0)
on_between room n zero c low f here = absurd (contains_none f here)
on_between room n (suc slot) c low f here =
    let is : f.page ≡ slot_at room n slot = in_page (slot_at room n slot) (page_entries (part (slot_at room n slot) 8192 c)) f here in
    (omega (arith, is), omega (arith, is, low))

module _ (room : ℕ) (map : List ℕ) (c : List ℕ) (low : IsLow map) where
  before_below : (n : ℕ) (f : Found) → Contains (found_before room map n c) f → f.page < slot_at room n 0
  before_below zero f here = absurd (contains_none f here)
  before_below (suc n) f here = ⊎_elim
      (λ d. let less = before_below n f d in omega (arith, less))
      (λ d. (on_between room n (get_or map n 0) c (low n) f d).1)
      (Contains-append_cases (found_before room map n c) (found_on room n (get_or map n 0) c) f here)

  before_rises : (n : ℕ) → AreRising (found_before room map n c)
  before_rises zero = tt
  before_rises (suc n) = rising_both (found_before room map n c) (found_on room n (get_or map n 0) c) (before_rises n) (on_rises room n (get_or map n 0) c)
      (λ f g d e. let less = before_below n f d in let more = (on_between room n (get_or map n 0) c (low n) g e).0 in omega (arith, less, more))

-- ---- the first that fails

abbrev Fails : Schema → List Found → Found → Type 0
Fails objects earlier f = EntryStands objects f.entry → ⊥

first_failing : (objects : Schema) (page : ℕ) (fs earlier : List Found) → AreRising fs → (x : Found) → Contains fs x → page ≡ x.page → Fails objects [] x
    → ((f : Found) → Contains fs f → EntryStands objects f.entry ⊎ (Fails objects [] f × (page ≤ f.page))) → (f : Found) × (page ≡ f.page) × FirstBad (Fails objects) earlier fs f
first_failing objects page [] earlier rising x here at fails told = absurd (contains_none x here)
first_failing objects page (y ∷ ys) earlier rising x here at fails told = elim (told y (contains_here y ys)) [
  | inl stands ↦
      let later : Contains ys x = in_rest y x ys here (λ same. absurd (fails (subst (λ (f : Found). EntryStands objects f.entry) same stands))) (λ d. d) in
      let rest = first_failing objects page ys (y ∷ earlier) rising.1 x later at fails (λ f d. told f (contains_next y ys f d)) in
      (rest.0, rest.1, inr ((λ bad. bad stands), rest.2))
  | inr bad ↦
      let le : y.page ≤ x.page = in_rest y x ys here (λ same. let e = ap (λ (f : Found). f.page) same in omega (arith, e)) (λ d. rising.0 x d) in
      let more = bad.1 in
      (y, omega (arith, le, more, at), inl (refl, bad.0))
]

none_fails : (objects : Schema) (fs earlier : List Found) → ((f : Found) → Contains fs f → EntryStands objects f.entry) → NoneBad (Fails objects) earlier fs
none_fails objects [] earlier stand = tt
none_fails objects (f ∷ fs) earlier stand = ((λ bad. bad (stand f (contains_here f fs))), none_fails objects fs (f ∷ earlier) (λ g d. stand g (contains_next f fs g d)))

-- ---- rule 12

module _ (c : List ℕ) (image : FoundImage) (has : HasImage c image) (m : FinMap place_cmp StoredEntry) (gathers : Gathers m (found_entries image c)) (objects : Schema)
    (creates : AllCreate [] (texts_found (in_texts (definitions_in (entries m))).1) objects) (stands : StandsUpTo 11 c (as_header image.header)) where
  pub entries_fail : (bad : BadImage) → TellsEntry objects m bad → IsRefused c bad
  entries_fail bad tells = refused_next 11 c bad entries_read refl tells.rule stands.passes (λ d found.
      let least = tells.least in
      let first = first_failing objects bad.place (found_entries image c) [] (before_rises image.header.area_bytes image.map c image.low_map image.header.pages) (found_at least.at least.held)
      (gathers.has.only least.at least.held least.there) least.page_is least.fails (λ f here. least.others f.entry.0 (held_of f) (gathers.has.held f here)) in (
        objects,
        subst (λ (ds : List Found). AllCreate [] (texts_found (in_texts ds).1) objects) (definitions_are c image has m gathers d found) creates,
        first.0,
        first.1,
        subst (λ (fs : List Found). FirstBad (Fails objects) [] fs first.0) (sym (all_are c image has d found)) first.2,
      ))

  pub entries_stand : ((f : Found) → Contains (found_entries image c) f → EntryStands objects f.entry) → StandsUpTo 12 c (as_header image.header)
  entries_stand stand = record {
    live = stands.live;
    passes = passes_next 11 c entries_read refl stands.passes (λ d found place fails.
        let defined : AllCreate [] (texts_found (in_texts d.definitions).1) objects = subst (λ (ds : List Found). AllCreate [] (texts_found (in_texts ds).1) objects) (definitions_are c image has m gathers d found) creates in
        let same : fails.0 ≡ objects = creates_once one_statement [] (texts_found (in_texts d.definitions).1) fails.0 objects fails.1 defined in
        none_first (Fails objects) [] (all_found d.stored) fails.2 (none_fails objects (all_found d.stored) [] (λ f here. stand f (subst (λ (fs : List Found). Contains fs f) (all_are c image has d found) here)))
        (subst (λ (o : Schema). FirstBad (Fails o) [] (all_found d.stored) fails.2) same fails.4));
  }
