-- The entries of a page as they are taken, one after another.
use Rattle.std.proofs.Common.{◌≡◌, ◌≢◌, ℕ, suc, ◌+◌, ◌<◌, List, [], ◌∷◌, ◌++◌, map, length, get_or, drop, None, sym, ◌∙◌, ap, subst, append_assoc}
use Rattle.std.specs.FinMap.{FinMap, get, insert}
use Rattle.slot_page.specs.Page.{no_entry, entries, index_of}
use Rattle.table_laws.specs.Place.{place_cmp}
use Rattle.txn_log.specs.Damaged.{Found, found_in}
use Rattle.log_disk.specs.Bears.{page_entries}
use Rattle.image_finding.specs.declared.fault.BadImage.{BadImage}
use Rattle.image_finding.specs.declared.fault.FindFault.{FindFault}
use Rattle.image_finding.specs.declared.fault.FindFault.TheVariants as faults
use Rattle.std.specs.Prelude.{Result, Ok, Err}
use Rattle.image_finding.specs.Faults.{told_by, IfBad}
use Rattle.image_entries.specs.declared.stored.StoredEntry.{StoredEntry}
use Rattle.image_entries.specs.Entries.{found_at, Gathers, TellsTwice}
use Rattle.image_entries.proofs.Gathering.{gathers_more, tells_twice}
use Rattle.image_entries.proofs.Pages.{found_as, found_first, first_more, first_split, as_entry}

pub told_so : (fault : FindFault) (P Q : BadImage → Type 0) → ((bad : BadImage) → P bad → Q bad) → told_by fault P → told_by fault Q
told_so (faults.BadImage bad) P Q so h = so bad h
told_so faults.DiskFault P Q so h = tt
told_so faults.NoMemory P Q so h = tt

pub bad_so : {A : Type 0} (r : Result A FindFault) (P Q : BadImage → Type 0) → ((bad : BadImage) → P bad → Q bad) → IfBad r P → IfBad r Q
bad_so (Ok x) P Q so h = tt
bad_so (Err fault) P Q so h = told_so fault P Q so h

module _ (m : FinMap place_cmp StoredEntry) (fs : List Found) (place of i : ℕ) (page key value : List ℕ) (inside : i < length (entries page)) (of_is : of ≡ index_of page)
    (key_is : key ≡ (get_or (entries page) i no_entry).0) (value_is : value ≡ (get_or (entries page) i no_entry).1) (gathers : Gathers m (fs ++ found_first place page i)) where
  abbrev kept : StoredEntry
  kept = record { page = place; value = value }

  same : found_at (of, key) kept ≡ found_as place (index_of page) (get_or (entries page) i no_entry)
  same = λ t. record { page = place; entry = ((of_is t, key_is t), value_is t) }

  pub next_taken : (n : FinMap place_cmp StoredEntry) → get m (of, key) ≡ None → n ≡ insert m (of, key) kept → Gathers n (fs ++ found_first place page (i + 1))
  next_taken n free is =
      let list : fs ++ found_first place page (i + 1) ≡ (fs ++ found_first place page i) ++ found_at (of, key) kept ∷ [] =
      ap (λ (gs : List Found). fs ++ gs) (first_more place page i inside)
      ∙ (sym (append_assoc fs (found_first place page i) (found_as place (index_of page) (get_or (entries page) i no_entry) ∷ []))
      ∙ ap (λ (x : Found). (fs ++ found_first place page i) ++ x ∷ []) (sym same)) in
      subst (Gathers n) (sym list) (subst (λ k. Gathers k ((fs ++ found_first place page i) ++ found_at (of, key) kept ∷ [])) (sym is) (gathers_more m (fs ++ found_first place page i) (of, key) kept gathers free))

  pub next_twice : (rest : List Found) (bad : BadImage) → get m (of, key) ≢ None → bad.rule ≡ 10 → bad.place ≡ place → TellsTwice (fs ++ (found_in place (page_entries page) ++ rest)) bad
  next_twice rest bad taken rule at =
      let behind : List Found = found_in place (map (as_entry (index_of page)) (drop (suc i) (entries page))) in
      let x : Found = found_as place (index_of page) (get_or (entries page) i no_entry) in
      let list : fs ++ (found_in place (page_entries page) ++ rest) ≡ (fs ++ found_first place page i) ++ found_at (of, key) kept ∷ (behind ++ rest) =
      ap (λ (gs : List Found). fs ++ (gs ++ rest)) (first_split place page i inside)
      ∙ (ap (λ (gs : List Found). fs ++ gs) (append_assoc (found_first place page i) (x ∷ behind) rest)
      ∙ (sym (append_assoc fs (found_first place page i) (x ∷ (behind ++ rest)))
      ∙ ap (λ (y : Found). (fs ++ found_first place page i) ++ y ∷ (behind ++ rest)) (sym same))) in
      subst (λ (gs : List Found). TellsTwice gs bad) (sym list) (tells_twice m (fs ++ found_first place page i) (of, key) kept (behind ++ rest) bad gathers taken rule at)
