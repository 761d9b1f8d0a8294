-- A disk whose gates are closed has no live header, and what a publish then writes of pages of which none is stored bears a new
-- database.
use Rattle.std.proofs.Common.{◌≡◌, ℕ, zero, suc, ◌*◌, ◌≤◌, Bool, false, if◌then◌else◌, List, [], ◌∷◌, ◌++◌, map, length, get_or, replicate, Option, None, Some, refl, sym, ap, subst, ◌∙◌, arith}
use Rattle.std.specs.List.{range_with_len}
use Rattle.std.specs.Prelude.{IsSomeAnd}
use Rattle.std.proofs.lemmas.List.{length-replicate}
use Rattle.disk_io.specs.Disk.{part, splice}
use Rattle.disk_io.specs.Bytes.{length-splice, byte-splice_before, byte-splice_in}
use Rattle.page_store.specs.declared.facts.HeaderFacts.{HeaderFacts}
use Rattle.page_store.specs.Image.{Image, live, image}
use Rattle.page_store.specs.Publish.{IsFirstBlock, IsNew, new_image, page_if, stored_pages}
use Rattle.page_store.proofs.Old.{shut_closed, none_open}
use Rattle.log_records.specs.Area.{block}
use Rattle.wal_log.specs.Log.{new_log}
use Rattle.wal_log.proofs.KeptLaws.{block_is}
use Rattle.log_disk.specs.Bears.{Bears}
use Rattle.log_disk.specs.Calls.{Saves, first_block}
use Rattle.log_disk.proofs.Blank.{AreNone, bare, none_stored}
use Rattle.log_disk.proofs.Fresh.{new_bears}
use Rattle.recovery.specs.Formatted.{blank, IsFirst}

pub gates_closed : (s one both : List ℕ) → 278528 ≤ length s → one ≡ splice 0 (0 ∷ []) s → both ≡ splice 139264 (0 ∷ []) one → live both ≡ None
gates_closed s one both long first second = none_open both (shut_closed 0 both (λ e. absurd (omega (arith, e, zero_first)))) (shut_closed 1 both (λ e. absurd (omega (arith, e, zero_second))))
  where
    size : length one ≡ length s
    size = ap length first ∙ length-splice 0 (0 ∷ []) s (omega (arith, long))

    zero_first : get_or both 0 0 ≡ 0
    zero_first =
        ap (λ (l : List ℕ). get_or l 0 0) second
        ∙ byte-splice_before 139264 (0 ∷ []) one 0 (omega (arith, long, size)) (omega arith)
        ∙ ap (λ (l : List ℕ). get_or l 0 0) first
        ∙ byte-splice_in 0 (0 ∷ []) s 0 (omega arith) (omega arith)

    zero_second : get_or both 139264 0 ≡ 0
    zero_second = ap (λ (l : List ℕ). get_or l 139264 0) second ∙ byte-splice_in 139264 (0 ∷ []) one 0 (omega (arith, long, size)) (omega arith)

-- an empty block is a first block
pub six_bytes : block [] ++ 0 ∷ [] ≡ 165 ∷ 0 ∷ 0 ∷ 0 ∷ 0 ∷ 0 ∷ []
six_bytes = ap (λ (l : List ℕ). l ++ 0 ∷ []) (block_is [])

pub first_is : IsFirstBlock (block [] ++ 0 ∷ [])
first_is = subst IsFirstBlock (sym six_bytes) (record { some = omega arith; opens = refl; long = refl; shut = λ e. absurd (omega (arith, e)) })

none_map : (f : ℕ → Option (List ℕ)) (ps : List ℕ) → ((p : ℕ) → f p ≡ None) → AreNone (map f ps)
none_map f [] each = tt
none_map f (p ∷ ps) each = (each p, none_map f ps each)

false_at : (n p : ℕ) → get_or (replicate n false) p false ≡ false
false_at zero p = refl
false_at (suc n) zero = refl
false_at (suc n) (suc p) = false_at n p

none_of : (count : ℕ) (bytes : List ℕ) → AreNone (stored_pages (replicate count false) bytes)
none_of count bytes = none_map (page_if (replicate count false) bytes) (range_with_len 0 (length (replicate count false))) (λ p. ap (λ (b : Bool). if b then Some (part (8192 * p) 8192 bytes) else None) (false_at count p))

abbrev pub first_facts : HeaderFacts
first_facts = record { format = 1; number = 1; commits = 0; next_entry = 1; area = 0 }

pub blank_bears : (room count : ℕ) (bytes c : List ℕ) → 65536 ≤ room → IsNew room first_facts (first_block (new_log room)) (replicate count false) bytes c → Bears room count c blank
blank_bears room count bytes c least new = new_bears room count bare [] 1 (new_log room) (new_log room) first_facts (replicate count false) bytes saves tt c new
  where
    saves : Saves room count bare [] 1 (new_log room) (new_log room) first_facts (replicate count false) bytes
    saves = record {
      format = refl;
      area = omega arith;
      commits = refl;
      next_entry = refl;
      many = length-replicate count false;
      pages = none_stored (stored_pages (replicate count false) bytes) (none_of count bytes);
      log_is = refl;
      small = tt;
      short = omega arith;
      block_fits = omega (arith, least, ap length six_bytes);
    }

pub first_header : (room count : ℕ) (block bytes c : List ℕ) → IsNew room first_facts block (replicate count false) bytes c → IsSomeAnd (image room count c) IsFirst
first_header room count block bytes c new = subst (λ (o : Option Image). IsSomeAnd o IsFirst) (sym means) (record { number = refl; next_entry = refl; area = refl; no_pages = none_of count bytes })
  where
    means : image room count c ≡ Some (new_image room first_facts block (replicate count false) bytes new.map new.log)
    means = ap (λ (n : ℕ). image room n c) (sym (length-replicate count false)) ∙ new.means
