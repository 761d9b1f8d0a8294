-- What the book counts, and its entries.
use Rattle.std.specs.Prelude.{◌≡◌, ℕ, zero, suc, ◌+◌, ◌≤◌, ◌<◌, List, [], ◌∷◌, ◌++◌, map, take, length, reverse, sum_by, Option, None, Some}
use Rattle.std.specs.List.{sum, AllZip}
use mathlib.Core.Path.{refl, sym, ap, subst, ◌∙◌}
use Rattle.std.proofs.Common.{arith}
use Rattle.std.proofs.lemmas.List.{reverse-append}
use Rattle.std.proofs.lemmas.List.Sums.{sum_by-append}
use Rattle.iv_types.specs.declared.lock.Change.{Change}
use Rattle.iv_types.specs.declared.lock.KeptStep.{KeptStep}
use Rattle.iv_types.specs.declared.lock.KeptStep.TheVariants as kept
use Rattle.iv_types.specs.declared.statement.Mode.{Mode}
use Rattle.iv_types.specs.declared.statement.Mode.TheVariants.{Serial, Snapshot}
use Rattle.iv_meaning.specs.Schema.{Schema}
use Rattle.iv_meaning.specs.History.{Entry}
use Rattle.iv_meaning.specs.Statement.{sets}
use Rattle.txn_machine.specs.Keeping as machine
use Rattle.txn_machine.specs.Keeping.{changes_of}
use Rattle.txn_machine.specs.Counts as counts
use Rattle.txn_machine.specs.Counts.{kept_change_size, set_size, size_of_entry, open_size, sum_over, history_size}
use Rattle.txn_machine.specs.Store.{entry_changes}
use Rattle.txn_machine.specs.Log.{Logged}
use Rattle.txn_machine.specs.Deltas.{RowChange}
use Rattle.txn_machine.specs.RowChanges.{row_change}
use Rattle.txn_book.specs.Opens.{open_at}
use Rattle.txn_book.specs.Txns.{changes_in, entry_size}
use Rattle.txn_book.specs.Books.{Books, IsBook, bytes_of, total_bytes}
use Rattle.txn_book.specs.Holding.{AreKept, changes_size, IsSame, IsKept, Holds}
use Rattle.txn_book.specs.declared.open_table.Open.{Open}
use Rattle.txn_book.proofs.Booking.{opens_more, opens_all}

-- ---- open transactions

-- over the places from 1 on, and that of nobody
over_places : (opens : List (Option Open)) (n : ℕ) → n < length opens → sum_by bytes_of (take (n + 1) opens) ≡ bytes_of (open_at opens 0) + sum_over n (λ j. bytes_of (open_at opens j))
over_places opens zero lt = opens_more bytes_of opens 0 (open_at opens 0) lt refl ∙ omega arith
over_places opens (suc n) lt =
    let rest = over_places opens n (omega (arith, lt)) in
    let more = opens_more bytes_of opens (suc n) (open_at opens (suc n)) lt refl in
    let next : suc n ≡ n + 1 = omega arith in
    let same : take (suc n) opens ≡ take (n + 1) opens = ap (λ k. take k opens) next in
    omega (arith, rest, more, ap (sum_by bytes_of) same)

same_over : (n : ℕ) (f g : ℕ → ℕ) → ((j : ℕ) → 1 ≤ j → j ≤ n → f j ≡ g j) → sum_over n f ≡ sum_over n g
same_over zero f g h = refl
same_over (suc n) f g h = omega (arith, same_over n f g (λ j low high. h j low (omega (arith, high))), h (suc n) (omega arith) (omega arith))

abbrev size_by : Schema → machine.Open → Mode → ℕ
size_by objects o m = elim m [ Serial ↦ counts.entry_size + sum (map (kept_change_size objects) (changes_of o.kept)) | Snapshot ↦ 0 ]

one_counts : (objects : Schema) (t : Option Open) (o : Option machine.Open) (l : Logged) → ((x : machine.Open) → o ≡ Some x → x.mode ≡ Snapshot → x.kept ≡ []) → IsSame objects t o l → bytes_of t ≡ open_size objects o
one_counts objects None None l alone same = refl
one_counts objects (Some t) None l alone same = absurd same
one_counts objects None (Some o) l alone same = absurd same
one_counts objects (Some t) (Some o) l alone same = by o.mode refl
  where
    by : (m : Mode) → o.mode ≡ m → t.history_bytes ≡ open_size objects (Some o)
    by Serial e = same.history_bytes ∙ (ap (λ m. entry_size m + changes_size objects o.kept) e ∙ sym (ap (size_by objects o) e))
    by Snapshot e =
        let none : changes_size objects o.kept ≡ 0 = ap (changes_size objects) (alone o refl e) in
        let is : t.history_bytes ≡ entry_size Snapshot + changes_size objects o.kept = same.history_bytes ∙ ap (λ m. entry_size m + changes_size objects o.kept) e in
        let nothing : t.history_bytes ≡ 0 = omega (arith, is, none) in
        nothing ∙ sym (ap (size_by objects o) e)

-- what the book counts is what the machine counts, where snapshots keep nothing
pub bytes_law : (b : Books) (objects : Schema) (open_of : ℕ → Option machine.Open) (logged : ℕ → Logged) (history : List Entry) (greatest definitions : ℕ) → IsBook b
    → Holds b objects open_of logged history greatest definitions → ((session : ℕ) (o : machine.Open) → open_of session ≡ Some o → o.mode ≡ Snapshot → o.kept ≡ [])
    → total_bytes b ≡ history_size objects history definitions open_of
bytes_law b objects open_of logged history greatest definitions good holds alone =
    let places : length b.opens ≡ 65 = good.places in
    let all = opens_all bytes_of b.opens 65 (omega (arith, places)) in
    let over = over_places b.opens 64 (omega (arith, places)) in
    let nobody : bytes_of (open_at b.opens 0) ≡ 0 = ap bytes_of holds.nobody in
    let each = same_over 64 (λ j. bytes_of (open_at b.opens j)) (λ j. open_size objects (open_of j)) (λ j low high. one_counts objects (open_at b.opens j) (open_of j) (logged j) (alone j) (holds.txns j (low, high))) in
    omega (arith, all, over, nobody, each, holds.bytes)

-- ---- entries

-- changes in order, as an entry of the machine keeps them
kept_alike : (bs : List KeptStep) (ks : List machine.KeptStep) (ns : List ℕ) → AreKept bs ks ns → AllZip (λ c r. row_change c ≡ r) (changes_in bs) (changes_of ks)
kept_alike [] [] ns h = tt
kept_alike [] (k ∷ ks) ns h = absurd h
kept_alike (kept.Put k a b n ∷ bs) (machine.Put c owed ∷ ks) (m ∷ ns) h = (h.0, kept_alike bs ks ns h.2)
kept_alike (kept.Pay d before n ∷ bs) (machine.Pay e ∷ ks) (m ∷ ns) h = kept_alike bs ks ns h.2
kept_alike (kept.Put k a b n ∷ bs) (machine.Put c owed ∷ ks) [] h = absurd h
kept_alike (kept.Pay d before n ∷ bs) (machine.Pay e ∷ ks) [] h = absurd h
kept_alike (kept.Put k a b n ∷ bs) (machine.Pay e ∷ ks) ns h = absurd h
kept_alike (kept.Pay d before n ∷ bs) (machine.Put c owed ∷ ks) ns h = absurd h
kept_alike (kept.Put k a b n ∷ bs) [] ns h = absurd h
kept_alike (kept.Pay d before n ∷ bs) [] ns h = absurd h

-- place by place, one more at the end
pub zip_push : {A B : Type 0} (R : A → B → Type 0) (xs : List A) (ys : List B) (x : A) (y : B) → AllZip R xs ys → R x y → AllZip R (xs ++ x ∷ []) (ys ++ y ∷ [])
zip_push R [] [] x y h r = (r, tt)
zip_push R (a ∷ xs) (b ∷ ys) x y h r = (h.0, zip_push R xs ys x y h.1 r)
zip_push R [] (b ∷ ys) x y h r = absurd h
zip_push R (a ∷ xs) [] x y h r = absurd h

reverse_cons : {A : Type 0} (x : A) (xs : List A) → reverse (x ∷ xs) ≡ reverse xs ++ x ∷ []
reverse_cons x xs = reverse-append (x ∷ []) xs

-- and the other way round
zip_reverse : {A B : Type 0} (R : A → B → Type 0) (xs : List A) (ys : List B) → AllZip R xs ys → AllZip R (reverse xs) (reverse ys)
zip_reverse R [] [] h = tt
zip_reverse R (x ∷ xs) (y ∷ ys) h =
    subst (λ l. AllZip R l (reverse (y ∷ ys))) (sym (reverse_cons x xs)) (subst (λ l. AllZip R (reverse xs ++ x ∷ []) l) (sym (reverse_cons y ys)) (zip_push R (reverse xs) (reverse ys) x y (zip_reverse R xs ys h.1) h.0))
zip_reverse R [] (y ∷ ys) h = absurd h
zip_reverse R (x ∷ xs) [] h = absurd h

set_alike : (cs : List Change) (rs : List RowChange) → AllZip (λ c r. row_change c ≡ r) cs rs → AllZip IsKept cs (map sets rs)
set_alike [] [] h = tt
set_alike (c ∷ cs) (r ∷ rs) h = (h.0, set_alike cs rs h.1)
set_alike [] (r ∷ rs) h = absurd h
set_alike (c ∷ cs) [] h = absurd h

pub entry_alike : (bs : List KeptStep) (ks : List machine.KeptStep) (ns : List ℕ) → AreKept bs ks ns → AllZip IsKept (reverse (changes_in bs)) (entry_changes ks)
entry_alike bs ks ns h = set_alike (reverse (changes_in bs)) (reverse (changes_of ks)) (zip_reverse (λ c r. row_change c ≡ r) (changes_in bs) (changes_of ks) (kept_alike bs ks ns h))

-- ---- one more entry

pub sum_with : (f : Entry → ℕ) (es : List Entry) (e : Entry) → sum (map f (es ++ e ∷ [])) ≡ sum (map f es) + f e
sum_with f [] e = omega (arith, sum_by-append (λ n. n) [] (f e ∷ []))
sum_with f (x ∷ es) e = omega (arith, sum_with f es e, sum_by-append (λ n. n) (f x ∷ []) (map f (es ++ e ∷ [])), sum_by-append (λ n. n) (f x ∷ []) (map f es))

sum_set : (objects : Schema) (rs : List RowChange) → sum (map (set_size objects) (map sets rs)) ≡ sum (map (kept_change_size objects) rs)
sum_set objects [] = refl
sum_set objects (r ∷ rs) = omega (arith, sum_set objects rs, sum_by-append (λ n. n) (kept_change_size objects r ∷ []) (map (set_size objects) (map sets rs)), sum_by-append (λ n. n) (kept_change_size objects r ∷ []) (map (kept_change_size objects) rs))

sum_back : (f : RowChange → ℕ) (rs : List RowChange) → sum (map f (reverse rs)) ≡ sum (map f rs)
sum_back f [] = refl
sum_back f (r ∷ rs) =
    let pushed = ap (λ l. sum (map f l)) (reverse_cons r rs) in
    omega (arith, pushed, sum_pushed f (reverse rs) r, sum_back f rs, sum_by-append (λ n. n) (f r ∷ []) (map f rs))
  where
    sum_pushed : (f : RowChange → ℕ) (xs : List RowChange) (x : RowChange) → sum (map f (xs ++ x ∷ [])) ≡ sum (map f xs) + f x
    sum_pushed f [] x = omega (arith, sum_by-append (λ n. n) [] (f x ∷ []))
    sum_pushed f (y ∷ xs) x = omega (arith, sum_pushed f xs x, sum_by-append (λ n. n) (f y ∷ []) (map f (xs ++ x ∷ [])), sum_by-append (λ n. n) (f y ∷ []) (map f xs))

-- what the entry of a transaction counts
pub entry_counts : (objects : Schema) (number session : ℕ) (ks : List machine.KeptStep)
    → size_of_entry objects (record { number = number; session = session; kept = entry_changes ks }) ≡ counts.entry_size + changes_size objects ks
entry_counts objects number session ks = omega (arith, sum_set objects (reverse (changes_of ks)), sum_back (kept_change_size objects) (changes_of ks))
