-- Lemmas on names that are kept in the order of their bytes.
use Rattle.std.proofs.Common.{◌≡◌, ℕ, Bool, true, false, ◌||◌, List, [], ◌∷◌}
use mathlib.Core.Path.{refl, sym, ap, ◌∙◌}
use denote.Ref.{Bor}
use Rattle.std.specs.declared.cmp.Ordering.{Ordering}
use Rattle.std.specs.declared.cmp.Ordering.TheVariants.{Less, Equal, Greater}
use Rattle.std.specs.Ordering.{is_eq, nat_cmp, match_ordering}
use Rattle.std.specs.Str.{bytes_eq}
use Rattle.std.specs.List.{list_any}
use Rattle.std.specs.Cmp.Lexicographic.{slice_cmp, bytes_decides}
use Rattle.std.specs.BTreeSet.{insert_key}
use Rattle.std.proofs.lemmas.Map.Text.{is_eq-slice_cmp}
use Rattle.iv_meaning.specs.Resolving.{is_among}
use Rattle.bind_resolve.specs.Seen.{names_in, Alike}
use Rattle.bind_resolve.proofs.Walks.{or_turned}

abbrev pub by_now : Bor (List ℕ) → Bor (List ℕ) → Ordering
by_now a b = slice_cmp nat_cmp a.now b.now

pub found_by : (name : List ℕ) (keys : List (Bor (List ℕ))) → list_any (λ k. is_eq (slice_cmp nat_cmp name k.now)) keys ≡ is_among (names_in keys) name
found_by name [] = refl
found_by name (k ∷ keys) =
    ap (λ t. t || list_any (λ j. is_eq (slice_cmp nat_cmp name j.now)) keys) (is_eq-slice_cmp name k.now)
    ∙ ap (λ t. bytes_eq name k.now || t) (found_by name keys)

or_same : (a b : Bool) → (a || b) ≡ (a || (a || b))
or_same true b = refl
or_same false b = refl

added_at : (o : Ordering) (x k : Bor (List ℕ)) (xs : List (Bor (List ℕ))) (name : List ℕ) → by_now k x ≡ o
    → is_among (names_in (insert_key by_now xs k)) name ≡ is_among (k.now ∷ names_in xs) name
    → is_among (names_in (match_ordering o (k ∷ x ∷ xs) (x ∷ xs) (x ∷ insert_key by_now xs k))) name ≡ is_among (k.now ∷ x.now ∷ names_in xs) name
added_at Less x k xs name e h = refl
added_at Equal x k xs name e h =
    let same : k.now ≡ x.now = (bytes_decides k.now x.now).0 (sym (is_eq-slice_cmp k.now x.now) ∙ ap is_eq e) in
    or_same (bytes_eq name x.now) (is_among (names_in xs) name) ∙ ap (λ n. is_among (n ∷ x.now ∷ names_in xs) name) (sym same)
added_at Greater x k xs name e h = ap (λ t. bytes_eq name x.now || t) h ∙ or_turned (bytes_eq name x.now) (bytes_eq name k.now) (is_among (names_in xs) name)

pub added : (keys : List (Bor (List ℕ))) (k : Bor (List ℕ)) → Alike (names_in (insert_key by_now keys k)) (k.now ∷ names_in keys)
added [] k name = refl
added (x ∷ xs) k name = added_at (by_now k x) x k xs name refl (added xs k name)
