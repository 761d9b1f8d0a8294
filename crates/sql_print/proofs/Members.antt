-- The sessions of a set, bit by bit.
use Rattle.std.proofs.Common.{◌≡◌, ℕ, suc, ◌+◌, ◌-◌, ◌/◌, ◌%◌, ◌<◌, ◌≤◌, ◌==◌, true, false, List, [], ◌∷◌, ◌++◌, refl, sym, ap, ◌∙◌, append_assoc, add-one, arith}
use Rattle.std.specs.Fmt.{decimal}
use Rattle.std.proofs.lemmas.Bool.Decides.{nat_tests}
use Rattle.std.proofs.lemmas.List.{append-nil}
use Rattle.std.proofs.lemmas.List.Concat.{flat_map-cons}
use Rattle.iv_types.specs.Replies.{members_from, numbers_text, spaced}

pub no_members : (k session bits : ℕ) → k ≡ 0 → members_from k session bits ≡ []
no_members k session bits none = rw none refl

pub member_there : (k j session bits : ℕ) → k ≡ suc j → (bits % 2 == 1) ≡ true → members_from k session bits ≡ session ∷ members_from j (session + 1) (bits / 2)
member_there k j session bits more odd = rw (more, odd, add-one session) refl

pub member_not_there : (k j session bits : ℕ) → k ≡ suc j → (bits % 2 == 1) ≡ false → members_from k session bits ≡ members_from j (session + 1) (bits / 2)
member_not_there k j session bits more even = rw (more, even, add-one session) refl

pub numbers_first : (n : ℕ) (ns : List ℕ) → numbers_text (n ∷ ns) ≡ spaced (decimal n) ++ numbers_text ns
numbers_first n ns = flat_map-cons (λ m. spaced (decimal m)) n ns

is_one : (a : ℕ) → a ≡ 1 → (a == 1) ≡ true
is_one a e = rw e refl

is_not_one : (a : ℕ) → (a ≡ 1 → ⊥) → (a == 1) ≡ false
is_not_one a differs = grind (arith, nat_tests)

pub with_member : (n i bits : ℕ) (now next all : List ℕ) → i < n → bits % 2 ≡ 1 → now ++ numbers_text (members_from (n - i) (i + 1) bits) ≡ all → next ≡ now ++ spaced (decimal (i + 1)) → next ++ numbers_text (members_from (n - (i + 1)) (i + 1 + 1) (bits / 2)) ≡ all
with_member n i bits now next all lt odd h k =
    let rest = members_from (n - (i + 1)) (i + 1 + 1) (bits / 2) in
    let e : members_from (n - i) (i + 1) bits ≡ (i + 1) ∷ rest = member_there (n - i) (n - (i + 1)) (i + 1) bits (omega arith) (is_one (bits % 2) odd) in
    ap (λ (z : List ℕ). z ++ numbers_text rest) k
    ∙ (append_assoc now (spaced (decimal (i + 1))) (numbers_text rest)
    ∙ (ap (λ (z : List ℕ). now ++ z) (sym (ap numbers_text e ∙ numbers_first (i + 1) rest)) ∙ h))

pub without_member : (n i bits : ℕ) (now all : List ℕ) → i < n → (bits % 2 ≡ 1 → ⊥) → now ++ numbers_text (members_from (n - i) (i + 1) bits) ≡ all → now ++ numbers_text (members_from (n - (i + 1)) (i + 1 + 1) (bits / 2)) ≡ all
without_member n i bits now all lt even h =
    ap (λ (z : List ℕ). now ++ numbers_text z) (sym (member_not_there (n - i) (n - (i + 1)) (i + 1) bits (omega arith) (is_not_one (bits % 2) even))) ∙ h

pub after_members : (n i bits : ℕ) (now all : List ℕ) → n ≤ i → now ++ numbers_text (members_from (n - i) (i + 1) bits) ≡ all → now ≡ all
after_members n i bits now all le h = sym (append-nil now) ∙ (ap (λ (z : List ℕ). now ++ numbers_text z) (sym (no_members (n - i) (i + 1) bits (omega arith))) ∙ h)
