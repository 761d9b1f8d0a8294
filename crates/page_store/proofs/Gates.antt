-- What a crash leaves while the gate of the header that is not kept is closed or opened.
use Rattle.std.proofs.Common.{◌≡◌, ◌≢◌, ◌⊎◌, inl, inr, ⊎_elim, true, false, ℕ, ◌-◌, ◌<◌, ◌≤◌, List, length, get_or, Some, sym, ◌∙◌, ap, subst, arith}
use Rattle.std.proofs.lemmas.Bool.Decides.{nat_tests}
use Rattle.std.proofs.lemmas.Bool.{cases_eq, cases_lt}
use Rattle.disk_io.specs.Bytes.{same_bytes}
use Rattle.page_store.specs.Image.{header_at, is_open, number_of, choose, live, image}
use Rattle.page_store.specs.Kept.{Names, HeldStays, Outside}
use Rattle.page_store.proofs.Old.{live_is, one_open, live_open, none_closed, shut_closed, kept_number, kept_open, kept_means, kept_none, kept_outside}
use Rattle.page_store.proofs.Free.{header_free}

choose_first : (m n : ℕ) → n < m → choose true true m n ≡ Some 0
choose_first m n lt = grind (arith, nat_tests)

choose_second : (m n : ℕ) → m < n → choose true true m n ≡ Some 1
choose_second m n lt = grind (arith, nat_tests)

pub newer_live : (k : ℕ) (c : List ℕ) → (k ≡ 0) ⊎ (k ≡ 1) → is_open k c ≡ true → is_open (1 - k) c ≡ true → number_of k c < number_of (1 - k) c → live c ≡ Some (1 - k)
newer_live k c (inl is) a b less =
    let a' : is_open 0 c ≡ true = subst (λ n. is_open n c ≡ true) is a in
    let b' : is_open 1 c ≡ true = subst (λ n. is_open (1 - n) c ≡ true) is b in
    let lt : number_of 0 c < number_of 1 c = subst (λ n. number_of n c < number_of (1 - n) c) is less in
    live_is c ∙ (λ i. choose (a' i) (b' i) (number_of 0 c) (number_of 1 c)) ∙ choose_second (number_of 0 c) (number_of 1 c) lt ∙ ap (λ n. Some (1 - n)) (sym is)
newer_live k c (inr is) a b less =
    let a' : is_open 1 c ≡ true = subst (λ n. is_open n c ≡ true) is a in
    let b' : is_open 0 c ≡ true = subst (λ n. is_open (1 - n) c ≡ true) is b in
    let lt : number_of 1 c < number_of 0 c = subst (λ n. number_of n c < number_of (1 - n) c) is less in
    live_is c ∙ (λ i. choose (b' i) (a' i) (number_of 0 c) (number_of 1 c)) ∙ choose_first (number_of 0 c) (number_of 1 c) lt ∙ ap (λ n. Some (1 - n)) (sym is)

pub other_side : (k : ℕ) → (k ≡ 0) ⊎ (k ≡ 1) → (1 - k ≡ 0) ⊎ (1 - k ≡ 1)
other_side k s = ⊎_elim (λ e. inr (omega (arith, e))) (λ e. inl (omega (arith, e))) s

-- a header that is open alone
pub alone_live : (k : ℕ) (c : List ℕ) → (k ≡ 0) ⊎ (k ≡ 1) → is_open k c ≡ false → is_open (1 - k) c ≡ true → live c ≡ Some (1 - k)
alone_live k c side a b =
    let back : 1 - (1 - k) ≡ k = ⊎_elim (λ e. omega (arith, e)) (λ e. omega (arith, e)) side in
    one_open (1 - k) c (other_side k side) b (subst (λ n. is_open n c ≡ false) (sym back) a)

module _ (room pages k : ℕ) (s : List ℕ) (h : Names room pages k s) where
  side : k ≤ 1
  side = ⊎_elim (λ e. omega (arith, e)) (λ e. omega (arith, e)) h.side

  long : 278528 ≤ length s
  long = omega (arith, h.fits)

  pub kept_gate : (d c : List ℕ) → HeldStays room pages k s d → Outside (header_at (1 - k)) 1 d c → HeldStays room pages k s c
  kept_gate d c kept out = kept_outside room pages k s d c (header_at (1 - k)) 1 kept out (header_free room pages k s h (header_at (1 - k)) 1 (omega arith) (omega arith))

  -- closing the gate of the other header, or leaving it as it was
  pub closing : (c : List ℕ) → Outside (header_at (1 - k)) 1 s c → get_or s (header_at (1 - k)) 0 ≡ 165 → image room pages c ≡ image room pages s
  closing c out was_open = elim (cases_eq (get_or c (header_at (1 - k)) 0) 165) [
    | inl shows ↦ as_before shows
    | inr shuts ↦ kept_means room pages k s h c kept (shut_closed (1 - k) c shuts)
  ]
    where
      kept : HeldStays room pages k s c
      kept = kept_gate s c (kept_none room pages k s) out

      byte : get_or c (header_at (1 - k)) 0 ≡ 165 → (i : ℕ) → get_or c i 0 ≡ get_or s i 0
      byte shows i = elim (cases_lt i (header_at (1 - k))) [
        | inl lt ↦ out.same i (inl lt)
        | inr le ↦ elim (cases_lt (header_at (1 - k)) i) [
          | inl past ↦ out.same i (inr (omega arith))
          | inr at ↦ let e : i ≡ header_at (1 - k) = omega arith in subst (λ j. get_or c j 0 ≡ get_or s j 0) (sym e) (shows ∙ sym was_open)
        ]
      ]

      as_before : get_or c (header_at (1 - k)) 0 ≡ 165 → image room pages c ≡ image room pages s
      as_before shows = ap (image room pages) (same_bytes c s out.size (λ i lt. byte shows i))

  -- a crash left the old image while the gate was closed, or the header behind it is open
  pub shut_means : (d c : List ℕ) → HeldStays room pages k s d → Outside (header_at (1 - k)) 1 d c → get_or c (header_at (1 - k)) 0 ≢ 165 → image room pages c ≡ image room pages s
  shut_means d c kept out shuts = kept_means room pages k s h c (kept_gate d c kept out) (shut_closed (1 - k) c shuts)

  -- the kept header beside the new one
  pub new_live : (c : List ℕ) → HeldStays room pages k s c → is_open (1 - k) c ≡ true → (live s ≡ Some k → number_of k s < number_of (1 - k) c) → live c ≡ Some (1 - k)
  new_live c kept opens newer = elim h.stands [
    | inl l ↦ newer_live k c h.side (kept_open room pages k s h c kept ∙ live_open k s h.side l) opens (omega (arith, newer l, kept_number room pages k s h c kept))
    | inr none ↦ alone_live k c h.side (kept_open room pages k s h c kept ∙ subst (λ n. is_open n s ≡ false) (sym none.1) (none_closed s none.0).0) opens
  ]
