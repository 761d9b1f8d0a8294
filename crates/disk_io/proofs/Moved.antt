-- What a call that failed, or one call more, leaves of a record.
use Rattle.std.proofs.Common.{◌≡◌, ℕ, List, [], ◌∷◌, ◌++◌, length, refl, sym, ◌∙◌, ap, subst}
use Rattle.disk_io.specs.Bytes.{torn_none}
use Rattle.disk_io.specs.Disk.{splice, AreBytes, Torn, Follows, Only, Elapses}
use Rattle.disk_io.specs.Events.{Event, Wrote, Synced, after, MayLeave, AllFit, Fits, LeftSince, elapses_by, elapses_none, left_last, left_synced, left_bytes, after_last, fits_last, reads_last}

module _ (first : List ℕ) (es es' : List Event) where
  abbrev Images : List Event → List ℕ → Type 0
  Images l c = MayLeave l first (λ b. b ≡ first) c

  abbrev Passes : List Event → Type 0
  Passes l = Elapses (length es) (length l) (LeftSince es first) (LeftSince l first) (Images l)

  pub elapses_same : es' ≡ es → Passes es'
  elapses_same same = subst Passes (sym same) (elapses_none es first)

  pub elapses_more : (e : Event) → es' ≡ es ++ e ∷ [] → Passes es'
  elapses_more e more = subst Passes (sym more) (elapses_by es e first)

  pub torn_same : (at n : ℕ) → AllFit (length first) es → AreBytes first → es' ≡ es → Follows (Torn at n) (Images es) (Images es')
  torn_same at n fits bytes same c left =
      let here = subst (λ l. Images l c) same left in
      (c, here, torn_none at n c (left_bytes es first fits bytes c here))

  pub torn_more : (at : ℕ) (w : List ℕ) → es' ≡ es ++ Wrote at w ∷ [] → Follows (Torn at (length w)) (Images es) (Images es')
  torn_more at w more c left = left_last es at w first (λ b. b ≡ first) c (subst (λ l. Images l c) more left)

  pub less_same : es' ≡ es → (c : List ℕ) → Images es' c → Images es c
  less_same same c left = subst (λ l. Images l c) same left

  pub synced : (now : List ℕ) → now ≡ after es first → es' ≡ es ++ Synced ∷ [] → Only now (Images es')
  synced now is more c left = left_synced es first (λ b. b ≡ first) c (subst (λ l. Images l c) more left) ∙ sym is

  pub less_synced : (now : List ℕ) → now ≡ after es first → AllFit (length first) es → AreBytes first → es' ≡ es ++ Synced ∷ [] → (c : List ℕ) → Images es' c → Images es c
  less_synced now is fits bytes more c left =
      subst (λ b. Images es b) (sym (synced now is more c left)) (subst (λ b. Images es b) (sym is) (reads_last es first (λ b. b ≡ first) fits bytes refl))

  pub replays_synced : (now : List ℕ) → now ≡ after es first → es' ≡ es ++ Synced ∷ [] → now ≡ after es' first
  replays_synced now is more = is ∙ sym (ap (λ l. after l first) more ∙ after_last es Synced first)

  pub replays_wrote : (at : ℕ) (w now now' : List ℕ) → now ≡ after es first → now' ≡ splice at w now → es' ≡ es ++ Wrote at w ∷ [] → now' ≡ after es' first
  replays_wrote at w now now' is put more = put ∙ ap (splice at w) is ∙ sym (ap (λ l. after l first) more ∙ after_last es (Wrote at w) first)

  pub fits_more : (e : Event) → Fits (length first) e → AllFit (length first) es → es' ≡ es ++ e ∷ [] → AllFit (length first) es'
  fits_more e one all more = subst (AllFit (length first)) (sym more) (fits_last (length first) es e all one)
