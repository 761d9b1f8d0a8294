-- A list of tokens has one first fault, and none where it is spelled.
use Rattle.std.proofs.Common.{◌≡◌, ℕ, suc, ◌<◌, ◌≤◌, List, [], ◌∷◌, ◌++◌, length, refl, sym, ap, subst, ◌∙◌, append_assoc, arith, inl, inr, ◌⊎◌}
use Rattle.std.proofs.lemmas.List.{append-nil, length-append}
use Rattle.text_grammar.specs.declared.fault.Cause.{Cause}
use Rattle.text_grammar.specs.declared.fault.Cause.TheVariants.{Syntax, Limit}
use Rattle.text_grammar.specs.declared.fault.Fault.{Fault}
use Rattle.text_grammar.specs.Languages.{Lang}
use Rattle.text_grammar.specs.Places.{Begins, Stuck, GoesOn, IsCause, FirstFault}
use Rattle.text_grammar.proofs.Lines.{split_front, begins_past}

-- where nothing goes on, nothing longer begins
no_longer : {T A : Type 0} (p : Lang T A) (front rest c d : List T) → front ++ rest ≡ c ++ d → Stuck p front rest → Begins p c → length d < length rest → ⊥
no_longer p front [] c d e stuck b lt = absurd (omega arith)
no_longer p front (t ∷ rest) c d e stuck b lt = let m = split_front front c d rest t e (omega arith) in stuck (begins_past p front c t m b)

less_or : (m n : ℕ) → (m < n) ⊎ ((n < m) ⊎ (m ≡ n))
less_or m n = grind arith

one_length : {T A L : Type 0} (p : L → Lang T A) (Agree : ℕ → L → L → Type 0) (limits : L) (ts : List T) (f g : Fault) (a : FirstFault p Agree limits ts f) (b : FirstFault p Agree limits ts g) → length a.rest ≡ length b.rest
one_length p Agree limits ts f g a b =
    elim (less_or (length a.rest) (length b.rest)) [
      | inl lt ↦ absurd (no_longer (p limits) b.front b.rest a.front a.rest (sym b.text ∙ a.text) b.stuck a.begins lt)
      | inr h ↦ elim h [
        | inl gt ↦ absurd (no_longer (p limits) a.front a.rest b.front b.rest (sym a.text ∙ b.text) a.stuck b.begins gt)
        | inr same ↦ same
      ]
    ]

same_split : {T : Type 0} (a b c d : List T) → a ++ b ≡ c ++ d → length b ≡ length d → (a ≡ c) × (b ≡ d)
same_split [] b [] d e len = (refl, e)
same_split [] b (y ∷ c) d e len = absurd (let k = ap length e in let j = length-append c d in omega (arith, k, j, len))
same_split (x ∷ a) b [] d e len = absurd (let k = ap length e in let j = length-append a b in omega (arith, k, j, len))
same_split (x ∷ a) b (y ∷ c) d e len =
    let tails : a ++ b ≡ c ++ d = cc in
    let heads : x ≡ y = cc in
    let m = same_split a b c d tails len in
    (ap (λ (z : _). z ∷ a) heads ∙ ap (λ (z : List _). y ∷ z) m.0, m.1)

no_both : {T A : Type 0} (p : Lang T A) (front rest : List T) → GoesOn p front rest → Stuck p front rest → ⊥
no_both p front [] g s = g
no_both p front (t ∷ rest) g s = s g

one_cause : {T A L : Type 0} (p : L → Lang T A) (Agree : ℕ → L → L → Type 0) (limits : L) → ((w v : ℕ) (l m : L) → w ≤ v → Agree v l m → Agree w l m) → (c d : Cause) (front rest : List T) → IsCause p Agree limits c front rest → IsCause p Agree limits d front rest → c ≡ d
one_cause p Agree limits weaken Syntax Syntax front rest a b = refl
one_cause p Agree limits weaken Syntax (Limit v) front rest a b = absurd (no_both (p b.0.0) front rest b.0.2 (a b.0.0))
one_cause p Agree limits weaken (Limit w) Syntax front rest a b = absurd (no_both (p a.0.0) front rest a.0.2 (b a.0.0))
one_cause p Agree limits weaken (Limit w) (Limit v) front rest a b =
    elim (less_or w v) [
      | inl lt ↦ absurd (no_both (p b.0.0) front rest b.0.2 (a.1 b.0.0 (weaken (suc w) v limits b.0.0 (omega arith) b.0.1)))
      | inr h ↦ elim h [
        | inl gt ↦ absurd (no_both (p a.0.0) front rest a.0.2 (b.1 a.0.0 (weaken (suc v) w limits a.0.0 (omega arith) a.0.1)))
        | inr same ↦ ap (λ (n : ℕ). Cause.Limit n) same
      ]
    ]

-- one place and one cause
pub one_fault : {T A L : Type 0} (p : L → Lang T A) (Agree : ℕ → L → L → Type 0) (limits : L) → ((w v : ℕ) (l m : L) → w ≤ v → Agree v l m → Agree w l m) → (ts : List T) (f g : Fault) → FirstFault p Agree limits ts f → FirstFault p Agree limits ts g → (f.cause ≡ g.cause) × (f.left ≡ g.left)
one_fault p Agree limits weaken ts f g a b =
    let len = one_length p Agree limits ts f g a b in
    let same = same_split a.front a.rest b.front b.rest (sym a.text ∙ b.text) len in
    let moved : IsCause p Agree limits f.cause b.front b.rest = subst (λ (z : List _). IsCause p Agree limits f.cause z b.rest) same.0 (subst (λ (z : List _). IsCause p Agree limits f.cause a.front z) same.1 a.cause) in
    (one_cause p Agree limits weaken f.cause g.cause b.front b.rest moved b.cause, sym a.place ∙ len ∙ b.place)

not_stuck : {T A : Type 0} (p : Lang T A) (ts front rest : List T) (s : A) → ts ≡ front ++ rest → Stuck p front rest → p ts s → ⊥
not_stuck p ts front [] s text stuck d = stuck s (subst (λ (z : List _). p z s) (text ∙ append-nil front) d)
not_stuck p ts front (t ∷ rest) s text stuck d = stuck (record { more = rest; value = s; spelled = subst (λ (z : List _). p z s) (text ∙ sym (append_assoc front (t ∷ []) rest)) d })

-- what is spelled has no fault
pub no_fault : {T A L : Type 0} (p : L → Lang T A) (Agree : ℕ → L → L → Type 0) (limits : L) (ts : List T) (f : Fault) (s : A) → FirstFault p Agree limits ts f → p limits ts s → ⊥
no_fault p Agree limits ts f s a d = not_stuck (p limits) ts a.front a.rest s a.text a.stuck d
