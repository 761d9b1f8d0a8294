-- All of the tokens.
use Rattle.std.proofs.Common.{◌≡◌, ℕ, suc, ◌<◌, ◌≤◌, List, [], ◌∷◌, ◌++◌, length, Result, Ok, Err, refl, sym, ap, subst, ◌∙◌, append_assoc, arith, inl, inr, Bool, true, false}
use Rattle.std.specs.Prelude.{nat_le}
use Rattle.std.proofs.lemmas.List.{append-nil, length-append}
use Rattle.text_grammar.specs.declared.fault.Cause.TheVariants.{Syntax, Limit}
use Rattle.text_grammar.specs.declared.fault.Cause.{Cause}
use Rattle.text_grammar.specs.declared.fault.Fault.{Fault}
use Rattle.text_grammar.specs.Readers.{Reader, fault_at, ended, all_of}
use Rattle.text_grammar.specs.Languages.{Lang}
use Rattle.text_grammar.specs.Places.{Begins, Stuck, GoesOn, IsCause, FirstFault}
use Rattle.text_grammar.proofs.Extends.{Beyond, raised, Extends, outruns_ok, outruns_same, outruns_beyond}
use Rattle.text_grammar.proofs.Exactness.{Exact, bind_ok, bind_err, ok_is, err_is, done, failed, begins_of, SameStart, the_result}

-- each text of the language is read
pub line_complete : {T A : Type 0} (p : Lang T A) (on : T → Bool) (r : Reader T A) → Exact p on r → (ts : List T) (a : A) → p ts a → all_of r ts ≡ Ok a
line_complete p on r re ts a h =
    let e : r ts ≡ Ok (a, []) = ap r (sym (append-nil ts)) ∙ re.complete ts [] a h refl in
    rw e refl

ended_ok : {T A : Type 0} (a b : A) (rest : List T) → ended (a, rest) ≡ Ok b → (rest ≡ []) × (a ≡ b)
ended_ok a b [] e = (refl, ok_is a b e)
ended_ok a b (t ∷ ts) e = absurd cc

-- what is read is a text of the language
pub line_sound : {T A : Type 0} (p : Lang T A) (on : T → Bool) (r : Reader T A) → Exact p on r → (ts : List T) (a : A) → all_of r ts ≡ Ok a → p ts a
line_sound p on r re ts a e =
    let x = bind_ok (r ts) (λ x. ended x) a e in
    let k = re.ok ts x.0 x.1 in
    let z = ended_ok x.0.0 a x.0.1 x.2 in
    let text : ts ≡ k.front = k.text ∙ ap (λ (t : List _). k.front ++ t) z.0 ∙ append-nil k.front in
    subst (λ (b : _). p ts b) z.1 (subst (λ (u : List _). p u x.0.0) (sym text) k.spelled)

-- read to the end, and what is left behind a front
read_all : {T A : Type 0} (p : Lang T A) (on : T → Bool) (r : Reader T A) → Exact p on r → (front : List T) (t : T) (b : Begins p (front ++ (t ∷ []))) → r (front ++ (t ∷ b.more)) ≡ Ok (b.value, [])
read_all p on r re front t b =
    let e1 : (front ++ (t ∷ [])) ++ b.more ≡ front ++ (t ∷ b.more) = append_assoc front (t ∷ []) b.more in
    ap r (sym e1 ∙ sym (append-nil ((front ++ (t ∷ [])) ++ b.more))) ∙ re.complete ((front ++ (t ∷ [])) ++ b.more) [] b.value b.spelled refl

stuck_fault : {T A : Type 0} (p : Lang T A) (on : T → Bool) (r : Reader T A) → Exact p on r → (front rest : List T) (f : Fault) → ((other : List T) → SameStart rest other → r (front ++ other) ≡ Err (fault_at f.cause other)) → Stuck p front rest
stuck_fault {T = T} {A = A} p on r re front [] f again = λ a h.
    let good : r (front ++ []) ≡ Ok (a, []) = re.complete front [] a h refl in
    let bad : r (front ++ []) ≡ Err (fault_at {T = T} f.cause []) = again [] refl in
    absurd (let both : done (a, []) ≡ failed {A = A × List T} (fault_at {T = T} f.cause []) = sym good ∙ bad in cc)
stuck_fault {T = T} {A = A} p on r re front (t ∷ rest) f again = λ b.
    let good = read_all p on r re front t b in
    let bad : r (front ++ (t ∷ b.more)) ≡ Err (fault_at f.cause (t ∷ b.more)) = again (t ∷ b.more) refl in
    absurd (let both : done (b.value, []) ≡ failed {A = A × List T} (fault_at f.cause (t ∷ b.more)) = sym good ∙ bad in cc)

stuck_behind : {T A : Type 0} (p : Lang T A) (on : T → Bool) (r : Reader T A) → Exact p on r → (front rest : List T) (t : T) (a : A) → ((other : List T) → SameStart (t ∷ rest) other → r (front ++ other) ≡ Ok (a, other)) → Stuck p front (t ∷ rest)
stuck_behind p on r re front rest t a again = λ b.
    let good = read_all p on r re front t b in
    let bad : r (front ++ (t ∷ b.more)) ≡ Ok (a, t ∷ b.more) = again (t ∷ b.more) refl in
    let pairs = ok_is (b.value, []) (a, t ∷ b.more) (sym good ∙ bad) in
    absurd (let lists : [] ≡ t ∷ b.more = ap (λ (z : _ × List _). z.1) pairs in cc)

-- a front that reaches past a token has it
pub split_front : {T : Type 0} (a c d b : List T) (t : T) → a ++ (t ∷ b) ≡ c ++ d → length d ≤ length b → (more : List T) × (c ≡ (a ++ (t ∷ [])) ++ more)
split_front [] [] d b t e le = absurd (let k = ap length e in omega arith)
split_front [] (u ∷ us) d b t e le = let same : t ≡ u = cc in (us, cc)
split_front (x ∷ xs) [] d b t e le = absurd (let k = ap length e in let j = length-append xs (t ∷ b) in omega arith)
split_front (x ∷ xs) (u ∷ us) d b t e le =
    let tails : xs ++ (t ∷ b) ≡ us ++ d = cc in
    let same : x ≡ u = cc in
    let m = split_front xs us d b t tails le in
    (m.0, let k = m.1 in cc)

pub begins_past : {T A : Type 0} (p : Lang T A) (front c : List T) (t : T) (m : (more : List T) × (c ≡ (front ++ (t ∷ [])) ++ more)) → Begins p c → Begins p (front ++ (t ∷ []))
begins_past p front c t m b = record {
  more = m.0 ++ b.more;
  value = b.value;
  spelled = subst (λ (z : List _). p z b.value) (ap (λ (z : List _). z ++ b.more) m.1 ∙ append_assoc (front ++ (t ∷ [])) m.0 b.more) b.spelled;
}

beyond_goes_on : {T A : Type 0} (p : Lang T A) (on : T → Bool) (r : Reader T A) → Exact p on r → Begins p [] → (ts front rest : List T) → ts ≡ front ++ rest → Beyond (length rest) (r ts) → GoesOn p front rest
beyond_goes_on {T = T} {A = A} p on r re some ts front [] text h =
    elim (the_result (r ts)) [
      | inl x ↦ absurd (let k : length x.0.1 < 0 = subst (λ (z : Result (A × List T) Fault). Beyond 0 z) x.1 h in omega arith)
      | inr d ↦ absurd (let k : d.0.left < 0 = subst (λ (z : Result (A × List T) Fault). Beyond 0 z) d.1 h in omega arith)
    ]
beyond_goes_on {T = T} {A = A} p on r re some ts front (t ∷ rest) text h =
    elim (the_result (r ts)) [
      | inl x ↦
          let lt : length x.0.1 < length (t ∷ rest) = subst (λ (z : Result (A × List T) Fault). Beyond (length (t ∷ rest)) z) x.1 h in
          let k = re.ok ts x.0 x.1 in
          begins_past p front k.front t (split_front front k.front x.0.1 rest t (sym text ∙ k.text) (omega arith)) (record { more = []; value = x.0.0; spelled = subst (λ (z : List _). p z x.0.0) (sym (append-nil k.front)) k.spelled })
      | inr d ↦
          let lt : d.0.left < length (t ∷ rest) = subst (λ (z : Result (A × List T) Fault). Beyond (length (t ∷ rest)) z) d.1 h in
          let k = re.err ts d.0 d.1 in
          begins_past p front k.front t (split_front front k.front k.rest rest t (sym text ∙ k.text) (omega (arith, ap (λ (g : Fault). g.left) k.place))) (begins_of p k.front some k.viable)
    ]

-- ---- the fault

-- Readers of one language under limits. `Raised w l m` says that m has the limits of l where the number is below w, and
-- larger ones from w on.
pub record Family {T A L : Type 0} (p : L → Lang T A) (Agree Raised : ℕ → L → L → Type 0) (on : T → Bool) (r : L → Reader T A) : Type 0 where
  pub exact : (l : L) → Exact (p l) on (r l)
  pub some : (l : L) → Begins (p l) []
  pub grows : (w : ℕ) (l m : L) → Raised w l m → Extends w (r l) (r m)
  pub none_agree : (l m : L) → Agree 0 l m
  pub join : (w : ℕ) (l m : L) → Agree w l m → (n : L) × Raised w l n × Raised w m n
  pub raise : (w : ℕ) (l : L) → (m : L) × Raised w l m × Agree w l m

-- a fault for a cause that is not raised stands under all limits that agree below
stuck_along : {T A L : Type 0} (p : L → Lang T A) (Agree Raised : ℕ → L → L → Type 0) (on : T → Bool) (r : L → Reader T A) → Family p Agree Raised on r → (w : ℕ) (limits l : L) (front rest : List T) (cause : Cause) → raised w cause ≡ false → Agree w limits l → ((other : List T) → SameStart rest other → r limits (front ++ other) ≡ Err (fault_at cause other)) → Stuck (p l) front rest
stuck_along {T = T} {A = A} p Agree Raised on r fam w limits l front [] cause low agree again = λ a h.
    let n = fam.join w limits l agree in
    let read : r l (front ++ []) ≡ Ok (a, []) = (fam.exact l).complete front [] a h refl in
    let good : r n.0 (front ++ []) ≡ Ok (a, []) = outruns_ok w (r l (front ++ [])) (r n.0 (front ++ [])) (a, []) (fam.grows w l n.0 n.2 (front ++ [])) read in
    let bad : r n.0 (front ++ []) ≡ Err (fault_at {T = T} cause []) = outruns_same w (r limits (front ++ [])) (r n.0 (front ++ [])) (fault_at {T = T} cause []) (fam.grows w limits n.0 n.1 (front ++ [])) (again [] refl) low in
    absurd (let both : done (a, []) ≡ failed {A = A × List T} (fault_at {T = T} cause []) = sym good ∙ bad in cc)
stuck_along {T = T} {A = A} p Agree Raised on r fam w limits l front (t ∷ rest) cause low agree again = λ b.
    let n = fam.join w limits l agree in
    let ts : List T = front ++ (t ∷ b.more) in
    let read : r l ts ≡ Ok (b.value, []) = read_all (p l) on (r l) (fam.exact l) front t b in
    let good : r n.0 ts ≡ Ok (b.value, []) = outruns_ok w (r l ts) (r n.0 ts) (b.value, []) (fam.grows w l n.0 n.2 ts) read in
    let bad : r n.0 ts ≡ Err (fault_at cause (t ∷ b.more)) = outruns_same w (r limits ts) (r n.0 ts) (fault_at cause (t ∷ b.more)) (fam.grows w limits n.0 n.1 ts) (again (t ∷ b.more) refl) low in
    absurd (let both : done (b.value, []) ≡ failed {A = A × List T} (fault_at cause (t ∷ b.more)) = sym good ∙ bad in cc)

-- behind what was read to its end nothing stands under any limits
wide_behind : {T A L : Type 0} (p : L → Lang T A) (Agree Raised : ℕ → L → L → Type 0) (on : T → Bool) (r : L → Reader T A) → Family p Agree Raised on r → (limits l : L) (front rest : List T) (t : T) (a : A) → ((other : List T) → SameStart (t ∷ rest) other → r limits (front ++ other) ≡ Ok (a, other)) → Stuck (p l) front (t ∷ rest)
wide_behind {T = T} p Agree Raised on r fam limits l front rest t a again = λ b.
    let n = fam.join 0 limits l (fam.none_agree limits l) in
    let ts : List T = front ++ (t ∷ b.more) in
    let read : r l ts ≡ Ok (b.value, []) = read_all (p l) on (r l) (fam.exact l) front t b in
    let good : r n.0 ts ≡ Ok (b.value, []) = outruns_ok 0 (r l ts) (r n.0 ts) (b.value, []) (fam.grows 0 l n.0 n.2 ts) read in
    let bad : r n.0 ts ≡ Ok (a, t ∷ b.more) = outruns_ok 0 (r limits ts) (r n.0 ts) (a, t ∷ b.more) (fam.grows 0 limits n.0 n.1 ts) (again (t ∷ b.more) refl) in
    let pairs = ok_is (b.value, []) (a, t ∷ b.more) (sym good ∙ bad) in
    absurd (let lists : [] ≡ t ∷ b.more = ap (λ (z : _ × List _). z.1) pairs in cc)

next_not_below : (v : ℕ) → nat_le (suc v) v ≡ false
next_not_below v = grind arith

self_below : (v : ℕ) → nat_le v v ≡ true
self_below v = grind arith

fault_cause : {T A L : Type 0} (p : L → Lang T A) (Agree Raised : ℕ → L → L → Type 0) (on : T → Bool) (r : L → Reader T A) → Family p Agree Raised on r → (limits : L) (ts front rest : List T) (cause : Cause) (left : ℕ) → ts ≡ front ++ rest → left ≡ length rest → ((other : List T) → SameStart rest other → r limits (front ++ other) ≡ Err (fault_at cause other)) → r limits ts ≡ Err (record { cause = cause; left = left }) → IsCause p Agree limits cause front rest
fault_cause p Agree Raised on r fam limits ts front rest Syntax left text place again e = λ l. stuck_along p Agree Raised on r fam 0 limits l front rest Syntax refl (fam.none_agree limits l) again
fault_cause p Agree Raised on r fam limits ts front rest (Limit v) left text place again e =
    let m = fam.raise v limits in
    let beyond : Beyond left (r m.0 ts) = outruns_beyond v (r limits ts) (r m.0 ts) (record { cause = Limit v; left = left }) (fam.grows v limits m.0 m.1 ts) e (self_below v) in (
      (m.0, m.2, beyond_goes_on (p m.0) on (r m.0) (fam.exact m.0) (fam.some m.0) ts front rest text (subst (λ (n : ℕ). Beyond n (r m.0 ts)) place beyond)),
      λ l agree. stuck_along p Agree Raised on r fam (suc v) limits l front rest (Limit v) (next_not_below v) agree again,
    )

ended_err : {T A L : Type 0} (p : L → Lang T A) (Agree Raised : ℕ → L → L → Type 0) (on : T → Bool) (r : L → Reader T A) → Family p Agree Raised on r → (limits : L) (ts front : List T) (a : A) (rest : List T) (f : Fault) → ts ≡ front ++ rest → p limits front a → ((other : List T) → SameStart rest other → r limits (front ++ other) ≡ Ok (a, other)) → ended (a, rest) ≡ Err f → FirstFault p Agree limits ts f
ended_err p Agree Raised on r fam limits ts front a [] f text spelled again e = absurd cc
ended_err {A = A} p Agree Raised on r fam limits ts front a (t ∷ rest) f text spelled again e =
    subst (λ (g : Fault). FirstFault p Agree limits ts g) (err_is {A = A} (fault_at Syntax (t ∷ rest)) f e) (record {
      front = front;
      rest = t ∷ rest;
      text = text;
      place = refl;
      begins = record { more = []; value = a; spelled = subst (λ (u : List _). p limits u a) (sym (append-nil front)) spelled };
      stuck = stuck_behind (p limits) on (r limits) (fam.exact limits) front rest t a again;
      cause = λ l. wide_behind p Agree Raised on r fam limits l front rest t a again;
    })

-- a fault names the first place from which nothing goes on, and why
pub line_fault : {T A L : Type 0} (p : L → Lang T A) (Agree Raised : ℕ → L → L → Type 0) (on : T → Bool) (r : L → Reader T A) → Family p Agree Raised on r → (limits : L) (ts : List T) (f : Fault) → all_of (r limits) ts ≡ Err f → FirstFault p Agree limits ts f
line_fault p Agree Raised on r fam limits ts f e =
    elim (bind_err (r limits ts) (λ x. ended x) f e) [
      | inl h ↦
          let q = (fam.exact limits).err ts f h in
          let left : f.left ≡ length q.rest = ap (λ (g : Fault). g.left) q.place in
          record {
            front = q.front;
            rest = q.rest;
            text = q.text;
            place = sym left;
            begins = begins_of (p limits) q.front (fam.some limits) q.viable;
            stuck = stuck_fault (p limits) on (r limits) (fam.exact limits) q.front q.rest f q.again;
            cause = fault_cause p Agree Raised on r fam limits ts q.front q.rest f.cause f.left q.text left q.again h;
          }
      | inr h ↦
          let q = (fam.exact limits).ok ts h.0 h.1 in
          ended_err p Agree Raised on r fam limits ts q.front h.0.0 h.0.1 f q.text q.spelled q.again h.2
    ]
