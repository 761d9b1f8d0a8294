-- Readers of one token, and of what stands behind one.
use Rattle.std.proofs.Common.{◌≡◌, Bool, true, false, List, [], ◌∷◌, ◌++◌, Option, Some, None, Ok, Err, refl, sym, ap, subst, ◌∙◌, inl, inr}
use Rattle.std.specs.Prelude.{is_some}
use Rattle.text_grammar.specs.declared.fault.Cause.{Cause}
use Rattle.text_grammar.specs.declared.fault.Cause.TheVariants.{Syntax}
use Rattle.text_grammar.specs.declared.fault.Fault.{Fault}
use Rattle.text_grammar.specs.Readers.{Reader, fault_at, accept, one, one_or, behind}
use Rattle.text_grammar.specs.Places.{Begins}
use Rattle.text_grammar.specs.Languages.{Lang, One, Behind}
use Rattle.text_grammar.proofs.Exactness.{failed, ok_is, err_is, SameStart, Stops, Reads, Faults, Exact, never, choose, begins_of}

-- ---- one token

accept_ok : {T A : Type 0} (why : Cause) (o : Option A) (all rest : List T) (x : A × List T) → accept why o all rest ≡ Ok x → (o ≡ Some x.0) × (rest ≡ x.1)
accept_ok why (Some a) all rest x e = let h : (a, rest) ≡ x = ok_is (a, rest) x e in (ap (λ (y : _ × List _). Some y.0) h, ap (λ (y : _ × List _). y.1) h)
accept_ok why None all rest x e = absurd cc

accept_err : {T A : Type 0} (why : Cause) (o : Option A) (all rest : List T) (f : Fault) → accept why o all rest ≡ Err f → (o ≡ None) × (fault_at why all ≡ f)
accept_err why (Some a) all rest f e = absurd cc
accept_err {T = T} {A = A} why None all rest f e = (refl, err_is {A = A × List T} (fault_at why all) f e)

one_ok : {T A : Type 0} (why : T → Cause) (pick : T → Option A) (ts : List T) (x : A × List T) → one_or why pick ts ≡ Ok x → Reads (One pick) (one_or why pick) ts x
one_ok why pick [] x e = absurd cc
one_ok {T = T} why pick (t ∷ ts) x e =
    let h = accept_ok (why t) (pick t) (t ∷ ts) ts x e in
    record {
      front = t ∷ [];
      text = ap (λ (z : List _). t ∷ z) h.1;
      spelled = record { token = t; text = refl; value = h.0 };
      again = λ rest same. ap (λ (o : Option _). accept (why t) o (t ∷ rest) rest) h.0;
    }

one_again : {T A : Type 0} (why : T → Cause) (pick : T → Option A) (t : T) (ts other : List T) → pick t ≡ None → SameStart (t ∷ ts) other → one_or why pick other ≡ Err (fault_at (why t) other)
one_again why pick t ts [] h same = absurd cc
one_again why pick t ts (u ∷ us) h same =
    let e : t ≡ u = cc in
    ap (λ (o : Option _). accept (why u) o (u ∷ us) us) (sym (ap pick e) ∙ h) ∙ ap (λ (c : Cause). failed (fault_at c (u ∷ us))) (ap why (sym e))

one_empty : {T A : Type 0} (why : T → Cause) (pick : T → Option A) (other : List T) → SameStart [] other → one_or why pick other ≡ Err (fault_at Syntax other)
one_empty why pick [] same = refl
one_empty why pick (u ∷ us) same = absurd cc

one_err : {T A : Type 0} (why : T → Cause) (pick : T → Option A) (ts : List T) (f : Fault) → one_or why pick ts ≡ Err f → Faults (One pick) (one_or why pick) ts f
one_err {T = T} {A = A} why pick [] f e =
    subst (λ (g : Fault). Faults (One pick) (one_or why pick) [] g) (err_is {A = A × List T} (fault_at {T = T} Syntax []) f e) (record {
      front = [];
      rest = [];
      text = refl;
      place = refl;
      viable = inl refl;
      again = λ other same. one_empty why pick other same;
    })
one_err why pick (t ∷ ts) f e =
    let h = accept_err (why t) (pick t) (t ∷ ts) ts f e in
    subst (λ (g : Fault). Faults (One pick) (one_or why pick) (t ∷ ts) g) h.1 (record {
      front = [];
      rest = t ∷ ts;
      text = refl;
      place = refl;
      viable = inl refl;
      again = λ other same. one_again why pick t ts other h.0 same;
    })

one_complete : {T A : Type 0} (why : T → Cause) (pick : T → Option A) (front rest : List T) (a : A) → One pick front a → one_or why pick (front ++ rest) ≡ Ok (a, rest)
one_complete why pick front rest a p = ap (λ (z : List _). one_or why pick (z ++ rest)) p.text ∙ ap (λ (o : Option _). accept (why p.token) o (p.token ∷ rest) rest) p.value

-- one token, refused for a cause of its own
pub one_or-exact : {T A : Type 0} (why : T → Cause) (pick : T → Option A) → Exact (One pick) never (one_or why pick)
one_or-exact why pick = record {
  ok = λ ts x e. one_ok why pick ts x e;
  err = λ ts f e. one_err why pick ts f e;
  complete = λ front rest a p stop. one_complete why pick front rest a p;
}

-- one token
pub one-exact : {T A : Type 0} (pick : T → Option A) → Exact (One pick) never (one pick)
one-exact pick = one_or-exact (λ _. Syntax) pick

-- ---- behind a token

behind_ok : {T A B : Type 0} (pick : T → Option A) (q : Lang T B) (on : T → Bool) (r : Reader T B) → Exact q on r → (ts : List T) (x : B × List T) → behind pick r ts ≡ Ok x → Reads (Behind pick q) (behind pick r) ts x
behind_ok pick q on r re [] x e = absurd cc
behind_ok pick q on r re (t ∷ ts) x e =
    elim (choose (is_some (pick t)) (r ts) (Err (fault_at Syntax (t ∷ ts))) (Ok x) e) [
      | inl g ↦
          let k = re.ok ts x g.1 in
          record {
            front = t ∷ k.front;
            text = ap (λ (z : List _). t ∷ z) k.text;
            spelled = record { token = t; back = k.front; text = refl; is = g.0; value = k.spelled };
            again = λ rest same. rw g.0 (k.again rest same);
          }
      | inr g ↦ absurd cc
    ]

behind_again : {T A B : Type 0} (pick : T → Option A) (r : Reader T B) (t : T) (ts other : List T) → is_some (pick t) ≡ false → SameStart (t ∷ ts) other → behind pick r other ≡ Err (fault_at Syntax other)
behind_again pick r t ts [] h same = absurd cc
behind_again pick r t ts (u ∷ us) h same =
    let e : t ≡ u = cc in
    let no : is_some (pick u) ≡ false = sym (ap (λ (v : _). is_some (pick v)) e) ∙ h in
    rw no refl

behind_empty : {T A B : Type 0} (pick : T → Option A) (r : Reader T B) (other : List T) → SameStart [] other → behind pick r other ≡ Err (fault_at Syntax other)
behind_empty pick r [] same = refl
behind_empty pick r (u ∷ us) same = absurd cc

behind_begins : {T A B : Type 0} (pick : T → Option A) (q : Lang T B) (t : T) (front : List T) → is_some (pick t) ≡ true → Begins q front → Begins (Behind pick q) (t ∷ front)
behind_begins pick q t front is b = record { more = b.more; value = b.value; spelled = record { token = t; back = front ++ b.more; text = refl; is = is; value = b.spelled } }

behind_err : {T A B : Type 0} (pick : T → Option A) (q : Lang T B) (on : T → Bool) (r : Reader T B) → Exact q on r → Begins q [] → (ts : List T) (f : Fault) → behind pick r ts ≡ Err f → Faults (Behind pick q) (behind pick r) ts f
behind_err {T = T} {B = B} pick q on r re some [] f e =
    subst (λ (g : Fault). Faults (Behind pick q) (behind pick r) [] g) (err_is {A = B × List T} (fault_at {T = T} Syntax []) f e) (record {
      front = [];
      rest = [];
      text = refl;
      place = refl;
      viable = inl refl;
      again = λ other same. behind_empty pick r other same;
    })
behind_err {T = T} {B = B} pick q on r re some (t ∷ ts) f e =
    elim (choose (is_some (pick t)) (r ts) (Err (fault_at Syntax (t ∷ ts))) (Err f) e) [
      | inl g ↦
          let k = re.err ts f g.1 in
          record {
            front = t ∷ k.front;
            rest = k.rest;
            text = ap (λ (z : List _). t ∷ z) k.text;
            place = k.place;
            viable = inr (behind_begins pick q t k.front g.0 (begins_of q k.front some k.viable));
            again = λ other same. rw g.0 (k.again other same);
          }
      | inr g ↦
          subst (λ (h : Fault). Faults (Behind pick q) (behind pick r) (t ∷ ts) h) (err_is {A = B × List T} (fault_at Syntax (t ∷ ts)) f g.1) (record {
            front = [];
            rest = t ∷ ts;
            text = refl;
            place = refl;
            viable = inl refl;
            again = λ other same. behind_again pick r t ts other g.0 same;
          })
    ]

behind_complete : {T A B : Type 0} (pick : T → Option A) (q : Lang T B) (on : T → Bool) (r : Reader T B) → Exact q on r → (front rest : List T) (b : B) → Behind pick q front b → Stops on rest → behind pick r (front ++ rest) ≡ Ok (b, rest)
behind_complete pick q on r re front rest b p stop =
    let k : behind pick r (p.token ∷ (p.back ++ rest)) ≡ Ok (b, rest) = rw p.is (re.complete p.back rest b p.value stop) in
    ap (λ (z : List _). behind pick r (z ++ rest)) p.text ∙ k

-- a token, and then a value
pub behind-exact : {T A B : Type 0} (pick : T → Option A) (q : Lang T B) (on : T → Bool) (r : Reader T B) → Exact q on r → Begins q [] → Exact (Behind pick q) on (behind pick r)
behind-exact pick q on r re some = record {
  ok = λ ts x e. behind_ok pick q on r re ts x e;
  err = λ ts f e. behind_err pick q on r re some ts f e;
  complete = λ front rest b p stop. behind_complete pick q on r re front rest b p stop;
}
