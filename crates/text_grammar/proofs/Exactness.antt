-- What a reader of a language does.
use Rattle.std.proofs.Common.{◌≡◌, Bool, true, false, cond, List, [], ◌∷◌, ◌++◌, Option, Some, None, Result, Ok, Err, refl, sym, ap, subst, ◌∙◌, append_assoc, inl, inr, ◌⊎◌}
use Rattle.text_grammar.specs.declared.fault.Fault.{Fault}
use Rattle.text_grammar.specs.Readers.{Reader, ◌>>=◌, fault_at, starts}
use Rattle.text_grammar.specs.Places.{Begins}
use Rattle.text_grammar.specs.Languages.{Lang}

-- ---- results

-- what was read one after the other was read in two steps
pub bind_ok : {A B : Type 0} (r : Result A Fault) (f : A → Result B Fault) (y : B) → (r >>= f) ≡ Ok y → (x : A) × (r ≡ Ok x) × (f x ≡ Ok y)
bind_ok (Ok x) f y e = (x, refl, e)
bind_ok (Err d) f y e = absurd cc

-- a fault is one of the first step or one of the second
pub bind_err : {A B : Type 0} (r : Result A Fault) (f : A → Result B Fault) (d : Fault) → (r >>= f) ≡ Err d → (r ≡ Err d) ⊎ ((x : A) × (r ≡ Ok x) × (f x ≡ Err d))
bind_err (Ok x) f d e = inr (x, refl, e)
bind_err (Err d') f d e = inl cc

-- a result that is a value, and one that is a fault
abbrev pub done : {A : Type 0} → A → Result A Fault
done x = Ok x

abbrev pub failed : {A : Type 0} → Fault → Result A Fault
failed x = Err x

-- equal results have equal values, and equal faults
pub ok_is : {A : Type 0} (x y : A) → done x ≡ done y → x ≡ y
ok_is x y e = cc

pub err_is : {A : Type 0} (x y : Fault) → failed {A = A} x ≡ failed y → x ≡ y
err_is x y e = cc

-- ---- what a reader does

-- the first token, and two texts that begin with the same one
abbrev pub first_of : {T : Type 0} → List T → Option T
first_of [] = None
first_of (t ∷ ts) = Some t

abbrev pub SameStart : {T : Type 0} → List T → List T → Type 0
SameStart a b = first_of a ≡ first_of b

-- no token that goes on
abbrev pub Stops : {T : Type 0} → (T → Bool) → List T → Type 0
Stops on rest = starts on rest ≡ false

-- what it read is spelled, and what follows matters only by its first token
pub record Reads {T A : Type 0} (p : Lang T A) (r : Reader T A) (ts : List T) (x : A × List T) : Type 0 where
  pub front : List T
  pub text : ts ≡ front ++ x.1
  pub spelled : p front x.0
  pub again : (rest : List T) → SameStart x.1 rest → r (front ++ rest) ≡ Ok (x.0, rest)

-- the tokens before the fault begin something that is spelled, and with the next token they fail again, whatever follows
pub record Faults {T A : Type 0} (p : Lang T A) (r : Reader T A) (ts : List T) (f : Fault) : Type 0 where
  pub front : List T
  pub rest : List T
  pub text : ts ≡ front ++ rest
  pub place : f ≡ fault_at f.cause rest
  pub viable : (front ≡ []) ⊎ Begins p front
  pub again : (other : List T) → SameStart rest other → r (front ++ other) ≡ Err (fault_at f.cause other)

-- A reader of a language: what it reads and where it faults are as above, and it reads each text of the language before
-- each rest whose first token does not go on.
pub record Exact {T A : Type 0} (p : Lang T A) (on : T → Bool) (r : Reader T A) : Type 0 where
  pub ok : (ts : List T) (x : A × List T) → r ts ≡ Ok x → Reads p r ts x
  pub err : (ts : List T) (f : Fault) → r ts ≡ Err f → Faults p r ts f
  pub complete : (front rest : List T) (a : A) → p front a → Stops on rest → r (front ++ rest) ≡ Ok (a, rest)

-- ---- starts

-- behind one front the start stays the same
pub same_behind : {T : Type 0} (f a b : List T) → SameStart a b → SameStart (f ++ a) (f ++ b)
same_behind [] a b h = h
same_behind (t ∷ f) a b h = refl

-- what is read of a text, however it is put together
pub regrouped : {T A : Type 0} (r : Reader T A) (front back rest : List T) {z : Result (A × List T) Fault} → r (front ++ (back ++ rest)) ≡ z → r ((front ++ back) ++ rest) ≡ z
regrouped r front back rest h = ap r (append_assoc front back rest) ∙ h

-- a text whose rest changes behind its start
pub start_of : {T : Type 0} (ts front rest other : List T) → ts ≡ front ++ rest → SameStart rest other → SameStart ts (front ++ other)
start_of ts front rest other text same = ap first_of text ∙ same_behind front rest other same

-- a test of the first token
pub starts_same : {T : Type 0} (test : T → Bool) (a b : List T) → SameStart a b → starts test a ≡ starts test b
starts_same test [] [] h = refl
starts_same test [] (u ∷ us) h = absurd cc
starts_same test (t ∷ ts) [] h = absurd cc
starts_same test (t ∷ ts) (u ∷ us) h = let e : t ≡ u = cc in ap test e

-- a text that is longer at the end starts as it did
pub starts_more : {T : Type 0} (test : T → Bool) (a b : List T) → starts test a ≡ true → starts test (a ++ b) ≡ true
starts_more test [] b h = absurd cc
starts_more test (t ∷ ts) b h = h

-- a front, and the front of what is behind it
pub fronts_joined : {T : Type 0} (ts front mid back rest : List T) → ts ≡ front ++ mid → mid ≡ back ++ rest → ts ≡ (front ++ back) ++ rest
fronts_joined ts front mid back rest h k = h ∙ ap (λ (z : List _). front ++ z) k ∙ sym (append_assoc front back rest)

-- no token goes on
abbrev pub never : {T : Type 0} → T → Bool
never t = false

-- ---- tests

-- the two cases of a choice
pub choose : {A : Type 0} (b : Bool) (x y z : A) → cond b x y ≡ z → ((b ≡ true) × (x ≡ z)) ⊎ ((b ≡ false) × (y ≡ z))
choose true x y z e = inl (refl, e)
choose false x y z e = inr (refl, e)

-- where there are some, no tokens begin one
pub begins_of : {T A : Type 0} (p : Lang T A) (front : List T) → Begins p [] → (front ≡ []) ⊎ Begins p front → Begins p front
begins_of p front some h = elim h [ inl e ↦ subst (λ (z : List _). Begins p z) (sym e) some | inr b ↦ b ]

-- a test passes or does not, and a result is a value or a fault
pub the_test : (b : Bool) → (b ≡ true) ⊎ (b ≡ false)
the_test true = inl refl
the_test false = inr refl

pub the_result : {A : Type 0} (r : Result A Fault) → ((x : A) × (r ≡ Ok x)) ⊎ ((d : Fault) × (r ≡ Err d))
the_result (Ok x) = inl (x, refl)
the_result (Err d) = inr (d, refl)

-- each text begins with a token that passes the test
abbrev pub StartsWith : {T A : Type 0} → Lang T A → (T → Bool) → Type 0
StartsWith {T = T} {A = A} p test = (ts : List T) (a : A) → p ts a → starts test ts ≡ true

-- each text, and what stands behind it, begins with no token that passes the test
abbrev pub StartsWithout : {T A : Type 0} → Lang T A → (T → Bool) → Type 0
StartsWithout {T = T} {A = A} p test = (ts rest : List T) (a : A) → p ts a → starts test (ts ++ rest) ≡ false

-- ---- what follows may be less

-- what stops for more tokens stops for fewer
pub covers_stops : {T : Type 0} (on big : T → Bool) → ((t : T) → big t ≡ false → on t ≡ false) → (rest : List T) → Stops big rest → Stops on rest
covers_stops on big covers [] h = refl
covers_stops on big covers (t ∷ ts) h = covers t h

-- what is read before a rest is read before fewer rests
pub widened : {T A : Type 0} (p : Lang T A) (on big : T → Bool) (r : Reader T A) → Exact p on r → ((t : T) → big t ≡ false → on t ≡ false) → Exact p big r
widened p on big r re covers = record {
  ok = re.ok;
  err = re.err;
  complete = λ front rest a h stop. re.complete front rest a h (covers_stops on big covers rest stop);
}

-- ---- the same language, and the same reader

-- a language that is the same in each text
pub along : {T A : Type 0} (p q : Lang T A) (on : T → Bool) (r : Reader T A) → ((ts : List T) (a : A) → p ts a → q ts a) → ((ts : List T) (a : A) → q ts a → p ts a) → Exact p on r → Exact q on r
along p q on r to from re = record {
  ok = λ ts x e. let k = re.ok ts x e in record { front = k.front; text = k.text; spelled = to k.front x.0 k.spelled; again = k.again };
  err = λ ts f e.
      let k = re.err ts f e in
      record {
        front = k.front;
        rest = k.rest;
        text = k.text;
        place = k.place;
        viable = elim k.viable [ inl h ↦ inl h | inr b ↦ inr (record { more = b.more; value = b.value; spelled = to (k.front ++ b.more) b.value b.spelled }) ];
        again = k.again;
      };
  complete = λ front rest a h stop. re.complete front rest a (from front a h) stop;
}

-- a reader that gives the same of each text
pub read_along : {T A : Type 0} (p : Lang T A) (on : T → Bool) (r s : Reader T A) → ((ts : List T) → r ts ≡ s ts) → Exact p on r → Exact p on s
read_along p on r s same re = record {
  ok = λ ts x e.
      let k = re.ok ts x (same ts ∙ e) in
      record { front = k.front; text = k.text; spelled = k.spelled; again = λ rest start. sym (same (k.front ++ rest)) ∙ k.again rest start };
  err = λ ts f e.
      let k = re.err ts f (same ts ∙ e) in
      record { front = k.front; rest = k.rest; text = k.text; place = k.place; viable = k.viable; again = λ other start. sym (same (k.front ++ other)) ∙ k.again other start };
  complete = λ front rest a h stop. sym (same (front ++ rest)) ∙ re.complete front rest a h stop;
}
