-- Laws of a format, from what holds of each of its columns.
use Rattle.std.proofs.Common.{◌≡◌, ℕ, ◌<◌, List, [], ◌∷◌, ◌++◌, length, refl, sym, ap, subst, ◌∙◌, append_assoc, length-append, arith, inl, inr}
use Rattle.std.proofs.lemmas.Bool.{cases_lt}
use Rattle.iv_types.specs.declared.value.Kind.{Kind}
use Rattle.iv_types.specs.declared.value.Value.{Value}
use Rattle.iv_types.specs.Encoding.{Fits, FitAll, columns_bytes}
use Rattle.iv_types.specs.BadRow.{Rule, rule_number, StopsAt, IsBad}
use Rattle.row_codec.specs.declared.fault.RowFault.{RowFault}
use Rattle.row_codec.specs.declared.fault.RowFault.TheVariants.{BadRow, NoMemory}
use Rattle.row_codec.specs.Columns.{Blames}

-- values with the same bytes are one, whatever follows them, and the bytes of a value break no rule
pub record IsFormat (column : Kind → Value → List ℕ) (Breaks : Kind → Rule → List ℕ → Type 0) : Type 0 where
  pub split : (k : Kind) (v w : Value) (r s : List ℕ) → Fits k v → Fits k w → column k v ++ r ≡ column k w ++ s → (v ≡ w) × (r ≡ s)
  pub whole : (k : Kind) (v : Value) (rule : Rule) (r : List ℕ) → Fits k v → Breaks k rule (column k v ++ r) → ⊥

heads_are : {A : Type 0} (x y : A) (xs ys : List A) → x ∷ xs ≡ y ∷ ys → x ≡ y
heads_are x y xs ys e = cc

tails_are : {A : Type 0} (x y : A) (xs ys : List A) → x ∷ xs ≡ y ∷ ys → xs ≡ ys
tails_are x y xs ys e = cc

pub one_spelling : {column : Kind → Value → List ℕ} {Breaks : Kind → Rule → List ℕ → Type 0} → IsFormat column Breaks → (ks : List Kind) (vs ws : List Value) → FitAll ks vs → FitAll ks ws
    → columns_bytes column ks vs ≡ columns_bytes column ks ws → vs ≡ ws
one_spelling format [] [] [] fv fw e = refl
one_spelling format [] [] (w ∷ ws) fv fw e = absurd fw
one_spelling format [] (v ∷ vs) ws fv fw e = absurd fv
one_spelling format (k ∷ ks) [] ws fv fw e = absurd fv
one_spelling format (k ∷ ks) (v ∷ vs) [] fv fw e = absurd fw
one_spelling {column = column} format (k ∷ ks) (v ∷ vs) (w ∷ ws) fv fw e =
    let parts = format.split k v w (columns_bytes column ks vs) (columns_bytes column ks ws) fv.0 fw.0 e in
    ap (λ (x : Value). x ∷ vs) parts.0 ∙ ap (λ (l : List Value). w ∷ l) (one_spelling format ks vs ws fv.1 fw.1 parts.1)

never_stops : {column : Kind → Value → List ℕ} {Breaks : Kind → Rule → List ℕ → Type 0} → IsFormat column Breaks → (before behind ks : List Kind) (ws vs : List Value) (rule : Rule) (rest : List ℕ)
    → FitAll before ws → FitAll ks vs → ks ≡ before ++ behind → columns_bytes column ks vs ≡ columns_bytes column before ws ++ rest → StopsAt Breaks behind rule rest → ⊥
never_stops format [] [] [] ws [] rule rest fw fv e t stops = stops.1 (sym t)
never_stops format [] [] [] ws (v ∷ vs) rule rest fw fv e t stops = absurd fv
never_stops format [] [] (k ∷ ks) ws vs rule rest fw fv e t stops = absurd cc
never_stops format [] (j ∷ behind) [] ws vs rule rest fw fv e t stops = absurd cc
never_stops format [] (j ∷ behind) (k ∷ ks) ws [] rule rest fw fv e t stops = absurd fv
never_stops {column = column} {Breaks = Breaks} format [] (j ∷ behind) (k ∷ ks) ws (v ∷ vs) rule rest fw fv e t stops =
    let breaks : Breaks k rule (column k v ++ columns_bytes column ks vs) =
    subst (λ (x : Kind). Breaks x rule (column k v ++ columns_bytes column ks vs)) (sym (heads_are k j ks behind e)) (subst (Breaks j rule) (sym t) stops.0) in
    format.whole k v rule (columns_bytes column ks vs) fv.0 breaks
never_stops format (j ∷ before) behind ks [] vs rule rest fw fv e t stops = absurd fw
never_stops format (j ∷ before) behind [] (w ∷ ws) vs rule rest fw fv e t stops = absurd cc
never_stops format (j ∷ before) behind (k ∷ ks) (w ∷ ws) [] rule rest fw fv e t stops = absurd fv
never_stops {column = column} {Breaks = Breaks} format (j ∷ before) behind (k ∷ ks) (w ∷ ws) (v ∷ vs) rule rest fw fv e t stops =
    let same : k ≡ j = heads_are k j ks (before ++ behind) e in
    let fits : Fits k w = subst (λ (x : Kind). Fits x w) (sym same) fw.0 in
    let text : column k v ++ columns_bytes column ks vs ≡ column k w ++ (columns_bytes column before ws ++ rest) =
    t ∙ append_assoc (column j w) (columns_bytes column before ws) rest ∙ ap (λ (x : Kind). column x w ++ (columns_bytes column before ws ++ rest)) (sym same) in
    let parts = format.split k v w (columns_bytes column ks vs) (columns_bytes column before ws ++ rest) fv.0 fits text in
    never_stops format before behind ks ws vs rule rest fw.1 fv.1 (tails_are k j ks (before ++ behind) e) parts.1 stops

-- no bytes are both those of values and bad
pub never_both : {column : Kind → Value → List ℕ} {Breaks : Kind → Rule → List ℕ → Type 0} → IsFormat column Breaks → (ks : List Kind) (vs : List Value) (bytes : List ℕ) (number place : ℕ) → FitAll ks vs
    → bytes ≡ columns_bytes column ks vs → IsBad column Breaks ks bytes number place → ⊥
never_both format ks vs bytes number place fv e bad =
    never_stops format bad.before bad.behind ks bad.values vs bad.rule bad.rest bad.fit fv bad.split (sym e ∙ bad.text) bad.stops

least_same : (Breaks : Rule → Type 0) (one two : Rule) → Breaks one → Breaks two → ((less : Rule) → rule_number less < rule_number one → Breaks less → ⊥)
    → ((less : Rule) → rule_number less < rule_number two → Breaks less → ⊥) → rule_number one ≡ rule_number two
least_same Breaks one two b c lo lt = elim (cases_lt (rule_number one) (rule_number two)) [
  | inl l ↦ absurd (lt one l b)
  | inr le ↦ elim (cases_lt (rule_number two) (rule_number one)) [
    | inl l ↦ absurd (lo two l c)
    | inr ge ↦ omega arith
  ]
]

stops_same : (Breaks : Kind → Rule → List ℕ → Type 0) (ks : List Kind) (one two : Rule) (rest : List ℕ) → StopsAt Breaks ks one rest → StopsAt Breaks ks two rest → rule_number one ≡ rule_number two
stops_same Breaks [] one two rest a b = ap rule_number (a.0 ∙ sym b.0)
stops_same Breaks (k ∷ ks) one two rest a b = least_same (λ rule. Breaks k rule rest) one two a.0 b.0 a.1 b.1

record SameStop (one two : Rule) (m n : ℕ) : Type 0 where
  rule : rule_number one ≡ rule_number two
  place : m ≡ n

one_stop : {column : Kind → Value → List ℕ} {Breaks : Kind → Rule → List ℕ → Type 0} → IsFormat column Breaks → (before after behind beyond : List Kind) (vs ws : List Value) (one two : Rule) (r s : List ℕ)
    → FitAll before vs → FitAll after ws → before ++ behind ≡ after ++ beyond → columns_bytes column before vs ++ r ≡ columns_bytes column after ws ++ s → StopsAt Breaks behind one r → StopsAt Breaks beyond two s
    → SameStop one two (length (columns_bytes column before vs)) (length (columns_bytes column after ws))
one_stop {Breaks = Breaks} format [] [] behind beyond vs ws one two r s fv fw e t a b =
    let moved : StopsAt Breaks behind two r = subst (λ (l : List Kind). StopsAt Breaks l two r) (sym e) (subst (StopsAt Breaks beyond two) (sym t) b) in
    record { rule = stops_same Breaks behind one two r a moved; place = refl }
one_stop format [] (j ∷ after) [] beyond vs ws one two r s fv fw e t a b = absurd cc
one_stop format [] (j ∷ after) (k ∷ behind) beyond vs [] one two r s fv fw e t a b = absurd fw
one_stop {column = column} {Breaks = Breaks} format [] (j ∷ after) (k ∷ behind) beyond vs (w ∷ ws) one two r s fv fw e t a b =
    let same : k ≡ j = heads_are k j behind (after ++ beyond) e in
    let text : r ≡ column j w ++ (columns_bytes column after ws ++ s) = t ∙ append_assoc (column j w) (columns_bytes column after ws) s in
    absurd (format.whole j w one (columns_bytes column after ws ++ s) fw.0 (subst (λ (x : Kind). Breaks x one (column j w ++ (columns_bytes column after ws ++ s))) same (subst (Breaks k one) text a.0)))
one_stop format (k ∷ before) [] behind [] vs ws one two r s fv fw e t a b = absurd cc
one_stop format (k ∷ before) [] behind (j ∷ beyond) [] ws one two r s fv fw e t a b = absurd fv
one_stop {column = column} {Breaks = Breaks} format (k ∷ before) [] behind (j ∷ beyond) (v ∷ vs) ws one two r s fv fw e t a b =
    let same : j ≡ k = sym (heads_are k j (before ++ behind) beyond e) in
    let text : s ≡ column k v ++ (columns_bytes column before vs ++ r) = sym t ∙ append_assoc (column k v) (columns_bytes column before vs) r in
    absurd (format.whole k v two (columns_bytes column before vs ++ r) fv.0 (subst (λ (x : Kind). Breaks x two (column k v ++ (columns_bytes column before vs ++ r))) same (subst (Breaks j two) text b.0)))
one_stop format (k ∷ before) (j ∷ after) behind beyond [] ws one two r s fv fw e t a b = absurd fv
one_stop format (k ∷ before) (j ∷ after) behind beyond (v ∷ vs) [] one two r s fv fw e t a b = absurd fw
one_stop {column = column} {Breaks = Breaks} format (k ∷ before) (j ∷ after) behind beyond (v ∷ vs) (w ∷ ws) one two r s fv fw e t a b =
    let same : j ≡ k = sym (heads_are k j (before ++ behind) (after ++ beyond) e) in
    let fits : Fits k w = subst (λ (x : Kind). Fits x w) same fw.0 in
    let text : column k v ++ (columns_bytes column before vs ++ r) ≡ column k w ++ (columns_bytes column after ws ++ s) =
    sym (append_assoc (column k v) (columns_bytes column before vs) r) ∙ t ∙ append_assoc (column j w) (columns_bytes column after ws) s ∙ ap (λ (x : Kind). column x w ++ (columns_bytes column after ws ++ s)) same in
    let parts = format.split k v w (columns_bytes column before vs ++ r) (columns_bytes column after ws ++ s) fv.0 fits text in
    let rest = one_stop format before after behind beyond vs ws one two r s fv.1 fw.1 (tails_are k j (before ++ behind) (after ++ beyond) e) parts.1 a b in
    let front : column k v ≡ column j w = ap (column k) parts.0 ∙ ap (λ (x : Kind). column x w) (sym same) in
    record {
      rule = rest.rule;
      place = length-append (column k v) (columns_bytes column before vs) ∙ omega (arith, rest.place, ap length front, length-append (column j w) (columns_bytes column after ws));
    }

-- the rule and the place are determined
pub one_fault : {column : Kind → Value → List ℕ} {Breaks : Kind → Rule → List ℕ → Type 0} → IsFormat column Breaks → (ks : List Kind) (bytes : List ℕ) (m n p q : ℕ)
    → IsBad column Breaks ks bytes m p → IsBad column Breaks ks bytes n q → (m ≡ n) × (p ≡ q)
one_fault format ks bytes m n p q one two =
    let same = one_stop format one.before two.before one.behind two.behind one.values two.values one.rule two.rule one.rest two.rest one.fit two.fit (sym one.split ∙ two.split) (sym one.text ∙ two.text) one.stops two.stops in
    (one.number_is ∙ same.rule ∙ sym two.number_is, one.place_is ∙ same.place ∙ sym two.place_is)

-- what is encoded is decoded again, or memory runs out
pub same_again : {column : Kind → Value → List ℕ} {Breaks : Kind → Rule → List ℕ → Type 0} → IsFormat column Breaks → (ks : List Kind) (bytes : List ℕ) (found vs : List Value) → FitAll ks found × (bytes ≡ columns_bytes column ks found)
    → FitAll ks vs → bytes ≡ columns_bytes column ks vs → found ≡ vs
same_again format ks bytes found vs h fv e = one_spelling format ks found vs h.0 fv (sym h.1 ∙ e)

pub no_fault : {column : Kind → Value → List ℕ} {Breaks : Kind → Rule → List ℕ → Type 0} → IsFormat column Breaks → (ks : List Kind) (bytes : List ℕ) (fault : RowFault) (vs : List Value) → Blames (IsBad column Breaks ks bytes) fault
    → FitAll ks vs → bytes ≡ columns_bytes column ks vs → fault ≡ NoMemory
no_fault format ks bytes NoMemory vs b fv e = refl
no_fault format ks bytes (BadRow number place) vs b fv e = absurd (never_both format ks vs bytes number place fv e b)
