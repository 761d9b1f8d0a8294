-- What the values of a language begin with, and that there are some.
use Rattle.std.proofs.Common.{◌≡◌, Bool, true, false, List, [], ◌∷◌, ◌++◌, Option, Some, None, refl, sym, ap, ◌∙◌, append_assoc, inl, inr}
use Rattle.std.specs.Prelude.{is_some, ◌||◌}
use Rattle.std.proofs.lemmas.List.{append-nil}
use Rattle.text_grammar.specs.Readers.{starts}
use Rattle.text_grammar.specs.Languages.{Lang, One, Both, Behind, Mapped, Either, Perhaps, Many, fold_left, Row}
use Rattle.text_grammar.specs.Places.{Begins}
use Rattle.text_grammar.proofs.Exactness.{StartsWith, StartsWithout, starts_more}

-- what a token, and what stands behind a token, begins with
pub one_starts : {T A : Type 0} (pick : T → Option A) → StartsWith (One pick) (λ t. is_some (pick t))
one_starts pick ts a h = ap (starts (λ t. is_some (pick t))) h.text ∙ ap is_some h.value

pub behind_starts : {T A B : Type 0} (pick : T → Option A) (q : Lang T B) → StartsWith (Behind pick q) (λ t. is_some (pick t))
behind_starts pick q ts a h = ap (starts (λ t. is_some (pick t))) h.text ∙ h.is

-- what is read first says what the whole begins with
pub both_starts : {T A B : Type 0} (p : Lang T A) (q : A → Lang T B) (test : T → Bool) → StartsWith p test → StartsWith (Both p q) test
both_starts p q test with ts x h = ap (starts test) h.text ∙ starts_more test h.front h.back (with h.front x.0 h.first)

pub mapped_starts : {T A B : Type 0} (f : A → B) (p : Lang T A) (test : T → Bool) → StartsWith p test → StartsWith (Mapped f p) test
mapped_starts f p test with ts x h = with ts h.value h.spelled

pub row_starts : {T A B C : Type 0} (init : A → C) (step : C → B → C) (p : Lang T A) (q : C → Lang T B) (test : T → Bool) → StartsWith p test → StartsWith (Row init step p q) test
row_starts init step p q test with = mapped_starts (λ x. fold_left step (init x.0) x.1) (Both p (λ a. Many step q (init a))) test (both_starts p (λ a. Many step q (init a)) test with)

-- one or the other begins with what both begin with
pub either_starts : {T A : Type 0} (p q : Lang T A) (test : T → Bool) → StartsWith p test → StartsWith q test → StartsWith (Either p q) test
either_starts p q test a b ts x h = elim h [ inl u ↦ a ts x u | inr v ↦ b ts x v ]

-- what passes a test passes a wider one
pub wider : {T : Type 0} (test big : T → Bool) → ((t : T) → test t ≡ true → big t ≡ true) → (ts : List T) → starts test ts ≡ true → starts big ts ≡ true
wider test big more [] h = h
wider test big more (t ∷ ts) h = more t h

-- a wider test
pub wider_starts : {T A : Type 0} (p : Lang T A) (test big : T → Bool) → StartsWith p test → ((t : T) → test t ≡ true → big t ≡ true) → StartsWith p big
wider_starts p test big with more ts x h = wider test big more ts (with ts x h)

-- a test that no token passes which passes another
pub apart : {T : Type 0} (test other : T → Bool) → ((t : T) → test t ≡ true → other t ≡ false) → (ts rest : List T) → starts test ts ≡ true → starts other (ts ++ rest) ≡ false
apart test other un [] rest h = absurd cc
apart test other un (t ∷ ts) rest h = un t h

-- what begins with one token begins with none of the others
pub without : {T A : Type 0} (p : Lang T A) (test other : T → Bool) → StartsWith p test → ((t : T) → test t ≡ true → other t ≡ false) → StartsWithout p other
without p test other with un ts rest a h = apart test other un ts rest (with ts a h)

-- what it does not begin with
pub either_without : {T A : Type 0} (p q : Lang T A) (other : T → Bool) → StartsWithout p other → StartsWithout q other → StartsWithout (Either p q) other
either_without p q other a b ts rest x h = elim h [ inl u ↦ a ts rest x u | inr v ↦ b ts rest x v ]

pub mapped_without : {T A B : Type 0} (f : A → B) (p : Lang T A) (other : T → Bool) → StartsWithout p other → StartsWithout (Mapped f p) other
mapped_without f p other w ts rest x h = w ts rest h.value h.spelled

pub both_without : {T A B : Type 0} (p : Lang T A) (q : A → Lang T B) (other : T → Bool) → StartsWithout p other → StartsWithout (Both p q) other
both_without p q other w ts rest x h = ap (λ (z : List _). starts other (z ++ rest)) h.text ∙ ap (starts other) (append_assoc h.front h.back rest) ∙ w h.front (h.back ++ rest) x.0 h.first

pub row_without : {T A B C : Type 0} (init : A → C) (step : C → B → C) (p : Lang T A) (q : C → Lang T B) (other : T → Bool) → StartsWithout p other → StartsWithout (Row init step p q) other
row_without init step p q other w = mapped_without (λ x. fold_left step (init x.0) x.1) (Both p (λ a. Many step q (init a))) other (both_without p (λ a. Many step q (init a)) other w)

-- ---- there are some

-- each part has some where its parts have
pub one_begins : {T A : Type 0} (pick : T → Option A) (t : T) (a : A) → pick t ≡ Some a → Begins (One pick) []
one_begins pick t a e = record { more = t ∷ []; value = a; spelled = record { token = t; text = refl; value = e } }

pub behind_begins_some : {T A B : Type 0} (pick : T → Option A) (q : Lang T B) (t : T) → is_some (pick t) ≡ true → Begins q [] → Begins (Behind pick q) []
behind_begins_some pick q t e b = record { more = t ∷ b.more; value = b.value; spelled = record { token = t; back = b.more; text = refl; is = e; value = b.spelled } }

pub both_begins : {T A B : Type 0} (p : Lang T A) (q : A → Lang T B) → Begins p [] → ((a : A) → Begins (q a) []) → Begins (Both p q) []
both_begins p q a some = let b = some a.value in record { more = a.more ++ b.more; value = (a.value, b.value); spelled = record { front = a.more; back = b.more; text = refl; first = a.spelled; second = b.spelled } }

pub mapped_begins : {T A B : Type 0} (f : A → B) (p : Lang T A) → Begins p [] → Begins (Mapped f p) []
mapped_begins f p a = record { more = a.more; value = f a.value; spelled = record { value = a.value; spelled = a.spelled; made = refl } }

pub row_begins : {T A B C : Type 0} (init : A → C) (step : C → B → C) (p : Lang T A) (q : C → Lang T B) → Begins p [] → Begins (Row init step p q) []
row_begins init step p q a = record { more = a.more; value = init a.value; spelled = record { value = (a.value, []); spelled = record { front = a.more; back = []; text = sym (append-nil a.more); first = a.spelled; second = refl }; made = refl } }

pub perhaps_begins : {T A : Type 0} (p : Lang T A) → Begins (Perhaps p) []
perhaps_begins p = record { more = []; value = None; spelled = refl }

pub left_begins : {T A : Type 0} (p q : Lang T A) → Begins p [] → Begins (Either p q) []
left_begins p q b = record { more = b.more; value = b.value; spelled = inl b.spelled }

pub right_begins : {T A : Type 0} (p q : Lang T A) → Begins q [] → Begins (Either p q) []
right_begins p q b = record { more = b.more; value = b.value; spelled = inr b.spelled }

-- two tests of which none passes
pub or_false : (a b : Bool) → (a || b) ≡ false → (a ≡ false) × (b ≡ false)
or_false true b h = absurd cc
or_false false b h = (refl, h)
