-- Readers of a value that is made of another, of one after the other, of one or the other, and of one or none.
use Rattle.std.proofs.Common.{◌≡◌, Bool, true, false, List, [], ◌∷◌, ◌++◌, Option, Some, None, Ok, Err, refl, sym, ap, subst, ◌∙◌, append_assoc, inl, inr}
use Rattle.text_grammar.specs.declared.fault.Cause.{Cause}
use Rattle.text_grammar.specs.declared.fault.Fault.{Fault}
use Rattle.text_grammar.specs.Readers.{Reader, ◌>>=◌, fault_at, starts, both, mapped, either, perhaps, refused}
use Rattle.text_grammar.specs.Places.{Begins}
use Rattle.text_grammar.specs.Languages.{Lang, Both, Mapped, Either, Nothing, Perhaps}
use Rattle.text_grammar.proofs.Exactness.{bind_ok, bind_err, done, failed, ok_is, err_is, Stops, Reads, Faults, Exact, regrouped, start_of, starts_same, starts_more, fronts_joined, never, choose, begins_of, StartsWith, StartsWithout, covers_stops}

-- ---- mapped

mapped_ok : {T A B : Type 0} (f : A → B) (p : Lang T A) (on : T → Bool) (r : Reader T A) → Exact p on r → (ts : List T) (y : B × List T) → mapped f r ts ≡ Ok y → Reads (Mapped f p) (mapped f r) ts y
mapped_ok f p on r re ts y e =
    let a = bind_ok (r ts) (λ x. Ok (f x.0, x.1)) y e in
    let k = re.ok ts a.0 a.1 in
    subst (λ (z : _ × List _). Reads (Mapped f p) (mapped f r) ts z) (ok_is (f a.0.0, a.0.1) y a.2) (record {
      front = k.front;
      text = k.text;
      spelled = record { value = a.0.0; spelled = k.spelled; made = refl };
      again = λ rest same. rw (k.again rest same) refl;
    })

mapped_err : {T A B : Type 0} (f : A → B) (p : Lang T A) (on : T → Bool) (r : Reader T A) → Exact p on r → (ts : List T) (d : Fault) → mapped f r ts ≡ Err d → Faults (Mapped f p) (mapped f r) ts d
mapped_err f p on r re ts d e =
    elim (bind_err (r ts) (λ x. Ok (f x.0, x.1)) d e) [
      | inl g ↦
          let k = re.err ts d g in
          record {
            front = k.front;
            rest = k.rest;
            text = k.text;
            place = k.place;
            viable = elim k.viable [ inl h ↦ inl h | inr b ↦ inr (record { more = b.more; value = f b.value; spelled = record { value = b.value; spelled = b.spelled; made = refl } }) ];
            again = λ other same. rw (k.again other same) refl;
          }
      | inr g ↦ absurd (let bad = g.2 in cc)
    ]

-- a value that is made of the one read
pub mapped-exact : {T A B : Type 0} (f : A → B) (p : Lang T A) (on : T → Bool) (r : Reader T A) → Exact p on r → Exact (Mapped f p) on (mapped f r)
mapped-exact f p on r re = record {
  ok = λ ts x e. mapped_ok f p on r re ts x e;
  err = λ ts d e. mapped_err f p on r re ts d e;
  complete = λ front rest b p stop. rw (re.complete front rest p.value p.spelled stop) (ap (λ (c : _). done (c, rest)) (sym p.made));
}

-- ---- one after the other

both_is : {T A B : Type 0} (r : Reader T A) (s : A → Reader T B) (ts mid rest : List T) (a : A) (b : B) → r ts ≡ Ok (a, mid) → s a mid ≡ Ok (b, rest) → both r s ts ≡ Ok ((a, b), rest)
both_is r s ts mid rest a b h k = rw h (rw k refl)

both_stops : {T A B : Type 0} (r : Reader T A) (s : A → Reader T B) (ts mid : List T) (a : A) (d : Fault) → r ts ≡ Ok (a, mid) → s a mid ≡ Err d → both r s ts ≡ Err d
both_stops r s ts mid a d h k = rw h (rw k refl)

both_stops_first : {T A B : Type 0} (r : Reader T A) (s : A → Reader T B) (ts : List T) (d : Fault) → r ts ≡ Err d → both r s ts ≡ Err d
both_stops_first r s ts d h = rw h refl

-- two texts, one behind the other
pub both_spelled : {T A B : Type 0} (p : Lang T A) (q : A → Lang T B) (front back : List T) (a : A) (b : B) → p front a → q a back b → Both p q (front ++ back) (a, b)
both_spelled p q front back a b h k = record { front = front; back = back; text = refl; first = h; second = k }

both_ok : {T A B : Type 0} (p : Lang T A) (q : A → Lang T B) (on on' : T → Bool) (r : Reader T A) (s : A → Reader T B) → Exact p on r → ((a : A) → Exact (q a) on' (s a)) → (ts : List T) (y : (A × B) × List T) → both r s ts ≡ Ok y → Reads (Both p q) (both r s) ts y
both_ok p q on on' r s re se ts y e =
    let a = bind_ok (r ts) (λ x. s x.0 x.1 >>= λ y. Ok ((x.0, y.0), y.1)) y e in
    let b = bind_ok (s a.0.0 a.0.1) (λ y. Ok ((a.0.0, y.0), y.1)) y a.2 in
    let k = re.ok ts a.0 a.1 in
    let m = (se a.0.0).ok a.0.1 b.0 b.1 in
    subst (λ (z : (_ × _) × List _). Reads (Both p q) (both r s) ts z) (ok_is ((a.0.0, b.0.0), b.0.1) y b.2) (record {
      front = k.front ++ m.front;
      text = fronts_joined ts k.front a.0.1 m.front b.0.1 k.text m.text;
      spelled = both_spelled p q k.front m.front a.0.0 b.0.0 k.spelled m.spelled;
      again = λ rest same.
          regrouped (both r s) k.front m.front rest (
          both_is r s (k.front ++ (m.front ++ rest)) (m.front ++ rest) rest a.0.0 b.0.0
          (k.again (m.front ++ rest) (start_of a.0.1 m.front b.0.1 rest m.text same))
          (m.again rest same)
          );
    })

both_begins_first : {T A B : Type 0} (p : Lang T A) (q : A → Lang T B) (front : List T) → ((a : A) → Begins (q a) []) → Begins p front → Begins (Both p q) front
both_begins_first p q front some b =
    let c = some b.value in
    record {
      more = b.more ++ c.more;
      value = (b.value, c.value);
      spelled = record { front = front ++ b.more; back = c.more; text = sym (append_assoc front b.more c.more); first = b.spelled; second = c.spelled };
    }

both_err : {T A B : Type 0} (p : Lang T A) (q : A → Lang T B) (on on' : T → Bool) (r : Reader T A) (s : A → Reader T B) → Exact p on r → ((a : A) → Exact (q a) on' (s a)) → ((a : A) → Begins (q a) []) → (ts : List T) (d : Fault) → both r s ts ≡ Err d → Faults (Both p q) (both r s) ts d
both_err p q on on' r s re se some ts d e =
    elim (bind_err (r ts) (λ x. s x.0 x.1 >>= λ y. Ok ((x.0, y.0), y.1)) d e) [
      | inl g ↦
          let k = re.err ts d g in
          record {
            front = k.front;
            rest = k.rest;
            text = k.text;
            place = k.place;
            viable = elim k.viable [ inl h ↦ inl h | inr b ↦ inr (both_begins_first p q k.front some b) ];
            again = λ other same. both_stops_first r s (k.front ++ other) (fault_at d.cause other) (k.again other same);
          }
      | inr a ↦
          elim (bind_err (s a.0.0 a.0.1) (λ y. Ok ((a.0.0, y.0), y.1)) d a.2) [
            | inl g ↦
                let k = re.ok ts a.0 a.1 in
                let m = (se a.0.0).err a.0.1 d g in
                let b = begins_of (q a.0.0) m.front (some a.0.0) m.viable in
                record {
                  front = k.front ++ m.front;
                  rest = m.rest;
                  text = fronts_joined ts k.front a.0.1 m.front m.rest k.text m.text;
                  place = m.place;
                  viable = inr (record { more = b.more; value = (a.0.0, b.value); spelled = record { front = k.front; back = m.front ++ b.more; text = append_assoc k.front m.front b.more; first = k.spelled; second = b.spelled } });
                  again = λ other same.
                      regrouped (both r s) k.front m.front other (
                      both_stops r s (k.front ++ (m.front ++ other)) (m.front ++ other) a.0.0 (fault_at d.cause other)
                      (k.again (m.front ++ other) (start_of a.0.1 m.front m.rest other m.text same))
                      (m.again other same)
                      );
                }
            | inr g ↦ absurd (let bad = g.2 in cc)
          ]
    ]

-- what may follow the first where the second follows, and what the second and then the rest begin with
abbrev pub FitsBehind : {T B : Type 0} → Lang T B → (on on' big : T → Bool) → Type 0
FitsBehind {T = T} {B = B} q on on' big = (back rest : List T) (b : B) → q back b → Stops big rest → Stops on (back ++ rest) × Stops on' rest

both_complete : {T A B : Type 0} (p : Lang T A) (q : A → Lang T B) (on on' big : T → Bool) (r : Reader T A) (s : A → Reader T B) → Exact p on r → ((a : A) → Exact (q a) on' (s a)) → ((a : A) → FitsBehind (q a) on on' big) → (front rest : List T) (x : A × B) → Both p q front x → Stops big rest → both r s (front ++ rest) ≡ Ok (x, rest)
both_complete p q on on' big r s re se fits front rest x h stop =
    let f = fits x.0 h.back rest x.1 h.second stop in
    ap (λ (z : List _). both r s (z ++ rest)) h.text
    ∙ ap (both r s) (append_assoc h.front h.back rest)
    ∙ both_is r s (h.front ++ (h.back ++ rest)) (h.back ++ rest) rest x.0 x.1 (re.complete h.front (h.back ++ rest) x.0 h.first f.0) ((se x.0).complete h.back rest x.1 h.second f.1)

-- one after the other, where the first may say what the second is
pub both-exact : {T A B : Type 0} (p : Lang T A) (q : A → Lang T B) (on on' big : T → Bool) (r : Reader T A) (s : A → Reader T B) → Exact p on r → ((a : A) → Exact (q a) on' (s a)) → ((a : A) → Begins (q a) []) → ((a : A) → FitsBehind (q a) on on' big) → Exact (Both p q) big (both r s)
both-exact p q on on' big r s re se some fits = record {
  ok = λ ts x e. both_ok p q on on' r s re se ts x e;
  err = λ ts d e. both_err p q on on' r s re se some ts d e;
  complete = λ front rest x h stop. both_complete p q on on' big r s re se fits front rest x h stop;
}

-- one after the other
pub then-exact : {T A B : Type 0} (p : Lang T A) (q : Lang T B) (on on' big : T → Bool) (r : Reader T A) (s : Reader T B) → Exact p on r → Exact q on' s → Begins q [] → FitsBehind q on on' big → Exact (Both p (λ _. q)) big (both r (λ _. s))
then-exact p q on on' big r s re se some fits = both-exact p (λ _. q) on on' big r (λ _. s) re (λ _. se) (λ _. some) (λ _. fits)

never_stops : {T : Type 0} (rest : List T) → Stops never rest
never_stops [] = refl
never_stops (t ∷ ts) = refl

-- where anything may follow the first
pub free_behind : {T B : Type 0} (q : Lang T B) (on : T → Bool) → FitsBehind q never on on
free_behind q on back rest b h stop = (never_stops (back ++ rest), stop)

-- ---- one or the other

-- a reader that refuses each token
pub refused-exact : {T A : Type 0} (cause : Cause) → Exact {T = T} {A = A} Nothing never (refused cause)
refused-exact {T = T} {A = A} cause = record {
  ok = λ ts x e. absurd (let bad : failed {A = A × List T} (fault_at cause ts) ≡ Ok x = e in cc);
  err = λ ts f e. subst (λ (g : Fault). Faults {A = A} Nothing (refused cause) ts g) (err_is {A = A × List T} (fault_at cause ts) f e) (record { front = []; rest = ts; text = refl; place = refl; viable = inl refl; again = λ other same. refl });
  complete = λ front rest a p stop. absurd p;
}

either_ok : {T A : Type 0} (test : T → Bool) (p q : Lang T A) (on : T → Bool) (r s : Reader T A) → Exact p on r → Exact q on s → (ts : List T) (x : A × List T) → either test r s ts ≡ Ok x → Reads (Either p q) (either test r s) ts x
either_ok test p q on r s re se ts x e =
    elim (choose (starts test ts) (r ts) (s ts) (Ok x) e) [
      | inl g ↦
          let k = re.ok ts x g.1 in
          record {
            front = k.front;
            text = k.text;
            spelled = inl k.spelled;
            again = λ rest same.
                let b : starts test (k.front ++ rest) ≡ true = sym (starts_same test ts (k.front ++ rest) (start_of ts k.front x.1 rest k.text same)) ∙ g.0 in
                rw b (k.again rest same);
          }
      | inr g ↦
          let k = se.ok ts x g.1 in
          record {
            front = k.front;
            text = k.text;
            spelled = inr k.spelled;
            again = λ rest same.
                let b : starts test (k.front ++ rest) ≡ false = sym (starts_same test ts (k.front ++ rest) (start_of ts k.front x.1 rest k.text same)) ∙ g.0 in
                rw b (k.again rest same);
          }
    ]

either_err : {T A : Type 0} (test : T → Bool) (p q : Lang T A) (on : T → Bool) (r s : Reader T A) → Exact p on r → Exact q on s → (ts : List T) (d : Fault) → either test r s ts ≡ Err d → Faults (Either p q) (either test r s) ts d
either_err test p q on r s re se ts d e =
    elim (choose (starts test ts) (r ts) (s ts) (Err d) e) [
      | inl g ↦
          let k = re.err ts d g.1 in
          record {
            front = k.front;
            rest = k.rest;
            text = k.text;
            place = k.place;
            viable = elim k.viable [ inl h ↦ inl h | inr b ↦ inr (record { more = b.more; value = b.value; spelled = inl b.spelled }) ];
            again = λ other same.
                let b : starts test (k.front ++ other) ≡ true = sym (starts_same test ts (k.front ++ other) (start_of ts k.front k.rest other k.text same)) ∙ g.0 in
                rw b (k.again other same);
          }
      | inr g ↦
          let k = se.err ts d g.1 in
          record {
            front = k.front;
            rest = k.rest;
            text = k.text;
            place = k.place;
            viable = elim k.viable [ inl h ↦ inl h | inr b ↦ inr (record { more = b.more; value = b.value; spelled = inr b.spelled }) ];
            again = λ other same.
                let b : starts test (k.front ++ other) ≡ false = sym (starts_same test ts (k.front ++ other) (start_of ts k.front k.rest other k.text same)) ∙ g.0 in
                rw b (k.again other same);
          }
    ]

-- one or the other, told apart by the first token
pub either-exact : {T A : Type 0} (test : T → Bool) (p q : Lang T A) (on : T → Bool) (r s : Reader T A) → Exact p on r → Exact q on s → StartsWith p test → StartsWithout q test → Exact (Either p q) on (either test r s)
either-exact test p q on r s re se with without = record {
  ok = λ ts x e. either_ok test p q on r s re se ts x e;
  err = λ ts d e. either_err test p q on r s re se ts d e;
  complete = λ front rest a h stop.
      elim h [
        | inl u ↦
            let b : starts test (front ++ rest) ≡ true = starts_more test front rest (with front a u) in
            rw b (re.complete front rest a u stop)
        | inr v ↦
            let b : starts test (front ++ rest) ≡ false = without front rest a v in
            rw b (se.complete front rest a v stop)
      ];
}

-- ---- perhaps

perhaps_ok : {T A : Type 0} (test : T → Bool) (p : Lang T A) (on : T → Bool) (r : Reader T A) → Exact p on r → (ts : List T) (y : Option A × List T) → perhaps test r ts ≡ Ok y → Reads (Perhaps p) (perhaps test r) ts y
perhaps_ok test p on r re ts y e =
    elim (choose (starts test ts) (r ts >>= (λ x. Ok (Some x.0, x.1))) (Ok (None, ts)) (Ok y) e) [
      | inl g ↦
          let a = bind_ok (r ts) (λ x. Ok (Some x.0, x.1)) y g.1 in
          let k = re.ok ts a.0 a.1 in
          subst (λ (z : Option _ × List _). Reads (Perhaps p) (perhaps test r) ts z) (ok_is (Some a.0.0, a.0.1) y a.2) (record {
            front = k.front;
            text = k.text;
            spelled = k.spelled;
            again = λ rest same.
                let b : starts test (k.front ++ rest) ≡ true = sym (starts_same test ts (k.front ++ rest) (start_of ts k.front a.0.1 rest k.text same)) ∙ g.0 in
                rw (b, k.again rest same) refl;
          })
      | inr g ↦
          subst (λ (z : Option _ × List _). Reads (Perhaps p) (perhaps test r) ts z) (ok_is (None, ts) y g.1) (record {
            front = [];
            text = refl;
            spelled = refl;
            again = λ rest same.
                let b : starts test rest ≡ false = sym (starts_same test ts rest same) ∙ g.0 in
                rw b refl;
          })
    ]

perhaps_err : {T A : Type 0} (test : T → Bool) (p : Lang T A) (on : T → Bool) (r : Reader T A) → Exact p on r → (ts : List T) (d : Fault) → perhaps test r ts ≡ Err d → Faults (Perhaps p) (perhaps test r) ts d
perhaps_err test p on r re ts d e =
    elim (choose (starts test ts) (r ts >>= (λ x. Ok (Some x.0, x.1))) (Ok (None, ts)) (Err d) e) [
      | inl g ↦
          elim (bind_err (r ts) (λ x. Ok (Some x.0, x.1)) d g.1) [
            | inl h ↦
                let k = re.err ts d h in
                record {
                  front = k.front;
                  rest = k.rest;
                  text = k.text;
                  place = k.place;
                  viable = elim k.viable [ inl h ↦ inl h | inr b ↦ inr (record { more = b.more; value = Some b.value; spelled = b.spelled }) ];
                  again = λ other same.
                      let b : starts test (k.front ++ other) ≡ true = sym (starts_same test ts (k.front ++ other) (start_of ts k.front k.rest other k.text same)) ∙ g.0 in
                      rw (b, k.again other same) refl;
                }
            | inr h ↦ absurd (let bad = h.2 in cc)
          ]
      | inr g ↦ absurd (let bad = g.1 in cc)
    ]

perhaps_complete : {T A : Type 0} (test : T → Bool) (p : Lang T A) (on big : T → Bool) (r : Reader T A) → Exact p on r → StartsWith p test → ((t : T) → big t ≡ false → (on t ≡ false) × (test t ≡ false)) → (front rest : List T) (o : Option A) → Perhaps p front o → Stops big rest → perhaps test r (front ++ rest) ≡ Ok (o, rest)
perhaps_complete test p on big r re with covers front rest None h stop =
    let b : starts test (front ++ rest) ≡ false = ap (λ (z : List _). starts test (z ++ rest)) h ∙ covers_stops test big (λ t no. (covers t no).1) rest stop in
    rw b (ap (λ (z : List _). done (None, z ++ rest)) h)
perhaps_complete test p on big r re with covers front rest (Some a) h stop =
    let b : starts test (front ++ rest) ≡ true = starts_more test front rest (with front a h) in
    rw (b, re.complete front rest a h (covers_stops on big (λ t no. (covers t no).0) rest stop)) refl

-- a value or none, told apart by the first token
pub perhaps-exact : {T A : Type 0} (test : T → Bool) (p : Lang T A) (on big : T → Bool) (r : Reader T A) → Exact p on r → StartsWith p test → ((t : T) → big t ≡ false → (on t ≡ false) × (test t ≡ false)) → Exact (Perhaps p) big (perhaps test r)
perhaps-exact test p on big r re with covers = record {
  ok = λ ts x e. perhaps_ok test p on r re ts x e;
  err = λ ts d e. perhaps_err test p on r re ts d e;
  complete = λ front rest o h stop. perhaps_complete test p on big r re with covers front rest o h stop;
}

pub started_stops : {T : Type 0} (test on : T → Bool) → ((t : T) → test t ≡ true → on t ≡ false) → (ts : List T) → starts test ts ≡ true → Stops on ts
started_stops test on sep [] h = absurd cc
started_stops test on sep (t ∷ ts) h = sep t h

-- what perhaps stands behind a value that goes on
pub fits_perhaps : {T A : Type 0} (test : T → Bool) (p : Lang T A) (on big : T → Bool) → StartsWith p test → ((t : T) → test t ≡ true → on t ≡ false) → ((t : T) → big t ≡ false → on t ≡ false) → FitsBehind (Perhaps p) on big big
fits_perhaps test p on big with ends covers back rest None h stop = (ap (λ (z : List _). starts on (z ++ rest)) h ∙ covers_stops on big covers rest stop, stop)
fits_perhaps test p on big with ends covers back rest (Some a) h stop = (started_stops test on ends (back ++ rest) (starts_more test back rest (with back a h)), stop)
