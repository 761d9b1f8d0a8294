-- Readers of a row.
use Rattle.std.proofs.Common.{◌≡◌, ℕ, zero, suc, ◌<◌, ◌≤◌, Bool, true, false, List, [], ◌∷◌, ◌++◌, length, Result, Ok, Err, refl, sym, ap, subst, ◌∙◌, append_assoc, arith, inl, inr}
use Rattle.std.proofs.lemmas.List.{length-append, append-nil}
use Rattle.text_grammar.specs.declared.fault.Fault.{Fault}
use Rattle.text_grammar.specs.Readers.{Reader, ◌>>=◌, fault_at, starts, folded_by, folded, row}
use Rattle.text_grammar.specs.Languages.{Lang, Many, fold_left, Row}
use Rattle.text_grammar.proofs.Exactness.{bind_ok, bind_err, done, ok_is, SameStart, Stops, Reads, Faults, Exact, regrouped, start_of, starts_same, starts_more, fronts_joined, choose, StartsWith, covers_stops, the_test, the_result}
use Rattle.text_grammar.proofs.Combining.{started_stops}

-- ---- a row

-- r takes at least a token from what passes the test
abbrev pub Consumes : {T B : Type 0} → (T → Bool) → Reader T B → Type 0
Consumes {T = T} {B = B} test r = (ts : List T) (x : B × List T) → starts test ts ≡ true → r ts ≡ Ok x → length x.1 < length ts

starts_long : {T : Type 0} (test : T → Bool) (ts : List T) → starts test ts ≡ true → 0 < length ts
starts_long test [] h = absurd cc
starts_long test (t ∷ ts) h = omega arith

-- what begins with a token is read off at least one
pub takes : {T B : Type 0} (test : T → Bool) (q : Lang T B) (on : T → Bool) (r : Reader T B) → Exact q on r → StartsWith q test → (ts : List T) (x : B × List T) → r ts ≡ Ok x → length x.1 < length ts
takes test q on r re with ts x e =
    let k = re.ok ts x e in
    omega (arith, starts_long test k.front (with k.front x.0 k.spelled), ap length k.text, length-append k.front x.1)

-- such a reader takes at least a token
pub consumes : {T B : Type 0} (test : T → Bool) (q : Lang T B) (on : T → Bool) (r : Reader T B) → Exact q on r → StartsWith q test → Consumes test r
consumes test q on r re with ts x b e = takes test q on r re with ts x e

-- no more turn
pub folded_stop : {T A B : Type 0} (test : T → Bool) (step : A → B → A) (r : A → Reader T B) (m : ℕ) (acc : A) (ts : List T) → starts test ts ≡ false → folded_by test step r m acc ts ≡ Ok (acc, ts)
unfolding folded_by
folded_stop test step r zero acc ts h = refl
folded_stop test step r (suc m) acc ts h = rw h refl

-- one more turn
pub folded_turn : {T A B : Type 0} (test : T → Bool) (step : A → B → A) (r : A → Reader T B) (m : ℕ) (acc : A) (ts mid : List T) (b : B) → starts test ts ≡ true → r acc ts ≡ Ok (b, mid) → folded_by test step r (suc m) acc ts ≡ folded_by test step r m (step acc b) mid
unfolding folded_by
folded_turn test step r m acc ts mid b h e = rw (h, e) refl

-- a turn that fails
pub folded_fault : {T A B : Type 0} (test : T → Bool) (step : A → B → A) (r : A → Reader T B) (m : ℕ) (acc : A) (ts : List T) (d : Fault) → starts test ts ≡ true → r acc ts ≡ Err d → folded_by test step r (suc m) acc ts ≡ Err d
unfolding folded_by
folded_fault test step r m acc ts d h e = rw (h, e) refl

-- any bound that is large enough gives the same
pub folded_enough : {T A B : Type 0} (test : T → Bool) (step : A → B → A) (r : A → Reader T B) → ((a : A) → Consumes test (r a)) → (n m : ℕ) (acc : A) (ts : List T) → length ts ≤ n → length ts ≤ m → folded_by test step r n acc ts ≡ folded_by test step r m acc ts
unfolding folded_by
folded_enough test step r small zero m acc [] hn hm = sym (folded_stop test step r m acc [] refl)
folded_enough test step r small zero m acc (t ∷ ts) hn hm = absurd (omega arith)
folded_enough test step r small (suc n) zero acc [] hn hm = refl
folded_enough test step r small (suc n) zero acc (t ∷ ts) hn hm = absurd (omega arith)
folded_enough test step r small (suc n) (suc m) acc ts hn hm =
    elim (the_test (starts test ts)) [
      | inl is ↦
          elim (the_result (r acc ts)) [
            | inl x ↦
                let less : length x.0.1 < length ts = small acc ts x.0 is x.1 in
                folded_turn test step r n acc ts x.0.1 x.0.0 is x.1
                ∙ folded_enough test step r small n m (step acc x.0.0) x.0.1 (omega arith) (omega arith)
                ∙ sym (folded_turn test step r m acc ts x.0.1 x.0.0 is x.1)
            | inr d ↦ folded_fault test step r n acc ts d.0 is d.1 ∙ sym (folded_fault test step r m acc ts d.0 is d.1)
          ]
      | inr not ↦ folded_stop test step r (suc n) acc ts not ∙ sym (folded_stop test step r (suc m) acc ts not)
    ]

-- what stays where the tokens so far are folded in
record TailReads {T A B : Type 0} (test : T → Bool) (step : A → B → A) (q : A → Lang T B) (r : A → Reader T B) (acc : A) (ts : List T) (x : A × List T) : Type 0 where
  pub front : List T
  pub items : List B
  pub text : ts ≡ front ++ x.1
  pub spelled : Many step q acc front items
  pub made : x.0 ≡ fold_left step acc items
  pub again : (rest : List T) (m : ℕ) → SameStart x.1 rest → length (front ++ rest) ≤ m → folded_by test step r m acc (front ++ rest) ≡ Ok (x.0, rest)

record TailFaults {T A B : Type 0} (test : T → Bool) (step : A → B → A) (q : A → Lang T B) (r : A → Reader T B) (acc : A) (ts : List T) (f : Fault) : Type 0 where
  pub front : List T
  pub rest : List T
  pub items : List B
  pub more : List T
  pub text : ts ≡ front ++ rest
  pub place : f ≡ fault_at f.cause rest
  pub spelled : Many step q acc (front ++ more) items
  pub again : (other : List T) (m : ℕ) → SameStart rest other → length (front ++ other) ≤ m → folded_by test step r m acc (front ++ other) ≡ Err (fault_at f.cause other)

-- a turn, at any bound that is large enough
turn_at : {T A B : Type 0} (test : T → Bool) (step : A → B → A) (r : A → Reader T B) (m : ℕ) (acc : A) (ts mid : List T) (b : B) (z : Result (A × List T) Fault) → starts test ts ≡ true → r acc ts ≡ Ok (b, mid) → length mid < length ts → length ts ≤ m → ((k : ℕ) → length mid ≤ k → folded_by test step r k (step acc b) mid ≡ z) → folded_by test step r m acc ts ≡ z
turn_at test step r zero acc ts mid b z is e less le then_ = absurd (omega arith)
turn_at test step r (suc m) acc ts mid b z is e less le then_ = folded_turn test step r m acc ts mid b is e ∙ then_ m (omega arith)

fault_turn : {T A B : Type 0} (test : T → Bool) (step : A → B → A) (r : A → Reader T B) (m : ℕ) (acc : A) (ts : List T) (d : Fault) → starts test ts ≡ true → r acc ts ≡ Err d → length ts ≤ m → folded_by test step r m acc ts ≡ Err d
fault_turn test step r zero acc ts d is e le = let long = starts_long test ts is in absurd (omega arith)
fault_turn test step r (suc m) acc ts d is e le = folded_fault test step r m acc ts d is e

tail_ok : {T A B : Type 0} (test : T → Bool) (step : A → B → A) (q : A → Lang T B) (on : T → Bool) (r : A → Reader T B) → ((a : A) → Exact (q a) on (r a)) → ((a : A) → StartsWith (q a) test) → (n : ℕ) (acc : A) (ts : List T) (x : A × List T) → length ts ≤ n → folded_by test step r n acc ts ≡ Ok x → TailReads test step q r acc ts x
unfolding folded_by
tail_ok test step q on r re with zero acc (t ∷ ts) x le e = absurd (omega arith)
tail_ok test step q on r re with zero acc [] x le e =
    subst (λ (z : _ × List _). TailReads test step q r acc [] z) (ok_is (acc, []) x e) (record {
      front = [];
      items = [];
      text = refl;
      spelled = refl;
      made = refl;
      again = λ rest m same fits. folded_stop test step r m acc rest (sym (starts_same test [] rest same));
    })
tail_ok test step q on r re with (suc n) acc ts x le e =
    elim (choose (starts test ts) (r acc ts >>= (λ x. folded_by test step r n (step acc x.0) x.1)) (Ok (acc, ts)) (Ok x) e) [
      | inl g ↦
          let a = bind_ok (r acc ts) (λ x. folded_by test step r n (step acc x.0) x.1) x g.1 in
          let k = (re acc).ok ts a.0 a.1 in
          let less : length a.0.1 < length ts = consumes test (q acc) on (r acc) (re acc) (with acc) ts a.0 g.0 a.1 in
          let m = tail_ok test step q on r re with n (step acc a.0.0) a.0.1 x (omega arith) a.2 in
          record {
            front = k.front ++ m.front;
            items = a.0.0 ∷ m.items;
            text = fronts_joined ts k.front a.0.1 m.front x.1 k.text m.text;
            spelled = record { front = k.front; back = m.front; text = refl; first = k.spelled; second = m.spelled };
            made = m.made;
            again = λ rest big same fits.
                let mid : SameStart a.0.1 (m.front ++ rest) = start_of a.0.1 m.front x.1 rest m.text same in
                let is : starts test (k.front ++ (m.front ++ rest)) ≡ true = starts_more test k.front (m.front ++ rest) (with acc k.front a.0.0 k.spelled) in
                let e1 = append_assoc k.front m.front rest in
                ap (folded_by test step r big acc) e1
                ∙ turn_at test step r big acc (k.front ++ (m.front ++ rest)) (m.front ++ rest) a.0.0 (Ok (x.0, rest)) is (k.again (m.front ++ rest) mid)
                (omega (arith, length-append k.front (m.front ++ rest), starts_long test k.front (with acc k.front a.0.0 k.spelled)))
                (omega (arith, ap length e1))
                (λ j small. m.again rest j same small);
          }
      | inr g ↦
          subst (λ (z : _ × List _). TailReads test step q r acc ts z) (ok_is (acc, ts) x g.1) (record {
            front = [];
            items = [];
            text = refl;
            spelled = refl;
            made = refl;
            again = λ rest m same fits. folded_stop test step r m acc rest (sym (starts_same test ts rest same) ∙ g.0);
          })
    ]

tail_err : {T A B : Type 0} (test : T → Bool) (step : A → B → A) (q : A → Lang T B) (on : T → Bool) (r : A → Reader T B) → ((a : A) → Exact (q a) on (r a)) → ((a : A) → StartsWith (q a) test) → (n : ℕ) (acc : A) (ts : List T) (f : Fault) → folded_by test step r n acc ts ≡ Err f → TailFaults test step q r acc ts f
unfolding folded_by
tail_err test step q on r re with zero acc ts f e = absurd (let bad = e in cc)
tail_err {T = T} {A = A} {B = B} test step q on r re with (suc n) acc ts f e =
    elim (choose (starts test ts) (r acc ts >>= (λ x. folded_by test step r n (step acc x.0) x.1)) (Ok (acc, ts)) (Err f) e) [
      | inl g ↦
          elim (bind_err (r acc ts) (λ x. folded_by test step r n (step acc x.0) x.1) f g.1) [
            | inl h ↦
                let k = (re acc).err ts f h in
                let viable : (items : List B) × (more : List T) × Many step q acc (k.front ++ more) items =
                elim k.viable [
                  | inl none ↦ ([], [], ap (λ (z : List _). z ++ []) none)
                  | inr b ↦ (b.value ∷ [], b.more, record { front = k.front ++ b.more; back = []; text = sym (append-nil (k.front ++ b.more)); first = b.spelled; second = refl })
                ] in
                record {
                  front = k.front;
                  rest = k.rest;
                  items = viable.0;
                  more = viable.1;
                  text = k.text;
                  place = k.place;
                  spelled = viable.2;
                  again = λ other m same fits.
                      let is : starts test (k.front ++ other) ≡ true = sym (starts_same test ts (k.front ++ other) (start_of ts k.front k.rest other k.text same)) ∙ g.0 in
                      fault_turn test step r m acc (k.front ++ other) (fault_at f.cause other) is (k.again other same) fits;
                }
            | inr a ↦
                let k = (re acc).ok ts a.0 a.1 in
                let m = tail_err test step q on r re with n (step acc a.0.0) a.0.1 f a.2 in
                record {
                  front = k.front ++ m.front;
                  rest = m.rest;
                  items = a.0.0 ∷ m.items;
                  more = m.more;
                  text = fronts_joined ts k.front a.0.1 m.front m.rest k.text m.text;
                  place = m.place;
                  spelled = record { front = k.front; back = m.front ++ m.more; text = append_assoc k.front m.front m.more; first = k.spelled; second = m.spelled };
                  again = λ other big same fits.
                      let mid : SameStart a.0.1 (m.front ++ other) = start_of a.0.1 m.front m.rest other m.text same in
                      let is : starts test (k.front ++ (m.front ++ other)) ≡ true = starts_more test k.front (m.front ++ other) (with acc k.front a.0.0 k.spelled) in
                      let e1 = append_assoc k.front m.front other in
                      ap (folded_by test step r big acc) e1
                      ∙ turn_at test step r big acc (k.front ++ (m.front ++ other)) (m.front ++ other) a.0.0 (Err (fault_at f.cause other)) is (k.again (m.front ++ other) mid)
                      (omega (arith, length-append k.front (m.front ++ other), starts_long test k.front (with acc k.front a.0.0 k.spelled)))
                      (omega (arith, ap length e1))
                      (λ j small. m.again other j same small);
                }
          ]
      | inr g ↦ absurd (let bad = g.1 in cc)
    ]

-- what a row's items are followed by: another, or what follows the row
abbrev pub Separates : {T : Type 0} → (test on big : T → Bool) → Type 0
Separates {T = T} test on big = ((t : T) → test t ≡ true → on t ≡ false) × ((t : T) → big t ≡ false → (on t ≡ false) × (test t ≡ false))

-- behind an item stands another, or what follows the row
pub many_stops : {T A B : Type 0} (test : T → Bool) (step : A → B → A) (q : A → Lang T B) (on big : T → Bool) → ((a : A) → StartsWith (q a) test) → Separates test on big → (acc : A) (items : List B) (back rest : List T) → Many step q acc back items → Stops big rest → Stops on (back ++ rest)
many_stops test step q on big with sep acc [] back rest h stop = ap (λ (z : List _). starts on (z ++ rest)) h ∙ covers_stops on big (λ t no. (sep.1 t no).0) rest stop
many_stops test step q on big with sep acc (x ∷ xs) back rest h stop =
    started_stops test on sep.0 (back ++ rest) (ap (λ (z : List _). starts test (z ++ rest)) h.text ∙ starts_more test (h.front ++ h.back) rest (starts_more test h.front h.back (with acc h.front x h.first)))

tail_complete : {T A B : Type 0} (test : T → Bool) (step : A → B → A) (q : A → Lang T B) (on big : T → Bool) (r : A → Reader T B) → ((a : A) → Exact (q a) on (r a)) → ((a : A) → StartsWith (q a) test) → Separates test on big → (items : List B) (front rest : List T) (acc : A) (m : ℕ) → Many step q acc front items → Stops big rest → length (front ++ rest) ≤ m → folded_by test step r m acc (front ++ rest) ≡ Ok (fold_left step acc items, rest)
tail_complete test step q on big r re with sep [] front rest acc m h stop fits =
    ap (λ (z : List _). folded_by test step r m acc (z ++ rest)) h ∙ folded_stop test step r m acc rest (covers_stops test big (λ t no. (sep.1 t no).1) rest stop)
tail_complete test step q on big r re with sep (x ∷ xs) front rest acc m h stop fits =
    let e1 : front ++ rest ≡ h.front ++ (h.back ++ rest) = ap (λ (z : List _). z ++ rest) h.text ∙ append_assoc h.front h.back rest in
    let is : starts test (h.front ++ (h.back ++ rest)) ≡ true = starts_more test h.front (h.back ++ rest) (with acc h.front x h.first) in
    ap (folded_by test step r m acc) e1
    ∙ turn_at test step r m acc (h.front ++ (h.back ++ rest)) (h.back ++ rest) x (Ok (fold_left step (step acc x) xs, rest)) is
    ((re acc).complete h.front (h.back ++ rest) x h.first (many_stops test step q on big with sep (step acc x) xs h.back rest h.second stop))
    (omega (arith, length-append h.front (h.back ++ rest), starts_long test h.front (with acc h.front x h.first)))
    (omega (arith, ap length e1))
    (λ j small. tail_complete test step q on big r re with sep xs h.back rest (step acc x) j h.second stop small)

row_ok : {T A B C : Type 0} (test : T → Bool) (init : A → C) (step : C → B → C) (p : Lang T A) (q : C → Lang T B) (on : T → Bool) (r : Reader T A) (s : C → Reader T B) → Exact p on r → ((c : C) → Exact (q c) on (s c)) → ((c : C) → StartsWith (q c) test) → (ts : List T) (y : C × List T) → row test init step r s ts ≡ Ok y → Reads (Row init step p q) (row test init step r s) ts y
row_ok test init step p q on r s re se with ts y e =
    let a = bind_ok (r ts) (λ x. folded test step s (init x.0) x.1) y e in
    let k = re.ok ts a.0 a.1 in
    let m = tail_ok test step q on s se with (length a.0.1) (init a.0.0) a.0.1 y (omega arith) a.2 in
    record {
      front = k.front ++ m.front;
      text = fronts_joined ts k.front a.0.1 m.front y.1 k.text m.text;
      spelled = record { value = (a.0.0, m.items); spelled = record { front = k.front; back = m.front; text = refl; first = k.spelled; second = m.spelled }; made = m.made };
      again = λ rest same.
          regrouped (row test init step r s) k.front m.front rest (
          rw (k.again (m.front ++ rest) (start_of a.0.1 m.front y.1 rest m.text same)) (m.again rest (length (m.front ++ rest)) same (omega arith))
          );
    }

row_err : {T A B C : Type 0} (test : T → Bool) (init : A → C) (step : C → B → C) (p : Lang T A) (q : C → Lang T B) (on : T → Bool) (r : Reader T A) (s : C → Reader T B) → Exact p on r → ((c : C) → Exact (q c) on (s c)) → ((c : C) → StartsWith (q c) test) → (ts : List T) (d : Fault) → row test init step r s ts ≡ Err d → Faults (Row init step p q) (row test init step r s) ts d
row_err test init step p q on r s re se with ts d e =
    elim (bind_err (r ts) (λ x. folded test step s (init x.0) x.1) d e) [
      | inl g ↦
          let k = re.err ts d g in
          record {
            front = k.front;
            rest = k.rest;
            text = k.text;
            place = k.place;
            viable = elim k.viable [
              | inl h ↦ inl h
              | inr b ↦ inr (record { more = b.more; value = init b.value; spelled = record { value = (b.value, []); spelled = record { front = k.front ++ b.more; back = []; text = sym (append-nil (k.front ++ b.more)); first = b.spelled; second = refl }; made = refl } })
            ];
            again = λ other same. rw (k.again other same) refl;
          }
      | inr a ↦
          let k = re.ok ts a.0 a.1 in
          let m = tail_err test step q on s se with (length a.0.1) (init a.0.0) a.0.1 d a.2 in
          record {
            front = k.front ++ m.front;
            rest = m.rest;
            text = fronts_joined ts k.front a.0.1 m.front m.rest k.text m.text;
            place = m.place;
            viable = inr (record { more = m.more; value = fold_left step (init a.0.0) m.items; spelled = record { value = (a.0.0, m.items); spelled = record { front = k.front; back = m.front ++ m.more; text = append_assoc k.front m.front m.more; first = k.spelled; second = m.spelled }; made = refl } });
            again = λ other same.
                regrouped (row test init step r s) k.front m.front other (
                rw (k.again (m.front ++ other) (start_of a.0.1 m.front m.rest other m.text same)) (m.again other (length (m.front ++ other)) same (omega arith))
                );
          }
    ]

row_complete : {T A B C : Type 0} (test : T → Bool) (init : A → C) (step : C → B → C) (p : Lang T A) (q : C → Lang T B) (on big : T → Bool) (r : Reader T A) (s : C → Reader T B) → Exact p on r → ((c : C) → Exact (q c) on (s c)) → ((c : C) → StartsWith (q c) test) → Separates test on big → (front rest : List T) (c : C) → Row init step p q front c → Stops big rest → row test init step r s (front ++ rest) ≡ Ok (c, rest)
row_complete test init step p q on big r s re se with sep front rest c h stop =
    let b = h.spelled in
    let e1 : front ++ rest ≡ b.front ++ (b.back ++ rest) = ap (λ (z : List _). z ++ rest) b.text ∙ append_assoc b.front b.back rest in
    let e2 : r (b.front ++ (b.back ++ rest)) ≡ Ok (h.value.0, b.back ++ rest) = re.complete b.front (b.back ++ rest) h.value.0 b.first (many_stops test step q on big with sep (init h.value.0) h.value.1 b.back rest b.second stop) in
    ap (row test init step r s) e1
    ∙ rw e2 (tail_complete test step q on big s se with sep h.value.1 b.back rest (init h.value.0) (length (b.back ++ rest)) b.second stop (omega arith) ∙ ap (λ (z : _). done (z, rest)) (sym h.made))

-- a first one, and as many others as there are
pub row-exact : {T A B C : Type 0} (test : T → Bool) (init : A → C) (step : C → B → C) (p : Lang T A) (q : C → Lang T B) (on big : T → Bool) (r : Reader T A) (s : C → Reader T B) → Exact p on r → ((c : C) → Exact (q c) on (s c)) → ((c : C) → StartsWith (q c) test) → Separates test on big → Exact (Row init step p q) big (row test init step r s)
row-exact test init step p q on big r s re se with sep = record {
  ok = λ ts x e. row_ok test init step p q on r s re se with ts x e;
  err = λ ts d e. row_err test init step p q on r s re se with ts d e;
  complete = λ front rest c h stop. row_complete test init step p q on big r s re se with sep front rest c h stop;
}
