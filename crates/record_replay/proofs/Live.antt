-- What transactions keep, as one record after another is replayed.
use Rattle.std.proofs.Common.{◌≡◌, ℕ, ◌<◌, Bool, true, false, cond, List, ◌∷◌, Option, Some, None, refl, sym, ap, subst, ◌∙◌, arith, eq-eqb}
use Rattle.std.specs.Prelude.{◌≢◌, ◌==◌, ◌&&◌, not, IsSome, is_some}
use Rattle.std.specs.Option.{option_map}
use Rattle.std.specs.Ordering.{is_eq}
use Rattle.std.proofs.lemmas.Bool.{ne_eqb, and_left, and_right, and_from, false≢true}
use Rattle.table_laws.proofs.Tables.{by_bool}
use Rattle.txn_log.specs.Replay.{Deed, Undo, spares, keep_where, find, own}
use Rattle.txn_log.specs.Fitting.{CarriedBelow, DoNumbersFall}
use Rattle.txn_log.specs.Appended.{Numbered}
use Rattle.txn_log.specs.Refused.{Placed, place_by, has_number}
use Rattle.txn_log.proofs.Finding.{by_number, by_sought}
use Rattle.live_records.specs.declared.kept.LiveRecords.{LiveRecords}
use Rattle.live_records.specs.declared.record.LiveRecord.{LiveRecord}
use Rattle.live_records.specs.Keyed.{key_cmp}
use Rattle.live_records.specs.Live.{deed_of, kept_at, SetsOne, IsLatest, KeepsNothing, HasEndedNow, AreApart}
use Rattle.live_records.proofs.Keys.{same_key, key_itself}
use Rattle.record_replay.specs.Standing.{Keeps}
use Rattle.record_replay.proofs.Lists.{nothing, found_is, found_below, one_number, latest_own, own_found, find_where}

-- ---- keys

both_same : (a b t m : ℕ) → a ≡ t → b ≡ m → is_eq (key_cmp (a, b) (t, m)) ≡ true
both_same a b t m e f = subst (λ u. is_eq (key_cmp (a, b) (u, m)) ≡ true) e (subst (λ n. is_eq (key_cmp (a, b) (a, n)) ≡ true) f (key_itself (a, b)))

not_both : (a b t m : ℕ) → ((a ≡ t) × (b ≡ m) → ⊥) → is_eq (key_cmp (a, b) (t, m)) ≡ false
not_both a b t m n = by_bool (is_eq (key_cmp (a, b) (t, m)))
    (λ e. let same : (a, b) ≡ (t, m) = same_key (a, b) (t, m) e in absurd (n (ap (λ (k : ℕ × ℕ). k.0) same, ap (λ (k : ℕ × ℕ). k.1) same)))
    (λ e. e)

-- a key is another just where both of its numbers are
pub key_test : (a b t m : ℕ) → is_eq (key_cmp (a, b) (t, m)) ≡ ((t == a) && (m == b))
key_test a b t m = by_number t a
    (λ e. by_number m b
    (λ f. both_same a b t m (sym e) (sym f) ∙ sym (and_from (t == a) (m == b) (eq-eqb t a e) (eq-eqb m b f)))
    (λ n. not_both a b t m (λ s. n (sym s.1)) ∙ sym (and_right (t == a) (m == b) (ne_eqb m b n))))
    (λ n. not_both a b t m (λ s. n (sym s.0)) ∙ sym (and_left (t == a) (m == b) (ne_eqb t a n)))

-- the same, the other way round
key_test_back : (a b t m : ℕ) → is_eq (key_cmp (a, b) (t, m)) ≡ ((a == t) && (b == m))
key_test_back a b t m = by_number a t
    (λ e. by_number b m
    (λ f. both_same a b t m e f ∙ sym (and_from (a == t) (b == m) (eq-eqb a t e) (eq-eqb b m f)))
    (λ n. not_both a b t m (λ s. n s.1) ∙ sym (and_right (a == t) (b == m) (ne_eqb b m n))))
    (λ n. not_both a b t m (λ s. n s.0) ∙ sym (and_left (a == t) (b == m) (ne_eqb a t n)))

-- ---- places

pub same_record : (x y : LiveRecord) → Some x ≡ Some y → x ≡ y
same_record x y e = cc

pub no_record : {A : Type 0} (x : LiveRecord) → None ≡ Some x → A
no_record x e = absurd (cc e)

pub is_found : (live : LiveRecords) (rs : List Placed) (xs : List Deed) → Keeps live rs xs → (t m : ℕ) (q : LiveRecord) → kept_at live t m ≡ Some q → find t m xs ≡ Some (deed_of q)
is_found live rs xs keeps t m q e = sym (keeps.same t m) ∙ ap (option_map deed_of) e

place_this : (r : Placed) (rs : List Placed) (n : Numbered) (m : ℕ) → r.entry ≡ Some n → n.number ≡ m → place_by m (r ∷ rs) ≡ r.place
place_this r rs n m e is = ap (λ b. cond b r.place (place_by m rs)) (ap (has_number m) e ∙ eq-eqb n.number m is)

place_later : (r : Placed) (rs : List Placed) (n : Numbered) (m : ℕ) → r.entry ≡ Some n → n.number ≢ m → place_by m (r ∷ rs) ≡ place_by m rs
place_later r rs n m e differs = ap (λ b. cond b r.place (place_by m rs)) (ap (has_number m) e ∙ ne_eqb n.number m differs)

module _ (rs : List Placed) (r : Placed) (n : Numbered) (entry : r.entry ≡ Some n) where
  -- a later record changes no place
  stays_there : (live : LiveRecords) (xs : List Deed) → Keeps live rs xs → CarriedBelow n.number xs → (t m : ℕ) (q : LiveRecord) → kept_at live t m ≡ Some q → q.place ≡ place_by m (r ∷ rs)
  stays_there live xs keeps below t m q e =
      let less : m < n.number = found_below n.number t m xs (deed_of q) below (is_found live rs xs keeps t m q e) in
      keeps.places t m q e ∙ sym (place_later r rs n m entry (λ i. absurd (omega (arith, less, i))))

  -- ---- after a record

  -- that keeps nothing and takes nothing back
  pub keeps_still : (live : LiveRecords) (xs : List Deed) → Keeps live rs xs → CarriedBelow n.number xs → Keeps live (r ∷ rs) xs
  keeps_still live xs keeps below = record { same = keeps.same; places = stays_there live xs keeps below }

  map_cond : (b : Bool) (q : LiveRecord) (o : Option LiveRecord) (p : Option Deed) → option_map deed_of o ≡ p → option_map deed_of (cond b (Some q) o) ≡ cond b (Some (deed_of q)) p
  map_cond true q o p e = refl
  map_cond false q o p e = e

  -- that its transaction keeps
  pub keeps_more : (old new : LiveRecords) (xs : List Deed) (q : LiveRecord) → Keeps old rs xs → CarriedBelow n.number xs → n.number ≡ q.number → r.place ≡ q.place
      → SetsOne old q.transaction q.number (Some q) new → Keeps new (r ∷ rs) (deed_of q ∷ xs)
  keeps_more old new xs q keeps below number place sets = record {
    same = λ t m. ap (option_map deed_of) (sets t m ∙ ap (λ b. cond b (Some q) (kept_at old t m)) (key_test q.transaction q.number t m))
        ∙ map_cond ((t == q.transaction) && (m == q.number)) q (kept_at old t m) (find t m xs) (keeps.same t m);
    places = λ t m p e. by_sought t m (deed_of q)
        (λ a b.
        let this : Some q ≡ Some p = sym (sets t m ∙ ap (λ c. cond c (Some q) (kept_at old t m)) (both_same q.transaction q.number t m (sym a) (sym b))) ∙ e in
        ap (λ (x : LiveRecord). x.place) (sym (same_record q p this)) ∙ (sym place ∙ sym (place_this r rs n m entry (number ∙ sym b))))
        (λ differs. stays_there old xs keeps below t m p (sym (sets t m ∙ ap (λ c. cond c (Some q) (kept_at old t m)) (key_test q.transaction q.number t m ∙ differs)) ∙ e));
  }

  without : (b : Bool) (o : Option LiveRecord) (p : Option Deed) → option_map deed_of o ≡ p → option_map deed_of (cond b None o) ≡ cond (not b) p None
  without true o p e = refl
  without false o p e = e

  no_place : (b : Bool) (o : Option LiveRecord) (p : LiveRecord) → cond b None o ≡ Some p → o ≡ Some p
  no_place true o p e = no_record p e
  no_place false o p e = e

  -- that takes one back
  pub keeps_without : (old new : LiveRecords) (xs : List Deed) (k t m : ℕ) → Keeps old rs xs → CarriedBelow n.number xs → SetsOne old t m None new → Keeps new (r ∷ rs) (keep_where (spares (Undo k t m)) xs)
  keeps_without old new xs k t m keeps below sets = record {
    same = λ u l. ap (option_map deed_of) (sets u l ∙ ap (λ b. cond b None (kept_at old u l)) (key_test_back t m u l))
        ∙ (without ((t == u) && (m == l)) (kept_at old u l) (find u l xs) (keeps.same u l) ∙ sym (find_where (spares (Undo k t m)) u l xs));
    places = λ u l p e. stays_there old xs keeps below u l p (no_place (is_eq (key_cmp (t, m) (u, l))) (kept_at old u l) p (sym (sets u l) ∙ e));
  }

  -- that ends its transaction
  pub keeps_ended : (f : ℕ → ℕ → Bool) (old new : LiveRecords) (xs : List Deed) (t : ℕ) → ((u l : ℕ) → f u l ≡ not (t == u)) → Keeps old rs xs → CarriedBelow n.number xs → HasEndedNow old t new
      → Keeps new (r ∷ rs) (keep_where f xs)
  keeps_ended f old new xs t is keeps below ended = record {
    same = λ u l. by_number t u
        (λ e. ap (option_map deed_of) (subst (λ v. kept_at new v l ≡ None) e (ended.nothing l))
        ∙ sym (find_where f u l xs ∙ ap (λ b. cond b (find u l xs) None) (is u l ∙ ap not (eq-eqb t u e))))
        (λ d. ap (option_map deed_of) (ended.others u l (λ i. d (sym i)))
        ∙ (keeps.same u l ∙ sym (find_where f u l xs ∙ ap (λ b. cond b (find u l xs) None) (is u l ∙ ap not (ne_eqb t u d)))));
    places = λ u l p e. by_number t u
        (λ i. no_record p (sym (subst (λ v. kept_at new v l ≡ None) i (ended.nothing l)) ∙ e))
        (λ d. stays_there old xs keeps below u l p (sym (ended.others u l (λ i. d (sym i))) ∙ e));
  }

-- ---- the latest that a transaction keeps

some_of : (o : Option LiveRecord) (d : Deed) → option_map deed_of o ≡ Some d → IsSome o
some_of None d e = nothing d e
some_of (Some q) d e = refl

pub by_option : {P : Type 0} (o : Option LiveRecord) → (o ≡ None → P) → ((q : LiveRecord) → o ≡ Some q → P) → P
by_option None f g = f refl
by_option (Some q) f g = g q refl

map_none : (o : Option LiveRecord) → IsSome (option_map deed_of o) → IsSome o
map_none None h = h
map_none (Some q) h = refl

module _ (live : LiveRecords) (rs : List Placed) (xs : List Deed) (keeps : Keeps live rs xs) (fall : DoNumbersFall xs) where
  pub latest_is : (t : ℕ) (q : LiveRecord) → IsLatest live t q → (earlier : List Deed) × (own t xs ≡ deed_of q ∷ earlier)
  latest_is t q latest = latest_own t q.number xs (deed_of q) fall (is_found live rs xs keeps t q.number q latest.kept)
      (λ n some. latest.latest n (map_none (kept_at live t n) (subst IsSome (sym (keeps.same t n)) some)))

  pub none_own : (t : ℕ) → KeepsNothing live t → (d : Deed) (earlier : List Deed) → own t xs ≡ d ∷ earlier → ⊥
  none_own t none d earlier e = nothing d (sym (ap (option_map deed_of) (none d.number)) ∙ (keeps.same t d.number ∙ own_found t xs d earlier e))

  pub are_apart : AreApart live
  are_apart t u n a b = by_option (kept_at live t n)
      (λ e. absurd (false≢true (sym (ap is_some e) ∙ a)))
      (λ p e. by_option (kept_at live u n)
      (λ f. absurd (false≢true (sym (ap is_some f) ∙ b)))
      (λ q f.
      let d = is_found live rs xs keeps t n p e in
      let g = is_found live rs xs keeps u n q f in
      let same : deed_of p ≡ deed_of q = one_number t u n xs (deed_of p) (deed_of q) fall d g in
      sym (found_is t n xs (deed_of p) d).0 ∙ (ap (λ (x : Deed). x.transaction) same ∙ (found_is u n xs (deed_of q) g).0)))
