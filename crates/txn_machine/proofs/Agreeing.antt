-- Points of indexes: what changes leave of the rows that an index has under a key.
use Rattle.std.specs.Prelude.{◌≡◌, ◌≢◌, ◌⊎◌, ℕ, cond, List, [], ◌∷◌, Option, Some, None}
use mathlib.Core.Path.{refl, sym, ap, subst, ◌∙◌}
use mathlib.Core.Logic.{inl, inr}
use Rattle.std.proofs.Common.{eq-eqb}
use Rattle.std.specs.FinMap.{FinMap, get}
use Rattle.table_laws.specs.Place.{Place, place_cmp}
use Rattle.table_laws.specs.Table.{write}
use Rattle.table_laws.specs.Kept.{redo, AreTrue}
use Rattle.table_laws.proofs.Tables.{by_key, get-write_same, get-write_other, get-write_at}
use Rattle.table_laws.proofs.Kept.{by_touch, redo_untouched, redo_touched}
use Rattle.table_laws.proofs.Place.{place_cmp_total, place_cmp-IsAntisymmetric}
use Rattle.iv_meaning.specs.Schema.{Schema, numbered}
use Rattle.iv_meaning.specs.Database.{Row, Rows}
use Rattle.txn_machine.specs.Deltas.{RowChange}
use Rattle.txn_machine.specs.Entries.{secondary_key, entry_key, AgreeAt, HasEntry}

-- ---- places

pub by_place : {P : Type 0} (q k : Place) → (q ≡ k → P) → (q ≢ k → P) → P
by_place q k f g = by_key place_cmp_total place_cmp-IsAntisymmetric q k f g

pub written_same : {X : Type 0} (m : FinMap place_cmp X) (k : Place) (v : Option X) → get (write m k v) k ≡ v
written_same m k v = get-write_same place_cmp_total place_cmp-IsAntisymmetric m k v

pub written_at : {X : Type 0} (m : FinMap place_cmp X) (k : Place) (v : Option X) (q : Place) → q ≡ k → get (write m k v) q ≡ v
written_at m k v q e = get-write_at place_cmp_total place_cmp-IsAntisymmetric m k v q e

pub written_other : {X : Type 0} (m : FinMap place_cmp X) (k : Place) (v : Option X) (q : Place) → q ≢ k → get (write m k v) q ≡ get m q
written_other m k v q n = get-write_other place_cmp_total place_cmp-IsAntisymmetric m k v q n

-- options of which each has what the other has
pub same_option : {X : Type 0} (a b : Option X) → ((x : X) → a ≡ Some x → b ≡ Some x) → ((x : X) → b ≡ Some x → a ≡ Some x) → a ≡ b
same_option None None f g = refl
same_option None (Some y) f g = g y refl
same_option (Some x) b f g = sym (f x refl)

-- ---- entries

module _ (objects : Schema) where
  -- the primary index has each row at its place
  pub entry_first : (place : Place) (row : Row) → entry_key objects place.0 place row ≡ Some place.1
  unfolding entry_key
  entry_first place row = ap (λ b. cond b (Some place.1) (secondary_key objects (numbered objects place.0) place row)) (eq-eqb place.0 place.0 refl)

  module _ (number : ℕ) (key : List ℕ) where
    pub has : (place : Place) (o : Option Row) (row : Row) → o ≡ Some row → entry_key objects number place row ≡ Some key → HasEntry objects number key place o
    has place o row e h = subst (HasEntry objects number key place) (sym e) h

    pub agree_same : (m : Rows) → AgreeAt objects number key m m
    agree_same m = record { there = λ p r h e. e; back = λ p r h e. e }

    pub agree_back : (m n : Rows) → AgreeAt objects number key m n → AgreeAt objects number key n m
    agree_back m n a = record { there = a.back; back = a.there }

    pub agree_on : (l m n : Rows) → AgreeAt objects number key l m → AgreeAt objects number key m n → AgreeAt objects number key l n
    agree_on l m n a b = record { there = λ p r h e. b.there p r h (a.there p r h e); back = λ p r h e. a.back p r h (b.back p r h e) }

    -- a change of rows that have no entry there
    pub write_apart_from : (m : Rows) (k : Place) (old new : Option Row) → old ≡ get m k
        → (HasEntry objects number key k old → ⊥) → (HasEntry objects number key k new → ⊥) → AgreeAt objects number key (write m k new) m
    write_apart_from m k old new told no_old no_new = record {
      there = λ p r h e. by_place p k
          (λ i. absurd (no_new (has k new r (sym (written_at m k new p i) ∙ e) (subst (λ x. entry_key objects number x r ≡ Some key) i h))))
          (λ n. sym (written_other m k new p n) ∙ e);
      back = λ p r h e. by_place p k
          (λ i. absurd (no_old (has k old r (told ∙ (ap (get m) (sym i) ∙ e)) (subst (λ x. entry_key objects number x r ≡ Some key) i h))))
          (λ n. written_other m k new p n ∙ e);
    }

    -- one of these changes took or gave the index an entry there
    abbrev pub TouchesAt : List RowChange → Type 0
    TouchesAt [] = ⊥
    TouchesAt (c ∷ cs) = HasEntry objects number key c.key c.before ⊎ HasEntry objects number key c.key c.after ⊎ TouchesAt cs

    pub untouched_at : (cs : List RowChange) (m : Rows) → AreTrue m cs → (TouchesAt cs → ⊥) → AgreeAt objects number key (redo cs m) m
    untouched_at [] m t n = agree_same m
    untouched_at (c ∷ cs) m t n =
        agree_on (write (redo cs m) c.key c.after) (redo cs m) m
        (write_apart_from (redo cs m) c.key c.before c.after t.0 (λ h. n (inl h)) (λ h. n (inr (inl h))))
        (untouched_at cs m t.1 (λ h. n (inr (inr h))))

    pub agree_redo : (cs : List RowChange) (m n : Rows) → AgreeAt objects number key m n → AgreeAt objects number key (redo cs m) (redo cs n)
    agree_redo cs m n a = record {
      there = λ p r h e. by_touch place_cmp_total place_cmp-IsAntisymmetric p cs
          (λ t. redo_touched place_cmp_total place_cmp-IsAntisymmetric p cs n m t ∙ e)
          (λ u. redo_untouched place_cmp_total place_cmp-IsAntisymmetric p cs n u ∙ a.there p r h (sym (redo_untouched place_cmp_total place_cmp-IsAntisymmetric p cs m u) ∙ e));
      back = λ p r h e. by_touch place_cmp_total place_cmp-IsAntisymmetric p cs
          (λ t. redo_touched place_cmp_total place_cmp-IsAntisymmetric p cs m n t ∙ e)
          (λ u. redo_untouched place_cmp_total place_cmp-IsAntisymmetric p cs m u ∙ a.back p r h (sym (redo_untouched place_cmp_total place_cmp-IsAntisymmetric p cs n u) ∙ e));
    }

  -- the primary index says what row is there
  pub agree_first : (m n : Rows) (place : Place) → AgreeAt objects place.0 place.1 m n → get m place ≡ get n place
  agree_first m n place a = same_option (get m place) (get n place)
      (λ r e. a.there place r (entry_first place r) e)
      (λ r e. a.back place r (entry_first place r) e)
