-- Sessions, of which one is set; locks that conflict; and held locks.
use Rattle.std.specs.Prelude.{◌≡◌, ◌≢◌, ◌⊎◌, ℕ, zero, suc, cond, List, [], ◌++◌}
use Rattle.std.specs.List.{Contains}
use mathlib.Core.Path.{sym, ap, subst, ◌∙◌}
use mathlib.Core.Logic.{inl, inr}
use Rattle.std.proofs.Common.{arith, eq-eqb}
use Rattle.std.proofs.lemmas.Bool.{ne_eqb}
use Rattle.std.proofs.lemmas.List.Elements.{Contains-append_left, Contains-append_right, Contains-append_cases}
use Rattle.iv_types.specs.declared.lock.LockMode.{LockMode}
use Rattle.iv_types.specs.declared.lock.LockMode.TheVariants.{Share, Exclusive, Increment}
use Rattle.iv_types.specs.declared.lock.Want.{Want}
use Rattle.table_laws.specs.Kept.{IsSession, Touches}
use Rattle.table_laws.specs.Table.{Change}
use Rattle.table_laws.proofs.Kept.{by_touch}
use Rattle.table_laws.proofs.Place.{place_cmp_total, place_cmp-IsAntisymmetric}
use Rattle.table_laws.proofs.Stored.{by_session}
use Rattle.table_laws.specs.Place.{Place}
use Rattle.txn_machine.specs.Locks.{Agree, Conflict, Meet, with_one}
use Rattle.txn_machine.specs.Ghosts.{Holds, MayRead}

-- ---- one session is set

module _ {X : Type 0} (f : ℕ → X) (i : ℕ) (x : X) where
  pub one_same : (j : ℕ) → j ≡ i → with_one f i x j ≡ x
  one_same j e = ap (λ b. cond b x (f j)) (eq-eqb j i e)

  pub one_other : (j : ℕ) → j ≢ i → with_one f i x j ≡ f j
  one_other j n = ap (λ b. cond b x (f j)) (ne_eqb j i n)

  pub after_all : (Q : X → Type 0) → (j : ℕ) → Q x → (j ≢ i → Q (f j)) → Q (with_one f i x j)
  after_all Q j new old = by_session j i (λ e. subst Q (sym (one_same j e)) new) (λ n. subst Q (sym (one_other j n)) (old n))

-- ---- locks

pub agree_sym : (a b : LockMode) → Agree a b → Agree b a
agree_sym Share Share g = tt
agree_sym Share Exclusive g = g
agree_sym Share Increment g = g
agree_sym Exclusive Share g = g
agree_sym Exclusive Exclusive g = g
agree_sym Exclusive Increment g = g
agree_sym Increment Share g = g
agree_sym Increment Exclusive g = g
agree_sym Increment Increment g = tt

pub conflict_sym : (a b : Want) → Conflict a b → Conflict b a
conflict_sym a b c = record {
  one_index = sym c.one_index;
  common_key = (c.common_key.0, c.common_key.2, c.common_key.1);
  modes = λ g. c.modes (agree_sym b.mode a.mode g);
}

pub meet_sym : (xs ys : List Want) → Meet xs ys → Meet ys xs
meet_sym xs ys m = record { lock = m.want; held = m.wanted; want = m.lock; wanted = m.held; conflict = conflict_sym m.lock m.want m.conflict }

pub meet_append : (xs ys zs : List Want) → Meet (xs ++ ys) zs → Meet xs zs ⊎ Meet ys zs
meet_append xs ys zs m = elim (Contains-append_cases xs ys m.lock m.held) [
  | inl h ↦ inl (record { lock = m.lock; held = h; want = m.want; wanted = m.wanted; conflict = m.conflict })
  | inr h ↦ inr (record { lock = m.lock; held = h; want = m.want; wanted = m.wanted; conflict = m.conflict })
]

pub contains_none : {X : Type 0} (x : X) → Contains [] x → ⊥
contains_none x c = let below = c.1 in omega arith

pub meet_none : (ys : List Want) → Meet [] ys → ⊥
meet_none ys m = contains_none m.lock m.held

-- locks of modes that disagree, on one key
pub holds_meet : (a b : LockMode) → (Agree a b → ⊥) → (ls ms : List Want) (index : ℕ) (key : List ℕ) → Holds ls a index key → Holds ms b index key → Meet ls ms
holds_meet a b differ ls ms index key h k = record {
  lock = h.lock;
  held = h.held;
  want = k.lock;
  wanted = k.held;
  conflict = record {
    one_index = h.index_is ∙ sym k.index_is;
    common_key = (key, h.covers, k.covers);
    modes = λ g. differ (subst (λ x. Agree a x) k.mode_is (subst (λ x. Agree x k.lock.mode) h.mode_is g));
  };
}

pub holds_more : (mode : LockMode) (ls ms : List Want) (index : ℕ) (key : List ℕ) → Holds ms mode index key → Holds (ls ++ ms) mode index key
holds_more mode ls ms index key h = record { lock = h.lock; held = Contains-append_right ls ms h.lock h.held; mode_is = h.mode_is; index_is = h.index_is; covers = h.covers }

pub holds_new : (mode : LockMode) (ls ms : List Want) (index : ℕ) (key : List ℕ) → Holds ls mode index key → Holds (ls ++ ms) mode index key
holds_new mode ls ms index key h = record { lock = h.lock; held = Contains-append_left ls ms h.lock h.held; mode_is = h.mode_is; index_is = h.index_is; covers = h.covers }

pub read_more : (ls ms : List Want) (index : ℕ) (key : List ℕ) → MayRead ms index key → MayRead (ls ++ ms) index key
read_more ls ms index key (inl h) = inl (holds_more Share ls ms index key h)
read_more ls ms index key (inr h) = inr (holds_more Exclusive ls ms index key h)

pub read_meets : (ls ms : List Want) (index : ℕ) (key : List ℕ) → MayRead ls index key → Holds ms Exclusive index key → Meet ls ms
read_meets ls ms index key (inl h) k = holds_meet Share Exclusive (λ g. g) ls ms index key h k
read_meets ls ms index key (inr h) k = holds_meet Exclusive Exclusive (λ g. g) ls ms index key h k

pub read_meets_increment : (ls ms : List Want) (index : ℕ) (key : List ℕ) → MayRead ls index key → Holds ms Increment index key → Meet ls ms
read_meets_increment ls ms index key (inl h) k = holds_meet Share Increment (λ g. g) ls ms index key h k
read_meets_increment ls ms index key (inr h) k = holds_meet Exclusive Increment (λ g. g) ls ms index key h k

-- ---- which session changed a key

pub by_someone : {X P : Type 0} (q : Place) (kept : ℕ → List (Change Place X)) (n : ℕ)
    → ((s : ℕ) → IsSession n s → Touches q (kept s) → P) → (((s : ℕ) → IsSession n s → Touches q (kept s) → ⊥) → P) → P
by_someone q kept zero f g = g (λ s is t. absurd (omega arith))
by_someone q kept (suc n) f g = by_touch place_cmp_total place_cmp-IsAntisymmetric q (kept (suc n))
    (λ t. f (suc n) (omega arith, omega arith) t)
    (λ u. by_someone q kept n
    (λ s is t. f s (is.0, omega arith) t)
    (λ none. g (λ s is t. by_session s (suc n)
    (λ e. u (subst (λ x. Touches q (kept x)) e t))
    (λ d. none s (is.0, omega arith) t))))
