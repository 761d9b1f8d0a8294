-- The least number of an open snapshot, session by session.
use Rattle.std.specs.Prelude.{◌≡◌, ℕ, zero, suc, ◌≤◌, nat_le, true, false, cond, List, Option, None, Some}
use mathlib.Core.Path.{refl, ap, ◌∙◌}
use Rattle.std.proofs.Common.{arith}
use Rattle.iv_types.specs.declared.statement.Mode.{Mode}
use Rattle.iv_types.specs.declared.statement.Mode.TheVariants.{Serial, Snapshot}
use Rattle.iv_meaning.specs.Schema.{Schema}
use Rattle.iv_meaning.specs.Escrow.{IsSession}
use Rattle.txn_machine.specs.Keeping.{Open}
use Rattle.txn_machine.specs.Log.{Logged}
use Rattle.txn_machine.specs.Store.{least_snapshot}
use Rattle.txn_book.specs.Opens.{open_at}
use Rattle.txn_book.specs.Holding.{IsSame}
use Rattle.txn_book.specs.Books as books
use Rattle.txn_book.specs.declared.open_table.Open.{Open as BookOpen}

abbrev pub of_mode : (ℕ → Option Open) → ℕ → ℕ → ℕ → Mode → ℕ
of_mode open_of n number own m = elim m as (λ (m : Mode). ℕ) [
  | Serial ↦ least_snapshot open_of n number
  | Snapshot ↦ cond (nat_le own number) (least_snapshot open_of n own) (least_snapshot open_of n number)
]

-- of the sessions up to the one after n, which has this transaction
abbrev pub of_open : (ℕ → Option Open) → ℕ → ℕ → Option Open → ℕ
of_open open_of n number o = elim o as (λ (o : Option Open). ℕ) [
  | None ↦ least_snapshot open_of n number
  | Some o ↦ of_mode open_of n number o.number o.mode
]

-- no less than a mark below all of them
pub least_above : (open_of : ℕ → Option Open) (mark n number : ℕ) → mark ≤ number
    → ((j : ℕ) → 1 ≤ j → j ≤ n → (o : Open) → open_of j ≡ Some o → o.mode ≡ Snapshot → mark ≤ o.number) → mark ≤ least_snapshot open_of n number
least_above open_of mark zero number le each = le
least_above open_of mark (suc n) number le each = go (λ k l. least_above open_of mark n k l (λ j low high. each j low (omega (arith, high)))) (open_of (suc n)) refl
  where
    go : ((k : ℕ) → mark ≤ k → mark ≤ least_snapshot open_of n k) → (o : Option Open) → open_of (suc n) ≡ o → mark ≤ of_open open_of n number o
    go rest None e = rest number le
    go rest (Some o) e = elim o.mode as (λ (m : Mode). o.mode ≡ m → mark ≤ of_mode open_of n number o.number m) [
      | Serial ↦ λ x. rest number le
      | Snapshot ↦ λ x. elim (nat_le o.number number) as (λ b. mark ≤ cond b (least_snapshot open_of n o.number) (least_snapshot open_of n number)) [
        | true ↦ rest o.number (each (suc n) (omega arith) (omega arith) o e x)
        | false ↦ rest number le
      ]
    ] refl

-- ---- in a book

abbrev by_mode : List (Option BookOpen) → ℕ → ℕ → ℕ → Mode → ℕ
by_mode opens n number own m = elim m as (λ (m : Mode). ℕ) [
  | Serial ↦ books.least_snapshot opens n number
  | Snapshot ↦ cond (nat_le own number) (books.least_snapshot opens n own) (books.least_snapshot opens n number)
]

abbrev in_book : List (Option BookOpen) → ℕ → ℕ → Option BookOpen → ℕ
in_book opens n number o = elim o as (λ (o : Option BookOpen). ℕ) [
  | None ↦ books.least_snapshot opens n number
  | Some o ↦ by_mode opens n number o.number o.mode
]

module _ (objects : Schema) (opens : List (Option BookOpen)) (open_of : ℕ → Option Open) (logged : ℕ → Logged) (same : (j : ℕ) → IsSession j → IsSame objects (open_at opens j) (open_of j) (logged j)) where
  modes : (n number own : ℕ) (m : Mode) → ((k : ℕ) → books.least_snapshot opens n k ≡ least_snapshot open_of n k) → by_mode opens n number own m ≡ of_mode open_of n number own m
  modes n number own Serial rest = rest number
  modes n number own Snapshot rest = elim (nat_le own number) as (λ b. cond b (books.least_snapshot opens n own) (books.least_snapshot opens n number) ≡ cond b (least_snapshot open_of n own) (least_snapshot open_of n number)) [
    | true ↦ rest own
    | false ↦ rest number
  ]

  one_more : (n number : ℕ) (b : Option BookOpen) (o : Option Open) → ((k : ℕ) → books.least_snapshot opens n k ≡ least_snapshot open_of n k) → IsSame objects b o (logged (suc n)) → in_book opens n number b ≡ of_open open_of n number o
  one_more n number None None rest h = rest number
  one_more n number None (Some o) rest h = absurd h
  one_more n number (Some b) None rest h = absurd h
  one_more n number (Some b) (Some o) rest h = ap (λ k. by_mode opens n number k b.mode) h.number ∙ (modes n number o.number b.mode rest ∙ ap (of_mode open_of n number o.number) h.mode)

  -- a book that has the transactions has the same number
  pub least_in_book : (n number : ℕ) → n ≤ 64 → books.least_snapshot opens n number ≡ least_snapshot open_of n number
  least_in_book zero number few = refl
  least_in_book (suc n) number few = one_more n number (open_at opens (suc n)) (open_of (suc n)) (λ k. least_in_book n k (omega (arith, few))) (same (suc n) (omega arith, few))
