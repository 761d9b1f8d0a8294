-- What is read as a record is spelled so, and what is spelled so is read.
use Rattle.std.proofs.Common.{◌≡◌, ℕ, ◌+◌, ◌-◌, ◌%◌, ◌^◌, ◌<◌, ◌≤◌, ◌⊎◌, Bool, true, false, cond, eqb, List, ◌∷◌, ◌++◌, length, Option, Some, None, refl, sym, ap, subst, ◌∙◌, append_assoc, arith, inl, inr, length-append}
use Rattle.std.specs.Int.{w8}
use Rattle.std.proofs.Math.Nat.{mod-eq_of_lt}
use Rattle.std.proofs.lemmas.Bool.{eqb-true}
use Rattle.byteorder.specs.Endian.{big_bytes}
use Rattle.log_records.specs.declared.record.Record.{Record}
use Rattle.log_records.specs.declared.record.Record.TheVariants.{Write, Delta, Ghost, Clean, Undo, Commit, Abort, Schema}
use Rattle.log_records.specs.declared.record.Scanned.{Scanned}
use Rattle.log_records.specs.Spelling.{kind_of, fields, spelling, Fits}
use Rattle.log_records.specs.Reading.{◌>>=◌, number_at, made, write_at, delta_at, ghost_at, clean_at, undo_at, commit_at, abort_at, schema_at, fields_at, record_at}
use Rattle.iv_types.proofs.ByteNumbers.{IsBytes}
use Rattle.log_records.proofs.FieldLaws.{bind_some, some_is, Takes, Takes-then, IsField, number_field, string_field, optional_field, signed_field, numbers_field, both_field}

-- a reader reads just the fields of records of this kind
record IsKind (kind : ℕ) (read : List ℕ → Option (Record × List ℕ)) : Type 0 where
  takes : (bytes : List ℕ) (e : Record) (rest : List ℕ) → IsBytes bytes → read bytes ≡ Some (e, rest) → Takes bytes (fields e) rest × Fits e × (kind_of e ≡ kind)

made_kind : {A : Type 0} {read : List ℕ → Option (A × List ℕ)} {text : A → List ℕ} {fits : A → Type 0} (field : IsField read text fits) (make : A → Record) (kind : ℕ)
    → ((x : A) → text x ≡ fields (make x)) → ((x : A) → fits x → Fits (make x)) → ((x : A) → kind_of (make x) ≡ kind) → IsKind kind (made make read)
made_kind {read = read} field make kind text_is fits_is kind_is = record {
  takes = λ bytes e rest fits is.
      let x = bind_some (read bytes) (λ a. Some (make a.0, a.1)) (e, rest) is in
      let t = field.takes bytes x.0.0 x.0.1 fits x.1 in
      let one : Record × List ℕ = (make x.0.0, x.0.1) in
      subst (λ (y : Record × List ℕ). Takes bytes (fields y.0) y.1 × Fits y.0 × (kind_of y.0 ≡ kind)) (some_is one (e, rest) x.2)
      (subst (λ (l : List ℕ). Takes bytes l x.0.1) (text_is x.0.0) t.0, fits_is x.0.0 t.1, kind_is x.0.0);
}

made_again : {A : Type 0} {read : List ℕ → Option (A × List ℕ)} {text : A → List ℕ} {fits : A → Type 0} (field : IsField read text fits) (make : A → Record) (x : A) (rest : List ℕ) → fits x → made make read (text x ++ rest) ≡ Some (make x, rest)
made_again field make x rest fits = ap (λ r. r >>= λ a. Some (make a.0, a.1)) (field.again x rest fits)

write_kind : IsKind 1 write_at
unfolding write_at
write_kind = made_kind (both_field (number_field 8) (both_field (number_field 4) (both_field (string_field 2) (both_field optional_field optional_field)))) (λ x. Write x.0 x.1.0 x.1.1.0 x.1.1.1.0 x.1.1.1.1) 1 (λ x. refl) (λ x f. f) (λ x. refl)

delta_kind : IsKind 2 delta_at
unfolding delta_at
delta_kind = made_kind (both_field (number_field 8) (both_field (number_field 4) (both_field (string_field 2) (both_field (signed_field w8 refl) numbers_field)))) (λ x. Delta x.0 x.1.0 x.1.1.0 x.1.1.1.0 x.1.1.1.1) 2 (λ x. refl) (λ x f. f) (λ x. refl)

ghost_kind : IsKind 3 ghost_at
unfolding ghost_at
ghost_kind = made_kind (both_field (number_field 4) (string_field 2)) (λ x. Ghost x.0 x.1) 3 (λ x. refl) (λ x f. f) (λ x. refl)

clean_kind : IsKind 4 clean_at
unfolding clean_at
clean_kind = made_kind (both_field (number_field 4) (string_field 2)) (λ x. Clean x.0 x.1) 4 (λ x. refl) (λ x f. f) (λ x. refl)

undo_kind : IsKind 5 undo_at
unfolding undo_at
undo_kind = made_kind (both_field (number_field 8) (number_field 8)) (λ x. Undo x.0 x.1) 5 (λ x. refl) (λ x f. f) (λ x. refl)

commit_kind : IsKind 6 commit_at
unfolding commit_at
commit_kind = made_kind (both_field (number_field 8) (both_field (number_field 8) (number_field 4))) (λ x. Commit x.0 x.1.0 x.1.1) 6 (λ x. refl) (λ x f. f) (λ x. refl)

abort_kind : IsKind 7 abort_at
unfolding abort_at
abort_kind = made_kind (number_field 8) (λ x. Abort x) 7 (λ x. refl) (λ x f. f) (λ x. refl)

schema_kind : IsKind 8 schema_at
unfolding schema_at
schema_kind = made_kind (both_field (number_field 8) (both_field (number_field 4) (string_field 4))) (λ x. Schema x.0 x.1.0 x.1.1) 8 (λ x. refl) (λ x f. f) (λ x. refl)

chosen : {A : Type 0} (b : Bool) (x y z : A) → cond b x y ≡ z → ((b ≡ true) × (x ≡ z)) ⊎ ((b ≡ false) × (y ≡ z))
chosen true x y z is = inl (refl, is)
chosen false x y z is = inr (refl, is)

kind_fits : (e : Record) → kind_of e < 256
kind_fits (Write transaction table key before after) = omega arith
kind_fits (Delta transaction view group count sums) = omega arith
kind_fits (Ghost view group) = omega arith
kind_fits (Clean view group) = omega arith
kind_fits (Undo transaction number) = omega arith
kind_fits (Commit transaction commit session) = omega arith
kind_fits (Abort transaction) = omega arith
kind_fits (Schema commit session text) = omega arith

-- the fields of a record of this kind, and what is behind them
record Read (kind : ℕ) (bytes : List ℕ) (e : Record) (rest : List ℕ) : Type 0 where
  taken : Takes bytes (fields e) rest
  small : Fits e
  kind_is : kind_of e ≡ kind

one_of : (kind k : ℕ) (read : List ℕ → Option (Record × List ℕ)) (other : Option (Record × List ℕ)) (bytes : List ℕ) (e : Record) (rest : List ℕ) → IsKind k read → IsBytes bytes
    → (other ≡ Some (e, rest) → Read kind bytes e rest) → cond (eqb kind k) (read bytes) other ≡ Some (e, rest) → Read kind bytes e rest
one_of kind k read other bytes e rest reads fits otherwise is =
    elim (chosen (eqb kind k) (read bytes) other (Some (e, rest)) is) [
      | inl here ↦
          let t = reads.takes bytes e rest fits here.1 in
          record { taken = t.0; small = t.1; kind_is = t.2 ∙ sym (eqb-true kind k here.0) }
      | inr there ↦ otherwise there.1
    ]

fields_take : (kind : ℕ) (bytes : List ℕ) (e : Record) (rest : List ℕ) → IsBytes bytes → fields_at kind bytes ≡ Some (e, rest) → Read kind bytes e rest
unfolding fields_at
fields_take kind bytes e rest fits is =
    one_of kind 1 write_at _ bytes e rest write_kind fits (
    one_of kind 2 delta_at _ bytes e rest delta_kind fits (
    one_of kind 3 ghost_at _ bytes e rest ghost_kind fits (
    one_of kind 4 clean_at _ bytes e rest clean_kind fits (
    one_of kind 5 undo_at _ bytes e rest undo_kind fits (
    one_of kind 6 commit_at _ bytes e rest commit_kind fits (
    one_of kind 7 abort_at _ bytes e rest abort_kind fits (
    one_of kind 8 schema_at None bytes e rest schema_kind fits (λ none. absurd (nothing none)))))))))
    is
  where
    nothing : {A : Type 0} {x : A} → None ≡ Some x → ⊥
    nothing none = cc

fields_again : (e : Record) (rest : List ℕ) → Fits e → fields_at (kind_of e) (fields e ++ rest) ≡ Some (e, rest)
unfolding fields_at write_at delta_at ghost_at clean_at undo_at commit_at abort_at schema_at
fields_again (Write transaction table key before after) rest fits = made_again (both_field (number_field 8) (both_field (number_field 4) (both_field (string_field 2) (both_field optional_field optional_field)))) (λ x. Write x.0 x.1.0 x.1.1.0 x.1.1.1.0 x.1.1.1.1) (transaction, (table, (key, (before, after)))) rest fits
fields_again (Delta transaction view group count sums) rest fits = made_again (both_field (number_field 8) (both_field (number_field 4) (both_field (string_field 2) (both_field (signed_field w8 refl) numbers_field)))) (λ x. Delta x.0 x.1.0 x.1.1.0 x.1.1.1.0 x.1.1.1.1) (transaction, (view, (group, (count, sums)))) rest fits
fields_again (Ghost view group) rest fits = made_again (both_field (number_field 4) (string_field 2)) (λ x. Ghost x.0 x.1) (view, group) rest fits
fields_again (Clean view group) rest fits = made_again (both_field (number_field 4) (string_field 2)) (λ x. Clean x.0 x.1) (view, group) rest fits
fields_again (Undo transaction number) rest fits = made_again (both_field (number_field 8) (number_field 8)) (λ x. Undo x.0 x.1) (transaction, number) rest fits
fields_again (Commit transaction commit session) rest fits = made_again (both_field (number_field 8) (both_field (number_field 8) (number_field 4))) (λ x. Commit x.0 x.1.0 x.1.1) (transaction, (commit, session)) rest fits
fields_again (Abort transaction) rest fits = made_again (number_field 8) (λ x. Abort x) transaction rest fits
fields_again (Schema commit session text) rest fits = made_again (both_field (number_field 8) (both_field (number_field 4) (string_field 4))) (λ x. Schema x.0 x.1.0 x.1.1) (commit, (session, text)) rest fits

-- a record was read from the front of these bytes
pub record IsScanned (place : ℕ) (bytes : List ℕ) (s : Scanned) (rest : List ℕ) : Type 0 where
  pub taken : Takes bytes (spelling s.number s.entry) rest
  pub small : Fits s.entry
  pub numbered : s.number < 2 ^ 64
  pub place_is : s.place ≡ place
  pub end_is : s.end ≡ place + (length bytes - length rest)

pub record_takes : (place : ℕ) (bytes : List ℕ) (s : Scanned) (rest : List ℕ) → IsBytes bytes → record_at place bytes ≡ Some (s, rest) → IsScanned place bytes s rest
unfolding record_at
record_takes place bytes s rest fits is =
    let a = bind_some (number_at 1 bytes) (λ kind. number_at 8 kind.1 >>= λ number. fields_at kind.0 number.1 >>= λ entry. Some (record { place = place; end = place + (length bytes - length entry.1); number = number.0; entry = entry.0 }, entry.1)) (s, rest) is in
    let b = bind_some (number_at 8 a.0.1) (λ number. fields_at a.0.0 number.1 >>= λ entry. Some (record { place = place; end = place + (length bytes - length entry.1); number = number.0; entry = entry.0 }, entry.1)) (s, rest) a.2 in
    let c = bind_some (fields_at a.0.0 b.0.1) (λ entry. Some (record { place = place; end = place + (length bytes - length entry.1); number = b.0.0; entry = entry.0 }, entry.1)) (s, rest) b.2 in
    let kind = (number_field 1).takes bytes a.0.0 a.0.1 fits a.1 in
    let number = (number_field 8).takes a.0.1 b.0.0 b.0.1 kind.0.rest_fits b.1 in
    let entry = fields_take a.0.0 b.0.1 c.0.0 c.0.1 number.0.rest_fits c.1 in
    let numbered = Takes-then a.0.1 (big_bytes 8 b.0.0) b.0.1 (fields c.0.0) c.0.1 number.0 entry.taken in
    let whole = Takes-then bytes (big_bytes 1 a.0.0) a.0.1 (big_bytes 8 b.0.0 ++ fields c.0.0) c.0.1 kind.0 numbered in
    let byte : a.0.0 % 256 ≡ kind_of c.0.0 = mod-eq_of_lt kind.1 ∙ sym entry.kind_is in
    let made : Scanned × List ℕ = (record { place = place; end = place + (length bytes - length c.0.1); number = b.0.0; entry = c.0.0 }, c.0.1) in
    subst (λ (y : Scanned × List ℕ). IsScanned place bytes y.0 y.1) (some_is made (s, rest) c.2)
    (record {
      taken = subst (λ (k : ℕ). Takes bytes (k ∷ (big_bytes 8 b.0.0 ++ fields c.0.0)) c.0.1) byte whole;
      small = entry.small;
      numbered = number.1;
      place_is = refl;
      end_is = refl;
    })

-- where a record is spelled, it is read
abbrev pub scanned_at : ℕ → ℕ → Record → Scanned
scanned_at place number e = record { place = place; end = place + length (spelling number e); number = number; entry = e }

pub record_again : (place number : ℕ) (e : Record) (rest : List ℕ) → number < 2 ^ 64 → Fits e → record_at place (spelling number e ++ rest) ≡ Some (scanned_at place number e, rest)
unfolding record_at
record_again place number e rest lt fits =
    let bytes = spelling number e ++ rest in
    let grouped : spelling number e ++ rest ≡ kind_of e ∷ (big_bytes 8 number ++ (fields e ++ rest)) = ap (λ (l : List ℕ). kind_of e ∷ l) (append_assoc (big_bytes 8 number) (fields e) rest) in
    let kind : number_at 1 bytes ≡ Some (kind_of e, big_bytes 8 number ++ (fields e ++ rest)) = ap (number_at 1) (grouped ∙ ap (λ (k : ℕ). k ∷ (big_bytes 8 number ++ (fields e ++ rest))) (sym (mod-eq_of_lt (kind_fits e)))) ∙ (number_field 1).again (kind_of e) (big_bytes 8 number ++ (fields e ++ rest)) (kind_fits e) in
    let size : length bytes - length rest ≡ length (spelling number e) = omega (arith, length-append (spelling number e) rest) in
    ap (λ r. r >>= λ kind. number_at 8 kind.1 >>= λ number. fields_at kind.0 number.1 >>= λ entry. Some (record { place = place; end = place + (length bytes - length entry.1); number = number.0; entry = entry.0 }, entry.1)) kind
    ∙ ap (λ r. r >>= λ number. fields_at (kind_of e) number.1 >>= λ entry. Some (record { place = place; end = place + (length bytes - length entry.1); number = number.0; entry = entry.0 }, entry.1)) ((number_field 8).again number (fields e ++ rest) lt)
    ∙ ap (λ r. r >>= λ entry. Some (record { place = place; end = place + (length bytes - length entry.1); number = number; entry = entry.0 }, entry.1)) (fields_again e rest fits)
    ∙ ap (λ (k : ℕ). Some (record { place = place; end = place + k; number = number; entry = e }, rest)) size

-- what is behind a record is shorter
pub shrinks : (bytes one two rest : List ℕ) (kind number : ℕ) (e : Record) → IsBytes bytes → number_at 1 bytes ≡ Some (kind, one) → number_at 8 one ≡ Some (number, two) → fields_at kind two ≡ Some (e, rest) → length rest ≤ length bytes
shrinks bytes one two rest kind number e fits a b c =
    let k = (number_field 1).takes bytes kind one fits a in
    let n = (number_field 8).takes one number two k.0.rest_fits b in
    let f = fields_take kind two e rest n.0.rest_fits c in
    omega (arith, ap length k.0.parts, ap length n.0.parts, ap length f.taken.parts, length-append (big_bytes 1 kind) one, length-append (big_bytes 8 number) two, length-append (fields e) rest)
