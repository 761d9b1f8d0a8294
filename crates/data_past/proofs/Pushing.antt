-- Versions pushed one after another.
use Rattle.std.specs.Prelude.{◌≡◌, ◌≤◌, ◌+◌, ℕ, suc, nat_lt, true, false, cond, List, [], ◌∷◌, ◌++◌, length, reverse}
use mathlib.Core.Path.{refl, sym, ap, ◌∙◌}
use Rattle.std.proofs.Common.{arith}
use Rattle.std.proofs.lemmas.List.{reverse-append}
use Rattle.std.specs.Ordering.{is_lt}
use Rattle.version_chain.specs.Versions.{moment_cmp, Version, number, with_version}
use Rattle.version_chain.specs.Chains.{pushed}
use Rattle.data_past.specs.Moves.{pushed_all}

with_long : {V : Type 0} (v : Version V) (vs : List (Version V)) → length (with_version v vs) ≡ suc (length vs)
with_long v [] = refl
with_long v (w ∷ ws) = elim (is_lt (moment_cmp v.0 w.0)) as (λ b. length (cond b (v ∷ w ∷ ws) (w ∷ with_version v ws)) ≡ suc (suc (length ws))) [ true ↦ refl | false ↦ ap suc (with_long v ws) ]

pub pushed_long : {V : Type 0} (v : Version V) (mark : ℕ) (vs : List (Version V)) → length (pushed v mark vs) ≤ suc (length vs)
pushed_long v mark vs = elim (nat_lt mark (number v)) as (λ b. length (cond b (with_version v vs) vs) ≤ suc (length vs)) [ true ↦ (let e = with_long v vs in omega (arith, e)) | false ↦ omega arith ]

module _ {A V : Type 0} (f : A → Version V) where
  -- the last of a list is pushed first
  pub push_next : (xs rest : List A) (x : A) (mark : ℕ) (old new whole : List (Version V)) → xs ≡ rest ++ x ∷ [] → new ≡ pushed (f x) mark old → pushed_all f (reverse xs) mark old ≡ whole → pushed_all f (reverse rest) mark new ≡ whole
  push_next xs rest x mark old new whole is here told =
      ap (pushed_all f (reverse rest) mark) here
      ∙ (sym (ap (λ (l : List A). pushed_all f l mark old) (ap reverse is ∙ reverse-append rest (x ∷ []))) ∙ told)

  pub room_next : (xs rest : List A) (x : A) (mark room after : ℕ) (old new : List (Version V)) → xs ≡ rest ++ x ∷ [] → new ≡ pushed (f x) mark old → length xs ≤ room → length xs ≡ suc (length rest) → after + length new ≡ room + length old → length rest ≤ after
  room_next xs rest x mark room after old new is here fits more same =
      let long = pushed_long (f x) mark old in
      let count : length new ≡ length (pushed (f x) mark old) = ap (λ (l : List (Version V)). length l) here in
      omega (arith, long, count, fits, more, same)
