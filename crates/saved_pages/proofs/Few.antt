-- What texts make is within the limits: no object has a number above 192.
use Rattle.std.proofs.Common.{◌≡◌, ℕ, zero, suc, ◌≤◌, List, [], ◌∷◌, ◌++◌, length, Some, Ok, subst, sym, arith}
use Rattle.std.proofs.lemmas.Option.{none-some, slice_get_within}
use Rattle.iv_types.specs.Maps.{last_index}
use Rattle.iv_types.specs.Syntax.{StatementTree}
use Rattle.iv_meaning.specs.Schema.{Schema, Object, numbered}
use Rattle.iv_meaning.specs.Binding.{bind}
use Rattle.iv_meaning.specs.Database.{Database, created}
use Rattle.iv_meaning.specs.Statement.{create}
use Rattle.query_laws.specs.Limited.{IsLimited}
use Rattle.query_laws.proofs.LimitedLemmas.{limited_law, numbers_law}
use Rattle.txn_machine.specs.ViewLaws.{AreSound}
use Rattle.txn_machine.proofs.Creating.{creates_sound}
use Rattle.txn_log.specs.Stored.{AllCreate}
use Rattle.log_disk.proofs.Building.{none_sound}

-- a database without rows
abbrev without_rows : Schema → Database
without_rows objects = record { number = 0; schema = objects; rows = created.rows }

-- what texts make is sound and within the limits
record StandSo (objects : Schema) : Type 0 where
  sound : AreSound objects created.rows
  limited : IsLimited objects

one_more : (objects : Schema) (statement : StatementTree) (o : Object) → StandSo objects → bind objects statement ≡ Ok (create o) → StandSo (objects ++ o ∷ [])
one_more objects statement o so e = record {
  sound = creates_sound (without_rows objects) statement o so.sound e;
  limited = limited_law (without_rows objects) (record { objects = so.sound.objects; rows = so.sound.rows }) so.limited statement o e;
}

all_more : (objects : Schema) (texts : List (List ℕ)) (all : Schema) → StandSo objects → AllCreate objects texts all → StandSo all
all_more objects [] all so h = subst StandSo (sym h) so
all_more objects (text ∷ texts) all so h = all_more (objects ++ h.0 ∷ []) texts all (one_more objects h.1.0 h.0 so h.1.2) h.2

few_made : (texts : List (List ℕ)) (objects : Schema) → AllCreate [] texts objects → length objects ≤ 192
few_made texts objects h = numbers_law.1 objects (all_more [] texts objects (record { sound = none_sound; limited = numbers_law.0 }) h).limited

low_number : (objects : Schema) (n : ℕ) (o : Object) → length objects ≤ 192 → numbered objects n ≡ Some o → n ≤ last_index
low_number objects zero o few is = absurd (none-some o is)
low_number objects (suc n) o few is = let within = slice_get_within objects n o is in omega (arith, few, within)

pub low_made : (texts : List (List ℕ)) (objects : Schema) → AllCreate [] texts objects → (n : ℕ) (o : Object) → numbered objects n ≡ Some o → n ≤ last_index
low_made texts objects h n o is = low_number objects n o (few_made texts objects h) is
