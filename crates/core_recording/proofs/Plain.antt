-- Acts that save no checkpoint.
use Rattle.std.specs.Prelude.{}
use Rattle.txn_machine.specs.Acts as act
use Rattle.txn_machine.specs.Acts.{Act}
use Rattle.txn_machine.specs.Answers as answer
use Rattle.txn_machine.specs.Answers.{Answer}
use Rattle.core_journal.specs.Records.{Records, Saved, GivesTo}

abbrev pub IsPlain : Act → Type 0
IsPlain act.Checkpoint = ⊥
IsPlain _ = Unit {0}

abbrev pub IsTaken : Answer → Type 0
IsTaken (answer.Saved number) = Unit {0}
IsTaken _ = ⊥

-- they give what they give, and so does a checkpoint that is not saved
pub plain_gives : (Has : Records → Type 0) (Saves : Saved → Type 0) (a : Act) (said : Answer) (rs : Records) → IsPlain a → Has rs → GivesTo Has Saves a said rs
plain_gives Has Saves act.Checkpoint said rs bad h = absurd bad
plain_gives Has Saves a said rs plain h = h

pub other_gives : (Has : Records → Type 0) (Saves : Saved → Type 0) (a : Act) (said : Answer) (rs : Records) → (IsTaken said → ⊥) → Has rs → GivesTo Has Saves a said rs
other_gives Has Saves act.Checkpoint (answer.Saved number) rs other h = absurd (other tt)
other_gives Has Saves a said rs other h = h
