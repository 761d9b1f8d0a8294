-- What a session may read by its locks is what is committed, with its own changes; and all that it was told is so.
use Rattle.std.specs.Prelude.{Option}
use Rattle.std.proofs.lemmas.List.Elements.{All-from_recursion}
use mathlib.Core.Path.{sym, ap, subst, ◌∙◌}
use Rattle.iv_meaning.specs.History.{state_at}
use Rattle.txn_machine.specs.Keeping.{changes_of, Open}
use Rattle.txn_machine.specs.Fresh.{fresh}
use Rattle.txn_machine.specs.Ghosts.{the_views}
use Rattle.txn_machine.specs.Store.{committed}
use Rattle.txn_machine.specs.Alone.{IsTrueIn}
use Rattle.txn_machine.specs.KeptLaws.{OwnRowsLaw, ToldLaw}
use Rattle.txn_machine.proofs.Good.{the_open, read_at}
use Rattle.txn_machine.proofs.Looking.{view_laws}
use Rattle.txn_machine.proofs.Telling.{NoteFor, NoteOf}
use Rattle.txn_machine.proofs.Stories.{notes_true, story_reached}
use Rattle.txn_machine.proofs.Reached.{reached}

pub own_rows_law : OwnRowsLaw
own_rows_law s r i is number key may = read_at the_views fresh view_laws (committed s.store) s.store (reached s r) i is number key may

pub told_law : ToldLaw
told_law story r i o =
    let s = story.state.store in
    let g = story_reached story r in
    let note : NoteFor s.origin s.history o.transaction (story.told i) = subst (λ (x : Option Open). NoteOf s.origin s.history x (story.told i)) o.is_open (g.noted i o.of_session) in (
      λ m.
          let told = note.serial m in (
            All-from_recursion (IsTrueIn (committed s)) (story.told i) (notes_true (committed s) o.transaction.locks (story.told i) told.notes),
            told.trace ∙ sym (ap (λ (x : Option Open). changes_of (the_open x).kept) o.is_open),
          ),
      λ m.
          let told = note.snapshot m in (
            All-from_recursion (IsTrueIn (state_at s.origin s.history o.transaction.number)) (story.told i) told.notes,
            ap (λ (x : Option Open). changes_of (the_open x).kept) o.is_open ∙ ap changes_of told.nothing,
          ),
    )
