use Rattle.std.proofs.Common.{◌≡◌, true, false, refl, sym, subst, ◌∙◌}
use Rattle.txn_machine.specs.Deltas.{place_of}
use Rattle.txn_machine.specs.Records.{Ghost}
use Rattle.txn_machine.specs.Store.{schema_of}
use Rattle.txn_book.specs.Acts.{answer_of}
use Rattle.log_disk.specs.Spelled.{in_bytes}
use Rattle.core_journal.specs.Records.{with_one}
use Rattle.core_recording.specs.Kept.{is_made}
use Rattle.core_recording.proofs.Made as made
use Rattle.core_recording.proofs.ghosting.give_made.Goals as goal

pub open_of-txn-requires-after_bounds : goal.open_of-txn-requires-after_bounds
open_of-txn-requires-after_bounds g c κs within =
    let u = c.requires.0 in
    let s = u.state in
    let i = c.args.session in
    let said = answer_of c.args.said.now in
    let is : is_made c.args.was_there said ≡ true = sym c.has_made-made.ensures ∙ c.if-not-made.false in
    let it = made.made_told s i u.may.0 c.args.was_there c.requires.2 said u.told.effects is u.told.says in
    made.is_open g.M.SortedMaps.maps g.M.SortedMaps.spare g.M.SortedMaps.limit s i u.may.0 said c.args.core.now u.told it

pub next_owed-requires : goal.next_owed-requires
next_owed-requires g c =
    let u = c.requires.0 in
    let s = u.state in
    let i = c.args.session in
    let said = answer_of c.args.said.now in
    let is : is_made c.args.was_there said ≡ true = sym c.has_made-made.ensures ∙ c.if-not-made.false in
    let it = made.made_told s i u.may.0 c.args.was_there c.requires.2 said u.told.effects is u.told.says in
    made.some_owed g.M.SortedMaps.maps g.M.SortedMaps.spare g.M.SortedMaps.limit s i u.may.0 said c.args.core.now u.told it c.open_of-txn.result.now c.open_of-txn.ensures

pub give-requires : goal.give-requires
give-requires g c =
    let u = c.requires.0 in
    let s = u.state in
    let i = c.args.session in
    let o = u.may.0 in
    let said = answer_of c.args.said.now in
    let is : is_made c.args.was_there said ≡ true = sym c.has_made-made.ensures ∙ c.if-not-made.false in
    let it = made.made_told s i o c.args.was_there c.requires.2 said u.told.effects is u.told.says in
    let owed = made.its_owed g.M.SortedMaps.maps g.M.SortedMaps.spare g.M.SortedMaps.limit s i o said c.args.core.now u.told it c.open_of-txn.result.now c.open_of-txn.ensures in
    let first = c.next_owed.ensures o.first o.others owed in
    let can = made.can_give g.M.SortedMaps.maps g.M.SortedMaps.spare g.M.SortedMaps.limit s i o said c.args.core.now u.told it c.short_law.ensures (g.J.Journal.limit c.args.journal.now) u.behind.same_limit u.records u.behind.used in (
      schema_of s.store,
      Ghost (place_of o.first),
      u.records,
      c.ghost_of.ensures (schema_of s.store) ∙ (λ x. in_bytes (schema_of s.store) (Ghost (place_of (first x)))),
      u.behind.has_them,
      subst (λ n. Rattle.core_recording.specs.Appending.CanAppend (g.J.Journal.limit c.args.journal.now) (schema_of s.store) n (Ghost (place_of o.first)) u.records) (sym c.requires.1) can,
    )

pub returns-then-not-made-clause-gave : goal.returns-then-not-made-clause-gave
returns-then-not-made-clause-gave g c = λ s may numbered was told rs has.
    let said = answer_of c.args.said.now in
    let is : is_made c.args.was_there said ≡ false = sym c.has_made-made.ensures ∙ c.if-not-made.true in
    subst (g.J.Journal.has c.args.journal.now) (sym (made.unmade_told s c.args.session may.0 c.args.was_there was said told.effects is told.says rs)) has

pub returns-then-not-made-clause-limit : goal.returns-then-not-made-clause-limit
returns-then-not-made-clause-limit g c = refl

pub returns-then-not-made-clause-medium : goal.returns-then-not-made-clause-medium
returns-then-not-made-clause-medium g c = refl

pub returns-clause-gave : goal.returns-clause-gave
returns-clause-gave g c = λ s may numbered was told rs has.
    let i = c.args.session in
    let o = may.0 in
    let said = answer_of c.args.said.now in
    let is : is_made c.args.was_there said ≡ true = sym c.has_made-made.ensures ∙ c.if-not-made.false in
    let it = made.made_told s i o c.args.was_there was said told.effects is told.says in
    let owed = made.its_owed g.M.SortedMaps.maps g.M.SortedMaps.spare g.M.SortedMaps.limit s i o said c.args.core.now told it c.open_of-txn.result.now c.open_of-txn.ensures in
    let first = c.next_owed.ensures o.first o.others owed in
    subst (g.J.Journal.has c.give.new.journal) ((λ x. with_one (schema_of s.store) (record { number = numbered x; of = Ghost (place_of o.first) }) rs) ∙ sym (it.gives rs))
    (c.give.ensures.has (schema_of s.store) (Ghost (place_of o.first)) rs (c.ghost_of.ensures (schema_of s.store) ∙ (λ x. in_bytes (schema_of s.store) (Ghost (place_of (first x))))) has)

pub returns-clause-limit : goal.returns-clause-limit
returns-clause-limit g c = c.give.ensures.limit

pub returns-clause-medium : goal.returns-clause-medium
returns-clause-medium g c = c.give.ensures.medium
