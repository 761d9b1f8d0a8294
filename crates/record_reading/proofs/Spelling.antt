-- A change and its Write in the log.
use Rattle.std.proofs.Common.{◌≡◌, ℕ, List, Option, sym, ap, ◌∙◌}
use Rattle.table_laws.specs.Place.{Place}
use Rattle.log_records.specs.declared.record.Record.TheVariants.{Write}
use Rattle.log_disk.specs.Spelled.{row_in}
use Rattle.record_reading.specs.Laws.{WriteLaw}

record AreSame (table other : ℕ) (key own : List ℕ) (before was after becomes : Option (List ℕ)) : Type 0 where
  table_is : table ≡ other
  key_is : key ≡ own
  before_is : before ≡ was
  after_is : after ≡ becomes

fields : (t table other : ℕ) (key own : List ℕ) (before was after becomes : Option (List ℕ)) → Write t table key before after ≡ Write t other own was becomes → AreSame table other key own before was after becomes
fields t table other key own before was after becomes e = record { table_is = cc; key_is = cc; before_is = cc; after_is = cc }

pub write_law : WriteLaw
write_law objects transaction place before after c = (
  (λ h. let at : place ≡ c.key = sym h.place_is in
      λ i. Write transaction (at i).0 (at i).1 ((h.was ∙ ap (λ (p : Place). row_in objects p c.before) at) i) ((h.becomes ∙ ap (λ (p : Place). row_in objects p c.after) at) i)),
  (λ e.
      let same : AreSame place.0 c.key.0 place.1 c.key.1 before (row_in objects c.key c.before) after (row_in objects c.key c.after) =
      fields transaction place.0 c.key.0 place.1 c.key.1 before (row_in objects c.key c.before) after (row_in objects c.key c.after) e in
      let at : c.key ≡ place = λ i. (sym same.table_is i, sym same.key_is i) in
      record { place_is = at; was = same.before_is ∙ ap (λ (p : Place). row_in objects p c.before) at; becomes = same.after_is ∙ ap (λ (p : Place). row_in objects p c.after) at }),
)
