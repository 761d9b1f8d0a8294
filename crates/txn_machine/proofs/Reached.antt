-- What holds in every state that steps lead to.
use Rattle.std.specs.Prelude.{◌≡◌, ℕ, cond, true, List, [], ◌∷◌, ◌++◌, pos, ◌+ℤ◌, Option, Some, None, is_some}
use Rattle.std.specs.List.{AllByRecursion}
use Rattle.std.proofs.lemmas.List.Elements.{recursion_from_All}
use mathlib.Core.Path.{refl, sym, ap, ◌∙◌}
use mathlib.Core.Logic.{inl, inr}
use Rattle.std.proofs.Common.{arith}
use Rattle.std.proofs.lemmas.Int.{ints}
use Rattle.iv_types.specs.Encoding.{IsHuge}
use Rattle.iv_types.specs.declared.refusal.Refusal.TheVariants.{NumberRange}
use Rattle.table_laws.specs.Place.{Place}
use Rattle.table_laws.specs.Kept.{redo, redo_all}
use Rattle.table_laws.proofs.Kept.{stored_back}
use Rattle.table_laws.proofs.Place.{place_cmp_total, place_cmp-IsAntisymmetric}
use Rattle.iv_meaning.specs.Schema.{Object, table, index, view, ViewTree}
use Rattle.iv_meaning.specs.Database.{Row, Rows, Database}
use Rattle.iv_meaning.specs.View.{whole_view}
use Rattle.iv_meaning.specs.Statement.{Kept, defines, Refused, Accepted, create_meaning}
use Rattle.iv_meaning.specs.Escrow.{IsSession, over_sessions, paid, lo}
use Rattle.txn_machine.specs.Deltas.{due, worth}
use Rattle.txn_machine.specs.Keeping.{KeptStep, Put, Pay, increments}
use Rattle.txn_machine.specs.Stored.{stored_number}
use Rattle.txn_machine.specs.Fresh.{fresh, made_of}
use Rattle.txn_machine.specs.Store.{Store, committed, schema_of, now, changes_by}
use Rattle.txn_machine.specs.Ghosts.{the_views}
use Rattle.txn_machine.specs.Steps.{NoneIsOpen}
use Rattle.txn_machine.specs.State.{State}
use Rattle.txn_machine.specs.ViewLaws.{AreSound}
use Rattle.txn_machine.specs.Laws.{IsReached, CommittedLaw, SoundLaw, StoredLaw, ShareLaw, BoundsLaw, LocksLaw, AbsentLaw}
use Rattle.txn_machine.proofs.Columns.{is_for_other, number_in_row, paid_in, owes_in, settled_sum}
use Rattle.txn_machine.proofs.Bounds.{over_zero}
use Rattle.txn_machine.proofs.Entered.{sound_redo}
use Rattle.txn_machine.proofs.Good.{the_open, PaysOn, value-redo, base_sound, all_lo}
use Rattle.txn_machine.proofs.Keeps.{shift}
use Rattle.txn_machine.proofs.Runs.{IsGood, opened_good}
use Rattle.txn_machine.proofs.Stepping.{MayDefine, run_good}
use Rattle.txn_machine.proofs.Looking.{view_laws}
use Rattle.txn_machine.proofs.Ranging.{range_law}
use Rattle.txn_machine.proofs.Creating.{creates_sound}

abbrev pub Holds' : Store → Type 0
Holds' = IsGood the_views fresh view_laws

-- without open transactions the stored numbers are those of the view afresh, and are in range
committed_in_range : (s : Store) → Holds' s → NoneIsOpen s → (p : Place) (column : ℕ) → IsHuge (fresh (schema_of s) (committed s).rows p column)
committed_in_range s g none p column =
    let zero_lo : all_lo the_views fresh view_laws s.open_of p column ≡ pos 0 = over_zero (λ j. lo (increments p column (now s j).kept)) (λ j js. ap (λ (o : Option _). lo (increments p column (the_open o).kept)) (none j js)) in
    shift (fresh (schema_of s) (committed s).rows p column +ℤ all_lo the_views fresh view_laws s.open_of p column) (fresh (schema_of s) (committed s).rows p column) (g.low p column) (omega (arith, ints))

accepted_rows : (v : ViewTree) (db : Database) (count : ℕ) (kept : List Kept) → create_meaning (view v) db ≡ Accepted [] count kept → is_some (whole_view db.schema db.rows v) ≡ true
accepted_rows v db count kept e = go (whole_view db.schema db.rows v) e
  where
    go : (o : Option (List Row)) → cond (is_some o) (Accepted [] 0 (defines (view v) ∷ [])) (Refused NumberRange) ≡ Accepted [] count kept → is_some o ≡ true
    go None e = absurd (cc)
    go (Some rows) e = refl

same_number : (s : Store) (p : Place) (column : ℕ) (o : Object) → Holds' s → AreSound (schema_of s ++ o ∷ []) (committed s).rows → due p column (made_of (schema_of s ++ o ∷ []) (committed s).rows o) ≡ pos 0
    → fresh (schema_of s ++ o ∷ []) (committed s).rows p column ≡ fresh (schema_of s) (committed s).rows p column
same_number s p column o g sound none =
    let made : fresh (schema_of s ++ o ∷ []) (committed s).rows p column ≡ fresh (schema_of s) (committed s).rows p column +ℤ due p column (made_of (schema_of s ++ o ∷ []) (committed s).rows o) =
    view_laws.made (schema_of s) (committed s).rows o (base_sound the_views fresh view_laws (committed s) s g) sound p column in
    omega (arith, ints)

pub may_define : MayDefine view_laws
may_define s statement (view v) g makes none count kept accepted =
    let sound : AreSound (schema_of s ++ view v ∷ []) (committed s).rows = creates_sound (committed s) statement (view v) (base_sound the_views fresh view_laws (committed s) s g) makes.bound in
    record {
      none_open = none;
      sound = sound;
      in_range = range_law (committed s) v (base_sound the_views fresh view_laws (committed s) s g) sound (accepted_rows v (committed s) count kept accepted) (committed_in_range s g none);
    }
may_define s statement (table t) g makes none count kept accepted =
    let sound : AreSound (schema_of s ++ table t ∷ []) (committed s).rows = creates_sound (committed s) statement (table t) (base_sound the_views fresh view_laws (committed s) s g) makes.bound in
    record {
      none_open = none;
      sound = sound;
      in_range = λ p column. shift (fresh (schema_of s) (committed s).rows p column) (fresh (schema_of s ++ table t ∷ []) (committed s).rows p column) (committed_in_range s g none p column) (sym (same_number s p column (table t) g sound refl));
    }
may_define s statement (index i) g makes none count kept accepted =
    let sound : AreSound (schema_of s ++ index i ∷ []) (committed s).rows = creates_sound (committed s) statement (index i) (base_sound the_views fresh view_laws (committed s) s g) makes.bound in
    record {
      none_open = none;
      sound = sound;
      in_range = λ p column. shift (fresh (schema_of s) (committed s).rows p column) (fresh (schema_of s ++ index i ∷ []) (committed s).rows p column) (committed_in_range s g none p column) (sym (same_number s p column (index i) g sound refl));
    }

pub reached : (s : State) → IsReached s → Holds' s.store
reached s r = run_good view_laws may_define _ r.steps s (opened_good the_views fresh view_laws r.db r.view r.was_opened.sound r.was_opened.rows r.was_opened.in_range) r.run

pub committed_law : CommittedLaw
committed_law s r sessions are = stored_back place_cmp_total place_cmp-IsAntisymmetric 64 (changes_by s.store) sessions (committed s.store).rows s.store.rows (reached s r).stored are

sound_all : (s : Store) → Holds' s → (chosen : List ℕ) → AllByRecursion IsSession chosen → (rows : Rows) → AreSound (schema_of s) rows → AreSound (schema_of s) (redo_all (changes_by s) chosen rows)
sound_all s g [] is rows sound = sound
sound_all s g (i ∷ chosen) is rows sound = sound_all s g chosen is.1 (redo (changes_by s i) rows) (sound_redo (schema_of s) rows (changes_by s i) sound (g.each i is.0).proper)

pub sound_law : SoundLaw
sound_law s r chosen is = sound_all s.store (reached s r) chosen (recursion_from_All IsSession chosen is) (committed s.store).rows (reached s r).sound

pub stored_law : StoredLaw
stored_law s r p column = (reached s r).view p column

pub share_law : ShareLaw
share_law s r i is p column =
    let g = reached s r in
    let t = g.each i is in
    let redone : fresh (schema_of s.store) (redo (changes_by s.store i) (committed s.store).rows) p column ≡ fresh (schema_of s.store) (committed s.store).rows p column +ℤ owes_in p column (now s.store i).kept =
    value-redo the_views fresh view_laws (schema_of s.store) (committed s.store).rows (now s.store i).kept p column (base_sound the_views fresh view_laws (committed s.store) s.store g) t.proper (g.stored.told i is) t.told in
    let settled : paid_in p column (now s.store i).kept +ℤ due p column (now s.store i).owed ≡ owes_in p column (now s.store i).kept = settled_sum p column (now s.store i).kept (now s.store i).owed t.settled in
    omega (arith, ints)

pub bounds_law : BoundsLaw
bounds_law s r p column = ((reached s r).low p column, (reached s r).high p column)

pub locks_law : LocksLaw
locks_law s r i j is js n = (reached s r).apart i j is js n

no_increments : (p : Place) (column : ℕ) (ks : List KeptStep) → (PaysOn p ks → ⊥) → increments p column ks ≡ []
no_increments p column [] h = refl
no_increments p column (Put c ds ∷ ks) h = no_increments p column ks h
no_increments p column (Pay d ∷ ks) h = ap (λ b. cond b (worth column d ∷ increments p column ks) (increments p column ks)) (is_for_other p d (λ e. h (inl e))) ∙ no_increments p column ks (λ k. h (inr k))

pub absent_law : AbsentLaw
absent_law s r p none =
    let g = reached s r in
    let empty : (session : ℕ) → IsSession session → (column : ℕ) → increments p column (now s.store session).kept ≡ [] = λ i is column. no_increments p column (now s.store i).kept (g.present p none i is) in (
      empty,
      λ column.
          let stored : stored_number s.store.view p column ≡ fresh (schema_of s.store) (committed s.store).rows p column +ℤ over_sessions (λ t. paid (increments p column (now s.store t).kept)) = g.view p column in
          let zero_stored : stored_number s.store.view p column ≡ pos 0 = ap (number_in_row column) none in
          let zero_paid : over_sessions (λ t. paid (increments p column (now s.store t).kept)) ≡ pos 0 = over_zero (λ t. paid (increments p column (now s.store t).kept)) (λ t is. ap paid (empty t is column)) in
          omega (arith, ints),
    )
