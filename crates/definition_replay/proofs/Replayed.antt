-- What a text makes of a store.
use Rattle.std.proofs.Common.{◌≡◌, ℕ, suc, List, [], ◌∷◌, ◌++◌, length, Some, Option, Ok, refl, sym, ap, subst, ◌∙◌}
use Rattle.std.specs.Prelude.{Bool, true, false, cond, is_some, Result, Err, OnOk, IfOk}
use Rattle.std.proofs.lemmas.List.{map-append}
use Rattle.iv_types.specs.Maps.{Map}
use Rattle.iv_types.specs.Encoding.{IsHuge}
use Rattle.iv_types.specs.Definitions.{Definitions}
use Rattle.iv_types.specs.declared.catalog.Definition.{Definition}
use Rattle.iv_types.specs.declared.catalog.Definition.TheVariants.{Table, Index, View}
use Rattle.iv_types.specs.declared.lock.IndexEntry.{IndexEntry}
use Rattle.iv_types.specs.declared.refusal.Refusal.TheVariants as refused
use Rattle.iv_meaning.specs.Binding.{bind}
use Rattle.iv_meaning.specs.Database.{Row, Database}
use Rattle.iv_meaning.specs.Objects.{object_of, schema_of, view_tree}
use Rattle.iv_meaning.specs.Schema.{Schema, Object, view}
use Rattle.iv_meaning.specs.Statement.{create, defines, create_meaning, Accepted, Refused}
use Rattle.iv_meaning.specs.View.{whole_view}
use Rattle.query_laws.proofs.CreatingLemmas.{of_create}
use Rattle.query_laws.proofs.LimitedLemmas.{limited_law}
use Rattle.sql_parse.proofs.Lines.{unique}
use Rattle.txn_machine.specs.Fresh.{made_of, fresh}
use Rattle.txn_machine.specs.Stored.{AreStored}
use Rattle.txn_machine.specs.ViewLaws.{AreSound}
use Rattle.txn_machine.proofs.Creating.{creates_sound}
use Rattle.txn_machine.proofs.Ranging.{new_in_range}
use Rattle.txn_machine.proofs.Shapes.{add_all_stored, made_are, last_numbered, more_stored}
use Rattle.txn_log.specs.Appended.{Creates}
use Rattle.ghost_rows.specs.State.{State}
use Rattle.data_store.specs.Contents.{Contents}
use Rattle.data_store.specs.Held.{IsHeld}
use Rattle.data_defining.specs.Defining.{AreViewEntries, AreFirst, CanDefine, with_object}
use Rattle.image_catalog.specs.Texts.{AreMade}
use Rattle.image_catalog.proofs.Making.{made_so}
use Rattle.image_catalog.proofs.Telling.{and_one}
use Rattle.definition_replay.specs.Replaying.{CanReplay, CanBegin, database_of, IsAcceptedBeside, IsRefusedBeside, IsBegun, IsReplayed, IsNoneAccepted}

-- what two clauses on an outcome say together
pub both_ok : {X E P Q R : Type 0} (r : Result X E) → (P → Q → R) → OnOk r P → OnOk r Q → OnOk r R
both_ok (Ok x) f p q = f p q
both_ok (Err e) f p q = tt

-- what is so at both answers
pub either_way : {E : Type 0} (r : Result Bool E) (P : Type 0) → IfOk r (λ b. b ≡ true → P) → IfOk r (λ b. b ≡ false → P) → IfOk r (λ _. P)
either_way (Ok true) P f g = f refl
either_way (Ok false) P f g = g refl
either_way (Err e) P f g = tt

-- ---- what is accepted

view_accepted : (db : Database) (v : _) (rows : List Row) → whole_view db.schema db.rows v ≡ Some rows → create_meaning (view v) db ≡ Accepted [] 0 (defines (view v) ∷ [])
view_accepted db v rows e = ap (λ (x : Option (List Row)). cond (is_some x) (Accepted [] 0 (defines (view v) ∷ [])) (Refused refused.NumberRange)) e

-- what begins with some entries is accepted
pub first_accepted : (ds : Definitions) (maps : ℕ → Map) (c : Contents) (d : Definition) (es : List IndexEntry) → AreFirst ds maps c d es → IsAcceptedBeside c (object_of d)
first_accepted ds maps c (Table t) es f number = (0, defines (object_of (Table t)) ∷ [], refl)
first_accepted ds maps c (Index i) es f number = (0, defines (object_of (Index i)) ∷ [], refl)
first_accepted ds maps c (View v) es f number = (0, defines (object_of (View v)) ∷ [], view_accepted (database_of number c) (view_tree v) f.rows f.whole)

-- ---- what it begins with

-- the rows of a view were evaluated, so its numbers are in range
pub can_define : (ds : Definitions) (maps : ℕ → Map) (state : State) (d : Definition) (es : List IndexEntry) (c : Contents) → CanBegin ds maps state (object_of d) c → AreFirst ds maps c d es → CanDefine ds maps state d es c
can_define ds maps state d es c can are = record {
  evaluated = can.evaluated;
  unkept = can.unkept;
  in_range = λ v is group column.
      let entries : AreViewEntries c v es = subst (λ x. AreFirst ds maps c x es) is are in
      subst (λ x. IsHuge (fresh (c.objects ++ object_of x ∷ []) c.rows (v.number, group) column)) (sym is)
      (new_in_range c.objects c.rows (view_tree v) (subst (λ x. AreSound (c.objects ++ object_of x ∷ []) c.rows) is can.evaluated.after) (ap is_some entries.whole) group column);
  first = are;
}

-- ---- the contents with it

stored_with : (c : Contents) (o : Object) → AreSound c.objects c.rows → AreSound (c.objects ++ o ∷ []) c.rows → AreStored c.objects c.view → AreStored (c.objects ++ o ∷ []) (with_object c o).view
stored_with c o sound after stored =
    add_all_stored (c.objects ++ o ∷ []) c.view (made_of (c.objects ++ o ∷ []) c.rows o) (more_stored c.objects c.rows o c.view sound stored)
    (made_are (c.objects ++ o ∷ []) c.rows after (suc (length c.objects)) o (last_numbered c.objects o))

-- an object may be replayed on what another has begun in
pub replay_again : (ds after : Definitions) (maps new : ℕ → Map) (state : State) (o : Object) (c : Contents) → CanBegin ds maps state o c → IsHeld after new state (with_object c o) → CanReplay after new state (with_object c o)
replay_again ds after maps new state o c can held = record {
  readable = record { held = held; stored = stored_with c o can.evaluated.sound can.evaluated.after can.evaluated.readable.stored };
  sound = can.evaluated.after;
  unkept = can.unkept;
}

-- ---- what a text makes

-- one object
one_object : (objects : Schema) (text : List ℕ) (o x : Object) → Creates objects text o → Creates objects text x → o ≡ x
one_object objects text o x h k =
    let same : Ok (create o) ≡ Ok (create x) = sym h.2 ∙ (ap (bind objects) (unique text h.0 k.0 h.1 k.1) ∙ k.2) in
    of_create o x (let e : create o ≡ create x = cc in e)

-- it may begin beside what texts made
pub may_begin : (ds : Definitions) (maps : ℕ → Map) (state : State) (text : List ℕ) (o : Object) → AreMade (schema_of ds) → Creates (schema_of ds) text o → (c : Contents) → CanReplay ds maps state c → CanBegin ds maps state o c
may_begin ds maps state text o made creates c can =
    let db : Database = database_of 0 c in
    let here : schema_of ds ≡ c.objects = can.readable.held.objects in
    let binds : bind c.objects creates.0 ≡ Ok (create o) = subst (λ os. bind os creates.0 ≡ Ok (create o)) here creates.2 in
    let so = made_so (schema_of ds) made in
    record {
      evaluated = record {
        readable = can.readable;
        sound = can.sound;
        after = creates_sound db creates.0 o can.sound binds;
        limited = limited_law db (record { objects = can.sound.objects; rows = can.sound.rows }) (subst Rattle.query_laws.specs.Limited.IsLimited here so.limited) creates.0 o binds;
      };
      unkept = can.unkept;
    }

module _ (ds : Definitions) (maps : ℕ → Map) (state : State) (text : List ℕ) (d : Definition) (made : AreMade (schema_of ds)) (creates : Creates (schema_of ds) text (object_of d)) where
  pub is_replayed : (after : Definitions) (new : ℕ → Map) → IsBegun ds after maps new state d → IsReplayed ds after maps new state text
  is_replayed after new begun = record {
    object = object_of d;
    creates = creates;
    defined = ap schema_of begun.defined ∙ map-append object_of ds (d ∷ []);
    accepted = λ c can. begun.accepted c (may_begin ds maps state text (object_of d) made creates c can);
    has = λ c can. begun.has c (may_begin ds maps state text (object_of d) made creates c can);
  }

  pub none_accepted : ((c : Contents) → CanBegin ds maps state (object_of d) c → IsRefusedBeside c (object_of d)) → IsNoneAccepted ds maps state text
  none_accepted refuses o other c can =
      subst (IsRefusedBeside c) (one_object (schema_of ds) text (object_of d) o creates other) (refuses c (may_begin ds maps state text (object_of d) made creates c can))

  pub made_more : (after : Definitions) → after ≡ ds ++ d ∷ [] → AreMade (schema_of after)
  made_more after e = subst AreMade (sym (ap schema_of e ∙ map-append object_of ds (d ∷ []))) (record {
    texts = made.texts ++ text ∷ [];
    all_create = and_one [] made.texts (schema_of ds) text (object_of d) made.all_create creates;
  })
