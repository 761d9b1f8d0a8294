-- An image is read in one way.
use Rattle.std.specs.Prelude.{◌≡◌, ℕ, suc, List, [], ◌∷◌, map, length, Option, Some, None, Ok, Result}
use mathlib.Core.Path.{refl, sym, ap, subst, ◌∙◌}
use Rattle.iv_types.specs.declared.refusal.Refusal.{Refusal}
use Rattle.iv_types.specs.Grammar.{OneStatement}
use Rattle.iv_meaning.specs.Schema.{Schema, Object, view, ViewTree, numbered}
use Rattle.iv_meaning.specs.Binding.{bind}
use Rattle.iv_meaning.specs.Statement.{BoundTree, create}
use Rattle.table_laws.specs.Place.{Place}
use Rattle.txn_machine.specs.Records as log
use Rattle.txn_machine.specs.Records.{Record}
use Rattle.txn_log.specs.Replay.{What, Wrote, Added, Deed, Event, Kept, Ghost, Clean, Undo, Commit, Abort, Defined, Reading}
use Rattle.txn_log.specs.Meaning.{definitions}
use Rattle.txn_log.specs.Appended.{Numbered, what_record, written, Image, Creates, Says, AllSay, IsRead}

same_object : (o p : Object) → ◌≡◌ {A = Result BoundTree Refusal} (Ok (create o)) (Ok (create p)) → o ≡ p
same_object o p e = cc

same_view : (v w : ViewTree) → Some (view v) ≡ Some (view w) → v ≡ w
same_view v w e = cc

-- ---- carried records

what_in : Record → Option (ℕ × What)
what_in (log.Write t c) = Some (t, Wrote c)
what_in (log.Delta t d) = Some (t, Added d)
what_in _ = None

what_back : (t : ℕ) (w : What) → what_in (what_record t w) ≡ Some (t, w)
unfolding what_in
what_back t (Wrote c) = refl
what_back t (Added d) = refl

deed_in : ℕ → Option (ℕ × What) → Option Deed
deed_in n None = None
deed_in n (Some (t, w)) = Some (record { number = n; transaction = t; what = w })

deed_back : (x : Deed) → deed_in (written x).number (what_in (written x).of) ≡ Some x
unfolding deed_in
deed_back x = ap (deed_in x.number) (what_back x.transaction x.what)

same_some : (x y : Deed) → Some x ≡ Some y → x ≡ y
same_some x y e = cc

pub same_deed : (x y : Deed) → written x ≡ written y → x ≡ y
same_deed x y e = same_some x y (sym (deed_back x) ∙ (ap (λ (r : Numbered). deed_in r.number (what_in r.of)) e ∙ deed_back y))

pub same_deeds : (xs ys : List Deed) → map written xs ≡ map written ys → xs ≡ ys
same_deeds [] [] e = refl
same_deeds [] (y ∷ ys) e = absurd (cc)
same_deeds (x ∷ xs) [] e = absurd (cc)
same_deeds (x ∷ xs) (y ∷ ys) e = ap (λ (d : Deed). d ∷ xs) (same_deed x y (cc)) ∙ ap (λ (ds : List Deed). y ∷ ds) (same_deeds xs ys (cc))

-- ---- what else records say: with so many numbers for a ghost, and this object for a definition

told_with : ℕ → Option Object → Numbered → Option Event
told_with columns o r = by_record r.of
  where
    defined : Option Object → ℕ → Option Event
    defined None k = None
    defined (Some p) k = Some (Defined r.number k p)

    by_record : Record → Option Event
    by_record (log.Write t c) = Some (Kept (record { number = r.number; transaction = t; what = Wrote c }))
    by_record (log.Delta t d) = Some (Kept (record { number = r.number; transaction = t; what = Added d }))
    by_record (log.Ghost p) = Some (Ghost r.number p columns)
    by_record (log.Clean p) = Some (Clean r.number p)
    by_record (log.Undo t m) = Some (Undo r.number t m)
    by_record (log.Commit t k session) = Some (Commit r.number t k)
    by_record (log.Abort t) = Some (Abort r.number t)
    by_record (log.Definition k session text) = defined o k

-- what an event says of these
columns_in : Event → ℕ
columns_in (Ghost n p columns) = columns
columns_in _ = 0

object_in : Event → Option Object
object_in (Defined n k o) = Some o
object_in _ = None

told_deed : (columns : ℕ) (o : Option Object) (x : Deed) → told_with columns o (written x) ≡ Some (Kept x)
unfolding told_with
told_deed columns o x = by_what x.what
  where
    by_what : (w : What) → told_with columns o (record { number = x.number; of = what_record x.transaction w }) ≡ Some (Kept (record { number = x.number; transaction = x.transaction; what = w }))
    by_what (Wrote c) = refl
    by_what (Added d) = refl

told_by : (objects : Schema) (r : Numbered) (e : Event) → Says objects r e → told_with (columns_in e) (object_in e) r ≡ Some e
unfolding told_with columns_in object_in
told_by objects r (Kept x) h = ap (told_with 0 None) h ∙ told_deed 0 None x
told_by objects r (Ghost n p columns) h = ap (told_with columns None) h.0
told_by objects r (Clean n p) h = ap (told_with 0 None) h
told_by objects r (Undo n t m) h = ap (told_with 0 None) h
told_by objects r (Commit n t k) h = ap (told_with 0 None) h.1
told_by objects r (Abort n t) h = ap (told_with 0 None) h
told_by objects r (Defined n k o) h = ap (told_with 0 (Some o)) h.2

-- the place of a ghost and the text of a definition
ghost_in : Record → Option Place
ghost_in (log.Ghost p) = Some p
ghost_in _ = None

text_in : Record → Option (List ℕ)
text_in (log.Definition k session text) = Some text
text_in _ = None

no_ghost : (t : ℕ) (w : What) → ghost_in (what_record t w) ≡ None
unfolding ghost_in
no_ghost t (Wrote c) = refl
no_ghost t (Added d) = refl

no_text : (t : ℕ) (w : What) → text_in (what_record t w) ≡ None
unfolding text_in
no_text t (Wrote c) = refl
no_text t (Added d) = refl

-- so many numbers where the record is a ghost, and 0 where it is none
abbrev GhostIs : Schema → Option Place → ℕ → Type 0
GhostIs objects None columns = columns ≡ 0
GhostIs objects (Some p) columns = (v : ViewTree) × (numbered objects p.0 ≡ Some (view v)) × (columns ≡ suc (length v.sums))

abbrev TextIs : Schema → Option (List ℕ) → Option Object → Type 0
TextIs objects None o = o ≡ None
TextIs objects (Some text) None = ⊥
TextIs objects (Some text) (Some o) = Creates objects text o

ghost_by : (objects : Schema) (r : Numbered) (e : Event) → Says objects r e → GhostIs objects (ghost_in r.of) (columns_in e)
unfolding ghost_in columns_in
ghost_by objects r (Kept x) h = subst (λ o. GhostIs objects o 0) (sym (ap (λ (q : Numbered). ghost_in q.of) h ∙ no_ghost x.transaction x.what)) refl
ghost_by objects r (Ghost n p columns) h = subst (λ o. GhostIs objects o columns) (sym (ap (λ (q : Numbered). ghost_in q.of) h.0)) (h.1, h.2, h.3)
ghost_by objects r (Clean n p) h = subst (λ o. GhostIs objects o 0) (sym (ap (λ (q : Numbered). ghost_in q.of) h)) refl
ghost_by objects r (Undo n t m) h = subst (λ o. GhostIs objects o 0) (sym (ap (λ (q : Numbered). ghost_in q.of) h)) refl
ghost_by objects r (Commit n t k) h = subst (λ o. GhostIs objects o 0) (sym (ap (λ (q : Numbered). ghost_in q.of) h.1)) refl
ghost_by objects r (Abort n t) h = subst (λ o. GhostIs objects o 0) (sym (ap (λ (q : Numbered). ghost_in q.of) h)) refl
ghost_by objects r (Defined n k o) h = subst (λ q. GhostIs objects q 0) (sym (ap (λ (q : Numbered). ghost_in q.of) h.2)) refl

text_by : (objects : Schema) (r : Numbered) (e : Event) → Says objects r e → TextIs objects (text_in r.of) (object_in e)
unfolding text_in object_in
text_by objects r (Kept x) h = subst (λ o. TextIs objects o None) (sym (ap (λ (q : Numbered). text_in q.of) h ∙ no_text x.transaction x.what)) refl
text_by objects r (Ghost n p columns) h = subst (λ o. TextIs objects o None) (sym (ap (λ (q : Numbered). text_in q.of) h.0)) refl
text_by objects r (Clean n p) h = subst (λ o. TextIs objects o None) (sym (ap (λ (q : Numbered). text_in q.of) h)) refl
text_by objects r (Undo n t m) h = subst (λ o. TextIs objects o None) (sym (ap (λ (q : Numbered). text_in q.of) h)) refl
text_by objects r (Commit n t k) h = subst (λ o. TextIs objects o None) (sym (ap (λ (q : Numbered). text_in q.of) h.1)) refl
text_by objects r (Abort n t) h = subst (λ o. TextIs objects o None) (sym (ap (λ (q : Numbered). text_in q.of) h)) refl
text_by objects r (Defined n k o) h = subst (λ q. TextIs objects q (Some o)) (sym (ap (λ (q : Numbered). text_in q.of) h.2)) h.3

one_ghost : (objects : Schema) (o : Option Place) (m n : ℕ) → GhostIs objects o m → GhostIs objects o n → m ≡ n
one_ghost objects None m n h k = h ∙ sym k
one_ghost objects (Some p) m n h k = h.2 ∙ (ap (λ (v : ViewTree). suc (length v.sums)) (same_view h.0 k.0 (sym h.1 ∙ k.1)) ∙ sym k.2)

same_event : (d e : Event) → Some d ≡ Some e → d ≡ e
same_event d e h = cc

module _ (alone : OneStatement) where
  pub created : (objects : Schema) (text : List ℕ) (o p : Object) → Creates objects text o → Creates objects text p → o ≡ p
  created objects text o p h k = same_object o p (sym h.2 ∙ (ap (bind objects) (alone text h.0 k.0 h.1 k.1) ∙ k.2))

  one_text : (objects : Schema) (t : Option (List ℕ)) (o p : Option Object) → TextIs objects t o → TextIs objects t p → o ≡ p
  one_text objects None o p h k = h ∙ sym k
  one_text objects (Some text) None p h k = absurd h
  one_text objects (Some text) (Some o) None h k = absurd k
  one_text objects (Some text) (Some o) (Some p) h k = ap (λ (x : Object). Some x) (created objects text o p h k)

  pub says_once : (objects : Schema) (r : Numbered) (d e : Event) → Says objects r d → Says objects r e → d ≡ e
  says_once objects r d e h k = same_event d e (sym (told_by objects r d h)
      ∙ ((λ x. told_with (one_ghost objects (ghost_in r.of) (columns_in d) (columns_in e) (ghost_by objects r d h) (ghost_by objects r e k) x)
      (one_text objects (text_in r.of) (object_in d) (object_in e) (text_by objects r d h) (text_by objects r e k) x) r) ∙ told_by objects r e k))

  all_once : (objects : Schema) (rs : List Numbered) (ds es : List Event) → AllSay objects rs ds → AllSay objects rs es → ds ≡ es
  all_once objects [] [] [] h k = refl
  all_once objects [] [] (e ∷ es) h k = absurd k
  all_once objects [] (d ∷ ds) es h k = absurd h
  all_once objects (r ∷ rs) [] es h k = absurd h
  all_once objects (r ∷ rs) (d ∷ ds) [] h k = absurd k
  all_once objects (r ∷ rs) (d ∷ ds) (e ∷ es) h k =
      let rest : ds ≡ es = all_once objects rs ds es h.1 k.1 in
      λ x. says_once (definitions objects es) r d e (subst (λ fs. Says (definitions objects fs) r d) rest h.0) k.0 x ∷ rest x

  pub reading_once : (i : Image) (one other : Reading) → IsRead i one → IsRead i other → one ≡ other
  reading_once i one other h k =
      let carried : one.carried ≡ other.carried = same_deeds one.carried other.carried (sym h.carried ∙ k.carried) in
      let after : one.after ≡ other.after = all_once i.pages.db.schema i.after one.after other.after h.after k.after in
      λ x. record { pages = (h.pages ∙ sym k.pages) x; carried = carried x; after = after x }
