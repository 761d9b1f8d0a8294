-- Records as they stand in blocks, beside the definitions that lead to them.
use Rattle.std.specs.Prelude.{◌≡◌, ℕ, List, [], ◌∷◌, ◌++◌, map, reverse, Option, Some, None}
use Rattle.std.specs.Option.{option_map, IfSome}
use Rattle.byteorder.specs.Endian.{big_bytes}
use Rattle.iv_types.specs.declared.value.Kind.{Kind}
use mathlib.Core.Path.{refl, sym, ap, subst, ◌∙◌}
use Rattle.std.proofs.lemmas.List.{reverse-append}
use Rattle.iv_types.specs.declared.catalog.TableDef.{TableDef}
use Rattle.iv_types.specs.Encoding.{kinds_of, FitAll, row_bytes}
use Rattle.iv_meaning.specs.Schema.{Schema, Object, numbered, kinds_of_table}
use Rattle.iv_meaning.specs.Database.{Row}
use Rattle.txn_machine.specs.Deltas.{RowChange}
use Rattle.txn_machine.specs.May.{FitsUnder}
use Rattle.txn_machine.specs.Records as machine
use Rattle.txn_machine.specs.Records.{Record}
use Rattle.txn_machine.specs.Store.{Store}
use Rattle.txn_log.specs.Replay.{What, Wrote, Added, Deed, Event, Kept, Ghost, Clean, Undo, Commit, Abort, Defined, Pages, Stored, replay, on_pages}
use Rattle.txn_log.specs.Fitting.{AllDeeds, IsChange, IsKnown, RecordFits, AllFit}
use Rattle.txn_log.specs.Meaning.{definitions}
use Rattle.txn_log.specs.Appended.{Numbered, written, Image, Says, AllSay, what_record}
use Rattle.txn_log.specs.Moments.{IsRight}
use Rattle.txn_log.proofs.Once.{created}
use Rattle.txn_log.proofs.Printed.{one_statement}
use Rattle.txn_log.proofs.Meaning.{meant}
use Rattle.log_records.specs.Spelling.{optional}
use Rattle.log_records.specs.Area.{Entry}
use Rattle.log_disk.specs.Spelled.{with_length, row_or_none, FieldsLaw, AddsTo, LeadTo, IsSpellable, AreSpellable, AreSpelled, spelled}

adds_what : (objects : Schema) (transaction : ℕ) (w : What) → AddsTo objects (what_record transaction w) objects
adds_what objects transaction (Wrote c) = refl
adds_what objects transaction (Added d) = refl

-- a record adds the definition that it says
says_adds : (objects : Schema) (r : Numbered) (es : List Event) (e : Event) → Says (definitions objects es) r e → AddsTo (definitions objects es) r.of (definitions objects (e ∷ es))
says_adds objects r es (Kept x) h = subst (λ (y : Numbered). AddsTo (definitions objects es) y.of (definitions objects es)) (sym h) (adds_what (definitions objects es) x.transaction x.what)
says_adds objects r es (Ghost n p c) h = subst (λ (y : Numbered). AddsTo (definitions objects es) y.of (definitions objects es)) (sym h.0) refl
says_adds objects r es (Clean n p) h = subst (λ (y : Numbered). AddsTo (definitions objects es) y.of (definitions objects es)) (sym h) refl
says_adds objects r es (Undo n t m) h = subst (λ (y : Numbered). AddsTo (definitions objects es) y.of (definitions objects es)) (sym h) refl
says_adds objects r es (Commit n t k) h = subst (λ (y : Numbered). AddsTo (definitions objects es) y.of (definitions objects es)) (sym h.1) refl
says_adds objects r es (Abort n t) h = subst (λ (y : Numbered). AddsTo (definitions objects es) y.of (definitions objects es)) (sym h) refl
says_adds objects r es (Defined n k o) h = subst (λ (y : Numbered). AddsTo (definitions objects es) y.of (definitions objects es ++ o ∷ [])) (sym h.2) (o, h.3, refl)

pub said_leads : (objects : Schema) (rs : List Numbered) (es : List Event) → AllSay objects rs es → LeadTo objects rs (definitions objects es)
said_leads objects [] [] h = refl
said_leads objects [] (e ∷ es) h = absurd h
said_leads objects (r ∷ rs) [] h = absurd h
said_leads objects (r ∷ rs) (e ∷ es) h = (definitions objects es, said_leads objects rs es h.1, says_adds objects r es e h.0)

-- records lead to one list of definitions
adds_once : (objects : Schema) (r : Record) (a b : Schema) → AddsTo objects r a → AddsTo objects r b → a ≡ b
adds_once objects (machine.Definition number session text) a b h k =
    h.2 ∙ (ap (λ (o : Object). objects ++ o ∷ []) (created one_statement objects text h.0 k.0 h.1 k.1) ∙ sym k.2)
adds_once objects (machine.Write t c) a b h k = h ∙ sym k
adds_once objects (machine.Delta t d) a b h k = h ∙ sym k
adds_once objects (machine.Ghost p) a b h k = h ∙ sym k
adds_once objects (machine.Clean p) a b h k = h ∙ sym k
adds_once objects (machine.Undo t n) a b h k = h ∙ sym k
adds_once objects (machine.Commit t n s) a b h k = h ∙ sym k
adds_once objects (machine.Abort t) a b h k = h ∙ sym k

pub leads_once : (objects : Schema) (rs : List Numbered) (a b : Schema) → LeadTo objects rs a → LeadTo objects rs b → a ≡ b
leads_once objects [] a b h k = h ∙ sym k
leads_once objects (r ∷ rs) a b h k =
    let same : h.0 ≡ k.0 = leads_once objects rs h.0 k.0 h.1 k.1 in
    adds_once k.0 r.of a b (subst (λ x. AddsTo x r.of a) same h.2) k.2

-- ---- rows that fit

if_under : (t : TableDef) (key : List ℕ) (row : Option Row) → FitsUnder t key row → IfSome row (FitAll (kinds_of t))
if_under t key None h = tt
if_under t key (Some row) h = h.1

change_fits : (objects : Schema) (transaction : ℕ) (c : RowChange) → IsChange objects c → IsSpellable objects (machine.Write transaction c)
change_fits objects transaction c h =
    subst (λ (o : Option Object). IfSome c.before (FitAll (kinds_of_table o)) × IfSome c.after (FitAll (kinds_of_table o))) (sym h.table_is)
    (if_under h.of c.key.1 c.before h.before, if_under h.of c.key.1 c.after h.after)

what_fits : (objects : Schema) (transaction : ℕ) (w : What) → IsKnown objects w → IsSpellable objects (what_record transaction w)
what_fits objects transaction (Wrote c) h = change_fits objects transaction c h
what_fits objects transaction (Added d) h = tt

-- a record that says what fits has rows that fit
pub says_fits : (s : Stored) (objects : Schema) (es : List Event) (r : Numbered) (e : Event) → s.db.schema ≡ objects → Says objects r e → RecordFits s es e → IsSpellable objects r.of
says_fits s objects es r (Kept x) same h fit =
    subst (λ (y : Numbered). IsSpellable objects y.of) (sym h) (what_fits objects x.transaction x.what (subst (λ o. IsKnown o x.what) same fit.1))
says_fits s objects es r (Ghost n p c) same h fit = subst (λ (y : Numbered). IsSpellable objects y.of) (sym h.0) tt
says_fits s objects es r (Clean n p) same h fit = subst (λ (y : Numbered). IsSpellable objects y.of) (sym h) tt
says_fits s objects es r (Undo n t m) same h fit = subst (λ (y : Numbered). IsSpellable objects y.of) (sym h) tt
says_fits s objects es r (Commit n t k) same h fit = subst (λ (y : Numbered). IsSpellable objects y.of) (sym h.1) tt
says_fits s objects es r (Abort n t) same h fit = subst (λ (y : Numbered). IsSpellable objects y.of) (sym h) tt
says_fits s objects es r (Defined n k o) same h fit = subst (λ (y : Numbered). IsSpellable objects y.of) (sym h.2) tt

pub carried_fits : (objects : Schema) (ds : List Deed) → AllDeeds (IsKnown objects) ds → AreSpellable objects (map written ds)
carried_fits objects [] h = tt
carried_fits objects (d ∷ ds) h = (what_fits objects d.transaction d.what h.0, carried_fits objects ds h.1)

-- in an image that is right the carried records fit, and the last of the others
pub right_carried : (s : Store) (i : Image) (n : ℕ) → IsRight s i n → AreSpellable i.pages.db.schema i.carried
right_carried s i n right =
    subst (AreSpellable i.pages.db.schema) (sym right.is_read.carried)
    (carried_fits i.pages.db.schema right.reading.carried (subst (λ (p : Pages). AllDeeds (IsKnown p.db.schema) right.reading.carried) right.is_read.pages right.fits.known))

last_fits : (p : Pages) (carried : List Deed) (r : Numbered) (rs : List Numbered) (es : List Event) → AllSay p.db.schema (r ∷ rs) es → AllFit (on_pages p carried) es
    → (before : Schema) → LeadTo p.db.schema rs before → IsSpellable before r.of
last_fits p carried r rs [] say fit before leads = absurd say
last_fits p carried r rs (e ∷ es) say fit before leads =
    let same : definitions p.db.schema es ≡ before = leads_once p.db.schema rs (definitions p.db.schema es) before (said_leads p.db.schema rs es say.1) leads in
    subst (λ o. IsSpellable o r.of) same (says_fits (replay (on_pages p carried) es) (definitions p.db.schema es) es r e (meant p carried es fit.2).schema say.0 fit.0)

pub right_last : (s : Store) (p : Pages) (carried : List Numbered) (r : Numbered) (rs : List Numbered) (n : ℕ) → IsRight s (record { pages = p; carried = carried; after = r ∷ rs }) n
    → (before : Schema) → LeadTo p.db.schema rs before → IsSpellable before r.of
right_last s p carried r rs n right before leads =
    last_fits p right.reading.carried r rs right.reading.after right.is_read.after (subst (λ (q : Pages). AllFit (on_pages q right.reading.carried) right.reading.after) right.is_read.pages right.fits.records) before leads

-- one record more
pub one_spelled : (objects before : Schema) (r : Numbered) (rs : List Numbered) (waits others : List Entry) → LeadTo objects rs before → IsSpellable before r.of → AreSpelled objects rs (reverse waits ++ others)
    → AreSpelled objects (r ∷ rs) (reverse (waits ++ spelled before r ∷ []) ++ others)
one_spelled objects before r rs waits others leads fit h =
    subst (λ (es : List Entry). AreSpelled objects (r ∷ rs) (es ++ others)) (sym (reverse-append waits (spelled before r ∷ []))) (h, (before, leads, fit, refl))

-- ---- fields

row_stands : (kinds : List Kind) (row : Option Row) → optional (option_map (row_bytes kinds) row) ≡ row_or_none kinds row
row_stands kinds None = refl
row_stands kinds (Some r) = refl

pub fields_stand : FieldsLaw
fields_stand objects number (machine.Write t c) =
    let kinds : List Kind = kinds_of_table (numbered objects c.key.0) in
    λ x. 1 ∷ (big_bytes 8 number ++ (big_bytes 8 t ++ (big_bytes 4 c.key.0 ++ (with_length c.key.1 ++ (row_stands kinds c.before x ++ row_stands kinds c.after x)))))
fields_stand objects number (machine.Delta t d) = refl
fields_stand objects number (machine.Ghost p) = refl
fields_stand objects number (machine.Clean p) = refl
fields_stand objects number (machine.Undo t n) = refl
fields_stand objects number (machine.Commit t n s) = refl
fields_stand objects number (machine.Abort t) = refl
fields_stand objects number (machine.Definition n s text) = refl
