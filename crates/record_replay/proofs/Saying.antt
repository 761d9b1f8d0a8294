-- What a record with given fields says.
use Rattle.std.proofs.Common.{◌≡◌, ℕ, ◌<◌, List, refl, sym, ap, subst, ◌∙◌, arith}
use Rattle.std.specs.Prelude.{ℤ}
use Rattle.iv_types.specs.declared.lock.GroupDelta.{GroupDelta}
use Rattle.table_laws.specs.Place.{Place}
use Rattle.iv_meaning.specs.Schema.{Schema, Object}
use Rattle.txn_log.specs.Replay.{What, Wrote, Added, Deed, Event, Kept, Ghost, Clean, Undo, Commit, Abort, Defined}
use Rattle.txn_log.specs.Fitting.{IsKnown}
use Rattle.txn_log.specs.Appended.{Numbered, what_record, written, Creates, Says}
use Rattle.txn_log.proofs.Once.{same_deed}
use Rattle.log_records.specs.declared.record.Record.TheVariants as bytes
use Rattle.log_records.specs.Spelling.{kind_of}
use Rattle.log_disk.specs.Spelled.{in_bytes}
use Rattle.record_reading.specs.Groups.{delta}
use Rattle.record_replay.specs.Telling.{ReadsNone}

kind_done : What → ℕ
kind_done (Wrote c) = 1
kind_done (Added d) = 2

kind_in : Event → ℕ
kind_in (Kept x) = kind_done x.what
kind_in (Ghost n p c) = 3
kind_in (Clean n p) = 4
kind_in (Undo n t m) = 5
kind_in (Commit n t k) = 6
kind_in (Abort n t) = 7
kind_in (Defined n k o) = 8

module _ (objects : Schema) (m : Numbered) where
  of_what : (t : ℕ) (w : What) → kind_of (in_bytes objects (what_record t w)) ≡ kind_done w
  unfolding kind_done
  of_what t (Wrote c) = refl
  of_what t (Added d) = refl

  -- it has the kind of what it says
  its_kind : (e : Event) → Says objects m e → kind_of (in_bytes objects m.of) ≡ kind_in e
  unfolding kind_in
  its_kind (Kept x) h = ap (λ (q : Numbered). kind_of (in_bytes objects q.of)) h ∙ of_what x.transaction x.what
  its_kind (Ghost n p c) h = ap (λ (q : Numbered). kind_of (in_bytes objects q.of)) h.0
  its_kind (Clean n p) h = ap (λ (q : Numbered). kind_of (in_bytes objects q.of)) h
  its_kind (Undo n t k) h = ap (λ (q : Numbered). kind_of (in_bytes objects q.of)) h
  its_kind (Commit n t k) h = ap (λ (q : Numbered). kind_of (in_bytes objects q.of)) h.1
  its_kind (Abort n t) h = ap (λ (q : Numbered). kind_of (in_bytes objects q.of)) h
  its_kind (Defined n k o) h = ap (λ (q : Numbered). kind_of (in_bytes objects q.of)) h.2

  low : (w : What) → kind_done w < 3
  unfolding kind_done
  low (Wrote c) = omega arith
  low (Added d) = omega arith

  not_kept : {A : Type 0} (e : Event) (k : ℕ) → Says objects m e → (w : What) → kind_in e ≡ kind_done w → kind_of (in_bytes objects m.of) ≡ k → 2 < k → A
  not_kept e k h w is kind above = let less : kind_done w < 3 = low w in absurd (let here = its_kind e h in omega (arith, here, is, kind, above, less))

  -- ---- a Write or a Delta

  pub says_kept : (e : Event) → Says objects m e → kind_of (in_bytes objects m.of) < 3 → (d : Deed) × (e ≡ Kept d) × (m ≡ written d)
  unfolding kind_in
  says_kept (Kept x) h b = (x, refl, h)
  says_kept (Ghost n p c) h b = absurd (let k : kind_of (in_bytes objects m.of) ≡ 3 = its_kind (Ghost n p c) h in omega arith)
  says_kept (Clean n p) h b = absurd (let k : kind_of (in_bytes objects m.of) ≡ 4 = its_kind (Clean n p) h in omega arith)
  says_kept (Undo n t l) h b = absurd (let k : kind_of (in_bytes objects m.of) ≡ 5 = its_kind (Undo n t l) h in omega arith)
  says_kept (Commit n t l) h b = absurd (let k : kind_of (in_bytes objects m.of) ≡ 6 = its_kind (Commit n t l) h in omega arith)
  says_kept (Abort n t) h b = absurd (let k : kind_of (in_bytes objects m.of) ≡ 7 = its_kind (Abort n t) h in omega arith)
  says_kept (Defined n l o) h b = absurd (let k : kind_of (in_bytes objects m.of) ≡ 8 = its_kind (Defined n l o) h in omega arith)

  -- the record of a Write or a Delta says it, and nothing else
  pub says_deed : (d : Deed) (e : Event) → m ≡ written d → Says objects m e → e ≡ Kept d
  says_deed d e is h =
      let kind : kind_of (in_bytes objects m.of) ≡ kind_done d.what = ap (λ (q : Numbered). kind_of (in_bytes objects q.of)) is ∙ of_what d.transaction d.what in
      let less : kind_done d.what < 3 = low d.what in
      let kept = says_kept e h (omega (arith, kind, less)) in
      kept.1 ∙ ap Kept (same_deed kept.0 d (sym kept.2 ∙ is))

  -- ---- groups

  same_group : (p : Place) (n : ℕ) (g : List ℕ) → bytes.Ghost p.0 p.1 ≡ bytes.Ghost n g → p ≡ (n, g)
  same_group p n g e = let one : p.0 ≡ n = cc in let other : p.1 ≡ g = cc in λ i. (one i, other i)

  same_clean : (p : Place) (n : ℕ) (g : List ℕ) → bytes.Clean p.0 p.1 ≡ bytes.Clean n g → p ≡ (n, g)
  same_clean p n g e = let one : p.0 ≡ n = cc in let other : p.1 ≡ g = cc in λ i. (one i, other i)

  pub says_ghost : (n : ℕ) (g : List ℕ) (e : Event) → Says objects m e → in_bytes objects m.of ≡ bytes.Ghost n g → (columns : ℕ) × (e ≡ Ghost m.number (n, g) columns)
  unfolding kind_in
  says_ghost n g (Ghost k p c) h b =
      let at : p ≡ (n, g) = same_group p n g (sym (ap (λ (q : Numbered). in_bytes objects q.of) h.0) ∙ b) in
      let number : k ≡ m.number = sym (ap (λ (q : Numbered). q.number) h.0) in
      (c, λ i. Ghost (number i) (at i) c)
  says_ghost n g (Kept x) h b = not_kept (Kept x) 3 h x.what refl (ap kind_of b) (omega arith)
  says_ghost n g (Clean k p) h b = absurd (let same : 3 ≡ 4 = sym (ap kind_of b) ∙ its_kind (Clean k p) h in omega arith)
  says_ghost n g (Undo k t l) h b = absurd (let same : 3 ≡ 5 = sym (ap kind_of b) ∙ its_kind (Undo k t l) h in omega arith)
  says_ghost n g (Commit k t l) h b = absurd (let same : 3 ≡ 6 = sym (ap kind_of b) ∙ its_kind (Commit k t l) h in omega arith)
  says_ghost n g (Abort k t) h b = absurd (let same : 3 ≡ 7 = sym (ap kind_of b) ∙ its_kind (Abort k t) h in omega arith)
  says_ghost n g (Defined k l o) h b = absurd (let same : 3 ≡ 8 = sym (ap kind_of b) ∙ its_kind (Defined k l o) h in omega arith)

  pub says_clean : (n : ℕ) (g : List ℕ) (e : Event) → Says objects m e → in_bytes objects m.of ≡ bytes.Clean n g → e ≡ Clean m.number (n, g)
  unfolding kind_in
  says_clean n g (Clean k p) h b =
      let at : p ≡ (n, g) = same_clean p n g (sym (ap (λ (q : Numbered). in_bytes objects q.of) h) ∙ b) in
      let number : k ≡ m.number = sym (ap (λ (q : Numbered). q.number) h) in
      λ i. Clean (number i) (at i)
  says_clean n g (Kept x) h b = not_kept (Kept x) 4 h x.what refl (ap kind_of b) (omega arith)
  says_clean n g (Ghost k p c) h b = absurd (let same : 4 ≡ 3 = sym (ap kind_of b) ∙ its_kind (Ghost k p c) h in omega arith)
  says_clean n g (Undo k t l) h b = absurd (let same : 4 ≡ 5 = sym (ap kind_of b) ∙ its_kind (Undo k t l) h in omega arith)
  says_clean n g (Commit k t l) h b = absurd (let same : 4 ≡ 6 = sym (ap kind_of b) ∙ its_kind (Commit k t l) h in omega arith)
  says_clean n g (Abort k t) h b = absurd (let same : 4 ≡ 7 = sym (ap kind_of b) ∙ its_kind (Abort k t) h in omega arith)
  says_clean n g (Defined k l o) h b = absurd (let same : 4 ≡ 8 = sym (ap kind_of b) ∙ its_kind (Defined k l o) h in omega arith)

  -- ---- transactions

  same_undo : (t l u k : ℕ) → bytes.Undo t l ≡ bytes.Undo u k → (t ≡ u) × (l ≡ k)
  same_undo t l u k e = (cc, cc)

  same_commit : (t l s u k r : ℕ) → bytes.Commit t l s ≡ bytes.Commit u k r → (t ≡ u) × (l ≡ k)
  same_commit t l s u k r e = (cc, cc)

  same_abort : (t u : ℕ) → bytes.Abort t ≡ bytes.Abort u → t ≡ u
  same_abort t u e = cc

  same_schema : (l s k r : ℕ) (x y : List ℕ) → bytes.Schema l s x ≡ bytes.Schema k r y → (l ≡ k) × (x ≡ y)
  same_schema l s k r x y e = (cc, cc)

  pub says_undo : (u w : ℕ) (e : Event) → Says objects m e → in_bytes objects m.of ≡ bytes.Undo u w → e ≡ Undo m.number u w
  unfolding kind_in
  says_undo u w (Undo k t l) h b =
      let at = same_undo t l u w (sym (ap (λ (q : Numbered). in_bytes objects q.of) h) ∙ b) in
      let number : k ≡ m.number = sym (ap (λ (q : Numbered). q.number) h) in
      λ i. Undo (number i) (at.0 i) (at.1 i)
  says_undo u w (Kept x) h b = not_kept (Kept x) 5 h x.what refl (ap kind_of b) (omega arith)
  says_undo u w (Ghost k p c) h b = absurd (let same : 5 ≡ 3 = sym (ap kind_of b) ∙ its_kind (Ghost k p c) h in omega arith)
  says_undo u w (Clean k p) h b = absurd (let same : 5 ≡ 4 = sym (ap kind_of b) ∙ its_kind (Clean k p) h in omega arith)
  says_undo u w (Commit k t l) h b = absurd (let same : 5 ≡ 6 = sym (ap kind_of b) ∙ its_kind (Commit k t l) h in omega arith)
  says_undo u w (Abort k t) h b = absurd (let same : 5 ≡ 7 = sym (ap kind_of b) ∙ its_kind (Abort k t) h in omega arith)
  says_undo u w (Defined k l o) h b = absurd (let same : 5 ≡ 8 = sym (ap kind_of b) ∙ its_kind (Defined k l o) h in omega arith)

  pub says_commit : (u w s : ℕ) (e : Event) → Says objects m e → in_bytes objects m.of ≡ bytes.Commit u w s → e ≡ Commit m.number u w
  unfolding kind_in
  says_commit u w s (Commit k t l) h b =
      let at = same_commit t l h.0 u w s (sym (ap (λ (q : Numbered). in_bytes objects q.of) h.1) ∙ b) in
      let number : k ≡ m.number = sym (ap (λ (q : Numbered). q.number) h.1) in
      λ i. Commit (number i) (at.0 i) (at.1 i)
  says_commit u w s (Kept x) h b = not_kept (Kept x) 6 h x.what refl (ap kind_of b) (omega arith)
  says_commit u w s (Ghost k p c) h b = absurd (let same : 6 ≡ 3 = sym (ap kind_of b) ∙ its_kind (Ghost k p c) h in omega arith)
  says_commit u w s (Clean k p) h b = absurd (let same : 6 ≡ 4 = sym (ap kind_of b) ∙ its_kind (Clean k p) h in omega arith)
  says_commit u w s (Undo k t l) h b = absurd (let same : 6 ≡ 5 = sym (ap kind_of b) ∙ its_kind (Undo k t l) h in omega arith)
  says_commit u w s (Abort k t) h b = absurd (let same : 6 ≡ 7 = sym (ap kind_of b) ∙ its_kind (Abort k t) h in omega arith)
  says_commit u w s (Defined k l o) h b = absurd (let same : 6 ≡ 8 = sym (ap kind_of b) ∙ its_kind (Defined k l o) h in omega arith)

  pub says_abort : (u : ℕ) (e : Event) → Says objects m e → in_bytes objects m.of ≡ bytes.Abort u → e ≡ Abort m.number u
  unfolding kind_in
  says_abort u (Abort k t) h b =
      let at : t ≡ u = same_abort t u (sym (ap (λ (q : Numbered). in_bytes objects q.of) h) ∙ b) in
      let number : k ≡ m.number = sym (ap (λ (q : Numbered). q.number) h) in
      λ i. Abort (number i) (at i)
  says_abort u (Kept x) h b = not_kept (Kept x) 7 h x.what refl (ap kind_of b) (omega arith)
  says_abort u (Ghost k p c) h b = absurd (let same : 7 ≡ 3 = sym (ap kind_of b) ∙ its_kind (Ghost k p c) h in omega arith)
  says_abort u (Clean k p) h b = absurd (let same : 7 ≡ 4 = sym (ap kind_of b) ∙ its_kind (Clean k p) h in omega arith)
  says_abort u (Undo k t l) h b = absurd (let same : 7 ≡ 5 = sym (ap kind_of b) ∙ its_kind (Undo k t l) h in omega arith)
  says_abort u (Commit k t l) h b = absurd (let same : 7 ≡ 6 = sym (ap kind_of b) ∙ its_kind (Commit k t l) h in omega arith)
  says_abort u (Defined k l o) h b = absurd (let same : 7 ≡ 8 = sym (ap kind_of b) ∙ its_kind (Defined k l o) h in omega arith)

  pub says_defined : (w s : ℕ) (text : List ℕ) (e : Event) → Says objects m e → in_bytes objects m.of ≡ bytes.Schema w s text → (o : Object) × (e ≡ Defined m.number w o) × Creates objects text o
  unfolding kind_in
  says_defined w s text (Defined k l o) h b =
      let at = same_schema l h.0 w s h.1 text (sym (ap (λ (q : Numbered). in_bytes objects q.of) h.2) ∙ b) in
      let number : k ≡ m.number = sym (ap (λ (q : Numbered). q.number) h.2) in
      (o, (λ i. Defined (number i) (at.0 i) o), subst (λ x. Creates objects x o) at.1 h.3)
  says_defined w s text (Kept x) h b = not_kept (Kept x) 8 h x.what refl (ap kind_of b) (omega arith)
  says_defined w s text (Ghost k p c) h b = absurd (let same : 8 ≡ 3 = sym (ap kind_of b) ∙ its_kind (Ghost k p c) h in omega arith)
  says_defined w s text (Clean k p) h b = absurd (let same : 8 ≡ 4 = sym (ap kind_of b) ∙ its_kind (Clean k p) h in omega arith)
  says_defined w s text (Undo k t l) h b = absurd (let same : 8 ≡ 5 = sym (ap kind_of b) ∙ its_kind (Undo k t l) h in omega arith)
  says_defined w s text (Commit k t l) h b = absurd (let same : 8 ≡ 6 = sym (ap kind_of b) ∙ its_kind (Commit k t l) h in omega arith)
  says_defined w s text (Abort k t) h b = absurd (let same : 8 ≡ 7 = sym (ap kind_of b) ∙ its_kind (Abort k t) h in omega arith)

-- ---- a Delta that does not fit

same_delta : (t u v : ℕ) (group : List ℕ) (count : ℤ) (sums : List ℤ) (d : GroupDelta) → bytes.Delta t v group count sums ≡ bytes.Delta u d.view d.group d.count d.sums → d ≡ delta v group count sums
same_delta t u v group count sums d e =
    let a : v ≡ d.view = cc in
    let b : group ≡ d.group = cc in
    let n : count ≡ d.count = cc in
    let s : sums ≡ d.sums = cc in
    λ i. record { view = sym a i; group = sym b i; count = sym n i; sums = sym s i }

pub no_delta : (objects : Schema) (t v : ℕ) (group : List ℕ) (count : ℤ) (sums : List ℤ) → (IsKnown objects (Added (delta v group count sums)) → ⊥) → ReadsNone objects (bytes.Delta t v group count sums)
no_delta objects t v group count sums none u (Wrote c) known e = absurd (cc e)
no_delta objects t v group count sums none u (Added d) known e = none (subst (λ (x : GroupDelta). IsKnown objects (Added x)) (same_delta t u v group count sums d e) known)
