-- One column after the other.
use Rattle.std.proofs.Common.{◌≡◌, ◌≢◌, ℕ, zero, suc, ◌+◌, ◌-◌, ◌<◌, ◌≤◌, Bool, false, ◌==◌, List, [], ◌∷◌, ◌++◌, length, get_or, take, drop, refl, sym, ap, subst, ◌∙◌, append_assoc, arith}
use Rattle.std.specs.Prelude.{IsTrue, ◌↔◌, true}
use Rattle.std.specs.Str.{IsUtf8, is_utf8}
use Rattle.std.proofs.lemmas.Str.{IsUtf8-from_is_utf8, is_utf8-from_IsUtf8}
use Rattle.std.proofs.lemmas.List.{append-nil, length-append, length-drop, length-map, get_or-map, drop_more, drop_all, take_more, take_all, take-append-drop}
use Rattle.iv_types.specs.declared.value.Kind.{Kind}
use Rattle.iv_types.specs.declared.value.Value.{Value}
use Rattle.iv_types.specs.Encoding.{Fits, FitAll, columns_bytes, kinds_of}
use Rattle.iv_types.specs.BadRow.{Rule, LeftOver, StopsAt, IsBad}
use Rattle.iv_types.specs.declared.catalog.TableDef.{TableDef}
use Rattle.iv_types.specs.declared.statement.ColumnDef.{ColumnDef}
use Rattle.row_codec.specs.declared.fault.RowFault.{RowFault}
use Rattle.row_codec.specs.declared.fault.RowFault.TheVariants.{BadRow, NoMemory}
use Rattle.row_codec.specs.Columns.{Blames, IsBroken}

pub fit_lengths : (ks : List Kind) (vs : List Value) → FitAll ks vs → length ks ≡ length vs
fit_lengths [] [] h = refl
fit_lengths [] (v ∷ vs) h = absurd h
fit_lengths (k ∷ ks) [] h = absurd h
fit_lengths (k ∷ ks) (v ∷ vs) h = ap suc (fit_lengths ks vs h.1)

pub fit_push : (ks : List Kind) (vs : List Value) (k : Kind) (v : Value) → FitAll ks vs → Fits k v → FitAll (ks ++ k ∷ []) (vs ++ v ∷ [])
fit_push [] [] k v h f = (f, tt)
fit_push [] (w ∷ vs) k v h f = absurd h
fit_push (j ∷ ks) [] k v h f = absurd h
fit_push (j ∷ ks) (w ∷ vs) k v h f = (h.0, fit_push ks vs k v h.1 f)

pub columns-push : (column : Kind → Value → List ℕ) (ks : List Kind) (vs : List Value) (k : Kind) (v : Value) → FitAll ks vs → columns_bytes column (ks ++ k ∷ []) (vs ++ v ∷ []) ≡ columns_bytes column ks vs ++ column k v
columns-push column [] [] k v h = append-nil (column k v)
columns-push column [] (w ∷ vs) k v h = absurd h
columns-push column (j ∷ ks) [] k v h = absurd h
columns-push column (j ∷ ks) (w ∷ vs) k v h =
    ap (λ (t : List ℕ). column j w ++ t) (columns-push column ks vs k v h.1) ∙ sym (append_assoc (column j w) (columns_bytes column ks vs) (column k v))

pub fit_drop : (ks : List Kind) (vs : List Value) (i : ℕ) → FitAll ks vs → FitAll (drop i ks) (drop i vs)
fit_drop ks vs zero h = h
fit_drop [] [] (suc i) h = tt
fit_drop [] (v ∷ vs) (suc i) h = absurd h
fit_drop (k ∷ ks) [] (suc i) h = absurd h
fit_drop (k ∷ ks) (v ∷ vs) (suc i) h = fit_drop ks vs i h.1

-- ---- writing

-- the first i columns are written, and the others are still to come
pub record Written (column : Kind → Value → List ℕ) (ks : List Kind) (vs : List Value) (i : ℕ) (out : List ℕ) : Type 0 where
  pub fit : FitAll (drop i ks) (drop i vs)
  pub bytes : out ++ columns_bytes column (drop i ks) (drop i vs) ≡ columns_bytes column ks vs

pub written_none : {column : Kind → Value → List ℕ} {ks : List Kind} {vs : List Value} → FitAll ks vs → Written column ks vs 0 []
written_none h = record { fit = h; bytes = refl }

pub written_inside : {column : Kind → Value → List ℕ} {ks : List Kind} {vs : List Value} {i : ℕ} {out : List ℕ} → Written column ks vs i out → i < length ks → i < length vs
written_inside {ks = ks} {vs = vs} {i = i} w lt = omega (arith, fit_lengths (drop i ks) (drop i vs) w.fit, length-drop i ks, length-drop i vs)

cut_kinds : (ks : List Kind) (i : ℕ) (k : Kind) → i < length ks → k ≡ get_or ks i k → drop i ks ≡ k ∷ drop (i + 1) ks
cut_kinds ks i k lt is = drop_more ks i k lt ∙ ap (λ (x : Kind). x ∷ drop (i + 1) ks) (sym is)

cut_values : (vs : List Value) (i : ℕ) (v : Value) → i < length vs → v ≡ get_or vs i v → drop i vs ≡ v ∷ drop (i + 1) vs
cut_values vs i v lt is = drop_more vs i v lt ∙ ap (λ (x : Value). x ∷ drop (i + 1) vs) (sym is)

written_next : {column : Kind → Value → List ℕ} {ks : List Kind} {vs : List Value} {i : ℕ} {out : List ℕ} → Written column ks vs i out → (k : Kind) (v : Value) → i < length ks → k ≡ get_or ks i k → v ≡ get_or vs i v
    → FitAll (k ∷ drop (i + 1) ks) (v ∷ drop (i + 1) vs)
written_next {ks = ks} {vs = vs} {i = i} w k v lt ek ev =
    subst (λ (t : List Value). FitAll (k ∷ drop (i + 1) ks) t) (cut_values vs i v (written_inside w lt) ev) (subst (λ (t : List Kind). FitAll t (drop i vs)) (cut_kinds ks i k lt ek) w.fit)

pub written_fits : {column : Kind → Value → List ℕ} {ks : List Kind} {vs : List Value} {i : ℕ} {out : List ℕ} → Written column ks vs i out → (k : Kind) (v : Value) → i < length ks → k ≡ get_or ks i k → v ≡ get_or vs i v
    → Fits k v
written_fits w k v lt ek ev = (written_next w k v lt ek ev).0

pub written_more : {column : Kind → Value → List ℕ} {ks : List Kind} {vs : List Value} {i : ℕ} {out : List ℕ} → Written column ks vs i out → (k : Kind) (v : Value) (new : List ℕ) → i < length ks → k ≡ get_or ks i k → v ≡ get_or vs i v
    → new ≡ out ++ column k v → Written column ks vs (i + 1) new
written_more {column = column} {ks = ks} {vs = vs} {i = i} {out = out} w k v new lt ek ev is =
    let others = columns_bytes column (drop (i + 1) ks) (drop (i + 1) vs) in
    let cut : columns_bytes column (drop i ks) (drop i vs) ≡ column k v ++ others =
    ap (λ (t : List Kind). columns_bytes column t (drop i vs)) (cut_kinds ks i k lt ek) ∙ ap (λ (t : List Value). columns_bytes column (k ∷ drop (i + 1) ks) t) (cut_values vs i v (written_inside w lt) ev) in
    record {
      fit = (written_next w k v lt ek ev).1;
      bytes = ap (λ (t : List ℕ). t ++ others) is ∙ append_assoc out (column k v) others ∙ ap (λ (t : List ℕ). out ++ t) (sym cut) ∙ w.bytes;
    }

pub written_all : {column : Kind → Value → List ℕ} {ks : List Kind} {vs : List Value} {i : ℕ} {out : List ℕ} → Written column ks vs i out → length ks ≤ i → out ≡ columns_bytes column ks vs
written_all {column = column} {ks = ks} {vs = vs} {i = i} {out = out} w le =
    sym (append-nil out) ∙ ap (λ (t : List Kind). out ++ columns_bytes column t (drop i vs)) (sym (drop_all i ks le)) ∙ w.bytes

-- ---- reading

-- the first i columns are read
pub record Taken (column : Kind → Value → List ℕ) (ks : List Kind) (bytes : List ℕ) (i : ℕ) (vs : List Value) (rest : List ℕ) : Type 0 where
  pub fit : FitAll (take i ks) vs
  pub text : bytes ≡ columns_bytes column (take i ks) vs ++ rest

pub taken_none : {column : Kind → Value → List ℕ} {ks : List Kind} {bytes : List ℕ} → Taken column ks bytes 0 [] bytes
taken_none = record { fit = tt; text = refl }

pub taken_length : {column : Kind → Value → List ℕ} {ks : List Kind} {bytes : List ℕ} {i : ℕ} {vs : List Value} {rest : List ℕ} → Taken column ks bytes i vs rest
    → length bytes ≡ length (columns_bytes column (take i ks) vs) + length rest
taken_length {column = column} {ks = ks} {i = i} {vs = vs} {rest = rest} t = ap length t.text ∙ length-append (columns_bytes column (take i ks) vs) rest

pub taken_shorter : {column : Kind → Value → List ℕ} {ks : List Kind} {bytes : List ℕ} {i : ℕ} {vs : List Value} {rest : List ℕ} → Taken column ks bytes i vs rest → length rest ≤ length bytes
taken_shorter t = omega (arith, taken_length t)

pub taken_more : {column : Kind → Value → List ℕ} {ks : List Kind} {bytes : List ℕ} {i : ℕ} {vs : List Value} {rest : List ℕ} → Taken column ks bytes i vs rest
    → (k : Kind) (v : Value) (after : List ℕ) → i < length ks → k ≡ get_or ks i k → Fits k v → rest ≡ column k v ++ after → Taken column ks bytes (i + 1) (vs ++ v ∷ []) after
taken_more {column = column} {ks = ks} {bytes = bytes} {i = i} {vs = vs} {rest = rest} t k v after lt ek f is =
    let more : take (i + 1) ks ≡ take i ks ++ k ∷ [] = take_more ks i k lt ∙ ap (λ (x : Kind). take i ks ++ x ∷ []) (sym ek) in
    let pushed = columns-push column (take i ks) vs k v t.fit in
    record {
      fit = subst (λ (l : List Kind). FitAll l (vs ++ v ∷ [])) (sym more) (fit_push (take i ks) vs k v t.fit f);
      text = t.text ∙ ap (λ (l : List ℕ). columns_bytes column (take i ks) vs ++ l) is ∙ sym (append_assoc (columns_bytes column (take i ks) vs) (column k v) after)
          ∙ ap (λ (l : List ℕ). l ++ after) (sym pushed) ∙ ap (λ (l : List Kind). columns_bytes column l (vs ++ v ∷ []) ++ after) (sym more);
    }

pub taken_broken : {column : Kind → Value → List ℕ} {Breaks : Kind → Rule → List ℕ → Type 0} {ks : List Kind} {bytes : List ℕ} {i : ℕ} {vs : List Value} {rest : List ℕ} {begin number place : ℕ} → Taken column ks bytes i vs rest
    → (k : Kind) → i < length ks → k ≡ get_or ks i k → begin ≡ length bytes - length rest → IsBroken Breaks k rest begin number place → IsBad column Breaks ks bytes number place
taken_broken {column = column} {Breaks = Breaks} {ks = ks} {bytes = bytes} {i = i} {vs = vs} {rest = rest} t k lt ek begins b = record {
  rule = b.rule;
  number_is = b.number_is;
  before = take i ks;
  behind = drop i ks;
  split = sym (take-append-drop i ks);
  values = vs;
  fit = t.fit;
  rest = rest;
  text = t.text;
  place_is = b.place_is ∙ begins ∙ omega (arith, taken_length t);
  stops = subst (λ (l : List Kind). StopsAt Breaks l b.rule rest) (sym (cut_kinds ks i k lt ek)) (b.breaks, b.least);
}

-- the fault that a column tells of, or that memory ran out
pub taken_fails : {column : Kind → Value → List ℕ} (Breaks : Kind → Rule → List ℕ → Type 0) {ks : List Kind} {bytes : List ℕ} {i : ℕ} {vs : List Value} {rest : List ℕ} {begin : ℕ} → Taken column ks bytes i vs rest
    → (k : Kind) → i < length ks → k ≡ get_or ks i k → begin ≡ length bytes - length rest → (fault : RowFault) → Blames (IsBroken Breaks k rest begin) fault → Blames (IsBad column Breaks ks bytes) fault
taken_fails Breaks t k lt ek begins (BadRow number place) b = taken_broken t k lt ek begins b
taken_fails Breaks t k lt ek begins NoMemory b = tt

pub taken_over : {column : Kind → Value → List ℕ} {Breaks : Kind → Rule → List ℕ → Type 0} {ks : List Kind} {bytes : List ℕ} {i : ℕ} {vs : List Value} {rest : List ℕ} → Taken column ks bytes i vs rest
    → (place : ℕ) → length ks ≤ i → 0 < length rest → place ≡ length bytes - length rest → IsBad column Breaks ks bytes 5 place
taken_over {column = column} {Breaks = Breaks} {ks = ks} {bytes = bytes} {i = i} {vs = vs} {rest = rest} t place le some is =
    let filled : rest ≢ [] = λ e. omega (arith, some, ap length e) in
    record {
      rule = LeftOver;
      number_is = refl;
      before = take i ks;
      behind = drop i ks;
      split = sym (take-append-drop i ks);
      values = vs;
      fit = t.fit;
      rest = rest;
      text = t.text;
      place_is = is ∙ omega (arith, taken_length t);
      stops = subst (λ (l : List Kind). StopsAt Breaks l LeftOver rest) (sym (drop_all i ks le)) (refl, filled);
    }

pub taken_all : {column : Kind → Value → List ℕ} {ks : List Kind} {bytes : List ℕ} {i : ℕ} {vs : List Value} {rest : List ℕ} → Taken column ks bytes i vs rest → length ks ≤ i → length rest ≡ 0
    → FitAll ks vs × (bytes ≡ columns_bytes column ks vs)
taken_all {column = column} {ks = ks} {bytes = bytes} {i = i} {vs = vs} {rest = []} t le none =
    let all : take i ks ≡ ks = take_all i ks le in
    (subst (λ (l : List Kind). FitAll l vs) all t.fit, t.text ∙ append-nil (columns_bytes column (take i ks) vs) ∙ ap (λ (l : List Kind). columns_bytes column l vs) all)
taken_all {rest = b ∷ rest} t le none = absurd (omega (arith, none))

-- ---- fitting

-- the first i values fit
pub record Fitting (ks : List Kind) (vs : List Value) (i : ℕ) : Type 0 where
  pub same : length ks ≡ length vs
  pub fit : FitAll (take i ks) (take i vs)

pub fitting_more : {ks : List Kind} {vs : List Value} {i : ℕ} → Fitting ks vs i → (k : Kind) (v : Value) → i < length ks → k ≡ get_or ks i k → v ≡ get_or vs i v → Fits k v → Fitting ks vs (i + 1)
fitting_more {ks = ks} {vs = vs} {i = i} h k v lt ek ev f =
    let inside : i < length vs = omega (arith, h.same, lt) in
    let kinds : take (i + 1) ks ≡ take i ks ++ k ∷ [] = take_more ks i k lt ∙ ap (λ (x : Kind). take i ks ++ x ∷ []) (sym ek) in
    let values : take (i + 1) vs ≡ take i vs ++ v ∷ [] = take_more vs i v inside ∙ ap (λ (x : Value). take i vs ++ x ∷ []) (sym ev) in
    record { same = h.same; fit = subst (λ (l : List Kind). FitAll l (take (i + 1) vs)) (sym kinds) (subst (λ (l : List Value). FitAll (take i ks ++ k ∷ []) l) (sym values) (fit_push (take i ks) (take i vs) k v h.fit f)) }

pub fitting_all : {ks : List Kind} {vs : List Value} {i : ℕ} → Fitting ks vs i → length ks ≤ i → FitAll ks vs
fitting_all {ks = ks} {vs = vs} {i = i} h le =
    subst (λ (l : List Kind). FitAll l vs) (take_all i ks le) (subst (λ (l : List Value). FitAll (take i ks) l) (take_all i vs (omega (arith, h.same, le))) h.fit)

-- the answer no, and why
pub refuted : (ks : List Kind) (vs : List Value) → (FitAll ks vs → ⊥) → IsTrue false ↔ FitAll ks vs
refuted ks vs wrong = (λ t. absurd (cc t), λ h. absurd (wrong h))

-- where all fit, so does each
pub fits_at : (ks : List Kind) (vs : List Value) (i : ℕ) (k : Kind) (v : Value) → FitAll ks vs → i < length ks → k ≡ get_or ks i k → v ≡ get_or vs i v → Fits k v
fits_at ks vs i k v h lt ek ev =
    let inside : i < length vs = omega (arith, lt, fit_lengths ks vs h) in
    let both : FitAll (k ∷ drop (i + 1) ks) (v ∷ drop (i + 1) vs) =
    subst (λ (t : List Value). FitAll (k ∷ drop (i + 1) ks) t) (cut_values vs i v inside ev) (subst (λ (t : List Kind). FitAll t (drop i vs)) (cut_kinds ks i k lt ek) (fit_drop ks vs i h)) in
    both.0

-- ---- the columns of a table

pub kind_at : (table : TableDef) (columns : List ColumnDef) (i : ℕ) (column : ColumnDef) → columns ≡ table.columns → i < length columns → column ≡ get_or columns i column → column.kind ≡ get_or (kinds_of table) i column.kind
kind_at table columns i column is lt at =
    ap (λ (x : ColumnDef). x.kind) (at ∙ ap (λ (l : List ColumnDef). get_or l i column) is) ∙ sym (get_or-map (λ (x : ColumnDef). x.kind) table.columns i column column.kind (omega (arith, lt, ap length is)))

pub count_kinds : (table : TableDef) (columns : List ColumnDef) → columns ≡ table.columns → length (kinds_of table) ≡ length columns
count_kinds table columns is = length-map table.columns (λ (x : ColumnDef). x.kind) ∙ ap length (sym is)

-- what a test for nothing left tells
pub some_left : (n : ℕ) (test : Bool) → test ≡ (n == 0) → test ≡ false → 0 < n
some_left zero test is left = absurd (cc (is, left))
some_left (suc n) test is left = omega arith

-- ---- texts

pub same_test : (bytes : List ℕ) (b : Bool) → (IsTrue b ↔ IsUtf8 bytes) → b ≡ is_utf8 bytes
same_test bytes true h = sym (is_utf8-from_IsUtf8 bytes (h.0 refl))
same_test bytes false h = elim (is_utf8 bytes) as (λ t. is_utf8 bytes ≡ t → false ≡ t) [ true ↦ λ e. h.1 (IsUtf8-from_is_utf8 bytes e) | false ↦ λ e. refl ] refl
