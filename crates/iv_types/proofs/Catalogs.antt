-- A catalog's definitions are found by number and by name.
use Rattle.std.proofs.Common.{◌≡◌, ℕ, zero, suc, ◌+◌, ◌-◌, ◌<◌, ◌≤◌, Bool, true, false, cond, List, [], ◌∷◌, ◌++◌, length, slice_get, Option, None, Some, Vec, refl, sym, ap, ◌∙◌, arith, inl, inr}
use Rattle.std.proofs.lemmas.Bool.{cases_lt}
use Rattle.std.proofs.lemmas.Option.{slice_get_within}
use mathlib.Core.Path.{subst}
use Rattle.std.specs.Option.{option_to_list}
use Rattle.std.proofs.lemmas.List.{map-append, append-nil}
use Rattle.std.proofs.lemmas.List.Sums.{sum_by-append, sum_by-cons}
use Rattle.std.proofs.lemmas.Option.{slice_get-map}
use Rattle.std.specs.Option.{option_map}
use Rattle.indexmap.specs.IndexMap.{IndexMap, insert_entry}
use Rattle.indexmap.proofs.CallerLemmas.{insert_entry-new}
use Rattle.std.specs.Str.{bytes_eq}
use Rattle.std.proofs.lemmas.Slice.Eq.{bytes_eq-Decides}
use Rattle.std.specs.Map.{lookup, values_of}
use Rattle.iv_types.specs.declared.catalog.Definition.{Definition}
use Rattle.iv_types.specs.declared.catalog.Definition.TheVariants.{Table, Index, View}
use Rattle.iv_types.specs.declared.limit.TheConstants.{MOST_OBJECTS}
use Rattle.iv_types.specs.Definitions.{Definitions, number_of, name_of, numbered, named, AreKept, AreNumbered, are_alike, how_many_alike, AreFew, AreNamed}

-- the second half of what stands at a place
second_of : {X Y : Type 0} (e : X × Y) (x : X) (y : Y) → Some e ≡ Some (x, y) → e.1 ≡ y
second_of e x y at = let same : e ≡ (x, y) = cc in ap (λ p. p.1) same

module _ {A : Type 0} where
  -- the definition at a place has the number of that place
  pub kept_number : (n i : ℕ) (es : List (Vec ℕ A × Definition)) (k : Vec ℕ A) (d : Definition) → AreKept n es → slice_get es i ≡ Some (k, d) → number_of d ≡ suc (n + i)
  kept_number n i [] k d kept at = absurd cc
  kept_number n zero (e ∷ es) k d kept at = ap number_of (sym (second_of e k d at)) ∙ kept.1 ∙ omega arith
  kept_number n (suc i) (e ∷ es) k d kept at = kept_number (suc n) i es k d kept.2 at ∙ omega arith

  -- so has that at a place among the definitions alone
  pub valued_number : (n i : ℕ) (es : List (Vec ℕ A × Definition)) (d : Definition) → AreKept n es → slice_get (values_of es) i ≡ Some d → number_of d ≡ suc (n + i)
  valued_number n i [] d kept at = absurd cc
  valued_number n zero (e ∷ es) d kept at = let same : e.1 ≡ d = cc in ap number_of (sym same) ∙ kept.1 ∙ omega arith
  valued_number n (suc i) (e ∷ es) d kept at = valued_number (suc n) i es d kept.2 at ∙ omega arith

  pub are_numbered : (es : List (Vec ℕ A × Definition)) → AreKept 0 es → AreNumbered (values_of es)
  are_numbered es kept zero d at = absurd cc
  are_numbered es kept (suc i) d at = valued_number 0 i es d kept at ∙ omega arith

  -- what the entry at a place says of the definition of a number
  pub from_entry : (n : ℕ) (es : List (Vec ℕ A × Definition)) (r : Option (Vec ℕ A × Definition)) → 0 < n → r ≡ slice_get es (n - 1) → numbered (values_of es) n ≡ option_map (λ e. e.1) r
  from_entry zero es r some at = absurd (omega (arith, some))
  from_entry (suc n) es r some at = slice_get-map (λ e. e.1) es n ∙ ap (λ x. option_map (λ e. e.1) x) (sym (at ∙ ap (slice_get es) (omega arith)))

  -- the look-up by key is the look-up by name
  pub lookup_is_named : (n : ℕ) (es : List (Vec ℕ A × Definition)) (name : List ℕ) → AreKept n es → lookup (λ k. bytes_eq name k.items) es ≡ named (values_of es) name
  lookup_is_named n [] name kept = refl
  lookup_is_named n (e ∷ es) name kept = rw (kept.0, lookup_is_named (suc n) es name kept.2) refl

  -- one more with the next number, under its name
  pub kept_more : (n : ℕ) (es : List (Vec ℕ A × Definition)) (k : Vec ℕ A) (d : Definition) → AreKept n es → k.items ≡ name_of d → number_of d ≡ suc (n + length es) → AreKept n (es ++ (k, d) ∷ [])
  kept_more n [] k d kept name number = (name, number ∙ omega arith, tt)
  kept_more n (e ∷ es) k d kept name number = (kept.0, kept.1, kept_more (suc n) es k d kept.2 name (number ∙ omega arith))

  -- a name that stands for nothing yet goes last
  pub added : {S : Type 0} (m : IndexMap (Vec ℕ A) Definition S) (k : Vec ℕ A) (d : Definition) → AreKept 0 m.entries → k.items ≡ name_of d → named (values_of m.entries) (name_of d) ≡ None
      → insert_entry (λ a b. bytes_eq a.items b.items) m.entries k d ≡ m.entries ++ (k, d) ∷ []
  added m k d kept name absent = insert_entry-new (λ a b. bytes_eq a.items b.items) m k d (lookup_is_named 0 m.entries k.items kept ∙ ap (named (values_of m.entries)) name ∙ absent)

  pub values_added : (es : List (Vec ℕ A × Definition)) (k : Vec ℕ A) (d : Definition) → values_of (es ++ (k, d) ∷ []) ≡ values_of es ++ d ∷ []
  values_added es k d = map-append (λ e. e.1) es ((k, d) ∷ [])

  -- without the last they are kept as they were
  pub kept_less : (n : ℕ) (es : List (Vec ℕ A × Definition)) (e : Vec ℕ A × Definition) → AreKept n (es ++ e ∷ []) → AreKept n es
  kept_less n [] e kept = tt
  kept_less n (d ∷ es) e kept = (kept.0, kept.1, kept_less (suc n) es e kept.2)

-- ---- how many there are of each kind

abbrev one : Bool → ℕ
one b = cond b 1 0

alike_cons : (d e : Definition) (ds : Definitions) → how_many_alike d (e ∷ ds) ≡ one (are_alike d e) + how_many_alike d ds
alike_cons d e ds = sum_by-cons (λ x. one (are_alike d x)) e ds

alike_more : (d e : Definition) (ds : Definitions) → how_many_alike d (ds ++ e ∷ []) ≡ how_many_alike d ds + one (are_alike d e)
alike_more d e ds = sum_by-append (λ x. one (are_alike d x)) ds (e ∷ []) ∙ ap (λ n. how_many_alike d ds + n) (alike_cons d e []) ∙ omega arith

-- definitions of one kind are as many
same_kind : (d e : Definition) → are_alike d e ≡ true → (ds : Definitions) → how_many_alike d ds ≡ how_many_alike e ds
same_kind (Table a) (Table b) same ds = refl
same_kind (Index a) (Index b) same ds = refl
same_kind (View a) (View b) same ds = refl
same_kind (Table a) (Index b) same ds = absurd cc
same_kind (Table a) (View b) same ds = absurd cc
same_kind (Index a) (Table b) same ds = absurd cc
same_kind (Index a) (View b) same ds = absurd cc
same_kind (View a) (Table b) same ds = absurd cc
same_kind (View a) (Index b) same ds = absurd cc

pub few_more : (ds : Definitions) (e : Definition) → AreFew ds → how_many_alike e ds < MOST_OBJECTS → AreFew (ds ++ e ∷ [])
few_more ds e few room d = by (are_alike d e) refl
  where
    by : (b : Bool) → are_alike d e ≡ b → how_many_alike d (ds ++ e ∷ []) ≤ MOST_OBJECTS
    by true is = omega (arith, alike_more d e ds, ap {B = ℕ} (λ b. cond b 1 0) is, same_kind d e is ds, room)
    by false is = omega (arith, alike_more d e ds, ap {B = ℕ} (λ b. cond b 1 0) is, few d)

pub few_less : (ds : Definitions) (e : Definition) → AreFew (ds ++ e ∷ []) → AreFew ds
few_less ds e few d = omega (arith, alike_more d e ds, few d)

abbrev a_table : Definition
a_table = Table (record { number = 0; name = []; columns = []; primary = [] })

abbrev an_index : Definition
an_index = Index (record { number = 0; name = []; table = 0; columns = [] })

abbrev a_view : Definition
a_view = View (record { number = 0; name = []; names = []; first = 0; second = None; condition = None; group = []; sums = [] })

-- each is of one kind
counted : (ds : Definitions) → length ds ≡ how_many_alike a_table ds + how_many_alike an_index ds + how_many_alike a_view ds
counted [] = refl
counted (Table t ∷ ds) = omega (arith, counted ds, alike_cons a_table (Table t) ds, alike_cons an_index (Table t) ds, alike_cons a_view (Table t) ds)
counted (Index i ∷ ds) = omega (arith, counted ds, alike_cons a_table (Index i) ds, alike_cons an_index (Index i) ds, alike_cons a_view (Index i) ds)
counted (View v ∷ ds) = omega (arith, counted ds, alike_cons a_table (View v) ds, alike_cons an_index (View v) ds, alike_cons a_view (View v) ds)

pub few_all : (ds : Definitions) → AreFew ds → length ds ≤ 192
few_all ds few = omega (arith, counted ds, few a_table, few an_index, few a_view)

-- ---- names

pub named_self : (d : Definition) → bytes_eq (name_of d) (name_of d) ≡ true
named_self d = (bytes_eq-Decides (name_of d) (name_of d)).1 refl

-- what is found by a name among the first ones is found among all
pub named_front : (ds es : Definitions) (name : List ℕ) (d : Definition) → named ds name ≡ Some d → named (ds ++ es) name ≡ Some d
named_front [] es name d e = absurd cc
named_front (x ∷ ds) es name d e = by (bytes_eq name (name_of x)) (named_front ds es name d) e
  where
    by : (b : Bool) → (named ds name ≡ Some d → named (ds ++ es) name ≡ Some d) → cond b (Some x) (named ds name) ≡ Some d → cond b (Some x) (named (ds ++ es) name) ≡ Some d
    by true rest f = f
    by false rest f = rest f

-- and else it is the one behind them that is found
named_behind : (ds : Definitions) (e : Definition) (name : List ℕ) → named ds name ≡ None → named (ds ++ e ∷ []) name ≡ named (e ∷ []) name
named_behind [] e name none = refl
named_behind (x ∷ ds) e name none = by (bytes_eq name (name_of x)) (named_behind ds e name) none
  where
    by : (b : Bool) → (named ds name ≡ None → named (ds ++ e ∷ []) name ≡ named (e ∷ []) name) → cond b (Some x) (named ds name) ≡ None → cond b (Some x) (named (ds ++ e ∷ []) name) ≡ named (e ∷ []) name
    by true rest f = absurd cc
    by false rest f = rest f

-- a definition that is there is found by its name, or one before it is
named_some : (ds : Definitions) (i : ℕ) (d : Definition) → slice_get ds i ≡ Some d → named ds (name_of d) ≡ None → ⊥
named_some [] i d at none = absurd cc
named_some (x ∷ ds) zero d at none =
    let same : x ≡ d = some_defined x d at in
    let here : bytes_eq (name_of d) (name_of x) ≡ true = ap (λ y. bytes_eq (name_of d) (name_of y)) same ∙ named_self d in
    let found : named (x ∷ ds) (name_of d) ≡ Some x = ap (λ b. cond b (Some x) (named ds (name_of d))) here in
    absurd cc
  where
    some_defined : (a b : Definition) → Some a ≡ Some b → a ≡ b
    some_defined a b e = cc
named_some (x ∷ ds) (suc i) d at none = by (bytes_eq (name_of d) (name_of x)) (named_some ds i d at) none
  where
    by : (b : Bool) → (named ds (name_of d) ≡ None → ⊥) → cond b (Some x) (named ds (name_of d)) ≡ None → ⊥
    by true rest f = absurd cc
    by false rest f = rest f

get_front : (ds es : Definitions) (i : ℕ) → i < length ds → slice_get (ds ++ es) i ≡ slice_get ds i
get_front [] es i lt = absurd (omega arith)
get_front (x ∷ ds) es zero lt = refl
get_front (x ∷ ds) es (suc i) lt = get_front ds es i (omega arith)

-- one that stands behind all but the last is the last
is_last : (ds : Definitions) (e : Definition) (i : ℕ) (d : Definition) → length ds ≤ i → slice_get (ds ++ e ∷ []) i ≡ Some d → e ≡ d
is_last [] e zero d le at = cc
is_last [] e (suc i) d le at = absurd cc
is_last (x ∷ ds) e zero d le at = absurd (omega arith)
is_last (x ∷ ds) e (suc i) d le at = is_last ds e i d (omega arith) at

-- each keeps its name where one is added that has another
pub named_more : (ds : Definitions) (e : Definition) → AreNamed ds → named ds (name_of e) ≡ None → AreNamed (ds ++ e ∷ [])
named_more ds e names none zero d at = absurd cc
named_more ds e names none (suc i) d at = elim (cases_lt i (length ds)) [
  | inl lt ↦ named_front ds (e ∷ []) (name_of d) d (names (suc i) d (sym (get_front ds (e ∷ []) i lt) ∙ at))
  | inr le ↦
      let last : e ≡ d = is_last ds e i d le at in
      named_behind ds e (name_of d) (ap (λ x. named ds (name_of x)) (sym last) ∙ none)
      ∙ (ap (λ b. cond b (Some e) None) (ap (λ x. bytes_eq (name_of d) (name_of x)) last ∙ named_self d) ∙ ap Some last)
]

-- and where the last one goes
pub named_less : (ds : Definitions) (e : Definition) → AreNamed (ds ++ e ∷ []) → AreNamed ds
named_less ds e names zero d at = absurd cc
named_less ds e names (suc i) d at = by (named ds (name_of d)) refl
  where
    all : named (ds ++ e ∷ []) (name_of d) ≡ Some d
    all = names (suc i) d (get_front ds (e ∷ []) i (slice_get_within ds i d at) ∙ at)

    by : (r : Option Definition) → named ds (name_of d) ≡ r → named ds (name_of d) ≡ Some d
    by None none = absurd (named_some ds i d at none)
    by (Some x) some = some ∙ (sym (named_front ds (e ∷ []) (name_of d) x some) ∙ all)

module _ {A : Type 0} where
  abbrev Both : List (Vec ℕ A × Definition) → Type 0
  Both es = AreKept 0 es × AreFew (values_of es) × AreNamed (values_of es)

  -- what is left without the last, if there is one
  pub without_last : (new : List (Vec ℕ A × Definition)) (last : Option (Vec ℕ A × Definition)) → Both (new ++ option_to_list last) → Both new
  without_last new None both = subst Both (append-nil new) both
  without_last new (Some e) both = (kept_less 0 new e both.0, few_less (values_of new) e.1 (subst AreFew (values_added new e.0 e.1) both.1), named_less (values_of new) e.1 (subst AreNamed (values_added new e.0 e.1) both.2))
