-- CREATE statements that are known to be written in some text, and whether a statement is one of them.
use Rattle.std.specs.Prelude.{◌≡◌, ℕ, Bool, true, false, List, [], ◌∷◌, Option, Some, None}
use mathlib.Core.Path.{refl, subst}
use Rattle.std.specs.Str.{bytes_eq}
use Rattle.std.proofs.lemmas.Slice.Eq.{bytes_eq-Decides}
use Rattle.iv_types.specs.declared.value.Kind.{Kind}
use Rattle.iv_types.specs.declared.value.Kind.TheVariants.{Int, Huge, Text}
use Rattle.iv_types.specs.declared.expression.Op.{Op}
use Rattle.iv_types.specs.declared.expression.Op.TheVariants.{Equal}
use Rattle.iv_types.specs.declared.expression.Ref.{Ref}
use Rattle.iv_types.specs.declared.statement.ColumnDef.{ColumnDef}
use Rattle.iv_types.specs.declared.statement.Relation.{Relation}
use Rattle.iv_types.specs.Syntax.{Tree, JoinTree, ItemTree, QueryTree, StatementTree, named, pair, all, count, sum, plain, create_table, create_index, create_view}
use Rattle.txn_machine.specs.May.{IsWritten}
use Rattle.script_runs.specs.Scripts.{Typed, IsSpelled}
use Rattle.script_runs.specs.Creating.{sale_table, shop_view, second_sale, by_index}
use Rattle.script_runs.specs.Joining.{store_table, sale_shop, by_region}
use Rattle.script_runs.proofs.Spelled.{second_sale_spelled, index_spelled, sale_spelled, store_spelled, sale_shop_spelled, shop_view_spelled, by_region_spelled}

-- ---- what is known to be equal

abbrev of_one : {P Q : Type 0} → (P → Q) → Option P → Option Q
of_one f None = None
of_one f (Some p) = Some (f p)

abbrev of_two : {P Q R : Type 0} → (P → Q → R) → Option P → Option Q → Option R
of_two f None q = None
of_two f (Some p) None = None
of_two f (Some p) (Some q) = Some (f p q)

abbrev of_three : {P Q R S : Type 0} → (P → Q → R → S) → Option P → Option Q → Option R → Option S
of_three f None q r = None
of_three f (Some p) q r = of_two (f p) q r

abbrev of_five : {P Q R S U V : Type 0} → (P → Q → R → S → U → V) → Option P → Option Q → Option R → Option S → Option U → Option V
of_five f None q r s u = None
of_five f (Some p) None r s u = None
of_five f (Some p) (Some q) r s u = of_three (f p q) r s u

abbrev by_test : (a b : List ℕ) (test : Bool) → bytes_eq a b ≡ test → Option (a ≡ b)
by_test a b true e = Some ((bytes_eq-Decides a b).0 e)
by_test a b false e = None

abbrev same_bytes : (a b : List ℕ) → Option (a ≡ b)
same_bytes a b = by_test a b (bytes_eq a b) refl

module _ {X : Type 0} (same : (a b : X) → Option (a ≡ b)) where
  abbrev same_list : (as_ bs : List X) → Option (as_ ≡ bs)
  same_list [] [] = Some refl
  same_list (a ∷ as_) (b ∷ bs) = of_two (λ e f j. e j ∷ f j) (same a b) (same_list as_ bs)
  same_list _ _ = None

  abbrev same_perhaps : (a b : Option X) → Option (a ≡ b)
  same_perhaps None None = Some refl
  same_perhaps (Some a) (Some b) = of_one (λ e j. Some (e j)) (same a b)
  same_perhaps _ _ = None

-- ---- statements

abbrev same_kind : (a b : Kind) → Option (a ≡ b)
same_kind Int Int = Some refl
same_kind Huge Huge = Some refl
same_kind Text Text = Some refl
same_kind _ _ = None

abbrev same_column : (a b : ColumnDef) → Option (a ≡ b)
same_column a b = of_two (λ e f j. record { name = e j; kind = f j }) (same_bytes a.name b.name) (same_kind a.kind b.kind)

abbrev same_ref : (a b : Ref) → Option (a ≡ b)
same_ref a b = of_two (λ e f j. record { qualifier = e j; name = f j }) (same_perhaps same_bytes a.qualifier b.qualifier) (same_bytes a.name b.name)

abbrev same_op : (a b : Op) → Option (a ≡ b)
same_op Equal Equal = Some refl
same_op _ _ = None

-- expressions of columns that are equal
abbrev same_tree : (a b : Tree) → Option (a ≡ b)
same_tree (named a) (named b) = of_one (λ e j. named (e j)) (same_ref a b)
same_tree (pair o a b) (pair p c d) = of_three (λ e f g j. pair (e j) (f j) (g j)) (same_op o p) (same_tree a c) (same_tree b d)
same_tree _ _ = None

abbrev same_item : (a b : ItemTree) → Option (a ≡ b)
same_item all all = Some refl
same_item (count a) (count b) = of_one (λ e j. count (e j)) (same_perhaps same_bytes a b)
same_item (sum r a) (sum q b) = of_two (λ e f j. sum (e j) (f j)) (same_ref r q) (same_perhaps same_bytes a b)
same_item (plain x a) (plain y b) = of_two (λ e f j. plain (e j) (f j)) (same_tree x y) (same_perhaps same_bytes a b)
same_item _ _ = None

abbrev same_relation : (a b : Relation) → Option (a ≡ b)
same_relation a b = of_two (λ e f j. record { name = e j; alias = f j }) (same_bytes a.name b.name) (same_perhaps same_bytes a.alias b.alias)

abbrev same_join : (a b : JoinTree) → Option (a ≡ b)
same_join a b = of_two (λ e f j. record { relation = e j; on = f j }) (same_relation a.relation b.relation) (same_tree a.on b.on)

abbrev same_query : (a b : QueryTree) → Option (a ≡ b)
same_query a b =
    of_five (λ e f g h k j. record { items = e j; first = f j; joins = g j; condition = h j; group = k j })
    (same_list same_item a.items b.items) (same_relation a.first b.first) (same_list same_join a.joins b.joins) (same_perhaps same_tree a.condition b.condition) (same_list same_ref a.group b.group)

abbrev same_creation : (a b : StatementTree) → Option (a ≡ b)
same_creation (create_table n cs ks) (create_table m ds ls) = of_three (λ e f g j. create_table (e j) (f j) (g j)) (same_bytes n m) (same_list same_column cs ds) (same_list same_bytes ks ls)
same_creation (create_index n t cs) (create_index m u ds) = of_three (λ e f g j. create_index (e j) (f j) (g j)) (same_bytes n m) (same_bytes t u) (same_list same_bytes cs ds)
same_creation (create_view n q) (create_view m r) = of_two (λ e f j. create_view (e j) (f j)) (same_bytes n m) (same_query q r)
same_creation _ _ = None

-- ---- those that are known

pub record Known : Type 0 where
  pub typed : Typed
  pub is : IsSpelled typed

abbrev or_else : (statement : StatementTree) (k : Known) → Option (k.typed.statement ≡ statement) → Option (IsWritten statement) → Option (IsWritten statement)
or_else statement k (Some e) others = Some (subst IsWritten e (k.typed.text, k.is))
or_else statement k None others = others

abbrev among : List Known → (statement : StatementTree) → Option (IsWritten statement)
among [] statement = None
among (k ∷ ks) statement = or_else statement k (same_creation k.typed.statement statement) (among ks statement)

abbrev pub book : (statement : StatementTree) → Option (IsWritten statement)
book = among (
    record { typed = shop_view; is = shop_view_spelled } ∷ record { typed = second_sale; is = second_sale_spelled } ∷ record { typed = by_index; is = index_spelled } ∷ record { typed = sale_table; is = sale_spelled }
    ∷ record { typed = store_table; is = store_spelled } ∷ record { typed = sale_shop; is = sale_shop_spelled } ∷ record { typed = by_region; is = by_region_spelled } ∷ [])
