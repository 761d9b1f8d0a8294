-- The texts of CREATE statements, by the grammar.
use Rattle.std.specs.Prelude.{◌≡◌, ◌≤◌, ℕ, List, [], ◌∷◌, codes, Option, Some, None}
use mathlib.Core.Path.{refl}
use Rattle.std.proofs.Common.{arith}
use Rattle.text_grammar.specs.Languages.{Lang, Row}
use Rattle.iv_types.specs.declared.terminal.Terminal.{Terminal}
use Rattle.iv_types.specs.declared.terminal.Terminal.TheVariants as t
use Rattle.iv_types.specs.declared.expression.Op.{Op}
use Rattle.iv_types.specs.declared.expression.Op.TheVariants.{Equal}
use Rattle.iv_types.specs.declared.expression.Ref.{Ref}
use Rattle.iv_types.specs.declared.statement.ColumnDef.{ColumnDef}
use Rattle.iv_types.specs.declared.value.Kind.{Kind}
use Rattle.iv_types.specs.declared.value.Kind.TheVariants.{Int, Huge, Text}
use Rattle.iv_types.specs.Tokens.{Symbol, fixed, name, tokens_from}
use Rattle.iv_types.specs.Limits.{the_limits}
use Rattle.iv_types.specs.Syntax as s
use Rattle.iv_types.specs.Syntax.{Tree, JoinTree}
use Rattle.iv_types.specs.Expressions.{Chain, Nested, nested, name_in, operations, AName, AReference, AnExpression, Signed, Unary, Product, Sum, Comparison, Negation, Conjunction, Disjunction}
use Rattle.iv_types.specs.Grammar.{Enclosed, singleton, snoc, kind_of, AStatement, ACreation, ATable, TableBody, AColumn, Names, AnIndex, AnAlias, AView, AQuery, Items, AnItem, From, ASource, AJoin, ACondition, AGrouping}
use Rattle.script_runs.specs.Scripts.{IsSpelled}
use Rattle.script_runs.specs.Creating.{sale_table, plainly, sums_by, shop_view, second_sale, by_index}
use Rattle.script_runs.specs.Joining.{store_table, sale_shop, store_join, by_region}
use Rattle.script_runs.proofs.Pieces.{Piece, one, left, right, none, some, made, behind, both, before, only, no_more, more, written}

-- ---- names

abbrev word : (n : List ℕ) → name_in the_limits.name_bytes (name n) ≡ Some n → Piece (AName the_limits) n
word n e = one (name n) e

-- one name in parentheses
abbrev one_name : (n : List ℕ) → name_in the_limits.name_bytes (name n) ≡ Some n → Piece (Enclosed (Names the_limits)) (n ∷ [])
unfolding Names
one_name n e = behind t.Open (before t.Close (made (n, []) (both (word n e) no_more)))

-- ---- CREATE INDEX

abbrev an_index : (n of column : List ℕ) → name_in the_limits.name_bytes (name n) ≡ Some n → name_in the_limits.name_bytes (name of) ≡ Some of → name_in the_limits.name_bytes (name column) ≡ Some column
    → Piece (AStatement the_limits) (s.create_index n of (column ∷ []))
unfolding AStatement ACreation AnIndex
an_index n of column en eo ec =
    left (behind t.Create (right (left (behind t.Index (made (n, (of, column ∷ [])) (both (word n en) (behind t.On (both (word of eo) (one_name column ec)))))))))

pub index_spelled : IsSpelled by_index
unfolding tokens_from an_index one_name
index_spelled = written by_index.text by_index.statement (an_index (codes "i") (codes "sale") (codes "shop") refl refl refl) refl

pub sale_shop_spelled : IsSpelled sale_shop
unfolding tokens_from an_index one_name
sale_shop_spelled = written sale_shop.text sale_shop.statement (an_index (codes "sale_shop") (codes "sale") (codes "shop") refl refl refl) refl

-- ---- CREATE TABLE

abbrev column : (n : List ℕ) (k : Kind) (mark : Terminal) → name_in the_limits.name_bytes (name n) ≡ Some n → kind_of (fixed mark) ≡ Some k → Piece (AColumn the_limits) (record { name = n; kind = k })
unfolding AColumn
column n k mark en ek = before t.Comma (made (n, k) (both (word n en) (one (fixed mark) ek)))

abbrev id_column : Piece (AColumn the_limits) (record { name = codes "id"; kind = Int })
unfolding column
id_column = column (codes "id") Int t.Int refl refl

-- with the key id
abbrev a_table : (n : List ℕ) (columns : List ColumnDef) → name_in the_limits.name_bytes (name n) ≡ Some n → Piece (Row singleton snoc (AColumn the_limits) (λ _. AColumn the_limits)) columns
    → Piece (AStatement the_limits) (s.create_table n columns (codes "id" ∷ []))
unfolding AStatement ACreation ATable TableBody
a_table n columns en x = left (behind t.Create (left (behind t.Table (made (n, (columns, codes "id" ∷ [])) (both (word n en) (
    behind t.Open (before t.Close (both x (behind t.Primary (behind t.Key (one_name (codes "id") refl)))))))))))

pub second_sale_spelled : IsSpelled second_sale
unfolding tokens_from a_table one_name id_column column
second_sale_spelled = written second_sale.text second_sale.statement (a_table (codes "sale") (record { name = codes "id"; kind = Int } ∷ []) refl
    (made (record { name = codes "id"; kind = Int }, []) (both id_column no_more))) refl

pub store_spelled : IsSpelled store_table
unfolding tokens_from a_table one_name id_column column
store_spelled = written store_table.text store_table.statement (a_table (codes "store") (record { name = codes "id"; kind = Int } ∷ record { name = codes "region"; kind = Text } ∷ []) refl
    (made (record { name = codes "id"; kind = Int }, record { name = codes "region"; kind = Text } ∷ []) (both id_column (more (column (codes "region") Text t.Text refl refl) no_more)))) refl

pub sale_spelled : IsSpelled sale_table
unfolding tokens_from a_table one_name id_column column
sale_spelled = written sale_table.text sale_table.statement
    (a_table (codes "sale") (record { name = codes "id"; kind = Int } ∷ record { name = codes "shop"; kind = Int } ∷ record { name = codes "amount"; kind = Huge } ∷ []) refl
    (made (record { name = codes "id"; kind = Int }, record { name = codes "shop"; kind = Int } ∷ record { name = codes "amount"; kind = Huge } ∷ [])
    (both id_column (more (column (codes "shop") Int t.Int refl refl) (more (column (codes "amount") Huge t.Huge refl refl) no_more))))) refl

-- ---- expressions

abbrev reference : (n : List ℕ) → name_in the_limits.name_bytes (name n) ≡ Some n → Piece (AReference the_limits) (record { qualifier = None; name = n })
unfolding AReference
reference n e = made (n, None) (both (word n e) none)

abbrev of_table : (q n : List ℕ) → name_in the_limits.name_bytes (name q) ≡ Some q → name_in the_limits.name_bytes (name n) ≡ Some n → Piece (AReference the_limits) (record { qualifier = Some q; name = n })
unfolding AReference
of_table q n eq en = made (q, Some n) (both (word q eq) (some (behind t.Point (word n en))))

-- an operand alone
abbrev alone : (pick : Symbol → Option Op) (p : Lang Symbol Tree) (e : Tree) → Piece p e → Piece (Chain pick p) e
alone pick p e x = made (e, []) (both x no_more)

abbrev levels : Nested
levels = nested the_limits the_limits.nesting

abbrev a_sum : (r : Ref) → Piece (AReference the_limits) r → Piece (Sum the_limits levels) (s.named r)
unfolding Sum Product Unary Signed
a_sum r x = alone _ _ (s.named r) (alone _ _ (s.named r) (right (right (right (right (made r x))))))

abbrev expression : (e : Tree) → operations e ≤ the_limits.operations → Piece (Comparison the_limits levels) e → Piece (AnExpression the_limits) e
unfolding AnExpression Disjunction Conjunction Negation
expression e few x = let y = alone _ _ e (alone _ _ e (right x)) in record { ts = y.ts; is = (y.is, few) }

abbrev a_column : (r : Ref) → Piece (AReference the_limits) r → Piece (AnExpression the_limits) (s.named r)
unfolding Comparison
a_column r x = expression (s.named r) (omega arith) (made (s.named r, None) (both (a_sum r x) none))

abbrev equals : (q r : Ref) → Piece (AReference the_limits) q → Piece (AReference the_limits) r → Piece (AnExpression the_limits) (s.pair Equal (s.named q) (s.named r))
unfolding Comparison
equals q r x y = expression (s.pair Equal (s.named q) (s.named r)) (omega arith) (made (s.named q, Some (Equal, s.named r)) (both (a_sum q x) (some (both (one (fixed t.Equal) refl) (a_sum r y)))))

-- ---- CREATE INDEXED VIEW

abbrev alias : (n : List ℕ) → name_in the_limits.name_bytes (name n) ≡ Some n → Piece (AnAlias the_limits) (Some n)
alias n e = some (behind t.As (word n e))

abbrev source : (n : List ℕ) → name_in the_limits.name_bytes (name n) ≡ Some n → Piece (ASource the_limits) (record { name = n; alias = None })
unfolding ASource
source n e = made (n, None) (both (word n e) none)

module _ (column : List ℕ) (e : name_in the_limits.name_bytes (name column) ≡ Some column) where
  abbrev column_item : Piece (AnItem the_limits) (s.plain (s.named (plainly column)) None)
  unfolding AnItem
  column_item = right (right (right (made (s.named (plainly column), None) (both (a_column (plainly column) (reference column e)) none))))

  abbrev count_item : Piece (AnItem the_limits) (s.count (Some (codes "n")))
  unfolding AnItem
  count_item = right (left (behind t.Count (behind t.Open (behind t.Star (behind t.Close (made (Some (codes "n")) (alias (codes "n") refl)))))))

  abbrev sum_item : Piece (AnItem the_limits) (s.sum (plainly (codes "amount")) (Some (codes "total")))
  unfolding AnItem
  sum_item = right (right (left (behind t.Sum (made (plainly (codes "amount"), Some (codes "total")) (both (behind t.Open (before t.Close (reference (codes "amount") refl))) (alias (codes "total") refl))))))

  abbrev the_items : Piece (Items the_limits) (sums_by column []).items
  unfolding Items
  the_items = made (s.plain (s.named (plainly column)) None, Some (s.count (Some (codes "n"))) ∷ Some (s.sum (plainly (codes "amount")) (Some (codes "total"))) ∷ [])
      (both column_item (more (behind t.Comma (right (only refl (made (s.count (Some (codes "n"))) count_item)))) (more (behind t.Comma (right (only refl (made (s.sum (plainly (codes "amount")) (Some (codes "total"))) sum_item)))) no_more)))

  abbrev grouping : Piece (AGrouping the_limits) (plainly column ∷ [])
  unfolding AGrouping
  grouping = made (Some (plainly column ∷ [])) (some (behind t.Group (behind t.By (made (plainly column, []) (both (reference column e) no_more)))))

  abbrev a_view : (n : List ℕ) → name_in the_limits.name_bytes (name n) ≡ Some n → (joins : List JoinTree) → Piece (From the_limits) (record { name = codes "sale"; alias = None }, joins)
      → Piece (AStatement the_limits) (s.create_view n (sums_by column joins))
  unfolding AStatement ACreation AView AQuery ACondition
  a_view n en joins x = left (behind t.Create (right (right (behind t.Indexed (behind t.View (made (n, sums_by column joins) (both (word n en) (behind t.As (behind t.Select (
      made ((sums_by column joins).items, ((record { name = codes "sale"; alias = None }, joins), (None, plainly column ∷ []))) (both the_items (behind t.From (both x (both none grouping))))))))))))))

abbrev sales : Piece (From the_limits) (record { name = codes "sale"; alias = None }, [])
unfolding From
sales = made (record { name = codes "sale"; alias = None }, []) (both (source (codes "sale") refl) no_more)

pub shop_view_spelled : IsSpelled shop_view
unfolding tokens_from a_view sales source grouping the_items column_item count_item sum_item a_column expression a_sum reference
shop_view_spelled = written shop_view.text shop_view.statement (a_view (codes "shop") refl (codes "by_shop") refl [] sales) refl

abbrev joined : Piece (From the_limits) (record { name = codes "sale"; alias = None }, store_join ∷ [])
unfolding From AJoin
joined = made (record { name = codes "sale"; alias = None }, Some store_join ∷ []) (both (source (codes "sale") refl) (more
    (behind t.Join (made (Some store_join.relation, store_join.on) (both (right (only refl (made store_join.relation (source (codes "store") refl))))
    (behind t.On (equals (record { qualifier = None; name = codes "shop" }) (record { qualifier = Some (codes "store"); name = codes "id" }) (reference (codes "shop") refl) (of_table (codes "store") (codes "id") refl refl))))))
    no_more))

pub by_region_spelled : IsSpelled by_region
unfolding tokens_from a_view joined source grouping the_items column_item count_item sum_item equals a_column expression a_sum reference of_table
by_region_spelled = written by_region.text by_region.statement (a_view (codes "region") refl (codes "by_region") refl (store_join ∷ []) joined) refl
