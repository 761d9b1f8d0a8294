-- The words and marks of the language that have one spelling.
use Rattle.std.specs.Prelude.{ℕ, Bool, List, [], ◌∷◌, codes}
use Rattle.std.specs.Str.{bytes_eq}
use Rattle.iv_types.specs.declared.terminal.Terminal.{Terminal}
use Rattle.iv_types.specs.declared.terminal.Terminal.TheVariants as t

-- how each is printed
abbrev pub spelling : Terminal → List ℕ
spelling t.And = codes "AND"
spelling t.As = codes "AS"
spelling t.Asc = codes "ASC"
spelling t.Begin = codes "BEGIN"
spelling t.Between = codes "BETWEEN"
spelling t.Bound = codes "BOUND"
spelling t.By = codes "BY"
spelling t.Commit = codes "COMMIT"
spelling t.Count = codes "COUNT"
spelling t.Create = codes "CREATE"
spelling t.Delete = codes "DELETE"
spelling t.Desc = codes "DESC"
spelling t.From = codes "FROM"
spelling t.Group = codes "GROUP"
spelling t.Huge = codes "HUGE"
spelling t.Index = codes "INDEX"
spelling t.Indexed = codes "INDEXED"
spelling t.Insert = codes "INSERT"
spelling t.Int = codes "INT"
spelling t.Into = codes "INTO"
spelling t.Join = codes "JOIN"
spelling t.Key = codes "KEY"
spelling t.Not = codes "NOT"
spelling t.On = codes "ON"
spelling t.Or = codes "OR"
spelling t.Order = codes "ORDER"
spelling t.Primary = codes "PRIMARY"
spelling t.Rollback = codes "ROLLBACK"
spelling t.Savepoint = codes "SAVEPOINT"
spelling t.Select = codes "SELECT"
spelling t.Set = codes "SET"
spelling t.Snapshot = codes "SNAPSHOT"
spelling t.Sum = codes "SUM"
spelling t.Table = codes "TABLE"
spelling t.Text = codes "TEXT"
spelling t.To = codes "TO"
spelling t.Update = codes "UPDATE"
spelling t.Values = codes "VALUES"
spelling t.View = codes "VIEW"
spelling t.Where = codes "WHERE"
spelling t.Open = codes "("
spelling t.Close = codes ")"
spelling t.Comma = codes ","
spelling t.Point = codes "."
spelling t.Semicolon = codes ";"
spelling t.Star = codes "*"
spelling t.Plus = codes "+"
spelling t.Minus = codes "-"
spelling t.Equal = codes "="
spelling t.NotEqual = codes "<>"
spelling t.Less = codes "<"
spelling t.AtMost = codes "<="
spelling t.Greater = codes ">"
spelling t.AtLeast = codes ">="

-- whether they are the same: spelled alike
unfoldable pub same : Terminal → Terminal → Bool
same j k = bytes_eq (spelling j) (spelling k)

-- the keywords, which are never names
abbrev pub keywords : List Terminal
keywords = t.And ∷ t.As ∷ t.Asc ∷ t.Begin ∷ t.Between ∷ t.Bound ∷ t.By ∷ t.Commit ∷ t.Count ∷ t.Create ∷ t.Delete ∷ t.Desc ∷ t.From ∷ t.Group ∷ t.Huge ∷ t.Index ∷ t.Indexed ∷ t.Insert ∷ t.Int ∷ t.Into ∷ t.Join ∷ t.Key ∷ t.Not ∷ t.On ∷ t.Or ∷ t.Order ∷ t.Primary ∷ t.Rollback ∷ t.Savepoint ∷ t.Select ∷ t.Set ∷ t.Snapshot ∷ t.Sum ∷ t.Table ∷ t.Text ∷ t.To ∷ t.Update ∷ t.Values ∷ t.View ∷ t.Where ∷ []
