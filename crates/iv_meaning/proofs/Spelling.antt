-- The texts of the example's statements, by the grammar.
use Rattle.std.specs.Prelude.{◌≡◌, ℕ, pos, nat_le, true, List, [], ◌∷◌, ◌^◌, ◌-◌, codes, Option, Some, None, if◌then◌else◌}
use mathlib.Core.Path.{refl, sym, ap, subst}
use mathlib.Core.Logic.{inl, inr}
use Rattle.std.proofs.Common.{append-nil, arith}
use Rattle.iv_types.specs.declared.terminal.Terminal.TheVariants as t
use Rattle.iv_types.specs.declared.expression.Op.{Op}
use Rattle.iv_types.specs.declared.statement.Mode.TheVariants.{Serial, Snapshot}
use Rattle.iv_types.specs.Terminals.{same}
use Rattle.iv_types.specs.Tokens.{Symbol, fixed, name, number, tokens, tokens_from, symbols}
use Rattle.iv_types.specs.Limits.{the_limits}
use Rattle.iv_types.specs.Syntax as s
use Rattle.iv_types.specs.Syntax.{Tree, StatementTree, begin, commit, rollback, savepoint}
use Rattle.iv_types.specs.Expressions.{or_op, and_op, sum_op, product_op, Chain, Nested, Unary, Product, Sum, Comparison, Negation, Conjunction, Disjunction, AnExpression, nested}
use Rattle.iv_types.specs.Grammar.{Spells, ALine, AStatement, AControl, AnInsertion, Tuples, ATuple, ASelection, AQuery, Items, AnItem, From, ASource, ACondition, AGrouping}
use Rattle.iv_meaning.specs.SerialExample.{sold, shows}

-- a statement without a semicolon
whole : (text : List ℕ) (ts : List Symbol) (statement : StatementTree) → symbols (tokens text) ≡ ts → AStatement the_limits ts statement → Spells text statement
unfolding ALine
whole text ts statement e spelled = subst (λ ts. ALine the_limits ts statement) (sym e) (record {
  value = (statement, None);
  spelled = record { front = ts; back = []; text = sym (append-nil ts); first = spelled; second = refl };
  made = refl;
})

-- ---- transactions

pub begin_spelled : Spells (codes "BEGIN") (begin Serial)
unfolding AControl AStatement tokens_from same
begin_spelled = whole (codes "BEGIN") (fixed t.Begin ∷ []) (begin Serial) refl (inr (inr (inr (inr (inr (inl (record {
  token = fixed t.Begin;
  back = [];
  text = refl;
  is = refl;
  value = record { value = None; spelled = refl; made = refl };
})))))))

pub snapshot_spelled : Spells (codes "BEGIN SNAPSHOT") (begin Snapshot)
unfolding AControl AStatement tokens_from same
snapshot_spelled = whole (codes "BEGIN SNAPSHOT") (fixed t.Begin ∷ fixed t.Snapshot ∷ []) (begin Snapshot) refl (inr (inr (inr (inr (inr (inl (record {
  token = fixed t.Begin;
  back = fixed t.Snapshot ∷ [];
  text = refl;
  is = refl;
  value = record { value = Some tt; spelled = record { token = fixed t.Snapshot; text = refl; value = refl }; made = refl };
})))))))

pub commit_spelled : Spells (codes "COMMIT") commit
unfolding AControl AStatement tokens_from same
commit_spelled = whole (codes "COMMIT") (fixed t.Commit ∷ []) commit refl (inr (inr (inr (inr (inr (inr (inl (record {
  value = tt;
  spelled = record { token = fixed t.Commit; text = refl; value = refl };
  made = refl;
}))))))))

pub savepoint_spelled : Spells (codes "SAVEPOINT s") (savepoint (codes "s"))
unfolding AControl AStatement tokens_from same
savepoint_spelled = whole (codes "SAVEPOINT s") (fixed t.Savepoint ∷ name (codes "s") ∷ []) (savepoint (codes "s")) refl (inr (inr (inr (inr (inr (inr (inr (inr (record {
  token = fixed t.Savepoint;
  back = name (codes "s") ∷ [];
  text = refl;
  is = refl;
  value = record { value = codes "s"; spelled = record { token = name (codes "s"); text = refl; value = refl }; made = refl };
})))))))))

pub rollback_spelled : Spells (codes "ROLLBACK TO s") (rollback (Some (codes "s")))
unfolding AControl AStatement tokens_from same
rollback_spelled = whole (codes "ROLLBACK TO s") (fixed t.Rollback ∷ fixed t.To ∷ name (codes "s") ∷ []) (rollback (Some (codes "s"))) refl (inr (inr (inr (inr (inr (inr (inr (inl (record {
  token = fixed t.Rollback;
  back = fixed t.To ∷ name (codes "s") ∷ [];
  text = refl;
  is = refl;
  value = record {
    value = Some (codes "s");
    spelled = record {
      token = fixed t.To;
      back = name (codes "s") ∷ [];
      text = refl;
      is = refl;
      value = record { token = name (codes "s"); text = refl; value = refl };
    };
    made = refl;
  };
})))))))))

-- ---- rows

-- an operand alone
chain_one : (pick : Symbol → Option Op) (p : List Symbol → Tree → Type 0) (ts : List Symbol) (x : Tree) → p ts x → Chain pick p ts x
chain_one pick p ts x h = record {
  value = (x, []);
  spelled = record { front = ts; back = []; text = sym (append-nil ts); first = h; second = refl };
  made = refl;
}

literal : (n : ℕ) → nat_le n (2 ^ 127 - 1) ≡ true → AnExpression the_limits (number n ∷ []) (s.number (pos n))
unfolding AnExpression Disjunction Conjunction Negation Comparison Sum Product Unary
literal n small =
    let levels : Nested = nested the_limits 64 in
    let ts : List Symbol = number n ∷ [] in
    let x : Tree = s.number (pos n) in
    let unary : Unary the_limits levels ts x = inl (record { value = n; spelled = record { token = number n; text = refl; value = ap (λ b. if b then Some n else None) small }; made = refl }) in
    let sum : Sum the_limits levels ts x = chain_one sum_op (Product the_limits levels) ts x (chain_one product_op (Unary the_limits levels) ts x unary) in
    let negation : Negation the_limits levels ts x = inr (record { value = (x, None); spelled = record { front = ts; back = []; text = refl; first = sum; second = refl }; made = refl }) in
    (chain_one or_op (Conjunction the_limits levels) ts x (chain_one and_op (Negation the_limits levels) ts x negation), omega arith)

three : (a b c : ℕ) → nat_le a (2 ^ 127 - 1) ≡ true → nat_le b (2 ^ 127 - 1) ≡ true → nat_le c (2 ^ 127 - 1) ≡ true
    → ATuple the_limits (fixed t.Open ∷ number a ∷ fixed t.Comma ∷ number b ∷ fixed t.Comma ∷ number c ∷ fixed t.Close ∷ []) (s.number (pos a) ∷ s.number (pos b) ∷ s.number (pos c) ∷ [])
unfolding ATuple same
three a b c ha hb hc = record {
  token = fixed t.Open;
  back = number a ∷ fixed t.Comma ∷ number b ∷ fixed t.Comma ∷ number c ∷ fixed t.Close ∷ [];
  text = refl;
  is = refl;
  value = record {
    value = (s.number (pos a) ∷ s.number (pos b) ∷ s.number (pos c) ∷ [], tt);
    spelled = record {
      front = number a ∷ fixed t.Comma ∷ number b ∷ fixed t.Comma ∷ number c ∷ [];
      back = fixed t.Close ∷ [];
      text = refl;
      first = record {
        value = (s.number (pos a), s.number (pos b) ∷ s.number (pos c) ∷ []);
        spelled = record {
          front = number a ∷ [];
          back = fixed t.Comma ∷ number b ∷ fixed t.Comma ∷ number c ∷ [];
          text = refl;
          first = literal a ha;
          second = record {
            front = fixed t.Comma ∷ number b ∷ [];
            back = fixed t.Comma ∷ number c ∷ [];
            text = refl;
            first = record { token = fixed t.Comma; back = number b ∷ []; text = refl; is = refl; value = literal b hb };
            second = record {
              front = fixed t.Comma ∷ number c ∷ [];
              back = [];
              text = refl;
              first = record { token = fixed t.Comma; back = number c ∷ []; text = refl; is = refl; value = literal c hc };
              second = refl;
            };
          };
        };
        made = refl;
      };
      second = record { token = fixed t.Close; text = refl; value = refl };
    };
    made = refl;
  };
}

abbrev sold_tokens : ℕ → ℕ → List Symbol
sold_tokens id amount = fixed t.Insert ∷ fixed t.Into ∷ name (codes "sale") ∷ fixed t.Values ∷ fixed t.Open ∷ number id ∷ fixed t.Comma ∷ number 7 ∷ fixed t.Comma ∷ number amount ∷ fixed t.Close ∷ []

sold_stated : (id amount : ℕ) → nat_le id (2 ^ 127 - 1) ≡ true → nat_le amount (2 ^ 127 - 1) ≡ true → AStatement the_limits (sold_tokens id amount) (sold id amount)
unfolding AStatement AnInsertion Tuples same
sold_stated id amount hi ha =
    let tuple : List Symbol = fixed t.Open ∷ number id ∷ fixed t.Comma ∷ number 7 ∷ fixed t.Comma ∷ number amount ∷ fixed t.Close ∷ [] in
    inr (inl (record {
      token = fixed t.Insert;
      back = fixed t.Into ∷ name (codes "sale") ∷ fixed t.Values ∷ tuple;
      text = refl;
      is = refl;
      value = record {
        token = fixed t.Into;
        back = name (codes "sale") ∷ fixed t.Values ∷ tuple;
        text = refl;
        is = refl;
        value = record {
          value = (codes "sale", (s.number (pos id) ∷ s.number (pos 7) ∷ s.number (pos amount) ∷ []) ∷ []);
          spelled = record {
            front = name (codes "sale") ∷ [];
            back = fixed t.Values ∷ tuple;
            text = refl;
            first = record { token = name (codes "sale"); text = refl; value = refl };
            second = record {
              token = fixed t.Values;
              back = tuple;
              text = refl;
              is = refl;
              value = record {
                value = (s.number (pos id) ∷ s.number (pos 7) ∷ s.number (pos amount) ∷ [], []);
                spelled = record { front = tuple; back = []; text = refl; first = three id 7 amount hi refl ha; second = refl };
                made = refl;
              };
            };
          };
          made = refl;
        };
      };
    }))

pub first_sale_spelled : Spells (codes "INSERT INTO sale VALUES (1, 7, 10)") (sold 1 10)
unfolding tokens_from
first_sale_spelled = whole (codes "INSERT INTO sale VALUES (1, 7, 10)") (sold_tokens 1 10) (sold 1 10) refl (sold_stated 1 10 refl refl)

pub second_sale_spelled : Spells (codes "INSERT INTO sale VALUES (2, 7, 5)") (sold 2 5)
unfolding tokens_from
second_sale_spelled = whole (codes "INSERT INTO sale VALUES (2, 7, 5)") (sold_tokens 2 5) (sold 2 5) refl (sold_stated 2 5 refl refl)

-- ---- SELECT

shows_stated : AStatement the_limits (fixed t.Select ∷ fixed t.Star ∷ fixed t.From ∷ name (codes "by_shop") ∷ []) shows
unfolding AStatement ASelection AQuery Items AnItem From ASource ACondition AGrouping same
shows_stated = inr (inr (inr (inr (inl (record {
  value = (record { items = s.all ∷ []; first = record { name = codes "by_shop"; alias = None }; joins = []; condition = None; group = [] }, []);
  spelled = record {
    front = fixed t.Select ∷ fixed t.Star ∷ fixed t.From ∷ name (codes "by_shop") ∷ [];
    back = [];
    text = refl;
    first = record {
      token = fixed t.Select;
      back = fixed t.Star ∷ fixed t.From ∷ name (codes "by_shop") ∷ [];
      text = refl;
      is = refl;
      value = record {
        value = (s.all ∷ [], ((record { name = codes "by_shop"; alias = None }, []), (None, [])));
        spelled = record {
          front = fixed t.Star ∷ [];
          back = fixed t.From ∷ name (codes "by_shop") ∷ [];
          text = refl;
          first = record {
            value = (s.all, []);
            spelled = record { front = fixed t.Star ∷ []; back = []; text = refl; first = inl (record { value = tt; spelled = record { token = fixed t.Star; text = refl; value = refl }; made = refl }); second = refl };
            made = refl;
          };
          second = record {
            token = fixed t.From;
            back = name (codes "by_shop") ∷ [];
            text = refl;
            is = refl;
            value = record {
              front = name (codes "by_shop") ∷ [];
              back = [];
              text = refl;
              first = record {
                value = (record { name = codes "by_shop"; alias = None }, []);
                spelled = record {
                  front = name (codes "by_shop") ∷ [];
                  back = [];
                  text = refl;
                  first = record {
                    value = (codes "by_shop", None);
                    spelled = record { front = name (codes "by_shop") ∷ []; back = []; text = refl; first = record { token = name (codes "by_shop"); text = refl; value = refl }; second = refl };
                    made = refl;
                  };
                  second = refl;
                };
                made = refl;
              };
              second = record {
                front = [];
                back = [];
                text = refl;
                first = refl;
                second = record { value = None; spelled = refl; made = refl };
              };
            };
          };
        };
        made = refl;
      };
    };
    second = record { value = None; spelled = refl; made = refl };
  };
  made = refl;
})))))

pub shows_spelled : Spells (codes "SELECT * FROM by_shop") shows
unfolding tokens_from
shows_spelled = whole (codes "SELECT * FROM by_shop") (fixed t.Select ∷ fixed t.Star ∷ fixed t.From ∷ name (codes "by_shop") ∷ []) shows refl shows_stated
