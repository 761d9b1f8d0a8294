-- Limits that are raised, and the readers of a line as a family over the limits.
use Rattle.std.proofs.Common.{◌≡◌, ℕ, ◌+◌, ◌<◌, Bool, true, false, Option, None, refl, sym, ◌∙◌, arith}
use Rattle.std.specs.Prelude.{nat_le}
use Rattle.text_grammar.proofs.Lines.{Family}
use Rattle.iv_types.specs.Limits.{Limits, Agree}
use Rattle.iv_types.specs.Grammar.{ALine}
use Rattle.sql_readers.specs.Statements.{line}
use Rattle.sql_readers.proofs.GoingOn.{on_line}
use Rattle.sql_readers.proofs.Whole.{line-exact, line_begins}
use Rattle.sql_readers.proofs.Larger.{Raised}
use Rattle.sql_readers.proofs.Grown.{line_extends}

-- ---- limits that are raised

abbrev none_if : Bool → Option ℕ → Option ℕ
none_if true o = None
none_if false o = o

abbrev more_if : Bool → ℕ → ℕ → ℕ
more_if true n more = more
more_if false n more = n

not_at_most : (w v : ℕ) → v < w → nat_le w v ≡ false
not_at_most w v lt = grind arith

kept_most : (w v : ℕ) (o : Option ℕ) → v < w → none_if (nat_le w v) o ≡ o
kept_most w v o lt = let f = not_at_most w v lt in rw f refl

kept_more : (w v n more : ℕ) → v < w → more_if (nat_le w v) n more ≡ n
kept_more w v n more lt = let f = not_at_most w v lt in rw f refl

no_most : (w v : ℕ) (o : Option ℕ) → nat_le w v ≡ true → none_if (nat_le w v) o ≡ None
no_most w v o h = rw h refl

is_more : (w v n more : ℕ) → nat_le w v ≡ true → more_if (nat_le w v) n more ≡ more
is_more w v n more h = rw h refl

-- limits that agree with l below w, and from w on are larger than those of l and of k
abbrev above_both : (w : ℕ) (l k : Limits) → Limits
above_both w l k = record {
  name_bytes = none_if (nat_le w 1) l.name_bytes;
  number_value = none_if (nat_le w 2) l.number_value;
  text_bytes = none_if (nat_le w 3) l.text_bytes;
  nesting = more_if (nat_le w 4) l.nesting (l.nesting + k.nesting + 1);
  rows = more_if (nat_le w 5) l.rows (l.rows + k.rows + 2);
  relations = more_if (nat_le w 7) l.relations (l.relations + k.relations + 2);
  items = more_if (nat_le w 17) l.items (l.items + k.items + 2);
  operations = more_if (nat_le w 18) l.operations (l.operations + l.nesting + (k.operations + k.nesting) + 1);
}

raised_left : (w : ℕ) (l k : Limits) → Raised w l (above_both w l k)
raised_left w l k = record {
  agree = record {
    name_bytes = λ lt. sym (kept_most w 1 l.name_bytes lt);
    number_value = λ lt. sym (kept_most w 2 l.number_value lt);
    text_bytes = λ lt. sym (kept_most w 3 l.text_bytes lt);
    nesting = λ lt. sym (kept_more w 4 l.nesting (l.nesting + k.nesting + 1) lt);
    rows = λ lt. sym (kept_more w 5 l.rows (l.rows + k.rows + 2) lt);
    relations = λ lt. sym (kept_more w 7 l.relations (l.relations + k.relations + 2) lt);
    items = λ lt. sym (kept_more w 17 l.items (l.items + k.items + 2) lt);
    operations = λ lt. sym (kept_more w 18 l.operations (l.operations + l.nesting + (k.operations + k.nesting) + 1) lt);
  };
  name_bytes = λ h. no_most w 1 l.name_bytes h;
  number_value = λ h. no_most w 2 l.number_value h;
  text_bytes = λ h. no_most w 3 l.text_bytes h;
  nesting = λ h. let e = is_more w 4 l.nesting (l.nesting + k.nesting + 1) h in omega (arith, e);
  rows = λ h. let e = is_more w 5 l.rows (l.rows + k.rows + 2) h in omega (arith, e);
  relations = λ h. let e = is_more w 7 l.relations (l.relations + k.relations + 2) h in omega (arith, e);
  items = λ h. let e = is_more w 17 l.items (l.items + k.items + 2) h in omega (arith, e);
  operations = λ h. let e = is_more w 18 l.operations (l.operations + l.nesting + (k.operations + k.nesting) + 1) h in omega (arith, e);
}

raised_right : (w : ℕ) (l k : Limits) → Agree w l k → Raised w k (above_both w l k)
raised_right w l k a = record {
  agree = record {
    name_bytes = λ lt. sym (a.name_bytes lt) ∙ sym (kept_most w 1 l.name_bytes lt);
    number_value = λ lt. sym (a.number_value lt) ∙ sym (kept_most w 2 l.number_value lt);
    text_bytes = λ lt. sym (a.text_bytes lt) ∙ sym (kept_most w 3 l.text_bytes lt);
    nesting = λ lt. sym (a.nesting lt) ∙ sym (kept_more w 4 l.nesting (l.nesting + k.nesting + 1) lt);
    rows = λ lt. sym (a.rows lt) ∙ sym (kept_more w 5 l.rows (l.rows + k.rows + 2) lt);
    relations = λ lt. sym (a.relations lt) ∙ sym (kept_more w 7 l.relations (l.relations + k.relations + 2) lt);
    items = λ lt. sym (a.items lt) ∙ sym (kept_more w 17 l.items (l.items + k.items + 2) lt);
    operations = λ lt. sym (a.operations lt) ∙ sym (kept_more w 18 l.operations (l.operations + l.nesting + (k.operations + k.nesting) + 1) lt);
  };
  name_bytes = λ h. no_most w 1 l.name_bytes h;
  number_value = λ h. no_most w 2 l.number_value h;
  text_bytes = λ h. no_most w 3 l.text_bytes h;
  nesting = λ h. let e = is_more w 4 l.nesting (l.nesting + k.nesting + 1) h in omega (arith, e);
  rows = λ h. let e = is_more w 5 l.rows (l.rows + k.rows + 2) h in omega (arith, e);
  relations = λ h. let e = is_more w 7 l.relations (l.relations + k.relations + 2) h in omega (arith, e);
  items = λ h. let e = is_more w 17 l.items (l.items + k.items + 2) h in omega (arith, e);
  operations = λ h. let e = is_more w 18 l.operations (l.operations + l.nesting + (k.operations + k.nesting) + 1) h in omega (arith, e);
}

none_agree : (l m : Limits) → Agree 0 l m
none_agree l m = record {
  name_bytes = λ lt. absurd (omega arith);
  number_value = λ lt. absurd (omega arith);
  text_bytes = λ lt. absurd (omega arith);
  nesting = λ lt. absurd (omega arith);
  rows = λ lt. absurd (omega arith);
  relations = λ lt. absurd (omega arith);
  items = λ lt. absurd (omega arith);
  operations = λ lt. absurd (omega arith);
}

-- the readers of a line are a family over the limits
pub family : Family ALine Agree Raised on_line line
family = record {
  exact = line-exact;
  some = line_begins;
  grows = λ w l m up. line_extends w l m up;
  none_agree = none_agree;
  join = λ w l m a. (above_both w l m, raised_left w l m, raised_right w l m a);
  raise = λ w l. (above_both w l l, raised_left w l l, (raised_left w l l).agree);
}
