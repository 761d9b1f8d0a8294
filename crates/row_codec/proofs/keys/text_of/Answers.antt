use Rattle.std.proofs.Common.{rules, ◌≡◌, ◌<◌, ◌≤◌, ◌-◌, ◌++◌, ℕ, List, take, drop, true, length, subst, sym}
use Rattle.iv_types.specs.declared.value.Kind.TheVariants.{Text}
use Rattle.iv_types.specs.declared.value.Value.TheVariants.{Word}
use Rattle.iv_types.specs.Encoding.{key_value_bytes}
use Rattle.std.specs.Str.{IsUtf8}
use Rattle.row_codec.proofs.KeyFormat.{breaks_early, breaks_lone, breaks_long, breaks_utf8, takes_text, Front}
use Rattle.iv_types.proofs.Fitting.{text_so}
use Rattle.row_codec.proofs.keys.text_of.Goals as goal

pub returns-then-rest-lt2-clause-broken : goal.returns-then-rest-lt2-clause-broken
returns-then-rest-lt2-clause-broken c =
    breaks_early c.args.bytes.now c.in_ok-text.text.items c.in_ok-text.rest.now c.args.place (record { parts = c.in_ok-text.ensures.0; stop = c.in_ok-text.ensures.1 }) c.if-rest-lt2.true

pub returns-then-rest-ne0-clause-broken : goal.returns-then-rest-ne0-clause-broken
returns-then-rest-ne0-clause-broken c =
    breaks_lone c.args.bytes.now c.in_ok-text.text.items c.in_ok-text.rest.now c.args.place (record { parts = c.in_ok-text.ensures.0; stop = c.in_ok-text.ensures.1 }) c.if-rest-lt2.false c.if-rest-ne0.true

pub returns-then-len-gt-LONGEST_TEXT-clause-broken : goal.returns-then-len-gt-LONGEST_TEXT-clause-broken
returns-then-len-gt-LONGEST_TEXT-clause-broken c =
    let long : 200 < length c.in_ok-text.text.items = search rules in
    breaks_long c.args.bytes.now c.in_ok-text.text.items c.in_ok-text.rest.now c.args.place (record { parts = c.in_ok-text.ensures.0; stop = c.in_ok-text.ensures.1 }) c.if-rest-lt2.false c.if-rest-ne0.false long

pub returns-then-not-is_utf8-clause-broken : goal.returns-then-not-is_utf8-clause-broken
returns-then-not-is_utf8-clause-broken c =
    let short : length c.in_ok-text.text.items ≤ 200 = search rules in
    breaks_utf8 c.args.bytes.now c.in_ok-text.text.items c.in_ok-text.rest.now c.args.place (record { parts = c.in_ok-text.ensures.0; stop = c.in_ok-text.ensures.1 }) c.if-rest-lt2.false c.if-rest-ne0.false short
    (λ u. let e : c.is_utf8.result ≡ true = c.is_utf8.ensures.1 (subst IsUtf8 (sym c.deref.ensures.value) u) in absurd (cc (e, c.if-not-is_utf8.true)))

pub returns-clause-taken : goal.returns-clause-taken
returns-clause-taken c =
    let short : length c.from_vec.result ≤ 200 = search rules in
    let utf8 : IsUtf8 c.from_vec.result = search rules in
    let front : Front c.args.bytes.now c.in_ok-text.text.items c.in_ok-text.rest.now = record { parts = c.in_ok-text.ensures.0; stop = c.in_ok-text.ensures.1 } in
    let rest = c.in_ok-text.rest.now in
    let taken = takes_text c.args.bytes.now c.in_ok-text.text.items rest front c.if-rest-lt2.false c.if-rest-ne0.false in (
      text_so c.from_vec.result short utf8,
      subst (λ (t : List ℕ). c.args.bytes.now ≡ key_value_bytes Text (Word t) ++ take (length rest - 2) (drop 2 rest)) (sym c.from_vec.ensures) taken,
    )
