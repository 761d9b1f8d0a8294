use Rattle.std.proofs.Common.{◌≡◌, ◌+◌, ◌-◌, ◌^◌, List, ℕ, true, false, min, length, ap, ◌∙◌, rules}
use Rattle.iv_types.specs.Encoding.{row_bytes}
use Rattle.iv_meaning.specs.Database.{Row}
use Rattle.data_store.specs.Shown.{stands}
use Rattle.data_store.proofs.Noting.{counts_ghost, counts_row}
use Rattle.data_store.proofs.noted.noted_shown.Goals as goal

pub returns-then-not-stands : goal.returns-then-not-stands
returns-then-not-stands c = λ es rows s.
    counts_ghost c.args.kinds.now c.args.key.now c.args.value.now es rows
    (λ numbers fits is. let told : c.stands.result ≡ stands numbers = c.stands.ensures numbers fits is in let ghost : stands numbers ≡ false = cc in ghost) s

pub returns : goal.returns
returns c = λ es rows s.
    let kinds = c.args.kinds.now in
    let group : Row = c.in_ok-group.group in
    let value : List ℕ = c.args.value.now in
    let same : c.as_slice.result.now ≡ group = search rules in
    let long : c.row_len.result ≡ length (row_bytes kinds group) = c.row_len.ensures.len ∙ ap (λ (l : Row). length (row_bytes kinds l)) same in
    let size : c.min.result ≡ min (length (row_bytes kinds group) + length value + 16) (2 ^ 64 - 1) =
    c.min.ensures ∙ (λ i. min (long i + length value + 16) (c.from.ensures i)) in
    counts_row kinds c.key_law.ensures.spelling c.args.key.now value group c.min.result es rows c.in_ok-group.ensures.0 c.in_ok-group.ensures.1 size
    (λ numbers fits is. let told : c.stands.result ≡ stands numbers = c.stands.ensures numbers fits is in let counts : stands numbers ≡ true = cc in counts) s
