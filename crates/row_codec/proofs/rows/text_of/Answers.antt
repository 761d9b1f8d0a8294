use Rattle.std.proofs.Common.{rules, ◌≡◌, ◌≤◌, ◌-◌, List, ℕ, ◌++◌, length, take, drop, sym, ap, subst, ◌∙◌}
use Rattle.std.specs.Str.{IsUtf8}
use Rattle.std.specs.Int.{bytes_high_first}
use Rattle.std.proofs.lemmas.List.{take-append-drop, take_rest}
use Rattle.iv_types.proofs.Fitting.{text_so}
use Rattle.row_codec.proofs.Numbers.{number_front}
use Rattle.row_codec.proofs.rows.text_of.Goals as goal

pub returns-clause-taken : goal.returns-clause-taken
returns-clause-taken c =
    let bytes = c.args.bytes.now in
    let n = c.read_u16-length.result in
    let rest : List ℕ = take (length bytes - 2) (drop 2 bytes) in
    let tail : List ℕ = take (length rest - n) (drop n rest) in
    let text = c.from_vec-text.result in
    let text_is : text ≡ take n rest = search rules in
    let size : length text ≡ n = search rules in
    let short : length text ≤ 200 = search rules in
    let utf8 : IsUtf8 text = search rules in
    let cut : rest ≡ take n rest ++ tail = sym (take-append-drop n rest) ∙ ap (λ (t : List ℕ). take n rest ++ t) (sym (take_rest rest n)) in
    let front : bytes ≡ bytes_high_first 2 n ++ (take n rest ++ tail) =
    number_front 2 bytes n (λ i. (c.type_inv.bytes i).fits) c.if-bytes-lt2.false c.read_u16-length.ensures ∙ ap (λ (t : List ℕ). bytes_high_first 2 n ++ t) cut in (
      text_so text short utf8,
      subst (λ (m : ℕ). bytes ≡ bytes_high_first 2 m ++ (text ++ tail)) (sym size) (subst (λ (t : List ℕ). bytes ≡ bytes_high_first 2 n ++ (t ++ tail)) (sym text_is) front),
    )
