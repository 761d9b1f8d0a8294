use Rattle.std.proofs.Common.{◌≡◌, ◌++◌, ◌∷◌, [], List, ℕ, refl, sym, ap, ◌∙◌, append_assoc, append-nil}
use Rattle.std.specs.List.{flat_map}
use Rattle.std.proofs.lemmas.Grind.{flat_map-append}
use Rattle.iv_types.specs.Encoding.{key_byte}
use Rattle.row_codec.proofs.KeyFormat.{one_text, end_is_stop}
use Rattle.row_codec.proofs.skipping.after_text.Goals as goal

pub loop-after-init : goal.loop-after-init
loop-after-init c = ([], refl)

pub loop-after-preserved : goal.loop-after-preserved
loop-after-preserved c =
    let done = c.loop-after.invariant.0 in
    let byte = c.in-Some.field-0-0 in
    let after = c.in-Some.after.now in
    let one : flat_map key_byte (byte ∷ []) ≡ key_byte byte = append-nil (key_byte byte) in
    let whole : flat_map key_byte (done ++ byte ∷ []) ++ after ≡ flat_map key_byte done ++ (key_byte byte ++ after) =
    ap (λ (l : List ℕ). l ++ after) (flat_map-append key_byte done (byte ∷ []) ∙ ap (λ (l : List ℕ). flat_map key_byte done ++ l) one) ∙ append_assoc (flat_map key_byte done) (key_byte byte) after in
    (done ++ byte ∷ [], c.loop-after.invariant.1 ∙ (ap (λ (l : List ℕ). flat_map key_byte done ++ l) c.in-Some.ensures.some ∙ sym whole))

pub returns : goal.returns
returns c = λ text rest is.
    let done = c.loop-after.invariant.0 in
    let both = one_text done text c.loop-after.left.now (0 ∷ 0 ∷ rest) c.in_default.ensures.none (end_is_stop rest) (sym c.loop-after.invariant.1 ∙ is) in
    c.behind.ensures (0 ∷ 0 ∷ []) rest refl both.1
