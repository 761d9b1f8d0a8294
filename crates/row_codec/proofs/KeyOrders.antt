-- The order of keys is that of their values.
use Rattle.std.proofs.Common.{◌≡◌, ℕ, ℤ, pos, zero, suc, ◌+◌, ◌^◌, ◌<◌, ◌+ℤ◌, List, [], ◌∷◌, ◌++◌, refl, sym, ap, subst, ◌∙◌, append_assoc, arith, Ordering, Less, Greater}
use lib.Signed.{mag}
use Rattle.std.specs.Ordering.{nat_cmp, int_cmp, ordering_then}
use Rattle.std.specs.Cmp.Lexicographic.{slice_cmp}
use Rattle.std.specs.List.{flat_map}
use Rattle.std.specs.Int.{Width, w64, w128, bytes_high_first, cast_unsigned}
use Rattle.iv_types.specs.declared.value.Kind.{Kind}
use Rattle.iv_types.specs.declared.value.Kind.TheVariants.{Int, Huge, Text}
use Rattle.iv_types.specs.declared.value.Value.{Value}
use Rattle.iv_types.specs.declared.value.Value.TheVariants.{Number, Word}
use Rattle.iv_types.specs.Encoding.{Fits, key_byte, key_value_bytes, key_bytes, value_cmp}
use Rattle.iv_types.proofs.Fitting.{int_is, huge_is}
use Rattle.row_codec.specs.Laws.{KeyOrder}
use Rattle.row_codec.proofs.KeyFormat.{key_byte_front}
use Rattle.row_codec.proofs.Shifts.{shift}
use Rattle.row_codec.proofs.Orders.{cmp_less, cmp_greater, shifted_order, then_assoc, order_numbers}

order_shifted : (w : Width) (n h : ℕ) → h + h ≡ 256 ^ n → (a b : ℤ) (r s : List ℕ) → mag a < h → mag b < h
    → slice_cmp nat_cmp (bytes_high_first n (cast_unsigned w (a +ℤ pos h)) ++ r) (bytes_high_first n (cast_unsigned w (b +ℤ pos h)) ++ s) ≡ ordering_then (int_cmp a b) (slice_cmp nat_cmp r s)
order_shifted w n h size a b r s la lb =
    let x = shift h a la in
    let y = shift h b lb in
    ap (λ (z : ℤ). slice_cmp nat_cmp (bytes_high_first n (cast_unsigned w z) ++ r) (bytes_high_first n (cast_unsigned w (b +ℤ pos h)) ++ s)) x.1
    ∙ ap (λ (z : ℤ). slice_cmp nat_cmp (bytes_high_first n x.0 ++ r) (bytes_high_first n (cast_unsigned w z) ++ s)) y.1
    ∙ order_numbers n x.0 y.0 r s (subst (λ (k : ℕ). x.0 < k) size x.2) (subst (λ (k : ℕ). y.0 < k) size y.2)
    ∙ ap (λ (o : Ordering). ordering_then o (slice_cmp nat_cmp r s)) (sym (shifted_order a b x.0 y.0 h x.1 y.1))

cmp_fronts : (x y : ℕ) (o : Ordering) (p q : List ℕ) → nat_cmp x y ≡ o → slice_cmp nat_cmp (x ∷ p) (y ∷ q) ≡ ordering_then o (slice_cmp nat_cmp p q)
cmp_fronts x y o p q e = ap (λ (r : Ordering). ordering_then r (slice_cmp nat_cmp p q)) e

order_byte : (x y : ℕ) (p q : List ℕ) → slice_cmp nat_cmp (key_byte x ++ p) (key_byte y ++ q) ≡ ordering_then (nat_cmp x y) (slice_cmp nat_cmp p q)
order_byte zero zero p q = refl
order_byte zero (suc y) p q =
    let less = cmp_less 0 (suc y) (omega arith) in
    ap (slice_cmp nat_cmp (0 ∷ 255 ∷ p)) (key_byte_front y q) ∙ cmp_fronts 0 (suc y) Less (255 ∷ p) q less ∙ sym (ap (λ (o : Ordering). ordering_then o (slice_cmp nat_cmp p q)) less)
order_byte (suc x) zero p q =
    let more = cmp_greater (suc x) 0 (omega arith) in
    ap (λ (l : List ℕ). slice_cmp nat_cmp l (0 ∷ 255 ∷ q)) (key_byte_front x p) ∙ cmp_fronts (suc x) 0 Greater p (255 ∷ q) more ∙ sym (ap (λ (o : Ordering). ordering_then o (slice_cmp nat_cmp p q)) more)
order_byte (suc x) (suc y) p q =
    ap (λ (l : List ℕ). slice_cmp nat_cmp l (key_byte (suc y) ++ q)) (key_byte_front x p) ∙ ap (slice_cmp nat_cmp (suc x ∷ p)) (key_byte_front y q)

end_first : (y : ℕ) (r q : List ℕ) → slice_cmp nat_cmp (0 ∷ 0 ∷ r) (key_byte y ++ q) ≡ Less
end_first zero r q = refl
end_first (suc y) r q = ap (slice_cmp nat_cmp (0 ∷ 0 ∷ r)) (key_byte_front y q) ∙ cmp_fronts 0 (suc y) Less (0 ∷ r) q (cmp_less 0 (suc y) (omega arith))

end_last : (x : ℕ) (p s : List ℕ) → slice_cmp nat_cmp (key_byte x ++ p) (0 ∷ 0 ∷ s) ≡ Greater
end_last zero p s = refl
end_last (suc x) p s = ap (λ (l : List ℕ). slice_cmp nat_cmp l (0 ∷ 0 ∷ s)) (key_byte_front x p) ∙ cmp_fronts (suc x) 0 Greater p (0 ∷ s) (cmp_greater (suc x) 0 (omega arith))

order_text : (a b r s : List ℕ) → slice_cmp nat_cmp (flat_map key_byte a ++ 0 ∷ 0 ∷ r) (flat_map key_byte b ++ 0 ∷ 0 ∷ s) ≡ ordering_then (slice_cmp nat_cmp a b) (slice_cmp nat_cmp r s)
order_text [] [] r s = refl
order_text [] (y ∷ b) r s =
    ap (slice_cmp nat_cmp (0 ∷ 0 ∷ r)) (append_assoc (key_byte y) (flat_map key_byte b) (0 ∷ 0 ∷ s)) ∙ end_first y r (flat_map key_byte b ++ 0 ∷ 0 ∷ s)
order_text (x ∷ a) [] r s =
    ap (λ (l : List ℕ). slice_cmp nat_cmp l (0 ∷ 0 ∷ s)) (append_assoc (key_byte x) (flat_map key_byte a) (0 ∷ 0 ∷ r)) ∙ end_last x (flat_map key_byte a ++ 0 ∷ 0 ∷ r) s
order_text (x ∷ a) (y ∷ b) r s =
    let p = flat_map key_byte a ++ 0 ∷ 0 ∷ r in
    let q = flat_map key_byte b ++ 0 ∷ 0 ∷ s in
    ap (λ (l : List ℕ). slice_cmp nat_cmp l (flat_map key_byte (y ∷ b) ++ 0 ∷ 0 ∷ s)) (append_assoc (key_byte x) (flat_map key_byte a) (0 ∷ 0 ∷ r))
    ∙ ap (slice_cmp nat_cmp (key_byte x ++ p)) (append_assoc (key_byte y) (flat_map key_byte b) (0 ∷ 0 ∷ s))
    ∙ order_byte x y p q ∙ ap (ordering_then (nat_cmp x y)) (order_text a b r s) ∙ sym (then_assoc (nat_cmp x y) (slice_cmp nat_cmp a b) (slice_cmp nat_cmp r s))

order_column : (k : Kind) (v w : Value) (r s : List ℕ) → Fits k v → Fits k w → slice_cmp nat_cmp (key_value_bytes k v ++ r) (key_value_bytes k w ++ s) ≡ ordering_then (value_cmp v w) (slice_cmp nat_cmp r s)
order_column Int (Number m) (Number n) r s fv fw = order_shifted w64 8 (2 ^ 63) refl m n r s (int_is m fv).sfits (int_is n fw).sfits
order_column Huge (Number m) (Number n) r s fv fw = order_shifted w128 16 (2 ^ 127) refl m n r s (huge_is m fv).0.sfits (huge_is n fw).0.sfits
order_column Text (Word a) (Word b) r s fv fw =
    ap (λ (l : List ℕ). slice_cmp nat_cmp l ((flat_map key_byte b ++ 0 ∷ 0 ∷ []) ++ s)) (append_assoc (flat_map key_byte a) (0 ∷ 0 ∷ []) r)
    ∙ ap (slice_cmp nat_cmp (flat_map key_byte a ++ 0 ∷ 0 ∷ r)) (append_assoc (flat_map key_byte b) (0 ∷ 0 ∷ []) s) ∙ order_text a b r s
order_column Int (Number m) (Word b) r s fv fw = absurd (cc)
order_column Int (Word a) w r s fv fw = absurd (cc)
order_column Huge (Number m) (Word b) r s fv fw = absurd (cc)
order_column Huge (Word a) w r s fv fw = absurd (cc)
order_column Text (Word a) (Number n) r s fv fw = absurd (cc)
order_column Text (Number m) w r s fv fw = absurd (cc)

pub key_order : KeyOrder
key_order [] [] [] fv fw = refl
key_order [] [] (w ∷ ws) fv fw = absurd fw
key_order [] (v ∷ vs) ws fv fw = absurd fv
key_order (k ∷ ks) [] ws fv fw = absurd fv
key_order (k ∷ ks) (v ∷ vs) [] fv fw = absurd fw
key_order (k ∷ ks) (v ∷ vs) (w ∷ ws) fv fw =
    order_column k v w (key_bytes ks vs) (key_bytes ks ws) fv.0 fw.0 ∙ ap (ordering_then (value_cmp v w)) (key_order ks vs ws fv.1 fw.1)
