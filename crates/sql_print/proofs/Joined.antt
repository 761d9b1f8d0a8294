-- Parts of a text, one behind the other.
use Rattle.std.proofs.Common.{◌≡◌, ℕ, List, ◌++◌, Result, Ok, Err, ◌∙◌, append_assoc}
use Rattle.std.specs.Prelude.{OnOk}

pub four_parts : {T E : Type 0} (r : Result T E) (a b c d w v x y : List ℕ) → b ≡ a ++ (w ++ v) → c ≡ b ++ x → OnOk r (d ≡ c ++ y) → OnOk r (d ≡ a ++ (w ++ (v ++ (x ++ y))))
four_parts (Ok t) a b c d w v x y e f g = g ∙ rw (f, e) (simp append_assoc)
four_parts (Err t) a b c d w v x y e f g = tt
