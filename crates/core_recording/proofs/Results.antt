-- A result that is an error.
use Rattle.std.specs.Prelude.{◌≡◌, Result, Ok, Err, IfOk}

pub if_ok_at : {A E : Type 0} (P : A → Type 0) (r : Result A E) (e : E) → r ≡ Err e → IfOk r P
if_ok_at P (Ok x) e is = absurd (cc)
if_ok_at P (Err f) e is = tt
