-- What an answer tells of all contents.
use Rattle.std.specs.Prelude.{Result, Ok, Err, IfOk, IfErr, OnOk, OnErr}

-- what follows from what is told of a result
pub if_ok_as : {T E : Type 0} (r : Result T E) (P Q : T → Type 0) → ((x : T) → P x → Q x) → IfOk r P → IfOk r Q
if_ok_as (Ok x) P Q f h = f x h
if_ok_as (Err y) P Q f h = tt

module _ {T E C : Type 0} where
  pub on_ok_each : (r : Result T E) (H X : C → Type 0) → ((c : C) → H c → OnOk r (X c)) → OnOk r ((c : C) → H c → X c)
  on_ok_each (Ok x) H X f = f
  on_ok_each (Err y) H X f = tt

  pub on_err_each : (r : Result T E) (H X : C → Type 0) → ((c : C) → H c → OnErr r (X c)) → OnErr r ((c : C) → H c → X c)
  on_err_each (Ok x) H X f = tt
  on_err_each (Err y) H X f = f

  pub if_ok_each : (r : Result T E) (H : C → Type 0) (X : C → T → Type 0) → ((c : C) → H c → IfOk r (X c)) → IfOk r (λ x. (c : C) → H c → X c x)
  if_ok_each (Ok x) H X f = f
  if_ok_each (Err y) H X f = tt

module _ {T E C K : Type 0} where
  pub on_ok_both : (r : Result T E) (H : C → Type 0) (A X : C → K → Type 0) → ((c : C) (k : K) → H c → A c k → OnOk r (X c k)) → OnOk r ((c : C) (k : K) → H c → A c k → X c k)
  on_ok_both (Ok x) H A X f = f
  on_ok_both (Err y) H A X f = tt

  pub if_err_both : (r : Result T E) (H : C → Type 0) (A : C → K → Type 0) (X : C → K → E → Type 0) → ((c : C) (k : K) → H c → A c k → IfErr r (X c k)) → IfErr r (λ y. (c : C) (k : K) → H c → A c k → X c k y)
  if_err_both (Ok x) H A X f = tt
  if_err_both (Err y) H A X f = f
