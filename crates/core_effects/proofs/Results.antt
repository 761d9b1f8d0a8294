-- What holds of a result.
use Rattle.std.specs.Prelude.{◌≡◌, refl, Result, Ok, Err, OnOk, OnErr, IfErr}

pub either_way : {A E : Type 0} {P Q R : Type 0} (r : Result A E) → OnOk r P → OnErr r Q → (P → R) → (Q → R) → R
either_way (Ok x) ok err f g = f ok
either_way (Err e) ok err f g = g err

pub on_ok_as : {A E : Type 0} {P Q : Type 0} (r : Result A E) → (P → Q) → OnOk r P → OnOk r Q
on_ok_as (Ok x) f ok = f ok
on_ok_as (Err e) f ok = tt

pub on_ok_two : {A E : Type 0} {P Q R : Type 0} (r : Result A E) → (P → Q → R) → OnOk r P → OnOk r Q → OnOk r R
on_ok_two (Ok x) f one two = f one two
on_ok_two (Err e) f one two = tt

-- with that it is one
pub on_ok_where : {A E : Type 0} {P Q : Type 0} (r : Result A E) → ((x : A) → r ≡ Ok x → P → Q) → OnOk r P → OnOk r Q
on_ok_where (Ok x) f ok = f x refl ok
on_ok_where (Err e) f ok = tt

pub on_err_as : {A E : Type 0} {P Q : Type 0} (r : Result A E) → (P → Q) → OnErr r P → OnErr r Q
on_err_as (Ok x) f err = tt
on_err_as (Err e) f err = f err

pub if_err_where : {A E : Type 0} {P Q : E → Type 0} (r : Result A E) → ((e : E) → r ≡ Err e → P e → Q e) → IfErr r P → IfErr r Q
if_err_where (Ok x) f err = tt
if_err_where (Err e) f err = f e refl err

pub on_err_three : {A E : Type 0} {P Q R S : Type 0} (r : Result A E) → (P → Q → R → S) → OnErr r P → OnErr r Q → OnErr r R → OnErr r S
on_err_three (Ok x) f one two three = tt
on_err_three (Err e) f one two three = f one two three

pub on_err_of : {A E : Type 0} {P : Type 0} (r : Result A E) → P → OnErr r P
on_err_of (Ok x) p = tt
on_err_of (Err e) p = p
