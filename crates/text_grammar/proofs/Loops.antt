-- Steps of readers, as code takes them.
use Rattle.std.proofs.Common.{◌≡◌, ◌<◌, Bool, true, false, List, [], ◌∷◌, length, Option, Some, None, Result, Ok, Err, refl, sym, ap, ◌∙◌, arith}
use Rattle.std.specs.Prelude.{is_some}
use Rattle.text_grammar.specs.declared.fault.Cause.{Cause}
use Rattle.text_grammar.specs.declared.fault.Cause.TheVariants.{Syntax}
use Rattle.text_grammar.specs.declared.fault.Fault.{Fault}
use Rattle.text_grammar.specs.declared.fault.ParseError.{ParseError}
use Rattle.text_grammar.specs.declared.fault.ParseError.TheVariants as errors
use Rattle.text_grammar.specs.Readers.{accept, one, behind, Reader, Fails, starts, folded}
use Rattle.text_grammar.proofs.Exactness.{ok_is}
use Rattle.text_grammar.proofs.Repeating.{Consumes, folded_stop, folded_turn, folded_fault, folded_enough}

-- an error that is passed on
pub passed_on : {A B : Type 0} (e : ParseError) (r : Result A Fault) (s : Result B Fault) → ((f : Fault) → r ≡ Err f → s ≡ Err f) → Fails e r → Fails e s
passed_on errors.Memory r s h k = tt
passed_on (errors.Fault f) r s h k = h f k

-- one more item of a row
pub row_on : {T A B : Type 0} (test : T → Bool) (step : A → B → A) (r : A → Reader T B) (acc : A) (ts mid : List T) (b : B) → ((a : A) → Consumes test (r a)) → starts test ts ≡ true → r acc ts ≡ Ok (b, mid) → folded test step r (step acc b) mid ≡ folded test step r acc ts
row_on test step r acc [] mid b small found e = absurd cc
row_on test step r acc (t ∷ ts) mid b small found e =
    let less : length mid < length (t ∷ ts) = small acc (t ∷ ts) (b, mid) found e in
    sym (folded_turn test step r (length ts) acc (t ∷ ts) mid b found e ∙ folded_enough test step r small (length ts) (length mid) (step acc b) mid (omega arith) (omega arith))

-- an item of a row that fails
pub row_fails : {T A B : Type 0} (test : T → Bool) (step : A → B → A) (r : A → Reader T B) (acc : A) (ts : List T) (f : Fault) → starts test ts ≡ true → r acc ts ≡ Err f → folded test step r acc ts ≡ Err f
row_fails test step r acc [] f found e = absurd cc
row_fails test step r acc (t ∷ ts) f found e = folded_fault test step r (length ts) acc (t ∷ ts) f found e

-- a row that no item goes on with
pub row_ends : {T A B : Type 0} (test : T → Bool) (step : A → B → A) (r : A → Reader T B) (acc : A) (ts : List T) → starts test ts ≡ false → folded test step r acc ts ≡ Ok (acc, ts)
row_ends test step r acc ts h = folded_stop test step r (length ts) acc ts h

accept_some : {T A : Type 0} (why : Cause) (o : Option A) (all rest : List T) (x : A × List T) → accept why o all rest ≡ Ok x → (is_some o ≡ true) × (rest ≡ x.1)
accept_some why (Some a) all rest x e = (refl, ap (λ (z : _ × List _). z.1) (ok_is (a, rest) x e))
accept_some why None all rest x e = absurd cc

-- what is read behind a token that was read
pub behind_one : {T A B : Type 0} (pick : T → Option A) (r : Reader T B) (ts : List T) (x : A × List T) → one pick ts ≡ Ok x → behind pick r ts ≡ r x.1
behind_one pick r [] x e = absurd cc
behind_one pick r (t ∷ ts) x e =
    let h = accept_some Syntax (pick t) (t ∷ ts) ts x e in
    let found = h.0 in
    rw found (ap r h.1)
