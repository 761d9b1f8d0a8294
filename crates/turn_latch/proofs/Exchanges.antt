-- Exchanges that follow one another.
use Rattle.std.proofs.Common.{◌≡◌, ◌≢◌, ℕ, ◌+◌, List, [], ◌∷◌, ◌++◌, length, refl, sym, ap, ◌∙◌, subst, inr, arith, length-append, Option}
use Rattle.turn_latch.specs.declared.view.Exchange.{Exchange}
use Rattle.turn_latch.specs.Histories.{of}
use Rattle.turn_latch.specs.Exchanges.{maker, Saw, Others, Exchanged, Leads}
use Rattle.turn_latch.proofs.Histories.{no_items, begins_self, begins_trans, adds_other, of_append}

module _ {T : Type 0} where
  pub saw_all : (all : List (Exchange T)) (n : ℕ) → Saw all n all
  saw_all all n = (begins_self all, refl)

  -- who saw all of its own sees no more where another makes an exchange
  pub saw_on : (all : List (Exchange T)) (e : Exchange T) (n : ℕ) (log : List (Exchange T)) → n ≢ e.number → Saw all n log → Saw (all ++ e ∷ []) n log
  saw_on all e n log other s = (begins_trans log all (all ++ e ∷ []) s.0 (e ∷ [], refl), adds_other maker e.number n all (all ++ e ∷ []) other (inr (e, refl, refl)) ∙ s.1)

  -- all exchanges are those that a seat saw, and others'
  pub saw_others : (all : List (Exchange T)) (n : ℕ) (log : List (Exchange T)) → Saw all n log → Others n log all
  saw_others all n log s =
      let whole : of maker n all ≡ of maker n log ++ of maker n s.0.0 = ap (of maker n) s.0.1 ∙ of_append maker n log s.0.0 in
      let l : length (of maker n all) ≡ length (of maker n log) + length (of maker n s.0.0) = ap length whole ∙ length-append (of maker n log) (of maker n s.0.0) in
      let same : length (of maker n all) ≡ length (of maker n log) = ap length s.1 in
      (s.0.0, s.0.1, no_items (of maker n s.0.0) (omega arith))

  module _ {E : Type 0} (history : T → List E) where
    pub leads_on : (x : T) (t : Option ℕ) (es : List (Exchange T)) (y : T) (u : Option ℕ) (e : Exchange T) (z : T) (s : Option ℕ) → Leads history x t es y u → Exchanged history y u e z s → Leads history x t (es ++ e ∷ []) z s
    leads_on x t [] y u e z s l k = (z, s, subst (λ (p : T × Option ℕ). Exchanged history p.0 p.1 e z s) (λ i. (sym l.0 i, sym l.1 i)) k, (refl, refl))
    leads_on x t (d ∷ ds) y u e z s l k = (l.0, l.1, l.2, leads_on l.0 l.1 ds y u e z s l.3 k)
