-- Entries that are put under their places, one after another.
use Rattle.std.proofs.Common.{◌≡◌, ◌≢◌, inl, ⊎_elim, List, [], ◌∷◌, ◌++◌, Option, Some, None, refl, sym, ◌∙◌, ap, subst}
use Rattle.std.specs.List.{Contains}
use Rattle.std.specs.FinMap.{FinMap, empty, get, insert, get-empty}
use Rattle.std.proofs.lemmas.Option.{none-some}
use Rattle.std.proofs.lemmas.List.Elements.{Contains-append_left, Contains-append_right, Contains-append_cases}
use Rattle.table_laws.specs.Place.{Place, place_cmp}
use Rattle.table_laws.proofs.Place.{place_cmp_total, place_cmp-IsAntisymmetric}
use Rattle.table_laws.proofs.Tables.{get-write_same, get-write_other}
use Rattle.txn_machine.proofs.Basics.{contains_none}
use Rattle.txn_machine.proofs.Holding.{contains_here, contains_map}
use Rattle.txn_machine.proofs.Agreeing.{by_place}
use Rattle.txn_log.specs.Damaged.{Found}
use Rattle.txn_log.proofs.Placing.{in_rest}
use Rattle.image_finding.specs.declared.fault.BadImage.{BadImage}
use Rattle.image_entries.specs.declared.stored.StoredEntry.{StoredEntry}
use Rattle.image_entries.specs.Entries.{held_of, found_at, HasEntries, IsTwice, Gathers, TellsTwice}
use Rattle.image_entries.specs.Parts.{onto}
use Rattle.image_entries.proofs.Firsts.{none_append, first_after, in_onto, onto_has, of_one}

abbrev Entries : Type 0
Entries = FinMap place_cmp StoredEntry

-- ---- a place that is put in

put_here : (m : Entries) (p : Place) (s : StoredEntry) → get (insert m p s) p ≡ Some s
put_here m p s = get-write_same place_cmp_total place_cmp-IsAntisymmetric m p (Some s)

put_elsewhere : (m : Entries) (p q : Place) (s : StoredEntry) → q ≢ p → get (insert m p s) q ≡ get m q
put_elsewhere m p q s other = get-write_other place_cmp_total place_cmp-IsAntisymmetric m p (Some s) q other

pub same_some : {X : Type 0} (x y : X) → Some x ≡ Some y → x ≡ y
same_some x y e = cc

abbrev place_of : Found → Place
place_of f = f.entry.0

-- no entry has the place of another map's free place
free_place : (m : Entries) (fs : List Found) (p : Place) → HasEntries m fs → get m p ≡ None → (f : Found) → Contains fs f → f.entry.0 ≡ p → ⊥
free_place m fs p has free f c e = none-some (held_of f) (sym free ∙ (ap (get m) (sym e) ∙ has.held f c))

not_twice : (m : Entries) (fs : List Found) (p : Place) (s : StoredEntry) → HasEntries m fs → get m p ≡ None → IsTwice (onto fs []) (found_at p s) → ⊥
not_twice m fs p s has free twice =
    let one = of_one place_of (onto fs []) p twice in
    ⊎_elim (λ c. free_place m fs p has free one.0 c one.2) (λ c. absurd (contains_none one.0 c)) (in_onto fs [] one.0 one.1)

pub gathers_none : Gathers empty []
gathers_none = record {
  has = record { held = λ f c. absurd (contains_none f c); only = λ p s e. absurd (none-some s (sym (get-empty place_cmp p) ∙ e)) };
  apart = tt;
}

-- one more, of a new place
pub gathers_more : (m : Entries) (fs : List Found) (p : Place) (s : StoredEntry) → Gathers m fs → get m p ≡ None → Gathers (insert m p s) (fs ++ found_at p s ∷ [])
gathers_more m fs p s gathers free = record {
  has = record {
    held = λ f c. ⊎_elim
        (λ d. put_elsewhere m p f.entry.0 s (λ e. free_place m fs p gathers.has free f d e) ∙ gathers.has.held f d)
        (λ d. in_rest (found_at p s) f [] d (λ e. subst (λ (g : Found). get (insert m p s) g.entry.0 ≡ Some (held_of g)) e (put_here m p s)) (λ none. absurd (contains_none f none)))
        (Contains-append_cases fs (found_at p s ∷ []) f c);
    only = λ q t is. by_place q p
        (λ same.
        let kept : s ≡ t = same_some s t (sym (put_here m p s) ∙ (ap (get (insert m p s)) (sym same) ∙ is)) in
        subst (Contains (fs ++ found_at p s ∷ [])) (λ i. found_at (sym same i) (kept i)) (Contains-append_right fs (found_at p s ∷ []) (found_at p s) (contains_here (found_at p s) [])))
        (λ other. Contains-append_left fs (found_at p s ∷ []) (found_at q t) (gathers.has.only q t (sym (put_elsewhere m p q s other) ∙ is)));
  };
  apart = none_append IsTwice [] fs (found_at p s ∷ []) gathers.apart ((λ twice. not_twice m fs p s gathers.has free twice), tt);
}

-- one of a place that is taken
pub tells_twice : (m : Entries) (fs : List Found) (p : Place) (s : StoredEntry) (rest : List Found) (bad : BadImage) → Gathers m fs → get m p ≢ None → bad.rule ≡ 10 → bad.place ≡ s.page
    → TellsTwice (fs ++ found_at p s ∷ rest) bad
tells_twice m fs p s rest bad gathers taken rule place = by (get m p) refl
  where
    by : (o : Option StoredEntry) → get m p ≡ o → TellsTwice (fs ++ found_at p s ∷ rest) bad
    by None e = absurd (taken e)
    by (Some t) e = record {
      twice = found_at p s;
      first = first_after IsTwice [] fs (found_at p s) rest gathers.apart (contains_map place_of (onto fs []) (found_at p t) (onto_has fs [] (found_at p t) (inl (gathers.has.only p t e))));
      rule = rule;
      place = place;
    }
