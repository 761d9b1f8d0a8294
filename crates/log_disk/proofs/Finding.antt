-- For each device there is what is found.
use Rattle.std.proofs.Common.{◌≡◌, inl, inr, ◌⊎◌, ⊎_elim, Bool, true, false, ℕ, zero, suc, ◌+◌, ◌*◌, ◌<◌, ◌≤◌, List, [], ◌∷◌, length, get_or, Option, Some, None, refl, sym, ◌∙◌, ap, subst, arith}
use Rattle.std.specs.Prelude.{◌↔◌}
use Rattle.std.specs.Prelude.{map as map_of}
use Rattle.std.specs.List.{Contains, range_with_len}
use Rattle.std.specs.declared.cmp.Ordering.{Ordering}
use Rattle.std.specs.declared.cmp.Ordering.TheVariants.{Less, Equal, Greater}
use Rattle.std.specs.Ordering.{ordering_reverse}
use Rattle.std.proofs.lemmas.Bool.{false≢true, cases_lt}
use Rattle.disk_io.specs.Disk.{part}
use Rattle.page_store.specs.Image.{header_at, area_at, slot_at, pages_of, area_size_of, area_of, map_byte}
use Rattle.slot_page.specs.Page.{count_of, place_of, page_head, whole_page, leaf_kind, Lies, IsLeaf}
use Rattle.slot_page.specs.Bytes.{number_at}
use Rattle.log_records.specs.Scan.{scanned}
use Rattle.table_laws.specs.Place.{place_cmp}
use Rattle.table_laws.proofs.Place.{place_cmp_total, place_cmp-IsAntisymmetric}
use Rattle.txn_machine.proofs.Basics.{contains_none}
use Rattle.txn_machine.proofs.Holding.{contains_here, contains_next, contains_map}
use Rattle.txn_log.specs.Stored.{PageEntry}
use Rattle.txn_log.specs.Damaged.{Page, Found, Device, all_found}
use Rattle.txn_log.proofs.Finding.{by_number}
use Rattle.txn_log.proofs.Placing.{in_rest}
use Rattle.log_disk.specs.Bears.{page_entries, StandOnce, end_of_first}
use Rattle.log_disk.specs.Found.{live_on, header_of, scan_fault, StandsFirst, ArePagesOf, AreByKey, IsFoundBy, IsFoundIn, FoundLaw}

-- ---- a page is a leaf, or it is none

module _ (page : List ℕ) where
  abbrev entry_end : ℕ → ℕ
  entry_end i = place_of page i + 4 + number_at page (place_of page i) + number_at page (place_of page i + 2) + 2 * count_of page

  all_lie : (n : ℕ) → n ≤ count_of page → ((i : ℕ) → i < n → Lies page i) ⊎ (((i : ℕ) → i < count_of page → Lies page i) → ⊥)
  all_lie zero le = inl (λ i lt. absurd (omega (arith, lt)))
  all_lie (suc n) le = elim (all_lie n (omega (arith, le))) [
    | inr never ↦ inr never
    | inl below ↦ elim (cases_lt (place_of page n) page_head) [
      | inl low ↦ inr (λ each. let fits = (each n (omega (arith, le))).low in omega (arith, low, fits))
      | inr from ↦ elim (cases_lt whole_page (entry_end n)) [
        | inl high ↦ inr (λ each. let fits = (each n (omega (arith, le))).high in omega (arith, high, fits))
        | inr to ↦ inl (λ i lt. by_number i n
            (λ same. subst (Lies page) (sym same) (record { inside = omega (arith, le); low = from; high = to }))
            (λ other. below i (omega (arith, lt, other))))
      ]
    ]
  ]

  leaf_or : IsLeaf page ⊎ (IsLeaf page → ⊥)
  leaf_or = by_number (get_or page 0 0) leaf_kind
      (λ kind. ⊎_elim (λ each. inl (record { kind = kind; each = each })) (λ never. inr (λ leaf. never leaf.each)) (all_lie (count_of page) (omega arith)))
      (λ other. inr (λ leaf. other leaf.kind))

  leaf_tells : (formed : Bool) × ((formed ≡ true) ↔ IsLeaf page)
  leaf_tells = ⊎_elim (λ leaf. (true, ((λ e. leaf), (λ l. refl)))) (λ never. (false, ((λ e. absurd (false≢true e)), (λ l. absurd (never l))))) leaf_or

-- ---- the stored pages

module _ (room k : ℕ) (c : List ℕ) where
  pages_found : (ps : List ℕ) → (found : List Page) × ArePagesOf room k c ps found
  pages_found [] = ([], refl)
  pages_found (p ∷ ps) =
      let rest = pages_found ps in
      first p (map_byte k p c) (ArePagesOf room k c ps) rest.0 rest.1
    where
      first : (p m : ℕ) (Others : List Page → Type 0) (others : List Page) → Others others → (found : List Page) × StandsFirst room p m c Others found
      first p zero Others others are = (others, are)
      first p (suc j) Others others are =
          let bytes : List ℕ = part (slot_at room p j) 8192 c in
          let leaf = leaf_tells bytes in
          (record { place = slot_at room p j; formed = leaf.0; entries = page_entries bytes } ∷ others, (record { at = refl; leaf = leaf.1; entries = refl }, are))

-- ---- the entries of index 0, in order

abbrev by_order : Ordering → Found → Found → List Found → List Found → List Found
by_order Less f g gs more = f ∷ g ∷ gs
by_order Equal f g gs more = g ∷ more
by_order Greater f g gs more = g ∷ more

abbrev insert : Found → List Found → List Found
insert f [] = f ∷ []
insert f (g ∷ gs) = by_order (place_cmp f.entry.0 g.entry.0) f g gs (insert f gs)

inserted : (f : Found) (gs : List Found) (x : Found) → Contains (insert f gs) x → (x ≡ f) ⊎ Contains gs x
inserted f [] x c = in_rest f x [] c (λ e. inl (sym e)) (λ d. inr d)
inserted f (g ∷ gs) x c = by (place_cmp f.entry.0 g.entry.0) (later (inserted f gs x)) c
  where
    later : (Contains (insert f gs) x → (x ≡ f) ⊎ Contains gs x) → Contains (g ∷ insert f gs) x → (x ≡ f) ⊎ Contains (g ∷ gs) x
    later more d = in_rest g x (insert f gs) d (λ e. inr (subst (Contains (g ∷ gs)) e (contains_here g gs))) (λ e. ⊎_elim (λ s. inl s) (λ s. inr (contains_next g gs x s)) (more e))

    by : (o : Ordering) → (Contains (g ∷ insert f gs) x → (x ≡ f) ⊎ Contains (g ∷ gs) x) → Contains (by_order o f g gs (insert f gs)) x → (x ≡ f) ⊎ Contains (g ∷ gs) x
    by Less more d = in_rest f x (g ∷ gs) d (λ e. inl (sym e)) (λ e. inr e)
    by Equal more d = more d
    by Greater more d = more d

stays_in : (f : Found) (gs : List Found) (x : Found) → (x ≡ f) ⊎ Contains gs x → Contains (insert f gs) x
stays_in f [] x h = elim h [ inl e ↦ subst (Contains (f ∷ [])) (sym e) (contains_here f []) | inr c ↦ absurd (contains_none x c) ]
stays_in f (g ∷ gs) x h = by (place_cmp f.entry.0 g.entry.0) (later (stays_in f gs x))
  where
    later : ((x ≡ f) ⊎ Contains gs x → Contains (insert f gs) x) → Contains (g ∷ insert f gs) x
    later more = elim h [
      | inl e ↦ contains_next g (insert f gs) x (more (inl e))
      | inr c ↦ in_rest g x gs c (λ e. subst (Contains (g ∷ insert f gs)) e (contains_here g (insert f gs))) (λ d. contains_next g (insert f gs) x (more (inr d)))
    ]

    by : (o : Ordering) → Contains (g ∷ insert f gs) x → Contains (by_order o f g gs (insert f gs)) x
    by Less more = elim h [ inl e ↦ subst (Contains (f ∷ g ∷ gs)) (sym e) (contains_here f (g ∷ gs)) | inr c ↦ contains_next f (g ∷ gs) x c ]
    by Equal more = more
    by Greater more = more

abbrev entry_of : Found → PageEntry
entry_of f = f.entry

-- each of another key than this one
abbrev IsApart : Found → List Found → Type 0
IsApart f gs = (g : Found) → Contains gs g → f.entry.0 ≡ g.entry.0 → ⊥

-- an element of the entries is that of one that was found
of_one : (fs : List Found) (e : PageEntry) → Contains (map_of entry_of fs) e → (f : Found) × Contains fs f × (f.entry ≡ e)
of_one [] e c = absurd (contains_none e c)
of_one (f ∷ fs) e c = in_rest f.entry e (map_of entry_of fs) c
    (λ same. (f, contains_here f fs, same))
    (λ d. let one = of_one fs e d in (one.0, contains_next f fs one.0 one.1, one.2))

less_all : (f g : Found) (gs : List Found) → place_cmp f.entry.0 g.entry.0 ≡ Less → AreByKey (map_of entry_of (g ∷ gs)) → (e : PageEntry) → Contains (map_of entry_of (g ∷ gs)) e → place_cmp f.entry.0 e.0 ≡ Less
less_all f g gs less h e c = in_rest g.entry e (map_of entry_of gs) c
    (λ same. subst (λ (x : PageEntry). place_cmp f.entry.0 x.0 ≡ Less) same less)
    (λ d. place_cmp_total.trans f.entry.0 g.entry.0 e.0 less (h.0 e d))

in_order : (f : Found) (gs : List Found) → IsApart f gs → AreByKey (map_of entry_of gs) → AreByKey (map_of entry_of (insert f gs))
in_order f [] apart h = ((λ e c. absurd (contains_none e c)), tt)
in_order f (g ∷ gs) apart h = by (later (in_order f gs (λ x c. apart x (contains_next g gs x c)) h.1)) (place_cmp f.entry.0 g.entry.0) refl
  where
    later : AreByKey (map_of entry_of (insert f gs)) → place_cmp g.entry.0 f.entry.0 ≡ Less → AreByKey (map_of entry_of (g ∷ insert f gs))
    later rest less = (
      (λ e c.
          let one = of_one (insert f gs) e c in
          ⊎_elim (λ (same : one.0 ≡ f). subst (λ (x : PageEntry). place_cmp g.entry.0 x.0 ≡ Less) (ap entry_of (sym same) ∙ one.2) less)
          (λ (d : Contains gs one.0). subst (λ (x : PageEntry). place_cmp g.entry.0 x.0 ≡ Less) one.2 (h.0 one.0.entry (contains_map entry_of gs one.0 d)))
          (inserted f gs one.0 one.1)),
      rest,
    )

    by : (place_cmp g.entry.0 f.entry.0 ≡ Less → AreByKey (map_of entry_of (g ∷ insert f gs))) → (o : Ordering) → place_cmp f.entry.0 g.entry.0 ≡ o → AreByKey (map_of entry_of (by_order o f g gs (insert f gs)))
    by more Less e = (less_all f g gs e h, h)
    by more Equal e = absurd (apart g (contains_here g gs) (place_cmp-IsAntisymmetric f.entry.0 g.entry.0 e))
    by more Greater e = more (place_cmp_total.antisymm g.entry.0 f.entry.0 ∙ ap ordering_reverse e)

-- those of index 0 among these
abbrev with_index : ℕ → Found → List Found → List Found
with_index zero f ds = insert f ds
with_index (suc n) f ds = ds

abbrev definitions_of : List Found → List Found
definitions_of [] = []
definitions_of (f ∷ fs) = with_index f.entry.0.0 f (definitions_of fs)

are_among : (fs : List Found) (x : Found) → Contains (definitions_of fs) x → Contains fs x × (x.entry.0.0 ≡ 0)
are_among [] x c = absurd (contains_none x c)
are_among (f ∷ fs) x c = by (are_among fs x) f.entry.0.0 refl c
  where
    by : (Contains (definitions_of fs) x → Contains fs x × (x.entry.0.0 ≡ 0)) → (n : ℕ) → f.entry.0.0 ≡ n → Contains (with_index n f (definitions_of fs)) x
        → Contains (f ∷ fs) x × (x.entry.0.0 ≡ 0)
    by more zero e d = elim (inserted f (definitions_of fs) x d) [
      | inl same ↦ (subst (Contains (f ∷ fs)) (sym same) (contains_here f fs), ap (λ (y : Found). y.entry.0.0) same ∙ e)
      | inr rest ↦ (let one = more rest in (contains_next f fs x one.0, one.1))
    ]
    by more (suc n) e d = let one = more d in (contains_next f fs x one.0, one.1)

are_all : (fs : List Found) (x : Found) → Contains fs x → x.entry.0.0 ≡ 0 → Contains (definitions_of fs) x
are_all [] x c e = absurd (contains_none x c)
are_all (f ∷ fs) x c e = by (λ d. are_all fs x d e) f.entry.0.0 refl
  where
    by : (Contains fs x → Contains (definitions_of fs) x) → (n : ℕ) → f.entry.0.0 ≡ n → Contains (with_index n f (definitions_of fs)) x
    by more zero is = stays_in f (definitions_of fs) x (in_rest f x fs c (λ same. inl (sym same)) (λ d. inr (more d)))
    by more (suc n) is = in_rest f x fs c
        (λ same. absurd (let other : suc n ≡ 0 = sym is ∙ (ap (λ (y : Found). y.entry.0.0) same ∙ e) in omega (arith, other)))
        (λ d. more d)

by_key : (fs : List Found) → StandOnce (map_of entry_of fs) → AreByKey (map_of entry_of (definitions_of fs))
by_key [] once = tt
by_key (f ∷ fs) once = by (by_key fs once.1) f.entry.0.0
  where
    apart : IsApart f (definitions_of fs)
    apart g c e = once.0 (subst (Contains (map_of (λ (x : PageEntry). x.0) (map_of entry_of fs))) (sym e)
        (contains_map (λ (x : PageEntry). x.0) (map_of entry_of fs) g.entry (contains_map entry_of fs g (are_among fs g c).0)))

    by : AreByKey (map_of entry_of (definitions_of fs)) → (n : ℕ) → AreByKey (map_of entry_of (with_index n f (definitions_of fs)))
    by more zero = in_order f (definitions_of fs) apart more
    by more (suc n) = more

-- ---- what is found

found_by : (k : ℕ) (c : List ℕ) → (d : Device) × (d.bytes ≡ length c) × IsFoundBy k c d
found_by k c =
    let room : ℕ = area_size_of k c in
    let area : List ℕ = part (area_at room (area_of k c)) room c in
    let pages = pages_found room k c (range_with_len 0 (pages_of k c)) in (
      record {
        bytes = length c;
        header = Some (header_of k c);
        first_end = end_of_first area;
        scan = scan_fault (area_at room (area_of k c)) (scanned area);
        map = part (header_at k + 64) (pages_of k c) c;
        stored = pages.0;
        definitions = definitions_of (all_found pages.0);
      },
      refl,
      record {
        header = refl;
        first_end = refl;
        scan = refl;
        map = refl;
        stored = pages.1;
        definitions = λ once. record {
          among = λ f. ((λ x. are_among (all_found pages.0) f x), (λ x. are_all (all_found pages.0) f x.0 x.1));
          in_order = by_key (all_found pages.0) once;
        };
      },
    )

found_in : (o : Option ℕ) (c : List ℕ) → (d : Device) × (d.bytes ≡ length c) × IsFoundIn o c d
found_in None c = (record { bytes = length c; header = None; first_end = None; scan = None; map = []; stored = []; definitions = [] }, refl, refl)
found_in (Some k) c = found_by k c

pub all_are_found : FoundLaw
all_are_found c = let is = found_in (live_on c) c in (is.0, record { bytes = is.1; by = is.2 })
