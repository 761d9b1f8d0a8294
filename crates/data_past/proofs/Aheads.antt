-- Versions that are made ahead, over each effect of the machine.
use Rattle.std.specs.Prelude.{◌≡◌, ◌≢◌, ◌≤◌, ◌<◌, ◌-◌, ◌+◌, ℕ, zero, suc, true, List, [], ◌∷◌, ◌++◌, map, reverse, length, take, sum_by, slice_get, slice_set, get_or, Option, Some, None}
use mathlib.Core.Path.{refl, sym, ap, subst, ◌∙◌}
use Rattle.std.proofs.Common.{arith, append-nil, append_assoc, length-append}
use Rattle.std.proofs.lemmas.Grind.{reverse_onto}
use Rattle.std.proofs.lemmas.List.{map-append, length-map, length-reverse, length-take}
use Rattle.std.proofs.lemmas.List.Sums.{sum_by-cons, sum_by-set}
use Rattle.std.proofs.lemmas.Option.{slice_get_within, get_or_from_slice_get}
use Rattle.std.proofs.Math.Seq.{take-append_seam}
use Rattle.table_laws.proofs.SetPlaces.{set_here, set_elsewhere}
use Rattle.iv_types.specs.declared.lock.GroupDelta.{GroupDelta}
use Rattle.iv_types.specs.declared.statement.Mode.{Mode}
use Rattle.iv_types.specs.declared.lock.Want.{Want}
use Rattle.table_laws.specs.Place.{Place}
use Rattle.table_laws.proofs.Stored.{by_session}
use Rattle.iv_meaning.specs.Escrow.{IsSession}
use Rattle.txn_machine.specs.Locks.{with_one}
use Rattle.txn_machine.specs.Deltas.{RowChange}
use Rattle.txn_machine.specs.Ghosts.{the_views}
use Rattle.txn_machine.specs.Keeping.{KeptStep, Put, Pay, Note, Open, changes_of, begun}
use Rattle.txn_machine.specs.Stored.{ViewRows, add_to}
use Rattle.txn_machine.specs.Store.{Store, opened, committed, schema_of, now, changes_by, notes_before, paid_first, undone, Opens, Takes, Notes, Pays, Ghosts, Undoes, Loses, Commits, Defines, Cleans, Prunes, does}
use Rattle.txn_machine.proofs.Basics.{one_same, one_other}
use Rattle.txn_machine.proofs.Good.{the_open}
use Rattle.version_chain.specs.declared.rows.Version as row
use Rattle.data_store.specs.Machine.{changes_on, version_by, IsPast}
use Rattle.data_store.specs.Past.{Pendings, RowVersions}
use Rattle.data_store.specs.ViewPast.{DeltaVersions}
use Rattle.data_past.specs.Moves.{fewer, version_at, delta_at, pushed_all, pays_of}
use Rattle.data_past.proofs.Effects.{past_commits}
use Rattle.data_past.proofs.Entering.{sets_in}
use Rattle.std.specs.FinMap.{get}
use Rattle.iv_meaning.specs.Schema.{Schema, Object}
use Rattle.txn_machine.proofs.Telling.{Good'}
use Rattle.data_past.specs.Ahead.{rows_of, deltas_of, rows_at, deltas_at, rows_in, deltas_in, all_rows, all_deltas, Becomes, made_of, IsAhead}
use Rattle.data_past.specs.declared.versions.Versions.{Versions}

-- ---- one place of all

pub set_becomes : (old : List Versions) (i : ℕ) (v w : Versions) (rows : List row.Version) (deltas : List GroupDelta) → slice_get old i ≡ Some v → w.rows.items ≡ rows → w.deltas.items ≡ deltas → Becomes old (slice_set old i w) i rows deltas
set_becomes old i v w rows deltas at rows_are deltas_are = let lt : i < length old = slice_get_within old i v at in let was : get_or old i v ≡ v = get_or_from_slice_get old i v v at in record {
  rows = ap rows_of (set_here old i w lt) ∙ rows_are;
  deltas = ap deltas_of (set_here old i w lt) ∙ deltas_are;
  other_rows = λ j n. ap rows_of (set_elsewhere old i j w n);
  other_deltas = λ j n. ap deltas_of (set_elsewhere old i j w n);
  sum = let sum = sum_by-set rows_in old i w v lt in let here : length (get_or old i v).rows.items ≡ length v.rows.items = ap rows_in was in let had : length (rows_at old i) ≡ length v.rows.items = ap (λ o. length (rows_of o)) at in let has : length w.rows.items ≡ length rows = ap length rows_are in omega (arith, sum, here, had, has);
  delta_sum = let sum = sum_by-set deltas_in old i w v lt in let here : length (get_or old i v).deltas.items ≡ length v.deltas.items = ap deltas_in was in let had : length (deltas_at old i) ≡ length v.deltas.items = ap (λ o. length (deltas_of o)) at in let has : length w.deltas.items ≡ length deltas = ap length deltas_are in omega (arith, sum, here, had, has);
}

-- where a session's are made of those that it had
pub set_in : (f : List row.Version → List row.Version) (g : List GroupDelta → List GroupDelta) (old items : List Versions) → items ≡ old → (i : ℕ) (v w : Versions) → slice_get items i ≡ Some v → w.rows.items ≡ f v.rows.items → w.deltas.items ≡ g v.deltas.items
    → Becomes old (slice_set items i w) i (f (rows_at old i)) (g (deltas_at old i))
set_in f g old items same i v w at rows deltas =
    let here : slice_get old i ≡ Some v = ap (λ xs. slice_get xs i) (sym same) ∙ at in
    subst (λ xs. Becomes old (slice_set xs i w) i (f (rows_at old i)) (g (deltas_at old i))) (sym same)
    (set_becomes old i v w (f (rows_at old i)) (g (deltas_at old i)) here (rows ∙ ap (λ o. f (rows_of o)) (sym here)) (deltas ∙ ap (λ o. g (deltas_of o)) (sym here)))

-- a session that has one has a place
pub rows_there : (all : List Versions) (i : ℕ) → 1 ≤ length (rows_at all i) → i < length all
rows_there [] i some = absurd (omega (arith, some))
rows_there (v ∷ vs) zero some = omega arith
rows_there (v ∷ vs) (suc i) some = let rest = rows_there vs i some in omega (arith, rest)

-- ---- nobody has one

nothing_in : (f : Versions → ℕ) (all : List Versions) → ((i : ℕ) (v : Versions) → slice_get all i ≡ Some v → f v ≡ 0) → sum_by f all ≡ 0
nothing_in f [] none = refl
nothing_in f (v ∷ vs) none = omega (arith, sum_by-cons f v vs, none 0 v refl, nothing_in f vs (λ i w e. none (suc i) w e))

pub ahead_opened : (all : List Versions) (row_room delta_room : ℕ) (db : _) (view : ViewRows) → ((i : ℕ) → rows_at all i ≡ []) → ((i : ℕ) → deltas_at all i ≡ []) → IsAhead all row_room delta_room (opened db view)
ahead_opened all row_room delta_room db view no_rows no_deltas = record {
  rows = λ i. no_rows i;
  deltas = λ i. no_deltas i;
  row_room = let none = nothing_in rows_in all (λ i v e. ap length (sym (ap rows_of e) ∙ no_rows i)) in omega (arith, none);
  delta_room = let none = nothing_in deltas_in all (λ i v e. ap length (sym (ap deltas_of e) ∙ no_deltas i)) in omega (arith, none);
}

-- ---- effects

module _ (A : List Versions) (r d : ℕ) (s : Store) (h : IsAhead A r d s) where
  -- with other room
  pub ahead_roomier : (r' d' : ℕ) → r ≤ r' → d ≤ d' → IsAhead A r' d' s
  ahead_roomier r' d' more more_deltas = record { rows = h.rows; deltas = h.deltas; row_room = let had = h.row_room in omega (arith, had, more); delta_room = let had = h.delta_room in omega (arith, had, more_deltas) }

  -- with room made for more
  pub ahead_reserved : (i : ℕ) (A' : List Versions) → Becomes A A' i (rows_at A i) (deltas_at A i) → (r' d' : ℕ) → r ≤ r' → d ≤ d' → IsAhead A' r' d' s
  ahead_reserved i A' same r' d' more more_deltas = record {
    rows = λ j. by_session j i (λ e. subst (λ k. rows_at A' k ≡ map (made_of (schema_of s)) (reverse (changes_by s k))) (sym e) (same.rows ∙ h.rows i)) (λ n. same.other_rows j n ∙ h.rows j);
    deltas = λ j. by_session j i (λ e. subst (λ k. deltas_at A' k ≡ pays_of (now s k).kept ++ (now s k).owed) (sym e) (same.deltas ∙ h.deltas i)) (λ n. same.other_deltas j n ∙ h.deltas j);
    row_room = let all = same.sum in let had = h.row_room in omega (arith, all, had, more);
    delta_room = let all = same.delta_sum in let had = h.delta_room in omega (arith, all, had, more_deltas);
  }

  module _ (i : ℕ) (o : Option Open) (u : Store) (opens : u.open_of ≡ with_one s.open_of i o) (objects : schema_of u ≡ schema_of s) where
    now_own : now u i ≡ the_open o
    now_own = ap (λ f. the_open (f i)) opens ∙ ap the_open (one_same s.open_of i o i refl)

    now_other : (j : ℕ) → j ≢ i → now u j ≡ now s j
    now_other j n = ap (λ f. the_open (f j)) opens ∙ ap the_open (one_other s.open_of i o j n)

    -- a session's transaction is another one, with its versions
    pub ahead_moves : (A' : List Versions) (r' d' : ℕ) (rows : List row.Version) (deltas : List GroupDelta) → Becomes A A' i rows deltas → rows ≡ map (made_of (schema_of s)) (reverse (changes_of (the_open o).kept)) → deltas ≡ pays_of (the_open o).kept ++ (the_open o).owed
        → all_rows A' ≤ r' → all_deltas A' ≤ d' → IsAhead A' r' d' u
    ahead_moves A' r' d' rows deltas becomes rows_are deltas_are fits deltas_fit = record {
      rows = λ j. by_session j i
          (λ e. subst (λ k. rows_at A' k ≡ map (made_of (schema_of u)) (reverse (changes_by u k))) (sym e)
          (becomes.rows ∙ (rows_are ∙ (λ x. map (made_of (sym objects x)) (reverse (changes_of (sym now_own x).kept))))))
          (λ n. becomes.other_rows j n ∙ (h.rows j ∙ (λ x. map (made_of (sym objects x)) (reverse (changes_of (sym (now_other j n) x).kept)))));
      deltas = λ j. by_session j i
          (λ e. subst (λ k. deltas_at A' k ≡ pays_of (now u k).kept ++ (now u k).owed) (sym e)
          (becomes.deltas ∙ (deltas_are ∙ (λ x. pays_of (sym now_own x).kept ++ (sym now_own x).owed))))
          (λ n. becomes.other_deltas j n ∙ (h.deltas j ∙ (λ x. pays_of (sym (now_other j n) x).kept ++ (sym (now_other j n) x).owed)));
      row_room = fits;
      delta_room = deltas_fit;
    }

    -- with the same versions
    pub ahead_stays : changes_of (the_open o).kept ≡ changes_by s i → pays_of (the_open o).kept ++ (the_open o).owed ≡ pays_of (now s i).kept ++ (now s i).owed → IsAhead A r d u
    ahead_stays changes pays = ahead_moves A r d (rows_at A i) (deltas_at A i)
        (record { rows = refl; deltas = refl; other_rows = λ j n. refl; other_deltas = λ j n. refl; sum = refl; delta_sum = refl })
        (h.rows i ∙ ap (λ cs. map (made_of (schema_of s)) (reverse cs)) (sym changes)) (h.deltas i ∙ sym pays) h.row_room h.delta_room

  pub ahead_opens : (i : ℕ) (mode : Mode) → s.open_of i ≡ None → IsAhead A r d (does the_views s i (Opens mode))
  ahead_opens i mode none = ahead_stays i (Some (begun mode (committed s).number)) (does the_views s i (Opens mode)) refl refl (sym (ap (λ (o : Option Open). changes_of (the_open o).kept) none))
      (sym (ap (λ (o : Option Open). pays_of (the_open o).kept ++ (the_open o).owed) none))

  pub ahead_takes : (i : ℕ) (wants : List Want) → IsAhead A r d (does the_views s i (Takes wants))
  ahead_takes i wants = ahead_stays i (Some (record (now s i) { locks = wants ++ (now s i).locks })) (does the_views s i (Takes wants)) refl refl refl refl

  pub ahead_notes : (i : ℕ) (note : Note) → IsAhead A r d (does the_views s i (Notes note))
  ahead_notes i note = ahead_stays i (Some (record (now s i) { notes = note ∷ (now s i).notes })) (does the_views s i (Notes note)) refl refl refl refl

  pub ahead_loses : (i : ℕ) → IsAhead A r d (does the_views s i Loses)
  ahead_loses i = ahead_stays i (Some (record (now s i) { is_lost = true })) (does the_views s i Loses) refl refl refl refl

  pub ahead_ghosts : (i : ℕ) (place : Place) (columns : ℕ) → IsAhead A r d (does the_views s i (Ghosts place columns))
  ahead_ghosts i place columns = record { rows = h.rows; deltas = h.deltas; row_room = h.row_room; delta_room = h.delta_room }

  pub ahead_cleans : (i : ℕ) (place : Place) → IsAhead A r d (does the_views s i (Cleans place))
  ahead_cleans i place = record { rows = h.rows; deltas = h.deltas; row_room = h.row_room; delta_room = h.delta_room }

  -- where no transaction is open nothing is ahead, whatever is defined
  pub ahead_defines : (i : ℕ) (object : Object) → ((j : ℕ) → s.open_of j ≡ None) → IsAhead A r d (does the_views s i (Defines object))
  ahead_defines i object none = record {
    rows = λ j. h.rows j ∙ (ap (λ (o : Option Open). map (made_of (schema_of s)) (reverse (changes_of (the_open o).kept))) (none j)
        ∙ sym (ap (λ (o : Option Open). map (made_of (schema_of (does the_views s i (Defines object)))) (reverse (changes_of (the_open o).kept))) (none j)));
    deltas = h.deltas;
    row_room = h.row_room;
    delta_room = h.delta_room;
  }

  pub ahead_prunes : (i r' d' : ℕ) → r ≤ r' → d ≤ d' → IsAhead A r' d' (does the_views s i Prunes)
  ahead_prunes i r' d' more more_deltas = let roomy = ahead_roomier r' d' more more_deltas in record { rows = h.rows; deltas = h.deltas; row_room = roomy.row_room; delta_room = roomy.delta_room }

  -- the first delta that is owed is paid
  pub ahead_pays : (i : ℕ) → (e : GroupDelta) (es : List GroupDelta) → (now s i).owed ≡ e ∷ es → IsAhead A r d (does the_views s i Pays)
  ahead_pays i e es owed = subst (λ (l : List GroupDelta). IsAhead A r d (paid_first s i (now s i) l)) (sym owed)
      (ahead_stays i (Some (record (now s i) { kept = Pay e ∷ (now s i).kept; owed = es })) (record s { view = add_to s.view e; open_of = with_one s.open_of i (Some (record (now s i) { kept = Pay e ∷ (now s i).kept; owed = es })) }) refl refl refl
      (append_assoc (pays_of (now s i).kept) (e ∷ []) es ∙ ap (λ (l : List GroupDelta). pays_of (now s i).kept ++ l) (sym owed)))

  -- and a pay is taken back
  pub ahead_unpaid : (i : ℕ) → (e : GroupDelta) (ks : List KeptStep) → (now s i).kept ≡ Pay e ∷ ks → IsAhead A r d (does the_views s i Undoes)
  ahead_unpaid i e ks kept = subst (λ (l : List KeptStep). IsAhead A r d (undone s i (now s i) l)) (sym kept)
      (ahead_stays i (Some (record (now s i) { kept = ks; owed = e ∷ (now s i).owed; back = (now s i).back + 1 })) (undone s i (now s i) (Pay e ∷ ks)) refl refl (sym (ap changes_of kept))
      (sym (append_assoc (pays_of ks) (e ∷ []) (now s i).owed) ∙ ap (λ (l : List KeptStep). pays_of l ++ (now s i).owed) (sym kept)))

  -- a change is put, with its version and what it owes
  pub ahead_writes : (i : ℕ) → (now s i).owed ≡ [] → (c : RowChange) (owed : List GroupDelta) (u : Store) → u.open_of ≡ with_one s.open_of i (Some (record (now s i) { kept = Put c owed ∷ (now s i).kept; owed = owed; back = 0 })) → schema_of u ≡ schema_of s
      → (v : row.Version) → v ≡ made_of (schema_of s) c → (A' : List Versions) → Becomes A A' i (rows_at A i ++ v ∷ []) (deltas_at A i ++ owed) → all_rows A + 1 ≤ r → all_deltas A + length owed ≤ d → IsAhead A' r d u
  ahead_writes i none c owed u opens objects v version A' becomes room delta_room =
      ahead_moves i (Some (record (now s i) { kept = Put c owed ∷ (now s i).kept; owed = owed; back = 0 })) u opens objects A' r d (rows_at A i ++ v ∷ []) (deltas_at A i ++ owed) becomes
      ((λ x. h.rows i x ++ version x ∷ [])
      ∙ (sym (map-append (made_of (schema_of s)) (reverse (changes_by s i)) (c ∷ [])) ∙ ap (map (made_of (schema_of s))) (sym (reverse_onto (changes_by s i) c []))))
      (ap (λ (l : List GroupDelta). l ++ owed) (h.deltas i ∙ (ap (λ (l : List GroupDelta). pays_of (now s i).kept ++ l) none ∙ append-nil (pays_of (now s i).kept))))
      (let all = becomes.sum in let more : length (rows_at A i ++ v ∷ []) ≡ length (rows_at A i) + 1 = length-append (rows_at A i) (v ∷ []) in omega (arith, all, more, room))
      (let all = becomes.delta_sum in let more : length (deltas_at A i ++ owed) ≡ length (deltas_at A i) + length owed = length-append (deltas_at A i) owed in omega (arith, all, more, delta_room))

  -- how many there are of a session
  pub rows_many : (i : ℕ) → length (rows_at A i) ≡ length (changes_by s i)
  rows_many i = ap length (h.rows i) ∙ (length-map (reverse (changes_by s i)) (made_of (schema_of s)) ∙ length-reverse (changes_by s i))

  pub deltas_many : (i : ℕ) → length (deltas_at A i) ≡ length (pays_of (now s i).kept) + length (now s i).owed
  deltas_many i = ap length (h.deltas i) ∙ length-append (pays_of (now s i).kept) (now s i).owed

  -- the latest change is taken back
  pub ahead_unput : (i : ℕ) → (c : RowChange) (ds : List GroupDelta) (ks : List KeptStep) → (now s i).kept ≡ Put c ds ∷ ks → (n : ℕ) → n ≡ length (now s i).owed → (A' : List Versions)
      → Becomes A A' i (take (length (rows_at A i) - 1) (rows_at A i)) (take (length (deltas_at A i) - n) (deltas_at A i)) → IsAhead A' r d (does the_views s i Undoes)
  ahead_unput i c ds ks kept n many A' becomes = subst (λ (l : List KeptStep). IsAhead A' r d (undone s i (now s i) l)) (sym kept)
      (ahead_moves i (Some (record (now s i) { kept = ks; owed = []; back = 0; notes = notes_before (length ks) (now s i).notes })) (undone s i (now s i) (Put c ds ∷ ks)) refl refl A' r d
      (take (length (rows_at A i) - 1) (rows_at A i)) (take (length (deltas_at A i) - n) (deltas_at A i)) becomes rows_left deltas_left
      (let all = becomes.sum in let few : length (take (length (rows_at A i) - 1) (rows_at A i)) ≤ length (rows_at A i) = (let cut = length-take (length (rows_at A i) - 1) (rows_at A i) in omega (arith, cut)) in let had = h.row_room in omega (arith, all, few, had))
      (let all = becomes.delta_sum in let few : length (take (length (deltas_at A i) - n) (deltas_at A i)) ≤ length (deltas_at A i) = (let cut = length-take (length (deltas_at A i) - n) (deltas_at A i) in omega (arith, cut)) in let had = h.delta_room in omega (arith, all, few, had)))
    where
      front : List row.Version
      front = map (made_of (schema_of s)) (reverse (changes_of ks))

      rows_are : rows_at A i ≡ front ++ made_of (schema_of s) c ∷ []
      rows_are =
          h.rows i ∙ (ap (λ (l : List KeptStep). map (made_of (schema_of s)) (reverse (changes_of l))) kept
          ∙ (ap (map (made_of (schema_of s))) (reverse_onto (changes_of ks) c []) ∙ map-append (made_of (schema_of s)) (reverse (changes_of ks)) (c ∷ [])))

      rows_left : take (length (rows_at A i) - 1) (rows_at A i) ≡ front
      rows_left =
          ap (λ (l : List row.Version). take (length l - 1) l) rows_are
          ∙ (ap (λ m. take m (front ++ made_of (schema_of s) c ∷ [])) (let more : length (front ++ made_of (schema_of s) c ∷ []) ≡ length front + 1 = length-append front (made_of (schema_of s) c ∷ []) in let e : length (front ++ made_of (schema_of s) c ∷ []) - 1 ≡ length front = omega (arith, more) in e)
          ∙ take-append_seam front (made_of (schema_of s) c ∷ []))

      deltas_are : deltas_at A i ≡ pays_of ks ++ (now s i).owed
      deltas_are = h.deltas i ∙ ap (λ (l : List KeptStep). pays_of l ++ (now s i).owed) kept

      deltas_left : take (length (deltas_at A i) - n) (deltas_at A i) ≡ pays_of ks ++ []
      deltas_left =
          ap (λ (l : List GroupDelta). take (length l - n) l) deltas_are
          ∙ (ap (λ m. take m (pays_of ks ++ (now s i).owed)) (let more : length (pays_of ks ++ (now s i).owed) ≡ length (pays_of ks) + length (now s i).owed = length-append (pays_of ks) (now s i).owed in let e : length (pays_of ks ++ (now s i).owed) - n ≡ length (pays_of ks) = omega (arith, more, many) in e)
          ∙ (take-append_seam (pays_of ks) (now s i).owed ∙ sym (append-nil (pays_of ks))))

  -- a transaction ends, and its versions are gone
  pub ahead_gone : (i : ℕ) (u : Store) → u.open_of ≡ with_one s.open_of i None → schema_of u ≡ schema_of s → (A' : List Versions) → Becomes A A' i [] [] → (r' d' : ℕ) → r ≤ r' + length (rows_at A i) → d ≤ d' + length (deltas_at A i) → IsAhead A' r' d' u
  ahead_gone i u opens objects A' becomes r' d' room delta_room =
      ahead_moves i None u opens objects A' r' d' [] [] becomes refl refl
      (let all = becomes.sum in let had = h.row_room in omega (arith, all, had, room))
      (let all = becomes.delta_sum in let had = h.delta_room in omega (arith, all, had, delta_room))

-- those of one session are some of all
pub rows_within : (A : List Versions) (i : ℕ) → length (rows_at A i) ≤ all_rows A
rows_within [] i = omega arith
rows_within (v ∷ vs) zero = omega (arith, sum_by-cons rows_in v vs)
rows_within (v ∷ vs) (suc i) = omega (arith, rows_within vs i, sum_by-cons rows_in v vs)

pub deltas_within : (A : List Versions) (i : ℕ) → length (deltas_at A i) ≤ all_deltas A
deltas_within [] i = omega arith
deltas_within (v ∷ vs) zero = omega (arith, sum_by-cons deltas_in v vs)
deltas_within (v ∷ vs) (suc i) = omega (arith, deltas_within vs i, sum_by-cons deltas_in v vs)

-- ---- a commit

-- versions with the number of a commit
made_at : (objects : Schema) (m : ℕ) (cs : List RowChange) → map (version_at m) (map (made_of objects) cs) ≡ map (version_by objects) (map (λ c. (m, c)) cs)
made_at objects m [] = refl
made_at objects m (c ∷ cs) = ap (λ vs. version_by objects (m, c) ∷ vs) (made_at objects m cs)

-- it leaves the versions that were made ahead
pub ahead_commits : (A : List Versions) (r d : ℕ) (s : Store) → IsAhead A r d s → (R : RowVersions) (D : DeltaVersions) (P : Pendings) → IsPast R D P s → (i : ℕ) → IsSession i → Good' s → (now s i).owed ≡ []
    → (rows : List row.Version) (deltas : List GroupDelta) → rows ≡ rows_at A i → deltas ≡ deltas_at A i → (R' : RowVersions) (D' : DeltaVersions) (P' : Pendings)
    → R' ≡ pushed_all (version_at ((committed s).number + 1)) rows s.mark R → D' ≡ pushed_all (delta_at ((committed s).number + 1)) deltas s.mark D
    → ((p : Place) → get P' p ≡ fewer (changes_on p (changes_by s i)) (get P p)) → IsPast R' D' P' (does the_views s i Commits)
ahead_commits A r d s h R D P past i is good none rows deltas rows_are deltas_are R' D' P' pushed pushed_deltas pending =
    past_commits R D P s past i is good none (version_at ((committed s).number + 1)) rows (delta_at ((committed s).number + 1)) deltas R' D' P'
    (ap (map (version_at ((committed s).number + 1))) (rows_are ∙ h.rows i)
    ∙ (made_at (schema_of s) ((committed s).number + 1) (reverse (changes_by s i)) ∙ ap (map (version_by (schema_of s))) (sym (sets_in ((committed s).number + 1) (reverse (changes_by s i))))))
    (ap (map (delta_at ((committed s).number + 1))) (deltas_are ∙ (h.deltas i ∙ (ap (λ (l : List GroupDelta). pays_of (now s i).kept ++ l) none ∙ append-nil (pays_of (now s i).kept)))))
    pushed pushed_deltas pending
