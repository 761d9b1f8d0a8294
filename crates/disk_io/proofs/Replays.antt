-- Recorded calls, done one after another.
use Rattle.std.proofs.Common.{◌≡◌, ◌≤◌, ◌<◌, ◌+◌, ◌-◌, ℕ, suc, Bool, true, false, List, [], ◌∷◌, ◌++◌, All, length, map, take, drop, replicate, get_or, if◌then◌else◌, length-take, refl, sym, subst, ◌∙◌, ap, arith}
use Rattle.std.proofs.lemmas.List.{take_more, map-append, take-map, drop-map, take-replicate, drop-replicate, take-append-drop}
use Rattle.std.proofs.lemmas.List.Elements.{All-head, All-cons, All-take, All-drop}
use Rattle.disk_io.specs.declared.call.Call.{Call}
use Rattle.disk_io.specs.declared.call.Call.TheVariants as call
use Rattle.disk_io.specs.declared.torn.Torn.TheVariants as torn
use Rattle.disk_io.specs.Bytes.{length-part}
use Rattle.disk_io.specs.Disk.{part, splice}
use Rattle.disk_io.specs.Events.{Event, Wrote, Synced, after, after_last, Fits, AllFit}
use Rattle.disk_io.specs.Images.{one_more, up_to_last, is_sync, settled, unsettled, zeroed, image_of}
use Rattle.disk_io.specs.Record.{event_in, events, is_sync_call, IsWithin, FitsOnto}

last_pick : (p : Bool) (n m : ℕ) (b : Bool) → one_more p (if b then suc n else m) ≡ (if b then suc (suc n) else one_more p m)
last_pick p n m true = refl
last_pick p n m false = refl

last_first : (b : Bool) → one_more b 0 ≡ (if b then suc 0 else 0)
last_first true = refl
last_first false = refl

-- one item more
pub last_push : {X : Type 0} (test : X → Bool) (xs : List X) (x : X) → up_to_last test (xs ++ x ∷ []) ≡ (if test x then suc (length xs) else up_to_last test xs)
last_push test [] x = last_first (test x)
last_push test (y ∷ ys) x = ap (one_more (test y)) (last_push test ys x) ∙ last_pick (test y) (length ys) (up_to_last test ys) (test x)

pub last_next : {X : Type 0} (test : X → Bool) (xs : List X) (i : ℕ) (d : X) (passes : Bool) → i < length xs → passes ≡ test (get_or xs i d)
    → up_to_last test (take (i + 1) xs) ≡ (if passes then i + 1 else up_to_last test (take i xs))
last_next test xs i d passes inside is =
    ap (up_to_last test) (take_more xs i d inside)
    ∙ last_push test (take i xs) (get_or xs i d)
    ∙ ap (λ b. if b then suc (length (take i xs)) else up_to_last test (take i xs)) (sym is)
    ∙ ap (λ n. if passes then n else up_to_last test (take i xs)) (let e : suc (length (take i xs)) ≡ i + 1 = omega (arith, length-take i xs, inside) in e)

pub events_next : (b : List ℕ) (calls : List Call) (s : List ℕ) (i : ℕ) (d : Call) → i < length calls
    → after (events b (take (i + 1) calls)) s ≡ after (event_in b (get_or calls i d) ∷ []) (after (events b (take i calls)) s)
events_next b calls s i d inside =
    ap (λ cs. after (events b cs) s) (take_more calls i d inside)
    ∙ ap (λ es. after es s) (map-append (event_in b) (take i calls) (get_or calls i d ∷ []))
    ∙ after_last (events b (take i calls)) (event_in b (get_or calls i d)) s

-- the last sync of the calls is that of what they did
sync_same : (b : List ℕ) (c : Call) → is_sync (event_in b c) ≡ is_sync_call c
sync_same b (call.Wrote at start n) = refl
sync_same b call.Synced = refl

last_same : (b : List ℕ) (calls : List Call) → up_to_last is_sync (events b calls) ≡ up_to_last is_sync_call calls
last_same b [] = refl
last_same b (c ∷ calls) =
    ap (λ p. one_more p (up_to_last is_sync (events b calls))) (sync_same b c) ∙ ap (one_more (is_sync_call c)) (last_same b calls)

settled_same : (b : List ℕ) (calls : List Call) → settled (events b calls) ≡ events b (take (up_to_last is_sync_call calls) calls)
settled_same b calls = ap (λ k. take k (events b calls)) (last_same b calls) ∙ take-map (event_in b) (up_to_last is_sync_call calls) calls

unsettled_same : (b : List ℕ) (calls : List Call) → unsettled (events b calls) ≡ events b (drop (up_to_last is_sync_call calls) calls)
unsettled_same b calls = ap (λ k. drop k (events b calls)) (last_same b calls) ∙ drop-map (event_in b) (up_to_last is_sync_call calls) calls

-- zeros in place of what was written
zeros_part : (start n m : ℕ) → start + n ≤ m → part start n (replicate m 0) ≡ replicate n 0
zeros_part start n m fits = ap (take n) (drop-replicate start m 0) ∙ take-replicate n (m - start) 0 (omega arith)

zeroed_same : (b : List ℕ) (c : Call) → IsWithin (length b) c → event_in (replicate (length b) 0) c ≡ zeroed (event_in b c)
zeroed_same b (call.Wrote at start n) fits =
    ap (Wrote at) (zeros_part start n (length b) fits ∙ ap (λ k. replicate k 0) (sym (length-part start n b fits)))
zeroed_same b call.Synced fits = refl

all_zeroed : (b : List ℕ) (calls : List Call) → All (IsWithin (length b)) calls → events (replicate (length b) 0) calls ≡ map zeroed (events b calls)
all_zeroed b [] all = refl
all_zeroed b (c ∷ calls) all =
    ap (λ e. e ∷ events (replicate (length b) 0) calls) (zeroed_same b c (All-head (IsWithin (length b)) c calls all))
    ∙ ap (λ es. zeroed (event_in b c) ∷ es) (all_zeroed b calls (λ k d lt. all (suc k) d (omega (arith, lt))))

-- what was written fits where the calls say
fits_onto : (b : List ℕ) (n : ℕ) (c : Call) → IsWithin (length b) c → Fits n (event_in b c) → FitsOnto n c
fits_onto b n (call.Wrote at start m) within fits = omega (arith, length-part start m b within, fits.0)
fits_onto b n call.Synced within fits = tt

pub all_fit_onto : (b : List ℕ) (n : ℕ) (calls : List Call) → All (IsWithin (length b)) calls → AllFit n (events b calls) → All (FitsOnto n) calls
all_fit_onto b n [] within fits = λ k d lt. absurd (omega (arith, lt))
all_fit_onto b n (c ∷ calls) within fits =
    All-cons (FitsOnto n) c calls
    (fits_onto b n c (All-head (IsWithin (length b)) c calls within) fits.0)
    (all_fit_onto b n calls (λ k d lt. within (suc k) d (omega (arith, lt))) fits.1)

after_append : (es fs : List Event) (s : List ℕ) → after (es ++ fs) s ≡ after fs (after es s)
after_append [] fs s = refl
after_append (Wrote at w ∷ es) fs s = after_append es fs (splice at w s)
after_append (Synced ∷ es) fs s = after_append es fs s

-- the calls up to the last sync, done over what a disk held at first
pub done_before : (b : List ℕ) (calls : List Call) (m : ℕ) (s : List ℕ) (k : ℕ) → k ≡ up_to_last is_sync_call (take m calls)
    → after (events b (take k (take m calls))) s ≡ image_of torn.Before (take m (events b calls)) s
done_before b calls m s k is =
    ap (λ j. after (events b (take j (take m calls))) s) is
    ∙ ap (λ es. after es s) (sym (settled_same b (take m calls)))
    ∙ ap (λ es. after (settled es) s) (sym (take-map (event_in b) m calls))

-- and then those since
pub done_after : (b : List ℕ) (calls : List Call) (m : ℕ) (s : List ℕ) (k : ℕ)
    → after (events b (drop k (take m calls))) (after (events b (take k (take m calls))) s) ≡ image_of torn.After (take m (events b calls)) s
done_after b calls m s k =
    sym (after_append (events b (take k (take m calls))) (events b (drop k (take m calls))) s)
    ∙ ap (λ es. after es s) (sym (map-append (event_in b) (take k (take m calls)) (drop k (take m calls)))
    ∙ ap (events b) (take-append-drop k (take m calls)) ∙ sym (take-map (event_in b) m calls))

-- or zeros in their place
pub done_zeros : (b : List ℕ) (calls : List Call) (m : ℕ) (s : List ℕ) (k : ℕ) → All (IsWithin (length b)) calls → k ≡ up_to_last is_sync_call (take m calls)
    → after (events (replicate (length b) 0) (drop k (take m calls))) (after (events b (take k (take m calls))) s) ≡ image_of torn.Zeros (take m (events b calls)) s
done_zeros b calls m s k within is =
    ap (λ es. after es (after (events b (take k (take m calls))) s))
    (all_zeroed b (drop k (take m calls)) (All-drop (IsWithin (length b)) k (take m calls) (All-take (IsWithin (length b)) m calls within))
    ∙ ap (λ j. map zeroed (events b (drop j (take m calls)))) is
    ∙ ap (map zeroed) (sym (unsettled_same b (take m calls)))
    ∙ ap (λ es. map zeroed (unsettled es)) (sym (take-map (event_in b) m calls)))
    ∙ ap (after (map zeroed (unsettled (take m (events b calls))))) (done_before b calls m s k is)

-- a fact of all calls is one of those in front, and of those behind
pub all_front : (P : Call → Type 0) (calls cs : List Call) (k m : ℕ) → cs ≡ take k (take m calls) → All P calls → All P cs
all_front P calls cs k m is all = subst (All P) (sym is) (All-take P k (take m calls) (All-take P m calls all))

pub all_back : (P : Call → Type 0) (calls cs : List Call) (k m : ℕ) → cs ≡ drop k (take m calls) → All P calls → All P cs
all_back P calls cs k m is all = subst (All P) (sym is) (All-drop P k (take m calls) (All-take P m calls all))

-- calls done again, by what they and their bytes are
pub done_is : (b b' : List ℕ) (cs cs' : List Call) (s s' t : List ℕ) → t ≡ after (events b' cs') s' → b' ≡ b → cs' ≡ cs → s' ≡ s → t ≡ after (events b cs) s
done_is b b' cs cs' s s' t done is_b is_cs is_s =
    done ∙ ap (λ x. after (events x cs') s') is_b ∙ ap (λ x. after (events b x) s') is_cs ∙ ap (after (events b cs)) is_s
