-- A run of calls on sorted maps.
use Rattle.std.proofs.Common.{ℕ, ◌≡◌, ◌+◌, ◌-◌, ◌<◌, ◌≤◌, ◌==◌, max, Bool, true, false, cond, Option, List, [], ◌∷◌, ◌++◌, length, drop, get_or, refl, sym, ap, ◌∙◌, subst, arith, append_assoc}
use Rattle.std.proofs.lemmas.List.{drop_more, drop_all, append-nil}
use Rattle.iv_types.specs.Maps.{Map}
use Rattle.ordered_index.specs.declared.calls.MapCall.{MapCall}
use Rattle.ordered_index.specs.declared.calls.MapCall.TheVariants.{Reserve, Get, FirstAt, FirstAfter, Insert, Replace, Remove}
use Rattle.ordered_index.specs.declared.calls.MapAnswer.{MapAnswer}
use Rattle.ordered_index.specs.Calls.{CanCall, CanRun, maps_after, maps_after_all, room_after, answer_of, answers_of}

-- more room asks no more
pub can_more : (c : MapCall) (maps : ℕ → Map) (room spare : ℕ → ℕ) (limit : Option ℕ) → ((i : ℕ) → room i ≤ spare i) → CanCall c maps room limit → CanCall c maps spare limit
can_more (Insert index key value) maps room spare limit f h = (omega (arith, f index, h.0), h.1, h.2)
can_more (Replace index key value) maps room spare limit f h = h
can_more (Remove index key) maps room spare limit f h = h
can_more (Reserve index more) maps room spare limit f h = tt
can_more (Get index key) maps room spare limit f h = tt
can_more (FirstAt index key) maps room spare limit f h = tt
can_more (FirstAfter index key) maps room spare limit f h = tt

either : (b : Bool) (x y u v : ℕ) → x ≤ u → y ≤ v → cond b x y ≤ cond b u v
either true x y u v a b = a
either false x y u v a b = b

pub room_more : (c : MapCall) (room spare : ℕ → ℕ) → ((i : ℕ) → room i ≤ spare i) → (i : ℕ) → room_after c room i ≤ room_after c spare i
room_more (Insert index key value) room spare f i = let h = f i in either (i == index) (room i - 1) (room i) (spare i - 1) (spare i) (omega arith) h
room_more (Remove index key) room spare f i = let h = f i in either (i == index) (room i + 1) (room i) (spare i + 1) (spare i) (omega arith) h
room_more (Reserve index more) room spare f i = let h = f i in either (i == index) (max (room i) more) (room i) (max (spare i) more) (spare i) (omega arith) h
room_more (Replace index key value) room spare f i = f i
room_more (Get index key) room spare f i = f i
room_more (FirstAt index key) room spare f i = f i
room_more (FirstAfter index key) room spare f i = f i

-- a run that has done the first n calls
pub record Going (calls : List MapCall) (start : ℕ → Map) (n : ℕ) (maps : ℕ → Map) (spare : ℕ → ℕ) (limit : Option ℕ) (answers : List MapAnswer) : Type 0 where
  pub room : ℕ → ℕ
  pub low : (i : ℕ) → room i ≤ spare i
  pub can : CanRun (drop n calls) maps room limit
  pub told : answers ++ answers_of (drop n calls) maps ≡ answers_of calls start
  pub left : maps_after_all (drop n calls) maps ≡ maps_after_all calls start

pub begun : (calls : List MapCall) (maps : ℕ → Map) (spare : ℕ → ℕ) (limit : Option ℕ) → CanRun calls maps spare limit → Going calls maps 0 maps spare limit []
begun calls maps spare limit h = record { room = spare; low = λ i. omega arith; can = h; told = refl; left = refl }

-- what the next call asks, and what the rest asks after it
next_can : (c : MapCall) (cs : List MapCall) (maps : ℕ → Map) (room : ℕ → ℕ) (limit : Option ℕ) → CanRun (c ∷ cs) maps room limit → CanCall c maps room limit × CanRun cs (maps_after c maps) (room_after c room) limit
unfolding CanRun
next_can c cs maps room limit h = h

next_answers : (c : MapCall) (cs : List MapCall) (maps : ℕ → Map) → answers_of (c ∷ cs) maps ≡ answer_of c maps ∷ answers_of cs (maps_after c maps)
unfolding answers_of
next_answers c cs maps = refl

next_maps : (c : MapCall) (cs : List MapCall) (maps : ℕ → Map) → maps_after_all (c ∷ cs) maps ≡ maps_after_all cs (maps_after c maps)
unfolding maps_after_all
next_maps c cs maps = refl

pub may_call : (calls : List MapCall) (start : ℕ → Map) (n : ℕ) (maps : ℕ → Map) (spare : ℕ → ℕ) (limit : Option ℕ) (answers : List MapAnswer) (c : MapCall) → Going calls start n maps spare limit answers → n < length calls → c ≡ get_or calls n c → CanCall c maps spare limit
may_call calls start n maps spare limit answers c g lt is =
    let rest : drop n calls ≡ c ∷ drop (n + 1) calls = drop_more calls n c lt ∙ ap (λ (x : MapCall). x ∷ drop (n + 1) calls) (sym is) in
    can_more c maps g.room spare limit g.low (next_can c (drop (n + 1) calls) maps g.room limit (subst (λ (cs : List MapCall). CanRun cs maps g.room limit) rest g.can)).0

pub went_on : (calls : List MapCall) (start : ℕ → Map) (n : ℕ) (maps new : ℕ → Map) (spare more : ℕ → ℕ) (limit last : Option ℕ) (answers told : List MapAnswer) (c : MapCall) (answer : MapAnswer) → Going calls start n maps spare limit answers → n < length calls → c ≡ get_or calls n c
    → answer ≡ answer_of c maps → ((i : ℕ) → new i ≡ maps_after c maps i) → ((i : ℕ) → room_after c spare i ≤ more i) → last ≡ limit → told ≡ answers ++ answer ∷ [] → Going calls start (n + 1) new more last told
went_on calls start n maps new spare more limit last answers told c answer g lt is a m r l t =
    let cs = drop (n + 1) calls in
    let rest : drop n calls ≡ c ∷ cs = drop_more calls n c lt ∙ ap (λ (x : MapCall). x ∷ cs) (sym is) in
    let same : new ≡ maps_after c maps = λ j i. m i j in
    record {
      room = room_after c g.room;
      low = λ i. let x = room_more c g.room spare g.low i in let y = r i in omega arith;
      can = subst (λ (f : ℕ → Map). CanRun cs f (room_after c g.room) last) (sym same) (subst (λ (x : Option ℕ). CanRun cs (maps_after c maps) (room_after c g.room) x) (sym l) (next_can c cs maps g.room limit (subst (λ (x : List MapCall). CanRun x maps g.room limit) rest g.can)).1);
      told = ap (λ (x : List MapAnswer). x ++ answers_of cs new) t ∙ append_assoc answers (answer ∷ []) (answers_of cs new)
          ∙ ap (λ (x : MapAnswer). answers ++ x ∷ answers_of cs new) a ∙ ap (λ (f : ℕ → Map). answers ++ answer_of c maps ∷ answers_of cs f) same
          ∙ ap (λ (x : List MapAnswer). answers ++ x) (sym (next_answers c cs maps)) ∙ ap (λ (x : List MapCall). answers ++ answers_of x maps) (sym rest) ∙ g.told;
      left = ap (maps_after_all cs) same ∙ sym (next_maps c cs maps) ∙ ap (λ (x : List MapCall). maps_after_all x maps) (sym rest) ∙ g.left;
    }

none_told : (maps : ℕ → Map) → answers_of [] maps ≡ []
unfolding answers_of
none_told maps = refl

none_left : (maps : ℕ → Map) → maps_after_all [] maps ≡ maps
unfolding maps_after_all
none_left maps = refl

pub told_all : (calls : List MapCall) (start : ℕ → Map) (n : ℕ) (maps : ℕ → Map) (spare : ℕ → ℕ) (limit : Option ℕ) (answers : List MapAnswer) → Going calls start n maps spare limit answers → length calls ≤ n → answers ≡ answers_of calls start
told_all calls start n maps spare limit answers g le =
    let rest : drop n calls ≡ [] = drop_all n calls le in
    sym (ap (λ (x : List MapCall). answers ++ answers_of x maps) rest ∙ ap (λ (x : List MapAnswer). answers ++ x) (none_told maps) ∙ append-nil answers) ∙ g.told

pub left_all : (calls : List MapCall) (start : ℕ → Map) (n : ℕ) (maps : ℕ → Map) (spare : ℕ → ℕ) (limit : Option ℕ) (answers : List MapAnswer) → Going calls start n maps spare limit answers → length calls ≤ n → (i : ℕ) → maps i ≡ maps_after_all calls start i
left_all calls start n maps spare limit answers g le i =
    let rest : drop n calls ≡ [] = drop_all n calls le in
    ap (λ (f : ℕ → Map). f i) (sym (ap (λ (x : List MapCall). maps_after_all x maps) rest ∙ none_left maps) ∙ g.left)
