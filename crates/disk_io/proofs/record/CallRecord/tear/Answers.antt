use Rattle.std.proofs.lemmas.List.{length-replicate}
use Rattle.std.proofs.Common.{rules, ◌≡◌, ◌∙◌, All, take, drop, length, replicate, ap, sym, refl, subst}
use Rattle.disk_io.specs.Events.{after}
use Rattle.disk_io.specs.Images.{up_to_last, image_of}
use Rattle.disk_io.specs.Record.{events, is_sync_call, IsWithin, FitsOnto}
use Rattle.disk_io.proofs.Replays.{all_fit_onto, all_front, all_back, done_is, done_before, done_after, done_zeros}
use Rattle.disk_io.proofs.record.CallRecord.tear.Goals as goal

pub replay-requires-clause-fits : goal.replay-requires-clause-fits
replay-requires-clause-fits c =
    let r = c.args.self.now in
    let m = c.args.moment in
    let k = c.last_sync.result in
    all_front (FitsOnto (length c.args.onto.now)) r.calls.items c.split_at.result.0.now k m (c.split_at.ensures.front ∙ ap (λ z. take k (take m z)) c.deref.ensures.value)
    (all_fit_onto r.bytes.items (length c.args.onto.now) r.calls.items r.within c.requires.fits)

pub replay-requires-in-After-clause-within : goal.replay-requires-in-After-clause-within
replay-requires-in-After-clause-within c =
    let r = c.args.self.now in
    let m = c.args.moment in
    let k = c.last_sync.result in
    all_back (IsWithin (length c.deref-in-After.result.now)) r.calls.items c.split_at.result.1.now k m (c.split_at.ensures.back ∙ ap (λ z. drop k (take m z)) c.deref.ensures.value)
    (subst (λ b. All (IsWithin (length b)) r.calls.items) (sym c.deref-in-After.ensures.value) r.within)

pub replay-requires-in-After-clause-fits : goal.replay-requires-in-After-clause-fits
replay-requires-in-After-clause-fits c =
    let r = c.args.self.now in
    let m = c.args.moment in
    let k = c.last_sync.result in
    subst (λ n. All (FitsOnto n) c.split_at.result.1.now) (sym c.replay.auto.onto)
    (all_back (FitsOnto (length c.args.onto.now)) r.calls.items c.split_at.result.1.now k m (c.split_at.ensures.back ∙ ap (λ z. drop k (take m z)) c.deref.ensures.value)
    (all_fit_onto r.bytes.items (length c.args.onto.now) r.calls.items r.within c.requires.fits))

pub replay-requires-in-Zeros-clause-within : goal.replay-requires-in-Zeros-clause-within
replay-requires-in-Zeros-clause-within c =
    let r = c.args.self.now in
    let m = c.args.moment in
    let k = c.last_sync.result in
    let counted : c.len.result ≡ length r.bytes.items = search rules in
    let all : c.deref-in-Zeros.result.now ≡ replicate (length r.bytes.items) 0 =
    c.deref-in-Zeros.ensures.value ∙ c.in_ok-cleared-in-Zeros.ensures ∙ ap (λ n. replicate n 0) counted in
    let long : length r.bytes.items ≡ length c.deref-in-Zeros.result.now = sym (ap length all ∙ length-replicate (length r.bytes.items) 0) in
    all_back (IsWithin (length c.deref-in-Zeros.result.now)) r.calls.items c.split_at.result.1.now k m (c.split_at.ensures.back ∙ ap (λ z. drop k (take m z)) c.deref.ensures.value)
    (subst (λ n. All (IsWithin n) r.calls.items) long r.within)

pub replay-requires-in-Zeros-clause-fits : goal.replay-requires-in-Zeros-clause-fits
replay-requires-in-Zeros-clause-fits c =
    let r = c.args.self.now in
    let m = c.args.moment in
    let k = c.last_sync.result in
    subst (λ n. All (FitsOnto n) c.split_at.result.1.now) (sym c.replay.auto.onto)
    (all_back (FitsOnto (length c.args.onto.now)) r.calls.items c.split_at.result.1.now k m (c.split_at.ensures.back ∙ ap (λ z. drop k (take m z)) c.deref.ensures.value)
    (all_fit_onto r.bytes.items (length c.args.onto.now) r.calls.items r.within c.requires.fits))

pub returns-in-Before : goal.returns-in-Before
returns-in-Before c =
    let r = c.args.self.now in
    let m = c.args.moment in
    let k = c.last_sync.result in
    let is : k ≡ up_to_last is_sync_call (take m r.calls.items) = c.last_sync.ensures.last ∙ ap (λ z. up_to_last is_sync_call (take m z)) c.deref.ensures.value in
    let first : c.replay.new.onto ≡ after (events r.bytes.items (take k (take m r.calls.items))) c.args.onto.now =
    done_is r.bytes.items _ (take k (take m r.calls.items)) _ c.args.onto.now c.args.onto.now c.replay.new.onto c.replay.ensures c.deref-2.ensures.value
    (c.split_at.ensures.front ∙ ap (λ z. take k (take m z)) c.deref.ensures.value) refl in
    first ∙ done_before r.bytes.items r.calls.items m c.args.onto.now k is
    ∙ ap (λ t. image_of t (take m (events r.bytes.items r.calls.items)) c.args.onto.now) (sym c.in-Before.is)

pub returns-in-After : goal.returns-in-After
returns-in-After c =
    let r = c.args.self.now in
    let m = c.args.moment in
    let k = c.last_sync.result in
    let is : k ≡ up_to_last is_sync_call (take m r.calls.items) = c.last_sync.ensures.last ∙ ap (λ z. up_to_last is_sync_call (take m z)) c.deref.ensures.value in
    let first : c.replay.new.onto ≡ after (events r.bytes.items (take k (take m r.calls.items))) c.args.onto.now =
    done_is r.bytes.items _ (take k (take m r.calls.items)) _ c.args.onto.now c.args.onto.now c.replay.new.onto c.replay.ensures c.deref-2.ensures.value
    (c.split_at.ensures.front ∙ ap (λ z. take k (take m z)) c.deref.ensures.value) refl in
    done_is r.bytes.items _ (drop k (take m r.calls.items)) _ _ c.replay.new.onto c.replay-in-After.new.onto c.replay-in-After.ensures c.deref-in-After.ensures.value
    (c.split_at.ensures.back ∙ ap (λ z. drop k (take m z)) c.deref.ensures.value) first
    ∙ done_after r.bytes.items r.calls.items m c.args.onto.now k
    ∙ ap (λ t. image_of t (take m (events r.bytes.items r.calls.items)) c.args.onto.now) (sym c.in-After.is)

pub returns-in_ok-cleared-in-Zeros : goal.returns-in_ok-cleared-in-Zeros
returns-in_ok-cleared-in-Zeros c =
    let r = c.args.self.now in
    let m = c.args.moment in
    let k = c.last_sync.result in
    let is : k ≡ up_to_last is_sync_call (take m r.calls.items) = c.last_sync.ensures.last ∙ ap (λ z. up_to_last is_sync_call (take m z)) c.deref.ensures.value in
    let first : c.replay.new.onto ≡ after (events r.bytes.items (take k (take m r.calls.items))) c.args.onto.now =
    done_is r.bytes.items _ (take k (take m r.calls.items)) _ c.args.onto.now c.args.onto.now c.replay.new.onto c.replay.ensures c.deref-2.ensures.value
    (c.split_at.ensures.front ∙ ap (λ z. take k (take m z)) c.deref.ensures.value) refl in
    let counted : c.len.result ≡ length r.bytes.items = search rules in
    let all : c.deref-in-Zeros.result.now ≡ replicate (length r.bytes.items) 0 =
    c.deref-in-Zeros.ensures.value ∙ c.in_ok-cleared-in-Zeros.ensures ∙ ap (λ n. replicate n 0) counted in
    done_is (replicate (length r.bytes.items) 0) _ (drop k (take m r.calls.items)) _ _ c.replay.new.onto c.replay-in-Zeros.new.onto c.replay-in-Zeros.ensures all
    (c.split_at.ensures.back ∙ ap (λ z. drop k (take m z)) c.deref.ensures.value) first
    ∙ done_zeros r.bytes.items r.calls.items m c.args.onto.now k r.within is
    ∙ ap (λ t. image_of t (take m (events r.bytes.items r.calls.items)) c.args.onto.now) (sym c.in-Zeros.is)
