use Rattle.std.proofs.Common.{rules, [], ◌≡◌, ◌<◌, true, false, Some, length, sym, ap, subst, arith}
use Rattle.std.specs.Option.{option_copied}
use Rattle.std.specs.FinMap.{entries}
use Rattle.iv_types.specs.Maps.{Entry, entry_at, entry_after}
use Rattle.table_store.specs.Stored.{before}
use Rattle.table_store.proofs.Walks.{place, todo, walk_goes_on}
use Rattle.image_views.specs.Rows.{IsBytesOf, Between, IsStandingIn}
use Rattle.image_views.proofs.Alike.{zeros_told, standing_told}
use Rattle.image_views.proofs.Gaps.{IsAhead, ahead_at, ahead_after, ahead_goes_on, ahead_ended, ahead_beyond, ahead_stands}
use Rattle.image_views.proofs.compare.first_standing.Goals as goal
use Rattle.image_views.proofs.compare.first_standing.Goals.{in-None, in-Some}

pub loop-found-init : goal.loop-found-init
loop-found-init g c =
    let m = g.M.SortedMaps.maps c.args.maps.now c.args.view in
    elim c.match-last.branch [
      | in-None w ↦
          let start : place c.match-last.found ≡ entry_at m [] = subst (λ f. place f ≡ entry_at m []) (sym w.found-is) w.first_at-found.ensures in
          subst (λ l. IsAhead m (option_copied l) (place c.match-last.found)) (sym w.in-None.is) (ahead_at m (place c.match-last.found) start)
      | in-Some w ↦
          let start : place c.match-last.found ≡ entry_after m w.in-Some.last.now = subst (λ f. place f ≡ entry_after m w.in-Some.last.now) (sym w.found-is) w.first_after-found.ensures in
          subst (λ l. IsAhead m (option_copied l) (place c.match-last.found)) (sym w.in-Some.is) (ahead_after m w.in-Some.last.now (place c.match-last.found) start)
    ]

pub returns-then-not-is_before : goal.returns-then-not-is_before
returns-then-not-is_before g c = λ width stored are.
    let m = g.M.SortedMaps.maps c.args.maps.now c.args.view in
    let beyond : before (option_copied c.args.next) c.in-Some-found.group.now ≡ false = search rules in
    ahead_beyond m (option_copied c.args.last) (option_copied c.args.next) (place c.loop-found.found) (c.in-Some-found.group.now, c.in-Some-found.value.now) (ap place c.in-Some-found.is) beyond c.loop-found.invariant width stored are

pub are_zeros-requires : goal.are_zeros-requires
are_zeros-requires g c =
    let e : Entry = (c.in-Some-found.group.now, c.in-Some-found.value.now) in
    (c.requires.0, c.requires.1 e.0, subst (λ o. IsBytesOf c.requires.0 o (c.requires.1 e.0)) (c.loop-found.invariant.held e (ap place c.in-Some-found.is)) (c.requires.2 e.0))

pub returns-then-not-are_zeros : goal.returns-then-not-are_zeros
returns-then-not-are_zeros g c = λ width stored are.
    let m = g.M.SortedMaps.maps c.args.maps.now c.args.view in
    let e : Entry = (c.in-Some-found.group.now, c.in-Some-found.value.now) in
    let within : before (option_copied c.args.next) e.0 ≡ true = search rules in
    let fails : c.are_zeros.result ≡ false = search rules in
    let its : IsBytesOf width (Some e.1) (stored e.0) = subst (λ o. IsBytesOf width o (stored e.0)) (c.loop-found.invariant.held e (ap place c.in-Some-found.is)) (are e.0) in
    subst (IsStandingIn (Between (option_copied c.args.last) (option_copied c.args.next)) m stored) (sym (ap place c.in-Some-found.is))
    (ahead_stands m (option_copied c.args.last) (option_copied c.args.next) (place c.loop-found.found) e (ap place c.in-Some-found.is) within c.loop-found.invariant width stored are
    (standing_told width e.1 (stored e.0) its c.are_zeros.result c.are_zeros.ensures fails))

pub loop-found-smaller : goal.loop-found-smaller
loop-found-smaller g c =
    let m = g.M.SortedMaps.maps c.args.maps.now c.args.view in
    let next = walk_goes_on m c.in-Some-found.group.now (place c.first_after-found-in-Some-found.result) c.first_after-found-in-Some-found.ensures in
    let now = ap (λ n. todo (entries m) (place n)) c.in-Some-found.is in
    let smaller : length (todo (entries m) (place c.first_after-found-in-Some-found.result)) < length (todo (entries m) (place c.loop-found.found)) = omega (arith, ap length next, ap length now) in
    smaller

pub loop-found-preserved : goal.loop-found-preserved
loop-found-preserved g c =
    let m = g.M.SortedMaps.maps c.args.maps.now c.args.view in
    let e : Entry = (c.in-Some-found.group.now, c.in-Some-found.value.now) in
    let zeros : c.are_zeros.result ≡ true = search rules in
    ahead_goes_on m (option_copied c.args.last) (place c.loop-found.found) (place c.first_after-found-in-Some-found.result) e (ap place c.in-Some-found.is) c.first_after-found-in-Some-found.ensures c.loop-found.invariant
    (λ width stored are. zeros_told width e.1 (stored e.0) (subst (λ o. IsBytesOf width o (stored e.0)) (c.loop-found.invariant.held e (ap place c.in-Some-found.is)) (are e.0)) c.are_zeros.result c.are_zeros.ensures zeros)

pub returns : goal.returns
returns g c = λ width stored are.
    let m = g.M.SortedMaps.maps c.args.maps.now c.args.view in
    ahead_ended m (option_copied c.args.last) (option_copied c.args.next) (place c.loop-found.found) (ap place c.in_default.is) c.loop-found.invariant width stored are
