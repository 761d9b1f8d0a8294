use Rattle.std.proofs.Common.{◌≡◌, ◌⊎◌, ⊎_elim, inl, inr, ℕ, zero, suc, ◌-◌, ◌≤◌, refl, sym, ◌∙◌, ap, arith}
use Rattle.page_store.specs.Image.{gate_open, is_open, number_of, choose}
use Rattle.page_store.proofs.Old.{live_is}
use Rattle.page_store.proofs.Beginnings.{reads_none, reads_on}
use Rattle.page_store.proofs.find.find_live.Goals as goal

zero_or_one : (n : ℕ) → n ≤ 1 → (n ≡ 0) ⊎ (n ≡ 1)
zero_or_one zero le = inl refl
zero_or_one (suc n) le = inr (omega arith)

pub returns-clause-live : goal.returns-clause-live
returns-clause-live g c told =
    let s = g.D.Disk.seen c.args.disk.now in
    let same = c.read_start.ensures.seen told in
    let o2 = c.in_ok-second.ensures.open told ∙ ap (is_open 1) same in
    let n2 = c.in_ok-second.ensures.number told ∙ ap (number_of 1) same in
    c.keep.ensures.live ∙ (λ t. choose (c.in_ok-first.ensures.open told t) (o2 t) (c.in_ok-first.ensures.number told t) (n2 t)) ∙ sym (live_is s)

pub returns-clause-gate : goal.returns-clause-gate
returns-clause-gate g c told =
    let s = g.D.Disk.seen c.args.disk.now in
    let same = c.read_start.ensures.seen told in
    ⊎_elim
    (λ e. c.keep.ensures.second e ∙ c.in_ok-second.ensures.gate told ∙ ap (gate_open 1) same ∙ ap (λ n. gate_open (1 - n) s) (sym e))
    (λ e. c.keep.ensures.first e ∙ c.in_ok-first.ensures.gate told ∙ ap (λ n. gate_open (1 - n) s) (sym e))
    (zero_or_one c.keep.result.kept c.keep.ensures.low)

pub returns-in_err-first-clause-any_moment : goal.returns-in_err-first-clause-any_moment
returns-in_err-first-clause-any_moment g c s only =
    let laws = g.met.D.Disk in
    let d = c.args.disk.now in
    reads_on g.D.Disk.moment g.D.Disk.left_since g.D.Disk.may_leave laws.only_now s d d c.read_start.new.disk
    (reads_none g.D.Disk.moment g.D.Disk.left_since g.D.Disk.may_leave laws.only_now s d only) only c.read_start.ensures.crash c.read_start.ensures.time

pub returns-in_err-second-clause-any_moment : goal.returns-in_err-second-clause-any_moment
returns-in_err-second-clause-any_moment g c s only =
    let laws = g.met.D.Disk in
    let d = c.args.disk.now in
    let one = reads_on g.D.Disk.moment g.D.Disk.left_since g.D.Disk.may_leave laws.only_now s d d c.read_start.new.disk
    (reads_none g.D.Disk.moment g.D.Disk.left_since g.D.Disk.may_leave laws.only_now s d only) only c.read_start.ensures.crash c.read_start.ensures.time in
    reads_on g.D.Disk.moment g.D.Disk.left_since g.D.Disk.may_leave laws.only_now s d c.read_start.new.disk c.read_start-2.new.disk one
    (λ f left. only f (c.read_start.ensures.crash f left)) c.read_start-2.ensures.crash c.read_start-2.ensures.time

pub returns-clause-any_moment : goal.returns-clause-any_moment
returns-clause-any_moment g c s only =
    let laws = g.met.D.Disk in
    let d = c.args.disk.now in
    let one = reads_on g.D.Disk.moment g.D.Disk.left_since g.D.Disk.may_leave laws.only_now s d d c.read_start.new.disk
    (reads_none g.D.Disk.moment g.D.Disk.left_since g.D.Disk.may_leave laws.only_now s d only) only c.read_start.ensures.crash c.read_start.ensures.time in
    reads_on g.D.Disk.moment g.D.Disk.left_since g.D.Disk.may_leave laws.only_now s d c.read_start.new.disk c.read_start-2.new.disk one
    (λ f left. only f (c.read_start.ensures.crash f left)) c.read_start-2.ensures.crash c.read_start-2.ensures.time
