use Rattle.std.proofs.Common.{inl, ◌-◌, ◌*◌, subst, refl, sym, ◌∙◌, ap, arith}
use Rattle.disk_io.proofs.Moments.{weaker_on, then_on}
use Rattle.page_store.specs.Image.{live, gate_open}
use Rattle.page_store.specs.Kept.{kept_side, Closing, Closed}
use Rattle.page_store.proofs.Begin.{closing_of, closed_of}
use Rattle.page_store.proofs.publish.begin.Goals as goal

pub returns-in_err-found-clause-any_moment : goal.returns-in_err-found-clause-any_moment
returns-in_err-found-clause-any_moment g c told only =
    let s = g.D.Disk.seen c.args.disk.now in
    weaker_on g.D.Disk.moment g.D.Disk.left_since c.args.disk.now c.find_live.new.disk (Closing (kept_side (live s)) s) _ (c.find_live.ensures.any_moment s only) (λ f is. inl is)

pub returns-in_err-load_header-clause-any_moment : goal.returns-in_err-load_header-clause-any_moment
returns-in_err-load_header-clause-any_moment g c told only =
    let s = g.D.Disk.seen c.args.disk.now in
    let P = Closing (kept_side (live s)) s in
    let one = weaker_on g.D.Disk.moment g.D.Disk.left_since c.args.disk.now c.find_live.new.disk P _ (c.find_live.ensures.any_moment s only) (λ f is. inl is) in
    then_on g.D.Disk.moment g.D.Disk.left_since c.args.disk.now c.find_live.new.disk c.load_header.new.disk P _ one
    (c.load_header.ensures.any_moment s (λ f left. only f (c.find_live.ensures.crash f left))) (λ f is. inl is)

pub returns-in_err-close_gate-clause-any_moment : goal.returns-in_err-close_gate-clause-any_moment
returns-in_err-close_gate-clause-any_moment g c told only =
    let s = g.D.Disk.seen c.args.disk.now in
    let P = Closing (kept_side (live s)) s in
    let one = weaker_on g.D.Disk.moment g.D.Disk.left_since c.args.disk.now c.find_live.new.disk P _ (c.find_live.ensures.any_moment s only) (λ f is. inl is) in
    let two = then_on g.D.Disk.moment g.D.Disk.left_since c.args.disk.now c.find_live.new.disk c.load_header.new.disk P _ one
    (c.load_header.ensures.any_moment s (λ f left. only f (c.find_live.ensures.crash f left))) (λ f is. inl is) in
    let k = c.in_ok-found.found.kept in
    let s2 = g.D.Disk.seen c.load_header.new.disk in
    let same = c.load_header.ensures.seen told ∙ c.find_live.ensures.seen told in
    let is_k = c.in_ok-found.ensures.kept ∙ ap kept_side (c.in_ok-found.ensures.live told) in
    let was = c.in_ok-found.ensures.gate told ∙ ap (gate_open (1 - k)) (sym same) in
    then_on g.D.Disk.moment g.D.Disk.left_since c.args.disk.now c.load_header.new.disk c.close_gate.new.disk P _ two
    (c.close_gate.ensures.any_moment told (λ f left. only f (c.find_live.ensures.crash f (c.load_header.ensures.crash f left)) ∙ sym same))
    (λ f is. subst (λ n. Closing n s f) is_k (subst (λ l. Closing k l f) same (closing_of k ((1 - k) * 139264) c.in_ok-found.found.gate s2 f refl was is)))

pub returns-clause-any_moment : goal.returns-clause-any_moment
returns-clause-any_moment g c told only =
    let s = g.D.Disk.seen c.args.disk.now in
    let P = Closing (kept_side (live s)) s in
    let one = weaker_on g.D.Disk.moment g.D.Disk.left_since c.args.disk.now c.find_live.new.disk P _ (c.find_live.ensures.any_moment s only) (λ f is. inl is) in
    let two = then_on g.D.Disk.moment g.D.Disk.left_since c.args.disk.now c.find_live.new.disk c.load_header.new.disk P _ one
    (c.load_header.ensures.any_moment s (λ f left. only f (c.find_live.ensures.crash f left))) (λ f is. inl is) in
    let k = c.in_ok-found.found.kept in
    let s2 = g.D.Disk.seen c.load_header.new.disk in
    let same = c.load_header.ensures.seen told ∙ c.find_live.ensures.seen told in
    let is_k = c.in_ok-found.ensures.kept ∙ ap kept_side (c.in_ok-found.ensures.live told) in
    let was = c.in_ok-found.ensures.gate told ∙ ap (gate_open (1 - k)) (sym same) in
    then_on g.D.Disk.moment g.D.Disk.left_since c.args.disk.now c.load_header.new.disk c.close_gate.new.disk P _ two
    (c.close_gate.ensures.any_moment told (λ f left. only f (c.find_live.ensures.crash f (c.load_header.ensures.crash f left)) ∙ sym same))
    (λ f is. subst (λ n. Closing n s f) is_k (subst (λ l. Closing k l f) same (closing_of k ((1 - k) * 139264) c.in_ok-found.found.gate s2 f refl was is)))

pub returns-clause-closed : goal.returns-clause-closed
returns-clause-closed g c told =
    let laws = g.met.D.Disk in
    let k = c.in_ok-found.found.kept in
    let s2 = g.D.Disk.seen c.load_header.new.disk in
    let s3 = g.D.Disk.seen c.close_gate.new.disk in
    let same = c.load_header.ensures.seen told ∙ c.find_live.ensures.seen told in
    let was = c.in_ok-found.ensures.gate told ∙ ap (gate_open (1 - k)) (sym same) in
    let size = laws.has_size told c.load_header.new.disk ∙ c.load_header.ensures.size ∙ c.find_live.ensures.size in
    subst (λ l. Closed k l s3) same (closed_of k ((1 - k) * 139264) c.in_ok-found.found.gate s2 s3 refl was (omega (arith, size, c.requires.disk)) (c.in_ok-close_gate.ensures.closed told) (c.in_ok-close_gate.ensures.same told))
