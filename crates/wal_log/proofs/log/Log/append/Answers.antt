use Rattle.std.proofs.Common.{◌≡◌, ◌++◌, ◌-◌, ◌+◌, List, ℕ, length, take, drop, ap, sym, ◌∙◌, arith}
use Rattle.std.proofs.lemmas.List.{with_items_is}
use Rattle.std.specs.Vec.{with_items}
use Rattle.log_records.specs.Lent.{stands_for}
use Rattle.log_records.specs.Spelling.{spelling}
use Rattle.wal_log.specs.Log.{LogState}
use Rattle.wal_log.proofs.KeptLaws.{put_behind, one_waits}
use Rattle.wal_log.proofs.log.Log.append.Goals as goal

pub overflow_sub-self : goal.overflow_sub-self
overflow_sub-self c = omega (arith, c.entry_size-size.ensures.size, ap (λ (s : LogState). s.reserved) c.self.view_is)

pub invariant_of-self : goal.invariant_of-self
invariant_of-self c =
    let size = c.entry_size-size.ensures.size in
    let shown = with_items_is c.self.inside.buffer c.put_entry-self-inside.new.buffer (omega (arith, ap length c.deref_mut.ensures.value)) in
    record {
      small = c.self.invariant.small;
      place = c.self.invariant.place;
      begun = omega arith;
      room = omega (arith, size, ap (λ (s : LogState). s.reserved) c.self.view_is);
      buffer_room = ap length shown ∙ (let l : length c.put_entry-self-inside.new.buffer ≡ c.self.inside.size = omega (arith, ap length c.deref_mut.ensures.value) in l);
      least = c.self.invariant.least;
      before = c.self.invariant.before;
      first_room = c.self.invariant.first_room;
      whole = c.self.invariant.whole;
    }

pub returns-clause-waits : goal.returns-clause-waits
returns-clause-waits c =
    let entry = stands_for c.args.lent in
    let next : c.self.inside.next ≡ c.args.self.now.next = ap (λ (s : LogState). s.next) c.self.view_is in
    let left : c.self.inside.reserved ≡ c.args.self.now.reserved = ap (λ (s : LogState). s.reserved) c.self.view_is in
    let was : c.deref_mut.result.now ≡ c.self.inside.buffer.items = c.deref_mut.ensures.value in
    let size = c.entry_size-size.ensures.size in
    let shown = with_items_is c.self.inside.buffer c.put_entry-self-inside.new.buffer (omega (arith, ap length was)) in
    let put = put_behind 4 c.self.inside.fill c.put_entry-self-inside.result c.deref_mut.result.now c.put_entry-self-inside.new.buffer (spelling c.self.inside.next entry) (omega arith) (omega (arith, ap length was)) c.put_entry-self-inside.ensures.filled in
    let waits : drop 4 (take c.put_entry-self-inside.result (with_items c.self.inside.buffer c.put_entry-self-inside.new.buffer).items) ≡ c.args.self.now.waiting ++ spelling c.args.self.now.next entry =
    ap (λ (l : List ℕ). drop 4 (take c.put_entry-self-inside.result l)) shown ∙ put
    ∙ ap (λ (l : List ℕ). drop 4 (take c.self.inside.fill l) ++ spelling c.self.inside.next entry) was
    ∙ ap (λ (l : List ℕ). l ++ spelling c.self.inside.next entry) (ap (λ (s : LogState). s.waiting) c.self.view_is)
    ∙ ap (λ (n : ℕ). c.args.self.now.waiting ++ spelling n entry) next in
    one_waits _ _ (sym c.self.view_is) (c.self.inside.next + 1) (length (spelling c.args.self.now.next entry)) (spelling c.args.self.now.next entry) (ap (λ (n : ℕ). n + 1) next) waits (let r : c.self.inside.reserved - c.entry_size-size.result ≡ c.args.self.now.reserved - length (spelling c.args.self.now.next entry) = omega (arith, left, size) in r)
