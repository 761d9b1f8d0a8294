use Rattle.std.proofs.Common.{◌≡◌, ◌++◌, ◌∷◌, [], ◌+◌, ◌≤◌, List, ℕ, length, take, drop, ap, sym, subst, ◌∙◌, arith}
use Rattle.std.proofs.lemmas.List.{with_items_is}
use Rattle.std.specs.Vec.{with_items}
use Rattle.log_records.specs.Area.{block}
use Rattle.log_records.specs.Lent.{stands_for}
use Rattle.log_records.specs.Spelling.{spelling}
use Rattle.wal_log.specs.Log.{LogState, used_by}
use Rattle.wal_log.proofs.KeptLaws.{length-behind, put_behind, enclosed, one_carried}
use Rattle.wal_log.proofs.log.Log.carry.Goals as goal

pub invariant_of-self : goal.invariant_of-self
invariant_of-self c =
    let size = c.entry_size-size.ensures.size in
    let was : c.deref_mut.result.now ≡ c.self.inside.first.items = c.deref_mut.ensures.value in
    let put = with_items_is c.self.inside.first c.put_entry-self-inside.new.buffer (omega (arith, ap length was)) in
    let mid : c.deref_mut-2.result.now ≡ c.put_entry-self-inside.new.buffer = c.deref_mut-2.ensures.value ∙ put in
    let shown = with_items_is (with_items c.self.inside.first c.put_entry-self-inside.new.buffer) c.enclose.new.buffer (omega (arith, ap length put, ap length mid)) in
    let fits : c.put_entry-self-inside.result ≤ length c.deref_mut-2.result.now = omega (arith, size, ap length mid, ap length was, ap used_by c.self.view_is, ap (λ (s : LogState). s.size) c.self.view_is, ap (λ (s : LogState). s.reserved) c.self.view_is, length-behind 4 c.self.inside.fill c.self.inside.buffer.items (omega arith)) in
    let inner = enclosed c.put_entry-self-inside.result c.deref_mut-2.result.now c.enclose.new.buffer (omega arith) fits c.enclose.ensures in
    record {
      small = c.self.invariant.small;
      place = c.self.invariant.place;
      begun = c.self.invariant.begun;
      room = omega (arith, size, ap used_by c.self.view_is, ap (λ (s : LogState). s.size) c.self.view_is, ap (λ (s : LogState). s.reserved) c.self.view_is, length-behind 4 c.self.inside.fill c.self.inside.buffer.items (omega arith));
      buffer_room = c.self.invariant.buffer_room;
      least = omega arith;
      before = omega (arith, size);
      first_room = ap length shown ∙ (let l : length c.enclose.new.buffer ≡ c.self.inside.size = omega (arith, ap length was, ap length mid) in l);
      whole = subst (λ (l : List ℕ). take (c.put_entry-self-inside.result + 1) l ≡ block (drop 5 (take c.put_entry-self-inside.result l)) ++ 0 ∷ []) (sym shown)
          (c.enclose.ensures ∙ ap (λ (l : List ℕ). block l ++ 0 ∷ []) (sym inner));
    }

pub returns-clause-carried : goal.returns-clause-carried
returns-clause-carried c =
    let entry = stands_for c.args.lent in
    let size = c.entry_size-size.ensures.size in
    let was : c.deref_mut.result.now ≡ c.self.inside.first.items = c.deref_mut.ensures.value in
    let put = with_items_is c.self.inside.first c.put_entry-self-inside.new.buffer (omega (arith, ap length was)) in
    let mid : c.deref_mut-2.result.now ≡ c.put_entry-self-inside.new.buffer = c.deref_mut-2.ensures.value ∙ put in
    let shown = with_items_is (with_items c.self.inside.first c.put_entry-self-inside.new.buffer) c.enclose.new.buffer (omega (arith, ap length put, ap length mid)) in
    let fits : c.put_entry-self-inside.result ≤ length c.deref_mut-2.result.now = omega (arith, size, ap length mid, ap length was, ap used_by c.self.view_is, ap (λ (s : LogState). s.size) c.self.view_is, ap (λ (s : LogState). s.reserved) c.self.view_is, length-behind 4 c.self.inside.fill c.self.inside.buffer.items (omega arith)) in
    let inner = enclosed c.put_entry-self-inside.result c.deref_mut-2.result.now c.enclose.new.buffer (omega arith) fits c.enclose.ensures in
    let behind = put_behind 5 c.self.inside.first_fill c.put_entry-self-inside.result c.deref_mut.result.now c.put_entry-self-inside.new.buffer (spelling c.args.number entry) (omega arith) (omega (arith, ap length was)) c.put_entry-self-inside.ensures.filled in
    let carried : drop 5 (take c.put_entry-self-inside.result (with_items (with_items c.self.inside.first c.put_entry-self-inside.new.buffer) c.enclose.new.buffer).items) ≡ c.args.self.now.first ++ spelling c.args.number entry =
    ap (λ (l : List ℕ). drop 5 (take c.put_entry-self-inside.result l)) shown ∙ inner
    ∙ ap (λ (l : List ℕ). drop 5 (take c.put_entry-self-inside.result l)) mid ∙ behind
    ∙ ap (λ (l : List ℕ). drop 5 (take c.self.inside.first_fill l) ++ spelling c.args.number entry) was
    ∙ ap (λ (l : List ℕ). l ++ spelling c.args.number entry) (ap (λ (s : LogState). s.first) c.self.view_is) in
    one_carried _ _ (sym c.self.view_is) (length (spelling c.args.number entry)) (spelling c.args.number entry) carried (let g : c.self.inside.gate + c.entry_size-size.result ≡ c.args.self.now.gate + length (spelling c.args.number entry) = omega (arith, size, ap (λ (s : LogState). s.gate) c.self.view_is) in g)
