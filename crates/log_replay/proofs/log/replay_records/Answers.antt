use Rattle.std.proofs.Common.{List, [], take, drop, refl, sym, ap, subst, ◌∙◌, arith}
use Rattle.iv_types.specs.Maps.{map_size}
use Rattle.log_records.specs.declared.record.Scanned.{Scanned}
use Rattle.record_replay.specs.declared.answer.Replayed.TheVariants.{Passed, Broken}
use Rattle.txn_log.specs.Replay.{reversed}
use Rattle.record_replay.specs.Past.{left_by}
use Rattle.record_replay.specs.Texts.{texts_entries}
use Rattle.log_replay.specs.Through.{CarryTo, GoTo}
use Rattle.log_replay.proofs.Going.{going}
use Rattle.log_replay.proofs.Recovering.{carry_to, go_to, behind_is, fewer_texts, told_weaker, bad_weaker, once_ok, of_answer, refused_first, refused_further, refused_back, is_recovered}
use Rattle.log_replay.proofs.log.replay_records.Goals as goal

pub follow_each-requires-clause-begins : goal.follow_each-requires-clause-begins
follow_each-requires-clause-begins g c κs within = of_answer _ c.carry_each.result Passed c.in-Ok.ensures.passed c.carry_each.ensures.some refl

pub reverse-requires-after_bounds : goal.reverse-requires-after_bounds
reverse-requires-after_bounds g c κs within = of_answer _ c.follow_each.result Passed c.in-Ok-outcome.ensures.passed c.follow_each.ensures.some refl

pub returns-clause-recovered : goal.returns-clause-recovered
returns-clause-recovered g c =
    let maps = g.M.SortedMaps.maps in
    let limit = g.M.SortedMaps.limit in
    let at = c.args.area in
    let records = c.args.records.now in
    once_ok c.outcome-3.result (λ passed i im.
    let first = of_answer _ c.carry_each.result Passed c.in-Ok.ensures.passed c.carry_each.ensures.told i.pages im.begins i.carried
    (subst (λ n. CarryTo at i.pages.db.schema [] (take n records) i.carried) (sym c.count_before-count.ensures.count) (carry_to at c.args.redo records i im.scanned)) in
    let second = of_answer _ c.follow_each.result Passed c.in-Ok-outcome.ensures.passed c.follow_each.ensures.told i.pages i.carried first.0 first.1 i.after
    (subst (λ (ss : List Scanned). GoTo at i.pages.db.schema [] ss i.after) (sym (behind_is c.count_before-count.result records))
    (subst (λ n. GoTo at i.pages.db.schema [] (drop n records) i.after) (sym c.count_before-count.ensures.count) (go_to at c.args.redo records i im.scanned))) in
    let third = of_answer _ c.reverse.result Passed passed c.reverse.ensures.told (going maps limit i.pages i.carried first.0 i.after second.0) second.1 in
    is_recovered maps limit i c.follow_each.new.replay c.reverse.new.self first.0 second.0 second.1 third c.reverse.ensures.commits c.reverse.ensures.next) c.outcome-3.ensures.passed

pub returns-clause-some : goal.returns-clause-some
returns-clause-some g c =
    once_ok c.outcome-3.result (λ passed.
    let past = of_answer _ c.follow_each.result Passed c.in-Ok-outcome.ensures.passed c.follow_each.ensures.some refl in
    let back = of_answer _ c.reverse.result Passed passed c.reverse.ensures.told past.0 past.1 in (
      reversed (left_by past.0),
      back.1,
      c.reverse.ensures.commits ∙ past.1.commits,
      (let same = c.reverse.ensures.next in let small = past.1.small in omega (arith, same, small)),
    )) c.outcome-3.ensures.passed

pub returns-clause-texts : goal.returns-clause-texts
returns-clause-texts g c =
    let records = c.args.records.now in
    let n = c.count_before-count.result in
    once_ok c.outcome-3.result (λ passed.
    let first = of_answer _ c.carry_each.result Passed c.in-Ok.ensures.passed c.carry_each.ensures.texts in
    let second = of_answer _ c.follow_each.result Passed c.in-Ok-outcome.ensures.passed c.follow_each.ensures.texts in
    let third = of_answer _ c.reverse.result Passed passed c.reverse.ensures.texts in
    let behind = ap texts_entries (behind_is n records) in
    let fewer = fewer_texts n records in
    omega (arith, ap map_size first, second, ap map_size third, behind, fewer)) c.outcome-3.ensures.passed

pub returns-clause-refused : goal.returns-clause-refused
returns-clause-refused g c =
    let maps = g.M.SortedMaps.maps in
    let limit = g.M.SortedMaps.limit in
    let at = c.args.area in
    let records = c.args.records.now in
    bad_weaker c.outcome-3.result (λ bad broken i im.
    let first = of_answer _ c.carry_each.result Passed c.in-Ok.ensures.passed c.carry_each.ensures.told i.pages im.begins i.carried
    (subst (λ n. CarryTo at i.pages.db.schema [] (take n records) i.carried) (sym c.count_before-count.ensures.count) (carry_to at c.args.redo records i im.scanned)) in
    let second = of_answer _ c.follow_each.result Passed c.in-Ok-outcome.ensures.passed c.follow_each.ensures.told i.pages i.carried first.0 first.1 i.after
    (subst (λ (ss : List Scanned). GoTo at i.pages.db.schema [] ss i.after) (sym (behind_is c.count_before-count.result records))
    (subst (λ n. GoTo at i.pages.db.schema [] (drop n records) i.after) (sym c.count_before-count.ensures.count) (go_to at c.args.redo records i im.scanned))) in
    refused_back maps limit i c.follow_each.new.replay c.reverse.new.self first.0 second.0 second.1 bad
    (of_answer _ c.reverse.result (Broken bad) broken c.reverse.ensures.told (going maps limit i.pages i.carried first.0 i.after second.0) second.1)) c.outcome-3.ensures.broken

pub returns-in-Err-clause-refused : goal.returns-in-Err-clause-refused
returns-in-Err-clause-refused g c =
    let maps = g.M.SortedMaps.maps in
    let limit = g.M.SortedMaps.limit in
    let at = c.args.area in
    let records = c.args.records.now in
    told_weaker c.in-Err.fault (λ bad broken i im.
    refused_first maps limit i c.carry_each.new.replay bad
    (of_answer _ c.carry_each.result (Broken bad) broken c.carry_each.ensures.told i.pages im.begins i.carried
    (subst (λ n. CarryTo at i.pages.db.schema [] (take n records) i.carried) (sym c.count_before-count.ensures.count) (carry_to at c.args.redo records i im.scanned)))) c.in-Err.ensures.broken

pub returns-in-Err-outcome-clause-refused : goal.returns-in-Err-outcome-clause-refused
returns-in-Err-outcome-clause-refused g c =
    let maps = g.M.SortedMaps.maps in
    let limit = g.M.SortedMaps.limit in
    let at = c.args.area in
    let records = c.args.records.now in
    told_weaker c.in-Err-outcome.fault (λ bad broken i im.
    let first = of_answer _ c.carry_each.result Passed c.in-Ok.ensures.passed c.carry_each.ensures.told i.pages im.begins i.carried
    (subst (λ n. CarryTo at i.pages.db.schema [] (take n records) i.carried) (sym c.count_before-count.ensures.count) (carry_to at c.args.redo records i im.scanned)) in
    refused_further maps limit i c.carry_each.new.replay c.follow_each.new.replay first.0 first.1 bad
    (of_answer _ c.follow_each.result (Broken bad) broken c.follow_each.ensures.told i.pages i.carried first.0 first.1 i.after
    (subst (λ (ss : List Scanned). GoTo at i.pages.db.schema [] ss i.after) (sym (behind_is c.count_before-count.result records))
    (subst (λ n. GoTo at i.pages.db.schema [] (drop n records) i.after) (sym c.count_before-count.ensures.count) (go_to at c.args.redo records i im.scanned))))) c.in-Err-outcome.ensures.broken
