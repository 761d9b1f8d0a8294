use Rattle.std.proofs.Common.{◌≡◌, true, false, refl, arith, sym, ap, ◌∙◌}
use mathlib.Core.Logic.{inl, inr}
use Rattle.txn_book.specs.Books.{number_of}
use Rattle.core_state.specs.declared.state.CoreState.{CoreState}
use Rattle.core_state.proofs.Logged.{carries_less}
use Rattle.core_checkpoints.proofs.Saved.{saved_told}
use Rattle.core_checkpoints.proofs.saving.save.Goals as goal

pub write-requires-after_bounds : goal.write-requires-after_bounds
write-requires-after_bounds g c κs within = c.requires

pub returns-in-Ok-clause-gives : goal.returns-in-Ok-clause-gives
returns-in-Ok-clause-gives g c = λ s h may.
    let core = c.write.new.core in
    let began = c.in-Ok.ensures.began s h in
    inl (record {
      told = saved_told g.M.SortedMaps.maps g.M.SortedMaps.spare g.M.SortedMaps.limit core s began c.number-number.result (c.number-number.ensures ∙ sym (ap (λ (x : CoreState g.row.M.Denot). number_of x.book) c.in-Ok.ensures.rest)) c.save.new.self c.save.ensures.limit
          (c.save.ensures.room s.store s.log (c.in-Ok.ensures.bytes s h) (carries_less g.M.SortedMaps.maps g.M.SortedMaps.spare g.M.SortedMaps.limit core s 0 began) began.reserves.log_room);
      gave = λ rs behind. let w = c.in-Ok.ensures.ok.0 s rs h behind (c.number-number.ensures ∙ h.holds.book.number) in (w.0, w.1, (w.2, inr w.3));
      same_limit = c.in-Ok.ensures.limit;
    })

pub returns-in-Ok-clause-faults : goal.returns-in-Ok-clause-faults
returns-in-Ok-clause-faults g c = λ fine. c.in-Ok.ensures.ok.1

pub returns-in-Ok-clause-rose : goal.returns-in-Ok-clause-rose
returns-in-Ok-clause-rose g c = λ bad. absurd (let none : false ≡ true = bad in cc)

pub returns-in-Err-clause-gives : goal.returns-in-Err-clause-gives
returns-in-Err-clause-gives g c = λ s h may.
    inr (record {
      said_is = refl;
      failed = record { began = c.in-Err.ensures.began s h; says = refl; appends = omega arith };
      left = λ rs behind. let w = c.in-Err.ensures.left s rs h behind (c.number-number.ensures ∙ h.holds.book.number) in (w.0, w.1, inr w.2);
      same_limit = c.in-Err.ensures.limit;
    })

pub returns-in-Err-clause-faults : goal.returns-in-Err-clause-faults
returns-in-Err-clause-faults g c = λ fine. absurd (let none : true ≡ false = fine in cc)

pub returns-in-Err-clause-rose : goal.returns-in-Err-clause-rose
returns-in-Err-clause-rose g c = λ bad. c.in-Err.ensures.err
