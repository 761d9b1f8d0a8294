-- What may be asked for as far as a session sees may be asked of the machine.
use Rattle.std.specs.Prelude.{◌≡◌, ℕ, ◌==◌, not, Bool, true, false, List, [], ◌∷◌, length, Option, Some, None}
use Rattle.std.specs.Option.{option_map}
use mathlib.Core.Path.{refl, sym, ap, ◌∙◌}
use mathlib.Core.Logic.{inl, inr}
use Rattle.std.proofs.Common.{arith, eqb-true}
use Rattle.iv_types.specs.declared.statement.Mode.{Mode}
use Rattle.iv_types.specs.declared.statement.Mode.TheVariants.{Serial, Snapshot}
use Rattle.iv_types.specs.declared.lock.GroupDelta.{GroupDelta}
use Rattle.iv_meaning.specs.Escrow.{IsSession}
use Rattle.txn_machine.specs.Acts as act
use Rattle.txn_machine.specs.Acts.{Act}
use Rattle.txn_machine.specs.Keeping.{KeptStep, Put, Pay, Open}
use Rattle.txn_machine.specs.Store.{schema_of, now}
use Rattle.txn_machine.specs.May.{MayAct, IsOpenIn, IsReady, Owes}
use Rattle.txn_machine.specs.Alone.{Story}
use Rattle.txn_machine.proofs.Stepping.{now_is}
use Rattle.txn_machine.proofs.Looking.{view_laws}
use Rattle.script_law.specs.Seen.{MayWant, IsReadyIn, OwesSome}
use Rattle.script_law.specs.Machine.{kept_seen, txn_seen, IsFitting, IsAlive, MayLaw}

none_of : {X : Type 0} (xs : List X) → length xs ≡ 0 → xs ≡ []
none_of [] e = refl
none_of (x ∷ xs) e = absurd (omega (arith, e))

seen_none : (ks : List KeptStep) → kept_seen ks ≡ [] → ks ≡ []
seen_none [] e = refl
seen_none (Put c ds ∷ ks) e = absurd (cc)
seen_none (Pay d ∷ ks) e = absurd (cc)

no_back : (n : ℕ) → not (n == 0) ≡ false → n ≡ 0
no_back n e = eqb-true n 0 (flipped (n == 0) e)
  where
    flipped : (b : Bool) → not b ≡ false → b ≡ true
    flipped true e = refl
    flipped false e = absurd (cc)

module _ (story : Story) (i : ℕ) (is : IsSession i) (o : Open) (is_open : story.state.store.open_of i ≡ Some o) where
  abbrev goes_on : (m : Mode) → o.mode ≡ m → (now story.state.store i).is_lost ≡ false → IsOpenIn story.state.store i m
  goes_on m e alive = record { of_session = is; transaction = o; is_open = is_open; mode_is = e; not_lost = sym (ap (λ (t : Open). t.is_lost) (now_is view_laws story.state.store i o is_open)) ∙ alive }

  ready : (m : Mode) → IsReadyIn m (txn_seen (schema_of story.state.store) (story.told i) o) → (now story.state.store i).is_lost ≡ false → IsReady story.state.store i m
  ready m r alive = record { goes_on = goes_on m r.mode_is alive; owes_nothing = none_of o.owed r.owes_nothing }

  owes : OwesSome (txn_seen (schema_of story.state.store) (story.told i) o) → (now story.state.store i).is_lost ≡ false → Owes story.state.store i
  owes r alive = by o.owed refl
    where
      by : (ds : List GroupDelta) → o.owed ≡ ds → Owes story.state.store i
      by [] e = absurd (r.owes (ap length e))
      by (d ∷ ds) e = record { goes_on = goes_on Serial r.mode_is alive; first = d; others = ds; owed_is = e; none_back = no_back o.back r.not_back }

  may_open : (a : Act) → IsAlive story i a → IsFitting story a → MayWant (Some (txn_seen (schema_of story.state.store) (story.told i) o)) a → MayAct story.state.store i a
  may_open act.Defs alive fits ask = is
  may_open (act.Fetch index interval lock) alive fits ask = (ready Serial ask alive, fits)
  may_open (act.Peek index interval) alive fits ask = (goes_on Snapshot ask.mode_is alive, fits)
  may_open (act.Put table key new) alive fits ask = (ready Serial ask alive, fits)
  may_open act.Pay alive fits ask = owes ask alive
  may_open act.UndoOne alive fits ask = (record { of_session = is; transaction = o; is_open = is_open }, λ e. ask (ap kept_seen e))
  may_open act.End alive fits ask = (record { of_session = is; transaction = o; is_open = is_open }, seen_none o.kept ask)
  may_open act.Commit alive fits ask = by o.mode refl
    where
      by : (m : Mode) → o.mode ≡ m → MayAct story.state.store i act.Commit
      by Serial e = inl (ready Serial (record { mode_is = e; owes_nothing = ask.owes_nothing }) alive)
      by Snapshot e = inr (ready Snapshot (record { mode_is = e; owes_nothing = ask.owes_nothing }) alive)
  may_open _ alive fits ask = absurd ask

may_none : (story : Story) (i : ℕ) (a : Act) → IsSession i → story.state.store.open_of i ≡ None → IsFitting story a → MayWant None a → MayAct story.state.store i a
may_none story i (act.Begin mode) is e fits ask = (is, e)
may_none story i act.Defs is e fits ask = is
may_none story i (act.Schema statement) is e fits ask = (is, e, fits.0, fits.1)
may_none story i _ is e fits ask = absurd ask

pub may_law : MayLaw
may_law story i a is alive fits ask = by (story.state.store.open_of i) refl ask
  where
    by : (o : Option Open) → story.state.store.open_of i ≡ o → MayWant (option_map (txn_seen (schema_of story.state.store) (story.told i)) o) a → MayAct story.state.store i a
    by None e ask = may_none story i a is e fits ask
    by (Some o) e ask = may_open story i is o e a alive fits ask
