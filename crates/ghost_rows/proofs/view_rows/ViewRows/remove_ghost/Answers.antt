use Rattle.std.proofs.Common.{◌≡◌, suc, sym, ap, subst}
use Rattle.table_laws.specs.Place.{Place}
use Rattle.ghost_rows.specs.Rows.{OpenRows, row_at}
use Rattle.ghost_rows.specs.State.{State, stored_at}
use Rattle.ghost_rows.specs.Kept.{StandsFor, no_pays}
use Rattle.ghost_rows.proofs.StateLemmas.{stored_gone, stored_away}
use Rattle.ghost_rows.proofs.GhostLemmas.{zeros_gone}
use Rattle.ghost_rows.proofs.ListedLemmas.{listed_as, gone_listed, not_stored}
use Rattle.ghost_rows.proofs.view_rows.ViewRows.remove_ghost.Goals as goal

pub returns-clause-gone : goal.returns-clause-gone
returns-clause-gone g c = stored_gone (g.M.SortedMaps.maps c.args.maps.now) (g.M.SortedMaps.maps c.remove.new.self) (c.args.view, c.args.group.now) c.remove.ensures.entry

pub returns-clause-stores : goal.returns-clause-stores
returns-clause-stores g c = λ q n. stored_away (g.M.SortedMaps.maps c.args.maps.now) (g.M.SortedMaps.maps c.remove.new.self) (c.args.view, c.args.group.now) q c.remove.ensures.entry c.remove.ensures.others n

pub returns-clause-kept : goal.returns-clause-kept
returns-clause-kept g c = λ many kept.
    let place : Place = (c.args.view, c.args.group.now) in
    zeros_gone (row_at c.self.inside.rows place) (stored_at (g.M.SortedMaps.maps c.args.maps.now) place) (stored_at (g.M.SortedMaps.maps c.remove.new.self) place) (suc c.requires.0) (suc many) c.requires.2 (returns-clause-gone g c)
    (subst (λ (l : OpenRows). StandsFor (row_at l place) (stored_at (g.M.SortedMaps.maps c.args.maps.now) place) (suc many) no_pays) (sym (ap (λ (s : State). s.rows) c.self.view_is)) kept)

pub returns-clause-listed : goal.returns-clause-listed
returns-clause-listed g c = λ q listed ghost.
    let place : Place = (c.args.view, c.args.group.now) in
    let before = g.M.SortedMaps.maps c.args.maps.now in
    let after = g.M.SortedMaps.maps c.remove.new.self in
    let rows : c.args.self.now.rows ≡ c.self.inside.rows = sym (ap (λ (s : State). s.rows) c.self.view_is) in
    let candidates : c.args.self.now.candidates ≡ c.self.inside.candidates = sym (ap (λ (s : State). s.candidates) c.self.view_is) in
    gone_listed place c.self.inside.rows before after c.self.inside.candidates c.forget.new.self (returns-clause-stores g c) c.forget.ensures (not_stored (row_at c.self.inside.rows place) (stored_at after place) (returns-clause-gone g c))
    q (listed_as rows candidates before q listed) ghost
