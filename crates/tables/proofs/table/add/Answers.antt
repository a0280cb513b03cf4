use Rattle.std.proofs.Common.{◌≡◌, ◌<◌, ◌∙◌, true, is_ok, is_some, length, sym, ap, arith}
use Rattle.tables.specs.Searching.{meanings}
use Rattle.elements.specs.Rows.{room}
use Rattle.tables.proofs.Places.{length-meanings, meanings_push, placed_new}
use Rattle.tables.proofs.table.add.Goals as goal

pub returns-clause-entering : goal.returns-clause-entering
returns-clause-entering g c lacks =
    let f = g.K.Key.meaning in
    let r = c.args.held.now in
    let yes : is_ok c.push.result ≡ true = sym c.ok.ensures.variant ∙ ap is_some c.in_ok-ok.was in
    let pushed = c.push.ensures.granted yes in
    let fits = c.push.new.self.fits in
    let at : c.len-place.result ≡ length (meanings g.K.Key.meaning c.args.held.now) = c.len-place.ensures ∙ sym (length-meanings f r) in
    let below : c.len-place.result < room c.args.held.now = omega (arith, c.len-place.ensures) in
    placed_new _ (f c.args.key) _ _ _ lacks at below (meanings_push f r c.push.new.self c.args.key pushed)
