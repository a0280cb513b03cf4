use Rattle.std.proofs.Common.{length, vec_items, ap, ◌∙◌}
use Rattle.elements.specs.Cells.{room_of, blanked}
use Rattle.elements.proofs.CellFacts.{length-blanked}
use Rattle.elements.proofs.RowFacts.{blanked_refill}
use Rattle.elements.proofs.row.Row.clear.Goals as goal

pub returns : goal.returns
returns g c =
    let is = blanked_refill c.empty.new.self c.deref_mut.result.now c.clear.new.cells c.args.blank c.deref_mut.ensures.value c.clear.ensures in
    let old = ap (λ v. blanked (vec_items v) c.args.blank) c.empty.ensures.cells in
    record {
      cells = is ∙ old;
      count = c.empty.ensures.count;
      room = ap (λ xs. room_of (length xs)) (is ∙ old) ∙ ap room_of (length-blanked c.args.self.now.cells.items c.args.blank);
    }
