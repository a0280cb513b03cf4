use Rattle.std.proofs.Common.{refl, ap, ◌∙◌}
use Rattle.book.specs.Unnamed.{others}
use Rattle.book.proofs.UnnamedFacts.{listed}
use Rattle.book.proofs.book.Book.list_unnamed.Goals as goal

pub returns-clause-numbers : goal.returns-clause-numbers
returns-clause-numbers g c granted =
    let b = c.args.self.now in
    let held = c.in_ok-enter_named.ensures.holds refl in
    listed b c.as_slice.result.now c.as_slice.ensures _ (c.list_others.ensures.listed granted ∙ ap (others b.attributes.positions.count) held)
