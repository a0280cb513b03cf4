use Rattle.std.proofs.Common.{◌≡◌, take}
use Rattle.elements.specs.Rows.{items}
use Rattle.mesh.specs.Merges.{Steady}
use Rattle.mesh.proofs.merge_all.number_colours.Given as goal

abbrev pub invariant-loop-number : goal.invariant-loop-number
invariant-loop-number l = record { items : items l.colour_indices ≡ take l.number-index (items l.indices); count : l.colour_indices.count ≡ l.number-index; steady : Steady 0 l.initial.colour_indices l.colour_indices }
