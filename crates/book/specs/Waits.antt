-- A list of corners after which others were written.
use Rattle.std.specs.Prelude.{◌≡◌, ◌+◌, List, ◌++◌, length}
use Rattle.elements.specs.declared.row.Row.{Row}
use Rattle.elements.specs.Rows.{held, items}
use Rattle.reading.specs.Face.{written}

-- xs came after the list of r, which became that of s
pub record Extended {X : Type 0} (r s : Row X) (xs : List X) : Type 0 where
  pub cells : held s ≡ written xs r.count (held r)
  pub count : s.count ≡ r.count + length xs
  pub items : items s ≡ items r ++ xs
