-- What a writer's call does.
--   Writes T fs w w' r  with tables that have the words T, the call was to write the events fs and answered r, and the writer w became w', which reads and writes the same
use Rattle.std.specs.Prelude.{◌≡◌, List, Result}
use Rattle.elements.specs.declared.error.LoadError.{LoadError}
use Rattle.elements.specs.Contents.{sources}
use Rattle.mesh.specs.declared.unfold.Writer.{Writer}
use Rattle.mesh.specs.Unfold.{Event}
use Rattle.mesh.specs.Writing.{Writing}
use Rattle.mesh.specs.declared.numbering.Numbering.{Ghosts}

pub record Writes {N : Type 0} (T : Ghosts N) {X : Type 0} (fs : List Event) (w w' : Writer N) (r : Result X LoadError) : Type 0 where
  pub options : w'.options ≡ w.options
  pub attributes : w'.attributes.now ≡ w.attributes.now
  pub lists : w'.lists.ghost_name ≡ w.lists.ghost_name
  pub tables : w'.tables.ghost_name ≡ w.tables.ghost_name
  pub writing : Writing w.options (sources w.attributes.now) fs w.lists.now w'.lists.now (T.stock w.tables.now) (T.stock w'.tables.now) (T.sound w.tables.now) (T.sound w'.tables.now) r
