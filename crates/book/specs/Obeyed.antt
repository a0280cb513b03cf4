-- What the call of a request leaves alone.
--   Untouched q m n    only an export changes what is left in a mesh and in its tables
use Rattle.std.specs.Prelude.{◌≡◌}
use Rattle.book.specs.Rules.{Left}
use Rattle.book.specs.Requests.{Request, add_position, add_colour, add_texture, add_normal, add_face, write_mesh}

abbrev pub Untouched : Request → Left → Left → Type 0
Untouched (add_position x y z) m n = n ≡ m
Untouched (add_colour x y z) m n = n ≡ m
Untouched (add_texture u v) m n = n ≡ m
Untouched (add_normal x y z) m n = n ≡ m
Untouched (add_face text) m n = n ≡ m
Untouched (write_mesh o material ms ts) m n = Unit {0}
