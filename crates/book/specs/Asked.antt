-- What a call asks, where its mesh and its tables have so much room.
use Rattle.mesh.specs.Surface.{Rooms, Capacities}
use Rattle.book.specs.declared.calls.Call.{Call}
use Rattle.book.specs.declared.calls.Call.TheVariants.{Position, Colour, Texture, Normal, Face, Export}
use Rattle.book.specs.Requests.{Request, add_position, add_colour, add_texture, add_normal, add_face, write_mesh}

abbrev pub request : Rooms → Capacities → Call → Request
request ms ts (Position x y z) = add_position x y z
request ms ts (Colour x y z) = add_colour x y z
request ms ts (Texture u v) = add_texture u v
request ms ts (Normal x y z) = add_normal x y z
request ms ts (Face text) = add_face text.now
request ms ts (Export o material) = write_mesh o material ms ts
