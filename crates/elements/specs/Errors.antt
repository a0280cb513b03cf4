-- The number by which each refusal is known.
use Rattle.std.specs.Prelude.{ℕ}
use Rattle.elements.specs.declared.error.LoadError.{LoadError}
use Rattle.elements.specs.declared.error.LoadError.TheVariants.{NotANumber, NotAscii, FaceParseError, InvalidLoadOptionConfig, BadRecord, BookFull, InvalidPolygon, FaceVertexOutOfBounds, FaceTexCoordOutOfBounds, FaceNormalOutOfBounds, FaceColorOutOfBounds, TableFull, MeshFull}

abbrev pub number_of : LoadError → ℕ
number_of NotANumber = 1
number_of NotAscii = 2
number_of FaceParseError = 3
number_of InvalidLoadOptionConfig = 4
number_of BadRecord = 5
number_of BookFull = 6
number_of InvalidPolygon = 7
number_of FaceVertexOutOfBounds = 8
number_of FaceTexCoordOutOfBounds = 9
number_of FaceNormalOutOfBounds = 10
number_of FaceColorOutOfBounds = 11
number_of TableFull = 12
number_of MeshFull = 13
