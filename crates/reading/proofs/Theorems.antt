use Rattle.std.proofs.Common.{◌≡◌, ℕ, false, List, length, None, Option, refl, ap, ◌∙◌}
use Rattle.std.specs.Option.{option_map}
use Rattle.reading.specs.declared.counts.Counts.{Counts}
use Rattle.reading.specs.Ascii.{ascii}
use Rattle.reading.specs.Face.{Counted}
use Rattle.reading.specs.Laws.{Laws}
use Rattle.reading.specs.Examples.{Readings}
use Rattle.reading.proofs.TokenLaws.{rejoined}
use Rattle.reading.proofs.PartLaws.{reslashed}
use Rattle.reading.proofs.ValueLaws.{reads_back, named}
use Rattle.reading.proofs.AsciiLaws.{only_ascii}

pub laws : Laws
laws = record { rejoined = rejoined; reslashed = reslashed; reads_back = reads_back; named = named; only_ascii = only_ascii }

pub readings : Readings
readings = (refl, refl, refl, refl, refl, refl, refl, refl, refl, refl, refl, refl, refl, refl, refl)

pub none-counted : (text : List ℕ) (r : Option ℕ) → Counted text r → ascii text ≡ false → r ≡ None
none-counted text r h a =
    let n : Counts = record { positions = 0; textures = 0; normals = 0 } in
    h n ∙ ap (option_map length) (only_ascii n text a)
