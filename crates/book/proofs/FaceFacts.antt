-- The rule of a face.
use Rattle.std.proofs.Common.{◌≡◌, sym, ◌∙◌}
use Rattle.std.proofs.lemmas.List.{length-map}
use Rattle.elements.specs.declared.attributes.Attributes.{Attributes}
use Rattle.elements.specs.Bits.{point_bits, pair_bits}
use Rattle.elements.specs.Contents.{sources}
use Rattle.elements.specs.Rows.{items}
use Rattle.elements.proofs.RowFacts.{length-items}
use Rattle.reading.specs.declared.counts.Counts.{Counts}
use Rattle.book.specs.Rules.{counts_of}

-- the lists have as many elements as their rows count
pub counts_are : (a : Attributes) → ◌≡◌ {A = Counts} (record { positions = a.positions.count; textures = a.textures.count; normals = a.normals.count }) (counts_of (sources a))
counts_are a =
    let p = length-map (items a.positions) point_bits ∙ length-items a.positions in
    let t = length-map (items a.textures) pair_bits ∙ length-items a.textures in
    let n = length-map (items a.normals) point_bits ∙ length-items a.normals in
    sym cc
