use Rattle.std.proofs.Common.{◌≡◌, true, sym, ap, ◌∙◌, rules}
use Rattle.reading.specs.Corner.{corner_of}
use Rattle.reading.proofs.CornerFacts.{corner_read}
use Rattle.reading.proofs.vertex.token_corner.Goals as goal

pub returns : goal.returns
returns c =
    let s = c.next-third.new.self in
    let vacant : c.vacant.result ≡ true = search rules in
    corner_read c.args.counts c.new-parts.result c.next-first.new.self c.next-second.new.self s c.next-first.result c.next-second.result c.next-third.result
    c.next-first.ensures.steps c.next-second.ensures.steps c.next-third.ensures.steps
    c.in_ok-v.v c.in_ok-vt.vt c.in_ok-vn.vn true
    (sym c.part_reference.ensures ∙ c.in_ok-v.was) (sym c.part_reference-2.ensures ∙ c.in_ok-vt.was) (sym c.part_reference-3.ensures ∙ c.in_ok-vn.was) (sym vacant ∙ c.vacant.ensures)
    ∙ ap (corner_of c.args.counts) c.new-parts.ensures
