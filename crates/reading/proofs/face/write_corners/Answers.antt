use Rattle.std.proofs.Common.{◌≡◌, length, take, IsSome, Some, None, Option, sym, refl, ap, ◌∙◌, arith}
use Rattle.std.proofs.lemmas.List.{length-take-le}
use Rattle.std.specs.Option.{option_map}
use Rattle.reading.specs.Face.{corners}
use Rattle.reading.specs.Readers.{tokens_left, token_stretch}
use Rattle.reading.proofs.FaceFacts.{after, rest_there, corner_there, face_start, face_more, face_end}
use Rattle.reading.proofs.face.write_corners.Goals as goal
use Rattle.reading.proofs.face.write_corners.Goals.{After-next}

-- the corners in the cells so far and those that are left fill the cells
fit : (c : After-next) → option_map length (after (take c.loop-cell.cell-index c.loop-cell.cells) (corners c.args.counts (tokens_left c.loop-cell.tokens))) ≡ Some (length c.args.cells.now)
fit c = ap (option_map length) (sym c.loop-cell.invariant) ∙ c.requires

some_from : {X : Type 0} (o : Option X) → (o ≡ None → ⊥) → IsSome o
some_from None h = absurd (h refl)
some_from (Some x) h = refl

pub unwrap-token-requires : goal.unwrap-token-requires
unwrap-token-requires c =
    some_from c.next.result
    (λ e. rest_there c.args.counts (take c.loop-cell.cell-index c.loop-cell.cells) (tokens_left c.loop-cell.tokens) (length c.args.cells.now) (fit c)
    (omega (arith, c.loop-cell-test.true, length-take-le c.loop-cell.cell-index c.loop-cell.cells (omega (arith, c.loop-cell-test.true, c.loop-cell.auto.cells))))
    (rw e at c.next.ensures.steps).0)

pub unwrap-requires : goal.unwrap-requires
unwrap-requires c =
    some_from c.token_corner.result
    (λ e. corner_there c.args.counts (take c.loop-cell.cell-index c.loop-cell.cells) (tokens_left c.loop-cell.tokens) (length c.args.cells.now) (fit (goal.at.unwrap-requires c).After-next)
    (token_stretch c.unwrap-token.result) (tokens_left c.next.new.self) (rw c.unwrap-token.ensures at c.next.ensures.steps) (sym c.token_corner.ensures ∙ e))

pub loop-cell-init : goal.loop-cell-init
loop-cell-init c = face_start c.args.counts c.args.text.now (tokens_left c.new-tokens.result) c.new-tokens.ensures

pub loop-cell-preserved : goal.loop-cell-preserved
loop-cell-preserved c =
    face_more c.args.counts c.args.text.now c.loop-cell.cells c.loop-cell.cell-index (tokens_left c.loop-cell.tokens) (tokens_left c.next.new.self) (token_stretch c.unwrap-token.result) c.unwrap.result
    (omega (arith, c.loop-cell-test.true, c.loop-cell.auto.cells)) c.loop-cell.invariant (rw c.unwrap-token.ensures at c.next.ensures.steps) (sym c.token_corner.ensures ∙ c.unwrap.ensures)

pub returns : goal.returns
returns c =
    face_end c.args.counts c.args.text.now c.loop-cell.cells c.loop-cell.cell-index (tokens_left c.loop-cell.tokens) (omega (arith, c.loop-cell-test.false, c.loop-cell.auto.cells)) c.loop-cell.invariant
    (c.requires ∙ ap Some (sym c.loop-cell.auto.cells))
