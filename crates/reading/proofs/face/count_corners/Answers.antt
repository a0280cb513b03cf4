use Rattle.std.proofs.Common.{length, is_some, Some, None, sym, ap, ◌∙◌, arith}
use Rattle.reading.specs.declared.counts.Counts.{Counts}
use Rattle.reading.specs.Face.{corners, face, Counted}
use Rattle.reading.specs.Readers.{tokens_left, token_stretch}
use Rattle.reading.proofs.TokenFacts.{few-tokens}
use Rattle.reading.proofs.FaceFacts.{reads-alike, more, more-none, count-more, count_stop, count-all}
use Rattle.reading.proofs.Theorems.{laws, readings, none-counted}
use Rattle.reading.proofs.face.count_corners.Goals as goal

abbrev zero_counts : Counts
zero_counts = record { positions = 0; textures = 0; normals = 0 }

pub returns-in_err-token_corner : goal.returns-in_err-token_corner
returns-in_err-token_corner c =
    let t = token_stretch c.in-Some.token in
    let h : Counted c.args.text.now None =
    λ n. count_stop n c.loop-token.count (tokens_left c.loop-token.token-iterator) t (tokens_left c.next.new.self) c.in-Some.ensures.steps
    (sym (reads-alike zero_counts n t) ∙ ap is_some (sym c.token_corner.ensures ∙ c.in_err-token_corner.was))
    ∙ c.loop-token.invariant.counted n in
    rw c.from_residual.ensures (record { counted = h; ascii = none-counted c.args.text.now None h; laws = laws; readings = readings })

pub loop-token-init : goal.loop-token-init
loop-token-init c =
    let e = ap tokens_left c.into_iter-token-iterator.ensures.into_iter_gives ∙ c.new-token-items.ensures in
    record {
      counted = λ n. ap (λ ts. more 0 (corners n ts)) e ∙ more-none (face n c.args.text.now);
      fits = omega (arith, ap length e, few-tokens 0 c.args.text.now);
    }

pub loop-token-preserved : goal.loop-token-preserved
loop-token-preserved c =
    let t = token_stretch c.in-Some.token in
    record {
      counted = λ n.
          count-more n c.loop-token.count (tokens_left c.loop-token.token-iterator) t (tokens_left c.next.new.self) c.in-Some.ensures.steps
          (sym (reads-alike zero_counts n t) ∙ ap is_some (sym c.token_corner.ensures ∙ c.in_ok-token_corner.was))
          ∙ c.loop-token.invariant.counted n;
      fits = omega (arith, c.loop-token.invariant.fits, ap length c.in-Some.ensures.steps);
    }

pub returns : goal.returns
returns c =
    let h : Counted c.args.text.now (Some c.loop-token.count) =
    λ n. count-all n c.loop-token.count (tokens_left c.loop-token.token-iterator) c.in-None.ensures.steps.0 ∙ c.loop-token.invariant.counted n in
    record { counted = h; ascii = none-counted c.args.text.now (Some c.loop-token.count) h; laws = laws; readings = readings }
