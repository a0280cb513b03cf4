use Rattle.std.proofs.Common.{is_ok, rules}
use Rattle.std.proofs.lemmas.Result.{err_from_is_err_and}
use Rattle.mesh.proofs.SingleRowFacts.{becomes_push}
use Rattle.mesh.proofs.MultiFacts.{again_written, element-written, element-refused}
use Rattle.mesh.proofs.stream.write.Goals as goal

pub returns-in-Again : goal.returns-in-Again
returns-in-Again g c =
    let p = c.push.ensures in
    let h = becomes_push c.args.numbers.now c.push.new.self c.in-Again.number (is_ok c.push.result) p.tells p.granted p.refused in
    record {
      elements = search rules;
      numbers = h.kept;
      written = λ bits xs rs m is ns. rw c.in-Again.is (λ k. again_written bits xs rs m c.args.elements.now c.args.elements.now c.args.numbers.now c.push.new.self is ns k.0
          c.in-Again.number k.2 (is_ok c.push.result) h k.1);
    }

pub returns-in_err-place-in-Element-clause-written : goal.returns-in_err-place-in-Element-clause-written
returns-in_err-place-in-Element-clause-written g c bits xs rs m is ns =
    let p = err_from_is_err_and c.from_residual.result c.from_residual.ensures.1 in
    rw (p.1, c.in-Element.is) (λ k. element-refused bits xs rs m c.args.elements.now c.place.new.elements c.args.numbers.now c.args.numbers.now is ns k.0
    c.in-Element.number k.1 c.in-Element.item k.2 c.in_err-place-in-Element.ensures)

pub returns-in_ok-place-in-Element : goal.returns-in_ok-place-in-Element
returns-in_ok-place-in-Element g c =
    let e = c.in_ok-place-in-Element.ensures in
    let p = c.push-in-Element.ensures in
    let h = becomes_push c.args.numbers.now c.push-in-Element.new.self c.in-Element.number (is_ok c.push-in-Element.result) p.tells p.granted p.refused in
    record {
      elements = e.kept;
      numbers = h.kept;
      written = λ bits xs rs m is ns. rw c.in-Element.is (λ k. element-written bits xs rs m c.args.elements.now c.place.new.elements c.args.numbers.now c.push-in-Element.new.self is ns k.0
          c.in-Element.number k.1 (is_ok c.push-in-Element.result) h c.in-Element.item k.2 e);
    }
