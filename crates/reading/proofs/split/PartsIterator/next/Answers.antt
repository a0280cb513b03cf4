use Rattle.std.proofs.Common.{◌≡◌, ◌+◌, [], ◌∷◌, drop, sym, ap, ◌∙◌, length, arith, rules, tests}
use Rattle.std.proofs.lemmas.Iterator.{YieldsList-from_slice}
use Rattle.std.proofs.lemmas.Iterator.Search.{position_from_yields_List}
use Rattle.std.specs.List.{position}
use Rattle.std.proofs.lemmas.List.{take_rest}
use Rattle.reading.specs.Pieces.{slash, parts_from}
use Rattle.reading.specs.Readers.{stretch_of, parts_of}
use Rattle.reading.proofs.PieceFacts.{last_part, next_part}
use Rattle.reading.proofs.split.PartsIterator.next.Goals as goal

pub returns-in_default-clause-steps : goal.returns-in_default-clause-steps
returns-in_default-clause-steps c =
    let B = c.in_ok-bytes.field-0.bytes.now in
    let h : c.position.result ≡ position slash B = position_from_yields_List slash _ _ _ c.position.ensures.ran (YieldsList-from_slice B cc) (λ x b q k. search (rules, tests)) in (
      ap parts_of (sym c.take.ensures.value ∙ c.in_ok-bytes.was)
          ∙ (last_part c.in_ok-bytes.field-0.at B (sym h ∙ c.in_default.is)
          ∙ (ap (λ q. q ∷ []) (sym c.new.ensures.stretch) ∙ ap (λ o. stretch_of c.new.result ∷ parts_of o) (sym c.take.ensures.after))),
      c.new.ensures.proper,
    )

pub returns-clause-steps : goal.returns-clause-steps
returns-clause-steps c =
    let B = c.in_ok-bytes.field-0.bytes.now in
    let h : c.position.result ≡ position slash B = position_from_yields_List slash _ _ _ c.position.ensures.ran (YieldsList-from_slice B cc) (λ x b q k. search (rules, tests)) in
    let i = c.in_ok-bytes.field-0.at in
    let n = c.in-Some.n in (
      ap parts_of (sym c.take.ensures.value ∙ c.in_ok-bytes.was)
          ∙ (next_part i B n (sym h ∙ c.in-Some.is)
          ∙ (ap (λ q. q ∷ parts_from (i + n + 1) (drop (n + 1) B)) (sym c.new-2.ensures.stretch)
          ∙ ap (λ zs. stretch_of c.new-2.result ∷ parts_from (i + n + 1) zs) (sym (take_rest B (n + 1))))),
      c.new-2.ensures.proper,
    )

pub returns-clause-goes : goal.returns-clause-goes
returns-clause-goes c =
    let e = ap length (returns-clause-steps c).0 in
    record { on = λ _. (tt, tt, omega (arith, e)); keeps = tt; rests = λ _. tt }
