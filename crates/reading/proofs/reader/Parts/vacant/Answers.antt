use Rattle.std.proofs.Common.{◌∙◌, sym, ap, rules, tests}
use Rattle.std.proofs.lemmas.Iterator.{YieldsList-from_slice}
use Rattle.std.proofs.lemmas.Iterator.Search.{all_from_yields_List}
use Rattle.reading.specs.Pieces.{slash, vacant}
use Rattle.reading.specs.Readers.{parts_of}
use Rattle.reading.proofs.PieceFacts.{slashes}
use Rattle.reading.proofs.reader.Parts.vacant.Goals as goal

pub returns-in-Some : goal.returns-in-Some
returns-in-Some c =
    all_from_yields_List slash _ _ _ c.all.ensures.ran (YieldsList-from_slice c.in-Some.token.bytes.now cc) (λ x b q k. search (rules, tests))
    ∙ (slashes c.in-Some.token.at c.in-Some.token.bytes.now ∙ ap (λ o. vacant (parts_of o)) (sym c.in-Some.is))
