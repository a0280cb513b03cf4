use Rattle.std.proofs.Common.{◌∙◌, rules, tests}
use Rattle.std.proofs.lemmas.Iterator.{YieldsList-from_slice}
use Rattle.std.proofs.lemmas.Iterator.Search.{all_from_yields_List}
use Rattle.reading.specs.Ascii.{plain}
use Rattle.reading.proofs.AsciiLaws.{plain_all}
use Rattle.reading.proofs.face.is_ascii.Goals as goal

pub returns : goal.returns
returns c =
    all_from_yields_List plain _ _ _ c.all.ensures.ran (YieldsList-from_slice c.args.text.now cc) (λ x b q k. search (rules, tests))
    ∙ plain_all c.args.text.now
