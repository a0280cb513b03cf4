use Rattle.std.proofs.Common.{◌≡◌, not, sym, ap, ◌∙◌, length, arith, rules, tests}
use Rattle.std.proofs.lemmas.Iterator.{YieldsList-from_slice}
use Rattle.std.proofs.lemmas.Iterator.Search.{position_from_yields_List}
use Rattle.std.specs.List.{position}
use Rattle.reading.specs.Pieces.{space}
use Rattle.reading.proofs.TokenFacts.{no_token, next_token}
use Rattle.reading.proofs.split.TokensIterator.next.Goals as goal

pub returns-in_err-spaces-clause-steps : goal.returns-in_err-spaces-clause-steps
returns-in_err-spaces-clause-steps c =
    let R = c.args.self.now.rest.now in
    let h : c.position.result ≡ position (λ b. not (space b)) R = position_from_yields_List (λ b. not (space b)) _ _ _ c.position.ensures.ran (YieldsList-from_slice R cc) (λ x b q k. search (rules, tests)) in
    let z = no_token c.args.self.now.at R (sym h ∙ c.in_err-spaces.was) in
    rw c.from_residual.ensures (z, z)

pub returns-clause-steps : goal.returns-clause-steps
returns-clause-steps c =
    let R = c.args.self.now.rest.now in
    let T = c.split_at.result.1.now in
    let h : c.position.result ≡ position (λ b. not (space b)) R = position_from_yields_List (λ b. not (space b)) _ _ _ c.position.ensures.ran (YieldsList-from_slice R cc) (λ x b q k. search (rules, tests)) in
    let g : c.position-2.result ≡ position space T = position_from_yields_List space _ _ _ c.position-2.ensures.ran (YieldsList-from_slice T cc) (λ x b q k. search (rules, tests)) in
    next_token c.args.self.now.at R T _ _ _ _ c.position-2.result (sym h ∙ c.in_ok-spaces.was) c.split_at.ensures.back (sym g) c.unwrap_or-n.ensures c.split_at-2.ensures.front c.split_at-2.ensures.back

pub returns-clause-goes : goal.returns-clause-goes
returns-clause-goes c =
    let e = ap length (returns-clause-steps c) in
    record { on = λ _. (tt, tt, omega (arith, e)); keeps = tt; rests = λ _. tt }
