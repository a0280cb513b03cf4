use Rattle.std.proofs.Common.{◌≡◌, rules, ℕ, Option, map, take, sym, subst}
use Rattle.std.proofs.lemmas.Iterator.{IsFirst-from_position, YieldsList-from_slice}
use Rattle.tables.specs.Tables.{Found}
use Rattle.tables.proofs.Places.{first_found}
use Rattle.tables.proofs.searched.search.Goals as goal

pub returns : goal.returns
returns g c apart =
    let f = g.K.Key.meaning in
    let m = g.K.Key.meaning c.args.key.now in
    let ks = take c.args.count c.args.cells.now in
    let first = IsFirst-from_position _ _ _ (λ k. f k ≡ m) (λ k. f k ≡ m → ⊥) c.position.ensures.ran (YieldsList-from_slice ks cc) (λ x q k. search rules) (λ x q k. search rules) in
    let same : c.map.result ≡ c.position.result = search rules in
    let P : Option ℕ → Type 0 = λ o. Found (g.K.Key.meaning c.args.key.now) (map g.K.Key.meaning (take c.args.count c.args.cells.now)) o in
    subst P (sym same) (first_found f m ks c.position.result first apart)
