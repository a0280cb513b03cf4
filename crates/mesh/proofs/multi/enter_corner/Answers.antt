use Rattle.std.proofs.Common.{◌≡◌, Some, None, inl, inr, refl, arith}
use Rattle.elements.specs.declared.error.LoadError.TheVariants.{TableFull}
use Rattle.std.proofs.lemmas.Result.{err_from_is_err_and}
use Rattle.mesh.proofs.multi.enter_corner.Goals as goal

pub returns-in_err-texture-clause-numbers : goal.returns-in_err-texture-clause-numbers
returns-in_err-texture-clause-numbers g c =
    let p = err_from_is_err_and c.from_residual-in_err-texture.result c.from_residual-in_err-texture.ensures.1 in
    let none : c.enter-2.result ≡ None = grind arith in
    let full : c.in_err-texture.field-0.0 ≡ TableFull = grind arith in
    rw (p.1, p.2, full) (refl, inr (inl (rw none at c.enter-2.ensures.taken)))

pub returns-in_err-normal-clause-numbers : goal.returns-in_err-normal-clause-numbers
returns-in_err-normal-clause-numbers g c =
    let p = err_from_is_err_and c.from_residual-in_err-normal.result c.from_residual-in_err-normal.ensures.1 in
    let none : c.enter-3.result ≡ None = grind arith in
    let full : c.in_err-normal.field-0.0 ≡ TableFull = grind arith in
    rw (p.1, p.2, full) (refl, inr (inr (rw none at c.enter-3.ensures.taken)))

pub returns-clause-numbers : goal.returns-clause-numbers
returns-clause-numbers g c =
    let position : c.enter.result ≡ Some c.in_ok-position.position = grind arith in
    let texture : c.enter-2.result ≡ Some c.in_ok-texture.texture = grind arith in
    let normal : c.enter-3.result ≡ Some c.in_ok-normal.normal = grind arith in
    let placed = rw position at c.enter.ensures.entering in
    record {
      position = λ s. (c.enter.ensures.fit s, placed s);
      texture = rw texture at c.enter-2.ensures.taken;
      normal = rw normal at c.enter-3.ensures.taken;
      point = refl;
      colour = refl;
    }
