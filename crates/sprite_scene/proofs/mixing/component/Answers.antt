use Rattle.std.proofs.Common.{◌*◌, arith}
use Rattle.sprite_scene.proofs.Products.{component_fits}
use Rattle.sprite_scene.proofs.mixing.component.Goals as goal

pub overflow_cast-result : goal.overflow_cast-result
overflow_cast-result c =
    let p = c.element_fits.fits in
    let q = c.element_fits2.fits in
    let r = c.element_fits3.fits in
    let s = c.element_fits4.fits in
    let left = c.mean-left.ensures.most 255 (omega (arith, c.from-4.ensures, p, q, r, s)) (omega (arith, c.from-5.ensures, p, q, r, s)) in
    let right = c.mean-right.ensures.most 255 (omega (arith, c.from-7.ensures, p, q, r, s)) (omega (arith, c.from-8.ensures, p, q, r, s)) in
    let sum = c.mean-sum.ensures.most (2 * c.from-2.result * 255) left right in
    component_fits c.from.result c.from-2.result c.mean-sum.result (omega (arith, c.from.ensures, c.requires.wide.0)) (omega (arith, c.from-2.ensures, c.requires.high.0)) sum
