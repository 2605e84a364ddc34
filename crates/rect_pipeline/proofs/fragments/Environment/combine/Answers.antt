use Rattle.std.proofs.Common.{◌∙◌, arith}
use Rattle.rect_pipeline.proofs.Combining.{alpha_fragment, both_fragment, luminance_fragment, rgb_fragment, rgba_fragment}
use Rattle.rect_pipeline.proofs.fragments.Environment.combine.Goals as goal

pub returns-in-Rgb-clause-each : goal.returns-in-Rgb-clause-each
returns-in-Rgb-clause-each c = λ k h. c.set_row.ensures.each k (omega (arith, c.multiply.ensures.long)) ∙ rgb_fragment c.args.self _ _ c.in-Rgb.is (c.multiply.ensures.each k h)

pub returns-in-Rgba-clause-each : goal.returns-in-Rgba-clause-each
returns-in-Rgba-clause-each c = λ k h. rgba_fragment c.args.self _ _ c.in-Rgba.is (c.multiply.ensures.each k h)

pub returns-in-Alpha-clause-each : goal.returns-in-Alpha-clause-each
returns-in-Alpha-clause-each c = λ k h. c.set_row-in-Alpha.ensures.each k (omega (arith, c.multiply.ensures.long)) ∙ alpha_fragment c.args.self _ _ c.in-Alpha.is (c.multiply.ensures.each k h)

pub returns-in-Luminance-clause-each : goal.returns-in-Luminance-clause-each
returns-in-Luminance-clause-each c = λ k h. c.set_row-in-Luminance.ensures.each k (omega (arith, c.multiply.ensures.long)) ∙ luminance_fragment c.args.self _ _ c.in-Luminance.is (c.multiply.ensures.each k h)

pub returns-in-LuminanceAlpha-clause-each : goal.returns-in-LuminanceAlpha-clause-each
returns-in-LuminanceAlpha-clause-each c = λ k h. both_fragment c.args.self _ _ c.in-LuminanceAlpha.is (c.multiply.ensures.each k h)
