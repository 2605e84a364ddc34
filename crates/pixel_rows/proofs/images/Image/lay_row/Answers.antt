use Rattle.std.proofs.Common.{◌≡◌, ◌+◌, ◌≤◌, length, get_or, ap, arith, refl}
use Rattle.pixel_rows.proofs.Holding.{stored_same, stored_written, whole_of}
use Rattle.pixel_rows.proofs.RowWrites.{run_painted}
use Rattle.pixel_formats.specs.declared.formats.Format.TheVariants.{Rgba8888}
use Rattle.pixel_rows.specs.Cells.{seen}
use Rattle.pixel_rows.specs.Images.{ImageValue, no_pixel}
use Rattle.pixel_rows.proofs.images.Image.lay_row.Goals as goal

pub returns-in_err-own-clause-whole : goal.returns-in_err-own-clause-whole
returns-in_err-own-clause-whole c =
    whole_of c.self.inside.format c.self.inside.width c.self.inside.height c.own.new.rows (stored_same c.self.inside.format c.self.inside.width c.self.inside.height c.self.inside.rows c.own.new.rows c.self.invariant c.own.ensures.same)

pub invariant_of-self-2 : goal.invariant_of-self-2
invariant_of-self-2 c =
    stored_written c.self.inside.format c.self.inside.width c.self.inside.height c.self.inside.rows c.own.new.rows c.lay_row.new.rows _ _ c.self.invariant c.own.ensures.same c.lay_row.ensures.pixels c.lay_row.ensures.form

pub returns-clause-ok : goal.returns-clause-ok
returns-clause-ok c =
    let wide : c.self.inside.width ≡ c.args.self.now.width = ap (λ (v : ImageValue). v.width) c.self.view_is in
    let fits : c.args.x + length c.args.row.now ≤ c.self.inside.width = omega (arith, c.requires.0, wide) in
    rw (← c.self.view_is)
    (run_painted c.self.inside.format c.self.inside.width c.self.inside.height c.args.x c.args.y (length c.args.row.now) c.self.inside.rows c.own.new.rows c.lay_row.new.rows _ (λ k. get_or (seen Rgba8888 c.args.row.now) k no_pixel) c.args.mask
    c.own.ensures.same fits c.lay_row.ensures.pixels c.lay_row.ensures.owned (λ k o h. refl))

pub returns-clause-whole : goal.returns-clause-whole
returns-clause-whole c = whole_of c.self.inside.format c.self.inside.width c.self.inside.height c.lay_row.new.rows
    (stored_written c.self.inside.format c.self.inside.width c.self.inside.height c.self.inside.rows c.own.new.rows c.lay_row.new.rows _ _ c.self.invariant c.own.ensures.same c.lay_row.ensures.pixels c.lay_row.ensures.form)
