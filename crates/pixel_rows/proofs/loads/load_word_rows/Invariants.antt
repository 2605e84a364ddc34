use Rattle.std.proofs.Common.{◌-◌, ◌/◌, ◌%◌}
use Rattle.pixel_formats.specs.Pixels.{quantize}
use Rattle.pixel_rows.specs.Blocks.{in_block, Rewritten}
use Rattle.pixel_rows.specs.Cells.{seen}
use Rattle.pixel_rows.specs.Images.{no_pixel}
use Rattle.pixel_rows.specs.Payloads.{payload_pixel}
use Rattle.pixel_rows.proofs.loads.load_word_rows.Given as goal

abbrev pub invariant-rows : goal.invariant-rows
invariant-rows l =
    Rewritten no_pixel (in_block l.width (record l.block { top = l.y }))
    (λ k _. quantize l.f (payload_pixel l.bytes l.from l.long (k % l.width - l.block.left) (k / l.width - l.block.bottom))) (seen l.f l.fn.cells) (seen l.f l.cells)
