-- In which format what windows show is kept.
use Rattle.std.specs.Prelude.{ℕ, ℤ, List, unwrap_or}
use Rattle.std.specs.Map.{lookup}
use Rattle.std.specs.Ordering.{int_eq}
use Rattle.indexmap.specs.IndexMap.{insert_entry}
use Rattle.egl_calls.specs.declared.kinds.Kind.{Kind}
use Rattle.egl_calls.specs.declared.kinds.Kind.TheVariants.{Egl}
use Rattle.egl_calls.specs.declared.kinds.EglKind.TheVariants.{CreateWindowSurface}
use Rattle.pixel_formats.specs.declared.formats.Format.{Format}
use Rattle.pixel_formats.specs.declared.formats.Format.TheVariants.{Rgba8888}
use Rattle.pixel_rows.specs.Images.{ImageValue}
use Rattle.pixel_rows.specs.Transfers.{row_bytes}
use Rattle.surface_store.specs.Formats.{format_of}
use Rattle.egl_model.specs.Windows.{whole}

-- formats by windows
abbrev pub Formats : Type 0
Formats = List (ℤ × Format)

-- a window without a surface keeps all bits
abbrev pub shown_format : ℤ → Formats → Format
shown_format id formats = unwrap_or (lookup (int_eq id) formats) Rgba8888

-- a window's newest surface is stored in the format of its config
abbrev pub with_format : Kind → ℤ → ℤ → Formats → Formats
with_format (Egl CreateWindowSurface) window config formats = insert_entry int_eq formats window (format_of config)
with_format kind window config formats = formats

-- the bytes that a window shows, four a pixel
abbrev pub front_bytes : ImageValue → List ℕ
front_bytes i = row_bytes i (whole i.width i.height) Rgba8888 1
