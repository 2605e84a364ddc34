-- A log as a value.
use Rattle.std.specs.Prelude.{ℕ, List, Option}
use Rattle.surface_store.specs.declared.windows.WindowSpec.{WindowSpec}
use Rattle.log_reader.specs.declared.configs.LogConfig.{LogConfig}
use Rattle.log_reader.specs.declared.items.Item.{Item}
use Rattle.log_reader.specs.declared.items.Cut.{Cut}

-- the calls that were answered and the fronts, in the order of their lines; and the call that was under way at the end
pub record LogValue : Type 0 where
  pub threads : ℕ
  pub video : ℕ
  pub windows : List WindowSpec
  pub configs : List LogConfig
  pub items : List Item
  pub cut : Option Cut
