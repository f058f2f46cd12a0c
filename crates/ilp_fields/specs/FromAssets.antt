-- A fault of a table of assets, as one of a configuration.
use Rattle.ilp_assets.specs.declared.fault.AssetFault.{AssetFault}
use Rattle.ilp_assets.specs.declared.fault.AssetFault.TheVariants as asset
use Rattle.ilp_fields.specs.declared.fault.ConfigFault.{ConfigFault}
use Rattle.ilp_fields.specs.declared.fault.ConfigFault.TheVariants.{Memory, DoubleAsset, NoSuchAsset, ZeroPrice, DoublePrice, ScaleGap}

abbrev pub from_assets : AssetFault → ConfigFault
from_assets asset.DoubleAsset = DoubleAsset
from_assets asset.NoSuchAsset = NoSuchAsset
from_assets asset.ZeroPrice = ZeroPrice
from_assets asset.DoublePrice = DoublePrice
from_assets asset.ScaleGap = ScaleGap
from_assets asset.Memory = Memory
