-- Types without the kinds `type` that are written behind them.
use Rattle.lf_elaboration.specs.Written.{WrittenType, family_ascribed, written_star}

-- none, or one after another, is left out: `nat : type : type` is `nat` so
pub data IsUnascribed : WrittenType → WrittenType → Type 0 where
  nothing_ascribed : {U : WrittenType} → IsUnascribed U U
  one_ascribed : {U V : WrittenType} → IsUnascribed U (family_ascribed V written_star) → IsUnascribed U V
