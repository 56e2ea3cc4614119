-- The factor and the offset of a signal as whole numbers of its unit.
use Rattle.std.specs.Prelude.{◌≡◌}
use Rattle.limit_fraction.specs.declared.scaling.UnitScale.{UnitScale}
use Rattle.limit_fraction.specs.Number.{Number, in_unit, units}
use Rattle.limit_fraction.specs.Unit.{unit_of}

-- the number of the factor
abbrev pub factor_of : UnitScale → Number
factor_of scale = units scale.exponent scale.factor

-- the number of the offset
abbrev pub offset_of : UnitScale → Number
offset_of scale = units scale.exponent scale.offset

-- factor and offset in their unit
pub record IsScaled (factor offset : Number) (scale : UnitScale) : Type 0 where
  pub unit : scale.exponent ≡ unit_of factor offset
  pub factor_is : scale.factor ≡ in_unit (unit_of factor offset) factor
  pub offset_is : scale.offset ≡ in_unit (unit_of factor offset) offset
