-- What the contracts rest on: the parts of a unit without places, and the texts of units and of parts of a switch.
pub mod BarePart
pub mod SwitchPartText
