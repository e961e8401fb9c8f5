-- The ranges of the amounts in papers, in whole units.
use Rattle.std.specs.Prelude.{ℤ, pos, negsuc}
use Rattle.measure.specs.Range.{Within}
use Rattle.word.specs.declared.slot.Slot.{Slot}
use Rattle.word.specs.declared.slot.Slot.TheVariants.{Amount}

-- a power, in watts
abbrev pub Power : ℤ → Type 0
Power z = Within 100000000 z

abbrev pub power_slot : Slot
power_slot = Amount (negsuc 99999999) (pos 100000000)

-- an angle, in microradians
abbrev pub Angle : ℤ → Type 0
Angle z = Within 3200000 z

abbrev pub angle_slot : Slot
angle_slot = Amount (negsuc 3199999) (pos 3200000)

-- a price, in grains per watt-hour
abbrev pub Priced : ℤ → Type 0
Priced z = Within 1000000 z

abbrev pub price_slot : Slot
price_slot = Amount (negsuc 999999) (pos 1000000)

-- an angle price, in grains per hour per microradian
abbrev pub AnglePriced : ℤ → Type 0
AnglePriced z = Within 100000000 z

abbrev pub angle_price_slot : Slot
angle_price_slot = Amount (negsuc 99999999) (pos 100000000)

-- a service mark
abbrev pub mark_slot : Slot
mark_slot = Amount (pos 0) (pos 1)

-- an attendant's number
abbrev pub attendant_slot : Slot
attendant_slot = Amount (pos 0) (pos 65535)
