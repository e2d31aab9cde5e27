-- The numbers that the ranges of a loop go by.
use Rattle.std.specs.Prelude.{from_bits, Float}
use Rattle.std.specs.Float.{binary32}

-- 0, 1, 2 and 100
abbrev pub zero : Float
zero = from_bits binary32 0

abbrev pub one : Float
one = from_bits binary32 0x3f80_0000

abbrev pub two : Float
two = from_bits binary32 0x4000_0000

abbrev pub hundred : Float
hundred = from_bits binary32 0x42c8_0000

-- −10 and 110, the ends of an output
abbrev pub bottom : Float
bottom = from_bits binary32 0xc120_0000

abbrev pub top : Float
top = from_bits binary32 0x42dc_0000

-- −999999 and 999999
abbrev pub least : Float
least = from_bits binary32 0xc974_23f0

abbrev pub most : Float
most = from_bits binary32 0x4974_23f0

-- 1/1024, the narrowest span of a measuring range
abbrev pub narrowest : Float
narrowest = from_bits binary32 0x3a80_0000

-- 32767, the most scans of a control period
abbrev pub longest : Float
longest = from_bits binary32 0x46ff_fe00
