-- Bits of the words ALM and INH. A mask has the bits that it names: 4000 hexadecimal is bit 14.
use Rattle.std.specs.Prelude.{ℕ, Bool, cond, not, ◌&&◌, ◌==◌, bit_and, bit_or}
use Rattle.block.specs.declared.bits.Alarms.{Alarms}

-- SPA, bit 14 of ALM: found, set, cleared
abbrev pub stopped : ℕ → Bool
stopped alm = not (bit_and alm 0x4000 == 0)

abbrev pub with_spa : ℕ → ℕ
with_spa alm = bit_or alm 0x4000

abbrev pub without_spa : ℕ → ℕ
without_spa alm = bit_and alm 0xbfff

-- TRKF, bit 13 of INH: found, set, cleared
abbrev pub tracking : ℕ → Bool
tracking inh = not (bit_and inh 0x2000 == 0)

abbrev pub with_trkf : ℕ → ℕ
with_trkf inh = bit_or inh 0x2000

abbrev pub without_trkf : ℕ → ℕ
without_trkf inh = bit_and inh 0xdfff

-- an alarm's bit: set where the alarm is found and neither that bit of INH nor ERRI, bit 15, inhibits it
abbrev pub alarm_bit : Bool → ℕ → ℕ → ℕ
alarm_bit found inh bit = cond (found && bit_and inh (bit_or 0x8000 bit) == 0) bit 0

-- every bit of ALM but 11, 1 and 0
abbrev pub alarms_off : ℕ → ℕ
alarms_off alm = bit_and alm 0xf7fc

-- DMLA, MHA and MLA, bits 11, 1 and 0 of ALM, made anew; every other bit as found
abbrev pub alarms_made : ℕ → ℕ → Alarms → ℕ
alarms_made alm inh a = bit_or (bit_or (bit_or (alarms_off alm) (alarm_bit a.dmla inh 0x0800)) (alarm_bit a.mha inh 0x0002)) (alarm_bit a.mla inh 0x0001)
