-- Steps 1 and 2 of a scan: the mode, and the setpoint.
use Rattle.std.specs.Prelude.{cond, Some, None, Option, Float}
use Rattle.std.specs.Float.{binary32}
use Rattle.std.specs.Float.Ieee.{add, sub, mul, div}
use Rattle.terms.specs.declared.mode.Mode.{Mode}
use Rattle.terms.specs.declared.mode.Mode.TheVariants.{Man, Aut, Cas}
use Rattle.reals.specs.Numbers.{zero, hundred}
use Rattle.reals.specs.Reals.{brought}
use Rattle.block.specs.Bits.{stopped}
use Rattle.pid_fields.specs.declared.fields.Bounds.{Bounds}
use Rattle.pid_fields.specs.declared.fields.Fields.{Fields}
use Rattle.pid_steps.specs.declared.setpoint.Aim.{Aim}

-- S, the setpoint in percent: S = (100 ÷ (RH − RL)) × (SV − RL), brought into 0..100
abbrev pub percent_at : Float → Bounds → Float
percent_at sv b = brought (mul binary32 (div binary32 hundred (sub binary32 b.rh b.rl)) (sub binary32 sv b.rl)) zero hundred

-- the S of a loop
abbrev pub percent_of : Fields → Float
percent_of f = percent_at f.sv f.bounds

-- the setpoint that a remote value r stands for: SV = ((RH − RL) ÷ 100) × r + RL, brought into RL..RH
abbrev pub remote_sv : Float → Bounds → Float
remote_sv r b = brought (add binary32 (mul binary32 (div binary32 (sub binary32 b.rh b.rl) hundred) r) b.rl) b.rl b.rh

-- step 1: a stopped loop goes to MAN
abbrev pub mode_of : Fields → Mode
mode_of f = cond (stopped f.alm) Man f.mode

-- step 2: in cascade with a remote value r, SV comes from r, and E2 is r
abbrev pub remote_aim : Float → Bounds → Aim
remote_aim r b = record { sv = remote_sv r b; s = percent_at (remote_sv r b) b; e2 = r }

-- otherwise SV stays, and E2 is S
abbrev pub own_aim : Float → Bounds → Aim
own_aim sv b = record { sv = sv; s = percent_at sv b; e2 = percent_at sv b }

abbrev pub aim_of : Mode → Float → Bounds → Option Float → Aim
aim_of Man sv b r = own_aim sv b
aim_of Aut sv b r = own_aim sv b
aim_of Cas sv b None = own_aim sv b
aim_of Cas sv b (Some r) = remote_aim r b
