-- The meaning of a loop, over what it tells: t before a call, u after it. Reals are compared as IEEE 754 compares them, so −0 and +0 are one.
use Rattle.std.specs.Prelude.{◌≡◌, Bool, true, false, cond, ◌||◌, T, ◌⊎◌, Some, None, Option, Float}
use Rattle.std.specs.Float.{binary32}
use Rattle.std.specs.Float.Ieee.{fits, le}
use Rattle.terms.specs.declared.mode.Mode.{Mode}
use Rattle.terms.specs.declared.mode.Mode.TheVariants.{Man}
use Rattle.terms.specs.declared.told.Told.{Told}
use Rattle.terms.specs.declared.entry.Limits.{Limits}
use Rattle.terms.specs.declared.entry.Entry.{Entry}
use Rattle.terms.specs.declared.entry.Entry.TheVariants as entry
use Rattle.terms.specs.Modes.{manual, in_cascade}
use Rattle.reals.specs.Numbers.{zero, hundred, bottom, top}
use Rattle.reals.specs.Reals.{brought, Within, Same, less, more}

-- a loop that a scan finds stopped or in MAN holds, and any other drives
abbrev pub holds : Told → Bool
holds t = t.stopped || manual t.mode

-- ---- ranges: MV, ML and MH lie in −10..110, ML is at most MH, S and DML lie in 0..100; binary32 holds every real
pub record Ranges (t : Told) : Type 0 where
  pub mv : Within t.mv bottom top
  pub ml : Within t.ml bottom top
  pub mh : Within t.mh bottom top
  pub ordered : T (le t.ml t.mh)
  pub dml : Within t.dml zero hundred
  pub s : Within t.s zero hundred
  pub mv_real : T (fits binary32 t.mv)
  pub ml_real : T (fits binary32 t.ml)
  pub mh_real : T (fits binary32 t.mh)
  pub dml_real : T (fits binary32 t.dml)
  pub e2_real : T (fits binary32 t.e2)
  pub s_real : T (fits binary32 t.s)

pub record SameLimits (t u : Told) : Type 0 where
  pub ml : Same u.ml t.ml
  pub mh : Same u.mh t.mh
  pub dml : Same u.dml t.dml

-- ---- a kind whose S is its MV brought into 0..100 is one that echoes; the first argument says whether the kind does

abbrev pub Echoes : Bool → Told → Type 0
Echoes true t = Same t.s (brought t.mv zero hundred)
Echoes false t = Unit {0}

-- S stays, unless it goes with MV
abbrev pub PercentStays : Bool → Told → Told → Type 0
PercentStays true t u = Unit {0}
PercentStays false t u = Same u.s t.s

-- E2 stays; where S goes with MV, E2 goes with S out of cascade: it is S then, or neither of the two moved
abbrev pub AimStays : Bool → Bool → Told → Told → Type 0
AimStays true false t u = Same u.e2 u.s ⊎ (Same u.s t.s × Same u.e2 t.e2)
AimStays true true t u = Same u.e2 t.e2
AimStays false cascade t u = Same u.e2 t.e2

-- ---- a follow: MV becomes p, TRKF is set, all else told stays
pub record Followed (echo : Bool) (p : Float) (t u : Told) : Type 0 where
  pub mv : Same u.mv p
  pub tracking : u.tracking ≡ true
  pub mode : u.mode ≡ t.mode
  pub stopped : u.stopped ≡ t.stopped
  pub limits : SameLimits t u
  pub s : PercentStays echo t u
  pub e2 : AimStays echo (in_cascade t.mode) t u

-- ---- an accepted scan

-- by whether the loop holds, and whether TRKF was set before:
-- a holding loop keeps MV and sets TRKF; driving with TRKF set, MV is brought into ML..MH and TRKF is cleared;
-- driving without it, MV comes to lie in ML..MH and, where the old MV lay there, from the old MV − DML to the old MV + DML, both rounded
abbrev pub Moved : Bool → Bool → Told → Told → Type 0
Moved true tracking t u = Same u.mv t.mv × (u.tracking ≡ true)
Moved false true t u = Same u.mv (brought t.mv t.ml t.mh) × (u.tracking ≡ false)
Moved false false t u = Within u.mv t.ml t.mh × (Within t.mv t.ml t.mh → Within u.mv (less t.mv t.dml) (more t.mv t.dml))

-- E2 after it: the remote value in cascade with one, and S otherwise
abbrev pub Aimed : Bool → Option Float → Told → Type 0
Aimed true (Some r) u = Same u.e2 r
Aimed true None u = Same u.e2 u.s
Aimed false r u = Same u.e2 u.s

-- S moves only in cascade or with MV; of mode, SPA and limits only the mode changes, to MAN where the loop is stopped
pub record Scanned (echo : Bool) (r : Option Float) (t u : Told) : Type 0 where
  pub moved : Moved (holds t) t.tracking t u
  pub e2 : Aimed (in_cascade u.mode) r u
  pub s : in_cascade u.mode ≡ false → PercentStays echo t u
  pub mode : u.mode ≡ cond t.stopped Man t.mode
  pub stopped : u.stopped ≡ t.stopped
  pub limits : SameLimits t u

-- ---- an accepted entry: it sets what it names and changes nothing else that is told

-- what no entry but an output changes
pub record OutputKept (t u : Told) : Type 0 where
  pub mv : Same u.mv t.mv
  pub e2 : Same u.e2 t.e2
  pub tracking : u.tracking ≡ t.tracking

pub record ModeEntered (m : Mode) (t u : Told) : Type 0 where
  pub output : OutputKept t u
  pub mode : u.mode ≡ m
  pub stopped : u.stopped ≡ t.stopped
  pub limits : SameLimits t u
  pub s : Same u.s t.s

-- a setpoint moves S, and E2 waits for the next scan
pub record SetpointEntered (t u : Told) : Type 0 where
  pub output : OutputKept t u
  pub mode : u.mode ≡ t.mode
  pub stopped : u.stopped ≡ t.stopped
  pub limits : SameLimits t u

pub record LimitsEntered (limits : Limits) (t u : Told) : Type 0 where
  pub output : OutputKept t u
  pub mode : u.mode ≡ t.mode
  pub stopped : u.stopped ≡ t.stopped
  pub mh_set : Same u.mh limits.mh
  pub ml_set : Same u.ml limits.ml
  pub dml_set : Same u.dml limits.dml
  pub s : Same u.s t.s

-- stop sets SPA, and run clears it
pub record StopEntered (stop : Bool) (t u : Told) : Type 0 where
  pub output : OutputKept t u
  pub mode : u.mode ≡ t.mode
  pub stopped : u.stopped ≡ stop
  pub limits : SameLimits t u
  pub s : Same u.s t.s

-- an output does what a follow does
abbrev pub Entered : Bool → Entry → Told → Told → Type 0
Entered echo (entry.Mode m) t u = ModeEntered m t u
Entered echo (entry.Setpoint v) t u = SetpointEntered t u
Entered echo (entry.Output v) t u = Followed echo v t u
Entered echo (entry.Limits limits) t u = LimitsEntered limits t u
Entered echo entry.Stop t u = StopEntered true t u
Entered echo entry.Run t u = StopEntered false t u
