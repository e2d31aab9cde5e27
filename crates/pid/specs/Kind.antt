-- The PID loop as a kind of loop: which states are a loop's, and what each call comes to.
use Rattle.std.specs.Prelude.{ℕ, Bool, ◌&&◌, List, Option, Result, Float}
use Rattle.terms.specs.declared.entry.Entry.{Entry}
use Rattle.terms.specs.declared.refusal.Cause.{Cause}
use Rattle.block.specs.declared.start.Start.{Start}
use Rattle.block.specs.declared.start.Start.TheVariants.{Cold, Warm}
use Rattle.loops.specs.Outcomes.{seen}
use Rattle.pid_fields.specs.declared.fields.Settings.{Settings}
use Rattle.pid_fields.specs.declared.fields.Fields.{Fields}
use Rattle.pid_fields.specs.Checks.{good, good_e2}
use Rattle.pid_fields.specs.Reading.{checked_of}
use Rattle.pid_steps.specs.declared.scanning.State.{State}
use Rattle.pid_steps.specs.Scanning.{scan_of, follow_of}
use Rattle.pid_steps.specs.Entering.{entry_of}
use Rattle.pid.specs.Starting.{aimed, cold_fields}

-- the fields pass every check, and E2 lies in −10..110
unfoldable pub good_state : State → Bool
good_state s = good s.fields && good_e2 s.e2

-- reading: the fields that the words hold
abbrev pub checked_state : List ℕ → Settings → Result State Cause
checked_state ws st = seen aimed (checked_of ws st)

-- a warm start keeps every field
abbrev pub started_state : Start → State → State
started_state Cold s = aimed (cold_fields s.fields)
started_state Warm s = aimed s.fields

-- other fields, and the E2 of before
abbrev pub with_fields : State → Fields → State
with_fields s f = record { fields = f; e2 = s.e2 }

abbrev pub scanned_state : State → Float → Option Float → Result State Cause
scanned_state s m r = scan_of s.fields m r

-- a follow and an entry leave E2 alone
abbrev pub followed_state : State → Float → Result State Cause
followed_state s p = seen (with_fields s) (follow_of s.fields p)

abbrev pub entered_state : State → Entry → Result State Cause
entered_state s e = seen (with_fields s) (entry_of s.fields e)
