-- What calls come to: the state that an accepted call leaves, or the cause of its refusal.
use Rattle.std.specs.Prelude.{ℕ, cond, List, length, Ok, Err, Result, ◌==◌, Float}
use Rattle.terms.specs.declared.told.Told.{Told}
use Rattle.block.specs.Words.{block_length}

-- the state that a call leaves: as found where it is refused
abbrev pub after : {S E : Type 0} → S → Result S E → S
after s (Ok t) = t
after s (Err e) = s

-- MV and ALM of a state
abbrev pub told_answer : {S : Type 0} → (S → Told) → (S → ℕ) → S → Float × ℕ
told_answer told alarms s = ((told s).mv, alarms s)

-- an outcome, seen through f
abbrev pub seen : {A B E : Type 0} → (A → B) → Result A E → Result B E
seen f (Ok a) = Ok (f a)
seen f (Err e) = Err e

-- what a scan answers: MV and ALM of the state that it leaves, or the refusal
abbrev pub answer : {S E : Type 0} → (S → Told) → (S → ℕ) → Result S E → Result (Float × ℕ) E
answer told alarms o = seen (told_answer told alarms) o

-- one value where the words of a block are 128, and another where they are not
abbrev pub where_whole : {A : Type 0} → List ℕ → A → A → A
where_whole ws a b = cond (length ws == block_length) a b
