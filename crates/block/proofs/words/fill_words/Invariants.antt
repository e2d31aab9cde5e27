use Rattle.std.proofs.Common.{◌≡◌, drop}
use Rattle.block.specs.Words.{fill}
use Rattle.block.proofs.words.fill_words.Given as goal

-- what is left of the table makes of the words what the whole table makes of them as they were
abbrev pub invariant-loop-offset : goal.invariant-loop-offset
invariant-loop-offset l = fill (drop l.offset-index l.table) l.words ≡ fill l.table l.initial.words
