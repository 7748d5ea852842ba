-- Invariants of the loops of `lend` (src/main.rt); rt looks here.
use Rattle.std.proofs.Common.{◌≡◌, map, string_bytes, take}
use Rattle.clap.specs.Walk.{texts}
use Rattle.callboard.proofs.lend.Given as goal

-- the arguments so far were lent
abbrev pub invariant-loop-word : goal.invariant-loop-word
invariant-loop-word l = texts l.lent.items ≡ map string_bytes (take l.word-index l.arguments)
