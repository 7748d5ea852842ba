-- Invariants of the loop of `is_torn_of` (src/committed.rt); rt looks here.
use Rattle.std.proofs.Common.{◌≡◌, ◌⊎◌, ℕ, ◌<◌}
use Rattle.std.specs.Prelude.{slice_index}
use Rattle.journal_file.proofs.committed.is_torn_of.Given as goal

abbrev pub invariant-loop-place : goal.invariant-loop-place
invariant-loop-place l =
    (k : ℕ) → k < l.place → (slice_index l.bytes k ≡ 0) ⊎ (slice_index l.bytes k ≡ slice_index l.text k)
