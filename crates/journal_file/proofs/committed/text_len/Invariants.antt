-- Invariants of the loop of `text_len` (src/committed.rt); rt looks here.
use Rattle.std.proofs.Common.{◌≡◌, ◌≢◌, ℕ, ◌+◌, ◌<◌, ◌≤◌}
use Rattle.std.specs.Prelude.{slice_index}
use Rattle.journal_file.proofs.committed.text_len.Given as goal

abbrev pub invariant-loop-place : goal.invariant-loop-place
invariant-loop-place l =
    (l.count ≤ l.place)
    × ((k : ℕ) → l.count ≤ k → k < l.place → slice_index l.bytes k ≡ 0)
    × ((k : ℕ) → l.count ≡ k + 1 → slice_index l.bytes k ≢ 0)
