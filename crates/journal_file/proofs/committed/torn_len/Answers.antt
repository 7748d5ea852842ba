-- Answers of `torn_len` (src/committed.rt): what the prover left open; rt looks here.
use Rattle.std.proofs.Common.{◌≡◌, ◌≤◌, ◌+◌, ◌-◌, inl, inr, List, ℕ, subst, ap, drop, ◌∙◌, arith}
use Rattle.journal_file.specs.Committed.{behind_lines, HasTornEnd, IsTextLen}
use Rattle.journal_file.specs.declared.committed.TheConstants.{LONGEST_WRITE}
use Rattle.journal_file.proofs.Crash.{below_or_not, text_fits}
use Rattle.journal_file.proofs.committed.torn_len.Goals as goal

pub split_at-requires : goal.split_at-requires
split_at-requires c = omega (arith, c.requires, text_fits c.args.bytes.now)

pub returns-clause-len : goal.returns-clause-len
returns-clause-len c =
    let bytes = c.args.bytes.now in
    let behind = c.split_at.ensures.back ∙ ap (λ (n : ℕ). drop n bytes) c.requires in
    subst (λ (l : List ℕ). IsTextLen l c.text_len.result) behind c.text_len.ensures

few : (file : List ℕ) (n : ℕ) → IsTextLen (behind_lines file) n → HasTornEnd file → n ≤ LONGEST_WRITE
few file n is torn = elim (below_or_not LONGEST_WRITE n) [
  | inl far ↦
      let last : n ≡ n - 1 + 1 = omega (arith, far) in
      absurd (is.some (n - 1) last (torn (n - 1) (omega (arith, far))))
  | inr le ↦ le
]

pub returns-clause-torn : goal.returns-clause-torn
returns-clause-torn c =
    let is = returns-clause-len c in
    ((λ le k far. is.room k (omega (arith, le, far))), few c.args.bytes.now c.text_len.result is)
