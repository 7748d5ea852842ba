-- Answers of `calls_of_text` (src/reading.rt): what the prover left open; rt looks here.
use Rattle.std.proofs.Common.{ap, List, ℕ, ◌∙◌}
use Rattle.order_file.specs.File.{calls_after}
use Rattle.order_file.proofs.OverlongLaws.{calls-up_to}
use Rattle.order_file.proofs.reading.calls_of_text.Goals as goal

pub returns-clause-calls : goal.returns-clause-calls
returns-clause-calls c =
    c.new.ensures.calls
    ∙ ap (λ (rows : List (List (List ℕ))). calls_after c.args.members c.args.max_calls c.args.count rows)
    c.in_ok-records.ensures.1
    ∙ calls-up_to _ _ _ _ _ c.up_to_overlong.ensures.alike
