-- The entries of a journal, applied again.
use Rattle.std.specs.Prelude.{ℕ, ◌+◌, List, [], ◌∷◌, if◌then◌else◌, unwrap_or, Result, Ok, Err}
use Rattle.std.specs.Str.{bytes_eq}
use Rattle.csv.specs.Records.{field_at}
use Rattle.auction_terms.specs.declared.Call.{Call}
use Rattle.auction_terms.specs.Auxiliary.RunningAuction.{RunningAuction, auction_after_call}
use Rattle.auction_terms.specs.Day.{step}
use Rattle.auction_terms.specs.Results.{◌>>=◌}
use Rattle.printed_lines.specs.ReplyWords.{reply_text}
use Rattle.live_session.specs.declared.begin_fault.UnlawfulEntry.{UnlawfulEntry}

-- after one more call, if what was recorded is the text of its reply
abbrev pub replayed_one : RunningAuction → Call → List ℕ → ℕ → Result RunningAuction UnlawfulEntry
replayed_one auction call text number =
    if bytes_eq text (reply_text (step auction.config auction.state call).1)
    then Ok (auction_after_call auction call)
    else Err (record { number = number; lawful = (step auction.config auction.state call).1 })

-- After these calls, which come after `before` others and to which these texts were recorded; or the first entry whose
-- text isn't that of the lawful reply.
unfoldable pub replayed : ℕ → List (List ℕ) → RunningAuction → List Call → Result RunningAuction UnlawfulEntry
replayed before texts auction [] = Ok auction
replayed before texts auction (call ∷ calls) =
    replayed_one auction call (unwrap_or (field_at texts before) []) (before + 1)
    >>= λ next. replayed (before + 1) texts next calls
