-- What is looked for in a journal that is gone on with: the first entry whose recorded reply isn't the lawful one.
use Rattle.std.specs.Prelude.{◌≡◌, ℕ, ◌+◌, List, [], ◌∷◌, length, Option, Some, None, option_map, if◌then◌else◌}
use Rattle.std.specs.Str.{bytes_eq}
use Rattle.auction_terms.specs.Auxiliary.RunningAuction.{RunningAuction}
use Rattle.day_road.specs.Heard.{HeardEntry}
use Rattle.printed_lines.specs.ReplyWords.{reply_text}
use Rattle.live_session.specs.declared.begin_fault.UnlawfulEntry.{UnlawfulEntry}
use Rattle.live_session.specs.declared.looking.FirstUnlawful.{FirstUnlawful}

-- an unlawful entry, with what was recorded as its reply
pub record Found : Type 0 where
  pub entry : UnlawfulEntry
  pub recorded : List ℕ

abbrev pub found_of : ℕ → HeardEntry → Found
found_of number heard =
    record { entry = record { number = number; lawful = heard.reply }; recorded = heard.recording.text }

-- the first of these entries, which come after `before` others
unfoldable pub first_unlawful : ℕ → List HeardEntry → Option Found
first_unlawful before [] = None
first_unlawful before (heard ∷ rest) =
    if bytes_eq heard.recording.text (reply_text heard.reply)
    then first_unlawful (before + 1) rest
    else Some (found_of (before + 1) heard)

abbrev pub found_in : FirstUnlawful → Option Found
found_in first = option_map (λ entry. record { entry = entry; recorded = first.recorded.items }) first.entry

-- these entries were looked at, after which this is the auction
abbrev pub HasLooked : FirstUnlawful → RunningAuction → List HeardEntry → Type 0
HasLooked first auction heard = (found_in first ≡ first_unlawful 0 heard) × (length heard ≡ auction.calls)

-- and the next is the one with this number
abbrev pub IsLooking : FirstUnlawful → RunningAuction → List HeardEntry → Type 0
IsLooking first auction heard = HasLooked first auction heard × (first.number ≡ auction.calls + 1)
