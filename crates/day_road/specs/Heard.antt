-- What is heard of a day: each call, the text that was recorded as its reply, and the lawful reply.
use Rattle.std.specs.Prelude.{◌≡◌, ℕ, ◌+◌, List, [], ◌∷◌, ◌++◌, length, map, Result, Ok, Err}
use Rattle.auction_terms.specs.declared.Call.{Call}
use Rattle.auction_terms.specs.declared.Config.{Config}
use Rattle.auction_terms.specs.declared.Reply.{Reply}
use Rattle.auction_terms.specs.Day.{State, state_after, step}
use Rattle.auction_terms.specs.Auxiliary.RunningAuction.{RunningAuction}
use Rattle.journal.specs.EntryRecord.{RecordedCall, call_part}
use Rattle.order_file.specs.File.{FailsAsWanted}
use Rattle.order_file.specs.declared.fault.FileFault.{FileFault}

-- a call with the text of its reply that was recorded, and the lawful reply
pub record HeardEntry : Type 0 where
  pub recording : RecordedCall
  pub reply : Reply

abbrev pub heard_of : RecordedCall → Reply → HeardEntry
heard_of recording reply = record { recording = recording; reply = reply }

abbrev pub reply_heard : HeardEntry → Reply
reply_heard heard = heard.reply

abbrev pub recording_of : Call → List ℕ → RecordedCall
recording_of call text = record { call = call; text = text }

-- the auction's next call, with the reply that it has
abbrev pub heard_in : RunningAuction → RecordedCall → HeardEntry
heard_in auction recording = heard_of recording (step auction.config auction.state recording.call).1

-- calls from a state on, each with its reply
abbrev pub heard_from : Config → State → List RecordedCall → List HeardEntry
heard_from config state [] = []
heard_from config state (recording ∷ rest) =
    heard_of recording (step config state recording.call).1
    ∷ heard_from config (step config state recording.call).0 rest

-- an auction after these calls
abbrev pub after_all : RunningAuction → List RecordedCall → RunningAuction
after_all auction recordings = record {
  config = auction.config;
  state = state_after auction.config auction.state (map call_part recordings);
  calls = auction.calls + length recordings;
}

-- The calls that were to come came to the auction and were heard after those before them; or there was the fault that
-- was to come.
abbrev pub HearsAll : (List HeardEntry → Type 0) → List HeardEntry → RunningAuction → RunningAuction
    → Result (List RecordedCall) FileFault → Result (Unit {0}) FileFault → Type 0
HearsAll Hears before old new coming (Ok u) = (recordings : List RecordedCall) × (coming ≡ Ok recordings)
    × (new ≡ after_all old recordings) × Hears (before ++ heard_from old.config old.state recordings)
HearsAll Hears before old new coming (Err f) = FailsAsWanted f coming
