-- A list of replies, each kept as a code: a short reply is said by its code, an entry by those before it, and any other
-- is in a list of others.
use Rattle.std.specs.Prelude.{◌≡◌, ℕ, ◌+◌, ◌%◌, ◌^◌, List, [], ◌∷◌, get_or, length, nat_eq, if◌then◌else◌}
use Rattle.std.specs.Prelude.{true, false}
use Rattle.auction_terms.specs.declared.Refusal.TheVariants as refused
use Rattle.auction_terms.specs.declared.Reply.{Reply}
use Rattle.auction_terms.specs.declared.Reply.TheVariants as reply
use Rattle.printed_lines.specs.declared.reply_list.TheConstants.{ENTERED, OTHER, AGAIN}

-- the replies of the lowest codes
abbrev pub lowest_replies : List Reply
lowest_replies =
    reply.Deleted ∷ reply.Refused refused.BadQuantity ∷ reply.Refused refused.BadLimit ∷ reply.Refused refused.BadPeak
    ∷ reply.Refused refused.BookFull ∷ reply.Refused refused.UnknownOrder ∷ reply.Refused refused.NotOperator
    ∷ reply.Refused refused.DayOver ∷ reply.Refused refused.NoSuchTrade ∷ reply.Refused refused.PastAuction
    ∷ reply.Changed true ∷ reply.Changed false ∷ []

-- the reply that a code says by itself
unfoldable pub brief_reply : ℕ → Reply
brief_reply code = get_or lowest_replies code reply.Deleted

-- the id of the entry after the one with this id
abbrev pub next_id : ℕ → ℕ
next_id entered = (entered + 1) % 2 ^ 32

-- the id of the last entry, once this code was read
abbrev pub entered_after : ℕ → ℕ → ℕ
entered_after entered code = if nat_eq code ENTERED then next_id entered else entered

-- how many of the others were read then
abbrev pub shown_after : ℕ → ℕ → ℕ
shown_after shown code = if nat_eq code OTHER then shown + 1 else shown

-- the reply of a code, where the last entry and `shown` others were read: one entry more, the next of the others, the
-- last one again, or a brief reply
unfoldable pub reply_of_code : List Reply → ℕ → ℕ → ℕ → Reply
reply_of_code others entered shown code =
    if nat_eq code ENTERED then reply.Entered (next_id entered)
    else if nat_eq code OTHER then get_or others shown reply.Deleted
    else if nat_eq code AGAIN then get_or (reply.Deleted ∷ others) shown reply.Deleted
    else brief_reply code

-- the replies of codes
abbrev pub replies_of_codes : List Reply → ℕ → ℕ → List ℕ → List Reply
replies_of_codes others entered shown [] = []
replies_of_codes others entered shown (code ∷ codes) =
    reply_of_code others entered shown code
    ∷ replies_of_codes others (entered_after entered code) (shown_after shown code) codes

-- what was read once all of these codes were
abbrev pub entered_by : ℕ → List ℕ → ℕ
entered_by entered [] = entered
entered_by entered (code ∷ codes) = entered_by (entered_after entered code) codes

abbrev pub shown_by : ℕ → List ℕ → ℕ
shown_by shown [] = shown
shown_by shown (code ∷ codes) = shown_by (shown_after shown code) codes

-- all of the others are read then, and the id is that of the last entry
pub record IsKept (codes : List ℕ) (entered : ℕ) (others : List Reply) : Type 0 where
  pub entered_is : entered_by 0 codes ≡ entered
  pub shown_is : shown_by 0 codes ≡ length others

-- a code that says a reply after the entry with this id, whatever the others are
pub record IsCoded (entered code : ℕ) (said : Reply) : Type 0 where
  pub says : (others : List Reply) (shown : ℕ) → reply_of_code others entered shown code ≡ said
  pub alone : (shown : ℕ) → shown_after shown code ≡ shown
