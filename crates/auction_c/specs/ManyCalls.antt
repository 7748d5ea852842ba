-- What many calls of a board's member from C come to, made with the board's lock held all the while.
use Rattle.std.specs.Prelude.{◌≡◌, ◌<◌, ◌⊎◌, ℕ, zero, suc, ◌+◌, List, length, get_or, None, IsSome, IsSomeAnd}
use Rattle.board_terms.specs.BoardViews.{BoardMember}
use Rattle.auction_c.specs.declared.structs.AuctionCommand.{AuctionCommand}
use Rattle.auction_c.specs.declared.structs.AuctionReceipt.{AuctionReceipt}
use Rattle.auction_c.specs.declared.errors.TheConstants.{BEHIND, DONE, FULL, NO_COMMAND, OVERTAKEN}
use Rattle.auction_c.specs.BoardCalls.{FindsFull, IsOutOfStepWithBoard, IsLockError, RecordsCall}
use Rattle.auction_c.specs.Decoding.{command_in}

-- the command in this struct was recorded once, with this receipt
abbrev pub RecordsStruct : ℕ → AuctionCommand → AuctionReceipt → BoardMember → BoardMember → Type 0
RecordsStruct reserve command receipt old new =
    IsSomeAnd (command_in command) (λ c. RecordsCall reserve c receipt old new)

-- the first ones were recorded, one after another
abbrev pub RecordsFirst : ℕ → ℕ → List AuctionCommand → List AuctionReceipt → BoardMember → BoardMember → Type 0
RecordsFirst reserve zero commands receipts old new = new ≡ old
RecordsFirst reserve (suc n) commands receipts old new =
    (mid : BoardMember) × RecordsFirst reserve n commands receipts old mid
    × ((d : AuctionCommand) (b : AuctionReceipt)
    → RecordsStruct reserve (get_or commands n d) (get_or receipts n b) mid new)

-- as many as this were, with no other call between them
pub record RecordsMany (reserve : ℕ) (commands : List AuctionCommand) (receipts : List AuctionReceipt) (applied : ℕ)
    (old new : BoardMember) : Type 0 where
  pub each : RecordsFirst reserve applied commands receipts old new
  pub before : ℕ
  pub numbers : (k : ℕ) (b : AuctionReceipt) → k < applied → (get_or receipts k b).number ≡ before + k + 1

-- why a command wasn't recorded, which was one, and what the member knows then
abbrev pub StopsCall : ℕ → ℕ → BoardMember → BoardMember → Type 0
StopsCall reserve error old new =
    ((error ≡ FULL) × FindsFull reserve old new)
    ⊎ (((error ≡ BEHIND) × (new ≡ old) × IsOutOfStepWithBoard old) ⊎ ((error ≡ OVERTAKEN) × (new ≡ old)))

-- the same of a struct, which may be no command
abbrev pub StopsStruct : ℕ → AuctionCommand → ℕ → BoardMember → BoardMember → Type 0
StopsStruct reserve command error old new =
    ((error ≡ NO_COMMAND) × (new ≡ old) × (command_in command ≡ None))
    ⊎ (IsSome (command_in command) × StopsCall reserve error old new)

-- as many as this were recorded, and the next one wasn't
pub record StopsAfter (reserve : ℕ) (commands : List AuctionCommand) (receipts : List AuctionReceipt)
    (applied error : ℕ) (old new : BoardMember) : Type 0 where
  pub mid : BoardMember
  pub recorded : RecordsMany reserve commands receipts applied old mid
  pub within : applied < length commands
  pub stop : (d : AuctionCommand) → StopsStruct reserve (get_or commands applied d) error mid new

-- all were recorded; or none, as the board wasn't had; or those before the first error
abbrev pub CallsMany : ℕ → List AuctionCommand → List AuctionReceipt → ℕ → ℕ → BoardMember → BoardMember → Type 0
CallsMany reserve commands receipts applied error old new =
    ((error ≡ DONE) × (applied ≡ length commands) × RecordsMany reserve commands receipts applied old new)
    ⊎ ((IsLockError error × (applied ≡ 0) × (new ≡ old)) ⊎ StopsAfter reserve commands receipts applied error old new)

-- the structs from this place on are as they were
abbrev pub IsSameFrom : ℕ → List AuctionReceipt → List AuctionReceipt → Type 0
IsSameFrom applied old new =
    (length new ≡ length old)
    × ((k : ℕ) (b : AuctionReceipt) → (k < applied → ⊥) → get_or new k b ≡ get_or old k b)
