-- The trades of a day that are kept until they are printed.
use Rattle.std.specs.Prelude.{◌≡◌, List, [], map}
use Rattle.auction_terms.specs.declared.Config.{Config}
use Rattle.auction_terms.specs.declared.Entry.{Entry}
use Rattle.auction_terms.specs.Day.{calls_of, replay}
use Rattle.auction_terms.specs.Auxiliary.RunningAuction.{RunningAuction}
use Rattle.day_tables.specs.declared.trades.TradesRecorder.{TradesRecorder}
use Rattle.day_tables.specs.TableMembers.{entering_members}
use Rattle.day_tables.specs.TradeTable.{trade_auctions}

-- each entry has the reply that its call has in a replay
abbrev pub AreReplayed : Config → List Entry → Type 0
AreReplayed config entries = map (λ (entry : Entry). entry.reply) entries ≡ (replay config (calls_of entries)).1

-- What the table needs of these entries, after which this is the auction.
pub record HasTradesSoFar (trades : TradesRecorder) (auction : RunningAuction) (entries : List Entry) : Type 0 where
  pub members : trades.members.items ≡ entering_members entries
  pub auctions : trades.auctions.items ≡ trade_auctions entries
  pub none : trades.tape.items ≡ []
  pub replies : AreReplayed auction.config entries
  pub state : auction.state ≡ (replay auction.config (calls_of entries)).0

-- What the table needs of a day of these entries.
pub record HasAllTrades (trades : TradesRecorder) (config : Config) (entries : List Entry) : Type 0 where
  pub members : trades.members.items ≡ entering_members entries
  pub auctions : trades.auctions.items ≡ trade_auctions entries
  pub tape : trades.tape.items ≡ (replay config (calls_of entries)).0.tape
  pub replies : AreReplayed config entries
