-- The text of a view.
use Rattle.std.specs.Prelude.{ℕ, ◌-◌, List, ◌++◌, Option, Some, None, codes, decimal, drop, map}
use Rattle.auction_terms.specs.declared.AuctionKind.{AuctionKind}
use Rattle.auction_terms.specs.declared.Reply.TheVariants as reply
use Rattle.auction_terms.specs.Day.{State, display}
use Rattle.auction_terms.specs.Priority.{orders_in_priority}
use Rattle.auction_terms.specs.Auxiliary.RunningAuction.{RunningAuction}
use Rattle.auction.specs.AuctionState.{current_orders}
use Rattle.printed_lines.specs.ReplyWords.{kind_word, reply_text}
use Rattle.auction_views.specs.LadderRows.{ladder_rows}
use Rattle.auction_views.specs.TableLines.{ladder_line, order_line, table_text, trade_lines}
use Rattle.auction_views.specs.declared.view.View.{View}
use Rattle.auction_views.specs.declared.view.View.TheVariants as view

-- what is shown, as it is answered to an indication
unfoldable pub display_line : State → List ℕ
display_line state = codes "show " ++ (reply_text (reply.Indicated (display state)) ++ codes "\n")

abbrev pub auction_word : Option AuctionKind → List ℕ
auction_word (Some kind) = kind_word kind
auction_word None = codes "over"

-- how many calls were made, and how many are left
abbrev pub calls_words : RunningAuction → List ℕ
calls_words auction =
    codes " calls " ++ (decimal auction.calls
    ++ (codes " left " ++ decimal (auction.config.max_calls - auction.calls)))

-- the current auction, the reference price and the calls
unfoldable pub day_view_line : RunningAuction → List ℕ
day_view_line auction =
    codes "show day " ++ (auction_word auction.state.auction
    ++ (codes " reference " ++ (decimal auction.state.reference ++ (calls_words auction ++ codes "\n"))))

unfoldable pub view_text : RunningAuction → View → List ℕ
view_text auction view.Display = display_line auction.state
view_text auction view.Day = day_view_line auction
view_text auction view.Ladder =
    table_text (codes "ladder") (map ladder_line (ladder_rows auction.config (current_orders auction.state)))
view_text auction (view.Trades before) =
    table_text (codes "trades") (trade_lines before (drop before auction.state.tape))
view_text auction (view.Orders member) =
    table_text (codes "orders") (map order_line (orders_in_priority member auction.state))
