-- What a step reports of the next id and of the tape.
use Rattle.std.proofs.Common.{◌≡◌, ℕ, ◌+◌, ◌==◌, nat_le, not, ok_or, if◌then◌else◌, Bool, true, false, [], length}
use Rattle.std.proofs.Common.{replicate, Option, Some, None, MatchOption, Result, Ok, Err, IfOk, refl, sym, ap, ◌∙◌}
use Rattle.std.proofs.Common.{length-append, arith}
use Rattle.std.proofs.lemmas.Grind.{common_steps}
use Rattle.auction_terms.specs.declared.Call.{Call}
use Rattle.auction_terms.specs.declared.Command.{Command}
use Rattle.auction_terms.specs.declared.Command.TheVariants as command
use Rattle.auction_terms.specs.declared.Config.{Config}
use Rattle.auction_terms.specs.declared.AuctionKind.{AuctionKind}
use Rattle.auction_terms.specs.declared.NewOrder.{NewOrder}
use Rattle.auction_terms.specs.declared.Limit.{Limit}
use Rattle.auction_terms.specs.declared.Price.{Price}
use Rattle.auction_terms.specs.declared.Refusal.{Refusal}
use Rattle.auction_terms.specs.declared.Refusal.TheVariants as refused
use Rattle.auction_terms.specs.declared.Reply.{Reply}
use Rattle.auction_terms.specs.declared.Reply.TheVariants as reply
use Rattle.auction_terms.specs.Results.{◌>>=◌}
use Rattle.auction_terms.specs.Book.{auction_orders}
use Rattle.auction_terms.specs.Allotment.{trades}
use Rattle.auction_terms.specs.AuctionPrice.{price}
use Rattle.auction_terms.specs.Edits.{keeps_place, without_id}
use Rattle.auction_terms.specs.Day.{State, Outcome, refuse_if, current_auction, own_order, is_bad_quantity}
use Rattle.auction_terms.specs.Day.{is_bad_limit, is_bad_peak, is_past, loses_limit, book_with_change, visible_of}
use Rattle.auction_terms.specs.Day.{display, trade_at, enter, change, delete, order_status, indicate, read_trade}
use Rattle.auction_terms.specs.Day.{is_interrupted, end_without_price, end_at_price, end_call_phase, uncross, decide}
use Rattle.auction_terms.specs.Day.{state_with_reply, step}
use Rattle.day_tables.specs.TradeTable.{entered_id, auctions_of_reply}

-- the next id rises by one with each order that is entered under it, and the tape grows by the reported trades
pub record IsReported (old new : State) (r : Reply) : Type 0 where
  pub ids : MatchOption (entered_id r) (new.next_id ≡ old.next_id) (λ id. (id ≡ old.next_id)
      × (new.next_id ≡ old.next_id + 1))
  pub tape : length new.tape ≡ length old.tape + length (auctions_of_reply r)

abbrev IsReportedIn : State → State × Reply → Type 0
IsReportedIn old done = IsReported old done.0 done.1

no_more : (n : ℕ) → n ≡ n + 0
no_more n = omega arith

step-quiet : (old new : State) (r : Reply) → entered_id r ≡ None → auctions_of_reply r ≡ [] → new.next_id ≡ old.next_id
    → new.tape ≡ old.tape → IsReported old new r
step-quiet old new r no_id no_trade ids tape = record {
  ids = rw no_id ids;
  tape = rw (no_trade, tape) (no_more (length old.tape));
}

-- an outcome that reports so, where the command is accepted
record IsReportedBy (old : State) (o : Outcome) : Type 0 where
  told : IfOk o (IsReportedIn old)

check-reported : {A : Type 0} (old : State) (m : Result A Refusal) (f : A → Outcome)
    → ((x : A) → IsReportedBy old (f x))
    → IsReportedBy old (m >>= f)
check-reported old (Ok x) f h = h x
check-reported old (Err reason) f h = record { told = tt }

enter-reported : (config : Config) (old : State) (new : NewOrder) → IsReportedBy old (enter config old new)
unfolding enter
enter-reported config old new =
    check-reported old (current_auction old) _ (λ kind.
    check-reported old (refuse_if (is_bad_quantity new.quantity) refused.BadQuantity) _ (λ a.
    check-reported old (refuse_if (is_bad_limit config new.limit) refused.BadLimit) _ (λ b.
    check-reported old (refuse_if (is_bad_peak new.limit new.quantity new.peak) refused.BadPeak) _ (λ c.
    check-reported old (refuse_if (is_past kind new.restriction) refused.PastAuction) _ (λ d.
    check-reported old (refuse_if (nat_le config.max_open (length old.book)) refused.BookFull) _ (λ e.
    record { told = record { ids = (refl, refl); tape = no_more (length old.tape) } }))))))

change-reported : (config : Config) (old : State) (member id : ℕ) (limit : Limit) (quantity : ℕ)
    → IsReportedBy old (change config old member id limit quantity)
unfolding change
change-reported config old member id limit quantity =
    check-reported old (current_auction old) _ (λ a.
    check-reported old (refuse_if (is_bad_quantity quantity) refused.BadQuantity) _ (λ b.
    check-reported old (refuse_if (is_bad_limit config limit) refused.BadLimit) _ (λ c.
    check-reported old (own_order old member id) _ (λ order.
    check-reported old (refuse_if (loses_limit order limit) refused.BadPeak) _ (λ d.
    record {
      told =
          step-quiet old (record old { book = book_with_change old.book order limit quantity })
          (reply.Changed (keeps_place order limit quantity)) refl refl refl refl;
    })))))

delete-reported : (old : State) (member id : ℕ) → IsReportedBy old (delete old member id)
unfolding delete
delete-reported old member id =
    check-reported old (current_auction old) _ (λ a.
    check-reported old (own_order old member id) _ (λ b.
    record { told = step-quiet old (record old { book = without_id id old.book }) reply.Deleted refl refl refl refl }))

order_status-reported : (old : State) (member id : ℕ) → IsReportedBy old (order_status old member id)
unfolding order_status
order_status-reported old member id = check-reported old (own_order old member id) _ (λ order.
    record {
      told =
          step-quiet old old (reply.OpenOrder order.side order.limit order.quantity (visible_of order)) refl refl refl
          refl;
    })

indicate-reported : (old : State) → IsReportedBy old (indicate old)
unfolding indicate
indicate-reported old =
    check-reported old (current_auction old) _ (λ a. record {
      told =
          step-quiet old old (reply.Indicated (display old)) refl refl refl refl;
    })

read_trade-reported : (old : State) (number : ℕ) → IsReportedBy old (read_trade old number)
unfolding read_trade
read_trade-reported old number = check-reported old (ok_or (trade_at old.tape number) refused.NoSuchTrade) _ (λ found.
    record { told = step-quiet old old (reply.Traded found) refl refl refl refl })

length_times : (kind : AuctionKind) (n : ℕ) → length (replicate n kind) ≡ n
length_times kind n = grind (arith, common_steps)

end_at_price-reported : (old : State) (kind : AuctionKind) (p : Price)
    → IsReported old (end_at_price old kind p).0 (end_at_price old kind p).1
end_at_price-reported old kind p = record {
  ids = refl;
  tape = length-append old.tape (trades (auction_orders old.book kind) p.tick)
      ∙ ap (λ n. length old.tape + n) (sym (length_times kind (length (trades (auction_orders old.book kind) p.tick))));
}

at_price : (old : State) (kind : AuctionKind) (p : Price) (b : Bool)
    → IsReportedIn old (if b then (record old { extended = true }, reply.Interrupted p) else end_at_price old kind p)
at_price old kind p true = step-quiet old (record old { extended = true }) (reply.Interrupted p) refl refl refl refl
at_price old kind p false = end_at_price-reported old kind p

end_call_phase-reported : (config : Config) (old : State) (kind : AuctionKind) (found : Option Price)
    → IsReportedIn old (end_call_phase config old kind found)
end_call_phase-reported config old kind None =
    step-quiet old (end_without_price old kind).0 (end_without_price old kind).1 refl refl refl refl
end_call_phase-reported config old kind (Some p) = at_price old kind p (is_interrupted config old p.tick)

uncross-reported : (config : Config) (old : State) (member : ℕ) → IsReportedBy old (uncross config old member)
unfolding uncross
uncross-reported config old member =
    check-reported old (current_auction old) _ (λ kind.
    check-reported old (refuse_if (not (member == 0)) refused.NotOperator) _ (λ a.
    record { told = end_call_phase-reported config old kind (price (auction_orders old.book kind) old.reference) }))

decide-reported : (config : Config) (old : State) (member : ℕ) (c : Command)
    → IsReportedBy old (decide config old member c)
unfolding decide
decide-reported config old member (command.Enter side restriction limit quantity peak) = enter-reported config old _
decide-reported config old member (command.Change id limit quantity) =
    change-reported config old member id limit quantity
decide-reported config old member (command.Delete id) = delete-reported old member id
decide-reported config old member (command.OrderStatus id) = order_status-reported old member id
decide-reported config old member command.Indicate = indicate-reported old
decide-reported config old member (command.ReadTrade number) = read_trade-reported old number
decide-reported config old member command.Uncross = uncross-reported config old member

state_with_reply-reported : (old : State) (o : Outcome) → IfOk o (IsReportedIn old)
    → IsReportedIn old (state_with_reply old o)
state_with_reply-reported old (Ok done) h = h
state_with_reply-reported old (Err reason) h = step-quiet old old (reply.Refused reason) refl refl refl refl

pub step-reported : (config : Config) (old : State) (call : Call)
    → IsReported old (step config old call).0 (step config old call).1
unfolding step
step-reported config old call =
    state_with_reply-reported old (decide config old call.member call.command)
    (decide-reported config old call.member call.command).told
