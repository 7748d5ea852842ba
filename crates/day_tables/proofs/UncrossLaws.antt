-- Which calls are accepted as an uncross.
use Rattle.std.proofs.Common.{◌≡◌, ℕ, ◌==◌, ◌&&◌, nat_le, not, ok_or, if◌then◌else◌, is_some, Bool, true, false, length}
use Rattle.std.proofs.Common.{Option, Some, None, Result, Ok, Err, IfOk, refl, sym, ap, arith}
use Rattle.std.proofs.lemmas.Grind.{common_steps}
use Rattle.auction_terms.specs.declared.Call.{Call}
use Rattle.auction_terms.specs.declared.Command.{Command}
use Rattle.auction_terms.specs.declared.Command.TheVariants as command
use Rattle.auction_terms.specs.declared.Config.{Config}
use Rattle.auction_terms.specs.declared.AuctionKind.{AuctionKind}
use Rattle.auction_terms.specs.declared.NewOrder.{NewOrder}
use Rattle.auction_terms.specs.declared.Limit.{Limit}
use Rattle.auction_terms.specs.declared.Price.{Price}
use Rattle.auction_terms.specs.declared.Refusal.{Refusal}
use Rattle.auction_terms.specs.declared.Refusal.TheVariants as refused
use Rattle.auction_terms.specs.declared.Reply.TheVariants as reply
use Rattle.auction_terms.specs.Results.{◌>>=◌}
use Rattle.auction_terms.specs.Book.{auction_orders}
use Rattle.auction_terms.specs.AuctionPrice.{price}
use Rattle.auction_terms.specs.Day.{State, Outcome, refuse_if, current_auction, own_order, is_bad_quantity}
use Rattle.auction_terms.specs.Day.{is_bad_limit, is_bad_peak, is_past, loses_limit, trade_at, enter, change, delete}
use Rattle.auction_terms.specs.Day.{order_status, indicate, read_trade, is_interrupted, end_at_price, end_call_phase}
use Rattle.auction_terms.specs.Day.{uncross, decide, is_uncross_reply, state_with_reply, step}
use Rattle.day_tables.specs.AnsweredCalls.{is_uncross_command}

-- an outcome that is none of an uncross
record NoUncross (o : Outcome) : Type 0 where
  quiet : IfOk o (λ done. is_uncross_reply done.1 ≡ false)

check-no_uncross : {A : Type 0} (m : Result A Refusal) (f : A → Outcome) → ((x : A) → NoUncross (f x))
    → NoUncross (m >>= f)
check-no_uncross (Ok x) f h = h x
check-no_uncross (Err reason) f h = record { quiet = tt }

enter-no_uncross : (config : Config) (old : State) (new : NewOrder) → NoUncross (enter config old new)
unfolding enter
enter-no_uncross config old new =
    check-no_uncross (current_auction old) _ (λ kind.
    check-no_uncross (refuse_if (is_bad_quantity new.quantity) refused.BadQuantity) _ (λ a.
    check-no_uncross (refuse_if (is_bad_limit config new.limit) refused.BadLimit) _ (λ b.
    check-no_uncross (refuse_if (is_bad_peak new.limit new.quantity new.peak) refused.BadPeak) _ (λ c.
    check-no_uncross (refuse_if (is_past kind new.restriction) refused.PastAuction) _ (λ d.
    check-no_uncross (refuse_if (nat_le config.max_open (length old.book)) refused.BookFull) _ (λ e.
    record { quiet = refl }))))))

change-no_uncross : (config : Config) (old : State) (member id : ℕ) (limit : Limit) (quantity : ℕ)
    → NoUncross (change config old member id limit quantity)
unfolding change
change-no_uncross config old member id limit quantity =
    check-no_uncross (current_auction old) _ (λ a.
    check-no_uncross (refuse_if (is_bad_quantity quantity) refused.BadQuantity) _ (λ b.
    check-no_uncross (refuse_if (is_bad_limit config limit) refused.BadLimit) _ (λ c.
    check-no_uncross (own_order old member id) _ (λ order.
    check-no_uncross (refuse_if (loses_limit order limit) refused.BadPeak) _ (λ d.
    record { quiet = refl })))))

delete-no_uncross : (old : State) (member id : ℕ) → NoUncross (delete old member id)
unfolding delete
delete-no_uncross old member id =
    check-no_uncross (current_auction old) _ (λ a. check-no_uncross (own_order old member id) _ (λ b. record {
      quiet =
          refl;
    }))

order_status-no_uncross : (old : State) (member id : ℕ) → NoUncross (order_status old member id)
unfolding order_status
order_status-no_uncross old member id = check-no_uncross (own_order old member id) _ (λ order. record { quiet = refl })

indicate-no_uncross : (old : State) → NoUncross (indicate old)
unfolding indicate
indicate-no_uncross old = check-no_uncross (current_auction old) _ (λ a. record { quiet = refl })

read_trade-no_uncross : (old : State) (number : ℕ) → NoUncross (read_trade old number)
unfolding read_trade
read_trade-no_uncross old number =
    check-no_uncross (ok_or (trade_at old.tape number) refused.NoSuchTrade) _ (λ found. record { quiet = refl })

none_told : (old : State) (o : Outcome) → NoUncross o → false ≡ is_uncross_reply (state_with_reply old o).1
none_told old (Ok done) h = sym h.quiet
none_told old (Err reason) h = refl

at_price : (old : State) (kind : AuctionKind) (p : Price) (b : Bool)
    → true ≡ is_uncross_reply (if b then (record old { extended = true }, reply.Interrupted p)
    else end_at_price old kind p).1
at_price old kind p true = refl
at_price old kind p false = refl

end_call_phase-is_uncross : (config : Config) (old : State) (kind : AuctionKind) (found : Option Price)
    → true ≡ is_uncross_reply (end_call_phase config old kind found).1
end_call_phase-is_uncross config old kind None = refl
end_call_phase-is_uncross config old kind (Some p) = at_price old kind p (is_interrupted config old p.tick)

by_operator : (config : Config) (old : State) (kind : AuctionKind) (b : Bool)
    → (b && true)
    ≡ is_uncross_reply
    (state_with_reply old
    (refuse_if (not b) refused.NotOperator >>=
    (λ a. Ok (end_call_phase config old kind (price (auction_orders old.book kind) old.reference))))).1
by_operator config old kind true =
    end_call_phase-is_uncross config old kind (price (auction_orders old.book kind) old.reference)
by_operator config old kind false = refl

and-false : (b : Bool) → (b && false) ≡ false
and-false true = refl
and-false false = refl

in_phase : (config : Config) (old : State) (b : Bool) (now : Option AuctionKind)
    → (b && is_some now)
    ≡ is_uncross_reply
    (state_with_reply old
    (ok_or now refused.DayOver >>=
    (λ kind. refuse_if (not b) refused.NotOperator >>=
    (λ a. Ok (end_call_phase config old kind (price (auction_orders old.book kind) old.reference)))))).1
in_phase config old b None = and-false b
in_phase config old b (Some kind) = by_operator config old kind b

uncross-is_uncross : (config : Config) (old : State) (member : ℕ) → ((member == 0) && is_some old.auction)
    ≡ is_uncross_reply (state_with_reply old (uncross config old member)).1
unfolding uncross
uncross-is_uncross config old member = in_phase config old (member == 0) old.auction

decide-is_uncross : (config : Config) (old : State) (member : ℕ) (c : Command)
    → (is_uncross_command c && ((member == 0) && is_some old.auction))
    ≡ is_uncross_reply (state_with_reply old (decide config old member c)).1
unfolding decide
decide-is_uncross config old member (command.Enter side restriction limit quantity peak) =
    none_told old _ (enter-no_uncross config old _)
decide-is_uncross config old member (command.Change id limit quantity) =
    none_told old _ (change-no_uncross config old member id limit quantity)
decide-is_uncross config old member (command.Delete id) = none_told old _ (delete-no_uncross old member id)
decide-is_uncross config old member (command.OrderStatus id) = none_told old _ (order_status-no_uncross old member id)
decide-is_uncross config old member command.Indicate = none_told old _ (indicate-no_uncross old)
decide-is_uncross config old member (command.ReadTrade number) = none_told old _ (read_trade-no_uncross old number)
decide-is_uncross config old member command.Uncross = uncross-is_uncross config old member

pub step-is_uncross : (config : Config) (old : State) (call : Call)
    → (is_uncross_command call.command && ((call.member == 0) && is_some old.auction))
    ≡ is_uncross_reply (step config old call).1
unfolding step
step-is_uncross config old call = decide-is_uncross config old call.member call.command

pub not_asked : (config : Config) (old : State) (call : Call) → is_uncross_command call.command ≡ false
    → false ≡ is_uncross_reply (step config old call).1
not_asked config old call h = rw h at (step-is_uncross config old call)

not_zero : (n : ℕ) → (n ≡ 0 → ⊥) → (n == 0) ≡ false
not_zero n h = grind (arith, common_steps, h)

pub not_operator : (config : Config) (old : State) (call : Call) → is_uncross_command call.command ≡ true
    → (call.member ≡ 0 → ⊥) → false ≡ is_uncross_reply (step config old call).1
not_operator config old call h m = rw (h, not_zero call.member m) at (step-is_uncross config old call)

pub operator_asks : (config : Config) (old : State) (call : Call) → is_uncross_command call.command ≡ true
    → call.member ≡ 0 → is_some old.auction ≡ is_uncross_reply (step config old call).1
operator_asks config old call h m =
    let zero_is : (call.member == 0) ≡ true = ap (λ n. n == 0) m in
    rw (h, zero_is) at (step-is_uncross config old call)
