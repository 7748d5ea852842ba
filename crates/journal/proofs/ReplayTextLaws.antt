-- What a history says as a journal, against the replay.
use Rattle.std.proofs.Common.{◌≡◌, ◌∷◌, ◌∙◌, [], ℕ, List, Bool, Option, Some, None, Result, Ok, Err, true, false, refl}
use Rattle.std.proofs.Common.{sym, ap, map}
use Rattle.std.specs.Prelude.{◌==◌, ◌++◌, ◌+◌, length, nat_le, not, ok_or}
use Rattle.std.specs.List.{AllByRecursion}
use Rattle.auction_terms.specs.declared.Call.{Call}
use Rattle.auction_terms.specs.declared.Config.{Config}
use Rattle.auction_terms.specs.declared.Order.{Order}
use Rattle.auction_terms.specs.declared.Price.{Price}
use Rattle.auction_terms.specs.declared.AuctionKind.{AuctionKind}
use Rattle.auction_terms.specs.declared.Entry.{Entry}
use Rattle.auction_terms.specs.declared.Refusal.{Refusal}
use Rattle.auction_terms.specs.declared.Refusal.TheVariants as refused
use Rattle.auction_terms.specs.declared.Command.{Command}
use Rattle.auction_terms.specs.declared.Command.TheVariants as command
use Rattle.auction_terms.specs.declared.Reply.{Reply}
use Rattle.auction_terms.specs.declared.Reply.TheVariants as reply
use Rattle.auction_terms.specs.Results.{◌>>=◌}
use Rattle.auction_terms.specs.AuctionPrice.{price}
use Rattle.auction_terms.specs.Book.{auction_orders, order_of_new}
use Rattle.auction_terms.specs.Edits.{keeps_place, without_id}
use Rattle.auction_terms.specs.declared.Limit.{Limit}
use Rattle.auction_terms.specs.declared.NewOrder.{NewOrder}
use Rattle.auction_terms.specs.Day.{Outcome, State, indicate, book_with_change, call_of, calls_of, change}
use Rattle.auction_terms.specs.Day.{current_auction, decide, delete, display, enter, is_bad_limit, is_bad_peak}
use Rattle.auction_terms.specs.Day.{is_bad_quantity, is_interrupted, is_past, loses_limit, opening_state, own_order}
use Rattle.auction_terms.specs.Day.{refuse_if, replay, replies_from, state_with_reply, order_status, step, read_trade}
use Rattle.auction_terms.specs.Day.{trade_at, uncross, end_call_phase, visible_of}
use Rattle.printed_lines.specs.ReplyWords.{reply_text}
use Rattle.journal.specs.WideReplies.{IsFullyPrinted, IsWideReply}
use Rattle.journal.specs.EntryRecord.{call_part, reply_part}
use Rattle.journal.specs.JournalText.{recorded_call_by}
use Rattle.journal.specs.JournalPromises.{HasUniqueText, LegalHasReplayTexts, ReplayIsLegal}
use Rattle.journal.proofs.ReplyTextLaws.{reply-same}

-- ---- each reply of the replay is printed in full

abbrev IsFullyPrintedOutcome : Outcome → Type 0
IsFullyPrintedOutcome (Ok done) = IsFullyPrinted done.1
IsFullyPrintedOutcome (Err reason) = Unit {0}

printed-lone : {X : Type 0} (r : Result X Refusal) (done : X → State × Reply) → ((x : X) → IsFullyPrinted (done x).1)
    → IsFullyPrintedOutcome (r >>= λ x. Ok (done x))
printed-lone (Ok x) done h = h x
printed-lone (Err e) done h = tt

printed-second : {X Y : Type 0} (r : Result X Refusal) (s : Result Y Refusal) (done : X → Y → State × Reply)
    → ((x : X) (y : Y) → IsFullyPrinted (done x y).1)
    → IsFullyPrintedOutcome (r >>= λ x. s >>= λ y. Ok (done x y))
printed-second (Ok x) s done h = printed-lone s (done x) (h x)
printed-second (Err e) s done h = tt

printed-enter-parts : (r1 : Result AuctionKind Refusal) (r2 r3 r4 : Result (Unit {0}) Refusal) (r5 : AuctionKind
    → Result (Unit {0}) Refusal) (r6 : Result (Unit {0}) Refusal)
    (done : State × Reply) → IsFullyPrinted done.1
    → IsFullyPrintedOutcome (r1 >>= λ kind. r2 >>= λ _. r3 >>= λ _. r4 >>= λ _. r5 kind >>= λ _. r6 >>= λ _. Ok done)
printed-enter-parts (Err e) r2 r3 r4 r5 r6 done h = tt
printed-enter-parts (Ok k) (Err e) r3 r4 r5 r6 done h = tt
printed-enter-parts (Ok k) (Ok u) (Err e) r4 r5 r6 done h = tt
printed-enter-parts (Ok k) (Ok u) (Ok v) (Err e) r5 r6 done h = tt
printed-enter-parts (Ok k) (Ok u) (Ok v) (Ok w) r5 r6 done h = printed-second (r5 k) r6 (λ _ _. done) (λ _ _. h)

printed-change-parts : (r1 : Result AuctionKind Refusal) (r2 r3 : Result (Unit {0}) Refusal) (r4 : Result Order Refusal)
    (r5 : Order → Result (Unit {0}) Refusal)
    (done : Order → State × Reply) → ((order : Order) → IsFullyPrinted (done order).1)
    → IsFullyPrintedOutcome (r1 >>= λ kind. r2 >>= λ _. r3 >>= λ _. r4 >>= λ order. r5 order >>= λ _. Ok (done order))
printed-change-parts (Err e) r2 r3 r4 r5 done h = tt
printed-change-parts (Ok k) (Err e) r3 r4 r5 done h = tt
printed-change-parts (Ok k) (Ok u) (Err e) r4 r5 done h = tt
printed-change-parts (Ok k) (Ok u) (Ok v) (Err e) r5 done h = tt
printed-change-parts (Ok k) (Ok u) (Ok v) (Ok order) r5 done h =
    printed-lone (r5 order) (λ _. done order) (λ _. h order)

printed-enter : (config : Config) (state : State) (new : NewOrder) → IsFullyPrintedOutcome (enter config state new)
unfolding enter
printed-enter config state new =
    printed-enter-parts (current_auction state) (refuse_if (is_bad_quantity new.quantity) refused.BadQuantity)
    (refuse_if (is_bad_limit config new.limit) refused.BadLimit)
    (refuse_if (is_bad_peak new.limit new.quantity new.peak) refused.BadPeak)
    (λ kind. refuse_if (is_past kind new.restriction) refused.PastAuction)
    (refuse_if (nat_le config.max_open (length state.book)) refused.BookFull) (
      record state {
        book = state.book ++ order_of_new state.next_id new ∷ [];
        next_id =
            state.next_id + 1;
      },
      reply.Entered state.next_id,
    ) tt

printed-change : (config : Config) (state : State) (member id : ℕ) (limit : Limit) (quantity : ℕ)
    → IsFullyPrintedOutcome (change config state member id limit quantity)
unfolding change
printed-change config state member id limit quantity =
    printed-change-parts (current_auction state) (refuse_if (is_bad_quantity quantity) refused.BadQuantity)
    (refuse_if (is_bad_limit config limit) refused.BadLimit)
    (own_order state member id) (λ order. refuse_if (loses_limit order limit) refused.BadPeak)
    (λ order. (
      record state { book = book_with_change state.book order limit quantity },
      reply.Changed (keeps_place order limit quantity),
    )) (λ order. tt)

printed-delete : (state : State) (member id : ℕ) → IsFullyPrintedOutcome (delete state member id)
unfolding delete
printed-delete state member id =
    printed-second (current_auction state) (own_order state member id) (λ kind order. (
      record state {
        book =
            without_id id state.book;
      },
      reply.Deleted,
    )) (λ kind order. tt)

printed-order_status : (state : State) (member id : ℕ) → IsFullyPrintedOutcome (order_status state member id)
unfolding order_status
printed-order_status state member id =
    printed-lone (own_order state member id)
    (λ order. (state, reply.OpenOrder order.side order.limit order.quantity (visible_of order))) (λ order. tt)

printed-indicate : (state : State) → IsFullyPrintedOutcome (indicate state)
unfolding indicate
printed-indicate state =
    printed-lone (current_auction state) (λ kind. (state, reply.Indicated (display state))) (λ kind. tt)

printed-read_trade : (state : State) (number : ℕ) → IsFullyPrintedOutcome (read_trade state number)
unfolding read_trade
printed-read_trade state number =
    printed-lone (ok_or (trade_at state.tape number) refused.NoSuchTrade) (λ found. (state, reply.Traded found))
    (λ found. tt)

printed-end_call_phase : (config : Config) (state : State) (kind : AuctionKind) (priced : Option Price)
    → IsFullyPrinted (end_call_phase config state kind priced).1
printed-end_call_phase config state kind None = refl
printed-end_call_phase config state kind (Some priced) = by_interrupted (is_interrupted config state priced.tick) refl
  where
    by_interrupted : (b : Bool) → is_interrupted config state priced.tick ≡ b
        → IsFullyPrinted (end_call_phase config state kind (Some priced)).1
    by_interrupted true e = rw e tt
    by_interrupted false e = rw e tt

printed-uncross : (config : Config) (state : State) (member : ℕ) → IsFullyPrintedOutcome (uncross config state member)
unfolding uncross
printed-uncross config state member =
    printed-second (current_auction state) (refuse_if (not (member == 0)) refused.NotOperator)
    (λ kind _. end_call_phase config state kind (price (auction_orders state.book kind) state.reference))
    (λ kind _. printed-end_call_phase config state kind (price (auction_orders state.book kind) state.reference))

printed-decided : (config : Config) (state : State) (member : ℕ) (c : Command)
    → IsFullyPrintedOutcome (decide config state member c)
unfolding decide
printed-decided config state member (command.Enter side restriction limit quantity peak) = printed-enter config state _
printed-decided config state member (command.Change id limit quantity) =
    printed-change config state member id limit quantity
printed-decided config state member (command.Delete id) = printed-delete state member id
printed-decided config state member (command.OrderStatus id) = printed-order_status state member id
printed-decided config state member command.Indicate = printed-indicate state
printed-decided config state member (command.ReadTrade number) = printed-read_trade state number
printed-decided config state member command.Uncross = printed-uncross config state member

printed-state_with_reply : (state : State) (outcome : Outcome) → IsFullyPrintedOutcome outcome
    → IsFullyPrinted (state_with_reply state outcome).1
printed-state_with_reply state (Ok done) h = h
printed-state_with_reply state (Err reason) h = tt

pub step-is-fully-printed : (config : Config) (state : State) (call : Call) → IsFullyPrinted (step config state call).1
unfolding step
step-is-fully-printed config state call =
    printed-state_with_reply state (decide config state call.member call.command)
    (printed-decided config state call.member call.command)

pub replies-are-fully-printed : (config : Config) (state : State) (calls : List Call)
    → AllByRecursion IsFullyPrinted (replies_from config state calls)
replies-are-fully-printed config state [] = tt
replies-are-fully-printed config state (call ∷ calls) =
    (step-is-fully-printed config state call, replies-are-fully-printed config (step config state call).0 calls)

-- ---- texts and replies

pub calls-recorded : (entries : List Entry) → map call_part (map recorded_call_by entries) ≡ calls_of entries
calls-recorded [] = refl
calls-recorded (e ∷ es) = ap (λ (t : List Call). call_of e ∷ t) (calls-recorded es)

pub texts-recorded : (entries : List Entry) → map reply_part (map recorded_call_by entries)
    ≡ map reply_text (map (λ e. e.reply) entries)
texts-recorded [] = refl
texts-recorded (e ∷ es) = ap (λ (t : List (List ℕ)). reply_text e.reply ∷ t) (texts-recorded es)

pub legal-has-replay-texts : LegalHasReplayTexts
legal-has-replay-texts config entries h = rw (texts-recorded entries, calls-recorded entries, h.replies) refl

replies-same : (xs ys : List Reply) → AllByRecursion HasUniqueText xs → AllByRecursion IsFullyPrinted ys
    → AllByRecursion IsWideReply ys
    → map reply_text xs ≡ map reply_text ys → xs ≡ ys
replies-same [] [] h k w e = refl
replies-same [] (y ∷ ys) h k w e = cc e
replies-same (x ∷ xs) [] h k w e = cc e
replies-same (x ∷ xs) (y ∷ ys) h k w e =
    let first : reply_text x ≡ reply_text y = cc in
    let rest : map reply_text xs ≡ map reply_text ys = cc in
    let one : x ≡ y = reply-same x y h.0.0 h.0.1 w.0 k.0 first in
    let others : xs ≡ ys = replies-same xs ys h.1 k.1 w.1 rest in
    cc

pub replay-legal : ReplayIsLegal
replay-legal config entries few h w e =
    let texts : map reply_text (map (λ e. e.reply) entries) ≡ map reply_text (replay config (calls_of entries)).1 =
    sym (texts-recorded entries) ∙ e ∙ ap (λ (c : List Call). map reply_text (replay config c).1)
    (calls-recorded entries) in
    record {
      few = few;
      replies =
          replies-same _ _ h (replies-are-fully-printed config (opening_state config) (calls_of entries)) w texts;
    }
