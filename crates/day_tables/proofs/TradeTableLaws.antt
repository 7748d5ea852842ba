-- The trades of a day, one by one, with their auctions and members.
use Rattle.std.proofs.Common.{◌≡◌, ℕ, zero, suc, ◌+◌, ◌-◌, ◌<◌, ◌≤◌, Bool, true, false, eqb, List, [], ◌∷◌, ◌++◌}
use Rattle.std.proofs.Common.{length, map, find, drop, get_or, slice_get, min, Option, Some, None, is_some, option_map}
use Rattle.std.proofs.Common.{MatchOption, ◌⊎◌, inl, inr, refl, sym, ap, ◌∙◌, append_assoc, add-one, drop-cons}
use Rattle.std.proofs.Common.{length-append, arith, OnOk, Result, Ok, Err}
use Rattle.std.proofs.Math.Dec.{leb}
use Rattle.std.proofs.Math.Nat.{zero-add}
use Rattle.std.proofs.lemmas.Bool.{eq-eqb, ne_eqb}
use Rattle.std.proofs.lemmas.Bool.Decides.{leb_tells}
use Rattle.std.proofs.lemmas.List.{append-nil, drop_all, map-append}
use Rattle.std.proofs.lemmas.Grind.{common_steps}
use Rattle.auction_terms.specs.declared.Config.{Config}
use Rattle.auction_terms.specs.declared.Entry.{Entry}
use Rattle.auction_terms.specs.declared.AuctionKind.{AuctionKind}
use Rattle.auction_terms.specs.declared.Trade.{Trade}
use Rattle.auction_terms.specs.declared.Call.{Call}
use Rattle.auction_terms.specs.declared.Reply.{Reply}
use Rattle.auction_terms.specs.Auxiliary.RunningAuction.{RunningAuction, auction_after_call, opened_auction}
use Rattle.auction_terms.proofs.RunLaws.{replies_from-push, state_after-push}
use Rattle.day_tables.specs.declared.trades.TradesRecorder.{TradesRecorder}
use Rattle.day_tables.specs.AnsweredCalls.{entry_of}
use Rattle.day_tables.specs.TradesRecorder.{AreReplayed, HasAllTrades, HasTradesSoFar}
use Rattle.auction_terms.specs.Day.{State, opening_state, step, state_after, replies_from, replay, call_of, calls_of}
use Rattle.auction_terms.specs.Day.{IsLegal}
use Rattle.day_tables.specs.TradeTable.{entered_id, has_entered_id, member_who_entered, auctions_of_reply}
use Rattle.day_tables.specs.TradeTable.{trade_auctions, trade_record, trade_records, trades_header, trades_text}
use Rattle.day_tables.specs.TableMembers.{entering_members, member_of_id}
use Rattle.day_tables.proofs.StepLaws.{step-reported}

-- ---- the auctions, trade by trade

pub auctions_none : trade_auctions [] ≡ []
unfolding trade_auctions
auctions_none = refl

auctions_push : (entries : List Entry) (entry : Entry) → trade_auctions (entries ++ entry ∷ []) ≡ trade_auctions entries
    ++ auctions_of_reply entry.reply
unfolding trade_auctions
auctions_push [] entry = append-nil (auctions_of_reply entry.reply)
auctions_push (first ∷ entries) entry =
    ap (λ t. auctions_of_reply first.reply ++ t) (auctions_push entries entry)
    ∙ sym (append_assoc (auctions_of_reply first.reply) (trade_auctions entries) (auctions_of_reply entry.reply))

-- ---- the members, entry by entry

members_push : (entries : List Entry) (entry : Entry) → entering_members (entries ++ entry ∷ [])
    ≡ entering_members entries ++ entering_members (entry ∷ [])
members_push [] entry = refl
members_push (first ∷ entries) entry = by_some (members_push entries entry) (is_some (entered_id first.reply)) refl
  where
    by_some : entering_members (entries ++ entry ∷ []) ≡ entering_members entries ++ entering_members (entry ∷ [])
        → (b : Bool) → is_some (entered_id first.reply) ≡ b → entering_members (first ∷ entries ++ entry ∷ [])
        ≡ entering_members (first ∷ entries) ++ entering_members (entry ∷ [])
    by_some rest true e = rw e (ap (λ t. first.member ∷ t) rest)
    by_some rest false e = rw e rest

-- ---- the records, one by one

one_done : (a b i : ℕ) → min a b ≤ i → (a ≤ i) ⊎ (b ≤ i)
one_done a b i h = by_case (leb_tells a i)
  where
    by_case : ((leb a i ≡ true) × (a ≤ i)) ⊎ ((leb a i ≡ false) × (i < a)) → (a ≤ i) ⊎ (b ≤ i)
    by_case (inl (e, done)) = inl done
    by_case (inr (e, more)) = inr (omega (arith, more, h))

module _ (member : ℕ → Option ℕ) where
  pub records-next : (kinds : List AuctionKind) (tape : List Trade) (front all : List ℕ) (i : ℕ) (k : AuctionKind)
      (t : Trade)
      → front ++ trade_records member i (drop i kinds) (drop i tape) ≡ all → i < length kinds → i < length tape
      → front
      ++ (trade_record member (i + 1) (get_or kinds i k) (get_or tape i t)
      ++ trade_records member (i + 1) (drop (i + 1) kinds) (drop (i + 1) tape)) ≡ all
  unfolding trade_records
  records-next kinds tape front all i k t e in_kinds in_tape =
      let first : drop i kinds ≡ get_or kinds i k ∷ drop (i + 1) kinds =
      rw (add-one i) (drop-cons kinds i k in_kinds) in
      let second : drop i tape ≡ get_or tape i t ∷ drop (i + 1) tape = rw (add-one i) (drop-cons tape i t in_tape) in
      rw (first, second) at e

  pub records-done : (kinds : List AuctionKind) (tape : List Trade) (front all : List ℕ) (i : ℕ) (k : AuctionKind)
      (t : Trade)
      → front ++ trade_records member i (drop i kinds) (drop i tape) ≡ all → i < length kinds → i < length tape
      → (front ++ trade_record member (i + 1) (get_or kinds i k) (get_or tape i t))
      ++ trade_records member (i + 1) (drop (i + 1) kinds) (drop (i + 1) tape) ≡ all
  records-done kinds tape front all i k t e in_kinds in_tape =
      append_assoc front _ _ ∙ records-next kinds tape front all i k t e in_kinds in_tape

  none_left : (i : ℕ) (kinds : List AuctionKind) (tape : List Trade) → (kinds ≡ []) ⊎ (tape ≡ [])
      → trade_records member i kinds tape ≡ []
  unfolding trade_records
  none_left i kinds tape (inl none) = rw none refl
  none_left i [] tape (inr none) = refl
  none_left i (kind ∷ kinds) tape (inr none) = rw none refl

  pub records-end : (kinds : List AuctionKind) (tape : List Trade) (front all : List ℕ) (i : ℕ)
      → front ++ trade_records member i (drop i kinds) (drop i tape) ≡ all → (length kinds ≤ i) ⊎ (length tape ≤ i)
      → front ≡ all
  records-end kinds tape front all i e (inl h) =
      sym (append-nil front) ∙ ap (λ l. front ++ l) (sym (none_left i _ _ (inl (drop_all i kinds h)))) ∙ e
  records-end kinds tape front all i e (inr h) =
      sym (append-nil front) ∙ ap (λ l. front ++ l) (sym (none_left i _ _ (inr (drop_all i tape h)))) ∙ e

  -- where the place is the lesser of both lengths or more
  pub records-least : (kinds : List AuctionKind) (tape : List Trade) (front all : List ℕ) (i : ℕ)
      → front ++ trade_records member i (drop i kinds) (drop i tape) ≡ all → min (length kinds) (length tape) ≤ i
      → front ≡ all
  records-least kinds tape front all i e h =
      records-end kinds tape front all i e (one_done (length kinds) (length tape) i h)

same_record : (f g : ℕ → Option ℕ) (number : ℕ) (kind : AuctionKind) (trade : Trade) → ((id : ℕ) → f id ≡ g id)
    → trade_record f number kind trade ≡ trade_record g number kind trade
unfolding trade_record
same_record f g number kind trade same = rw (same trade.bid, same trade.ask) refl

-- the records name the same members
pub same_records : (f g : ℕ → Option ℕ) → ((id : ℕ) → f id ≡ g id)
    → (before : ℕ) (kinds : List AuctionKind) (tape : List Trade)
    → trade_records f before kinds tape ≡ trade_records g before kinds tape
unfolding trade_records
same_records f g same before [] tape = refl
same_records f g same before (kind ∷ kinds) [] = refl
same_records f g same before (kind ∷ kinds) (trade ∷ tape) =
    let here = same_record f g (before + 1) kind trade same in
    let rest = same_records f g same (before + 1) kinds tape in
    cc

-- ---- the members of ids

-- the replies are the replay's from a state on
abbrev Replied : Config → State → List Entry → Type 0
Replied config state entries =
    map (λ (entry : Entry). entry.reply) entries ≡ replies_from config state (calls_of entries)

head_replied : (config : Config) (state : State) (entry : Entry) (entries : List Entry)
    → Replied config state (entry ∷ entries) → entry.reply ≡ (step config state (call_of entry)).1
head_replied config state entry entries h = grind (arith, common_steps)

tail_replied : (config : Config) (state : State) (entry : Entry) (entries : List Entry)
    → Replied config state (entry ∷ entries) → Replied config (step config state (call_of entry)).0 entries
tail_replied config state entry entries h = grind (arith, common_steps)

ids_of : (config : Config) (state : State) (entry : Entry) (entries : List Entry) (o : Option ℕ)
    → Replied config state (entry ∷ entries) → entered_id entry.reply ≡ o
    → MatchOption o ((step config state (call_of entry)).0.next_id ≡ state.next_id) (λ id. (id ≡ state.next_id)
    × ((step config state (call_of entry)).0.next_id ≡ state.next_id + 1))
ids_of config state entry entries o h e =
    let told = (step-reported config state (call_of entry)).ids in
    rw (← head_replied config state entry entries h, e) at told

-- no entry is answered with an id that was given before
none_before : (config : Config) (state : State) (entries : List Entry) (id : ℕ) → Replied config state entries
    → id < state.next_id → find (has_entered_id id) entries ≡ None
none_before config state [] id h before = refl
none_before config state (entry ∷ entries) id h before =
    by_case
    (none_before config (step config state (call_of entry)).0 entries id (tail_replied config state entry entries h))
    (entered_id entry.reply) refl
  where
    next : State
    next = (step config state (call_of entry)).0

    by_case : (id < next.next_id → find (has_entered_id id) entries ≡ None) → (o : Option ℕ)
        → entered_id entry.reply ≡ o
        → find (has_entered_id id) (entry ∷ entries) ≡ None
    by_case later None e = let same = ids_of config state entry entries None h e in
        rw e (later (omega (arith, same, before)))
    by_case later (Some told) e =
        let parts = ids_of config state entry entries (Some told) h e in
        let apart : eqb told id ≡ false = ne_eqb told id (λ is. omega (arith, is, parts.0, before)) in
        rw (e, apart) (later (omega (arith, parts.1, before)))

-- the n-th id from the next on is the n-th entry's that is accepted
nth_member : (config : Config) (state : State) (entries : List Entry) (n : ℕ) → Replied config state entries
    → slice_get (entering_members entries) n ≡ option_map (λ (entry : Entry). entry.member)
    (find (has_entered_id (state.next_id + n)) entries)
nth_member config state [] n h = refl
nth_member config state (entry ∷ entries) n h =
    by_case
    (λ k. nth_member config (step config state (call_of entry)).0 entries k
    (tail_replied config state entry entries h)) n (entered_id entry.reply) refl
  where
    next : State
    next = (step config state (call_of entry)).0

    by_case : ((k : ℕ) → slice_get (entering_members entries) k
        ≡ option_map (λ (e : Entry). e.member) (find (has_entered_id (next.next_id + k)) entries))
        → (n : ℕ) (o : Option ℕ) → entered_id entry.reply ≡ o → slice_get (entering_members (entry ∷ entries)) n
        ≡ option_map (λ (e : Entry). e.member) (find (has_entered_id (state.next_id + n)) (entry ∷ entries))
    by_case rest n None e =
        let same = ids_of config state entry entries None h e in
        let to : next.next_id + n ≡ state.next_id + n = omega (arith, same) in
        rw e (rest n ∙ ap (λ id. option_map (λ (x : Entry). x.member) (find (has_entered_id id) entries)) to)
    by_case rest zero (Some told) e =
        let parts = ids_of config state entry entries (Some told) h e in
        let here : eqb told (state.next_id + zero) ≡ true =
        eq-eqb told (state.next_id + zero) (omega (arith, parts.0)) in
        rw (e, here) refl
    by_case rest (suc m) (Some told) e =
        let parts = ids_of config state entry entries (Some told) h e in
        let apart : eqb told (state.next_id + suc m) ≡ false =
        ne_eqb told (state.next_id + suc m) (λ is. omega (arith, is, parts.0)) in
        let to : next.next_id + m ≡ state.next_id + suc m = omega (arith, parts.1) in
        rw (e, apart) (rest m ∙ ap (λ id. option_map (λ (x : Entry). x.member) (find (has_entered_id id) entries)) to)

member_after : (members : List ℕ) (n : ℕ) → member_of_id members (suc n) ≡ slice_get members n
member_after members n =
    let other : eqb (suc n) 0 ≡ false = ne_eqb (suc n) 0 (λ is. omega (arith, is)) in
    let less : suc n - 1 ≡ n = omega arith in
    rw (other, less) refl

-- the members by their places are the members by their ids
pub members_by_id : (config : Config) (entries : List Entry) → AreReplayed config entries → (id : ℕ)
    → member_of_id (entering_members entries) id ≡ member_who_entered entries id
unfolding member_who_entered
members_by_id config entries replayed zero =
    sym
    (ap (option_map (λ (entry : Entry). entry.member))
    (none_before config (opening_state config) entries 0 replayed (omega arith)))
members_by_id config entries replayed (suc n) =
    let to : 1 + n ≡ suc n = omega arith in
    member_after (entering_members entries) n ∙ nth_member config (opening_state config) entries n replayed
    ∙ ap (λ id. option_map (λ (entry : Entry). entry.member) (find (has_entered_id id) entries)) to

-- the table of what was kept of a day, by the members' places
pub table_of_trades : (trades : TradesRecorder) (config : Config) (entries : List Entry)
    → HasAllTrades trades config entries
    → trades_header ++ trade_records (member_of_id trades.members.items) 0 trades.auctions.items trades.tape.items
    ≡ trades_text config entries
unfolding trades_text
table_of_trades trades config entries has =
    rw (has.members, has.auctions, has.tape) (ap (λ t. trades_header ++ t)
    (same_records (member_of_id (entering_members entries)) (member_who_entered entries) (members_by_id config entries
    has.replies) 0
    (trade_auctions entries) (replay config (calls_of entries)).0.tape))

-- ---- what is kept, call by call

pub trades-none : (trades : TradesRecorder) (auction : RunningAuction) → auction ≡ opened_auction auction.config
    → trades.members.items ≡ [] → trades.auctions.items ≡ [] → trades.tape.items ≡ []
    → HasTradesSoFar trades auction []
trades-none trades auction fresh members auctions tape = record {
  members = members;
  auctions = auctions ∙ sym auctions_none;
  none = tape;
  replies = refl;
  state = ap (λ (a : RunningAuction). a.state) fresh;
}

replies-more : (config : Config) (state : State) (entries : List Entry) (call : Call) (reply : Reply)
    → AreReplayed config entries → state ≡ (replay config (calls_of entries)).0 → reply ≡ (step config state call).1
    → AreReplayed config (entries ++ entry_of call reply ∷ [])
replies-more config state entries call reply replayed is answered =
    grind (arith, common_steps, map-append, replies_from-push)

pub trades-more : (old new : TradesRecorder) (auction : RunningAuction) (call : Call) (reply : Reply)
    (entries : List Entry) → reply ≡ (step auction.config auction.state call).1
    → new.members.items ≡ old.members.items ++ entering_members (entry_of call reply ∷ [])
    → new.auctions.items ≡ old.auctions.items ++ auctions_of_reply reply
    → new.tape.items ≡ old.tape.items → HasTradesSoFar old auction entries
    → HasTradesSoFar new (auction_after_call auction call) (entries ++ entry_of call reply ∷ [])
trades-more old new auction call reply entries answered members auctions tape is =
    let entry = entry_of call reply in
    let config = auction.config in
    let calls : calls_of (entries ++ entry ∷ []) ≡ calls_of entries ++ call ∷ [] =
    map-append call_of entries (entry ∷ []) in
    record {
      members =
          members ∙ ap (λ (ms : List ℕ). ms ++ entering_members (entry ∷ [])) is.members
          ∙ sym (members_push entries entry);
      auctions =
          auctions ∙ ap (λ (ks : List AuctionKind). ks ++ auctions_of_reply reply) is.auctions
          ∙ sym (auctions_push entries entry);
      none = tape ∙ is.none;
      replies = replies-more config auction.state entries call reply is.replies is.state answered;
      state =
          ap (λ (state : State). (step config state call).0) is.state
          ∙ sym (rw calls (state_after-push config (opening_state config) (calls_of entries) call));
    }

-- where memory may be refused
pub trades-kept : {E : Type 0} (r : Result (Unit {0}) E) (old new : TradesRecorder) (auction : RunningAuction) (call
    : Call)
    (reply : Reply) (entries : List Entry) → reply ≡ (step auction.config auction.state call).1
    → new.members.items ≡ old.members.items ++ entering_members (entry_of call reply ∷ [])
    → OnOk r (new.auctions.items ≡ old.auctions.items ++ auctions_of_reply reply)
    → new.tape.items ≡ old.tape.items → HasTradesSoFar old auction entries
    → OnOk r (HasTradesSoFar new (auction_after_call auction call) (entries ++ entry_of call reply ∷ []))
trades-kept (Ok u) old new auction call reply entries answered members auctions tape is =
    trades-more old new auction call reply entries answered members auctions tape is
trades-kept (Err e) old new auction call reply entries answered members auctions tape is = tt

-- ---- each trade is reported

auctions_cons : (entry : Entry) (entries : List Entry)
    → trade_auctions (entry ∷ entries) ≡ auctions_of_reply entry.reply ++ trade_auctions entries
unfolding trade_auctions
auctions_cons entry entries = refl

trades-printed_from : (config : Config) (state : State) (entries : List Entry) → Replied config state entries
    → length state.tape + length (trade_auctions entries) ≡ length (state_after config state (calls_of entries)).tape
trades-printed_from config state [] h = omega (arith, ap length auctions_none)
trades-printed_from config state (entry ∷ entries) h =
    let next = (step config state (call_of entry)).0 in
    let grown = rw (← head_replied config state entry entries h) at (step-reported config state (call_of entry)).tape in
    let rest = trades-printed_from config next entries (tail_replied config state entry entries h) in
    let parts =
    ap length (auctions_cons entry entries)
    ∙ length-append (auctions_of_reply entry.reply) (trade_auctions entries) in
    omega (arith, grown, rest, parts)

-- a lawful history reports an auction for each trade of its tape
pub trades-printed : (config : Config) (entries : List Entry) → IsLegal config entries
    → length (trade_auctions entries) ≡ length (replay config (calls_of entries)).0.tape
trades-printed config entries legal =
    sym (zero-add (length (trade_auctions entries))) ∙ trades-printed_from config (opening_state config) entries
    legal.replies
