-- Answers of `BoardCore::write_down` (src/board_core.rt): what the prover left open; rt looks here.
use Rattle.std.proofs.Common.{arith, ◌≡◌, ◌+◌, ◌<◌, ◌∙◌, sym, ap, subst, refl, length, set, slice_index, ℕ, [], ◌∷◌}
use Rattle.std.proofs.Common.{◌++◌}
use Rattle.std.specs.Prelude.{vec_capacity}
use Rattle.std.proofs.lemmas.List.{get_or_default}
use Rattle.auction_terms.specs.declared.Config.{Config}
use Rattle.auction_terms.specs.Day.{calls_of, replay, step}
use Rattle.auction_terms.specs.Auxiliary.RunningAuction.{RunningAuction}
use Rattle.board_terms.specs.declared.calls.Receipt.{Receipt}
use Rattle.board_terms.specs.declared.calls.Shown.{Shown}
use Rattle.auction.specs.AuctionState.{call_by}
use Rattle.board_terms.specs.MemberView.{after_call}
use Rattle.board_terms.specs.CallsAndLooks.{CallsOnce, ShowsAfter}
use Rattle.board_terms.proofs.HistoryLaws.{CoreInvariant-push, CallsOnce-recorded, placed_calls-one_more}
use Rattle.board_terms.proofs.HistoryLaws.{ShowsAfter-call}
use Rattle.board_terms.specs.BoardViews.{BoardHistory, BoardMember}
use Rattle.board_terms.specs.Closings.{HasSeenBeginning}
use Rattle.board_terms.specs.CoreInvariant.{CoreInvariant}
use Rattle.board_terms.proofs.board_core.BoardCore.write_down.Goals as goal

pub count_call-requires-clause-shows : goal.count_call-requires-clause-shows
count_call-requires-clause-shows c =
    let f = c.self.inside in
    let shown : Shown = record { calls = c.calls-number.result; display = c.show-display.result } in
    let call = c.args.call.now in
    let front = c.requires.front ∙ (λ i. calls_of ((sym c.self.view_is i).history) ++ call ∷ []) in
    let config : f.auction.config ≡ c.args.by.now.board.config =
    ap (λ (v : BoardHistory). v.board.config) c.self.view_is ∙ sym (ap (λ p. p.config) c.requires.board) in
    subst (λ (k : Config). ShowsAfter k c.again.result.log shown) config
    (ShowsAfter-call f.auction.config f.auction c.answer_call.new.self (calls_of f.history.items) c.again.result.log
    call.member call.command shown c.self.invariant.0.replayed c.answer_call.ensures.state
    (ap (λ b. b.log) c.again.ensures ∙ front) (c.calls-number.ensures.value
    ∙ ap (λ (r : RunningAuction). r.calls) c.show-display.ensures.state) c.show-display.ensures.display)

pub count_call-requires-clause-placed_calls : goal.count_call-requires-clause-placed_calls
count_call-requires-clause-placed_calls c =
    placed_calls-one_more (calls_of c.args.self.now.history) c.again.result.log c.args.by.now.view.number
    c.args.call.now.command c.args.by.now.view.calls (ap (λ b. b.log) c.again.ensures ∙ c.requires.front
    ∙ (λ i. calls_of c.args.self.now.history ++ call_by (c.requires.member i) c.args.call.now.command ∷ []))
    c.requires.counted

pub invariant_of-self : goal.invariant_of-self
invariant_of-self c =
    let f = c.self.inside in
    let k = c.self.invariant.0 in
    let call = c.args.call.now in
    let config = f.auction.config in
    let room : length f.history.items < config.max_calls =
    subst (λ (v : BoardHistory). length v.history < v.board.config.max_calls) (sym c.self.view_is) c.requires.room in
    let members : f.members ≡ c.args.self.now.board.members =
    ap (λ (v : BoardHistory). v.board.members) c.self.view_is in
    let one_of : call.member < f.members =
    omega (arith, c.requires.follows.number, c.requires.member, members) in
    let front : c.args.front.log ≡ calls_of f.history.items ++ call ∷ [] =
    c.requires.front ∙ (λ i. calls_of ((sym c.self.view_is i).history) ++ call ∷ []) in
    let inside : c.from.result < length f.counted.items = omega (arith, k.wide, one_of, c.from.ensures) in
    let at : c.from.result ≡ call.member = c.from.ensures in
    let was_at : c.index_mut.result.now ≡ slice_index f.counted.items call.member =
    c.index_mut.ensures.value ∙ get_or_default f.counted.items c.from.result c.index_mut.result.now 0 inside
    ∙ ap (λ (j : ℕ). slice_index f.counted.items j) at in
    let set_is : set f.counted.items c.from.result (c.index_mut.result.now + 1)
    ≡ set f.counted.items call.member (slice_index f.counted.items call.member + 1) =
    λ i. set f.counted.items (at i) (was_at i + 1) in
    let pushed =
    CoreInvariant-push config f.members f.auction c.show-display.new.self f.history.items
    c.push_reserved.new.self.items f.front.log c.args.front.log f.counted.items _ _ _ call.member call.command
    c.answer_call.new.reply k room one_of c.answer_call.ensures.reply (c.show-display.ensures.state
    ∙ c.answer_call.ensures.state) c.push_reserved.ensures.items front set_is c.push_reserved.ensures.capacity in
    let after : RunningAuction = c.show-display.new.self in
    let same : after.config ≡ config =
    ap (λ (r : RunningAuction). r.config) (c.show-display.ensures.state ∙ c.answer_call.ensures.state) in (
      subst (λ (k : Config). CoreInvariant k f.members after c.push_reserved.new.self.items c.args.front.log
          (set f.counted.items c.from.result (c.index_mut.result.now + 1)) (vec_capacity c.push_reserved.new.self))
          (sym same) pushed,
      c.self.invariant.1 ∙ ap (λ (v : BoardHistory). v.board.book) c.self.view_is ∙ sym c.requires.book,
    )

pub returns-clause-legal : goal.returns-clause-legal
returns-clause-legal c =
    (invariant_of-self c).0.legal

pub returns-clause-call : goal.returns-clause-call
returns-clause-call c =
    let k = c.self.invariant.0 in
    let by = c.args.by.now in
    let call = c.args.call.now in
    let config = c.self.inside.auction.config in
    let calls = calls_of c.args.self.now.history in
    let seen = c.again.result.log in
    let r : Receipt = record { number = c.calls-number.result; reply = c.answer_call.new.reply } in
    let seen_is : seen ≡ calls ++ call_by by.view.number call.command ∷ [] =
    ap (λ b. b.log) c.again.ensures ∙ c.requires.front
    ∙ (λ i. calls ++ call_by (c.requires.member i) call.command ∷ []) in
    let number : r.number ≡ length calls + 1 =
    c.calls-number.ensures.value
    ∙ ap (λ (r : RunningAuction). r.calls) (c.show-display.ensures.state ∙ c.answer_call.ensures.state)
    ∙ ap (λ (r : RunningAuction). r.calls + 1) k.replayed
    ∙ ap (λ (v : BoardHistory). length (calls_of v.history) + 1) c.self.view_is in
    let reply : r.reply ≡ (step config (replay config calls).0 (call_by by.view.number call.command)).1 =
    c.answer_call.ensures.reply
    ∙ ap (λ (r : RunningAuction). (step r.config r.state call).1) k.replayed
    ∙ (λ i. (step config (replay config (calls_of (c.self.view_is i).history)).0
    (call_by (c.requires.member i) call.command)).1) in
    let follows = subst (λ (p : ℕ). HasSeenBeginning p calls by.view) refl c.requires.follows in
    subst (λ (m : BoardMember). CallsOnce c.args.self.now.board.config by.view m.view call.command r)
    (sym c.count_call.ensures)
    (subst (λ (v : BoardHistory). CallsOnce v.board.config by.view (after_call by.view seen) call.command r)
    c.self.view_is (CallsOnce-recorded config c.args.self.now.board.members by.view calls seen call.command r
    follows c.requires.counted seen_is number reply))
