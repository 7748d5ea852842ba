-- Answers of `BoardCore::is_followed_by` (src/board_core.rt): what the prover left open; rt looks here.
use Rattle.std.proofs.Common.{subst, ◌<◌, length, ℕ, List, MatchBool}
use Rattle.std.proofs.lemmas.List.{length-map}
use mathlib.Core.List.{IsPrefix}
use Rattle.auction_terms.specs.Day.{calls_of}
use Rattle.auction_terms.specs.declared.Call.{Call}
use Rattle.board_terms.specs.Closings.{HasSeenBeginning}
use Rattle.board_terms.proofs.HistoryLaws.{HasSeenBeginning-by_length}
use Rattle.board_terms.specs.BoardViews.{BoardMember, BoardHistory, OpenedBoard}
use Rattle.board_terms.proofs.board_core.BoardCore.is_followed_by.Goals as goal

pub returns : goal.returns
returns c =
    let f = c.self.inside in
    let m = c.by.inside in
    let found = c.begins.result in
    let seen = m.seen.front.log in
    let begins : MatchBool found (IsPrefix seen (calls_of f.history.items)) (length f.history.items < length seen) =
    subst (λ (n : ℕ). MatchBool found (IsPrefix seen (calls_of f.history.items)) (n < length seen))
    (length-map f.history.items _)
    (subst (λ (s : List Call). MatchBool found (IsPrefix seen s) (length s < length seen)) c.self.invariant.0.front_is
    c.begins.ensures) in
    subst (λ (p : OpenedBoard). MatchBool found
    (HasSeenBeginning p.members (calls_of c.args.self.now.history) c.args.by.now.view)
    (length c.args.self.now.history < length c.args.by.now.view.seen)) c.requires
    (subst (λ (v : BoardHistory). MatchBool found
    (HasSeenBeginning c.args.by.now.board.members (calls_of v.history) c.args.by.now.view)
    (length v.history < length c.args.by.now.view.seen)) c.self.view_is
    (subst (λ (s : BoardMember). MatchBool found (HasSeenBeginning s.board.members (calls_of f.history.items) s.view)
    (length f.history.items < length s.view.seen)) c.by.view_is
    (HasSeenBeginning-by_length m.members m.number m.calls m.last seen (calls_of f.history.items)
    (length f.history.items) found c.by.invariant.0 begins)))
