-- Answers of `is_in_use` (src/board/opening.rt): what the prover left open; rt looks here.
use Rattle.std.proofs.Common.{rules, tests}
use Rattle.std.specs.Prelude.{is_some}
use Rattle.std.proofs.lemmas.Iterator.{YieldsList-from_slice}
use Rattle.std.proofs.lemmas.Iterator.Search.{any_from_yields_List}
use Rattle.auction_c.specs.declared.member_handle.AuctionMember.{AuctionMember}
use Rattle.auction_c.proofs.board.opening.is_in_use.Goals as goal

pub returns : goal.returns
returns c =
    let test = λ (h : AuctionMember). is_some h.boxed.value in
    any_from_yields_List test _ _ c.any.result c.any.ensures.ran (YieldsList-from_slice c.args.handles.now cc)
    (λ x b q k. search (rules, tests))
