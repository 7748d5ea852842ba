-- Answers of `TradesRecorder::hear` (src/trades.rt): what the prover left open; rt looks here.
use Rattle.std.proofs.Common.{refl}
use Rattle.day_tables.proofs.TradeTableLaws.{trades-kept}
use Rattle.day_tables.proofs.trades.TradesRecorder.hear.Goals as goal

pub returns : goal.returns
returns c = λ auction entries answered is.
    trades-kept c.add_auctions.result _ _ auction c.args.call.now c.args.reply.now entries answered
    c.in_ok-add_member.ensures c.add_auctions.ensures refl is
