-- Answers of `rule_among` (src/curves.rt): what the prover left open; rt looks here.
use Rattle.std.proofs.Common.{◌≡◌, ◌+◌, get_or, refl, ap, ◌∙◌, arith}
use Rattle.auction_terms.specs.Book.{demand, supply}
use Rattle.auction_terms.proofs.LadderLaws.{at_spread}
use Rattle.day_tables.proofs.TickTableLaws.{unmarked_rule, single_told, highest_told, lowest_told, reference_told}
use Rattle.day_tables.proofs.curves.rule_among.Goals as goal

pub returns-in_default : goal.returns-in_default
returns-in_default c low book ds ss marked = unmarked_rule book low _ c.args.best.now refl marked c.in_default.ensures

pub returns-in_default-last : goal.returns-in_default-last
returns-in_default-last c low book ds ss marked =
    unmarked_rule book low _ c.args.best.now refl marked c.in_default-last.ensures

pub returns-then-lowest-highest : goal.returns-then-lowest-highest
returns-then-lowest-highest c low book ds ss marked =
    single_told book low _ c.args.best.now refl marked c.in-Some.lowest c.in-Some-last.highest c.in-Some.ensures
    c.in-Some-last.ensures (omega arith)

pub returns-then-supplies-highest : goal.returns-then-supplies-highest
returns-then-supplies-highest c low book ds ss marked =
    let i = c.in-Some.lowest in
    let j = c.in-Some-last.highest in
    let last = c.in-Some-last.ensures in
    let bid : get_or c.args.demands.now j 0 ≡ demand book (low + j) =
    ap (λ xs. get_or xs j 0) ds ∙ at_spread (demand book) low _ j last.within in
    let ask : get_or c.args.supplies.now j 0 ≡ supply book (low + j) =
    ap (λ xs. get_or xs j 0) ss ∙ at_spread (supply book) low _ j last.within in
    highest_told book low _ c.args.best.now refl marked i j c.in-Some.ensures last c.if-lowest-highest.false
    (omega (arith, bid, ask, c.if-supplies-highest.true))

pub returns-then-demands-lowest : goal.returns-then-demands-lowest
returns-then-demands-lowest c low book ds ss marked =
    let i = c.in-Some.lowest in
    let j = c.in-Some-last.highest in
    let first = c.in-Some.ensures in
    let last = c.in-Some-last.ensures in
    let bid : get_or c.args.demands.now j 0 ≡ demand book (low + j) =
    ap (λ xs. get_or xs j 0) ds ∙ at_spread (demand book) low _ j last.within in
    let ask : get_or c.args.supplies.now j 0 ≡ supply book (low + j) =
    ap (λ xs. get_or xs j 0) ss ∙ at_spread (supply book) low _ j last.within in
    let bid_low : get_or c.args.demands.now i 0 ≡ demand book (low + i) =
    ap (λ xs. get_or xs i 0) ds ∙ at_spread (demand book) low _ i first.within in
    let ask_low : get_or c.args.supplies.now i 0 ≡ supply book (low + i) =
    ap (λ xs. get_or xs i 0) ss ∙ at_spread (supply book) low _ i first.within in
    lowest_told book low _ c.args.best.now refl marked i j first last c.if-lowest-highest.false
    (omega (arith, bid, ask, c.if-supplies-highest.false)) (omega (arith, bid_low, ask_low, c.if-demands-lowest.true))

pub returns : goal.returns
returns c low book ds ss marked =
    let i = c.in-Some.lowest in
    let j = c.in-Some-last.highest in
    let first = c.in-Some.ensures in
    let last = c.in-Some-last.ensures in
    let bid : get_or c.args.demands.now j 0 ≡ demand book (low + j) =
    ap (λ xs. get_or xs j 0) ds ∙ at_spread (demand book) low _ j last.within in
    let ask : get_or c.args.supplies.now j 0 ≡ supply book (low + j) =
    ap (λ xs. get_or xs j 0) ss ∙ at_spread (supply book) low _ j last.within in
    let bid_low : get_or c.args.demands.now i 0 ≡ demand book (low + i) =
    ap (λ xs. get_or xs i 0) ds ∙ at_spread (demand book) low _ i first.within in
    let ask_low : get_or c.args.supplies.now i 0 ≡ supply book (low + i) =
    ap (λ xs. get_or xs i 0) ss ∙ at_spread (supply book) low _ i first.within in
    reference_told book low _ c.args.best.now refl marked i j first last c.if-lowest-highest.false
    (omega (arith, bid, ask, c.if-supplies-highest.false)) (omega (arith, bid_low, ask_low, c.if-demands-lowest.false))
