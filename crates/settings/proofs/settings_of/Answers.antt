-- Answers of `settings_of` (src/lib.rt): what the prover left open; rt looks here.
use Rattle.std.proofs.Common.{arith, codes}
use Rattle.auction_terms.specs.declared.limits.TheConstants.{MAX_CALLS, MAX_MEMBERS, MAX_OPEN_ORDERS, MAX_TICK}
use Rattle.clap.specs.Matches.{found_of}
use Rattle.clap.specs.Walk.{rows_of}
use Rattle.settings.proofs.Readings.{at_most_if_some, between, has_options, wider, wider_or_none}
use Rattle.settings.proofs.TaskLaws.{reserve_in_range}
use Rattle.settings.proofs.settings_of.Goals as goal

pub number_of-low-requires : goal.number_of-low-requires
number_of-low-requires c =
    wider 1 MAX_TICK (codes "low") (rows_of (found_of c.args.matches.now)) (omega arith)
    (has_options c.args.matches.now c.requires.parsed).low

pub number_of-high-requires : goal.number_of-high-requires
number_of-high-requires c =
    wider 1 MAX_TICK (codes "high") (rows_of (found_of c.args.matches.now)) (omega arith)
    (has_options c.args.matches.now c.requires.parsed).high

pub number_of-reference-requires : goal.number_of-reference-requires
number_of-reference-requires c =
    wider 1 MAX_TICK (codes "reference") (rows_of (found_of c.args.matches.now)) (omega arith)
    (has_options c.args.matches.now c.requires.parsed).reference

pub number_of-max_open-requires : goal.number_of-max_open-requires
number_of-max_open-requires c =
    wider 1 MAX_OPEN_ORDERS (codes "open") (rows_of (found_of c.args.matches.now)) (omega arith)
    (has_options c.args.matches.now c.requires.parsed).max_open

pub number_of-max_calls-requires : goal.number_of-max_calls-requires
number_of-max_calls-requires c =
    wider 1 MAX_CALLS (codes "calls") (rows_of (found_of c.args.matches.now)) (omega arith)
    (has_options c.args.matches.now c.requires.parsed).max_calls

pub number_of-members-requires : goal.number_of-members-requires
number_of-members-requires c =
    wider 1 MAX_MEMBERS (codes "members") (rows_of (found_of c.args.matches.now)) (omega arith)
    (has_options c.args.matches.now c.requires.parsed).members

pub number_if_given-range-requires : goal.number_if_given-range-requires
number_if_given-range-requires c =
    wider_or_none 0 MAX_TICK (codes "range") (rows_of (found_of c.args.matches.now)) (omega arith)
    (has_options c.args.matches.now c.requires.parsed).range

pub overflow_cast-result : goal.overflow_cast-result
overflow_cast-result c =
    let fits =
    between 1 MAX_MEMBERS (codes "members") (rows_of (found_of c.args.matches.now)) c.number_of-members.result
    (has_options c.args.matches.now c.requires.parsed).members c.number_of-members.ensures in
    omega arith

pub returns-clause-ranges : goal.returns-clause-ranges
returns-clause-ranges c =
    let has = has_options c.args.matches.now c.requires.parsed in
    record {
      low =
          between 1 MAX_TICK (codes "low") (rows_of (found_of c.args.matches.now)) c.number_of-low.result has.low
          c.number_of-low.ensures;
      high =
          between 1 MAX_TICK (codes "high") (rows_of (found_of c.args.matches.now)) c.number_of-high.result has.high
          c.number_of-high.ensures;
      reference =
          between 1 MAX_TICK (codes "reference") (rows_of (found_of c.args.matches.now)) c.number_of-reference.result
          has.reference c.number_of-reference.ensures;
      members =
          between 1 MAX_MEMBERS (codes "members") (rows_of (found_of c.args.matches.now)) c.number_of-members.result
          has.members c.number_of-members.ensures;
      max_open =
          between 1 MAX_OPEN_ORDERS (codes "open") (rows_of (found_of c.args.matches.now)) c.number_of-max_open.result
          has.max_open c.number_of-max_open.ensures;
      max_calls =
          between 1 MAX_CALLS (codes "calls") (rows_of (found_of c.args.matches.now)) c.number_of-max_calls.result
          has.max_calls c.number_of-max_calls.ensures;
      range =
          at_most_if_some 0 MAX_TICK (codes "range") (rows_of (found_of c.args.matches.now))
          c.number_if_given-range.result has.range c.number_if_given-range.ensures;
      reserve = reserve_in_range (rows_of (found_of c.args.matches.now)) c.args.task has.reserve c.requires.task;
    }
