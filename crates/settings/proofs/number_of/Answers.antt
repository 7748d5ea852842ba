-- Answers of `number_of` (src/lib.rt): what the prover left open; rt looks here.
use Rattle.std.proofs.Common.{◌∙◌, rules, sym, subst}
use Rattle.std.specs.Option.{IsSome}
use Rattle.std.specs.Str.Parse.{ParsesUnsigned, ExplainsUnsignedError, HasUnsignedDigitsIfOk}
use Rattle.clap.specs.Matches.{found_of}
use Rattle.settings.proofs.Readings.{number_got}
use Rattle.settings.proofs.number_of.Goals as goal

pub unwrap-requires : goal.unwrap-requires
unwrap-requires c =
    let got =
    number_got _ (λ bs r. ParsesUnsigned 32 10 bs r × ExplainsUnsignedError 10 bs r × HasUnsignedDigitsIfOk bs r)
    (found_of c.args.matches.now) c.args.name.now c.get_one.result c.requires c.get_one.ensures.value
    (λ t x g. g.0) in
    subst IsSome (sym got.1) (search rules)

pub returns : goal.returns
returns c =
    let got =
    number_got _ (λ bs r. ParsesUnsigned 32 10 bs r × ExplainsUnsignedError 10 bs r × HasUnsignedDigitsIfOk bs r)
    (found_of c.args.matches.now) c.args.name.now c.get_one.result c.requires c.get_one.ensures.value
    (λ t x g. g.0) in
    got.2 ∙ sym got.1 ∙ c.unwrap.ensures
