-- Answers of `number_if_given` (src/lib.rt): what the prover left open; rt looks here.
use Rattle.std.specs.Str.Parse.{ParsesUnsigned, ExplainsUnsignedError, HasUnsignedDigitsIfOk}
use Rattle.clap.specs.Matches.{found_of}
use Rattle.settings.proofs.Readings.{number_or_none}
use Rattle.settings.proofs.number_if_given.Goals as goal

pub returns : goal.returns
returns c =
    number_or_none _ (λ bs r. ParsesUnsigned 32 10 bs r × ExplainsUnsignedError 10 bs r × HasUnsignedDigitsIfOk bs r)
    (found_of c.args.matches.now) c.args.name.now c.get_one.result c.requires c.get_one.ensures.none
    c.get_one.ensures.value (λ t x g. g.0)
