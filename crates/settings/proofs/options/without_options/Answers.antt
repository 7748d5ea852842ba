-- Answers of `without_options` (src/options.rt): what the prover left open; rt looks here.
use Rattle.std.proofs.Common.{◌∙◌, ap}
use Rattle.clap.specs.Simple.{app_of_fields, on_top}
use Rattle.std.specs.Prelude.{true}
use Rattle.settings.proofs.options.without_options.Goals as goal

pub returns : goal.returns
returns c =
    ap app_of_fields c.after_help.ensures ∙ ap app_of_fields c.about.ensures ∙ ap app_of_fields c.version.ensures
    ∙ ap (on_top (λ top. record top { has_version = true })) c.new.ensures.app
