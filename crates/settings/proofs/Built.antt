-- The command as it is built up.
use Rattle.std.proofs.Common.{◌≡◌, ◌∙◌, ◌<◌, ◌≤◌, ◌+◌, ℕ, List, [], ◌∷◌, ◌++◌, ap, ap₂, map, take, drop, length, sym}
use Rattle.std.proofs.Common.{append_assoc, append-nil, slice_index_or}
use Rattle.std.proofs.lemmas.List.{map_more, take_all}
use Rattle.std.specs.Prelude.{Result, Ok, Err, IfOk}
use Rattle.clap.specs.declared.builder.command.Command.{Command}
use Rattle.clap.specs.declared.error.Error.{Error}
use Rattle.clap.specs.Walk.{Rule}
use Rattle.clap.specs.Simple.{App, app_of, with_rule}
use Rattle.settings.specs.Options.{callboard, options}
use Rattle.settings.specs.Table.{rule_for, rule_for_other, with_rules, without_options}
use Rattle.settings.specs.declared.options.Number.{Number}
use Rattle.settings.specs.declared.options.Other.{Other}

-- with no rule more it is the same
pub no_rules : (a : App) → a ≡ with_rules a []
no_rules a = ap (λ rules. record a { top = record a.top { rules = rules } }) (sym (append-nil a.top.rules))

-- one option more
pub more_rules : {X : Type 0} (rule : X → Rule) (a b c : App) (lines : List X) (i : ℕ) (n : X) (r : Rule)
    → i < length lines → b ≡ with_rules a (map rule (take i lines))
    → r ≡ rule (slice_index_or lines i n) → c ≡ with_rule b r
    → c ≡ with_rules a (map rule (take (i + 1) lines))
more_rules rule a b c lines i n r lt before same added =
    added ∙ ap₂ with_rule before same
    ∙ ap (λ rules. record a { top = record a.top { rules = rules } })
    (append_assoc a.top.rules (map rule (take i lines)) (rule (slice_index_or lines i n) ∷ [])
    ∙ ap (λ rules. a.top.rules ++ rules) (sym (map_more rule lines i n lt)))

-- all of them
pub all_rules : {X : Type 0} (rule : X → Rule) (a b : App) (lines : List X) (i : ℕ) → length lines ≤ i
    → b ≡ with_rules a (map rule (take i lines)) → b ≡ with_rules a (map rule lines)
all_rules rule a b lines i le h = rw take_all at h

-- the options of the first table, and then those of the other
pub whole_if_made : (r : Result Command Error) (a b : App) (numbers : List Number) (others : List Other)
    → a ≡ without_options → b ≡ with_rules a (map rule_for numbers) → map rule_for numbers ≡ take 8 options
    → map rule_for_other others ≡ drop 8 options
    → IfOk r (λ made. app_of made ≡ with_rules b (map rule_for_other others))
    → IfOk r (λ made. app_of made ≡ callboard)
unfolding callboard
whole_if_made (Ok made) a b numbers others start table first second rest =
    rest ∙ ap₂ with_rules (table ∙ ap₂ with_rules start first) second
whole_if_made (Err e) a b numbers others start table first second rest = rest
