use Rattle.std.proofs.Common.{true, ap, ap₂, codes, map, ◌≡◌, ◌∙◌, string_bytes}
use Rattle.std.proofs.lemmas.Result.{IfOk-weaker}
use Rattle.clap.specs.Words.{app_of, is_simple, matches_of, with_rule}
use Rattle.clap.specs.Simple.{app_of_fields}
use Rattle.words.specs.Apps.{option_rule, bare_app, check_app}
use Rattle.words.proofs.Bare.{bare, check_is_simple}
use Rattle.words.proofs.matches.check_matches.Goals as goal

pub returns : goal.returns
returns c =
    let bare_is : app_of c.disable_help_flag.result ≡ bare_app (codes "check") = ap app_of_fields c.disable_help_flag.ensures ∙ ap (λ f. app_of_fields (record f { disable_help_flag = true })) c.no_binary_name.ensures ∙ ap bare c.new.ensures.app in
    let one_is : app_of c.in_ok-arg.field-0 ≡ with_rule (bare_app (codes "check")) (option_rule (codes "d")) = c.in_ok-arg.ensures.shape c.option-d.ensures.local ∙ ap₂ with_rule bare_is c.option-d.ensures.rule in
    let two_is = c.in_ok-arg-2.ensures.shape c.option-k.ensures.local ∙ ap₂ with_rule one_is c.option-k.ensures.rule in
    let three_is = c.in_ok-arg-3.ensures.shape c.option-tol.ensures.local ∙ ap₂ with_rule two_is c.option-tol.ensures.rule in
    let four_is = c.in_ok-arg-4.ensures.shape c.option-w.ensures.local ∙ ap₂ with_rule three_is c.option-w.ensures.rule in
    let app_is : app_of c.in_ok-command.command ≡ check_app = c.in_ok-command.ensures.shape c.option-h.ensures.local ∙ ap₂ with_rule four_is c.option-h.ensures.rule in
    let parse = c.try_get_matches_from in
    record {
      found = IfOk-weaker parse.result _ _ (λ m h. (h (ap is_simple app_is ∙ check_is_simple)).0 ∙ ap (λ a. matches_of a (map string_bytes c.args.words.now)) app_is) parse.ensures.matches;
    }
