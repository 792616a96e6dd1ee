use Rattle.std.proofs.Common.{true, ap, ap₂, codes, map, ◌≡◌, ◌∙◌, string_bytes}
use Rattle.std.proofs.lemmas.Result.{IfOk-weaker}
use Rattle.clap.specs.Words.{app_of, is_simple, matches_of, with_rule}
use Rattle.clap.specs.Simple.{app_of_fields}
use Rattle.words.specs.Apps.{bare_app, script_app}
use Rattle.words.proofs.Bare.{bare, script_is_simple}
use Rattle.words.proofs.matches.script_matches.Goals as goal

pub returns : goal.returns
returns c =
    let bare_is : app_of c.disable_help_flag.result ≡ bare_app (codes "script") = ap app_of_fields c.disable_help_flag.ensures ∙ ap (λ f. app_of_fields (record f { disable_help_flag = true })) c.no_binary_name.ensures ∙ ap bare c.new.ensures.app in
    let app_is : app_of c.in_ok-command.command ≡ script_app = c.in_ok-command.ensures.shape c.option-keep.ensures.local ∙ ap₂ with_rule bare_is c.option-keep.ensures.rule in
    let parse = c.try_get_matches_from in
    record {
      found = IfOk-weaker parse.result _ _ (λ m h. (h (ap is_simple app_is ∙ script_is_simple)).0 ∙ ap (λ a. matches_of a (map string_bytes c.args.words.now)) app_is) parse.ensures.matches;
    }
