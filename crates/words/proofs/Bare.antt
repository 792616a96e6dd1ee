-- The commands as they are built.
use Rattle.std.proofs.Common.{◌≡◌, refl, true}
use Rattle.clap.specs.Words.{App, is_simple}
use Rattle.clap.proofs.OnLiterals.{clap_on_literals}
use Rattle.words.specs.Apps.{check_app, script_app, generate_app, serve_app}

abbrev pub bare : App → App
bare a = record a { top = record a.top { no_binary_name = true; disable_help_flag = true } }

pub check_is_simple : is_simple check_app ≡ true
unfolding clap_on_literals
check_is_simple = refl

pub script_is_simple : is_simple script_app ≡ true
unfolding clap_on_literals
script_is_simple = refl

pub generate_is_simple : is_simple generate_app ≡ true
unfolding clap_on_literals
generate_is_simple = refl

pub serve_is_simple : is_simple serve_app ≡ true
unfolding clap_on_literals
serve_is_simple = refl
