-- The commands as `clap` knows them, by which it reads the words behind the first one.
use Rattle.std.specs.Prelude.{ℕ, true, List, Some, codes}
use Rattle.clap.specs.Words.{App, Rule, new_app, new_rule, with_rule}
use Rattle.words.specs.declared.argument.Argument.{Argument}
use Rattle.words.specs.declared.argument.Argument.TheVariants as argument

-- what `clap` calls an argument
abbrev pub name_of : Argument → List ℕ
name_of argument.Port = codes "port"
name_of argument.D = codes "d"
name_of argument.K = codes "k"
name_of argument.Tol = codes "tol"
name_of argument.W = codes "w"
name_of argument.H = codes "h"
name_of argument.Connections = codes "connections"
name_of argument.Keep = codes "keep"

-- an option with one value
abbrev pub option_rule : List ℕ → Rule
option_rule name = record (new_rule name) { long = Some name }

-- a word that has to be there
abbrev pub word_rule : List ℕ → Rule
word_rule name = record (new_rule name) { required = true }

-- a command that reads words alone, and knows no word for help
abbrev pub bare_app : List ℕ → App
bare_app name =
    let a = new_app name in record a {
      top = record a.top {
        no_binary_name = true;
        disable_help_flag = true;
      };
    }

abbrev pub check_app : App
check_app =
    with_rule (with_rule
    (with_rule (with_rule (with_rule (bare_app (codes "check")) (option_rule (codes "d")))
    (option_rule (codes "k"))) (option_rule (codes "tol"))) (option_rule (codes "w")))
    (option_rule (codes "h"))

abbrev pub script_app : App
script_app = with_rule (bare_app (codes "script")) (option_rule (codes "keep"))

abbrev pub generate_app : App
generate_app = with_rule (with_rule (bare_app (codes "generate")) (word_rule (codes "seed")))
    (word_rule (codes "count"))

abbrev pub serve_app : App
serve_app =
    with_rule (with_rule (with_rule (bare_app (codes "serve")) (word_rule (codes "port")))
    (option_rule (codes "connections"))) (option_rule (codes "keep"))
