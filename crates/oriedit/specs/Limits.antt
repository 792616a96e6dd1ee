-- How many bytes an input may have: fewer than these.
use Rattle.std.specs.Prelude.{ℕ, ◌^◌}

-- of `cut` and of `check`
abbrev pub input_limit : ℕ
input_limit = 2 ^ 24

-- of `script`
abbrev pub script_limit : ℕ
script_limit = 2 ^ 28
