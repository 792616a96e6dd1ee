-- What words ask for, by their first word.
use Rattle.std.proofs.Common.{◌≡◌, ◌≢◌, ℕ, List, [], ◌∷◌, Option, ap, sym, subst, arith}
use Rattle.std.specs.Prelude.{codes}
use Rattle.sheet.specs.Sheet.{ExactSheet}
use Rattle.lattice.specs.Lattice.{Measures}
use Rattle.words.specs.Tasks.{Task}
use Rattle.words.specs.Words.{AreForCheck, AreForScript, AreForGenerate, AreForServe, Behind, Names}
use Rattle.words.proofs.Elements.{head, tail}

-- the further words are those behind the first one
further_are : (first : List ℕ) (P : List (List ℕ) → Type 0) (further : List (List ℕ)) → Behind first P (first ∷ further) → P further
further_are first P further (fs, e, p) = subst P (sym (ap tail e)) p

-- a command has its first word
begins_with : (first : List ℕ) (P : List (List ℕ) → Type 0) (words : List (List ℕ)) → Behind first P words → head words ≡ first
begins_with first P words (fs, e, p) = ap head e

abbrev pub first_word : Task → List ℕ
first_word Task.Usage = []
first_word Task.Cut = codes "cut"
first_word (Task.Check l s) = codes "check"
first_word (Task.Script keep) = codes "script"
first_word (Task.Generate seed count) = codes "generate"
first_word (Task.Serve port connections keep) = codes "serve"

pub starts : (words : List (List ℕ)) (t : Task) → Names words t → head words ≡ first_word t
starts words Task.Usage n = absurd n
starts words Task.Cut n = begins_with (codes "cut") (λ fs. fs ≡ []) words n
starts words (Task.Check l s) n = begins_with (codes "check") (λ fs. AreForCheck fs l s) words n
starts words (Task.Script keep) n = begins_with (codes "script") (λ fs. AreForScript fs keep) words n
starts words (Task.Generate seed count) n = begins_with (codes "generate") (λ fs. AreForGenerate fs seed count) words n
starts words (Task.Serve port connections keep) n = begins_with (codes "serve") (λ fs. AreForServe fs port connections keep) words n

-- the first words differ
abbrev initial : List ℕ → ℕ
initial [] = 0
initial (b ∷ bs) = b

pub cut_check : codes "cut" ≢ codes "check"
cut_check e = cc

pub cut_script : codes "cut" ≢ codes "script"
cut_script e = cc

pub cut_generate : codes "cut" ≢ codes "generate"
cut_generate e = cc

pub cut_serve : codes "cut" ≢ codes "serve"
cut_serve e = cc

pub check_script : codes "check" ≢ codes "script"
check_script e = cc

pub check_generate : codes "check" ≢ codes "generate"
check_generate e = cc

pub check_serve : codes "check" ≢ codes "serve"
check_serve e = (let h : 99 ≡ 115 = ap initial e in omega (arith, h))

pub script_generate : codes "script" ≢ codes "generate"
script_generate e = cc

pub script_serve : codes "script" ≢ codes "serve"
script_serve e = cc

pub generate_serve : codes "generate" ≢ codes "serve"
generate_serve e = cc

pub only_check : (further : List (List ℕ)) → ((l : Measures) (s : ExactSheet) → ¬ AreForCheck further l s)
    → (t : Task) → ¬ Names (codes "check" ∷ further) t
only_check further no_one Task.Usage n = n
only_check further no_one Task.Cut n = cut_check (sym (starts _ Task.Cut n))
only_check further no_one (Task.Check l s) n = no_one l s (further_are (codes "check") (λ fs. AreForCheck fs l s) further n)
only_check further no_one (Task.Script keep) n = check_script (starts _ (Task.Script keep) n)
only_check further no_one (Task.Generate seed count) n = check_generate (starts _ (Task.Generate seed count) n)
only_check further no_one (Task.Serve port connections keep) n = check_serve (starts _ (Task.Serve port connections keep) n)

pub only_script : (further : List (List ℕ)) → ((keep : Option (List ℕ)) → ¬ AreForScript further keep)
    → (t : Task) → ¬ Names (codes "script" ∷ further) t
only_script further no_one Task.Usage n = n
only_script further no_one Task.Cut n = cut_script (sym (starts _ Task.Cut n))
only_script further no_one (Task.Check l s) n = check_script (sym (starts _ (Task.Check l s) n))
only_script further no_one (Task.Script keep) n = no_one keep (further_are (codes "script") (λ fs. AreForScript fs keep) further n)
only_script further no_one (Task.Generate seed count) n = script_generate (starts _ (Task.Generate seed count) n)
only_script further no_one (Task.Serve port connections keep) n = script_serve (starts _ (Task.Serve port connections keep) n)

pub only_serve : (further : List (List ℕ)) → ((port connections : ℕ) (keep : Option (List ℕ)) → ¬ AreForServe further port connections keep)
    → (t : Task) → ¬ Names (codes "serve" ∷ further) t
only_serve further no_one Task.Usage n = n
only_serve further no_one Task.Cut n = cut_serve (sym (starts _ Task.Cut n))
only_serve further no_one (Task.Check l s) n = check_serve (sym (starts _ (Task.Check l s) n))
only_serve further no_one (Task.Script keep) n = script_serve (sym (starts _ (Task.Script keep) n))
only_serve further no_one (Task.Generate seed count) n = generate_serve (sym (starts _ (Task.Generate seed count) n))
only_serve further no_one (Task.Serve port connections keep) n = no_one port connections keep (further_are (codes "serve") (λ fs. AreForServe fs port connections keep) further n)
