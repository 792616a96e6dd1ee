-- The body of an edit: a JSON object with a command, and perhaps the rev that it is for.
use Rattle.std.specs.Prelude.{◌≡◌, ℕ, ◌≤◌, ◌⊎◌, List, [], ◌∷◌, ◌++◌, Option, Some, None}
use Rattle.std.specs.Prelude.{codes, true, IsUtf8}
use Rattle.serde_json.specs.Data.{Data, unsigned, number, string}
use Rattle.serde_json.specs.Read.{read}
use Rattle.serde_json.specs.Find.{get}
use Rattle.lines.specs.Words.{IsBlank}
use Rattle.vocabulary.specs.Revs.{last_rev, rev_text}
use Rattle.vocabulary.specs.Verbs.{verb_text, is_change}
use Rattle.vocabulary.specs.declared.verb.Verb.{Verb}

-- what is kept under the key `rev` gives this rev: nothing stands there, or a number up to the greatest
-- rev that is written without a sign, a point or an exponent
abbrev pub GivesRev : Option Data → Option ℕ → Type 0
GivesRev kept None = kept ≡ None
GivesRev kept (Some rev) = (kept ≡ Some (number (unsigned rev))) × (rev ≤ last_rev)

-- the object has the string `command`, and what it has under `rev` gives this rev
pub record Says (value : Data) (command : List ℕ) (rev : Option ℕ) : Type 0 where
  pub commands : get (codes "command") value ≡ Some (string command)
  pub gives : GivesRev (get (codes "rev") value) rev

-- a blank, a carriage return or a line feed
abbrev pub IsEnd : ℕ → Type 0
IsEnd b = IsBlank b ⊎ (b ≡ 13) ⊎ (b ≡ 10)

-- the first byte ends a word, if there is one
abbrev pub EndsWord : List ℕ → Type 0
EndsWord [] = Unit {0}
EndsWord (b ∷ bytes) = IsEnd b

-- the command begins with this word, which changes a project, and goes on so behind it
pub record IsChange (command : List ℕ) (verb : Verb) (behind : List ℕ) : Type 0 where
  pub whole : command ≡ verb_text verb ++ behind
  pub ends : EndsWord behind
  pub changes : is_change verb ≡ true

-- the command text: the word, the name with the rev behind it, and what stands behind the word
abbrev pub edit_text : List ℕ → List ℕ → Option ℕ → List ℕ → List ℕ
edit_text word name rev behind = word ++ (32 ∷ ((name ++ rev_text rev) ++ behind))

-- the command text of an edit of the project, as a command and a rev ask for it
pub record IsEditOf (name command : List ℕ) (rev : Option ℕ) (text : List ℕ) : Type 0 where
  pub verb : Verb
  pub behind : List ℕ
  pub change : IsChange command verb behind
  pub written : text ≡ edit_text (verb_text verb) name rev behind

-- the same, as an object asks for it
pub record IsEditIn (name : List ℕ) (value : Data) (text : List ℕ) : Type 0 where
  pub command : List ℕ
  pub rev : Option ℕ
  pub says : Says value command rev
  pub edit : IsEditOf name command rev text

-- the same, as a body asks for it: the body is JSON (RFC 8259), and `read` says which value it is
pub record IsEdit (name body text : List ℕ) : Type 0 where
  pub value : Data
  pub utf8 : IsUtf8 body
  pub json : read body ≡ Some value
  pub edit : IsEditIn name value text
