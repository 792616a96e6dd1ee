-- How calls that draw answer. Want of memory is free.
use Rattle.std.specs.Prelude.{List, Result, Ok, Err}
use Rattle.ports.specs.declared.stop.Stop.{Stop}
use Rattle.ports.specs.Stops.{Refuses}
use Rattle.sheet.specs.Pattern.{ExactCrease}
use Rattle.edits.specs.Drafts.{ExactDraft}
use Rattle.edits.specs.declared.refusal.EditBad.{EditBad}

-- a call that draws may answer this, where these are the right answers: the creases that stand in
-- the end, or a refusal
abbrev pub Answers : (Result (List ExactCrease) EditBad → Type 0) → Result ExactDraft (Stop EditBad) → Type 0
Answers IsRight (Ok draft) = IsRight (Ok draft.creases)
Answers IsRight (Err end) = Refuses IsRight end
