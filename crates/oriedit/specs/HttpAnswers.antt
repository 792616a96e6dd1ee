-- What a command that came by HTTP is answered: a status, a body, and what the head says of it.
use Rattle.std.specs.Prelude.{ℕ, List, ◌++◌, length, Bool, true, false, Option, None, codes}
use Rattle.dialogue.specs.declared.cause.Cause.{Cause}
use Rattle.dialogue.specs.declared.cause.Cause.TheVariants as cause
use Rattle.dialogue.specs.declared.command.Command.{Command}
use Rattle.dialogue.specs.declared.command.Command.TheVariants as command
use Rattle.dialogue.specs.declared.reply.Reply.{Reply}
use Rattle.dialogue.specs.declared.reply.Reply.TheVariants as reply
use Rattle.commands.specs.ReplyText.{body_text, bad_text}
use Rattle.commands.specs.declared.bad.BadText.{BadText}
use Rattle.api.specs.HeadText.{head_text}
use Rattle.api.specs.Statuses.{status_of, bad_text as refused_request}
use Rattle.api.specs.declared.bad.BadWhy.{BadWhy}

-- The methods that a path has are told where another one came.
pub record HttpAnswer : Type 0 where
  pub status : ℕ
  pub is_json : Bool
  pub allow : Option (List ℕ)
  pub body : List ℕ

-- an answer in plain text
abbrev pub plain : ℕ → List ℕ → HttpAnswer
plain status body = record { status = status; is_json = false; allow = None; body = body }

-- a project or a vertex that is not there is not found, one that is there already or has another
-- rev is in conflict, and all else that is refused cannot be done
abbrev pub cause_status : Cause → ℕ
cause_status cause.NoProject = 404
cause_status cause.NoVertex = 404
cause_status cause.Exists = 409
cause_status (cause.Stale rev) = 409
cause_status (cause.Cut bad) = 422
cause_status cause.RevFull = 422
cause_status cause.NothingToUndo = 422
cause_status cause.NothingToRedo = 422
cause_status (cause.Cp bad) = 422
cause_status (cause.Edit bad) = 422

-- a new project is created
abbrev pub done_status : Command → ℕ
done_status (command.New name sheet) = 201
done_status command.List = 200
done_status (command.Show name) = 200
done_status (command.Faults name) = 200
done_status (command.Vertex name at) = 200
done_status (command.PatternText name) = 200
done_status (command.CpText name) = 200
done_status (command.FoldText name) = 200
done_status (command.Change name rev c) = 200

abbrev pub reply_status : Command → Reply → ℕ
reply_status c (reply.Done rev) = done_status c
reply_status c (reply.Imported rev drawn dropped) = 200
reply_status c (reply.Shown rev s) = 200
reply_status c (reply.Faults rev list) = 200
reply_status c (reply.Vertex at r) = 200
reply_status c (reply.Text bytes) = 200
reply_status c (reply.Names names) = 200
reply_status c (reply.Refused why) = cause_status why
reply_status c reply.KeeperFailed = 503

-- FOLD text is JSON
abbrev pub is_fold : Command → Bool
is_fold (command.New name sheet) = false
is_fold command.List = false
is_fold (command.Show name) = false
is_fold (command.Faults name) = false
is_fold (command.Vertex name at) = false
is_fold (command.PatternText name) = false
is_fold (command.CpText name) = false
is_fold (command.FoldText name) = true
is_fold (command.Change name rev c) = false

abbrev pub is_json : Command → Reply → Bool
is_json c (reply.Done rev) = false
is_json c (reply.Imported rev drawn dropped) = false
is_json c (reply.Shown rev s) = false
is_json c (reply.Faults rev list) = false
is_json c (reply.Vertex at r) = false
is_json c (reply.Text bytes) = is_fold c
is_json c (reply.Names names) = false
is_json c (reply.Refused why) = false
is_json c reply.KeeperFailed = false

-- the head of an answer and its body, as they are written
abbrev pub answer_text : HttpAnswer → List ℕ
answer_text a = head_text a.status a.is_json (length a.body) a.allow ++ a.body

-- the answer to a refused request
abbrev pub bad_answer : BadWhy → Option (List ℕ) → HttpAnswer
bad_answer why allow = record {
  status = status_of why;
  is_json = false;
  allow = allow;
  body = refused_request why;
}

-- the answer with the reply to a command, with what is wrong with a text that is none, and where
-- memory ran out
abbrev pub reply_answer : Command → Reply → HttpAnswer
reply_answer c r = record {
  status = reply_status c r;
  is_json = is_json c r;
  allow = None;
  body = body_text r;
}

abbrev pub wrong_answer : BadText → HttpAnswer
wrong_answer bad = plain 400 (bad_text bad)

abbrev pub no_memory_answer : HttpAnswer
no_memory_answer = plain 507 (codes "no-memory\n")
