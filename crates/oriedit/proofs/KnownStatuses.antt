-- The statuses of answers are among those that a head can have.
use Rattle.dialogue.specs.declared.cause.Cause.{Cause}
use Rattle.dialogue.specs.declared.cause.Cause.TheVariants as cause
use Rattle.dialogue.specs.declared.command.Command.{Command}
use Rattle.dialogue.specs.declared.command.Command.TheVariants as command
use Rattle.dialogue.specs.declared.reply.Reply.{Reply}
use Rattle.dialogue.specs.declared.reply.Reply.TheVariants as reply
use Rattle.api.specs.Statuses.{IsStatus}
use Rattle.api.proofs.Callers.{is_200, is_201, is_404, is_409, is_422, is_503}
use Rattle.oriedit.specs.HttpAnswers.{cause_status, done_status, reply_status}

cause_known : (c : Cause) → IsStatus (cause_status c)
cause_known cause.NoProject = is_404
cause_known cause.NoVertex = is_404
cause_known cause.Exists = is_409
cause_known (cause.Stale rev) = is_409
cause_known (cause.Cut bad) = is_422
cause_known cause.RevFull = is_422
cause_known cause.NothingToUndo = is_422
cause_known cause.NothingToRedo = is_422
cause_known (cause.Cp bad) = is_422
cause_known (cause.Edit bad) = is_422

done_known : (c : Command) → IsStatus (done_status c)
done_known (command.New name sheet) = is_201
done_known command.List = is_200
done_known (command.Show name) = is_200
done_known (command.Faults name) = is_200
done_known (command.Vertex name at) = is_200
done_known (command.PatternText name) = is_200
done_known (command.CpText name) = is_200
done_known (command.FoldText name) = is_200
done_known (command.Change name rev c) = is_200

pub reply_known : (c : Command) (r : Reply) → IsStatus (reply_status c r)
reply_known c (reply.Done rev) = done_known c
reply_known c (reply.Imported rev drawn dropped) = is_200
reply_known c (reply.Shown rev s) = is_200
reply_known c (reply.Faults rev list) = is_200
reply_known c (reply.Vertex at r) = is_200
reply_known c (reply.Text bytes) = is_200
reply_known c (reply.Names names) = is_200
reply_known c (reply.Refused why) = cause_known why
reply_known c reply.KeeperFailed = is_503
