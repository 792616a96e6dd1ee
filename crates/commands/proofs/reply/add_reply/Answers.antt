use Rattle.std.proofs.Common.{sym, ap}
use Rattle.dialogue.specs.declared.reply.Reply.TheVariants as reply
use Rattle.commands.specs.ReplyText.{reply_text}
use Rattle.commands.proofs.Blocks.{adds_same}
use Rattle.commands.proofs.reply.add_reply.Goals as goal

pub returns-in-KeeperFailed-clause-bytes : goal.returns-in-KeeperFailed-clause-bytes
returns-in-KeeperFailed-clause-bytes g c =
    adds_same _ _ _ _ (reply_text reply.KeeperFailed) (reply_text c.args.reply.now) _ (ap reply_text (sym c.in-KeeperFailed.is)) c.add_all.ensures.bytes
