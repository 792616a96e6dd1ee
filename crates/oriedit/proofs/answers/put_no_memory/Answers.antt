use Rattle.std.proofs.Common.{false}
use Rattle.std.specs.Prelude.{None, codes}
use Rattle.api.specs.HeadText.{head_text}
use Rattle.oriedit.proofs.TwoPuts.{put_both, put_failed}
use Rattle.oriedit.proofs.answers.put_no_memory.Goals as goal

pub returns-in_err-write_head-clause-bytes : goal.returns-in_err-write_head-clause-bytes
returns-in_err-write_head-clause-bytes g c =
    put_failed _ _ (head_text 507 false 10 None) (codes "no-memory\n") _ _ c.in_err-write_head.ensures.bytes c.from_residual.ensures.0

pub returns-clause-bytes : goal.returns-clause-bytes
returns-clause-bytes g c =
    put_both _ _ _ _ (head_text 507 false 10 None) (codes "no-memory\n") c.in_ok-write_head.field-0 c.put.result c.in_ok-write_head.ensures.bytes c.put.ensures.bytes
