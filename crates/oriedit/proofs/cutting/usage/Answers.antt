use Rattle.std.proofs.Common.{inr, refl}
use Rattle.words.specs.Words.{usage_text}
use Rattle.oriedit.proofs.Answered.{put_part}
use Rattle.oriedit.proofs.cutting.usage.Goals as goal

pub returns-in-Err-clause-bytes : goal.returns-in-Err-clause-bytes
returns-in-Err-clause-bytes g c =
    let p = put_part _ _ _ usage_text _ c.in-Err.ensures.bytes in
    inr (refl, (p.part, p.front, p.gained))
