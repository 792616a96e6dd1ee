-- The creases of a pattern may stand, and what stands of a draft.
use Rattle.std.proofs.Common.{◌≡◌, sym, subst}
use Rattle.sheet.specs.Pattern.{ExactPattern, IsPattern}
use Rattle.creases.specs.Standing.{AreStanding}
use Rattle.edits.specs.Drafts.{ExactDraft, with_creases, pattern_of}

pub standing_of : (pattern : ExactPattern) → IsPattern pattern → AreStanding pattern.creases
standing_of pattern p = record {
  held = λ i d l. (let k = p.keys i d l in record { segment = k.segment; from = k.from; to = k.to });
  ordered = p.ordered;
  apart = p.apart;
}

-- a draft keeps the pattern that is drawn on
pub made_of : (old new : ExactDraft) → new.pattern ≡ old.pattern → IsPattern (with_creases old.pattern new.creases) → IsPattern (pattern_of new)
made_of old new e h = subst (λ p. IsPattern (with_creases p new.creases)) (sym e) h
