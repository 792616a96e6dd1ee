-- The last unit of a script that has ended.
use Rattle.std.proofs.Common.{◌≡◌, ◌≢◌, ◌<◌, ℕ, length, List, [], ◌∷◌, refl, sym, ap, subst, arith}
use Rattle.std.specs.Prelude.{Ok, Err}
use Rattle.oriedit.specs.Units.{last_unit}
use Rattle.oriedit.specs.Script.{Works, AreAnswered}
use Rattle.oriedit.specs.Answering.{AnswersOne, status_of}
use Rattle.oriedit.specs.Lasting.{AnswersLast}
use Rattle.oriedit.specs.declared.early.Early.{Early}
use Rattle.oriedit.specs.declared.early.Early.TheVariants as early
use Rattle.oriedit.specs.declared.status.Status.TheVariants as status
use Rattle.oriedit.proofs.Answered.{nothing_yet}

-- no unit is left
pub no_last : (rest : List ℕ) (w : Works) (clean : Type 0) → rest ≡ [] → AnswersLast rest w clean w status.Ok
no_last rest w clean e = subst (λ r. AreAnswered w clean w (last_unit r)) (sym e) (nothing_yet w clean)

pub last_answered : (rest : List ℕ) (old new : Works) (clean : Type 0) → rest ≢ []
    → AnswersOne rest old clean new (Ok tt) → AnswersLast rest old clean new status.Ok
last_answered [] old new clean n a = absurd (n refl)
last_answered (b ∷ rest) old new clean n a = a

pub last_ended : (rest : List ℕ) (old new : Works) (clean : Type 0) (e : Early) → rest ≢ []
    → AnswersOne rest old clean new (Err e) → AnswersLast rest old clean new (status_of e)
last_ended [] old new clean e n a = absurd (n refl)
last_ended (b ∷ rest) old new clean early.WriteFault n a = a
last_ended (b ∷ rest) old new clean early.NoMemory n a = a

pub some_bytes : (xs : List ℕ) → 0 < length xs → xs ≢ []
some_bytes xs l e = let n = ap length e in omega (arith, l, n)
