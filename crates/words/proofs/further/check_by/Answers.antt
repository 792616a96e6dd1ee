use Rattle.std.proofs.Common.{refl}
use Rattle.words.proofs.Spelled.{is_lattice}
use Rattle.words.proofs.further.check_by.Goals as goal

pub returns-in_err-lattice-clause-none : goal.returns-in_err-lattice-clause-none
returns-in_err-lattice-clause-none c = λ _ lattice sheet s.
    c.in_err-lattice.ensures.none.0 refl
    (is_lattice _ _ _ _ _ c.in_ok-d.d c.in_ok-k.k c.in_ok-tol.tol lattice sheet c.in_ok-d.ensures c.in_ok-k.ensures c.in_ok-tol.ensures s)
