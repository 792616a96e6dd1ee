-- Bytes have one list of units, and one rest.
use Rattle.std.proofs.Common.{◌≡◌, ℕ, List, [], ◌∷◌, ◌++◌, length, append_assoc, refl, sym, ap, subst, ◌∙◌, arith}
use Rattle.std.specs.Prelude.{All}
use Rattle.std.specs.List.{concat}
use Rattle.std.proofs.lemmas.List.Elements.{All-head, All-tail}
use Rattle.lines.specs.Lines.{IsLine}
use Rattle.lines.proofs.callers.Lines.{one_cut}
use Rattle.commands.specs.Lines.{IsWanted}
use Rattle.oriedit.specs.Units.{IsUnit, HasNoUnit, AreUnits}
use Rattle.oriedit.proofs.UnitEnds.{IsOneCount, line_front, unit_front}

-- as many lines at the front of the same bytes are the same lines
lines_cut : (ls ms : List (List ℕ)) (xs ys : List ℕ) → All IsLine ls → All IsLine ms → length ls ≡ length ms
    → concat ls ++ xs ≡ concat ms ++ ys → (concat ls ≡ concat ms) × (xs ≡ ys)
lines_cut [] [] xs ys a b n e = (refl, e)
lines_cut [] (m ∷ ms) xs ys a b n e = absurd (omega (arith, n))
lines_cut (l ∷ ls) [] xs ys a b n e = absurd (omega (arith, n))
lines_cut (l ∷ ls) (m ∷ ms) xs ys a b n e =
    let h = All-head IsLine l ls a in
    let k = All-head IsLine m ms b in
    let c = one_cut 10 h.line k.line (concat ls ++ xs) (concat ms ++ ys) h.one k.one
    (sym (line_front l ls xs h) ∙ e ∙ line_front m ms ys k) in
    let r = lines_cut ls ms xs ys (All-tail IsLine l ls a) (All-tail IsLine m ms b) (omega (arith, n)) c.1 in
    let same : l ≡ m = h.ends ∙ ap (λ t. t ++ 10 ∷ []) c.0 ∙ sym k.ends in
    (ap (λ t. t ++ concat ls) same ∙ ap (λ t. m ++ t) r.0, r.1)

-- the same bytes have one first unit
one_unit : IsOneCount → (unit other xs ys : List ℕ) → IsUnit unit → IsUnit other → unit ++ xs ≡ other ++ ys
    → (unit ≡ other) × (xs ≡ ys)
one_unit one unit other xs ys u v e =
    let c = one_cut 10 u.first v.first (concat u.more ++ xs) (concat v.more ++ ys) u.one v.one
    (sym (unit_front unit xs u) ∙ e ∙ unit_front other ys v) in
    let w = subst (λ t. IsWanted t (length u.more)) c.0 u.wanted in
    let n = one v.first (length u.more) (length v.more) w v.wanted in
    let r = lines_cut u.more v.more xs ys u.lines v.lines n c.1 in
    let f = ap (λ t. (t ++ 10 ∷ []) ++ concat u.more) c.0 in
    (u.all ∙ f ∙ ap (λ t. (v.first ++ 10 ∷ []) ++ t) r.0 ∙ sym v.all, r.1)

no_more : (rest unit : List ℕ) (units : List (List ℕ)) (other : List ℕ) → HasNoUnit rest → IsUnit unit
    → rest ≡ concat (unit ∷ units) ++ other → ⊥
no_more rest unit units other n u e =
    n unit (concat units ++ other) (e ∙ append_assoc unit (concat units) other) u

units_cut : IsOneCount → (units others : List (List ℕ)) (rest other : List ℕ) → All IsUnit units
    → All IsUnit others → HasNoUnit rest → HasNoUnit other → concat units ++ rest ≡ concat others ++ other
    → (units ≡ others) × (rest ≡ other)
units_cut one [] [] rest other a b n m e = (refl, e)
units_cut one [] (v ∷ vs) rest other a b n m e = absurd (no_more rest v vs other n (All-head IsUnit v vs b) e)
units_cut one (u ∷ us) [] rest other a b n m e =
    absurd (no_more other u us rest m (All-head IsUnit u us a) (sym e))
units_cut one (u ∷ us) (v ∷ vs) rest other a b n m e =
    let f = sym (append_assoc u (concat us) rest) ∙ e ∙ append_assoc v (concat vs) other in
    let h = All-head IsUnit u us a in
    let k = All-head IsUnit v vs b in
    let c = one_unit one u v (concat us ++ rest) (concat vs ++ other) h k f in
    let r = units_cut one us vs rest other (All-tail IsUnit u us a) (All-tail IsUnit v vs b) n m c.1 in
    (ap (λ x. x ∷ us) c.0 ∙ ap (λ xs. v ∷ xs) r.0, r.1)

pub units_one : IsOneCount → (bytes rest other : List ℕ) (units others : List (List ℕ))
    → AreUnits bytes units rest → AreUnits bytes others other → (units ≡ others) × (rest ≡ other)
units_one one bytes rest other units others a b =
    units_cut one units others rest other a.first.each b.first.each a.unfinished b.unfinished
    (sym a.first.all ∙ b.first.all)
