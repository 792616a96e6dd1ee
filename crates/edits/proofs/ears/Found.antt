-- What an incentre and its foot are: the one inside the sheet, the other in it, and joined to the points from which creases lead.
use Rattle.std.proofs.Common.{◌≡◌, ℕ, zero, suc, ◌<◌, List, [], ◌∷◌, get_or, refl, subst, inl, inr, arith}
use Rattle.std.specs.Prelude.{Ok, Err, All}
use Rattle.exact.specs.Plane.{ExactPoint, SamePoint, DirOf, IsPointCanonical, IsPointRepresentable, vector}
use Rattle.exact.proofs.Told.{same_itself}
use Rattle.sheet.specs.Sheet.{ExactSheet, InSheet, IsInside}
use Rattle.sheet.specs.Pattern.{ExactCrease}
use Rattle.sheet.specs.declared.colour.Colour.{Colour}
use Rattle.sheet.specs.declared.mark.Mark.{Mark}
use Rattle.geometry.proofs.Found.{turn_on}
use Rattle.geometry.proofs.Lines.{On, on_trans, on_same}
use Rattle.geometry.proofs.Parallels.{one_dir}
use Rattle.geometry.proofs.HalfAngles.{back}
use Rattle.geometry.proofs.Leads.{opposite_dir}
use Rattle.plane.specs.Images.{IsFoot}
use Rattle.plane.proofs.callers.Imaged.{aside}
use Rattle.plane.proofs.callers.Crossed.{held}
use Rattle.plane.specs.Triangles.{IsLeftOf, IsInTriangle, IsOnBisector, IsIncentre, IsFootBetween}
use Rattle.plane.proofs.callers.OneIncentre.{incentre_one, foot_one}
use Rattle.plane.proofs.callers.Triangles.{other_way, off_line, beside}
use Rattle.plane.proofs.callers.Incentres.{middle_small, off_bisector}
use Rattle.plane.proofs.callers.InsideSheet.{inside_sheet}
use Rattle.plane.proofs.callers.FootBetween.{foot_in}
use Rattle.edits.specs.CreaseSet.{crease}
use Rattle.edits.specs.Ends.{Joins, AreJoined}
use Rattle.edits.specs.RabbitEar.{IsEar, EarOf, marked, countermarked}
use Rattle.edits.specs.Foldable.{HasSides, IsFoldable}
use Rattle.edits.specs.declared.refusal.EditBad.TheVariants as bad
use Rattle.edits.specs.declared.refusal.PointKind.TheVariants as point
use Rattle.edits.proofs.ears.Creases.{joined_on, joined_dir, ends_back}
use Rattle.edits.proofs.ears.Rules.{apart, rules_kept}
use Rattle.edits.proofs.ears.Points.{even_triangle}

pub sides_of : (sheet : ExactSheet) (p q r : ExactPoint) → IsFoldable sheet p q r → (i j m : ℕ) × HasSides p q r i j m
sides_of sheet p q r f =
    let a = joined_dir p q f.joined.0 in
    let b = joined_dir q r f.joined.1 in
    let d = joined_dir r p f.joined.2 in
    (a.0, b.0, d.0, record { i_small = a.1; j_small = b.1; m_small = d.1; pq = a.2; qr = b.2; rp = d.2 })

-- a point on the left of a side is not its start
left_apart : (p q c : ExactPoint) (k : ℕ) → k < 16 → DirOf p q k → IsLeftOf p q c → ¬ SamePoint p c
left_apart p q c k small h l s = off_line p q c k small h (inl l) (on_same (vector k) p c s)

-- the incentre is no corner
record IsOff (p q r c : ExactPoint) : Type 0 where
  from_p : ¬ SamePoint p c
  from_q : ¬ SamePoint q c
  from_r : ¬ SamePoint r c

off_corners : (p q r c : ExactPoint) (i j m : ℕ) → HasSides p q r i j m → IsInTriangle p q r c → IsOff p q r c
off_corners p q r c i j m h inside = elim inside [
  | inl x ↦ record { from_p = left_apart p q c i h.i_small h.pq x.0; from_q = left_apart q r c j h.j_small h.qr x.1; from_r = left_apart r p c m h.m_small h.rp x.2 }
  | inr x ↦ record {
    from_p = left_apart p r c (back m) (omega arith) (opposite_dir r p m h.m_small h.rp) x.0;
    from_q = left_apart q p c (back i) (omega arith) (opposite_dir p q i h.i_small h.pq) x.2;
    from_r = left_apart r q c (back j) (omega arith) (opposite_dir q r j h.j_small h.qr) x.1;
  }
]

off_first : (p q r c : ExactPoint) (i j m : ℕ) → HasSides p q r i j m → IsInTriangle p q r c → ¬ On (vector i) p c
off_first p q r c i j m h inside = off_line p q c i h.i_small h.pq (beside p q r c inside)

spoke : (o a b c : ExactPoint) → IsOnBisector o a b c → ¬ SamePoint o c → AreJoined o c
spoke o a b c h n = joined_on o c h.2 (middle_small h.0 h.1 h.2 h.4) ((turn_on h.2 o c).0 h.5) n

-- the incentre
pub record IsCentre (sheet : ExactSheet) (p q r c : ExactPoint) : Type 0 where
  pub inside : IsInside sheet c
  pub from_p : AreJoined p c
  pub from_q : AreJoined q c
  pub from_r : AreJoined r c

pub centre_found : (sheet : ExactSheet) (p q r c : ExactPoint) → IsFoldable sheet p q r → IsIncentre p q r c → IsCentre sheet p q r c
centre_found sheet p q r c f z =
    let s = sides_of sheet p q r f in
    let h = s.3 in
    let off = off_corners p q r c s.0 s.1 s.2 h z.inside in
    record {
      inside = inside_sheet sheet p q r c s.0 s.1 s.2 h.i_small h.j_small h.m_small h.pq h.qr h.rp z.inside f.in_sheet.0 f.in_sheet.1 f.in_sheet.2;
      from_p = spoke p q r c z.at_p off.from_p;
      from_q = spoke q r p c z.at_q off.from_q;
      from_r = spoke r p q c z.at_r off.from_r;
    }

-- its foot
pub record IsFootFound (sheet : ExactSheet) (c f : ExactPoint) : Type 0 where
  pub in_sheet : InSheet sheet f
  pub joined : AreJoined f c

pub foot_found : (sheet : ExactSheet) (p q r c f : ExactPoint) → IsFoldable sheet p q r → IsIncentre p q r c → IsFootBetween p q c f → IsFootFound sheet c f
foot_found sheet p q r c f fold z g =
    let s = sides_of sheet p q r fold in
    let i = s.0 in
    let j = s.1 in
    let m = s.2 in
    let h : HasSides p q r i j m = s.3 in
    let si = h.i_small in
    let sj = h.j_small in
    let sm = h.m_small in
    let a = apart p q r fold.molecule.three in
    let k : g.0 ≡ i = one_dir p q g.0 i a.pq g.1 si g.2 h.pq in
    let foot : IsFoot p i c f = subst (λ x. IsFoot p x c f) k g.3 in
    let on : On (vector i) p f = (turn_on i p f).0 foot.on_axis in
    let up : On (vector (aside i)) f c = (turn_on (aside i) f c).0 foot.upright in
    record {
      in_sheet = foot_in sheet p q r c f i j m (even_triangle p q r i j m fold.molecule h)
          (off_bisector p q r c i (back m) si (omega arith) h.pq (opposite_dir r p m sm h.rp) a.pq (other_way r p a.rp) z.at_p)
          (off_bisector q r p c j (back i) sj (omega arith) h.qr (opposite_dir p q i si h.pq) a.qr (other_way p q a.pq) z.at_q)
          on up fold.in_sheet.0 fold.in_sheet.1;
      joined = joined_on f c (aside i) (omega arith) up (λ e. off_first p q r c i j m h z.inside (on_trans (vector i) p f c on (on_same (vector i) f c e)));
    }

held_point : (c d : ExactPoint) → SamePoint c d → IsPointRepresentable c → IsPointRepresentable d
held_point c d s h = (held c.x d.x s.x h.0, held c.y d.y s.y h.1)

canonical_held : (c : ExactPoint) → IsPointCanonical c → IsPointRepresentable c
canonical_held c h = ((c.x, same_itself c.x, h.0), (c.y, same_itself c.y, h.1))

-- no incentre is out of range where one is held
centre_held : (p q r c : ExactPoint) → IsIncentre p q r c → IsPointCanonical c → ¬ ((d : ExactPoint) × IsIncentre p q r d × (¬ IsPointRepresentable d))
centre_held p q r c z h x = x.2 (held_point c x.0 (incentre_one p q r c x.0 z x.1) (canonical_held c h))

foot_moved : (p q c d f : ExactPoint) → SamePoint c d → IsFootBetween p q c f → IsFootBetween p q d f
foot_moved p q c d f s g = (g.0, g.1, g.2, record { on_axis = g.3.on_axis; upright = (turn_on (aside g.0) f d).1 (on_trans (vector (aside g.0)) f c d ((turn_on (aside g.0) f c).0 g.3.upright) (on_same (vector (aside g.0)) c d s)) })

foot_held : (sheet : ExactSheet) (p q r c f : ExactPoint) → IsFoldable sheet p q r → IsIncentre p q r c → IsFootBetween p q c f → IsPointCanonical f → ¬ ((d g : ExactPoint) × IsIncentre p q r d × IsFootBetween p q d g × (¬ IsPointRepresentable g))
foot_held sheet p q r c f fold z g h x = x.4 (held_point f x.1 (foot_one p q c f x.1 (apart p q r fold.molecule.three).pq g (foot_moved p q x.0 c x.1 (incentre_one p q r x.0 c x.2 z) x.3)) (canonical_held f h))

-- the three answers where no rule for the corners is broken
pub no_centre : (sheet : ExactSheet) (m : Mark) (p q r : ExactPoint) → IsFoldable sheet p q r → ((c : ExactPoint) × IsIncentre p q r c × (¬ IsPointRepresentable c)) → EarOf sheet m p q r (Err (bad.Range point.Incentre))
no_centre sheet m p q r f x = rules_kept sheet m p q r (Err (bad.Range point.Incentre)) f (inl (x, refl))

pub no_foot : (sheet : ExactSheet) (m : Mark) (p q r c : ExactPoint) → IsFoldable sheet p q r → IsIncentre p q r c → IsPointCanonical c → ((f : ExactPoint) × IsFootBetween p q c f × (¬ IsPointRepresentable f)) → EarOf sheet m p q r (Err (bad.Range point.Foot))
no_foot sheet m p q r c f z h x = rules_kept sheet m p q r (Err (bad.Range point.Foot)) f (inr (centre_held p q r c z h, inl ((c, x.0, z, x.1, x.2), refl)))

pub ear_found : (sheet : ExactSheet) (m : Mark) (p q r c f : ExactPoint) (ear : List ExactCrease) → IsFoldable sheet p q r → IsIncentre p q r c → IsPointCanonical c → IsFootBetween p q c f → IsPointCanonical f → IsEar m p q r ear → EarOf sheet m p q r (Ok ear)
ear_found sheet m p q r c f ear fold z h g k e = rules_kept sheet m p q r (Ok ear) fold (inr (centre_held p q r c z h, inr (foot_held sheet p q r c f fold z g k, e)))

coloured : (f : ExactCrease) (k : Colour) → f.colour ≡ k → f ≡ crease f.seg k
coloured f k e = λ i. record { seg = f.seg; colour = e i }

-- four creases to an incentre and its foot
pub is_ear : (m : Mark) (p q r c f : ExactPoint) (a b d e : ExactCrease) → IsIncentre p q r c → IsPointCanonical c → IsFootBetween p q c f → IsPointCanonical f
    → Joins a.seg p c → Joins b.seg q c → Joins d.seg r c → Joins e.seg f c → a.colour ≡ marked m → b.colour ≡ marked m → d.colour ≡ marked m → e.colour ≡ countermarked m → IsEar m p q r (a ∷ b ∷ d ∷ e ∷ [])
is_ear m p q r c f a b d e z h g k ja jb jd je ca cb cd ce = record {
  centre = c;
  foot = f;
  centre_is = z;
  foot_is = g;
  centre_canonical = h;
  foot_canonical = k;
  segments = (a.seg, b.seg, d.seg, e.seg, ja, jb, jd, ends_back e.seg f c je, λ i. coloured a (marked m) ca i ∷ coloured b (marked m) cb i ∷ coloured d (marked m) cd i ∷ coloured e (countermarked m) ce i ∷ []);
}

pub all_four : (P : ExactCrease → Type 0) (a b d e : ExactCrease) → P a → P b → P d → P e → All P (a ∷ b ∷ d ∷ e ∷ [])
all_four P a b d e pa pb pd pe = at_index
  where
    at_index : (k : ℕ) (f : ExactCrease) → k < 4 → P (get_or (a ∷ b ∷ d ∷ e ∷ []) k f)
    at_index zero f h = pa
    at_index (suc zero) f h = pb
    at_index (suc (suc zero)) f h = pd
    at_index (suc (suc (suc zero))) f h = pe
    at_index (suc (suc (suc (suc k)))) f h = absurd (omega arith)
