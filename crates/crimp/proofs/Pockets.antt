-- Numbers alone: the ranks before the middle of three sectors is taken out, and the new ones.
-- P, Q, R are the old ranks of the three, N is above all. Below P a rank stays; what goes to the right pocket gets N more, the one sector that is left of the three has N + N + P, what goes to the left pocket gets three times N more, what is above R four times.
use Rattle.std.proofs.Common.{◌≡◌, ◌≢◌, ◌≤◌, ◌<◌, ◌+◌, ℕ, arith, ◌⊎◌, inl, inr}
use Rattle.std.specs.Prelude.{◌↔◌}
use Rattle.crimp.specs.Rules.{Between}
use Rattle.std.proofs.lemmas.Bool.{cases_lt}

-- as seen from the left of the fold, where the sector stands for the first of the three
pub data LeftView (P R N z y : ℕ) : Type 0 where
  LUnder : z < N → z < P → y ≡ z → LeftView P R N z y
  LSelf : z < N → z ≡ P → y ≡ N + N + P → LeftView P R N z y
  LPocket : z < N → P < z → z < R → y ≡ N + N + N + z → LeftView P R N z y
  LOver : z < N → R < z → y ≡ N + N + N + N + z → LeftView P R N z y

-- as seen from the right, where it stands for the third
pub data RightView (P R N z y : ℕ) : Type 0 where
  RUnder : z < N → z < P → y ≡ z → RightView P R N z y
  RPocket : z < N → P < z → z < R → y ≡ N + z → RightView P R N z y
  RSelf : z < N → z ≡ R → y ≡ N + N + P → RightView P R N z y
  ROver : z < N → R < z → y ≡ N + N + N + N + z → RightView P R N z y

-- the new rank of another sector
pub data Moved (P R N z y : ℕ) : Type 0 where
  MUnder : z < N → z < P → y ≡ z → Moved P R N z y
  MRight : z < N → P < z → z < R → y ≡ N + z → Moved P R N z y
  MLeft : z < N → P < z → z < R → y ≡ N + N + N + z → Moved P R N z y
  MOver : z < N → R < z → y ≡ N + N + N + N + z → Moved P R N z y

-- two that move alike
pub data Class (P Q R N z y w v : ℕ) : Type 0 where
  CUnder : z < N → w < N → z < P → w < P → y ≡ z → v ≡ w → Class P Q R N z y w v
  CLow : z < N → w < N → (P < z) × (z < Q) → (P < w) × (w < Q) → y ≡ N + N + N + z → v ≡ N + N + N + w → Class P Q R N z y w v
  CHigh : z < N → w < N → (Q < z) × (z < R) → (Q < w) × (w < R) → y ≡ N + z → v ≡ N + w → Class P Q R N z y w v
  COver : z < N → w < N → R < z → R < w → y ≡ N + N + N + N + z → v ≡ N + N + N + N + w → Class P Q R N z y w v

pub left_less : {P R N z y w v : ℕ} → P < R → LeftView P R N z y → LeftView P R N w v → z < w → y < v
left_less l (LUnder a1 b1 c1) (LUnder a2 b2 c2) h = omega arith
left_less l (LUnder a1 b1 c1) (LSelf a2 b2 c2) h = omega arith
left_less l (LUnder a1 b1 c1) (LPocket a2 b2 c2 d2) h = omega arith
left_less l (LUnder a1 b1 c1) (LOver a2 b2 c2) h = omega arith
left_less l (LSelf a1 b1 c1) (LUnder a2 b2 c2) h = omega arith
left_less l (LSelf a1 b1 c1) (LSelf a2 b2 c2) h = omega arith
left_less l (LSelf a1 b1 c1) (LPocket a2 b2 c2 d2) h = omega arith
left_less l (LSelf a1 b1 c1) (LOver a2 b2 c2) h = omega arith
left_less l (LPocket a1 b1 c1 d1) (LUnder a2 b2 c2) h = omega arith
left_less l (LPocket a1 b1 c1 d1) (LSelf a2 b2 c2) h = omega arith
left_less l (LPocket a1 b1 c1 d1) (LPocket a2 b2 c2 d2) h = omega arith
left_less l (LPocket a1 b1 c1 d1) (LOver a2 b2 c2) h = omega arith
left_less l (LOver a1 b1 c1) (LUnder a2 b2 c2) h = omega arith
left_less l (LOver a1 b1 c1) (LSelf a2 b2 c2) h = omega arith
left_less l (LOver a1 b1 c1) (LPocket a2 b2 c2 d2) h = omega arith
left_less l (LOver a1 b1 c1) (LOver a2 b2 c2) h = omega arith

pub left_back : {P R N z y w v : ℕ} → P < R → LeftView P R N z y → LeftView P R N w v → y < v → z < w
left_back l (LUnder a1 b1 c1) (LUnder a2 b2 c2) h = omega arith
left_back l (LUnder a1 b1 c1) (LSelf a2 b2 c2) h = omega arith
left_back l (LUnder a1 b1 c1) (LPocket a2 b2 c2 d2) h = omega arith
left_back l (LUnder a1 b1 c1) (LOver a2 b2 c2) h = omega arith
left_back l (LSelf a1 b1 c1) (LUnder a2 b2 c2) h = omega arith
left_back l (LSelf a1 b1 c1) (LSelf a2 b2 c2) h = omega arith
left_back l (LSelf a1 b1 c1) (LPocket a2 b2 c2 d2) h = omega arith
left_back l (LSelf a1 b1 c1) (LOver a2 b2 c2) h = omega arith
left_back l (LPocket a1 b1 c1 d1) (LUnder a2 b2 c2) h = omega arith
left_back l (LPocket a1 b1 c1 d1) (LSelf a2 b2 c2) h = omega arith
left_back l (LPocket a1 b1 c1 d1) (LPocket a2 b2 c2 d2) h = omega arith
left_back l (LPocket a1 b1 c1 d1) (LOver a2 b2 c2) h = omega arith
left_back l (LOver a1 b1 c1) (LUnder a2 b2 c2) h = omega arith
left_back l (LOver a1 b1 c1) (LSelf a2 b2 c2) h = omega arith
left_back l (LOver a1 b1 c1) (LPocket a2 b2 c2 d2) h = omega arith
left_back l (LOver a1 b1 c1) (LOver a2 b2 c2) h = omega arith

pub left_between_on : {P R N z y w v u t : ℕ} → P < R → LeftView P R N z y → LeftView P R N w v → LeftView P R N u t → Between z w u → Between y v t
left_between_on l k m n (inl h) = inl (left_less l m k h.0, left_less l k n h.1)
left_between_on l k m n (inr h) = inr (left_less l n k h.0, left_less l k m h.1)

pub left_between_back : {P R N z y w v u t : ℕ} → P < R → LeftView P R N z y → LeftView P R N w v → LeftView P R N u t → Between y v t → Between z w u
left_between_back l k m n (inl h) = inl (left_back l m k h.0, left_back l k n h.1)
left_between_back l k m n (inr h) = inr (left_back l n k h.0, left_back l k m h.1)

pub left_both : {P R N z y z' y' w v u t : ℕ} → P < R → LeftView P R N z y → LeftView P R N z' y' → LeftView P R N w v → LeftView P R N u t → (Between z w u ↔ Between z' w u) → (Between y v t ↔ Between y' v t)
left_both l k k' m n e = (λ h. left_between_on l k' m n (e.0 (left_between_back l k m n h)), λ h. left_between_on l k m n (e.1 (left_between_back l k' m n h)))

pub right_less : {P R N z y w v : ℕ} → P < R → RightView P R N z y → RightView P R N w v → z < w → y < v
right_less l (RUnder a1 b1 c1) (RUnder a2 b2 c2) h = omega arith
right_less l (RUnder a1 b1 c1) (RPocket a2 b2 c2 d2) h = omega arith
right_less l (RUnder a1 b1 c1) (RSelf a2 b2 c2) h = omega arith
right_less l (RUnder a1 b1 c1) (ROver a2 b2 c2) h = omega arith
right_less l (RPocket a1 b1 c1 d1) (RUnder a2 b2 c2) h = omega arith
right_less l (RPocket a1 b1 c1 d1) (RPocket a2 b2 c2 d2) h = omega arith
right_less l (RPocket a1 b1 c1 d1) (RSelf a2 b2 c2) h = omega arith
right_less l (RPocket a1 b1 c1 d1) (ROver a2 b2 c2) h = omega arith
right_less l (RSelf a1 b1 c1) (RUnder a2 b2 c2) h = omega arith
right_less l (RSelf a1 b1 c1) (RPocket a2 b2 c2 d2) h = omega arith
right_less l (RSelf a1 b1 c1) (RSelf a2 b2 c2) h = omega arith
right_less l (RSelf a1 b1 c1) (ROver a2 b2 c2) h = omega arith
right_less l (ROver a1 b1 c1) (RUnder a2 b2 c2) h = omega arith
right_less l (ROver a1 b1 c1) (RPocket a2 b2 c2 d2) h = omega arith
right_less l (ROver a1 b1 c1) (RSelf a2 b2 c2) h = omega arith
right_less l (ROver a1 b1 c1) (ROver a2 b2 c2) h = omega arith

pub right_back : {P R N z y w v : ℕ} → P < R → RightView P R N z y → RightView P R N w v → y < v → z < w
right_back l (RUnder a1 b1 c1) (RUnder a2 b2 c2) h = omega arith
right_back l (RUnder a1 b1 c1) (RPocket a2 b2 c2 d2) h = omega arith
right_back l (RUnder a1 b1 c1) (RSelf a2 b2 c2) h = omega arith
right_back l (RUnder a1 b1 c1) (ROver a2 b2 c2) h = omega arith
right_back l (RPocket a1 b1 c1 d1) (RUnder a2 b2 c2) h = omega arith
right_back l (RPocket a1 b1 c1 d1) (RPocket a2 b2 c2 d2) h = omega arith
right_back l (RPocket a1 b1 c1 d1) (RSelf a2 b2 c2) h = omega arith
right_back l (RPocket a1 b1 c1 d1) (ROver a2 b2 c2) h = omega arith
right_back l (RSelf a1 b1 c1) (RUnder a2 b2 c2) h = omega arith
right_back l (RSelf a1 b1 c1) (RPocket a2 b2 c2 d2) h = omega arith
right_back l (RSelf a1 b1 c1) (RSelf a2 b2 c2) h = omega arith
right_back l (RSelf a1 b1 c1) (ROver a2 b2 c2) h = omega arith
right_back l (ROver a1 b1 c1) (RUnder a2 b2 c2) h = omega arith
right_back l (ROver a1 b1 c1) (RPocket a2 b2 c2 d2) h = omega arith
right_back l (ROver a1 b1 c1) (RSelf a2 b2 c2) h = omega arith
right_back l (ROver a1 b1 c1) (ROver a2 b2 c2) h = omega arith

pub right_between_on : {P R N z y w v u t : ℕ} → P < R → RightView P R N z y → RightView P R N w v → RightView P R N u t → Between z w u → Between y v t
right_between_on l k m n (inl h) = inl (right_less l m k h.0, right_less l k n h.1)
right_between_on l k m n (inr h) = inr (right_less l n k h.0, right_less l k m h.1)

pub right_between_back : {P R N z y w v u t : ℕ} → P < R → RightView P R N z y → RightView P R N w v → RightView P R N u t → Between y v t → Between z w u
right_between_back l k m n (inl h) = inl (right_back l m k h.0, right_back l k n h.1)
right_between_back l k m n (inr h) = inr (right_back l n k h.0, right_back l k m h.1)

pub right_both : {P R N z y z' y' w v u t : ℕ} → P < R → RightView P R N z y → RightView P R N z' y' → RightView P R N w v → RightView P R N u t → (Between z w u ↔ Between z' w u) → (Between y v t ↔ Between y' v t)
right_both l k k' m n e = (λ h. right_between_on l k' m n (e.0 (right_between_back l k m n h)), λ h. right_between_on l k m n (e.1 (right_between_back l k' m n h)))

pub class_less : {P Q R N z y w v : ℕ} → Class P Q R N z y w v → z < w → y < v
class_less (CUnder a1 b1 c1 d1 e1 f1) h = omega arith
class_less (CLow a1 b1 c1 d1 e1 f1) h = omega arith
class_less (CHigh a1 b1 c1 d1 e1 f1) h = omega arith
class_less (COver a1 b1 c1 d1 e1 f1) h = omega arith

pub class_less_turned : {P Q R N z y w v : ℕ} → Class P Q R N z y w v → w < z → v < y
class_less_turned (CUnder a1 b1 c1 d1 e1 f1) h = omega arith
class_less_turned (CLow a1 b1 c1 d1 e1 f1) h = omega arith
class_less_turned (CHigh a1 b1 c1 d1 e1 f1) h = omega arith
class_less_turned (COver a1 b1 c1 d1 e1 f1) h = omega arith

pub class_turned : {P Q R N z y w v : ℕ} → Class P Q R N z y w v → Class P Q R N w v z y
class_turned (CUnder a b c d e f) = CUnder b a d c f e
class_turned (CLow a b c d e f) = CLow b a d c f e
class_turned (CHigh a b c d e f) = CHigh b a d c f e
class_turned (COver a b c d e f) = COver b a d c f e

pub class_back : {P Q R N z y w v u t : ℕ} → P < Q → Q < R → R < N → Moved P R N u t → Class P Q R N z y w v → Between t y v → Between u z w
class_back l m n (MUnder a1 b1 c1) (CUnder a2 b2 c2 d2 e2 f2) (inl g) = inl (omega arith, omega arith)
class_back l m n (MUnder a1 b1 c1) (CUnder a2 b2 c2 d2 e2 f2) (inr g) = inr (omega arith, omega arith)
class_back l m n (MUnder a1 b1 c1) (CLow a2 b2 c2 d2 e2 f2) (inl g) = absurd (omega arith)
class_back l m n (MUnder a1 b1 c1) (CLow a2 b2 c2 d2 e2 f2) (inr g) = absurd (omega arith)
class_back l m n (MUnder a1 b1 c1) (CHigh a2 b2 c2 d2 e2 f2) (inl g) = absurd (omega arith)
class_back l m n (MUnder a1 b1 c1) (CHigh a2 b2 c2 d2 e2 f2) (inr g) = absurd (omega arith)
class_back l m n (MUnder a1 b1 c1) (COver a2 b2 c2 d2 e2 f2) (inl g) = absurd (omega arith)
class_back l m n (MUnder a1 b1 c1) (COver a2 b2 c2 d2 e2 f2) (inr g) = absurd (omega arith)
class_back l m n (MRight a1 b1 c1 d1) (CUnder a2 b2 c2 d2 e2 f2) (inl g) = absurd (omega arith)
class_back l m n (MRight a1 b1 c1 d1) (CUnder a2 b2 c2 d2 e2 f2) (inr g) = absurd (omega arith)
class_back l m n (MRight a1 b1 c1 d1) (CLow a2 b2 c2 d2 e2 f2) (inl g) = absurd (omega arith)
class_back l m n (MRight a1 b1 c1 d1) (CLow a2 b2 c2 d2 e2 f2) (inr g) = absurd (omega arith)
class_back l m n (MRight a1 b1 c1 d1) (CHigh a2 b2 c2 d2 e2 f2) (inl g) = inl (omega arith, omega arith)
class_back l m n (MRight a1 b1 c1 d1) (CHigh a2 b2 c2 d2 e2 f2) (inr g) = inr (omega arith, omega arith)
class_back l m n (MRight a1 b1 c1 d1) (COver a2 b2 c2 d2 e2 f2) (inl g) = absurd (omega arith)
class_back l m n (MRight a1 b1 c1 d1) (COver a2 b2 c2 d2 e2 f2) (inr g) = absurd (omega arith)
class_back l m n (MLeft a1 b1 c1 d1) (CUnder a2 b2 c2 d2 e2 f2) (inl g) = absurd (omega arith)
class_back l m n (MLeft a1 b1 c1 d1) (CUnder a2 b2 c2 d2 e2 f2) (inr g) = absurd (omega arith)
class_back l m n (MLeft a1 b1 c1 d1) (CLow a2 b2 c2 d2 e2 f2) (inl g) = inl (omega arith, omega arith)
class_back l m n (MLeft a1 b1 c1 d1) (CLow a2 b2 c2 d2 e2 f2) (inr g) = inr (omega arith, omega arith)
class_back l m n (MLeft a1 b1 c1 d1) (CHigh a2 b2 c2 d2 e2 f2) (inl g) = absurd (omega arith)
class_back l m n (MLeft a1 b1 c1 d1) (CHigh a2 b2 c2 d2 e2 f2) (inr g) = absurd (omega arith)
class_back l m n (MLeft a1 b1 c1 d1) (COver a2 b2 c2 d2 e2 f2) (inl g) = absurd (omega arith)
class_back l m n (MLeft a1 b1 c1 d1) (COver a2 b2 c2 d2 e2 f2) (inr g) = absurd (omega arith)
class_back l m n (MOver a1 b1 c1) (CUnder a2 b2 c2 d2 e2 f2) (inl g) = absurd (omega arith)
class_back l m n (MOver a1 b1 c1) (CUnder a2 b2 c2 d2 e2 f2) (inr g) = absurd (omega arith)
class_back l m n (MOver a1 b1 c1) (CLow a2 b2 c2 d2 e2 f2) (inl g) = absurd (omega arith)
class_back l m n (MOver a1 b1 c1) (CLow a2 b2 c2 d2 e2 f2) (inr g) = absurd (omega arith)
class_back l m n (MOver a1 b1 c1) (CHigh a2 b2 c2 d2 e2 f2) (inl g) = absurd (omega arith)
class_back l m n (MOver a1 b1 c1) (CHigh a2 b2 c2 d2 e2 f2) (inr g) = absurd (omega arith)
class_back l m n (MOver a1 b1 c1) (COver a2 b2 c2 d2 e2 f2) (inl g) = inl (omega arith, omega arith)
class_back l m n (MOver a1 b1 c1) (COver a2 b2 c2 d2 e2 f2) (inr g) = inr (omega arith, omega arith)

pub class_self : {P Q R N z y w v t : ℕ} → P < Q → Q < R → R < N → t ≡ N + N + P → Class P Q R N z y w v → Between t y v → ⊥
class_self l m n e (CUnder a2 b2 c2 d2 e2 f2) (inl g) = omega arith
class_self l m n e (CUnder a2 b2 c2 d2 e2 f2) (inr g) = omega arith
class_self l m n e (CLow a2 b2 c2 d2 e2 f2) (inl g) = omega arith
class_self l m n e (CLow a2 b2 c2 d2 e2 f2) (inr g) = omega arith
class_self l m n e (CHigh a2 b2 c2 d2 e2 f2) (inl g) = omega arith
class_self l m n e (CHigh a2 b2 c2 d2 e2 f2) (inr g) = omega arith
class_self l m n e (COver a2 b2 c2 d2 e2 f2) (inl g) = omega arith
class_self l m n e (COver a2 b2 c2 d2 e2 f2) (inr g) = omega arith

-- all four by the same amount
shift_on : (o : ℕ) {z y w v u t u' t' : ℕ} → t ≡ o + u → t' ≡ o + u' → y ≡ o + z → v ≡ o + w → Between t y v → (Between u z w → Between u' z w) → Between t' y v
shift_on o e f g h b k = shift_up o f g h (k (shift_down o e g h b))
  where
    shift_up : (o : ℕ) {z y w v u t : ℕ} → t ≡ o + u → y ≡ o + z → v ≡ o + w → Between u z w → Between t y v
    shift_up o e g h (inl b) = inl (omega arith, omega arith)
    shift_up o e g h (inr b) = inr (omega arith, omega arith)

    shift_down : (o : ℕ) {z y w v u t : ℕ} → t ≡ o + u → y ≡ o + z → v ≡ o + w → Between t y v → Between u z w
    shift_down o e g h (inl b) = inl (omega arith, omega arith)
    shift_down o e g h (inr b) = inr (omega arith, omega arith)

class_on : {P Q R N z y w v u t u' t' : ℕ} → P < Q → Q < R → R < N → Class P Q R N u t u' t' → Class P Q R N z y w v → Between t y v → (Between u z w → Between u' z w) → Between t' y v
class_on {z = z} {w = w} {u = u} {u' = u'} l m n (CUnder a1 b1 c1 d1 e1 f1) (CUnder a2 b2 c2 d2 e2 f2) g k = shift_on 0 {z = z} {w = w} {u = u} {u' = u'} (omega arith) (omega arith) (omega arith) (omega arith) g k
class_on l m n (CUnder a1 b1 c1 d1 e1 f1) (CLow a2 b2 c2 d2 e2 f2) (inl g) k = absurd (omega arith)
class_on l m n (CUnder a1 b1 c1 d1 e1 f1) (CLow a2 b2 c2 d2 e2 f2) (inr g) k = absurd (omega arith)
class_on l m n (CUnder a1 b1 c1 d1 e1 f1) (CHigh a2 b2 c2 d2 e2 f2) (inl g) k = absurd (omega arith)
class_on l m n (CUnder a1 b1 c1 d1 e1 f1) (CHigh a2 b2 c2 d2 e2 f2) (inr g) k = absurd (omega arith)
class_on l m n (CUnder a1 b1 c1 d1 e1 f1) (COver a2 b2 c2 d2 e2 f2) (inl g) k = absurd (omega arith)
class_on l m n (CUnder a1 b1 c1 d1 e1 f1) (COver a2 b2 c2 d2 e2 f2) (inr g) k = absurd (omega arith)
class_on l m n (CLow a1 b1 c1 d1 e1 f1) (CUnder a2 b2 c2 d2 e2 f2) (inl g) k = absurd (omega arith)
class_on l m n (CLow a1 b1 c1 d1 e1 f1) (CUnder a2 b2 c2 d2 e2 f2) (inr g) k = absurd (omega arith)
class_on {N = N} l m n (CLow a1 b1 c1 d1 e1 f1) (CLow a2 b2 c2 d2 e2 f2) g k = shift_on (N + N + N) e1 f1 e2 f2 g k
class_on l m n (CLow a1 b1 c1 d1 e1 f1) (CHigh a2 b2 c2 d2 e2 f2) (inl g) k = absurd (omega arith)
class_on l m n (CLow a1 b1 c1 d1 e1 f1) (CHigh a2 b2 c2 d2 e2 f2) (inr g) k = absurd (omega arith)
class_on l m n (CLow a1 b1 c1 d1 e1 f1) (COver a2 b2 c2 d2 e2 f2) (inl g) k = absurd (omega arith)
class_on l m n (CLow a1 b1 c1 d1 e1 f1) (COver a2 b2 c2 d2 e2 f2) (inr g) k = absurd (omega arith)
class_on l m n (CHigh a1 b1 c1 d1 e1 f1) (CUnder a2 b2 c2 d2 e2 f2) (inl g) k = absurd (omega arith)
class_on l m n (CHigh a1 b1 c1 d1 e1 f1) (CUnder a2 b2 c2 d2 e2 f2) (inr g) k = absurd (omega arith)
class_on l m n (CHigh a1 b1 c1 d1 e1 f1) (CLow a2 b2 c2 d2 e2 f2) (inl g) k = absurd (omega arith)
class_on l m n (CHigh a1 b1 c1 d1 e1 f1) (CLow a2 b2 c2 d2 e2 f2) (inr g) k = absurd (omega arith)
class_on {N = N} l m n (CHigh a1 b1 c1 d1 e1 f1) (CHigh a2 b2 c2 d2 e2 f2) g k = shift_on (N) e1 f1 e2 f2 g k
class_on l m n (CHigh a1 b1 c1 d1 e1 f1) (COver a2 b2 c2 d2 e2 f2) (inl g) k = absurd (omega arith)
class_on l m n (CHigh a1 b1 c1 d1 e1 f1) (COver a2 b2 c2 d2 e2 f2) (inr g) k = absurd (omega arith)
class_on l m n (COver a1 b1 c1 d1 e1 f1) (CUnder a2 b2 c2 d2 e2 f2) (inl g) k = absurd (omega arith)
class_on l m n (COver a1 b1 c1 d1 e1 f1) (CUnder a2 b2 c2 d2 e2 f2) (inr g) k = absurd (omega arith)
class_on l m n (COver a1 b1 c1 d1 e1 f1) (CLow a2 b2 c2 d2 e2 f2) (inl g) k = absurd (omega arith)
class_on l m n (COver a1 b1 c1 d1 e1 f1) (CLow a2 b2 c2 d2 e2 f2) (inr g) k = absurd (omega arith)
class_on l m n (COver a1 b1 c1 d1 e1 f1) (CHigh a2 b2 c2 d2 e2 f2) (inl g) k = absurd (omega arith)
class_on l m n (COver a1 b1 c1 d1 e1 f1) (CHigh a2 b2 c2 d2 e2 f2) (inr g) k = absurd (omega arith)
class_on {N = N} l m n (COver a1 b1 c1 d1 e1 f1) (COver a2 b2 c2 d2 e2 f2) g k = shift_on (N + N + N + N) e1 f1 e2 f2 g k

pub class_both : {P Q R N z y w v u t u' t' : ℕ} → P < Q → Q < R → R < N → Class P Q R N u t u' t' → Class P Q R N z y w v → (Between u z w ↔ Between u' z w) → (Between t y v ↔ Between t' y v)
class_both l m n c d e = (λ g. class_on l m n c d g e.0, λ g. class_on l m n (class_turned c) d g e.1)

-- out of a gap, and in it
abbrev pub Off : ℕ → ℕ → ℕ → Type 0
Off low high y = (y < low) ⊎ (high ≤ y)

abbrev pub On : ℕ → ℕ → ℕ → Type 0
On low high y = (low ≤ y) × (y < high)

pub left_off : {P R N z y : ℕ} → LeftView P R N z y → Off N (N + N) y
left_off (LUnder a b c) = inl (omega arith)
left_off (LSelf a b c) = inr (omega arith)
left_off (LPocket a b c d) = inr (omega arith)
left_off (LOver a b c) = inr (omega arith)

pub right_off : {P R N z y : ℕ} → P < R → RightView P R N z y → Off (N + N + N) (N + N + N + N) y
right_off l (RUnder a b c) = inl (omega arith)
right_off l (RPocket a b c d) = inl (omega arith)
right_off l (RSelf a b c) = inl (omega arith)
right_off l (ROver a b c) = inr (omega arith)

off_on : {low high a b c d : ℕ} → Off low high a → Off low high b → On low high c → On low high d → Between c a b → Between d a b
off_on (inl h) (inl k) m n (inl g) = absurd (omega arith)
off_on (inl h) (inl k) m n (inr g) = absurd (omega arith)
off_on (inl h) (inr k) m n (inl g) = inl (omega arith, omega arith)
off_on (inl h) (inr k) m n (inr g) = absurd (omega arith)
off_on (inr h) (inl k) m n (inl g) = absurd (omega arith)
off_on (inr h) (inl k) m n (inr g) = inr (omega arith, omega arith)
off_on (inr h) (inr k) m n (inl g) = absurd (omega arith)
off_on (inr h) (inr k) m n (inr g) = absurd (omega arith)

pub off_both : {low high a b c d : ℕ} → Off low high a → Off low high b → On low high c → On low high d → (Between c a b ↔ Between d a b)
off_both h k m n = (off_on h k m n, off_on h k n m)

on_none : {low high a b c : ℕ} → On low high a → On low high b → Off low high c → Between c a b → ⊥
on_none h k (inl m) (inl g) = omega arith
on_none h k (inl m) (inr g) = omega arith
on_none h k (inr m) (inl g) = omega arith
on_none h k (inr m) (inr g) = omega arith

pub on_both : {low high a b c d : ℕ} → On low high a → On low high b → Off low high c → Off low high d → (Between c a b ↔ Between d a b)
on_both h k m n = (λ g. absurd (on_none h k m g), λ g. absurd (on_none h k n g))

-- two neighbours at a crease that is nested with another: both between the two sectors of the other, or neither
pub pocket : {P Q z w : ℕ} → P < Q → z ≢ P → z ≢ Q → w ≢ P → w ≢ Q → (Between P z w ↔ Between Q z w) → (((P < z) × (z < Q)) × ((P < w) × (w < Q))) ⊎ (((z < P) ⊎ (Q < z)) × ((w < P) ⊎ (Q < w)))
pocket {P = P} {Q = Q} {z = z} {w = w} l a b c d e = elim (cases_lt z P) [
  | inl h ↦ elim (cases_lt w P) [
    | inl k ↦ inr (inl h, inl k)
    | inr k ↦ elim (cases_lt Q w) [ inl m ↦ inr (inl h, inr m) | inr m ↦ no_way (e.0 (inl (h, omega arith))) (omega arith) (omega arith) ]
  ]
  | inr h ↦ elim (cases_lt Q z) [
    | inl i ↦ elim (cases_lt w P) [
      | inl k ↦ inr (inr i, inl k)
      | inr k ↦ elim (cases_lt Q w) [ inl m ↦ inr (inr i, inr m) | inr m ↦ no_way_low (e.1 (inr (omega arith, i))) (omega arith) (omega arith) ]
    ]
    | inr i ↦ elim (cases_lt w P) [
      | inl k ↦ no_way (e.0 (inr (k, omega arith))) (omega arith) (omega arith)
      | inr k ↦ elim (cases_lt Q w) [ inl m ↦ no_way_low (e.1 (inl (omega arith, m))) (omega arith) (omega arith) | inr m ↦ inl ((omega arith, omega arith), (omega arith, omega arith)) ]
    ]
  ]
]
  where
    no_way : {A : Type 0} {Q z w : ℕ} → Between Q z w → z < Q → w < Q → A
    no_way (inl g) a b = absurd (omega arith)
    no_way (inr g) a b = absurd (omega arith)

    no_way_low : {A : Type 0} {P z w : ℕ} → Between P z w → P < z → P < w → A
    no_way_low (inl g) a b = absurd (omega arith)
    no_way_low (inr g) a b = absurd (omega arith)

-- nothing of P lies between
pub beside : {P z w : ℕ} → z ≢ P → w ≢ P → (Between P z w → ⊥) → ((z < P) × (w < P)) ⊎ ((P < z) × (P < w))
beside {P = P} {z = z} {w = w} a b n = elim (cases_lt z P) [
  | inl h ↦ elim (cases_lt w P) [ inl k ↦ inl (h, k) | inr k ↦ absurd (n (inl (h, omega arith))) ]
  | inr h ↦ elim (cases_lt w P) [ inl k ↦ absurd (n (inr (k, omega arith))) | inr k ↦ inr (omega arith, omega arith) ]
]
