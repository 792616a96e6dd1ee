-- Of one line there is one answer.
use Rattle.std.proofs.Common.{◌≡◌, ◌≢◌, ℕ, suc, ◌+◌, List, [], ◌∷◌, ◌++◌, length, refl, sym, subst, ap, ◌∙◌, ◌⊎◌, inl, inr, arith}
use Rattle.std.specs.Prelude.{All, Option, Some, None, Result, Ok, Err}
use Rattle.std.proofs.lemmas.List.Elements.{All-nil, All-cons, All-head, All-tail}
use Rattle.exact.specs.Number.{ExactNumber, Less, IsCanonical}
use Rattle.exact.specs.Plane.{ExactPoint, ExactSegment, Before}
use Rattle.exact.proofs.Unique.{unique}
use Rattle.exact.proofs.Positive.{less_trans}
use Rattle.exact.proofs.Told.{less_not_same, less_not_back}
use Rattle.geometry.proofs.PointOrder.{before_not_itself, before_not_back}
use Rattle.sheet.specs.Sheet.{ExactSheet, OnBorder}
use Rattle.sheet.specs.declared.colour.Colour.{Colour}
use Rattle.sheet.specs.declared.colour.Colour.TheVariants as colour
use Rattle.lattice.specs.Lattice.{Measures, IsNearValue}
use Rattle.lattice.specs.Near.{IsAnswer}
use Rattle.lattice.specs.declared.near.Near.TheVariants as near
use Rattle.decimals.specs.Decimal.{IsDecimal}
use Rattle.decimals.proofs.callers.Spelling.{decimal_one}
use Rattle.lines.specs.Words.{Word, AreWords}
use Rattle.lines.proofs.callers.Words.{one_list}
use Rattle.chains.proofs.callers.Elements.{same_heads}
use Rattle.cpfile.specs.CpDrawing.{IsKind, Fields, HasFields, Coordinate, coordinates, IsAt, IsPlaced, IsUnplaced, AreEnds, Joins, DrawsBetween, DrawsFields, DrawsWords, DrawsLine}
use Rattle.cpfile.specs.declared.bad.CpWhy.{CpWhy}
use Rattle.cpfile.specs.declared.bad.CpWhy.TheVariants as why
use Rattle.cpfile.specs.declared.line.Drawn.{Drawn}
use Rattle.cpfile.specs.declared.line.Drawn.TheVariants as drawn

-- the parts of equal lists
pub head_of : {X : Type 0} {x y : X} {xs ys : List X} → x ∷ xs ≡ y ∷ ys → x ≡ y
head_of e = cc

pub tail_of : {X : Type 0} {x y : X} {xs ys : List X} → x ∷ xs ≡ y ∷ ys → xs ≡ ys
tail_of e = cc

-- types
apart : {word : List ℕ} {a b : ℕ} → word ≡ a ∷ [] → word ≡ b ∷ [] → a ≢ b → ⊥
apart e f n = n (same_heads (sym e ∙ f))

pub kind_one : (word : List ℕ) (k m : Option Colour) → IsKind word k → IsKind word m → k ≡ m
kind_one word None None h k = refl
kind_one word None (Some colour.M) h k = absurd (apart h k (λ e. omega arith))
kind_one word None (Some colour.V) h k = absurd (apart h k (λ e. omega arith))
kind_one word None (Some colour.A) h (inl k) = absurd (apart h k (λ e. omega arith))
kind_one word None (Some colour.A) h (inr k) = absurd (apart h k (λ e. omega arith))
kind_one word (Some colour.M) None h k = absurd (apart h k (λ e. omega arith))
kind_one word (Some colour.M) (Some colour.M) h k = refl
kind_one word (Some colour.M) (Some colour.V) h k = absurd (apart h k (λ e. omega arith))
kind_one word (Some colour.M) (Some colour.A) h (inl k) = absurd (apart h k (λ e. omega arith))
kind_one word (Some colour.M) (Some colour.A) h (inr k) = absurd (apart h k (λ e. omega arith))
kind_one word (Some colour.V) None h k = absurd (apart h k (λ e. omega arith))
kind_one word (Some colour.V) (Some colour.M) h k = absurd (apart h k (λ e. omega arith))
kind_one word (Some colour.V) (Some colour.V) h k = refl
kind_one word (Some colour.V) (Some colour.A) h (inl k) = absurd (apart h k (λ e. omega arith))
kind_one word (Some colour.V) (Some colour.A) h (inr k) = absurd (apart h k (λ e. omega arith))
kind_one word (Some colour.A) None (inl h) k = absurd (apart h k (λ e. omega arith))
kind_one word (Some colour.A) None (inr h) k = absurd (apart h k (λ e. omega arith))
kind_one word (Some colour.A) (Some colour.M) (inl h) k = absurd (apart h k (λ e. omega arith))
kind_one word (Some colour.A) (Some colour.M) (inr h) k = absurd (apart h k (λ e. omega arith))
kind_one word (Some colour.A) (Some colour.V) (inl h) k = absurd (apart h k (λ e. omega arith))
kind_one word (Some colour.A) (Some colour.V) (inr h) k = absurd (apart h k (λ e. omega arith))
kind_one word (Some colour.A) (Some colour.A) h k = refl

pub fields_one : (line : List ℕ) (f g : Fields) → HasFields line f → HasFields line g → f ≡ g
fields_one line f g h k =
    let e = one_list line (h.type ∷ h.from_x ∷ h.from_y ∷ h.to_x ∷ h.to_y ∷ []) (k.type ∷ k.from_x ∷ k.from_y ∷ k.to_x ∷ k.to_y ∷ []) h.words k.words in
    let a : h.type ≡ k.type = cc in
    let b : h.from_x ≡ k.from_x = cc in
    let c : h.from_y ≡ k.from_y = cc in
    let d : h.to_x ≡ k.to_x = cc in
    let g5 : h.to_y ≡ k.to_y = cc in
    let t = kind_one k.type.text f.kind g.kind (subst (λ (w : Word). IsKind w.text f.kind) a h.kind) k.kind in
    let x1 = decimal_one k.from_x.text f.x1 g.x1 (subst (λ (w : Word). IsDecimal w.text f.x1) b h.x1) k.x1 in
    let y1 = decimal_one k.from_y.text f.y1 g.y1 (subst (λ (w : Word). IsDecimal w.text f.y1) c h.y1) k.y1 in
    let x2 = decimal_one k.to_x.text f.x2 g.x2 (subst (λ (w : Word). IsDecimal w.text f.x2) d h.x2) k.x2 in
    let y2 = decimal_one k.to_y.text f.y2 g.y2 (subst (λ (w : Word). IsDecimal w.text f.y2) g5 h.y2) k.y2 in
    λ i. record { kind = t i; x1 = x1 i; y1 = y1 i; x2 = x2 i; y2 = y2 i }

-- near values
at_one : (l : Measures) (c : Coordinate) (u v : ExactNumber) → IsAt l c u → IsAt l c v → u ≡ v
at_one l c u v h k = unique u v h.held k.held (k.near.1 u h.near.0)

not_itself : (u : ExactNumber) → Less u u → ⊥
not_itself u h = less_not_same u u h (record { a = refl; b = refl })

-- the least of a set against another number of it
above : (l : Measures) (c : Coordinate) (u v w : ExactNumber) → IsCanonical u → IsCanonical v → IsCanonical w → IsAnswer l c.axis c.units (near.Two u v) → IsNearValue l c.axis c.units w → (w ≡ u) ⊎ ((w ≡ v) ⊎ Less v w)
above l c u v w p q r h k = elim (h.3 w k) [
  | inl e ↦ inl (unique w u r p e)
  | inr o ↦ elim o [ inl e ↦ inr (inl (unique w v r q e)) | inr f ↦ inr (inr f) ]
]

least_by : (u v w : ExactNumber) → Less u v → (w ≡ u) ⊎ ((w ≡ v) ⊎ Less v w) → (w ≡ u) ⊎ Less u w
least_by u v w h (inl e) = inl e
least_by u v w h (inr (inl e)) = inr (subst (Less u) (sym e) h)
least_by u v w h (inr (inr f)) = inr (less_trans u v w h f)

both_least : (u w : ExactNumber) → (w ≡ u) ⊎ Less u w → (u ≡ w) ⊎ Less w u → u ≡ w
both_least u w (inl e) k = sym e
both_least u w (inr h) (inl e) = e
both_least u w (inr h) (inr k) = absurd (less_not_back u w h k)

next_by : (u v w : ExactNumber) → Less u w → (w ≡ u) ⊎ ((w ≡ v) ⊎ Less v w) → (w ≡ v) ⊎ Less v w
next_by u v w h (inl e) = absurd (not_itself u (subst (Less u) e h))
next_by u v w h (inr o) = o

two_one : (l : Measures) (c : Coordinate) (u v s t : ExactNumber) → IsCanonical u → IsCanonical v → IsCanonical s → IsCanonical t
    → IsAnswer l c.axis c.units (near.Two u v) → IsAnswer l c.axis c.units (near.Two s t) → (u ≡ s) × (v ≡ t)
two_one l c u v s t p q p2 q2 h k =
    let e : u ≡ s = both_least u s (least_by u v s h.2 (above l c u v s p q p2 h k.0)) (least_by s t u k.2 (above l c s t u p2 q2 p k h.0)) in
    let a = next_by u v t (subst (λ z. Less z t) (sym e) k.2) (above l c u v t p q q2 h k.1) in
    let b = next_by s t v (subst (λ z. Less z v) e h.2) (above l c s t v p2 q2 q k h.1) in
    (e, both_least v t a b)

-- one value is not two
one_not_two : (l : Measures) (c : Coordinate) (u v w : ExactNumber) → IsAt l c w → IsCanonical u → IsCanonical v → IsAnswer l c.axis c.units (near.Two u v) → ⊥
one_not_two l c u v w h p q k =
    let a = unique u w p h.held (h.near.1 u k.0) in
    let b = unique v w q h.held (h.near.1 v k.1) in
    not_itself u (subst (Less u) (b ∙ sym a) k.2)

placed_not : (l : Measures) (field : ℕ) (c : Coordinate) (w : CpWhy) → IsPlaced l c → IsUnplaced l field c w → ⊥
placed_not l field c (why.NoNear f) h k = k.1 h.0 h.1.near.0
placed_not l field c (why.TwoNear f u v) h k = one_not_two l c u v h.0 h.1 k.2 k.3 k.1
placed_not l field c why.TooLong h k = k
placed_not l field c why.Line h k = k
placed_not l field c why.NotDirection h k = k
placed_not l field c why.InnerContour h k = k

unplaced_one : (l : Measures) (field : ℕ) (c : Coordinate) (w x : CpWhy) → IsUnplaced l field c w → IsUnplaced l field c x → w ≡ x
unplaced_one l field c (why.NoNear f) (why.NoNear g) h k = ap why.NoNear (h.0 ∙ sym k.0)
unplaced_one l field c (why.NoNear f) (why.TwoNear g s t) h k = absurd (h.1 s k.1.0)
unplaced_one l field c (why.TwoNear f u v) (why.NoNear g) h k = absurd (k.1 u h.1.0)
unplaced_one l field c (why.TwoNear f u v) (why.TwoNear g s t) h k =
    let e : f ≡ g = h.0 ∙ sym k.0 in
    let o = two_one l c u v s t h.2 h.3 k.2 k.3 h.1 k.1 in
    let a = o.0 in
    let b = o.1 in
    λ i. why.TwoNear (e i) (a i) (b i)
unplaced_one l field c why.TooLong x h k = absurd h
unplaced_one l field c why.Line x h k = absurd h
unplaced_one l field c why.NotDirection x h k = absurd h
unplaced_one l field c why.InnerContour x h k = absurd h
unplaced_one l field c (why.NoNear f) why.TooLong h k = absurd k
unplaced_one l field c (why.NoNear f) why.Line h k = absurd k
unplaced_one l field c (why.NoNear f) why.NotDirection h k = absurd k
unplaced_one l field c (why.NoNear f) why.InnerContour h k = absurd k
unplaced_one l field c (why.TwoNear f u v) why.TooLong h k = absurd k
unplaced_one l field c (why.TwoNear f u v) why.Line h k = absurd k
unplaced_one l field c (why.TwoNear f u v) why.NotDirection h k = absurd k
unplaced_one l field c (why.TwoNear f u v) why.InnerContour h k = absurd k

first_by : (l : Measures) (n : ℕ) (before others : List Coordinate) (c d : Coordinate) (after rest : List Coordinate) (w x : CpWhy) → before ++ c ∷ after ≡ others ++ d ∷ rest
    → All (IsPlaced l) before → All (IsPlaced l) others → IsUnplaced l (length before + n) c w → IsUnplaced l (length others + n) d x → w ≡ x
first_by l n [] [] c d after rest w x e a b h k = unplaced_one l (0 + n) c w x h (subst (λ z. IsUnplaced l (0 + n) z x) (sym (head_of e)) k)
first_by l n [] (o ∷ others) c d after rest w x e a b h k = absurd (placed_not l (0 + n) c w (subst (IsPlaced l) (sym (head_of e)) (All-head (IsPlaced l) o others b)) h)
first_by l n (o ∷ before) [] c d after rest w x e a b h k = absurd (placed_not l (0 + n) d x (subst (IsPlaced l) (head_of e) (All-head (IsPlaced l) o before a)) k)
first_by l n (o ∷ before) (p ∷ others) c d after rest w x e a b h k =
    let i : suc (length before) + n ≡ length before + suc n = omega arith in
    let j : suc (length others) + n ≡ length others + suc n = omega arith in
    first_by l (suc n) before others c d after rest w x (tail_of e) (All-tail (IsPlaced l) o before a) (All-tail (IsPlaced l) p others b)
    (subst (λ z. IsUnplaced l z c w) i h) (subst (λ z. IsUnplaced l z d x) j k)

all_at : (l : Measures) (before : List Coordinate) (c : Coordinate) (after : List Coordinate) → All (IsPlaced l) (before ++ c ∷ after) → IsPlaced l c
all_at l [] c after h = All-head (IsPlaced l) c after h
all_at l (o ∷ before) c after h = all_at l before c after (All-tail (IsPlaced l) o (before ++ c ∷ after) h)

ends_placed : (l : Measures) (sheet : ExactSheet) (f : Fields) (p q : ExactPoint) → AreEnds l sheet f p q → All (IsPlaced l) (coordinates sheet f)
ends_placed l sheet f p q h =
    All-cons (IsPlaced l) (record { axis = sheet.w; units = f.x1 }) (record { axis = sheet.h; units = f.y1 } ∷ record { axis = sheet.w; units = f.x2 } ∷ record { axis = sheet.h; units = f.y2 } ∷ []) (p.x, h.x1)
    (All-cons (IsPlaced l) (record { axis = sheet.h; units = f.y1 }) (record { axis = sheet.w; units = f.x2 } ∷ record { axis = sheet.h; units = f.y2 } ∷ []) (p.y, h.y1)
    (All-cons (IsPlaced l) (record { axis = sheet.w; units = f.x2 }) (record { axis = sheet.h; units = f.y2 } ∷ []) (q.x, h.x2)
    (All-cons (IsPlaced l) (record { axis = sheet.h; units = f.y2 }) [] (q.y, h.y2) (All-nil (IsPlaced l)))))

ends_one : (l : Measures) (sheet : ExactSheet) (f : Fields) (p q s t : ExactPoint) → AreEnds l sheet f p q → AreEnds l sheet f s t → (p ≡ s) × (q ≡ t)
ends_one l sheet f p q s t h k =
    let a = at_one l (record { axis = sheet.w; units = f.x1 }) p.x s.x h.x1 k.x1 in
    let b = at_one l (record { axis = sheet.h; units = f.y1 }) p.y s.y h.y1 k.y1 in
    let c = at_one l (record { axis = sheet.w; units = f.x2 }) q.x t.x h.x2 k.x2 in
    let d = at_one l (record { axis = sheet.h; units = f.y2 }) q.y t.y h.y2 k.y2 in
    (λ i. record { x = a i; y = b i }, λ i. record { x = c i; y = d i })

-- between two points
join_apart : (s : ExactSegment) (p q : ExactPoint) → Joins s p q → p ≡ q → ⊥
join_apart s p q (g, inl h) e = before_not_itself s.p (subst (Before s.p) (h.1 ∙ sym e ∙ sym h.0) g.0)
join_apart s p q (g, inr h) e = before_not_itself s.p (subst (Before s.p) (h.1 ∙ e ∙ sym h.0) g.0)

join_one : (s t : ExactSegment) (p q : ExactPoint) → Joins s p q → Joins t p q → s ≡ t
join_one s t p q (g, inl h) (k, inl m) = (let a = h.0 ∙ sym m.0 in let b = h.1 ∙ sym m.1 in λ i. record { p = a i; q = b i })
join_one s t p q (g, inr h) (k, inr m) = (let a = h.0 ∙ sym m.0 in let b = h.1 ∙ sym m.1 in λ i. record { p = a i; q = b i })
join_one s t p q (g, inl h) (k, inr m) = absurd (before_not_back s.p s.q g.0 (subst (λ z. Before z s.p) (m.0 ∙ sym h.1) (subst (Before t.p) (m.1 ∙ sym h.0) k.0)))
join_one s t p q (g, inr h) (k, inl m) = absurd (before_not_back s.p s.q g.0 (subst (λ z. Before z s.p) (m.0 ∙ sym h.1) (subst (Before t.p) (m.1 ∙ sym h.0) k.0)))

dropped_or : (sheet : ExactSheet) (p q : ExactPoint) (s : ExactSegment) → (p ≡ q) ⊎ ((t : ExactSegment) × Joins t p q × OnBorder sheet t) → Joins s p q → ¬ OnBorder sheet s → ⊥
dropped_or sheet p q s (inl e) j n = join_apart s p q j e
dropped_or sheet p q s (inr d) j n = n (subst (OnBorder sheet) (join_one d.0 s p q d.1 j) d.2)

dropped_not : (sheet : ExactSheet) (p q : ExactPoint) → (p ≡ q) ⊎ ((t : ExactSegment) × Joins t p q × OnBorder sheet t) → p ≢ q → ((s : ExactSegment) → ¬ Joins s p q) → ⊥
dropped_not sheet p q (inl e) n j = n e
dropped_not sheet p q (inr d) n j = j d.0 d.1

no_colour : (k : Option Colour) (c : Colour) → k ≡ None → k ≡ Some c → ⊥
no_colour k c e f = absurd (let g = sym e ∙ f in cc)

one_colour : (k : Option Colour) (c d : Colour) → k ≡ Some c → k ≡ Some d → c ≡ d
one_colour k c d e f = (let g = sym e ∙ f in cc)

between_one : (sheet : ExactSheet) (kind : Option Colour) (p q : ExactPoint) (a b : Result Drawn CpWhy) → DrawsBetween sheet kind p q a → DrawsBetween sheet kind p q b → a ≡ b
between_one sheet kind p q (Ok drawn.Nothing) b h k = absurd h
between_one sheet kind p q (Ok drawn.Dropped) (Ok drawn.Nothing) h k = absurd k
between_one sheet kind p q (Ok drawn.Dropped) (Ok drawn.Dropped) h k = refl
between_one sheet kind p q (Ok drawn.Dropped) (Ok (drawn.Line g)) h k = absurd (dropped_or sheet p q g.seg h k.0 k.1)
between_one sheet kind p q (Ok drawn.Dropped) (Err why.NotDirection) h k = absurd (dropped_not sheet p q h k.0 k.1)
between_one sheet kind p q (Ok drawn.Dropped) (Err why.InnerContour) h k = absurd (dropped_or sheet p q k.1.0 h k.1.1 k.1.2)
between_one sheet kind p q (Ok drawn.Dropped) (Err why.TooLong) h k = absurd k
between_one sheet kind p q (Ok drawn.Dropped) (Err why.Line) h k = absurd k
between_one sheet kind p q (Ok drawn.Dropped) (Err (why.NoNear m)) h k = absurd k
between_one sheet kind p q (Ok drawn.Dropped) (Err (why.TwoNear m s t)) h k = absurd k
between_one sheet kind p q (Ok (drawn.Line f)) (Ok drawn.Nothing) h k = absurd k
between_one sheet kind p q (Ok (drawn.Line f)) (Ok drawn.Dropped) h k = absurd (dropped_or sheet p q f.seg k h.0 h.1)
between_one sheet kind p q (Ok (drawn.Line f)) (Ok (drawn.Line g)) h k = (let s = join_one f.seg g.seg p q h.0 k.0 in let c = one_colour kind f.colour g.colour h.2 k.2 in λ i. Ok (drawn.Line (record { seg = s i; colour = c i })))
between_one sheet kind p q (Ok (drawn.Line f)) (Err why.NotDirection) h k = absurd (k.1 f.seg h.0)
between_one sheet kind p q (Ok (drawn.Line f)) (Err why.InnerContour) h k = absurd (no_colour kind f.colour k.0 h.2)
between_one sheet kind p q (Ok (drawn.Line f)) (Err why.TooLong) h k = absurd k
between_one sheet kind p q (Ok (drawn.Line f)) (Err why.Line) h k = absurd k
between_one sheet kind p q (Ok (drawn.Line f)) (Err (why.NoNear m)) h k = absurd k
between_one sheet kind p q (Ok (drawn.Line f)) (Err (why.TwoNear m s t)) h k = absurd k
between_one sheet kind p q (Err why.NotDirection) (Ok drawn.Nothing) h k = absurd k
between_one sheet kind p q (Err why.NotDirection) (Ok drawn.Dropped) h k = absurd (dropped_not sheet p q k h.0 h.1)
between_one sheet kind p q (Err why.NotDirection) (Ok (drawn.Line g)) h k = absurd (h.1 g.seg k.0)
between_one sheet kind p q (Err why.NotDirection) (Err why.NotDirection) h k = refl
between_one sheet kind p q (Err why.NotDirection) (Err why.InnerContour) h k = absurd (h.1 k.1.0 k.1.1)
between_one sheet kind p q (Err why.NotDirection) (Err why.TooLong) h k = absurd k
between_one sheet kind p q (Err why.NotDirection) (Err why.Line) h k = absurd k
between_one sheet kind p q (Err why.NotDirection) (Err (why.NoNear m)) h k = absurd k
between_one sheet kind p q (Err why.NotDirection) (Err (why.TwoNear m s t)) h k = absurd k
between_one sheet kind p q (Err why.InnerContour) (Ok drawn.Nothing) h k = absurd k
between_one sheet kind p q (Err why.InnerContour) (Ok drawn.Dropped) h k = absurd (dropped_or sheet p q h.1.0 k h.1.1 h.1.2)
between_one sheet kind p q (Err why.InnerContour) (Ok (drawn.Line g)) h k = absurd (no_colour kind g.colour h.0 k.2)
between_one sheet kind p q (Err why.InnerContour) (Err why.NotDirection) h k = absurd (k.1 h.1.0 h.1.1)
between_one sheet kind p q (Err why.InnerContour) (Err why.InnerContour) h k = refl
between_one sheet kind p q (Err why.InnerContour) (Err why.TooLong) h k = absurd k
between_one sheet kind p q (Err why.InnerContour) (Err why.Line) h k = absurd k
between_one sheet kind p q (Err why.InnerContour) (Err (why.NoNear m)) h k = absurd k
between_one sheet kind p q (Err why.InnerContour) (Err (why.TwoNear m s t)) h k = absurd k
between_one sheet kind p q (Err why.TooLong) b h k = absurd h
between_one sheet kind p q (Err why.Line) b h k = absurd h
between_one sheet kind p q (Err (why.NoNear n)) b h k = absurd h
between_one sheet kind p q (Err (why.TwoNear n u v)) b h k = absurd h

draws_fields_one : (l : Measures) (sheet : ExactSheet) (f : Fields) (a b : Result Drawn CpWhy) → DrawsFields l sheet f a → DrawsFields l sheet f b → a ≡ b
draws_fields_one l sheet f a b (inl (w, h, e)) (inl (x, k, g)) =
    e ∙ ap Err (first_by l 2 h.before k.before h.at k.at h.after k.after w x (sym h.whole ∙ k.whole) h.placed k.placed h.unplaced k.unplaced) ∙ sym g
draws_fields_one l sheet f a b (inl (w, h, e)) (inr (p, q, k, g)) = absurd (placed_not l (length h.before + 2) h.at w (all_at l h.before h.at h.after (subst (All (IsPlaced l)) h.whole (ends_placed l sheet f p q k))) h.unplaced)
draws_fields_one l sheet f a b (inr (p, q, k, g)) (inl (w, h, e)) = absurd (placed_not l (length h.before + 2) h.at w (all_at l h.before h.at h.after (subst (All (IsPlaced l)) h.whole (ends_placed l sheet f p q k))) h.unplaced)
draws_fields_one l sheet f a b (inr (p, q, h, e)) (inr (s, t, k, g)) =
    let o = ends_one l sheet f p q s t h k in
    between_one sheet f.kind s t a b (subst (λ z. DrawsBetween sheet f.kind s z a) o.1 (subst (λ z. DrawsBetween sheet f.kind z q a) o.0 e)) g

none_are_five : (line : List ℕ) (f : Fields) → AreWords line [] → HasFields line f → ⊥
none_are_five line f a h = absurd (let e = one_list line [] (h.type ∷ h.from_x ∷ h.from_y ∷ h.to_x ∷ h.to_y ∷ []) a h.words in cc)

draws_words_one : (l : Measures) (sheet : ExactSheet) (line : List ℕ) (a b : Result Drawn CpWhy) → DrawsWords l sheet line a → DrawsWords l sheet line b → a ≡ b
draws_words_one l sheet line a b (inl h) (inl k) = h.1 ∙ sym k.1
draws_words_one l sheet line a b (inl h) (inr (inl k)) = absurd (k.0 h.0)
draws_words_one l sheet line a b (inl h) (inr (inr k)) = absurd (none_are_five line k.0 h.0 k.1)
draws_words_one l sheet line a b (inr (inl h)) (inl k) = absurd (h.0 k.0)
draws_words_one l sheet line a b (inr (inl h)) (inr (inl k)) = h.2 ∙ sym k.2
draws_words_one l sheet line a b (inr (inl h)) (inr (inr k)) = absurd (h.1 k.0 k.1)
draws_words_one l sheet line a b (inr (inr h)) (inl k) = absurd (none_are_five line h.0 k.0 h.1)
draws_words_one l sheet line a b (inr (inr h)) (inr (inl k)) = absurd (k.1 h.0 h.1)
draws_words_one l sheet line a b (inr (inr h)) (inr (inr k)) = draws_fields_one l sheet k.0 a b (subst (λ f. DrawsFields l sheet f a) (fields_one line h.0 k.0 h.1 k.1) h.2) k.2

pub line_one : (l : Measures) (sheet : ExactSheet) (line : List ℕ) (a b : Result Drawn CpWhy) → DrawsLine l sheet line a → DrawsLine l sheet line b → a ≡ b
line_one l sheet line a b (inl h) (inl k) = h.1 ∙ sym k.1
line_one l sheet line a b (inl h) (inr k) = absurd (let p = h.0 in let q = k.0 in omega arith)
line_one l sheet line a b (inr h) (inl k) = absurd (let p = h.0 in let q = k.0 in omega arith)
line_one l sheet line a b (inr h) (inr k) = draws_words_one l sheet line a b h.1 k.1
