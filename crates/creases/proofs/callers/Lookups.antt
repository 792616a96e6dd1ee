-- What a look-up by a segment finds among the creases of a map.
use Rattle.std.proofs.Common.{◌≡◌, ◌≢◌, Bool, List, [], ◌∷◌, refl, sym, ap, subst, ◌∙◌, true, false, arith}
use Rattle.std.specs.Prelude.{Some, None, cond, Contains}
use Rattle.std.specs.declared.cmp.Ordering.{Ordering}
use Rattle.std.specs.declared.cmp.Ordering.TheVariants as o
use Rattle.std.specs.Ordering.{is_eq}
use Rattle.std.specs.BTreeMap.{is_at}
use Rattle.std.specs.Map.{lookup}
use Rattle.std.proofs.lemmas.Cmp.{tied_itself}
use Rattle.std.proofs.lemmas.List.Elements.{All-cons, All-contains, All-nil}
use Rattle.std.proofs.lemmas.Bool.{true≢false}
use Rattle.exact.specs.Plane.{ExactSegment}
use Rattle.plane.specs.Order.{segment_cmp}
use Rattle.plane.proofs.callers.Orders.{segment_total, segment_exact}
use Rattle.sheet.specs.Pattern.{ExactCrease}
use Rattle.sheet.specs.declared.colour.Colour.{Colour}
use Rattle.creases.specs.Creases.{IsUncreased}
use Rattle.creases.specs.Segments.{crease_of, creases_of}
use Rattle.chains.proofs.callers.Elements.{tail_has}

pub tied : (r : Ordering) → is_eq r ≡ true → r ≡ o.Equal
tied o.Less h = absurd (true≢false (sym h))
tied o.Equal h = refl
tied o.Greater h = absurd (true≢false (sym h))

equal_itself : (s : ExactSegment) → is_at (segment_cmp s) s ≡ true
equal_itself s = ap is_eq (tied_itself segment_total s)

step_found : (b : Bool) (e : ExactSegment × Colour) (es : List (ExactSegment × Colour)) (s : ExactSegment) (c : Colour) → is_at (segment_cmp s) e.0 ≡ b
    → cond b (Some e.1) (lookup (is_at (segment_cmp s)) es) ≡ Some c → (lookup (is_at (segment_cmp s)) es ≡ Some c → Contains (creases_of es) (record { seg = s; colour = c })) → Contains (creases_of (e ∷ es)) (record { seg = s; colour = c })
step_found true e es s c t h f =
    let same : s ≡ e.0 = segment_exact s e.0 (tied (segment_cmp s e.0) t) in
    let coloured : e.1 ≡ c = cc in
    (0, omega arith, pair e.0 s e.1 c (sym same) coloured)
  where
    pair : (a b : ExactSegment) (k l : Colour) → a ≡ b → k ≡ l → (let x : ExactCrease = record { seg = a; colour = k } in x) ≡ record { seg = b; colour = l }
    pair a b k l p q = λ i. record { seg = p i; colour = q i }
step_found false e es s c t h f = tail_has (crease_of e) (record { seg = s; colour = c }) (creases_of es) (f h)

-- what a look-up by a segment finds is the colour of a crease on it
pub colour_found : (es : List (ExactSegment × Colour)) (s : ExactSegment) (c : Colour) → lookup (is_at (segment_cmp s)) es ≡ Some c → Contains (creases_of es) (record { seg = s; colour = c })
colour_found [] s c h = cc
colour_found (e ∷ es) s c h = step_found (is_at (segment_cmp s) e.0) e es s c refl h (colour_found es s c)

step_missing : (b : Bool) (e : ExactSegment × Colour) (es : List (ExactSegment × Colour)) (s : ExactSegment) → is_at (segment_cmp s) e.0 ≡ b
    → cond b (Some e.1) (lookup (is_at (segment_cmp s)) es) ≡ None → (lookup (is_at (segment_cmp s)) es ≡ None → IsUncreased (creases_of es) s) → IsUncreased (creases_of (e ∷ es)) s
step_missing true e es s t h f = cc
step_missing false e es s t h f =
    All-cons (λ (g : ExactCrease). g.seg ≢ s) (crease_of e) (creases_of es)
    (λ same. true≢false (sym (subst (λ z. is_at (segment_cmp s) z ≡ true) (sym same) (equal_itself s)) ∙ t)) (f h)

-- where a look-up by a segment finds nothing, no crease is on it
pub colour_missing : (es : List (ExactSegment × Colour)) (s : ExactSegment) → lookup (is_at (segment_cmp s)) es ≡ None → IsUncreased (creases_of es) s
colour_missing [] s h = All-nil (λ (g : ExactCrease). g.seg ≢ s)
colour_missing (e ∷ es) s h = step_missing (is_at (segment_cmp s) e.0) e es s refl h (colour_missing es s)

-- and so no crease is that one
pub not_there : (es : List (ExactSegment × Colour)) (f : ExactCrease) → lookup (is_at (segment_cmp f.seg)) es ≡ None → ¬ Contains (creases_of es) f
not_there es f e c = All-contains (λ (g : ExactCrease). g.seg ≢ f.seg) (creases_of es) f (colour_missing es f.seg e) c refl
