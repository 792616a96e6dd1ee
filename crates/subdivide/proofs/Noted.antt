-- What is found grows, and nothing that was found is lost.
use Rattle.std.proofs.Common.{◌≡◌, ℕ, zero, suc, ◌+◌, ◌*◌, ◌<◌, List, [], ◌∷◌, ◌++◌, length, Option, Some, None, true, false, refl, sym, ap, subst, ◌∙◌, ◌⊎◌, inl, inr, arith, rules, ◌≤◌, length-append}
use Rattle.std.specs.Prelude.{All, Contains, slice_get}
use Rattle.std.proofs.lemmas.Bool.{false≢true, cases_lt, cases_order}
use Rattle.std.proofs.lemmas.List.Elements.{All-push, All-weaker, Contains-push, Contains-append_left}
use Rattle.std.proofs.lemmas.Option.{slice_get_within, slice_get_read}
use Rattle.exact.specs.Plane.{ExactPoint, ExactSegment, SamePoint, Cross, IsPointCanonical}
use Rattle.geometry.proofs.PointOrder.{same_itself as point_itself}
use Rattle.geometry.proofs.Segments.{end_p, end_q}
use Rattle.chains.proofs.callers.Elements.{head_has, has_cases, has_none}
use Rattle.subdivide.specs.declared.line.End.{End}
use Rattle.subdivide.specs.declared.line.End.TheVariants as end
use Rattle.subdivide.specs.declared.line.MarkedLine.{MarkedLine}
use Rattle.subdivide.specs.declared.touch.Touch.{Touch}
use Rattle.subdivide.specs.declared.touch.Touch.TheVariants as touch
use Rattle.subdivide.specs.declared.found.Cut.{Cut}
use Rattle.subdivide.specs.declared.found.Pair.{Pair}
use Rattle.subdivide.specs.declared.found.Found.{Found}
use Rattle.subdivide.specs.Lines.{end_at, IsMarkedBy}
use Rattle.subdivide.specs.Touch.{IsEndOf, IsTouch}
use Rattle.subdivide.proofs.Touched.{end_is}
use Rattle.subdivide.specs.Found.{Findings, IsCutAt, IsCutOf, IsPlace, IsAtMost, IsOut, HasEnds, IsSound, Settled, Grows, AreMany, IsKept, Leads, IsNoted, AreSettled, number_of, HoldEnds, IsWithCut}
use Rattle.subdivide.proofs.callers.Gets.{some_is, none_is, has_at}

pub get_more : {X : Type 0} (xs ys : List X) (k : ℕ) (v : X) → slice_get xs k ≡ Some v → slice_get (xs ++ ys) k ≡ Some v
get_more [] ys k v e = absurd (none_is e)
get_more (x ∷ xs) ys zero v e = e
get_more (x ∷ xs) ys (suc k) v e = get_more xs ys k v e

pub get_pushed : {X : Type 0} (xs : List X) (x : X) → slice_get (xs ++ x ∷ []) (length xs) ≡ Some x
get_pushed [] x = refl
get_pushed (y ∷ xs) x = get_pushed xs x

-- growing
pub grows_itself : (f : Findings) → Grows f f
grows_itself f = record { points = λ k v e. e; cuts = λ c h. h; least = λ i j h. h }

pub grows_on : (f g h : Findings) → Grows f g → Grows g h → Grows f h
grows_on f g h a b = record { points = λ k v e. b.points k v (a.points k v e); cuts = λ c x. b.cuts c (a.cuts c x); least = λ i j x. b.least i j (a.least i j x) }

pub cut_grows : (f g : Findings) (i : ℕ) (v : ExactPoint) → Grows f g → IsCutAt f.points f.cuts i v → IsCutAt g.points g.cuts i v
cut_grows f g i v h c = record { point = c.point; value = c.value; cut = h.cuts (record { line = i; point = c.point }) c.cut; stands = h.points c.point c.value c.stands; same = c.same }

pub settled_grows : (f g : Findings) (i j : ℕ) (s t : ExactSegment) → Grows f g → Settled f i j s t → Settled g i j s t
settled_grows f g i j s t h a = record {
  each = λ v o. elim (a.each v o) [
    | inl x ↦ inl (cut_grows f g i v h x.0, cut_grows f g j v h x.1)
    | inr x ↦ inr (h.least i j x)
  ];
}

pub ends_grow : (f g : Findings) (i : ℕ) (s : ExactSegment) → Grows f g → HasEnds f i s → HasEnds g i s
ends_grow f g i s h e = record {
  from = h.points (2 * i) s.p e.from;
  to = h.points (2 * i + 1) s.q e.to;
  cut_from = h.cuts (record { line = i; point = 2 * i }) e.cut_from;
  cut_to = h.cuts (record { line = i; point = 2 * i + 1 }) e.cut_to;
}

pub many_grow : (f g : Findings) → Grows f g → AreMany f.points → AreMany g.points
many_grow f g h m = record {
  some = m.some;
  ascends = m.ascends;
  within = λ v c. (let x = m.within v c in has_at g.points x.0 v (h.points x.0 v (slice_get_read f.points (length f.points) x.0 v refl x.1 (sym x.2))));
  many = m.many;
}

-- leading
pub leads_on : (lines : List MarkedLine) (a b c : Found) (P Q R : Findings → Type 0) → Leads lines a b P → Leads lines b c Q → ((f g : Findings) → Grows f g → P f → Q g → R g) → Leads lines a c R
leads_on lines a b c P Q R x y k = record {
  each = λ f h. (let u = x.each f h in let w = y.each u.0 u.1 in (w.0, w.1, grows_on f u.0 w.0 u.2 w.2, k u.0 w.0 w.2 u.3 w.3));
}

pub leads_itself : (lines : List MarkedLine) (a : Found) (P : Findings → Type 0) → ((f : Findings) → IsKept lines f a → P f) → Leads lines a a P
leads_itself lines a P k = record { each = λ f h. (f, h, grows_itself f, k f h) }

-- an end of a line cuts it
pub end_cut : (f : Findings) (i : ℕ) (s : ExactSegment) (v : ExactPoint) → HasEnds f i s → IsEndOf v s → IsCutAt f.points f.cuts i v
end_cut f i s v h e = elim e [
  | inl x ↦ record { point = 2 * i; value = s.p; cut = h.cut_from; stands = h.from; same = x }
  | inr x ↦ record { point = 2 * i + 1; value = s.q; cut = h.cut_to; stands = h.to; same = x }
]

end_stands : (f : Findings) (i : ℕ) (s : ExactSegment) (e : End) → HasEnds f i s → slice_get f.points (number_of i e) ≡ Some (end_at s e)
end_stands f i s end.Lesser h = h.from
end_stands f i s end.Greater h = h.to

-- lines with at most ends in common
pub ends_settled : (lines : List MarkedLine) (f : Findings) (i j : ℕ) (l m : MarkedLine) → IsSound lines f → slice_get lines i ≡ Some l → slice_get lines j ≡ Some m → IsTouch l.seg m.seg touch.Ends → Settled f i j l.seg m.seg
ends_settled lines f i j l m s e g h = record { each = λ v o. (let x = h v o in inl (end_cut f i l.seg v (s.ends i l e) x.0, end_cut f j m.seg v (s.ends j m g) x.1)) }

-- one more cut
with_cut : Findings → ℕ → ℕ → Findings
with_cut f line point = record { points = f.points; cuts = f.cuts ++ record { line = line; point = point } ∷ []; least = f.least }

cut_added : (f : Findings) (line point : ℕ) → Grows f (with_cut f line point)
unfolding with_cut
cut_added f line point = record { points = λ k v e. e; cuts = λ c h. Contains-append_left f.cuts (record { line = line; point = point } ∷ []) c h; least = λ i j h. h }

sound_cut : (lines : List MarkedLine) (f : Findings) (line point : ℕ) → IsSound lines f → IsCutOf lines f.points (record { line = line; point = point }) → IsSound lines (with_cut f line point)
unfolding with_cut
sound_cut lines f line point s c = record {
  canonical = s.canonical;
  points = s.points;
  cuts = All-push (IsCutOf lines f.points) f.cuts (record { line = line; point = point }) s.cuts c;
  ends = λ i l e. ends_grow f (with_cut f line point) i l.seg (cut_added f line point) (s.ends i l e);
  least = s.least;
}

kept_cut : (lines : List MarkedLine) (f : Findings) (line point : ℕ) (old new : Found) → IsWithCut line point old new → IsCutOf lines f.points (record { line = line; point = point }) → IsKept lines f old → IsKept lines (with_cut f line point) new
unfolding with_cut
kept_cut lines f line point old new w c k = record {
  sound = sound_cut lines f line point k.sound c;
  least = w.least ∙ k.least;
  points = λ e. ap (λ z. z.items) w.points ∙ k.points (sym w.full ∙ e);
  cuts = λ e. w.cuts (sym w.full ∙ e) ∙ ap (λ z. z ++ record { line = line; point = point } ∷ []) (k.cuts (sym w.full ∙ e));
  many = λ e. k.many (sym w.full ∙ e);
}

cut_settled : (f : Findings) (line point : ℕ) (v value : ExactPoint) → slice_get f.points point ≡ Some value → SamePoint v value → IsCutAt f.points (with_cut f line point).cuts line v
unfolding with_cut
cut_settled f line point v value e s = record { point = point; value = value; cut = Contains-push f.cuts (record { line = line; point = point }); stands = e; same = s }

pub cuts_first : (first second : ℕ) (e : End) (point : ℕ) (old new : Found) → point ≡ number_of second e → IsWithCut first point old new → IsNoted first second (touch.CutsFirst e) old new
unfolding with_cut
cuts_first first second e point old new q w = record {
  leads = λ lines l m h a b c. record {
    each = λ f k. (let stands = subst (λ n. slice_get f.points n ≡ Some (end_at m.seg e)) (sym q) (end_stands f second m.seg e (k.sound.ends second m b)) in
        let cut : IsCutOf lines f.points (record { line = first; point = point }) = record { line = l; point = end_at m.seg e; is = a; stands = stands; on = c.here.0 } in (
          with_cut f first point,
          kept_cut lines f first point old new w cut k,
          cut_added f first point,
          record {
            each = λ v o. (let s = c.only v o in inl (
              cut_settled f first point v (end_at m.seg e) stands s,
              cut_grows f (with_cut f first point) second v (cut_added f first point) (end_cut f second m.seg v (k.sound.ends second m b) (end_is m.seg e v s)),
            ));
          },
        ));
  };
}

pub cuts_second : (first second : ℕ) (e : End) (point : ℕ) (old new : Found) → point ≡ number_of first e → IsWithCut second point old new → IsNoted first second (touch.CutsSecond e) old new
unfolding with_cut
cuts_second first second e point old new q w = record {
  leads = λ lines l m h a b c. record {
    each = λ f k. (let stands = subst (λ n. slice_get f.points n ≡ Some (end_at l.seg e)) (sym q) (end_stands f first l.seg e (k.sound.ends first l a)) in
        let cut : IsCutOf lines f.points (record { line = second; point = point }) = record { line = m; point = end_at l.seg e; is = b; stands = stands; on = c.here.1 } in (
          with_cut f second point,
          kept_cut lines f second point old new w cut k,
          cut_added f second point,
          record {
            each = λ v o. (let s = c.only v o in inl (
              cut_grows f (with_cut f second point) first v (cut_added f second point) (end_cut f first l.seg v (k.sound.ends first l a) (end_is l.seg e v s)),
              cut_settled f second point v (end_at l.seg e) stands s,
            ));
          },
        ));
  };
}

-- one more point
with_point : Findings → ExactPoint → Findings
with_point f v = record { points = f.points ++ v ∷ []; cuts = f.cuts; least = f.least }

point_added : (f : Findings) (v : ExactPoint) → Grows f (with_point f v)
unfolding with_point
point_added f v = record { points = λ k w e. get_more f.points (v ∷ []) k w e; cuts = λ c h. h; least = λ i j h. h }

cut_more : (lines : List MarkedLine) (f : Findings) (v : ExactPoint) (c : Cut) → IsCutOf lines f.points c → IsCutOf lines (f.points ++ v ∷ []) c
cut_more lines f v c h = record { line = h.line; point = h.point; is = h.is; stands = get_more f.points (v ∷ []) c.point h.point h.stands; on = h.on }

sound_point : (lines : List MarkedLine) (f : Findings) (v : ExactPoint) → IsSound lines f → IsPointCanonical v → IsPlace lines v → IsSound lines (with_point f v)
unfolding with_point
sound_point lines f v s p h = record {
  canonical = All-push IsPointCanonical f.points v s.canonical p;
  points = All-push (IsPlace lines) f.points v s.points h;
  cuts = All-weaker (IsCutOf lines f.points) (IsCutOf lines (f.points ++ v ∷ [])) (λ c x. cut_more lines f v c x) f.cuts s.cuts;
  ends = λ i l e. ends_grow f (with_point f v) i l.seg (point_added f v) (s.ends i l e);
  least = s.least;
}

-- two lines cut at one more point
crossed : Findings → ℕ → ℕ → ExactPoint → Findings
crossed f first second at = with_cut (with_cut (with_point f at) first (length f.points)) second (length f.points)

pub record IsCrossed (first second : ℕ) (at : ExactPoint) (old new : Found) : Type 0 where
  pub least : new.least ≡ old.least
  pub full : new.full ≡ old.full
  pub points : old.full ≡ false → new.points.items ≡ old.points.items ++ at ∷ []
  pub cuts : old.full ≡ false → new.cuts.items ≡ (old.cuts.items ++ record { line = first; point = length old.points.items } ∷ []) ++ record { line = second; point = length old.points.items } ∷ []

pub cuts_both : (first second : ℕ) (at : ExactPoint) (old new : Found) → IsCrossed first second at old new → IsNoted first second (touch.CutsBoth at) old new
unfolding crossed with_cut with_point
cuts_both first second at old new w = record {
  leads = λ lines l m h a b c. record {
    each = λ f k. (
      crossed f first second at,
      record {
        sound = sound lines l m f a b c k;
        least = w.least ∙ k.least;
        points = λ e. (let q = sym w.full ∙ e in w.points q ∙ ap (λ z. z ++ at ∷ []) (k.points q));
        cuts = λ e. (let q = sym w.full ∙ e in w.cuts q ∙ added old.points.items f.points old.cuts.items f.cuts (k.points q) (k.cuts q));
        many = λ e. many_grow f (with_point f at) (point_added f at) (k.many (sym w.full ∙ e));
      },
      grows f,
      record {
        each = λ v o. (let s = c.0.only v o in inl (
          cut_grows (with_cut (with_point f at) first (length f.points)) (crossed f first second at) first v (cut_added (with_cut (with_point f at) first (length f.points)) second (length f.points))
              (cut_settled (with_point f at) first (length f.points) v at (get_pushed f.points at) s),
          cut_settled (with_cut (with_point f at) first (length f.points)) second (length f.points) v at (get_pushed f.points at) s,
        ));
      },
    );
  };
}
  where
    added : (ps qs : List ExactPoint) (cs ds : List Cut) → ps ≡ qs → cs ≡ ds
        → (cs ++ record { line = first; point = length ps } ∷ []) ++ record { line = second; point = length ps } ∷ [] ≡ (ds ++ record { line = first; point = length qs } ∷ []) ++ record { line = second; point = length qs } ∷ []
    added ps qs cs ds e g = rw (e, g) refl

    grows : (f : Findings) → Grows f (crossed f first second at)
    grows f = grows_on f (with_point f at) (crossed f first second at) (point_added f at)
        (grows_on (with_point f at) (with_cut (with_point f at) first (length f.points)) (crossed f first second at) (cut_added (with_point f at) first (length f.points)) (cut_added (with_cut (with_point f at) first (length f.points)) second (length f.points)))

    sound : (lines : List MarkedLine) (l m : MarkedLine) (f : Findings) → slice_get lines first ≡ Some l → slice_get lines second ≡ Some m → Cross l.seg m.seg at × IsPointCanonical at → IsKept lines f old → IsSound lines (crossed f first second at)
    sound lines l m f a b c k = sound_cut lines (with_cut (with_point f at) first (length f.points)) second (length f.points)
        (sound_cut lines (with_point f at) first (length f.points)
        (sound_point lines f at k.sound c.1 (inr (l, m, has_at lines first l a, has_at lines second m b, c.0)))
        (record { line = l; point = at; is = a; stands = get_pushed f.points at; on = c.0.here.0 }))
        (record { line = m; point = at; is = b; stands = get_pushed f.points at; on = c.0.here.1 })

-- a pair out of range
pub record IsRefused (first second : ℕ) (old new : Found) : Type 0 where
  pub points : new.points ≡ old.points
  pub cuts : new.cuts ≡ old.cuts
  pub full : new.full ≡ old.full
  pub keeps : (i j : ℕ) → IsAtMost old.least i j → IsAtMost new.least i j
  pub here : IsAtMost new.least first second
  pub least : (new.least ≡ old.least) ⊎ (new.least ≡ Some (record { first = first; second = second }))

pub refused : (first second : ℕ) (old new : Found) → IsRefused first second old new → IsNoted first second touch.OutOfRange old new
refused first second old new w = record {
  leads = λ lines l m h a b c. record {
    each = λ f k. (
      record { points = f.points; cuts = f.cuts; least = new.least },
      record {
        sound = record {
          canonical = k.sound.canonical;
          points = k.sound.points;
          cuts = k.sound.cuts;
          ends = λ i u e. (let x = k.sound.ends i u e in record { from = x.from; to = x.to; cut_from = x.cut_from; cut_to = x.cut_to });
          least = λ p e. elim w.least [
            | inl q ↦ k.sound.least p (sym k.least ∙ sym q ∙ e)
            | inr q ↦ subst (IsOut lines) (some_is (sym q ∙ e)) (record { first = l; second = m; is_first = a; is_second = b; ordered = h; out = c })
          ];
        };
        least = refl;
        points = λ e. ap (λ z. z.items) w.points ∙ k.points (sym w.full ∙ e);
        cuts = λ e. ap (λ z. z.items) w.cuts ∙ k.cuts (sym w.full ∙ e);
        many = λ e. k.many (sym w.full ∙ e);
      },
      record { points = λ n v e. e; cuts = λ d e. e; least = λ i j e. w.keeps i j (subst (λ z. IsAtMost z i j) (sym k.least) e) },
      record { each = λ v o. inr w.here },
    );
  };
}

-- a line that ends in common points alone
pub noted_ends : (first second : ℕ) (found : Found) → IsNoted first second touch.Ends found found
noted_ends first second found = record {
  leads = λ lines l m h a b c. leads_itself lines found (λ f. Settled f first second l.seg m.seg) (λ f k. ends_settled lines f first second l m k.sound a b c);
}

pub leads_weaker : (lines : List MarkedLine) (a b : Found) (P Q : Findings → Type 0) → ((f : Findings) → P f → Q f) → Leads lines a b P → Leads lines a b Q
leads_weaker lines a b P Q k x = record { each = λ f h. (let u = x.each f h in (u.0, u.1, u.2, k u.0 u.3)) }

pub one_settled : (lines : List MarkedLine) (f : Findings) (first second : ℕ) (l m : MarkedLine) → slice_get lines first ≡ Some l → slice_get lines second ≡ Some m → Settled f first second l.seg m.seg → AreSettled lines second (first ∷ []) f
one_settled lines f first second l m a b s = λ i u w c e g. elim (has_cases first i [] c) [
  | inl q ↦ moved i u w q (some_is (sym a ∙ ap (slice_get lines) q ∙ e)) (some_is (sym b ∙ g))
  | inr n ↦ absurd (has_none i n)
]
  where
    moved : (i : ℕ) (u w : MarkedLine) → first ≡ i → l ≡ u → m ≡ w → Settled f i second u.seg w.seg
    moved i u w q x y = rw (← q, ← x, ← y) s

-- two lines after the least pair
pub none_lesser : (lines : List MarkedLine) (first second : ℕ) (found : Found) (l m : MarkedLine) → IsAtMost found.least first second → slice_get lines first ≡ Some l → slice_get lines second ≡ Some m
    → Leads lines found found (AreSettled lines second (first ∷ []))
none_lesser lines first second found l m h e g = leads_itself lines found (AreSettled lines second (first ∷ []))
    (λ f k. one_settled lines f first second l m e g (record { each = λ v o. inr (subst (λ z. IsAtMost z first second) k.least h) }))

pub noted_leads : (lines : List MarkedLine) (first second : ℕ) (t : Touch) (old new : Found) (l m : MarkedLine) → IsNoted first second t old new → first < second → slice_get lines first ≡ Some l → slice_get lines second ≡ Some m → IsTouch l.seg m.seg t → Leads lines old new (AreSettled lines second (first ∷ []))
noted_leads lines first second t old new l m n h a b c = leads_weaker lines old new (λ f. Settled f first second l.seg m.seg) (AreSettled lines second (first ∷ [])) (λ f s. one_settled lines f first second l m a b s) (n.leads lines l m h a b c)

-- line n is settled with the first k of these
abbrev pub AreSettledTo : List MarkedLine → ℕ → List ℕ → ℕ → Findings → Type 0
AreSettledTo lines n near k f = (p i : ℕ) (l m : MarkedLine) → p < k → slice_get near p ≡ Some i → slice_get lines i ≡ Some l → slice_get lines n ≡ Some m → Settled f i n l.seg m.seg

pub settled_more : (lines : List MarkedLine) (n : ℕ) (near : List ℕ) (k first : ℕ) (a b c : Found) → slice_get near k ≡ Some first → Leads lines a b (AreSettledTo lines n near k) → Leads lines b c (AreSettled lines n (first ∷ [])) → Leads lines a c (AreSettledTo lines n near (k + 1))
settled_more lines n near k first a b c e x y = leads_on lines a b c (AreSettledTo lines n near k) (AreSettled lines n (first ∷ [])) (AreSettledTo lines n near (k + 1)) x y (λ f g h u w p i l m q r s t. elim (cases_order p k) [
  | inl z ↦ w i l m (head_has first i [] (some_is (sym e ∙ ap (slice_get near) (sym z) ∙ r))) s t
  | inr z ↦ elim z [ inl o ↦ settled_grows f g i n l.seg m.seg h (u p i l m o r s t) | inr o ↦ absurd (omega (arith, o, q)) ]
])

pub settled_none : (lines : List MarkedLine) (n : ℕ) (near : List ℕ) (a : Found) → Leads lines a a (AreSettledTo lines n near 0)
settled_none lines n near a = leads_itself lines a (AreSettledTo lines n near 0) (λ f k p i l m h. absurd (omega (arith, h)))

pub settled_all : (lines : List MarkedLine) (n : ℕ) (near : List ℕ) (k : ℕ) (a b : Found) → length near ≤ k → Leads lines a b (AreSettledTo lines n near k) → Leads lines a b (AreSettled lines n near)
settled_all lines n near k a b h x = leads_weaker lines a b (AreSettledTo lines n near k) (AreSettled lines n near) (λ f u i l m c e g. u c.0 i l m (omega (arith, h, c.1)) (slice_get_read near (length near) c.0 i refl c.1 (sym c.2)) e g) x

-- the ends of one more line
pub begun : (lines : List MarkedLine) (n scale number : ℕ) (l : MarkedLine) (old new : Found) → slice_get lines n ≡ Some l → IsMarkedBy scale l → HoldEnds lines n old → number ≡ n
    → new.points.items ≡ (old.points.items ++ l.seg.p ∷ []) ++ l.seg.q ∷ []
    → new.cuts.items ≡ (old.cuts.items ++ record { line = number; point = 2 * number } ∷ []) ++ record { line = number; point = 2 * number + 1 } ∷ []
    → new.least ≡ old.least → new.full ≡ old.full → HoldEnds lines (n + 1) new
unfolding with_cut with_point
begun lines n scale number l old new e m h q ps cs le fu = record {
  many = ap length ps ∙ many old.points.items h.many;
  canonical = subst (All IsPointCanonical) (sym ps) (All-push IsPointCanonical (old.points.items ++ l.seg.p ∷ []) l.seg.q (All-push IsPointCanonical old.points.items l.seg.p h.canonical m.held.0) m.held.1);
  points = subst (All (IsPlace lines)) (sym ps) (All-push (IsPlace lines) (old.points.items ++ l.seg.p ∷ []) l.seg.q (All-push (IsPlace lines) old.points.items l.seg.p h.points (inl (l, has_at lines n l e, inl (point_itself l.seg.p)))) (inl (l, has_at lines n l e, inr (point_itself l.seg.q))));
  cuts = rw (ps, cs, q) (All-push (IsCutOf lines both) (old.cuts.items ++ record { line = n; point = 2 * n } ∷ []) (record { line = n; point = 2 * n + 1 })
      (All-push (IsCutOf lines both) old.cuts.items (record { line = n; point = 2 * n }) (All-weaker (IsCutOf lines old.points.items) (IsCutOf lines both) (λ c x. cut_more lines (with_point f l.seg.p) l.seg.q c (cut_more lines f l.seg.p c x)) old.cuts.items h.cuts)
      (record { line = l; point = l.seg.p; is = e; stands = from; on = end_p l.seg l.dir m.along }))
      (record { line = l; point = l.seg.q; is = e; stands = to; on = end_q l.seg l.dir m.along }));
  ends = λ i u k g. ends i u k g;
  least = le ∙ h.least;
  full = fu ∙ h.full;
}
  where
    f : Findings
    f = record { points = old.points.items; cuts = old.cuts.items; least = None }

    both : List ExactPoint
    both = (old.points.items ++ l.seg.p ∷ []) ++ l.seg.q ∷ []

    g : Findings
    g = record { points = new.points.items; cuts = new.cuts.items; least = None }

    many : (xs : List ExactPoint) → length xs ≡ 2 * n → length ((xs ++ l.seg.p ∷ []) ++ l.seg.q ∷ []) ≡ 2 * (n + 1)
    many xs w = simp length-append (omega (arith, w))

    from : slice_get both (2 * n) ≡ Some l.seg.p
    from = get_more (old.points.items ++ l.seg.p ∷ []) (l.seg.q ∷ []) (2 * n) l.seg.p (subst (λ k. slice_get (old.points.items ++ l.seg.p ∷ []) k ≡ Some l.seg.p) h.many (get_pushed old.points.items l.seg.p))

    to : slice_get both (2 * n + 1) ≡ Some l.seg.q
    to = subst (λ k. slice_get both k ≡ Some l.seg.q) (one_more old.points.items h.many) (get_pushed (old.points.items ++ l.seg.p ∷ []) l.seg.q)
      where
        one_more : (xs : List ExactPoint) → length xs ≡ 2 * n → length (xs ++ l.seg.p ∷ []) ≡ 2 * n + 1
        one_more xs w = simp length-append (omega (arith, w))

    grows : Grows f g
    grows = record {
      points = λ k v x. subst (λ z. slice_get z k ≡ Some v) (sym ps) (get_more (old.points.items ++ l.seg.p ∷ []) (l.seg.q ∷ []) k v (get_more old.points.items (l.seg.p ∷ []) k v x));
      cuts = λ c x. subst (λ z. Contains z c) (sym cs) (Contains-append_left (old.cuts.items ++ record { line = number; point = 2 * number } ∷ []) (record { line = number; point = 2 * number + 1 } ∷ []) c (Contains-append_left old.cuts.items (record { line = number; point = 2 * number } ∷ []) c x));
      least = λ i j x. x;
    }

    here : HasEnds g n l.seg
    here = record {
      from = subst (λ z. slice_get z (2 * n) ≡ Some l.seg.p) (sym ps) from;
      to = subst (λ z. slice_get z (2 * n + 1) ≡ Some l.seg.q) (sym ps) to;
      cut_from = rw (cs, q) (Contains-append_left (old.cuts.items ++ record { line = n; point = 2 * n } ∷ []) (record { line = n; point = 2 * n + 1 } ∷ []) (record { line = n; point = 2 * n }) (Contains-push old.cuts.items (record { line = n; point = 2 * n })));
      cut_to = rw (cs, q) (Contains-push (old.cuts.items ++ record { line = n; point = 2 * n } ∷ []) (record { line = n; point = 2 * n + 1 }));
    }

    ends : (i : ℕ) (u : MarkedLine) → i < n + 1 → slice_get lines i ≡ Some u → HasEnds g i u.seg
    ends i u k x = elim (cases_lt i n) [
      | inl r ↦ ends_grow f g i u.seg grows (h.ends i u r x)
      | inr r ↦ moved i u (let z : n ≡ i = omega (arith, k, r) in z) x
    ]
      where
        moved : (i : ℕ) (u : MarkedLine) → n ≡ i → slice_get lines i ≡ Some u → HasEnds g i u.seg
        moved i u z x = (let y : l ≡ u = some_is (sym e ∙ ap (slice_get lines) z ∙ x) in subst (λ k. HasEnds g k u.seg) z (subst (λ (w : MarkedLine). HasEnds g n w.seg) y here))

-- all lines have begun
pub kept_ends : (lines : List MarkedLine) (n : ℕ) (found : Found) → length lines ≤ n → HoldEnds lines n found → (f : Findings) × IsKept lines f found
kept_ends lines n found k h = (
  record { points = found.points.items; cuts = found.cuts.items; least = None },
  record {
    sound = record {
      canonical = h.canonical;
      points = h.points;
      cuts = h.cuts;
      ends = λ i l e. h.ends i l (omega (arith, k, slice_get_within lines i l e)) e;
      least = λ p e. absurd (none_is e);
    };
    least = h.least;
    points = λ e. refl;
    cuts = λ e. refl;
    many = λ e. absurd (false≢true (sym h.full ∙ e));
  },
)

-- points that were counted
pub looked : (lines : List MarkedLine) (old new : Found) → old.full ≡ false → new.points ≡ old.points → new.cuts ≡ old.cuts → new.least ≡ old.least → (new.full ≡ true → AreMany old.points.items) → Leads lines old new (λ _. Unit {0})
looked lines old new o p c l m = record {
  each = λ f k. (
    f,
    record {
      sound = k.sound;
      least = l ∙ k.least;
      points = λ e. ap (λ z. z.items) p ∙ k.points o;
      cuts = λ e. ap (λ z. z.items) c ∙ k.cuts o;
      many = λ e. subst AreMany (k.points o) (m e);
    },
    grows_itself f,
    tt,
  );
}

pub cuts_both_at : (first second point : ℕ) (at : ExactPoint) (old new : Found) (mid : List Cut) → new.least ≡ old.least → new.full ≡ old.full → new.points.items ≡ old.points.items ++ at ∷ []
    → mid ≡ old.cuts.items ++ record { line = first; point = point } ∷ [] → new.cuts.items ≡ mid ++ record { line = second; point = point } ∷ [] → point ≡ length old.points.items → IsNoted first second (touch.CutsBoth at) old new
cuts_both_at first second point at old new mid l f p m c e = cuts_both first second at old new (record {
  least = l;
  full = f;
  points = λ z. p;
  cuts = λ z. c ∙ ap (λ w. w ++ record { line = second; point = point } ∷ []) m ∙ ap (λ n. (old.cuts.items ++ record { line = first; point = n } ∷ []) ++ record { line = second; point = n } ∷ []) e;
})

pub cuts_none : (first second : ℕ) (at : ExactPoint) (old : Found) → old.full ≡ true → IsNoted first second (touch.CutsBoth at) old old
cuts_none first second at old f = cuts_both first second at old old (record { least = refl; full = refl; points = λ z. absurd (false≢true (sym z ∙ f)); cuts = λ z. absurd (false≢true (sym z ∙ f)) })

pub refused_again : (first second : ℕ) (old : Found) → IsAtMost old.least first second → IsNoted first second touch.OutOfRange old old
refused_again first second old h = refused first second old old (record { points = refl; cuts = refl; full = refl; keeps = λ i j x. x; here = h; least = inl refl })

at_most_more : (least : Option Pair) (first second i j : ℕ) → ¬ IsAtMost least first second → IsAtMost least i j → (first < i) ⊎ ((first ≡ i) × (second ≤ j))
at_most_more None first second i j n h = absurd h
at_most_more (Some p) first second i j n h = elim (cases_order p.first first) [
  | inl e ↦ elim h [
    | inl l ↦ inl (omega (arith, e, l))
    | inr r ↦ inr (omega (arith, e, r.0), elim (cases_lt second p.second) [ inl k ↦ omega (arith, k, r.1) | inr k ↦ absurd (n (inr (e, k))) ])
  ]
  | inr d ↦ elim d [
    | inl l ↦ absurd (n (inl l))
    | inr g ↦ elim h [ inl l ↦ inl (omega (arith, g, l)) | inr r ↦ inl (omega (arith, g, r.0)) ]
  ]
]

pub refused_now : (first second : ℕ) (old new : Found) → ¬ IsAtMost old.least first second → new.points ≡ old.points → new.cuts ≡ old.cuts → new.full ≡ old.full → new.least ≡ Some (record { first = first; second = second }) → IsNoted first second touch.OutOfRange old new
refused_now first second old new n p c f l = refused first second old new (record {
  points = p;
  cuts = c;
  full = f;
  keeps = λ i j h. subst (λ z. IsAtMost z i j) (sym l) (at_most_more old.least first second i j n h);
  here = subst (λ z. IsAtMost z first second) (sym l) (inr (refl, omega arith));
  least = inr l;
})

-- nothing yet
pub hold_none : (lines : List MarkedLine) (found : Found) → found.points.items ≡ [] → found.cuts.items ≡ [] → found.least ≡ None → found.full ≡ false → HoldEnds lines 0 found
hold_none lines found p c l f = record {
  many = ap length p;
  canonical = subst (All IsPointCanonical) (sym p) none_canonical;
  points = subst (All (IsPlace lines)) (sym p) none_places;
  cuts = subst (All (IsCutOf lines found.points.items)) (sym c) none_cuts;
  ends = λ i u h e. absurd (omega (arith, h));
  least = l;
  full = f;
}
  where
    none_canonical : All IsPointCanonical []
    none_canonical = search rules

    none_places : All (IsPlace lines) []
    none_places = search rules

    none_cuts : All (IsCutOf lines found.points.items) []
    none_cuts = search rules
