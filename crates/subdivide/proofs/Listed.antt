-- The same lines, marked one after another.
use Rattle.std.proofs.Common.{◌≡◌, ℕ, zero, suc, ◌+◌, ◌<◌, List, [], ◌∷◌, ◌++◌, map, length, Some, refl, sym, ap, subst, ◌∙◌, inl, inr, arith, length-append}
use Rattle.std.specs.Prelude.{All, slice_get}
use Rattle.std.proofs.lemmas.Bool.{cases_lt}
use Rattle.std.proofs.lemmas.List.Elements.{All-push, All-contains}
use Rattle.std.proofs.lemmas.Option.{slice_get_within}
use Rattle.exact.specs.Plane.{ExactSegment}
use Rattle.subdivide.specs.Subdivision.{Line}
use Rattle.subdivide.specs.declared.edge.EdgeKind.{EdgeKind}
use Rattle.subdivide.specs.declared.line.MarkedLine.{MarkedLine}
use Rattle.subdivide.specs.Lines.{as_line, IsMarkedBy, AreMarked}
use Rattle.subdivide.proofs.Noted.{get_pushed}
use Rattle.subdivide.proofs.callers.Gets.{some_is, has_at}

pub as_line_is : (m : MarkedLine) (l : Line) → m.seg ≡ l.seg → m.kind ≡ l.kind → as_line m ≡ l
as_line_is m l e f = parts m.seg l.seg m.kind l.kind e f
  where
    parts : (s t : ExactSegment) (k j : EdgeKind) → s ≡ t → k ≡ j → (let l : Line = record { seg = s; kind = k } in l) ≡ record { seg = t; kind = j }
    parts s t k j e f = cc

-- the first n lines, marked
pub record AreMarkedFirst (scale : ℕ) (lines : List Line) (n : ℕ) (ls : List MarkedLine) : Type 0 where
  pub many : length ls ≡ n
  pub same : (k : ℕ) (m : MarkedLine) (l : Line) → slice_get ls k ≡ Some m → slice_get lines k ≡ Some l → as_line m ≡ l
  pub each : All (IsMarkedBy scale) ls

pub marked_more : (scale : ℕ) (lines : List Line) (n : ℕ) (l : Line) (m : MarkedLine) (old new : List MarkedLine) → AreMarkedFirst scale lines n old → slice_get lines n ≡ Some l → as_line m ≡ l → IsMarkedBy scale m → new ≡ old ++ m ∷ [] → AreMarkedFirst scale lines (n + 1) new
marked_more scale lines n l m old new a e q h s = subst (AreMarkedFirst scale lines (n + 1)) (sym s) (record {
  many = longer old a.many;
  same = λ k w r f g. elim (cases_lt k n) [
    | inl x ↦ a.same k w r (before old k w (omega (arith, x, a.many)) f) g
    | inr x ↦ (let z : k ≡ n = omega (arith, x, slice_get_within (old ++ m ∷ []) k w f, longer old a.many) in
        ap as_line (sym (some_is (sym (get_pushed old m) ∙ ap (slice_get (old ++ m ∷ [])) (a.many ∙ sym z) ∙ f))) ∙ q ∙ some_is (sym e ∙ ap (slice_get lines) (sym z) ∙ g))
  ];
  each = All-push (IsMarkedBy scale) old m a.each h;
})
  where
    longer : (xs : List MarkedLine) → length xs ≡ n → length (xs ++ m ∷ []) ≡ n + 1
    longer xs w = simp length-append (omega (arith, w))

    before : (xs : List MarkedLine) (k : ℕ) (w : MarkedLine) → k < length xs → slice_get (xs ++ m ∷ []) k ≡ Some w → slice_get xs k ≡ Some w
    before [] k w h f = absurd (omega (arith, h))
    before (x ∷ xs) zero w h f = f
    before (x ∷ xs) (suc k) w h f = before xs k w (omega (arith, h)) f

same_lists : (ms : List MarkedLine) (ls : List Line) → length ms ≡ length ls → ((k : ℕ) (m : MarkedLine) (l : Line) → slice_get ms k ≡ Some m → slice_get ls k ≡ Some l → as_line m ≡ l) → map as_line ms ≡ ls
same_lists [] [] e h = refl
same_lists [] (l ∷ ls) e h = absurd (omega (arith, e))
same_lists (m ∷ ms) [] e h = absurd (omega (arith, e))
same_lists (m ∷ ms) (l ∷ ls) e h = both (h 0 m l refl refl) (same_lists ms ls (omega (arith, e)) (λ k u w f g. h (suc k) u w f g))
  where
    both : as_line m ≡ l → map as_line ms ≡ ls → as_line m ∷ map as_line ms ≡ l ∷ ls
    both a b = cc

pub marked_same : (scale : ℕ) (lines : List Line) (n : ℕ) (ls : List MarkedLine) → AreMarkedFirst scale lines n ls → n ≡ length lines → map as_line ls ≡ lines
marked_same scale lines n ls a e = same_lists ls lines (a.many ∙ e) a.same

pub marked_all : (scale : ℕ) (lines : List Line) (n : ℕ) (ls : List MarkedLine) → AreMarkedFirst scale lines n ls → AreMarked ls
marked_all scale lines n ls a = record { scale = scale; each = λ i l e. All-contains (IsMarkedBy scale) ls l a.each (has_at ls i l e) }
