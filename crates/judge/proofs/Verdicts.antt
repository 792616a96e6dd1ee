-- Which verdict a star has, and that it has one.
use Rattle.std.proofs.Common.{◌≡◌, ◌≤◌, ◌%◌, ℕ, arith, ap, sym, subst, ◌∙◌, ◌↔◌, inl, inr, false, eqb, eq-eqb, List, length}
use Rattle.std.proofs.lemmas.Bool.{cases_eq, false≢true}
use Rattle.layers.specs.declared.star.Ray.{Ray}
use Rattle.layers.specs.declared.sector_list.Sector.{Sector}
use Rattle.layers.specs.Star.{IsStar}
use Rattle.layers.specs.Sectors.{AreSectorsOf, AreSectors}
use Rattle.layers.specs.LayerOrder.{IsLayerOrder}
use Rattle.crimp.specs.declared.outcome.Run.{Run}
use Rattle.crimp.specs.Foldable.{Foldable}
use Rattle.crimp.specs.BlockedRun.{IsBlockedRun}
use Rattle.judge.specs.Conditions.{angle_sum, MeetsKawasaki}
use Rattle.judge.specs.declared.verdict.Why.{Why}
use Rattle.judge.specs.declared.verdict.Why.TheVariants as why
use Rattle.judge.specs.declared.verdict.Verdict.{Verdict}
use Rattle.judge.specs.declared.verdict.Verdict.TheVariants as verdict
use Rattle.judge.specs.Verdict.{IsKawasaki, HasEqualSums, IsPassedWith, IsWhyOf, IsVerdictOf, VerdictOf, IsPassed, FoldsFlat, AreOne}
use Rattle.judge.specs.Cause.{IsCauseOf}
use Rattle.judge.proofs.Sums.{sums_agree}
use Rattle.judge.proofs.Sectors.{one_list}

pub some_rays : (rays : List Ray) → false ≡ eqb (length rays) 0 → 1 ≤ length rays
some_rays rays f = elim (cases_eq (length rays) 0) [ inl e ↦ absurd (false≢true (f ∙ eq-eqb (length rays) 0 e)) | inr n ↦ omega arith ]

-- what the code knows once Kawasaki's condition was tested, on the rays and the sectors that it read
module _ (rays seen : List Ray) (ss list : List Sector) (O : AreSectorsOf rays ss) (r : seen ≡ rays) (e : list ≡ ss) (some : 1 ≤ length seen) (even_count : length seen % 2 ≡ 1 → ⊥) where
  pub equal_sums : (even odd : ℕ) → even ≡ angle_sum 0 list → odd ≡ angle_sum 1 list → even ≡ odd → HasEqualSums ss
  equal_sums even odd evens odds same = let n = O.long in let m = ap length r in
      record { some = omega arith; kawasaki = record { even = omega arith; sums = ap (angle_sum 0) (sym e) ∙ sym evens ∙ same ∙ odds ∙ ap (angle_sum 1) e } }

why_is : (rays : List Ray) (ss : List Sector) (run : Run) (w : Why) → HasEqualSums ss → (Foldable ss → ⊥) → IsBlockedRun ss run → IsCauseOf rays run w → IsWhyOf rays ss w
why_is rays ss run (why.Kawasaki even odd count) t n b c = absurd c
why_is rays ss run (why.Maekawa m v) t n b c = record { angles = t; never = n; fails = c.0; mountains_are = c.1; valleys_are = c.2 }
why_is rays ss run (why.Blocked r) t n b c = record { angles = t; never = n; marks = c.0; run_is = subst (IsBlockedRun ss) (sym c.1) b }

pub stuck_is : (rays seen : List Ray) (ss : List Sector) (run : Run) (w : Why) → AreSectorsOf rays ss → seen ≡ rays → HasEqualSums ss → (Foldable ss → ⊥) → IsBlockedRun ss run → IsCauseOf seen run w → VerdictOf rays (verdict.Fails w)
stuck_is rays seen ss run w O r t n b c = record { sectors = ss; of = O; is = why_is rays ss run w t n b (subst (λ rs. IsCauseOf rs run w) r c) }

-- Kawasaki's case and the later ones exclude each other
clash : (ss : List Sector) (even odd count : ℕ) → IsKawasaki ss even odd count → MeetsKawasaki ss → ⊥
clash ss even odd count K M = let e = M.even in elim K.fails [ inl o ↦ omega arith | inr n ↦ n M.sums ]

-- as are the sectors, so is the case
module _ (rays : List Ray) (ss : List Sector) (O : AreSectorsOf rays ss) where
  no_fold : Foldable ss → 1 ≤ length rays
  no_fold f = let n = O.long in let s = f.1.closes.some in omega arith

  passes : (v : Verdict) → IsVerdictOf rays ss v → Foldable ss → IsPassed v
  passes verdict.Plain V f = let s = no_fold f in absurd (omega arith)
  passes (verdict.Passed order) V f = tt
  passes (verdict.Fails (why.Kawasaki even odd count)) V f = absurd (clash ss even odd count V (sums_agree ss f.1.closes))
  passes (verdict.Fails (why.Maekawa m v)) V f = absurd (V.never f)
  passes (verdict.Fails (why.Blocked run)) V f = absurd (V.never f)

  folds : (v : Verdict) → IsVerdictOf rays ss v → IsPassed v → Foldable ss
  folds verdict.Plain V p = absurd p
  folds (verdict.Passed order) V p = (order, V.order_is)
  folds (verdict.Fails w) V p = absurd p

  plain_apart : (w : Why) → length rays ≡ 0 → IsWhyOf rays ss w → ⊥
  plain_apart (why.Kawasaki even odd count) e W = let n = O.long in let s = W.some in omega arith
  plain_apart (why.Maekawa m v) e W = let n = O.long in let s = W.angles.some in omega arith
  plain_apart (why.Blocked run) e W = let n = O.long in let s = W.angles.some in omega arith

  pass_apart : (order : List ℕ) (w : Why) → IsPassedWith ss order → IsWhyOf rays ss w → ⊥
  pass_apart order (why.Kawasaki even odd count) P W = clash ss even odd count W P.angles.kawasaki
  pass_apart order (why.Maekawa m v) P W = W.never (order, P.order_is)
  pass_apart order (why.Blocked run) P W = W.never (order, P.order_is)

  module _ (one_run : (run other : Run) → IsBlockedRun ss run → IsBlockedRun ss other → run ≡ other) where
    one_why : (w z : Why) → IsWhyOf rays ss w → IsWhyOf rays ss z → w ≡ z
    one_why (why.Kawasaki e o c) (why.Kawasaki f p d) W Z = let a : e ≡ f = W.even_is ∙ sym Z.even_is in let b : o ≡ p = W.odd_is ∙ sym Z.odd_is in let k : c ≡ d = W.count_is ∙ sym Z.count_is in cc
    one_why (why.Kawasaki e o c) (why.Maekawa m v) W Z = absurd (clash ss e o c W Z.angles.kawasaki)
    one_why (why.Kawasaki e o c) (why.Blocked run) W Z = absurd (clash ss e o c W Z.angles.kawasaki)
    one_why (why.Maekawa m v) (why.Kawasaki e o c) W Z = absurd (clash ss e o c Z W.angles.kawasaki)
    one_why (why.Maekawa m v) (why.Maekawa n u) W Z = let a : m ≡ n = W.mountains_are ∙ sym Z.mountains_are in let b : v ≡ u = W.valleys_are ∙ sym Z.valleys_are in cc
    one_why (why.Maekawa m v) (why.Blocked run) W Z = absurd (W.fails Z.marks)
    one_why (why.Blocked run) (why.Kawasaki e o c) W Z = absurd (clash ss e o c Z W.angles.kawasaki)
    one_why (why.Blocked run) (why.Maekawa m v) W Z = absurd (Z.fails W.marks)
    one_why (why.Blocked run) (why.Blocked other) W Z = ap why.Blocked (one_run run other W.run_is Z.run_is)

    one_case : (v w : Verdict) → IsVerdictOf rays ss v → IsVerdictOf rays ss w → AreOne v w
    one_case verdict.Plain verdict.Plain V W = tt
    one_case verdict.Plain (verdict.Passed order) V W = let n = O.long in let s = W.angles.some in absurd (omega arith)
    one_case verdict.Plain (verdict.Fails w) V W = plain_apart w V W
    one_case (verdict.Passed order) verdict.Plain V W = let n = O.long in let s = V.angles.some in absurd (omega arith)
    one_case (verdict.Passed order) (verdict.Passed other) V W = tt
    one_case (verdict.Passed order) (verdict.Fails w) V W = pass_apart order w V W
    one_case (verdict.Fails w) verdict.Plain V W = plain_apart w W V
    one_case (verdict.Fails w) (verdict.Passed order) V W = pass_apart order w W V
    one_case (verdict.Fails w) (verdict.Fails z) V W = one_why w z V W

pub passed_exactly : (rays : List Ray) (v : Verdict) → VerdictOf rays v → (IsPassed v ↔ FoldsFlat rays)
passed_exactly rays v V = (
  λ p. let f = folds rays V.sectors V.of v V.is p in (f.0, record { sectors = V.sectors; of = V.of; is = f.1 }),
  λ f. let e = one_list rays f.1.sectors V.sectors f.1.of V.of in passes rays V.sectors V.of v V.is (f.0, subst (λ ss. IsLayerOrder ss f.0) e f.1.is),
)

pub one : (rays : List Ray) (v w : Verdict) → IsStar rays → ((ss : List Sector) (run other : Run) → AreSectors ss → IsBlockedRun ss run → IsBlockedRun ss other → run ≡ other) → VerdictOf rays v → VerdictOf rays w → AreOne v w
one rays v w S runs V W =
    let e = one_list rays W.sectors V.sectors W.of V.of in
    one_case rays V.sectors V.of (λ run other. runs V.sectors run other (record { rays = rays; star = S; of = V.of })) v w V.is (subst (λ ss. IsVerdictOf rays ss w) e W.is)
