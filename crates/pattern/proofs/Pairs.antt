-- What a loop of tests tells of the pairs of a list.
use Rattle.std.proofs.Common.{◌≡◌, ℕ, ◌+◌, ◌-◌, ◌<◌, ◌≤◌, List, [], ◌∷◌, ◌++◌, length, get_or, take, sym, ap, subst, ◌∙◌, inl, inr, arith}
use Rattle.std.specs.Prelude.{All, AllPairs}
use Rattle.std.proofs.lemmas.Bool.{cases_order}
use Rattle.std.proofs.lemmas.List.{take_more, take_all, get_or-take, length-take, get_or_default}
use Rattle.std.proofs.lemmas.List.Quantifiers.{all_pairs_push}
use Rattle.exact.specs.Plane.{SegmentBefore}
use Rattle.sheet.specs.Pattern.{ExactCrease}
use Rattle.creases.specs.Creases.{Ascends}
use Rattle.creases.proofs.callers.Members.{segment_before_trans}

pub pairs_next : {X : Type 0} (R : X → X → Type 0) (xs : List X) (i : ℕ) (x : X) → i < length xs → x ≡ get_or xs i x → AllPairs R (take i xs) → All (λ y. R y x) (take i xs) → AllPairs R (take (i + 1) xs)
pairs_next R xs i x l e h a = subst (AllPairs R) (ap (λ y. take i xs ++ y ∷ []) e ∙ sym (take_more xs i x l)) (all_pairs_push R (take i xs) x h (λ k d m. a k d m))

pub pairs_tested : {X : Type 0} (R : X → X → Type 0) (xs : List X) (i : ℕ) → length xs ≤ i → AllPairs R (take i xs) → AllPairs R xs
pairs_tested R xs i l h = subst (AllPairs R) (take_all i xs l) h

at_last : (xs : List ExactCrease) (i k : ℕ) (last d : ExactCrease) → i < length xs → 1 ≤ i → k ≡ i - 1 → last ≡ get_or xs (i - 1) last → get_or (take i xs) k d ≡ last
at_last xs i k last d l o e p =
    get_or-take i xs k d (omega (arith, e, o)) ∙ ap (λ j. get_or xs j d) e ∙ get_or_default xs (i - 1) d last (omega (arith, l)) ∙ sym p

-- one crease more, which is after the last
pub ascend_next : (xs : List ExactCrease) (i : ℕ) (last next : ExactCrease) → 1 ≤ i → i < length xs → last ≡ get_or xs (i - 1) last → next ≡ get_or xs i next → Ascends (take i xs) → SegmentBefore last.seg next.seg → Ascends (take (i + 1) xs)
ascend_next xs i last next o l p q h b = pairs_next (λ (f g : ExactCrease). SegmentBefore f.seg g.seg) xs i next l q h (λ k d m.
    let below : k < i = omega (arith, m, length-take i xs) in
    elim (cases_order k (i - 1)) [
      | inl e ↦ subst (λ (x : ExactCrease). SegmentBefore x.seg next.seg) (sym (at_last xs i k last d l o e p)) b
      | inr r ↦ elim r [
        | inl s ↦ segment_before_trans (get_or (take i xs) k d).seg last.seg next.seg
            (subst (λ (x : ExactCrease). SegmentBefore (get_or (take i xs) k d).seg x.seg) (at_last xs i (i - 1) last d l o (λ _. i - 1) p) (h k (i - 1) d s (omega (arith, l, o, length-take i xs)))) b
        | inr s ↦ absurd (omega (arith, s, below, o))
      ]
    ])

pub ascend_fails : (xs : List ExactCrease) (i : ℕ) (last next : ExactCrease) → 1 ≤ i → i < length xs → last ≡ get_or xs (i - 1) last → next ≡ get_or xs i next → (¬ SegmentBefore last.seg next.seg) → ¬ Ascends xs
ascend_fails xs i last next o l p q n h = n (subst (λ (x : ExactCrease). SegmentBefore x.seg next.seg) (sym p) (subst (λ (y : ExactCrease). SegmentBefore (get_or xs (i - 1) last).seg y.seg) (get_or_default xs i last next l ∙ sym q) (h (i - 1) i last (omega (arith, o)) l)))

pub ascends_short : (xs : List ExactCrease) → Ascends (take 1 xs)
ascends_short xs = λ i j d l m. absurd (omega (arith, l, m, length-take 1 xs))
