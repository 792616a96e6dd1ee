-- A map from segments beside the same creases by their lines, as it is and after a crease is put in or taken out.
use Rattle.std.proofs.Common.{◌≡◌, ◌≢◌, List, sym, ap, subst, ◌⊎◌, inl, inr}
use Rattle.std.specs.Prelude.{◌↔◌, Some, None, cond, Contains}
use Rattle.std.specs.BTreeMap.{BTreeMap, is_at, get, IsOrdered}
use Rattle.std.proofs.lemmas.List.Elements.{All-contains}
use Rattle.exact.specs.Plane.{ExactSegment, Overlap}
use Rattle.sheet.specs.Pattern.{ExactCrease}
use Rattle.sheet.specs.declared.colour.Colour.{Colour}
use Rattle.plane.specs.Order.{segment_cmp}
use Rattle.plane.specs.Segments.{IsHeld, HasCanonicalEnds}
use Rattle.creases.specs.Creases.{Ascends}
use Rattle.creases.specs.Segments.{creases_of, AreFound}
use Rattle.creases.specs.Standing.{AreStanding}
use Rattle.creases.specs.Creases.{IsFree, coloured_as}
use Rattle.creases.proofs.callers.SegmentChanges.{entries_ascend, taken_one, put_one}
use Rattle.creases.proofs.callers.Members.{all_of, one_on_segment, same_list}
use Rattle.creases.proofs.callers.Overlaps.{overlap_itself}
use Rattle.creases.proofs.callers.Standing.{held_in, some_standing, more_standing, more_are_held, recoloured_standing, recoloured_are_held}

-- of two lists with the same creases
pub free_among : (xs ys : List ExactCrease) (s : ExactSegment) → ((f : ExactCrease) → Contains ys f → Contains xs f) → IsFree xs s → IsFree ys s
free_among xs ys s m h = all_of (λ (f : ExactCrease). ¬ Overlap f.seg s) ys (λ f c. All-contains (λ (f : ExactCrease). ¬ Overlap f.seg s) xs f h (m f c))

-- the creases of a map ascend, where they are held
found_ascend : (m : BTreeMap ExactSegment Colour) → IsOrdered segment_cmp m → ((f : ExactCrease) → Contains (creases_of m.entries) f → IsHeld f.seg) → Ascends (creases_of m.entries)
found_ascend m s h = entries_ascend m.entries s (all_of (λ (f : ExactCrease). HasCanonicalEnds f.seg) (creases_of m.entries) (λ f c. ((h f c).from, (h f c).to)))

module _ (m n : BTreeMap ExactSegment Colour) (x : ExactCrease) (xs : List ExactCrease) (t : AreFound m.entries xs) (on : IsOrdered segment_cmp n) where
  -- after a crease is put in that overlaps none
  module _ (h : IsHeld x.seg) (free : IsFree (creases_of m.entries) x.seg) (u : (q : ExactSegment) → get segment_cmp n q ≡ cond (is_at (segment_cmp x.seg) q) (Some x.colour) (get segment_cmp m q)) where
    pub other_segment : (f : ExactCrease) → Contains (creases_of m.entries) f → x.seg ≢ f.seg
    other_segment f c e = All-contains (λ (f : ExactCrease). ¬ Overlap f.seg x.seg) (creases_of m.entries) f free c (subst (λ (s : ExactSegment). Overlap s x.seg) e (overlap_itself x.seg h.segment))

    pub put_found_members : (f : ExactCrease) → Contains (creases_of n.entries) f ↔ ((f ≡ x) ⊎ Contains (creases_of m.entries) f)
    put_found_members f = (
      λ c. elim ((put_one m n x t.ordered on u f).0 c) [ inl e ↦ inl (sym e) | inr d ↦ inr d.0 ],
      λ c. (put_one m n x t.ordered on u f).1 (elim c [ inl e ↦ inl (sym e) | inr d ↦ inr (d, other_segment f d) ]),
    )

    pub put_standing : AreStanding (creases_of n.entries)
    put_standing = more_standing x (creases_of m.entries) (creases_of n.entries) t.standing h free
        (found_ascend n on (more_are_held x (creases_of m.entries) (creases_of n.entries) (held_in (creases_of m.entries) t.standing) h (λ f. (put_found_members f).0))) (λ f. (put_found_members f).0)

    pub put_found : (ys : List ExactCrease) → ((f : ExactCrease) → Contains ys f ↔ ((f ≡ x) ⊎ Contains xs f)) → AreFound n.entries ys
    put_found ys w = record {
      ordered = on;
      standing = put_standing;
      same = λ f. (
        λ c. (put_found_members f).1 (elim ((w f).0 c) [ inl e ↦ inl e | inr d ↦ inr ((t.same f).0 d) ]),
        λ c. (w f).1 (elim ((put_found_members f).0 c) [ inl e ↦ inl e | inr d ↦ inr ((t.same f).1 d) ]),
      );
    }

    -- and taken out again
    module _ (r : BTreeMap ExactSegment Colour) (or : IsOrdered segment_cmp r) (v : (q : ExactSegment) → get segment_cmp r q ≡ cond (is_at (segment_cmp x.seg) q) None (get segment_cmp n q)) where
      back : (f : ExactCrease) → Contains (creases_of r.entries) f ↔ Contains (creases_of m.entries) f
      back f = (
        λ c. (let d = (taken_one n r x.seg on or v f).0 c in elim ((put_found_members f).0 d.0) [ inl e ↦ absurd (d.1 (ap (λ (g : ExactCrease). g.seg) (sym e))) | inr k ↦ k ]),
        λ c. (taken_one n r x.seg on or v f).1 ((put_found_members f).1 (inr c), other_segment f c),
      )

      pub taken_back : creases_of r.entries ≡ creases_of m.entries
      taken_back = same_list (creases_of r.entries) (creases_of m.entries) (found_ascend r or (λ f c. held_in (creases_of m.entries) t.standing f ((back f).0 c))) t.standing.ordered (λ f. (back f).0) (λ f. (back f).1)

      pub back_found : (ys : List ExactCrease) → ys ≡ xs → AreFound r.entries ys
      back_found ys e = record {
        ordered = or;
        standing = subst AreStanding (sym taken_back) t.standing;
        same = subst (λ (zs : List ExactCrease). (f : ExactCrease) → Contains zs f ↔ Contains (creases_of r.entries) f) (sym e)
            (subst (λ (zs : List ExactCrease). (f : ExactCrease) → Contains xs f ↔ Contains zs f) (sym taken_back) t.same);
      }

  -- after one is taken out
  module _ (h : Contains (creases_of m.entries) x) (u : (q : ExactSegment) → get segment_cmp n q ≡ cond (is_at (segment_cmp x.seg) q) None (get segment_cmp m q)) where
    pub taken_found_members : (f : ExactCrease) → Contains (creases_of n.entries) f ↔ (Contains (creases_of m.entries) f × (f ≢ x))
    taken_found_members f = (
      λ c. (let d = (taken_one m n x.seg t.ordered on u f).0 c in (d.0, λ e. d.1 (ap (λ (g : ExactCrease). g.seg) (sym e)))),
      λ c. (taken_one m n x.seg t.ordered on u f).1 (c.0, λ e. c.1 (one_on_segment (creases_of m.entries) f x t.standing.ordered c.0 h (sym e))),
    )

    pub taken_standing : AreStanding (creases_of n.entries)
    taken_standing = some_standing (creases_of m.entries) (creases_of n.entries) t.standing (found_ascend n on (λ f c. held_in (creases_of m.entries) t.standing f ((taken_found_members f).0 c).0)) (λ f c. ((taken_found_members f).0 c).0)

    pub taken_found : (ys : List ExactCrease) → ((f : ExactCrease) → Contains ys f ↔ (Contains xs f × (f ≢ x))) → AreFound n.entries ys
    taken_found ys w = record {
      ordered = on;
      standing = taken_standing;
      same = λ f. (
        λ c. (let d = (w f).0 c in (taken_found_members f).1 ((t.same f).0 d.0, d.1)),
        λ c. (let d = (taken_found_members f).0 c in (w f).1 ((t.same f).1 d.0, d.1)),
      );
    }

  -- after one took a colour
  module _ (c : Colour) (h : Contains (creases_of m.entries) x) (u : (q : ExactSegment) → get segment_cmp n q ≡ cond (is_at (segment_cmp x.seg) q) (Some c) (get segment_cmp m q)) where
    pub recoloured_found_members : (f : ExactCrease) → Contains (creases_of n.entries) f ↔ ((f ≡ coloured_as x c) ⊎ (Contains (creases_of m.entries) f × (f ≢ x)))
    recoloured_found_members f = (
      λ d. elim ((put_one m n (coloured_as x c) t.ordered on u f).0 d) [ inl e ↦ inl (sym e) | inr o ↦ inr (o.0, λ e. o.1 (ap (λ (g : ExactCrease). g.seg) (sym e))) ],
      λ d. (put_one m n (coloured_as x c) t.ordered on u f).1 (elim d [ inl e ↦ inl (sym e) | inr o ↦ inr (o.0, λ e. o.1 (one_on_segment (creases_of m.entries) f x t.standing.ordered o.0 h (sym e))) ]),
    )

    pub recoloured_are_standing : AreStanding (creases_of n.entries)
    recoloured_are_standing = recoloured_standing x c (creases_of m.entries) (creases_of n.entries) t.standing h
        (found_ascend n on (recoloured_are_held x c (creases_of m.entries) (creases_of n.entries) (held_in (creases_of m.entries) t.standing) h (λ f. (recoloured_found_members f).0))) (λ f. (recoloured_found_members f).0)

    pub recoloured_found : (ys : List ExactCrease) → ((f : ExactCrease) → Contains ys f ↔ ((f ≡ coloured_as x c) ⊎ (Contains xs f × (f ≢ x)))) → AreFound n.entries ys
    recoloured_found ys w = record {
      ordered = on;
      standing = recoloured_are_standing;
      same = λ f. (
        λ d. (recoloured_found_members f).1 (elim ((w f).0 d) [ inl e ↦ inl e | inr o ↦ inr ((t.same f).0 o.0, o.1) ]),
        λ d. (w f).1 (elim ((recoloured_found_members f).0 d) [ inl e ↦ inl e | inr o ↦ inr ((t.same f).1 o.0, o.1) ]),
      );
    }
