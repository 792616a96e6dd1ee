-- What stands after a crease was taken out or put in beside a pattern.
use Rattle.std.proofs.Common.{◌≡◌, ◌≢◌, List, refl, sym, subst, inl, inr}
use Rattle.std.specs.Prelude.{◌↔◌, AllPairs, Contains}
use Rattle.std.proofs.lemmas.List.Elements.{All-contains}
use Rattle.exact.specs.Plane.{ExactSegment, Overlap}
use Rattle.sheet.specs.Pattern.{ExactCrease, ExactPattern}
use Rattle.plane.specs.Segments.{IsHeld}
use Rattle.creases.specs.Creases.{AreBut, AreOverlapping, AreWith, FollowOneAnother, IsFree}
use Rattle.creases.specs.Standing.{AreStanding}
use Rattle.creases.proofs.callers.Members.{all_of, crease_or_not, has_or_not}
use Rattle.creases.proofs.callers.Overlaps.{overlap_back}
use Rattle.creases.proofs.callers.Standing.{along_once, apart_in, free_not_in}
use Rattle.pattern.specs.Deltas.{IsBetween, IsWithout}
use Rattle.edits.specs.Beside.{standing, AreBeside}
use Rattle.edits.proofs.drafts.Beside.{stand_members, old_standing}
use Rattle.edits.proofs.drafts.Gathered.{AreGathered}

module _ (old : ExactPattern) (gone come : List ExactCrease) (h : AreBeside old gone come) (x : ExactCrease) where
  -- a crease that came leaves again
  module _ (rest : List ExactCrease) (s : AreStanding rest) (there : Contains come x) (m : AreBut come x rest) where
    pub left_beside : AreBeside old gone rest
    left_beside = record {
      pattern = h.pattern;
      gone_apart = h.gone_apart;
      come_apart = s;
      there = h.there;
      fresh = λ f c. h.fresh f ((m f).0 c).0;
      free = λ f g c. h.free f g ((m f).0 c).0;
    }

    pub left_members : AreBut (standing old gone come) x (standing old gone rest)
    left_members f = (
      λ c. elim ((stand_members old gone rest left_beside f).0 c) [
        | inl d ↦ ((stand_members old gone come h f).1 (inl d), λ e. h.fresh x there (subst (Contains old.creases) e d.0))
        | inr d ↦ (let k = (m f).0 d in ((stand_members old gone come h f).1 (inr k.0), k.1))
      ],
      λ c. (stand_members old gone rest left_beside f).1 (elim ((stand_members old gone come h f).0 c.0) [ inl d ↦ inl d | inr d ↦ inr ((m f).1 (d, c.1)) ]),
    )

  -- a crease of the pattern leaves
  module _ (there : Contains (standing old gone come) x) (not_come : ¬ Contains come x) where
    was_there : Contains old.creases x × (¬ Contains gone x)
    was_there = elim ((stand_members old gone come h x).0 there) [ inl d ↦ d | inr d ↦ absurd (not_come d) ]

    pub gone_free : IsFree gone x.seg
    gone_free = all_of (λ (g : ExactCrease). ¬ Overlap g.seg x.seg) gone (λ g c. apart_in old.creases (old_standing old gone come h) g x (h.there g c) was_there.0 (λ e. was_there.1 (subst (Contains gone) e c)))

    module _ (more : List ExactCrease) (s : AreStanding more) (m : AreWith gone x more) where
      pub gone_beside : AreBeside old more come
      gone_beside = record {
        pattern = h.pattern;
        gone_apart = s;
        come_apart = h.come_apart;
        there = λ f c. elim ((m f).0 c) [ inl e ↦ subst (Contains old.creases) (sym e) was_there.0 | inr d ↦ h.there f d ];
        fresh = h.fresh;
        free = λ f g c o n. h.free f g c o (λ k. n ((m g).1 (inr k)));
      }

      pub gone_members : AreBut (standing old gone come) x (standing old more come)
      gone_members f = (
        λ c. elim ((stand_members old more come gone_beside f).0 c) [
          | inl d ↦ ((stand_members old gone come h f).1 (inl (d.0, λ k. d.1 ((m f).1 (inr k)))), λ e. d.1 ((m f).1 (inl e)))
          | inr d ↦ ((stand_members old gone come h f).1 (inr d), λ e. not_come (subst (Contains come) e d))
        ],
        λ c. (stand_members old more come gone_beside f).1 (elim ((stand_members old gone come h f).0 c.0) [
          | inl d ↦ inl (d.0, λ k. elim ((m f).0 k) [ inl e ↦ c.1 e | inr g ↦ d.1 g ])
          | inr d ↦ inr d
        ]),
      )

  -- what stands is clear of the new crease
  module _ (held : IsHeld x.seg) (clear : IsFree (standing old gone come) x.seg) where
    off : (f : ExactCrease) → Contains (standing old gone come) f → ¬ Overlap f.seg x.seg
    off f c = All-contains (λ (g : ExactCrease). ¬ Overlap g.seg x.seg) (standing old gone come) f clear c

    -- a crease that is gone comes back
    module _ (rest : List ExactCrease) (s : AreStanding rest) (there : Contains gone x) (m : AreBut gone x rest) where
      pub back_beside : AreBeside old rest come
      back_beside = record {
        pattern = h.pattern;
        gone_apart = s;
        come_apart = h.come_apart;
        there = λ f c. h.there f ((m f).0 c).0;
        fresh = h.fresh;
        free = λ f g c o n. elim (crease_or_not g x) [
          | inl e ↦ (λ v. off f ((stand_members old gone come h f).1 (inr c)) (overlap_back x.seg f.seg (subst (λ (z : ExactCrease). Overlap z.seg f.seg) e v)))
          | inr d ↦ h.free f g c o (λ k. n ((m g).1 (k, d)))
        ];
      }

      pub back_members : AreWith (standing old gone come) x (standing old rest come)
      back_members f = (
        λ c. elim ((stand_members old rest come back_beside f).0 c) [
          | inl d ↦ elim (crease_or_not f x) [ inl e ↦ inl e | inr n ↦ inr ((stand_members old gone come h f).1 (inl (d.0, λ k. d.1 ((m f).1 (k, n))))) ]
          | inr d ↦ inr ((stand_members old gone come h f).1 (inr d))
        ],
        λ c. elim c [
          | inl e ↦ subst (Contains (standing old rest come)) (sym e) ((stand_members old rest come back_beside x).1 (inl (h.there x there, λ k. ((m x).0 k).1 refl)))
          | inr d ↦ (stand_members old rest come back_beside f).1 (elim ((stand_members old gone come h f).0 d) [ inl k ↦ inl (k.0, λ g. k.1 ((m f).0 g).0) | inr k ↦ inr k ])
        ],
      )

    -- a new crease comes
    pub come_free : IsFree come x.seg
    come_free = all_of (λ (f : ExactCrease). ¬ Overlap f.seg x.seg) come (λ f c. off f ((stand_members old gone come h f).1 (inr c)))

    module _ (not_gone : ¬ Contains gone x) (more : List ExactCrease) (s : AreStanding more) (m : AreWith come x more) where
      is_new : ¬ Contains old.creases x
      is_new c = free_not_in (standing old gone come) x held clear ((stand_members old gone come h x).1 (inl (c, not_gone)))

      pub come_beside : AreBeside old gone more
      come_beside = record {
        pattern = h.pattern;
        gone_apart = h.gone_apart;
        come_apart = s;
        there = h.there;
        fresh = λ f c. elim ((m f).0 c) [ inl e ↦ (λ o. is_new (subst (Contains old.creases) e o)) | inr d ↦ h.fresh f d ];
        free = λ f g c o n. elim ((m f).0 c) [
          | inl e ↦ subst (λ (z : ExactCrease). ¬ Overlap g.seg z.seg) (sym e) (off g ((stand_members old gone come h g).1 (inl (o, n))))
          | inr d ↦ h.free f g d o n
        ];
      }

      pub come_members : AreWith (standing old gone come) x (standing old gone more)
      come_members f = (
        λ c. elim ((stand_members old gone more come_beside f).0 c) [
          | inl d ↦ inr ((stand_members old gone come h f).1 (inl d))
          | inr d ↦ elim ((m f).0 d) [ inl e ↦ inl e | inr k ↦ inr ((stand_members old gone come h f).1 (inr k)) ]
        ],
        λ c. (stand_members old gone more come_beside f).1 (elim c [
          | inl e ↦ inr ((m f).1 (inl e))
          | inr d ↦ elim ((stand_members old gone come h f).0 d) [ inl k ↦ inl k | inr k ↦ inr ((m f).1 (inr k)) ]
        ]),
      )

-- What is gone are the creases that only the pattern has, and what came are those that it has not.
pub is_between : (old : ExactPattern) (gone come removed added : List ExactCrease) → AreBeside old gone come → removed ≡ gone → added ≡ come → IsBetween old.creases (standing old gone come) (record { removed = removed; added = added })
is_between old gone come removed added h e d = record {
  removed = subst (IsWithout old.creases (standing old gone come)) (sym e) (record {
    ascends = h.gone_apart.ordered;
    members = λ f. (
      λ c. (h.there f c, λ s. elim ((stand_members old gone come h f).0 s) [ inl k ↦ k.1 c | inr k ↦ h.fresh f k (h.there f c) ]),
      λ c. elim (has_or_not gone f) [ inl k ↦ k | inr n ↦ absurd (c.1 ((stand_members old gone come h f).1 (inl (c.0, n)))) ],
    );
  });
  added = subst (IsWithout (standing old gone come) old.creases) (sym d) (record {
    ascends = h.come_apart.ordered;
    members = λ f. (
      λ c. ((stand_members old gone come h f).1 (inr c), h.fresh f c),
      λ c. elim ((stand_members old gone come h f).0 c.0) [ inl k ↦ absurd (c.1 k.0) | inr k ↦ k ],
    );
  });
}

-- What overlaps a segment of those that stand: what is left of those of the pattern that do, and of what came those that do.
pub come_gathered : (old : ExactPattern) (gone come : List ExactCrease) (s : ExactSegment) (xs list ys : List ExactCrease) → AreBeside old gone come → AreOverlapping old.creases s xs
    → ((f : ExactCrease) → Contains list f ↔ (Contains xs f × (¬ Contains gone f))) → AllPairs (λ f g. f ≢ g) list → AreOverlapping come s ys → FollowOneAnother ys
    → AreGathered (λ f. Contains (standing old gone come) f × Overlap f.seg s) (λ f. Unit {0}) list ys
come_gathered old gone come s xs list ys h m left once n along = record {
  members = λ f. (
    λ c. elim ((stand_members old gone come h f).0 c.0) [
      | inl d ↦ inl ((left f).1 ((m f).1 (d.0, c.1), d.1))
      | inr d ↦ inr ((n f).1 (d, c.1), tt)
    ],
    λ e. elim e [
      | inl c ↦ (let k = (left f).0 c in let o = (m f).0 k.0 in ((stand_members old gone come h f).1 (inl (o.0, k.1)), o.1))
      | inr c ↦ (let o = (n f).0 c.0 in ((stand_members old gone come h f).1 (inr o.0), o.1))
    ],
  );
  once = once;
  later = along_once ys along;
  apart = λ f c d. h.fresh f ((n f).0 d).0 ((m f).0 ((left f).0 c).0).0;
}
