-- Why the tests decide whether a delta fits.
use Rattle.std.proofs.Common.{◌≡◌, ◌≢◌, List, length, get_or, refl, sym, subst, ap, ◌∙◌, ◌⊎◌, inl, inr, arith}
use Rattle.std.specs.Prelude.{All, Contains}
use Rattle.std.proofs.lemmas.Bool.{cases_order}
use Rattle.std.proofs.lemmas.List.{get_or_default}
use Rattle.std.proofs.lemmas.List.Elements.{All-contains, Contains-get_or}
use Rattle.exact.specs.Plane.{SegmentBefore, Overlap}
use Rattle.plane.specs.Segments.{HasCanonicalEnds}
use Rattle.sheet.specs.Pattern.{ExactCrease, ExactPattern, IsPattern, IsKey}
use Rattle.sheet.specs.Sheet.{ExactSheet}
use Rattle.creases.specs.Creases.{Ascends}
use Rattle.pattern.specs.Deltas.{Stays, Leads, Fits}
use Rattle.pattern.specs.declared.delta.Delta.{Delta}
use Rattle.pattern.specs.Fitting.{AreApart, IsFreeBut, PassesTests}
use Rattle.creases.proofs.callers.Members.{all_of, segments_ordered, has_or_not, same_list, segment_not_itself, segment_not_back, before_at}
use Rattle.pattern.proofs.Merged.{put_all, take_all_out, IsPutAll, IsLeft}
use Rattle.creases.proofs.callers.Overlaps.{overlap_back, overlap_itself}

abbrev HasKey : ExactSheet → ExactCrease → Type 0
HasKey sheet f = IsKey sheet f.seg

pub key_of : (pattern : ExactPattern) (f : ExactCrease) → IsPattern pattern → Contains pattern.creases f → IsKey pattern.sheet f.seg
key_of pattern f p c = All-contains (HasKey pattern.sheet) pattern.creases f p.keys c

pub ends_of : (sheet : ExactSheet) (f : ExactCrease) → IsKey sheet f.seg → HasCanonicalEnds f.seg
ends_of sheet f k = (k.from, k.to)

-- of creases that stand apart, one and a later one do not overlap
pub apart_of : (xs : List ExactCrease) (f g : ExactCrease) → Ascends xs → AreApart xs → Contains xs f → Contains xs g → SegmentBefore f.seg g.seg → ¬ Overlap f.seg g.seg
apart_of xs f g h a c d b = elim (cases_order c.0 d.0) [
  | inl k ↦ absurd (segment_not_itself f.seg g.seg (ap (λ (x : ExactCrease). x.seg) (sym c.2 ∙ get_or_default xs c.0 f g c.1 ∙ (λ i. get_or xs (k i) g) ∙ d.2)) b)
  | inr k ↦ elim k [
    | inl l ↦ subst (λ (x : ExactCrease). ¬ Overlap x.seg g.seg) c.2 (subst (λ (y : ExactCrease). ¬ Overlap (get_or xs c.0 f).seg y.seg) (get_or_default xs d.0 f g d.1 ∙ d.2) (a c.0 d.0 f l d.1))
    | inr l ↦ absurd (segment_not_back f.seg g.seg b (before_at xs g f h d c l))
  ]
]

abbrev Left : List ExactCrease → Delta → Type 0
Left old delta = (ys : List ExactCrease) × IsLeft old delta.removed ys

left_list : (old : ExactPattern) (delta : Delta) → IsPattern old → Ascends delta.removed → All (λ f. Contains old.creases f) delta.removed → Left old.creases delta
left_list old delta p a t = take_all_out old.creases delta.removed p.ordered a (λ f c. All-contains (λ (g : ExactCrease). Contains old.creases g) delta.removed f t c)

merged_list : (old : ExactPattern) (delta : Delta) → IsPattern old → (r : Left old.creases delta) → Ascends delta.added → All (HasKey old.sheet) delta.added → ((f g : ExactCrease) → Contains delta.added f → Stays old.creases delta g → g.seg ≢ f.seg) → (new : List ExactCrease) × IsPutAll delta.added r.0 new
merged_list old delta p r a k n = put_all delta.added r.0 a r.1.ascends (λ f c. ends_of old.sheet f (All-contains (HasKey old.sheet) delta.added f k c)) (λ f c. ends_of old.sheet f (key_of old f p ((r.1.members f).0 c).0)) (λ f g c d. n f g c ((r.1.members g).0 d))

-- a crease that comes does not overlap one that stays
free_of : (old : List ExactCrease) (delta : Delta) (f g : ExactCrease) → All (IsFreeBut old delta.removed) delta.added → Contains delta.added f → Stays old delta g → ¬ Overlap g.seg f.seg
free_of old delta f g t c s = elim (All-contains (λ (x : ExactCrease). (¬ Overlap x.seg f.seg) ⊎ Contains delta.removed x) old g (All-contains (IsFreeBut old delta.removed) delta.added f t c) s.0) [ inl n ↦ n | inr r ↦ absurd (s.1 r) ]

from_new : (old new : List ExactCrease) (delta : Delta) (r : Left old delta) (f : ExactCrease) → IsPutAll delta.added r.0 new → Contains new f → Stays old delta f ⊎ Contains delta.added f
from_new old new delta r f m c = elim ((m.members f).0 c) [ inl a ↦ inr a | inr d ↦ inl ((r.1.members f).0 d) ]

to_new : (old new : List ExactCrease) (delta : Delta) (r : Left old delta) (f : ExactCrease) → IsPutAll delta.added r.0 new → Stays old delta f ⊎ Contains delta.added f → Contains new f
to_new old new delta r f m k = elim k [ inl s ↦ (m.members f).1 (inr ((r.1.members f).1 s)) | inr a ↦ (m.members f).1 (inl a) ]

pub from_tests : (old : ExactPattern) (delta : Delta) → IsPattern old → PassesTests old delta.removed delta.added → Fits old delta
from_tests old delta p t = record {
  removed_ascend = t.removed_ascend;
  added_ascend = t.added_ascend;
  there = t.there;
  fresh = all_of (λ (f : ExactCrease). (g : ExactCrease) → Stays old.creases delta g → g.seg ≢ f.seg) delta.added (λ f c g s. clash f g c s);
  leads = (whole, record { pattern = pattern; sheet = refl; creases = λ f. (from_new old.creases new.0 delta left f new.1, to_new old.creases new.0 delta left f new.1) });
}
  where
    clash : (f g : ExactCrease) → Contains delta.added f → Stays old.creases delta g → g.seg ≢ f.seg
    clash f g c s e = free_of old.creases delta f g t.free c s (subst (λ x. Overlap x f.seg) (sym e) (overlap_itself f.seg (All-contains (HasKey old.sheet) delta.added f t.keys c).segment))

    left : Left old.creases delta
    left = left_list old delta p t.removed_ascend t.there

    new : (ys : List ExactCrease) × IsPutAll delta.added left.0 ys
    new = merged_list old delta p left t.added_ascend t.keys clash

    key : (f : ExactCrease) → Contains new.0 f → IsKey old.sheet f.seg
    key f c = elim (from_new old.creases new.0 delta left f new.1 c) [ inl s ↦ key_of old f p s.0 | inr a ↦ All-contains (HasKey old.sheet) delta.added f t.keys a ]

    apart : (f g : ExactCrease) → Contains new.0 f → Contains new.0 g → SegmentBefore f.seg g.seg → ¬ Overlap f.seg g.seg
    apart f g c d b = elim (from_new old.creases new.0 delta left f new.1 c) [
      | inl s ↦ elim (from_new old.creases new.0 delta left g new.1 d) [ inl u ↦ apart_of old.creases f g p.ordered p.apart s.0 u.0 b | inr a ↦ free_of old.creases delta g f t.free a s ]
      | inr a ↦ elim (from_new old.creases new.0 delta left g new.1 d) [
        | inl u ↦ (λ v. free_of old.creases delta f g t.free a u (overlap_back f.seg g.seg v))
        | inr e ↦ apart_of delta.added f g t.added_ascend t.apart a e b
      ]
    ]

    whole : ExactPattern
    whole = record { sheet = old.sheet; creases = new.0 }

    pattern : IsPattern whole
    pattern = record {
      sheet = p.sheet;
      keys = all_of (HasKey old.sheet) new.0 key;
      ordered = new.1.ascends;
      apart = λ i j d l m. apart (get_or new.0 i d) (get_or new.0 j d) (Contains-get_or new.0 i d (omega (arith, l, m))) (Contains-get_or new.0 j d m) (new.1.ascends i j d l m);
      few = omega (arith, t.few, new.1.long, left.1.long);
    }

pub to_tests : (old : ExactPattern) (delta : Delta) → IsPattern old → Fits old delta → PassesTests old delta.removed delta.added
to_tests old delta p t = record {
  removed_ascend = t.removed_ascend;
  added_ascend = t.added_ascend;
  there = t.there;
  keys = keys;
  few = omega (arith, l.pattern.few, long, merged.1.long, left.1.long);
  apart = λ i j d q m. apart_of new.creases (get_or delta.added i d) (get_or delta.added j d) l.pattern.ordered l.pattern.apart (come (get_or delta.added i d) (Contains-get_or delta.added i d (omega (arith, q, m)))) (come (get_or delta.added j d) (Contains-get_or delta.added j d m)) (t.added_ascend i j d q m);
  free = all_of (IsFreeBut old.creases delta.removed) delta.added (λ f c. all_of (λ (g : ExactCrease). (¬ Overlap g.seg f.seg) ⊎ Contains delta.removed g) old.creases (λ g d. elim (has_or_not delta.removed g) [ inl r ↦ inr r | inr n ↦ inl (free f g c (d, n)) ]));
}
  where
    new : ExactPattern
    new = t.leads.0

    l : Leads old delta new
    l = t.leads.1

    come : (f : ExactCrease) → Contains delta.added f → Contains new.creases f
    come f c = (l.creases f).1 (inr c)

    keys : All (HasKey old.sheet) delta.added
    keys = all_of (HasKey old.sheet) delta.added (λ f c. subst (λ (x : ExactSheet). IsKey x f.seg) l.sheet (key_of new f l.pattern (come f c)))

    clash : (f g : ExactCrease) → Contains delta.added f → Stays old.creases delta g → g.seg ≢ f.seg
    clash f g c s = All-contains (λ x. (h : ExactCrease) → Stays old.creases delta h → h.seg ≢ x.seg) delta.added f t.fresh c g s

    left : Left old.creases delta
    left = left_list old delta p t.removed_ascend t.there

    merged : (ys : List ExactCrease) × IsPutAll delta.added left.0 ys
    merged = merged_list old delta p left t.added_ascend keys clash

    same : merged.0 ≡ new.creases
    same = same_list merged.0 new.creases merged.1.ascends l.pattern.ordered (λ f c. (l.creases f).1 (from_new old.creases merged.0 delta left f merged.1 c)) (λ f c. to_new old.creases merged.0 delta left f merged.1 ((l.creases f).0 c))

    long : length merged.0 ≡ length new.creases
    long = ap length same

    free : (f g : ExactCrease) → Contains delta.added f → Stays old.creases delta g → ¬ Overlap g.seg f.seg
    free f g c s =
        let f_in = come f c in
        let g_in = (l.creases g).1 (inl s) in
        elim (segments_ordered g.seg f.seg (ends_of new.sheet g (key_of new g l.pattern g_in)) (ends_of new.sheet f (key_of new f l.pattern f_in))) [
          | inl b ↦ apart_of new.creases g f l.pattern.ordered l.pattern.apart g_in f_in b
          | inr k ↦ elim k [ inl e ↦ absurd (clash f g c s e) | inr b ↦ (λ v. apart_of new.creases f g l.pattern.ordered l.pattern.apart f_in g_in b (overlap_back g.seg f.seg v)) ]
        ]
