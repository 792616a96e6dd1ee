-- Walks along deltas, from one pattern to the next.
use Rattle.std.proofs.Common.{◌≡◌, ℕ, zero, suc, List, [], ◌∷◌, ◌++◌, drop, refl, sym, ap, subst, ◌∙◌}
use Rattle.std.proofs.lemmas.List.{same_from_push}
use Rattle.std.specs.Prelude.{◌↔◌, Option, Some, None, IsSome}
use Rattle.sheet.specs.Pattern.{ExactPattern, IsPattern}
use Rattle.pattern.specs.Deltas.{Fits, Leads, inverse_of}
use Rattle.pattern.specs.declared.delta.Delta.{Delta}
use Rattle.pattern.proofs.callers.Leading.{leads_to_one, inverse_leads, inverse_fits}
use Rattle.history.specs.Histories.{ExactHistory, IsBack, IsLast, IsFirst}
use Rattle.projects.specs.Projects.{Walk, IsPast, IsFuture}
use Rattle.history.proofs.callers.Steps.{same_front}

-- one walk after another
pub walk_on : (from mid to : ExactPattern) (xs ys : List Delta) → Walk from xs mid → Walk mid ys to → Walk from (xs ++ ys) to
walk_on from mid to [] ys w v = subst (λ (p : ExactPattern). Walk p ys to) (sym w) v
walk_on from mid to (x ∷ xs) ys w v = (w.0, (w.1.0, w.1.1, walk_on w.1.0 mid to xs ys w.1.2 v))

-- the pattern where a walk stands after its first deltas
pub walk_cut : (from to : ExactPattern) (xs ys : List Delta) → Walk from (xs ++ ys) to → (mid : ExactPattern) × Walk from xs mid × Walk mid ys to
walk_cut from to [] ys w = (from, refl, w)
walk_cut from to (x ∷ xs) ys w = (let c = walk_cut w.1.0 to xs ys w.1.2 in (c.0, (w.0, (w.1.0, w.1.1, c.1)), c.2))

-- a walk from a pattern leads to one
pub walk_pattern : (from to : ExactPattern) (xs : List Delta) → IsPattern from → Walk from xs to → IsPattern to
walk_pattern from to [] p w = subst IsPattern w p
walk_pattern from to (x ∷ xs) p w = walk_pattern w.1.0 to xs w.1.1.pattern w.1.2

pub one_step : (from to : ExactPattern) (delta : Delta) → Fits from delta → Leads from delta to → Walk from (delta ∷ []) to
one_step from to delta f l = (f, (to, l, refl))

-- the last delta of a past is taken back
pub record IsTakenBack (deltas : List Delta) (delta : Delta) (now : ExactPattern) : Type 0 where
  pub earlier : ExactPattern
  pub past : IsPast deltas earlier
  pub fits : Fits earlier delta
  pub leads : Leads earlier delta now
  pub fits_back : Fits now (inverse_of delta)
  pub leads_back : Leads now (inverse_of delta) earlier

pub taken_back : (deltas : List Delta) (delta : Delta) (now : ExactPattern) → IsPast (deltas ++ delta ∷ []) now → IsTakenBack deltas delta now
taken_back deltas delta now h =
    let c = walk_cut h.0 now deltas (delta ∷ []) h.2 in
    let p : IsPattern c.0 = walk_pattern h.0 c.0 deltas h.1 c.1 in
    let f : Fits c.0 delta = c.2.0 in
    let l : Leads c.0 delta now = subst (Leads c.0 delta) c.2.1.2 c.2.1.1 in
    record {
      earlier = c.0;
      past = (h.0, h.1, c.1);
      fits = f;
      leads = l;
      fits_back = inverse_fits c.0 now delta p f l;
      leads_back = inverse_leads c.0 now delta p f l;
    }

-- a delta that fits leads on from a past
pub past_on : (deltas : List Delta) (delta : Delta) (earlier now : ExactPattern) → IsPast deltas earlier → Fits earlier delta → Leads earlier delta now → IsPast (deltas ++ delta ∷ []) now
past_on deltas delta earlier now h f l = (h.0, h.1, walk_on h.0 earlier now deltas (delta ∷ []) h.2 (one_step earlier now delta f l))

-- a pattern from which the inverse of a delta leads back has it as the last of its past exactly where the rest leads to the earlier one
pub past_step : (deltas : List Delta) (delta : Delta) (now earlier : ExactPattern) → IsPattern now → Fits now (inverse_of delta) → Leads now (inverse_of delta) earlier → IsPast (deltas ++ delta ∷ []) now ↔ IsPast deltas earlier
past_step deltas delta now earlier p f l = (
  λ h. (let t = taken_back deltas delta now h in subst (IsPast deltas) (leads_to_one now t.earlier earlier (inverse_of delta) t.leads_back l) t.past),
  λ h. past_on deltas delta earlier now h (inverse_fits now earlier (inverse_of delta) p f l) (inverse_leads now earlier (inverse_of delta) p f l),
)

pub past_fails : (deltas : List Delta) (delta : Delta) (now : ExactPattern) → (¬ Fits now (inverse_of delta)) → ¬ IsPast (deltas ++ delta ∷ []) now
past_fails deltas delta now n h = n (taken_back deltas delta now h).fits_back

pub past_back : (deltas : List Delta) (delta : Delta) (now : ExactPattern) → IsPattern now → IsPast (deltas ++ delta ∷ []) now ↔ (Fits now (inverse_of delta) × ((earlier : ExactPattern) × Leads now (inverse_of delta) earlier × IsPast deltas earlier))
past_back deltas delta now p = (
  λ h. (let t = taken_back deltas delta now h in (t.fits_back, (t.earlier, t.leads_back, t.past))),
  λ k. (past_step deltas delta now k.1.0 p k.0 k.1.1).1 k.1.2,
)

-- the last deltas of a past are one too
pub past_drop : (n : ℕ) (deltas : List Delta) (now : ExactPattern) → IsPast deltas now → IsPast (drop n deltas) now
past_drop zero deltas now h = h
past_drop (suc n) [] now h = h
past_drop (suc n) (d ∷ deltas) now h = past_drop n deltas now (h.2.1.0, h.2.1.1.pattern, h.2.1.2)

pub future_step : (deltas : List Delta) (delta : Delta) (now later : ExactPattern) → Fits now delta → Leads now delta later → IsFuture now (delta ∷ deltas) ↔ IsFuture later deltas
future_step deltas delta now later f l = (
  λ h. (h.0, subst (λ (p : ExactPattern). Walk p deltas h.0) (leads_to_one now h.1.1.0 later delta h.1.1.1 l) h.1.1.2),
  λ h. (h.0, (f, (later, l, h.1))),
)

-- the delta at the end of a past is the one that goes over to the future
same_last : (rest later : ExactHistory) (delta : Delta) → IsLast rest.past delta → (b : IsBack rest later) → rest.past ≡ later.past ++ delta ∷ []
same_last rest later delta last b =
    let same : (last.0 ≡ later.past) × (delta ≡ b.delta) = same_from_push last.0 later.past delta b.delta (sym last.1 ∙ b.past) in
    last.1 ∙ ap (λ (xs : List Delta). xs ++ delta ∷ []) same.0

pub past_goes_on : (rest later : ExactHistory) (delta back : Delta) (now earlier : ExactPattern) → IsPattern now → IsLast rest.past delta → back ≡ inverse_of delta → Fits now back → Leads now back earlier → IsBack rest later → IsPast rest.past now ↔ IsPast later.past earlier
past_goes_on rest later delta back now earlier p last e f l b =
    let s = past_step later.past delta now earlier p (subst (Fits now) e f) (subst (λ (d : Delta). Leads now d earlier) e l) in
    let past : rest.past ≡ later.past ++ delta ∷ [] = same_last rest later delta last b in (
      λ h. s.0 (subst (λ (xs : List Delta). IsPast xs now) past h),
      λ h. subst (λ (xs : List Delta). IsPast xs now) (sym past) (s.1 h),
    )

pub past_stops : (rest : List Delta) (delta back : Delta) (now : ExactPattern) → IsLast rest delta → back ≡ inverse_of delta → (¬ Fits now back) → ¬ IsPast rest now
past_stops rest delta back now last e n h = past_fails last.0 delta now (λ f. n (subst (Fits now) (sym e) f)) (subst (λ (xs : List Delta). IsPast xs now) last.1 h)

pub future_goes_on : (rest later : ExactHistory) (delta : Delta) (now next : ExactPattern) → IsFirst rest.future delta → Fits now delta → Leads now delta next → IsBack later rest → IsFuture now rest.future ↔ IsFuture next later.future
future_goes_on rest later delta now next first f l b =
    let same : (delta ≡ b.delta) × (first.0 ≡ later.future) = same_front first.0 later.future delta b.delta (sym first.1 ∙ b.future) in
    let future : rest.future ≡ delta ∷ later.future = first.1 ∙ ap (λ (xs : List Delta). delta ∷ xs) same.1 in
    let s = future_step later.future delta now next f l in (
      λ h. s.0 (subst (λ (xs : List Delta). IsFuture now xs) future h),
      λ h. subst (λ (xs : List Delta). IsFuture now xs) (sym future) (s.1 h),
    )

-- where nothing was found, what was to be found is not there
pub none_refutes : {X P : Type 0} (found : Option X) → found ≡ None → IsSome found ↔ P → ¬ P
none_refutes {X = X} found e h p = (let s : IsSome {T = X} None = subst IsSome e (h.1 p) in cc)

pub some_proves : {X P : Type 0} (found : Option X) (x : X) → found ≡ Some x → IsSome found ↔ P → P
some_proves found x e h = h.0 (subst IsSome (sym e) (some_is x))
  where
    some_is : {Y : Type 0} (y : Y) → IsSome (Some y)
    some_is y = refl
