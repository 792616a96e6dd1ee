-- Connections served one after another.
use Rattle.std.proofs.Common.{◌≡◌, List, [], ◌∷◌, ◌++◌, map, append_assoc, append-nil, refl, sym, ap, subst, ◌∙◌, arith}
use Rattle.std.specs.Prelude.{Option, Some, None, option_map, Ok, Err}
use Rattle.std.proofs.lemmas.List.{map-append}
use Rattle.ports.specs.Doors.{Ends, HandsOut, with_finished}
use Rattle.oriedit.specs.Connections.{EndSide, Kept, IsServed}
use Rattle.oriedit.specs.Serving.{AreServed, HandedOut, HasNone, ends_seen}
use Rattle.oriedit.specs.declared.connection.Served.{Served}
use Rattle.oriedit.proofs.Laters.{later_served}

-- one end went out and was finished
pub handed_one : {E : Type 0} (F : Type 0) (side : E → EndSide) (old mid new : Option (Ends E)) (before after : E)
    → HandsOut {E = E} {F = F} old mid (Ok (Some before)) → new ≡ option_map (with_finished after) mid
    → HandedOut (ends_seen side old) (ends_seen side new) (side before ∷ []) (side after ∷ [])
handed_one F side None None new before after h e = subst (λ n. HandedOut None (ends_seen side n) (side before ∷ []) (side after ∷ [])) (sym e) tt
handed_one F side None (Some m) new before after h e = absurd h
handed_one F side (Some o) None new before after h e = absurd h
handed_one F side (Some o) (Some m) new before after h e =
    let out = h.out in
    subst (λ n. HandedOut (ends_seen side (Some o)) (ends_seen side n) (side before ∷ []) (side after ∷ [])) (sym e) (
      ap (map side) h.coming,
      map-append side m.finished (after ∷ []) ∙ ap (λ f. map side f ++ side after ∷ []) h.finished,
      omega (arith, out),
    )

-- no end went out
pub handed_none : (ends : Option (Ends EndSide)) → HandedOut ends ends [] []
handed_none None = tt
handed_none (Some ends) = (refl, sym (append-nil ends.finished), refl)

-- ends were handed out, and then one more
pub handed_more : (a b c : Option (Ends EndSide)) (befores afters : List EndSide) (before after : EndSide)
    → HandedOut a b befores afters → HandedOut b c (before ∷ []) (after ∷ [])
    → HandedOut a c (befores ++ before ∷ []) (afters ++ after ∷ [])
handed_more None None None bs cs b a p q = tt
handed_more None None (Some z) bs cs b a p q = q
handed_more None (Some y) z bs cs b a p q = absurd p
handed_more (Some x) None z bs cs b a p q = absurd p
handed_more (Some x) (Some y) None bs cs b a p q = q
handed_more (Some x) (Some y) (Some z) bs cs b a p q = (
  p.0 ∙ ap (λ es. bs ++ es) q.0 ∙ sym (append_assoc bs (b ∷ []) z.coming),
  q.1 ∙ ap (λ es. es ++ a ∷ []) p.1 ∙ append_assoc x.finished cs (a ∷ []),
  q.2 ∙ p.2,
)

-- connections were served, and then one more
pub served_more : (befores afters : List EndSide) (before after : EndSide) (old mid new : Kept) (C D : Type 0) (s : Served)
    → (D → C) → AreServed befores afters old C mid → IsServed before after mid D new s
    → AreServed (befores ++ before ∷ []) (afters ++ after ∷ []) old D new
served_more [] [] before after old mid new C D s f p q =
    (new, s, subst (λ k. IsServed before after k D new s) p q, refl)
served_more [] (a ∷ cs) before after old mid new C D s f p q = absurd p
served_more (b ∷ bs) [] before after old mid new C D s f p q = absurd p
served_more (b ∷ bs) (a ∷ cs) before after old mid new C D s f p q =
    (p.0, p.1, later_served old p.0 C D f b a p.1 p.2, served_more bs cs before after p.0 mid new C D s f p.3 q)

-- what was served so far, where the store is clean at a later time
pub served_later : (befores afters : List EndSide) (old new : Kept) (C D : Type 0) → (D → C)
    → AreServed befores afters old C new → AreServed befores afters old D new
served_later [] [] old new C D f p = p
served_later [] (a ∷ cs) old new C D f p = absurd p
served_later (b ∷ bs) [] old new C D f p = absurd p
served_later (b ∷ bs) (a ∷ cs) old new C D f p =
    (p.0, p.1, later_served old p.0 C D f b a p.1 p.2, served_later bs cs p.0 new C D f p.3)

-- no end was left to go out
pub none_left : {E : Type 0} (F : Type 0) (side : E → EndSide) (old new : Option (Ends E)) → HandsOut {E = E} {F = F} old new (Ok None)
    → HasNone (ends_seen side new) × (ends_seen side new ≡ ends_seen side old)
none_left F side None None h = (tt, refl)
none_left F side None (Some n) h = absurd h
none_left F side (Some o) None h = absurd h
none_left F side (Some o) (Some n) h =
    (ap (λ (e : Ends _). map side e.coming) h.1 ∙ ap (map side) h.0, ap (λ e. ends_seen side (Some e)) h.1)

-- a door that failed has its ends cs before
pub still_left : {E : Type 0} (F : Type 0) (side : E → EndSide) (old new : Option (Ends E)) (e : F) → HandsOut {E = E} {F = F} old new (Err e)
    → ends_seen side new ≡ ends_seen side old
still_left F side None None e h = refl
still_left F side None (Some n) e h = absurd h
still_left F side (Some o) None e h = absurd h
still_left F side (Some o) (Some n) e h = ap (λ x. ends_seen side (Some x)) h
