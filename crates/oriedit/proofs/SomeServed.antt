-- Some connections were served so far.
use Rattle.std.proofs.Common.{◌≡◌, ◌≤◌, ◌+◌, ℕ, List, [], ◌∷◌, ◌++◌, length, length-append, inl, inr, refl, sym, ap, subst, ◌∙◌, arith}
use Rattle.std.specs.Prelude.{Option, Some, Bool, true, false, Result, Ok, Err}
use Rattle.ports.specs.Doors.{Ends}
use Rattle.ports.specs.Streams.{Rose}
use Rattle.ports.specs.declared.streams.Failed.{Failed}
use Rattle.oriedit.specs.Connections.{EndSide, Kept}
use Rattle.oriedit.specs.Serving.{AreServed, HandedOut, ServesNext, door_side, ServesSome, ServingEnds}
use Rattle.oriedit.specs.declared.status.Status.TheVariants as status
use Rattle.oriedit.proofs.HandingOut.{handed_none, handed_more, served_more, served_later}

-- so many were served
pub record IsServing (n : ℕ) (ends : Option (Ends EndSide)) (old : Kept) (clean : Type 0) (later : Option (Ends EndSide)) (new : Kept) : Type 0 where
  pub befores : List EndSide
  pub afters : List EndSide
  pub handed : HandedOut ends later befores afters
  pub served : AreServed befores afters old clean new
  pub count : length afters ≡ n

pub none_served : (ends later : Option (Ends EndSide)) (k : Kept) (clean : Type 0) → later ≡ ends → IsServing 0 ends k clean later k
none_served ends later k clean e = record {
  befores = [];
  afters = [];
  handed = subst (λ l. HandedOut ends l [] []) (sym e) (handed_none ends);
  served = refl;
  count = refl;
}

-- one more was served
pub one_served : (n : ℕ) (ends mid later : Option (Ends EndSide)) (old now new : Kept) (C D : Type 0) → (D → C)
    → IsServing n ends old C mid now → ServesNext mid now D later new (Ok true) → IsServing (n + 1) ends old D later new
one_served n ends mid later old now new C D f s h = record {
  befores = s.befores ++ h.0 ∷ [];
  afters = s.afters ++ h.1 ∷ [];
  handed = handed_more ends mid later s.befores s.afters h.0 h.1 s.handed h.3;
  served = served_more s.befores s.afters h.0 h.1 old now new C D h.2 f s.served h.4;
  count = length-append s.afters (h.1 ∷ []) ∙ ap (λ k. k + 1) s.count;
}

-- what came of it, by its answer
pub next_as : (ends later : Option (Ends EndSide)) (now new : Kept) (D : Type 0) (r : Result Bool Failed) (b x : Bool)
    → r ≡ Ok b → b ≡ x → ServesNext ends now D later new r → ServesNext ends now D later new (Ok x)
next_as ends later now new D r b x i j h = subst (λ s. ServesNext ends now D later new s) (i ∙ ap Ok j) h

pub next_failed : (ends later : Option (Ends EndSide)) (now new : Kept) (D : Type 0) (r : Result Bool Failed) (x : Failed)
    → r ≡ Err x → ServesNext ends now D later new r → ServesNext ends now D later new (Err x)
next_failed ends later now new D r x i h = subst (λ s. ServesNext ends now D later new s) i h

-- none was served since
same_served : (n : ℕ) (ends mid later : Option (Ends EndSide)) (old now new : Kept) (C D : Type 0) → (D → C)
    → IsServing n ends old C mid now → later ≡ mid → new ≡ now → IsServing n ends old D later new
same_served n ends mid later old now new C D f s e k = record {
  befores = s.befores;
  afters = s.afters;
  handed = subst (λ l. HandedOut ends l s.befores s.afters) (sym e) s.handed;
  served = subst (λ l. AreServed s.befores s.afters old D l) (sym k) (served_later s.befores s.afters old now C D f s.served);
  count = s.count;
}

some_served : (n most p q : ℕ) (o r : Option ℕ) (ends later : Option (Ends EndSide)) (old new : Kept) (C : Type 0) → n ≤ most
    → IsServing n ends old C later new → ServesSome most (door_side o ends p) old C (door_side r later q) new
some_served n most p q o r ends later old new C l s = let c = s.count in record {
  befores = s.befores;
  afters = s.afters;
  handed = s.handed;
  served = s.served;
  few = omega (arith, l, c);
}

-- all were served
pub all_served : (n most port p q : ℕ) (o r : Option ℕ) (ends later : Option (Ends EndSide)) (old new : Kept) (C : Type 0)
    → r ≡ Some port → n ≡ most → IsServing n ends old C later new
    → ServingEnds port most (door_side o ends p) old C (door_side r later q) new status.Ok
unfolding some_served
all_served n most port p q o r ends later old new C e m s =
    let l : n ≤ most = omega (arith, m) in
    (e, (some_served n most p q o r ends later old new C l s, inl (s.count ∙ m)))

-- no more came
pub ended_served : (n most port p q : ℕ) (o r : Option ℕ) (ends mid later : Option (Ends EndSide)) (old now new : Kept) (C D : Type 0)
    → (D → C) → r ≡ Some port → n ≤ most → IsServing n ends old C mid now → ServesNext mid now D later new (Ok false)
    → ServingEnds port most (door_side o ends p) old D (door_side r later q) new status.Ok
unfolding some_served
ended_served n most port p q o r ends mid later old now new C D f e l s h =
    (e, (some_served n most p q o r ends later old new D l (same_served n ends mid later old now new C D f s h.1 h.2), inr h.0))

pub rose_since : (p m q : ℕ) → p ≤ m → Rose m q → Rose p q
rose_since p m q l r = omega (arith, l, r)

-- the door failed
pub broken_served : (n most port p q : ℕ) (o r : Option ℕ) (ends mid later : Option (Ends EndSide)) (old now new : Kept) (C D : Type 0) (x : Failed)
    → (D → C) → r ≡ Some port → n ≤ most → Rose p q → IsServing n ends old C mid now → ServesNext mid now D later new (Err x)
    → ServingEnds port most (door_side o ends p) old D (door_side r later q) new status.DoorFault
unfolding some_served
broken_served n most port p q o r ends mid later old now new C D x f e l rose s h =
    (e, rose, some_served n most p q o r ends later old new D l (same_served n ends mid later old now new C D f s h.0 h.1))

-- the port could not be opened
pub never_served : (most port p q : ℕ) (o r : Option ℕ) (ends later : Option (Ends EndSide)) (k : Kept) (C : Type 0)
    → r ≡ Some port → Rose p q → later ≡ ends
    → ServingEnds port most (door_side o ends p) k C (door_side r later q) k status.DoorFault
unfolding some_served
never_served most port p q o r ends later k C e rose l =
    (e, rose, some_served 0 most p q o r ends later k k C (omega arith) (none_served ends later k C l))
