-- What takes give one after another, from a source that tells its bytes and from one that does not.
use Rattle.std.proofs.Common.{◌≡◌, ◌∙◌, ℕ, ◌≤◌, ◌<◌, List, [], ◌++◌, length, take, sym, ap, refl, append_assoc}
use Rattle.std.specs.Prelude.{Option, Some, None, Ok}
use Rattle.ports.specs.Streams.{Takes}
use Rattle.ports.specs.Taken.{Gave, IsSpent}

pub gave_nothing : (was : Option (List ℕ)) → Gave was was []
gave_nothing None = tt
gave_nothing (Some left) = refl

-- what was taken so far, and what was taken behind it
pub gave_more : (old mid new : Option (List ℕ)) (got piece : List ℕ) → Gave old mid got → Gave mid new piece → Gave old new (got ++ piece)
gave_more None None None got piece p q = tt
gave_more None None (Some z) got piece p q = absurd q
gave_more None (Some y) new got piece p q = absurd p
gave_more (Some x) None new got piece p q = absurd p
gave_more (Some x) (Some y) None got piece p q = absurd q
gave_more (Some x) (Some y) (Some z) got piece p q = p ∙ ap (λ t. got ++ t) q ∙ sym (append_assoc got piece z)

-- a take gives what it put at the front of the buffer
pub take_gave : (E : Type 0) (old new : Option (List ℕ)) (a b : List ℕ) (n : ℕ) → Takes {E = E} old new a b (Ok n) → Gave old new (take n b)
take_gave E None None a b n t = tt
take_gave E None (Some y) a b n t = t
take_gave E (Some x) None a b n t = t
take_gave E (Some x) (Some y) a b n t = t.front

-- a take gives at most what the buffer has room for
pub take_within : (E : Type 0) (old new : Option (List ℕ)) (a b : List ℕ) (n : ℕ) → Takes {E = E} old new a b (Ok n) → n ≤ length a
take_within E None None a b n t = t
take_within E None (Some y) a b n t = absurd t
take_within E (Some x) None a b n t = absurd t
take_within E (Some x) (Some y) a b n t = t.bound

-- a take that gives nothing though the buffer has room has seen the end
pub take_spent : (E : Type 0) (old new : Option (List ℕ)) (a b : List ℕ) (n : ℕ) → Takes {E = E} old new a b (Ok n) → 0 < length a → n ≡ 0 → IsSpent new
take_spent E None None a b n t some none = tt
take_spent E None (Some y) a b n t some none = absurd t
take_spent E (Some x) None a b n t some none = tt
take_spent E (Some x) (Some y) a b n t some none =
    let all : x ≡ take n b ++ y = t.front in
    let no : take n b ≡ [] = ap (λ k. take k b) none in
    sym (ap (λ p. p ++ y) no) ∙ sym all ∙ t.ends some none
