-- What is known of all bytes from those that came first.
use Rattle.std.proofs.Common.{◌≡◌, ◌≢◌, ◌∙◌, ℕ, ◌+◌, ◌-◌, ◌≤◌, ◌<◌, List, [], ◌∷◌, ◌++◌, length, take, sym, ap, subst, refl, append_assoc, append-nil, length-append, arith, inl, inr}
use Rattle.std.specs.Prelude.{Option, Some, None}
use Rattle.std.proofs.Math.Seq.{take-append_seam, take-append-add}
use Rattle.ports.specs.Taken.{IsSpent}
use Rattle.httparse.specs.Grammar.{HasNoRequest, NeverHasRequest, MayBecomeRequest}
use Rattle.api.specs.Requests.{head_limit, front, IsBroken, IsEndless}
use Rattle.api.specs.Answers.{all_of}
use Rattle.api.specs.Stages.{IsOpen}

-- the bytes that came are at the front of all, and the rest is what is left
abbrev pub rest_of : Option (List ℕ) → List ℕ
rest_of None = []
rest_of (Some left) = left

pub all_is : (got : List ℕ) (left : Option (List ℕ)) → all_of got left ≡ got ++ rest_of left
all_is got None = sym (append-nil got)
all_is got (Some left) = refl

pub all_spent : (got : List ℕ) (left : Option (List ℕ)) → IsSpent left → all_of got left ≡ got
all_spent got None spent = refl
all_spent got (Some left) spent = ap (λ t. got ++ t) spent ∙ append-nil got

pub not_empty : (got more : List ℕ) → got ≢ [] → got ++ more ≢ []
not_empty [] more some same = some refl
not_empty (b ∷ got) more some same = cc

pub all_not_empty : (got : List ℕ) (left : Option (List ℕ)) → got ≢ [] → all_of got left ≢ []
all_not_empty got None some = some
all_not_empty got (Some left) some = not_empty got left some

-- what no bytes make a head, no more bytes do
never_more : (got more : List ℕ) → NeverHasRequest got → NeverHasRequest (got ++ more)
never_more got more never later =
    subst HasNoRequest (sym (append_assoc got more later)) (never (more ++ later))

-- the bytes that a head may have, where fewer came
front_is : (got more : List ℕ) → length got ≤ head_limit → front (got ++ more) ≡ got ++ take (head_limit - length got) more
front_is got more short =
    let whole : head_limit ≡ length got + (head_limit - length got) = omega arith in
    ap (λ n. take n (got ++ more)) whole ∙ take-append-add got more (head_limit - length got)

pub broken : (got : List ℕ) (left : Option (List ℕ)) → length got ≤ head_limit → NeverHasRequest got → IsBroken (all_of got left)
broken got left short never =
    subst IsBroken (sym (all_is got left))
    (inl (subst NeverHasRequest (sym (front_is got (rest_of left) short)) (never_more got _ never)))

pub ended : (got : List ℕ) (left : Option (List ℕ)) → length got < head_limit → HasNoRequest got → IsSpent left → IsBroken (all_of got left)
ended got left short none spent = subst IsBroken (sym (all_spent got left spent)) (inr (none, short))

all_front : (got more : List ℕ) → length got ≡ head_limit → front (got ++ more) ≡ got
all_front got more long = ap (λ n. take n (got ++ more)) (sym long) ∙ take-append_seam got more

endless_more : (got more : List ℕ) → length got ≡ head_limit → IsOpen got → IsEndless (got ++ more)
endless_more got more long begun = record {
  long = omega (arith, long, length-append got more);
  none = subst HasNoRequest (sym (all_front got more long)) begun.none;
  begins = subst MayBecomeRequest (sym (all_front got more long)) begun.begins;
}

pub endless : (got : List ℕ) (left : Option (List ℕ)) → length got ≡ head_limit → IsOpen got → IsEndless (all_of got left)
endless got left long begun = subst IsEndless (sym (all_is got left)) (endless_more got (rest_of left) long begun)
