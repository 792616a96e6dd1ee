-- A project with a rev behind `@`, and one without.
use Rattle.std.proofs.Common.{◌≡◌, ◌≢◌, ℕ, suc, ◌+◌, ◌<◌, ◌≤◌, Bool, true, false, cond, not, List, [], ◌∷◌, ◌++◌, length, take, drop, Option, Some, None, refl, sym, ap, subst, ◌∙◌, inl, inr, arith, length-append}
use Rattle.std.specs.Prelude.{All, position, decimal, IfSome, ◌==◌}
use Rattle.std.specs.List.{position_or_len}
use Rattle.std.proofs.lemmas.Bool.Decides.{nat_tests}
use Rattle.std.proofs.lemmas.List.{append-nil}
use Rattle.std.proofs.lemmas.List.Elements.{All-head, All-tail}
use Rattle.vocabulary.specs.Names.{IsName, IsNameByte}
use Rattle.vocabulary.specs.Revs.{last_rev, rev_text}
use Rattle.commands.specs.Spelling.{who_text}
use Rattle.commands.specs.Fields.{AWho}
use Rattle.commands.specs.Taking.{ReadsOption, HasName}
use Rattle.commands.specs.declared.who.Who.{Who}
use Rattle.chains.proofs.callers.Elements.{placed, unplaced}

abbrev pub is_at : ℕ → Bool
is_at b = b == 64

name_no_at : (b : ℕ) → IsNameByte b → is_at b ≡ false
name_no_at b h = elim h [
  | inl l ↦ grind (arith, nat_tests, l)
  | inr r ↦ elim r [ inl d ↦ grind (arith, nat_tests, d) | inr s ↦ elim s [ inl u ↦ grind (arith, nat_tests, u) | inr m ↦ grind (arith, nat_tests, m) ] ]
]

-- the first `@` behind a name
step_by : (v : Bool) (n m : ℕ) → v ≡ false → n ≡ m → cond (not v) (1 + n) 0 ≡ suc m
step_by true n m e h = absurd cc
step_by false n m e h = omega arith

pub at_behind : (name rest : List ℕ) → All IsNameByte name → position_or_len is_at (name ++ 64 ∷ rest) ≡ length name
at_behind [] rest h = refl
at_behind (b ∷ name) rest h = step_by (is_at b) (position_or_len is_at (name ++ 64 ∷ rest)) (length name) (name_no_at b (All-head IsNameByte b name h)) (at_behind name rest (All-tail IsNameByte b name h))

pub no_at : (name : List ℕ) → All IsNameByte name → position_or_len is_at name ≡ length name
no_at [] h = refl
no_at (b ∷ name) h = step_by (is_at b) (position_or_len is_at name) (length name) (name_no_at b (All-head IsNameByte b name h)) (no_at name (All-tail IsNameByte b name h))

-- without `@` there is no rev
no_rev : (bytes name : List ℕ) (rev : Option ℕ) → position is_at bytes ≡ None → IsName name → name ++ rev_text rev ≡ bytes → (rev ≡ None) × (name ≡ bytes)
no_rev bytes name None p h e = (refl, sym (append-nil name) ∙ e)
no_rev bytes name (Some n) p h e =
    let a = at_behind name (decimal n) h.each in
    let b = unplaced is_at (name ++ 64 ∷ decimal n) (subst (λ xs. position is_at xs ≡ None) (sym e) p) in
    let c = length-append name (64 ∷ decimal n) in
    absurd (omega arith)

-- with it there is one
record IsRevAt (bytes name : List ℕ) (rev : Option ℕ) (at : ℕ) : Type 0 where
  n : ℕ
  rev_is : rev ≡ Some n
  name_is : name ≡ take at bytes
  text_is : decimal n ≡ drop (at + 1) bytes

pub take_all : (name rest : List ℕ) → take (length name) (name ++ rest) ≡ name
take_all [] rest = refl
take_all (b ∷ name) rest = ap (λ xs. b ∷ xs) (take_all name rest)

pub drop_all : (name rest : List ℕ) (b : ℕ) → drop (suc (length name)) (name ++ b ∷ rest) ≡ rest
drop_all [] rest b = refl
drop_all (c ∷ name) rest b = drop_all name rest b

rev_at : (bytes name : List ℕ) (rev : Option ℕ) (at : ℕ) → position is_at bytes ≡ Some at → IsName name → name ++ rev_text rev ≡ bytes → IsRevAt bytes name rev at
rev_at bytes name None at p h e =
    let f : name ≡ bytes = sym (append-nil name) ∙ e in
    let q = placed is_at name at (subst (λ xs. position is_at xs ≡ Some at) (sym f) p) in
    let a = no_at name h.each in
    absurd (omega (arith, q.0, a))
rev_at bytes name (Some n) at p h e =
    let q = placed is_at (name ++ 64 ∷ decimal n) at (subst (λ xs. position is_at xs ≡ Some at) (sym e) p) in
    let a = at_behind name (decimal n) h.each in
    let l : length name ≡ at = sym a ∙ q.1 in
    let k : suc (length name) ≡ at + 1 = omega arith in
    record {
      n = n;
      rev_is = refl;
      name_is = sym (take_all name (64 ∷ decimal n)) ∙ (λ i. take (l i) (e i));
      text_is = sym (drop_all name (decimal n) 64) ∙ (λ i. drop (k i) (e i));
    }

same_who : (who : Who) (name : List ℕ) (rev : Option ℕ) → who.name ≡ name → who.rev ≡ rev → who_text who ≡ name ++ rev_text rev
same_who who name rev p q = λ i. p i ++ rev_text (q i)

-- without `@`
pub whole_name : (bytes : List ℕ) (r : Option Who) → position is_at bytes ≡ None → HasName bytes None r → ReadsOption AWho bytes r
whole_name bytes (Some who) p h = (
  record { name = subst IsName (sym h.1) h.0; rev = subst (λ (rev : Option ℕ). IfSome rev (λ n. n ≤ last_rev)) (sym h.2) tt },
  same_who who bytes None h.1 h.2 ∙ append-nil bytes,
)
whole_name bytes None p h = λ who w e. h (subst IsName (no_rev bytes who.name who.rev p w.name e).1 w.name)

-- a rev that is none
pub no_number : (bytes back : List ℕ) (at : ℕ) → position is_at bytes ≡ Some at → back ≡ drop (at + 1) bytes → ((n : ℕ) → n ≤ last_rev → decimal n ≢ back) → ReadsOption AWho bytes None
no_number bytes back at p b h = λ who w e.
    let r = rev_at bytes who.name who.rev at p w.name e in
    let k : r.n ≤ last_rev = subst (λ (rev : Option ℕ). IfSome rev (λ n. n ≤ last_rev)) r.rev_is w.rev in
    h r.n k (r.text_is ∙ sym b)

-- the bytes before and behind an `@`
split_by : (b : ℕ) (bs : List ℕ) (v : Bool) → is_at b ≡ v → cond (not v) (1 + position_or_len is_at bs) 0 < length (b ∷ bs)
    → (position_or_len is_at bs < length bs → bs ≡ take (position_or_len is_at bs) bs ++ 64 ∷ drop (position_or_len is_at bs + 1) bs)
    → b ∷ bs ≡ take (cond (not v) (1 + position_or_len is_at bs) 0) (b ∷ bs) ++ 64 ∷ drop (cond (not v) (1 + position_or_len is_at bs) 0 + 1) (b ∷ bs)
split_by b bs true e l more = (let k : b ≡ 64 = grind (arith, nat_tests) in λ i. k i ∷ bs)
split_by b bs false e l more =
    let m = position_or_len is_at bs in
    let p : 1 + m ≡ suc m = omega arith in
    let q : 1 + m + 1 ≡ suc (m + 1) = omega arith in
    let k : b ∷ bs ≡ take (suc m) (b ∷ bs) ++ 64 ∷ drop (suc (m + 1)) (b ∷ bs) = ap (λ xs. b ∷ xs) (more (omega arith)) in
    k ∙ (λ i. take (sym p i) (b ∷ bs) ++ 64 ∷ drop (sym q i) (b ∷ bs))

split_at : (bytes : List ℕ) → position_or_len is_at bytes < length bytes → bytes ≡ take (position_or_len is_at bytes) bytes ++ 64 ∷ drop (position_or_len is_at bytes + 1) bytes
split_at [] l = absurd (omega arith)
split_at (b ∷ bs) l = split_by b bs (is_at b) refl l (λ k. split_at bs k)

pub split : (bytes : List ℕ) (at : ℕ) → position is_at bytes ≡ Some at → bytes ≡ take at bytes ++ 64 ∷ drop (at + 1) bytes
split bytes at p = let q = placed is_at bytes at p in subst (λ k. bytes ≡ take k bytes ++ 64 ∷ drop (k + 1) bytes) q.1 (split_at bytes q.0)

-- with a rev
pub with_rev : (bytes front back : List ℕ) (at n : ℕ) (r : Option Who) → position is_at bytes ≡ Some at → front ≡ take at bytes → back ≡ drop (at + 1) bytes
    → n ≤ last_rev → decimal n ≡ back → HasName front (Some n) r → ReadsOption AWho bytes r
with_rev bytes front back at n (Some who) p f b l d h = (
  record { name = subst IsName (sym h.1) h.0; rev = subst (λ (rev : Option ℕ). IfSome rev (λ m. m ≤ last_rev)) (sym h.2) l },
  same_who who front (Some n) h.1 h.2 ∙ (λ i. f i ++ 64 ∷ (d ∙ b) i) ∙ sym (split bytes at p),
)
with_rev bytes front back at n None p f b l d h = λ who v e.
    let r = rev_at bytes who.name who.rev at p v.name e in
    h (subst IsName (r.name_is ∙ sym f) v.name)
