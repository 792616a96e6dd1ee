-- Units that are ended line by line.
use Rattle.std.proofs.Common.{◌≡◌, ℕ, zero, suc, ◌+◌, ◌-◌, ◌<◌, ◌≤◌, Bool, true, false, List, [], ◌∷◌, ◌++◌, length, take, append_assoc, append-nil, length-append, refl, sym, ap, subst, ◌∙◌, inl, inr, arith}
use Rattle.std.specs.Prelude.{All, Contains, nat_eq}
use Rattle.std.proofs.lemmas.Bool.Decides.{nat_tests}
use Rattle.std.specs.List.{concat}
use Rattle.std.proofs.lemmas.List.{take-append-le, take_all}
use Rattle.std.proofs.lemmas.List.Elements.{All-nil, All-cons, All-head, All-tail, All-append, Contains-append_cases, Contains-append_right}
use Rattle.lines.specs.Lines.{IsLine}
use Rattle.chains.proofs.callers.Elements.{head_has, has_none}
use Rattle.lines.proofs.callers.Lines.{one_cut}
use Rattle.commands.specs.Lines.{IsWanted}
use Rattle.oriedit.specs.Units.{IsUnit, HasNoUnit}
use Rattle.oriedit.specs.Unfinished.{Lacks, IsUnfinished, EndsLine}
use Rattle.oriedit.proofs.Joining.{concat_more}

pub none_behind : (line front : List ℕ) → ¬ Contains line 10 → ¬ Contains front 10
    → ¬ Contains (line ++ front) 10
none_behind line front n m = λ c. elim (Contains-append_cases line front 10 c) [ inl h ↦ n h | inr h ↦ m h ]

-- a line that was begun before
pub ended_line : (line end : List ℕ) → ¬ Contains line 10 → IsLine end → IsLine (line ++ end)
ended_line line end n l = record {
  line = line ++ l.line;
  ends = ap (λ t. line ++ t) l.ends ∙ sym (append_assoc line l.line (10 ∷ []));
  one = none_behind line l.line n l.one;
}

-- whole lines that lack so many
pub record Ended (bytes : List ℕ) (wanted : ℕ) : Type 0 where
  pub first : List ℕ
  pub more : List (List ℕ)
  pub all : bytes ≡ (first ++ 10 ∷ []) ++ concat more
  pub one : ¬ Contains first 10
  pub lines : All IsLine more
  pub wants : IsWanted first (length more + wanted)

unit_of : (bytes : List ℕ) → Ended bytes 0 → IsUnit bytes
unit_of bytes e = record {
  first = e.first;
  more = e.more;
  all = e.all;
  one = e.one;
  lines = e.lines;
  wanted = (let z : length e.more + 0 ≡ length e.more = omega arith in subst (IsWanted e.first) z e.wants);
}

lacks_of : (bytes : List ℕ) (n : ℕ) → Ended bytes n → Lacks bytes n
lacks_of bytes n e = record {
  first = e.first;
  more = e.more;
  begun = [];
  all = e.all ∙ ap (λ t. (e.first ++ 10 ∷ []) ++ t) (sym (append-nil (concat e.more)));
  one = e.one;
  lines = e.lines;
  wants = e.wants;
  unfinished = λ c. has_none 10 c;
}

-- the unit is whole where no line is lacking
pub ends_line : (bytes : List ℕ) (n : ℕ) (b : Bool) → Ended bytes n → (b ≡ true → n ≡ 0)
    → (b ≡ false → ¬ (n ≡ 0)) → EndsLine bytes n b
ends_line bytes n true e t f = let z = t refl in (unit_of bytes (subst (Ended bytes) z e), z)
ends_line bytes zero false e t f = absurd (f refl refl)
ends_line bytes (suc n) false e t f = lacks_of bytes (suc n) e

-- the first line is ended
pub first_ended : (old new end first : List ℕ) (m n : ℕ) → m ≡ 0 → IsUnfinished old m → IsLine end
    → new ≡ old ++ end → first ≡ take (length new - 1) new → IsWanted first n → Ended new n
first_ended old new end first m n z u l e t w =
    let n10 : ¬ Contains old 10 = subst (IsUnfinished old) z u in
    let line = ended_line old end n10 l in
    let all : new ≡ line.line ++ 10 ∷ [] = e ∙ line.ends in
    let long : length (line.line ++ 10 ∷ []) - 1 ≡ length line.line = simp length-append (omega arith) in
    let cut : first ≡ line.line = t ∙ ap (λ x. take (length x - 1) x) all ∙ ap (λ k. take k (line.line ++ 10 ∷ [])) long
    ∙ take-append-le (length line.line) line.line (10 ∷ []) (omega arith) ∙ take_all (length line.line) line.line (omega arith) in
    record {
      first = line.line;
      more = [];
      all = all ∙ sym (append-nil (line.line ++ 10 ∷ []));
      one = line.one;
      lines = All-nil IsLine;
      wants = (let k : n ≡ length {A = List ℕ} [] + n = omega arith in subst (IsWanted line.line) k (subst (λ x. IsWanted x n) cut w));
    }

one_more_line : (more : List (List ℕ)) (line : List ℕ) → concat (more ++ line ∷ []) ≡ concat more ++ line
one_more_line more line = concat_more more (line ∷ []) ∙ ap (λ t. concat more ++ t) (append-nil line)

-- a further line is ended
further : (old new end : List ℕ) (n : ℕ) → Lacks old (suc n) → IsLine end → new ≡ old ++ end → Ended new n
further old new end n u l e = record {
  first = u.first;
  more = u.more ++ (u.begun ++ end) ∷ [];
  all = e ∙ ap (λ t. t ++ end) u.all ∙ append_assoc (u.first ++ 10 ∷ []) (concat u.more ++ u.begun) end
      ∙ ap (λ t. (u.first ++ 10 ∷ []) ++ t) (append_assoc (concat u.more) u.begun end ∙ sym (one_more_line u.more (u.begun ++ end)));
  one = u.one;
  lines = All-append IsLine u.more _ u.lines (All-cons IsLine _ [] (ended_line u.begun end u.unfinished l) (All-nil IsLine));
  wants = (let k : length u.more + suc n ≡ length (u.more ++ (u.begun ++ end) ∷ []) + n = simp length-append (omega arith) in subst (IsWanted u.first) k u.wants);
}

pub further_ended : (old new end : List ℕ) (m n : ℕ) → n + 1 ≡ m → IsUnfinished old m → IsLine end
    → new ≡ old ++ end → Ended new n
further_ended old new end zero n z u l e = absurd (omega (arith, z))
further_ended old new end (suc m) n z u l e =
    let same : n ≡ m = omega (arith, z) in
    subst (Ended new) (sym same) (further old new end m u l e)

pub ended : (old new end : List ℕ) (m n : ℕ) → (m ≡ 0 → IsWanted (take (length new - 1) new) n)
    → (¬ (m ≡ 0) → n + 1 ≡ m) → IsUnfinished old m → IsLine end → new ≡ old ++ end → Ended new n
ended old new end zero n f g u l e =
    first_ended old new end (take (length new - 1) new) 0 n refl u l e refl (f refl)
ended old new end (suc m) n f g u l e = further_ended old new end (suc m) n (g (λ z. omega (arith, z))) u l e

is_none : (n : ℕ) → nat_eq n 0 ≡ true → n ≡ 0
is_none n e = grind (arith, nat_tests)

is_some : (n : ℕ) → nat_eq n 0 ≡ false → ¬ (n ≡ 0)
is_some n e z = grind (arith, nat_tests)

pub line_ended : (old new end : List ℕ) (m n : ℕ) → (m ≡ 0 → IsWanted (take (length new - 1) new) n)
    → (¬ (m ≡ 0) → n + 1 ≡ m) → IsUnfinished old m → IsLine end → new ≡ old ++ end
    → EndsLine new n (nat_eq n 0)
line_ended old new end m n f g u l e =
    ends_line new n (nat_eq n 0) (ended old new end m n f g u l e) (is_none n) (is_some n)

-- bytes without a line feed are kept
lacks_more : (old rest : List ℕ) (n : ℕ) → Lacks old n → ¬ Contains rest 10 → Lacks (old ++ rest) n
lacks_more old rest n u r = record {
  first = u.first;
  more = u.more;
  begun = u.begun ++ rest;
  all = ap (λ t. t ++ rest) u.all ∙ append_assoc (u.first ++ 10 ∷ []) (concat u.more ++ u.begun) rest
      ∙ ap (λ t. (u.first ++ 10 ∷ []) ++ t) (append_assoc (concat u.more) u.begun rest);
  one = u.one;
  lines = u.lines;
  wants = u.wants;
  unfinished = none_behind u.begun rest u.unfinished r;
}

pub kept_more : (old rest : List ℕ) (n : ℕ) → IsUnfinished old n → ¬ Contains rest 10
    → IsUnfinished (old ++ rest) n
kept_more old rest zero u r = none_behind old rest u r
kept_more old rest (suc n) u r = lacks_more old rest (suc n) u r

-- nothing was taken
pub nothing_kept : (bytes : List ℕ) (n : ℕ) → bytes ≡ [] → n ≡ 0 → IsUnfinished bytes n
nothing_kept bytes n e z =
    subst (IsUnfinished bytes) (sym z) (subst (λ t. ¬ Contains t 10) (sym e) (λ c. has_none 10 c))

feed_behind : (xs zs : List ℕ) → Contains (xs ++ 10 ∷ zs) 10
feed_behind xs zs = Contains-append_right xs (10 ∷ zs) 10 (head_has 10 10 zs refl)

-- a first line with its line feed, and what stands behind it
cut_feed : (first back : List ℕ) → (first ++ 10 ∷ []) ++ back ≡ first ++ 10 ∷ back
cut_feed first back = append_assoc first (10 ∷ []) back

pub line_front : (l : List ℕ) (ls : List (List ℕ)) (back : List ℕ) → (h : IsLine l)
    → concat (l ∷ ls) ++ back ≡ h.line ++ 10 ∷ (concat ls ++ back)
line_front l ls back h =
    append_assoc l (concat ls) back ∙ ap (λ t. t ++ (concat ls ++ back)) h.ends ∙ cut_feed h.line (concat ls ++ back)

-- as many lines stand at the front as there are whole ones, and no more
at_most : (ls ms : List (List ℕ)) (begun later : List ℕ) → All IsLine ls → All IsLine ms → ¬ Contains begun 10
    → concat ls ++ begun ≡ concat ms ++ later → length ms ≤ length ls
at_most ls [] begun later a b n e = omega arith
at_most [] (m ∷ ms) begun later a b n e =
    let h = All-head IsLine m ms b in
    absurd (n (subst (λ t. Contains t 10) (sym (e ∙ line_front m ms later h)) (feed_behind h.line (concat ms ++ later))))
at_most (l ∷ ls) (m ∷ ms) begun later a b n e =
    let h = All-head IsLine l ls a in
    let k = All-head IsLine m ms b in
    let c = one_cut 10 h.line k.line (concat ls ++ begun) (concat ms ++ later) h.one k.one (sym (line_front l ls begun h) ∙ e ∙ line_front m ms later k) in
    let r = at_most ls ms begun later (All-tail IsLine l ls a) (All-tail IsLine m ms b) n c.1 in
    omega arith

pub unit_front : (unit later : List ℕ) → (u : IsUnit unit)
    → unit ++ later ≡ u.first ++ 10 ∷ (concat u.more ++ later)
unit_front unit later u =
    ap (λ t. t ++ later) u.all ∙ append_assoc (u.first ++ 10 ∷ []) (concat u.more) later ∙ cut_feed u.first (concat u.more ++ later)

-- as many lines as a first line wants are one number
abbrev pub IsOneCount : Type 0
IsOneCount = (first : List ℕ) (count other : ℕ) → IsWanted first count → IsWanted first other → count ≡ other

lacks_unit : IsOneCount → (bytes : List ℕ) (n : ℕ) → Lacks bytes (suc n) → HasNoUnit bytes
lacks_unit one bytes n l unit later e u =
    let front : bytes ≡ l.first ++ 10 ∷ (concat l.more ++ l.begun) = l.all ∙ cut_feed l.first (concat l.more ++ l.begun) in
    let c = one_cut 10 l.first u.first (concat l.more ++ l.begun) (concat u.more ++ later) l.one u.one (sym front ∙ e ∙ unit_front unit later u) in
    let most = at_most l.more u.more l.begun later l.lines u.lines l.unfinished c.1 in
    let w = one u.first (length l.more + suc n) (length u.more) (subst (λ x. IsWanted x (length l.more + suc n)) c.0 l.wants) u.wanted in
    omega arith

-- no whole unit stands at the front of bytes without a line feed
pub no_feed : (bytes : List ℕ) → ¬ Contains bytes 10 → HasNoUnit bytes
no_feed bytes n unit later e u =
    n (subst (λ t. Contains t 10) (sym (e ∙ unit_front unit later u)) (feed_behind u.first (concat u.more ++ later)))

-- nor of a unit that is not whole
pub no_unit : IsOneCount → (bytes : List ℕ) (n : ℕ) → IsUnfinished bytes n → HasNoUnit bytes
no_unit one bytes zero n = no_feed bytes n
no_unit one bytes (suc n) l = lacks_unit one bytes n l
