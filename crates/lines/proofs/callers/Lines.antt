-- A text has one first line, and all bytes are lines with a rest.
use Rattle.std.proofs.Common.{◌≡◌, ◌≢◌, ℕ, ◌<◌, ◌≤◌, ◌-◌, List, [], ◌∷◌, ◌++◌, append_assoc, refl, sym, ap, subst, ◌∙◌, ◌⊎◌, inl, inr, arith}
use Rattle.std.specs.Prelude.{All, Contains, length}
use Rattle.std.specs.List.{concat}
use Rattle.std.proofs.lemmas.Bool.{cases_order}
use Rattle.std.proofs.lemmas.List.Elements.{All-nil, All-cons, All-head, All-tail, Contains-append_right}
use Rattle.lines.specs.Lines.{IsBare, IsFirstLine, IsLine, AreLines, AreFirstLines}
use Rattle.chains.proofs.callers.Elements.{head_has, tail_has, has_cases, has_none, same_heads, same_tails}

-- lists cut at the first place of an element
pub one_cut : (c : ℕ) (xs ys zs bs : List ℕ) → ¬ Contains xs c → ¬ Contains ys c
    → xs ++ c ∷ zs ≡ ys ++ c ∷ bs → (xs ≡ ys) × (zs ≡ bs)
one_cut c [] [] zs bs h k e = (refl, same_tails e)
one_cut c [] (y ∷ ys) zs bs h k e = absurd (k (head_has y c ys (sym (same_heads e))))
one_cut c (x ∷ xs) [] zs bs h k e = absurd (h (head_has x c xs (same_heads e)))
one_cut c (x ∷ xs) (y ∷ ys) zs bs h k e =
    let r = one_cut c xs ys zs bs (λ m. h (tail_has x c xs m)) (λ m. k (tail_has y c ys m)) (same_tails e) in
    let p = same_heads e in
    let q = r.0 in
    ((λ i. p i ∷ q i), r.1)

pub has_behind : (c : ℕ) (xs zs : List ℕ) → Contains (xs ++ c ∷ zs) c
has_behind c xs zs = Contains-append_right xs (c ∷ zs) c (head_has c c zs refl)

one_last : (c : ℕ) (xs ys : List ℕ) → xs ++ c ∷ [] ≡ ys ++ c ∷ [] → xs ≡ ys
one_last c [] [] e = refl
one_last c [] (y ∷ []) e = absurd (let h = same_tails e in cc)
one_last c [] (y ∷ z ∷ ys) e = absurd (let h = same_tails e in cc)
one_last c (x ∷ []) [] e = absurd (let h = same_tails e in cc)
one_last c (x ∷ z ∷ xs) [] e = absurd (let h = same_tails e in cc)
one_last c (x ∷ xs) (y ∷ ys) e = (let p = same_heads e in let q = one_last c xs ys (same_tails e) in λ i. p i ∷ q i)

-- the bytes without a CR at their end
pub one_bare : (bytes line other : List ℕ) → IsBare bytes line → IsBare bytes other → line ≡ other
one_bare bytes line other f g = elim f [
  | inl p ↦ elim g [ inl q ↦ one_last 13 line other (sym p ∙ q) | inr q ↦ absurd (q.1 (line, p)) ]
  | inr p ↦ elim g [ inl q ↦ absurd (p.1 (other, q)) | inr q ↦ sym p.0 ∙ q.0 ]
]

-- the bytes before the first LF, and those behind it
one_split : (text bytes others after rest : List ℕ) → ¬ Contains bytes 10 → ¬ Contains others 10
    → (text ≡ bytes ++ 10 ∷ after) ⊎ ((text ≡ bytes) × (after ≡ []))
    → (text ≡ others ++ 10 ∷ rest) ⊎ ((text ≡ others) × (rest ≡ [])) → (bytes ≡ others) × (after ≡ rest)
one_split text bytes others after rest h k f g = elim f [
  | inl p ↦ elim g [
    | inl q ↦ one_cut 10 bytes others after rest h k (sym p ∙ q)
    | inr q ↦ absurd (k (subst (λ xs. Contains xs 10) (sym p ∙ q.0) (has_behind 10 bytes after)))
  ]
  | inr p ↦ elim g [
    | inl q ↦ absurd (h (subst (λ xs. Contains xs 10) (sym q ∙ p.0) (has_behind 10 others rest)))
    | inr q ↦ (sym p.0 ∙ q.0, p.1 ∙ sym q.1)
  ]
]

pub one_line : (text line other after rest : List ℕ) → IsFirstLine text line after
    → IsFirstLine text other rest → (line ≡ other) × (after ≡ rest)
one_line text line other after rest f g =
    let s = one_split text f.bytes g.bytes after rest f.first g.first f.whole g.whole in
    (one_bare f.bytes line other f.bare (subst (λ xs. IsBare xs other) (sym s.0) g.bare), s.1)

-- the lines of some bytes
pub record HasLines (bytes : List ℕ) : Type 0 where
  pub units : List (List ℕ)
  pub rest : List ℕ
  pub lines : AreLines bytes units rest

longer_line : (b : ℕ) (unit : List ℕ) → ¬ (b ≡ 10) → IsLine unit → IsLine (b ∷ unit)
longer_line b unit n l = record {
  line = b ∷ l.line;
  ends = ap (λ t. b ∷ t) l.ends;
  one = λ c. elim (has_cases b 10 l.line c) [ inl e ↦ n e | inr h ↦ l.one h ];
}

blank_line : (b : ℕ) → b ≡ 10 → IsLine (b ∷ [])
blank_line b e = record { line = []; ends = ap (λ x. x ∷ []) e; one = λ c. has_none 10 c }

-- with a line feed before them
with_feed : (b : ℕ) (bytes : List ℕ) → b ≡ 10 → HasLines bytes → HasLines (b ∷ bytes)
with_feed b bytes e h = record {
  units = (b ∷ []) ∷ h.units;
  rest = h.rest;
  lines = record {
    all = ap (λ t. b ∷ t) h.lines.all;
    lines = All-cons IsLine (b ∷ []) h.units (blank_line b e) h.lines.lines;
    unfinished = h.lines.unfinished;
  };
}

-- with another byte before them
with_other : (b : ℕ) (bytes : List ℕ) → ¬ (b ≡ 10) → (units : List (List ℕ)) (rest : List ℕ)
    → AreLines bytes units rest → HasLines (b ∷ bytes)
with_other b bytes n [] rest l = record {
  units = [];
  rest = b ∷ rest;
  lines = record {
    all = ap (λ t. b ∷ t) l.all;
    lines = All-nil IsLine;
    unfinished = λ c. elim (has_cases b 10 rest c) [ inl e ↦ n e | inr h ↦ l.unfinished h ];
  };
}
with_other b bytes n (u ∷ us) rest l = record {
  units = (b ∷ u) ∷ us;
  rest = rest;
  lines = record {
    all = ap (λ t. b ∷ t) l.all;
    lines = All-cons IsLine (b ∷ u) us (longer_line b u n (All-head IsLine u us l.lines)) (All-tail IsLine u us l.lines);
    unfinished = l.unfinished;
  };
}

-- all bytes are lines, and a rest without a line feed
pub has_lines : (bytes : List ℕ) → HasLines bytes
has_lines [] = record {
  units = [];
  rest = [];
  lines = record { all = refl; lines = All-nil IsLine; unfinished = λ c. has_none 10 c };
}
has_lines (b ∷ bytes) =
    let h = has_lines bytes in
    elim (cases_order b 10) [
      | inl e ↦ with_feed b bytes e h
      | inr o ↦ with_other b bytes (λ e. elim o [ inl l ↦ omega (arith, e, l) | inr l ↦ omega (arith, e, l) ]) h.units h.rest h.lines
    ]

-- lists of lines that give one text are one
unit_cut : (u : List ℕ) (us : List (List ℕ)) (rest : List ℕ) (h : IsLine u)
    → concat (u ∷ us) ++ rest ≡ h.line ++ 10 ∷ (concat us ++ rest)
unit_cut u us rest h = append_assoc u (concat us) rest ∙ ap (λ t. t ++ (concat us ++ rest)) h.ends ∙ append_assoc h.line (10 ∷ []) (concat us ++ rest)

no_unit : (v : List ℕ) (vs : List (List ℕ)) (rest other : List ℕ) → IsLine v → ¬ Contains rest 10
    → rest ≡ concat (v ∷ vs) ++ other → ⊥
no_unit v vs rest other h n e = n (subst (λ t. Contains t 10) (sym (e ∙ unit_cut v vs other h)) (has_behind 10 h.line (concat vs ++ other)))

same_units : (us vs : List (List ℕ)) (rest other : List ℕ) → All IsLine us → All IsLine vs
    → ¬ Contains rest 10 → ¬ Contains other 10
    → concat us ++ rest ≡ concat vs ++ other → (us ≡ vs) × (rest ≡ other)
same_units [] [] rest other a b n m e = (refl, e)
same_units [] (v ∷ vs) rest other a b n m e = absurd (no_unit v vs rest other (All-head IsLine v vs b) n e)
same_units (u ∷ us) [] rest other a b n m e = absurd (no_unit u us other rest (All-head IsLine u us a) m (sym e))
same_units (u ∷ us) (v ∷ vs) rest other a b n m e =
    let h = All-head IsLine u us a in
    let k = All-head IsLine v vs b in
    let c = one_cut 10 h.line k.line (concat us ++ rest) (concat vs ++ other) h.one k.one
    (sym (unit_cut u us rest h) ∙ e ∙ unit_cut v vs other k) in
    let r = same_units us vs rest other (All-tail IsLine u us a) (All-tail IsLine v vs b) n m c.1 in
    let p : u ≡ v = h.ends ∙ ap (λ t. t ++ 10 ∷ []) c.0 ∙ sym k.ends in
    let q = r.0 in
    ((λ i. p i ∷ q i), r.1)

-- a text has one list of lines, and one rest
pub one_lines : (text rest other : List ℕ) (us vs : List (List ℕ)) → AreLines text us rest
    → AreLines text vs other → (us ≡ vs) × (rest ≡ other)
one_lines text rest other us vs l m = same_units us vs rest other l.lines m.lines l.unfinished m.unfinished (sym l.all ∙ m.all)

-- one line more behind the first lines of a text
pub line_more : (text rest : List ℕ) (lines : List (List ℕ)) (line later : List ℕ)
    → AreFirstLines text lines rest → rest ≢ [] → IsFirstLine rest line later
    → AreFirstLines text (lines ++ line ∷ []) later
line_more text rest [] line later f n l = (subst (λ t. t ≢ []) (sym f) n, later, subst (λ t. IsFirstLine t line later) (sym f) l, refl)
line_more text rest (first ∷ lines) line later f n l = (f.0, f.1, f.2, line_more f.1 rest lines line later f.3 n l)

-- of so many lines, or as many as there are, there is one list
pub one_front : (count : ℕ) (text rest other : List ℕ) (lines others : List (List ℕ))
    → AreFirstLines text lines rest → AreFirstLines text others other
    → length lines ≤ count → length others ≤ count → (length lines < count → rest ≡ [])
    → (length others < count → other ≡ []) → (lines ≡ others) × (rest ≡ other)
one_front count text rest other [] [] f g m n p q = (refl, sym f ∙ g)
one_front count text rest other [] (k ∷ ks) f g m n p q = absurd (g.0 (f ∙ p (omega arith)))
one_front count text rest other (l ∷ ls) [] f g m n p q = absurd (f.0 (g ∙ q (omega arith)))
one_front count text rest other (l ∷ ls) (k ∷ ks) f g m n p q =
    let o = one_line text l k f.1 g.1 f.2 g.2 in
    let r = one_front (count - 1) g.1 rest other ls ks (subst (λ t. AreFirstLines t ls rest) o.1 f.3) g.3 (omega arith) (omega arith)
    (λ h. p (omega arith)) (λ h. q (omega arith)) in
    let e = o.0 in
    let t = r.0 in
    ((λ i. e i ∷ t i), r.1)
