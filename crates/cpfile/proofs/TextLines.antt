-- The lines of a text: there is one list of them, and some list.
use Rattle.std.proofs.Common.{◌≡◌, ◌≢◌, ℕ, zero, suc, ◌<◌, ◌≤◌, List, [], ◌∷◌, ◌++◌, length, refl, sym, subst, ap, ap₂, ◌⊎◌, inl, inr, arith, length-append}
use Rattle.std.specs.Prelude.{Contains}
use Rattle.std.proofs.lemmas.Bool.{cases_order}
use Rattle.lines.specs.Lines.{IsFirstLine, IsBare, EndsInReturn}
use Rattle.lines.proofs.callers.Lines.{one_line}
use Rattle.chains.proofs.callers.Elements.{has_cases, has_none, same_heads, same_tails}
use Rattle.cpfile.specs.CpDrawing.{AreTextLines}

-- each text has a first line
record IsCut (text bytes after : List ℕ) : Type 0 where
  first : ¬ Contains bytes 10
  whole : (text ≡ bytes ++ 10 ∷ after) ⊎ ((text ≡ bytes) × (after ≡ []))

ten_or_not : (b : ℕ) → (b ≡ 10) ⊎ (b ≢ 10)
ten_or_not b = elim (cases_order b 10) [
  | inl e ↦ inl e
  | inr o ↦ inr (λ e. elim o [ inl l ↦ omega arith | inr g ↦ omega arith ])
]

longer : (b : ℕ) (text bytes after : List ℕ) → b ≢ 10 → IsCut text bytes after → IsCut (b ∷ text) (b ∷ bytes) after
longer b text bytes after n c = record {
  first = λ h. elim (has_cases b 10 bytes h) [ inl e ↦ n e | inr k ↦ c.first k ];
  whole = elim c.whole [ inl e ↦ inl (ap (λ t. b ∷ t) e) | inr e ↦ inr (ap (λ t. b ∷ t) e.0, e.1) ];
}

some_cut : (text : List ℕ) → (bytes after : List ℕ) × IsCut text bytes after
some_cut [] = ([], [], record { first = λ h. has_none 10 h; whole = inr (refl, refl) })
some_cut (b ∷ text) =
    let c = some_cut text in
    elim (ten_or_not b) [
      | inl e ↦ ([], text, record { first = λ h. has_none 10 h; whole = inl (ap (λ x. x ∷ text) e) })
      | inr n ↦ (b ∷ c.0, c.1, longer b text c.0 c.1 n c.2)
    ]

thirteen_or_not : (b : ℕ) → (b ≡ 13) ⊎ (b ≢ 13)
thirteen_or_not b = elim (cases_order b 13) [
  | inl e ↦ inl e
  | inr o ↦ inr (λ e. elim o [ inl l ↦ omega arith | inr g ↦ omega arith ])
]

no_return : (b : ℕ) (front : List ℕ) → b ≢ 13 → b ∷ [] ≡ front ++ 13 ∷ [] → ⊥
no_return b [] n e = n (same_heads e)
no_return b (c ∷ []) n e = absurd (let g = same_tails e in cc)
no_return b (c ∷ d ∷ front) n e = absurd (let g = same_tails e in cc)

ends_behind : (b c : ℕ) (bs front : List ℕ) → b ∷ c ∷ bs ≡ front ++ 13 ∷ [] → EndsInReturn (c ∷ bs)
ends_behind b c bs [] e = absurd (let g = same_tails e in cc)
ends_behind b c bs (d ∷ front) e = (front, same_tails e)

some_bare : (bytes : List ℕ) → (line : List ℕ) × IsBare bytes line
some_bare [] = ([], inr (refl, λ h. told h.0 h.1))
  where
    told : (front : List ℕ) → [] ≡ front ++ 13 ∷ [] → ⊥
    told [] e = absurd (cc)
    told (b ∷ front) e = absurd (cc)
some_bare (b ∷ []) = elim (thirteen_or_not b) [
  | inl e ↦ ([], inl (ap (λ x. x ∷ []) e))
  | inr n ↦ (b ∷ [], inr (refl, λ h. no_return b h.0 n h.1))
]
some_bare (b ∷ c ∷ bs) =
    let r = some_bare (c ∷ bs) in (
      b ∷ r.0,
      elim r.1 [
        | inl e ↦ inl (ap (λ t. b ∷ t) e)
        | inr e ↦ inr (ap (λ t. b ∷ t) e.0, λ h. e.1 (ends_behind b c bs h.0 h.1))
      ],
    )

some_first : (text : List ℕ) → (line after : List ℕ) × IsFirstLine text line after
some_first text =
    let c = some_cut text in
    let b = some_bare c.0 in
    (b.0, c.1, record { bytes = c.0; first = c.2.first; whole = c.2.whole; bare = b.1 })

-- the first line and the bytes behind it are shorter than a text with bytes
pub behind_shorter : (text line after : List ℕ) → text ≢ [] → IsFirstLine text line after → length after < length text
behind_shorter text line after some f = told f.whole
  where
    told : (text ≡ f.bytes ++ 10 ∷ after) ⊎ ((text ≡ f.bytes) × (after ≡ [])) → length after < length text
    told (inl e) = (let n = ap length e in let m = length-append f.bytes (10 ∷ after) in omega arith)
    told (inr e) = rw e.1 (by_text text some)
      where
        by_text : (text : List ℕ) → text ≢ [] → 0 < length text
        by_text [] n = absurd (n refl)
        by_text (b ∷ bytes) n = omega arith

pub one_lines : (text : List ℕ) (lines others : List (List ℕ)) → AreTextLines text lines → AreTextLines text others → lines ≡ others
one_lines text [] [] h k = refl
one_lines text [] (o ∷ others) h k = absurd (k.0 h)
one_lines text (l ∷ lines) [] h k = absurd (h.0 k)
one_lines text (l ∷ lines) (o ∷ others) h k =
    let f = one_line text l o h.1.0 k.1.0 h.1.1 k.1.1 in
    ap₂ (λ x xs. x ∷ xs) f.0 (one_lines h.1.0 lines others h.1.2 (subst (λ t. AreTextLines t others) (sym f.1) k.1.2))

some_by : (fuel : ℕ) (text : List ℕ) → length text ≤ fuel → (lines : List (List ℕ)) × AreTextLines text lines
some_by fuel [] l = ([], refl)
some_by zero (b ∷ text) l = absurd (omega arith)
some_by (suc fuel) (b ∷ text) l =
    let n : b ∷ text ≢ [] = λ e. absurd (cc) in
    let f = some_first (b ∷ text) in
    let s = behind_shorter (b ∷ text) f.0 f.1 n f.2 in
    let r = some_by fuel f.1 (omega arith) in
    (f.0 ∷ r.0, (n, (f.1, f.2, r.1)))

pub some_lines : (text : List ℕ) → (lines : List (List ℕ)) × AreTextLines text lines
some_lines text = some_by (length text) text (omega arith)
