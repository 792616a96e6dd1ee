-- The first line of native text is that of one sheet.
use Rattle.std.proofs.Common.{◌≡◌, ◌≢◌, ℕ, zero, suc, ◌+◌, List, [], ◌∷◌, ◌++◌, get_or, drop, refl, sym, ap, ◌∙◌, ◌⊎◌, inl, inr, arith}
use Rattle.std.proofs.lemmas.List.{append_cancel_left}
use Rattle.sheet.specs.Sheet.{ExactSheet, square}
use Rattle.sheet.proofs.callers.Sheets.{same_sheet}
use Rattle.pattern.specs.NativeText.{square_line, other_start, header_of, header}
use Rattle.pattern.specs.NativeReading.{HasNoHeader}
use Rattle.pattern.specs.NativeHeader.{AreDigits}

abbrev pub other_line : ℕ → ℕ → List ℕ
other_line w h = other_start ++ (48 + w) ∷ 32 ∷ (48 + h) ∷ 10 ∷ []

line_of : (w h : ℕ) → ((w ≡ 1) × (h ≡ 1)) ⊎ ((((w ≡ 1) × (h ≡ 1)) → ⊥) × (header_of w h ≡ other_line w h))
line_of zero h = inr (λ e. omega (arith, e.0), refl)
line_of (suc zero) zero = inr (λ e. omega (arith, e.1), refl)
line_of (suc zero) (suc zero) = inl (refl, refl)
line_of (suc zero) (suc (suc h)) = inr (λ e. omega (arith, e.1), refl)
line_of (suc (suc w)) h = inr (λ e. omega (arith, e.0), refl)

-- the line of the square, or of another sheet
pub header_is : (sheet : ExactSheet) → ((sheet ≡ square) × (header sheet ≡ square_line)) ⊎ ((¬ (sheet ≡ square)) × (header sheet ≡ other_line sheet.w sheet.h))
header_is sheet = elim (line_of sheet.w sheet.h) [
  | inl e ↦ (let same = same_sheet sheet square e.0 e.1 in inl (same, ap header same))
  | inr e ↦ inr (λ s. e.0 (ap (λ (x : ExactSheet). x.w) s, ap (λ (x : ExactSheet). x.h) s), e.1)
]

two_lines : (w h : ℕ) (a b : List ℕ) → square_line ++ a ≢ other_line w h ++ b
two_lines w h a b e = (let third : 49 ≡ 50 = ap (λ t. get_or t 3 0) e in omega (arith, third))

-- of two lines at the front of one list
pub one_header : (sheet other : ExactSheet) (a b : List ℕ) → header sheet ++ a ≡ header other ++ b → (sheet ≡ other) × (a ≡ b)
one_header sheet other a b e = elim (header_is sheet) [
  | inl s ↦ elim (header_is other) [
    | inl t ↦ (s.0 ∙ sym t.0, append_cancel_left square_line a b (sym (ap (λ x. x ++ a) s.1) ∙ e ∙ ap (λ x. x ++ b) t.1))
    | inr t ↦ absurd (two_lines other.w other.h a b (sym (ap (λ x. x ++ a) s.1) ∙ e ∙ ap (λ x. x ++ b) t.1))
  ]
  | inr s ↦ elim (header_is other) [
    | inl t ↦ absurd (two_lines sheet.w sheet.h b a (sym (ap (λ x. x ++ b) t.1) ∙ sym e ∙ ap (λ x. x ++ a) s.1))
    | inr t ↦ both (sym (ap (λ x. x ++ a) s.1) ∙ e ∙ ap (λ x. x ++ b) t.1)
  ]
]
  where
    both : other_line sheet.w sheet.h ++ a ≡ other_line other.w other.h ++ b → (sheet ≡ other) × (a ≡ b)
    both f =
        let wide : 48 + sheet.w ≡ 48 + other.w = ap (λ t. get_or t 5 0) f in
        let high : 48 + sheet.h ≡ 48 + other.h = ap (λ t. get_or t 7 0) f in
        (same_sheet sheet other (omega (arith, wide)) (omega (arith, high)), ap (drop 9) f)

-- another sheet's line begins as such a line does, with its digits
other_begins : (bytes rest : List ℕ) (sheet : ExactSheet) → ((rest : List ℕ) → bytes ≢ square_line ++ rest) → bytes ≡ header sheet ++ rest → (¬ (sheet ≡ square)) × (bytes ≡ other_line sheet.w sheet.h ++ rest)
other_begins bytes rest sheet n e = elim (header_is sheet) [ inl s ↦ absurd (n rest (e ∙ ap (λ t. t ++ rest) s.1)) | inr s ↦ (s.0, e ∙ ap (λ t. t ++ rest) s.1) ]

behind_start : (bytes behind rest : List ℕ) (sheet : ExactSheet) → ((rest : List ℕ) → bytes ≢ square_line ++ rest) → bytes ≡ other_start ++ behind → bytes ≡ header sheet ++ rest → behind ≡ (48 + sheet.w) ∷ 32 ∷ (48 + sheet.h) ∷ 10 ∷ rest
behind_start bytes behind rest sheet n b e = sym (ap (drop 5) b) ∙ ap (drop 5) (other_begins bytes rest sheet n e).1

pub no_digits : (bytes behind : List ℕ) → ((rest : List ℕ) → bytes ≢ square_line ++ rest) → bytes ≡ other_start ++ behind → ((w h : ℕ) (more : List ℕ) → behind ≢ w ∷ 32 ∷ h ∷ 10 ∷ more) → HasNoHeader bytes
no_digits bytes behind n b m sheet s rest e = m (48 + sheet.w) (48 + sheet.h) rest (behind_start bytes behind rest sheet n b e)

pub no_sheet : (bytes behind : List ℕ) (w h : ℕ) → ((rest : List ℕ) → bytes ≢ square_line ++ rest) → bytes ≡ other_start ++ behind → behind ≡ w ∷ 32 ∷ h ∷ 10 ∷ drop 4 behind → ((sheet : ExactSheet) → ¬ AreDigits w h sheet) → HasNoHeader bytes
no_sheet bytes behind w h n b d m sheet s rest e =
    let f = behind_start bytes behind rest sheet n b e in
    let g : (48 + sheet.w) ∷ 32 ∷ (48 + sheet.h) ∷ 10 ∷ rest ≡ w ∷ 32 ∷ h ∷ 10 ∷ drop 4 behind = sym f ∙ d in
    m sheet (record { sheet_is = s; wide = ap (λ t. get_or t 0 0) g; high = ap (λ t. get_or t 2 0) g; other = (other_begins bytes rest sheet n e).0 })
