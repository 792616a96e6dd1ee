-- The rows of steps, one by one, and the deltas of which they are the rows.
use Rattle.std.proofs.Common.{◌≡◌, ◌≢◌, ℕ, zero, suc, ◌+◌, ◌-◌, ◌<◌, ◌≤◌, List, [], ◌∷◌, ◌++◌, length, get_or, take, drop, refl, sym, ap, subst, ◌∙◌, arith, length-append, length-take, append_assoc, append-nil}
use Rattle.std.proofs.lemmas.List.{take_all}
use Rattle.pattern.specs.DeltaText.{IsDeltaText}
use Rattle.pattern.specs.declared.delta.Delta.{Delta}
use Rattle.pattern.proofs.callers.DeltaLines.{one_delta}
use Rattle.pattern.proofs.callers.Told.{more_taken}
use Rattle.history.specs.Histories.{ExactHistory, IsBack, last_thousand, pushed}
use Rattle.rows.specs.Marks.{AreMarks}
use Rattle.rows.specs.Rows.{ExactStepRow, AreStepsFrom}
use Rattle.rows.specs.Reading.{IsHistoryOf}
use Rattle.rows.specs.declared.project.ProjectRow.{ProjectRow}

pub steps_long : (pos : ℕ) (rows : List ExactStepRow) (deltas : List Delta) → AreStepsFrom pos rows deltas → length deltas ≡ length rows
steps_long pos [] [] h = refl
steps_long pos [] (d ∷ deltas) h = absurd h
steps_long pos (r ∷ rows) [] h = absurd h
steps_long pos (r ∷ rows) (d ∷ deltas) h = ap suc (steps_long (pos + 1) rows deltas h.2)

pub steps_push : (pos : ℕ) (rows : List ExactStepRow) (deltas : List Delta) (r : ExactStepRow) (d : Delta) → AreStepsFrom pos rows deltas → r.pos ≡ pos + length rows + 1 → IsDeltaText r.body d → AreStepsFrom pos (rows ++ r ∷ []) (deltas ++ d ∷ [])
steps_push pos [] [] r d h e t = (omega (arith, e), t, tt)
steps_push pos [] (c ∷ deltas) r d h e t = absurd h
steps_push pos (s ∷ rows) [] r d h e t = absurd h
steps_push pos (s ∷ rows) (c ∷ deltas) r d h e t = (h.0, h.1, steps_push (pos + 1) rows deltas r d h.2 (omega (arith, e)) t)

-- the row at a place has its position and the text of a delta
pub record IsStepAt (pos i : ℕ) (r : ExactStepRow) : Type 0 where
  pub place : r.pos ≡ pos + i + 1
  pub delta : Delta
  pub text : IsDeltaText r.body delta

pub step_at : (pos : ℕ) (rows : List ExactStepRow) (deltas : List Delta) (i : ℕ) (r : ExactStepRow) → AreStepsFrom pos rows deltas → i < length rows → r ≡ get_or rows i r → IsStepAt pos i r
step_at pos [] deltas i r h l e = absurd (omega (arith, l))
step_at pos (s ∷ rows) [] i r h l e = absurd h
step_at pos (s ∷ rows) (d ∷ deltas) zero r h l e = subst (IsStepAt pos zero) (sym e) (record { place = omega (arith, h.0); delta = d; text = h.1 })
step_at pos (s ∷ rows) (d ∷ deltas) (suc i) r h l e = (let k = step_at (pos + 1) rows deltas i r h.2 (omega (arith, l)) e in record { place = omega (arith, k.place); delta = k.delta; text = k.text })

-- ---- the rows are those of one list of deltas
pub same_deltas : (pos : ℕ) (rows : List ExactStepRow) (one other : List Delta) → AreStepsFrom pos rows one → AreStepsFrom pos rows other → one ≡ other
same_deltas pos [] [] [] h k = refl
same_deltas pos [] (d ∷ one) other h k = absurd h
same_deltas pos [] [] (c ∷ other) h k = absurd k
same_deltas pos (r ∷ rows) [] other h k = absurd h
same_deltas pos (r ∷ rows) (d ∷ one) [] h k = absurd k
same_deltas pos (r ∷ rows) (d ∷ one) (c ∷ other) h k = (let e = one_delta r.body d c h.1 k.1 in let f = same_deltas (pos + 1) rows one other h.2 k.2 in λ i. e i ∷ f i)

-- lists that are as long are divided in one way
divided : {X : Type 0} (a b c d : List X) → length a ≡ length c → a ++ b ≡ c ++ d → (a ≡ c) × (b ≡ d)
divided [] b [] d l e = (refl, e)
divided [] b (y ∷ c) d l e = absurd (omega (arith, l))
divided (x ∷ a) b [] d l e = absurd (omega (arith, l))
divided (x ∷ a) b (y ∷ c) d l e = (let k = divided a b c d (omega (arith, l)) (ap (drop 1) e) in (λ i. ap (λ t. get_or t 0 x) e i ∷ k.0 i, k.1))

pub same_history : (row : ProjectRow) (steps : List ExactStepRow) (one other : ExactHistory) → IsHistoryOf row steps one → IsHistoryOf row steps other → one ≡ other
same_history row steps one other a b =
    let same = divided one.past one.future other.past other.future (omega (arith, a.past, b.past)) (same_deltas row.low steps (one.past ++ one.future) (other.past ++ other.future) a.deltas b.deltas) in
    λ i. record { past = same.0 i; future = same.1 i }

-- ---- one step more
few_kept : (deltas : List Delta) → length deltas ≤ 1000 → last_thousand deltas ≡ deltas
few_kept deltas l = ap (λ n. drop n deltas) none
  where
    none : length deltas - 1000 ≡ 0
    none = omega (arith, l)

pub record AreTaken (low : ℕ) (steps : List ExactStepRow) (pos i : ℕ) (history : ExactHistory) : Type 0 where
  pub place : pos ≡ low + i
  pub future : history.future ≡ []
  pub past : AreStepsFrom low (take i steps) history.past

pub taken_next : (low : ℕ) (steps : List ExactStepRow) (pos i : ℕ) (history now : ExactHistory) (r : ExactStepRow) (d : Delta) → i < length steps → r ≡ get_or steps i r → length steps ≤ 1000 → AreTaken low steps pos i history → r.pos ≡ pos + 1 → IsDeltaText r.body d → now ≡ pushed history d → AreTaken low steps (pos + 1) (i + 1) now
taken_next low steps pos i history now r d l e few t p b m = record {
  place = omega (arith, t.place);
  future = ap (λ (h : ExactHistory). h.future) m;
  past = subst (AreStepsFrom low (take (i + 1) steps)) (sym (ap (λ (h : ExactHistory). h.past) m ∙ few_kept (history.past ++ d ∷ []) (omega (arith, l, few, long, length-append history.past (d ∷ [])))))
      (subst (λ (xs : List ExactStepRow). AreStepsFrom low xs (history.past ++ d ∷ [])) (more_taken steps i r l e) (steps_push low (take i steps) history.past r d t.past (omega (arith, p, t.place, short)) b));
}
  where
    short : length (take i steps) ≡ i
    short = omega (arith, length-take i steps, l)

    long : length history.past ≡ i
    long = omega (arith, steps_long low (take i steps) history.past t.past, short)

pub not_there : (low : ℕ) (steps : List ExactStepRow) (pos i : ℕ) (history : ExactHistory) (r : ExactStepRow) (deltas : List Delta) → i < length steps → r ≡ get_or steps i r → AreTaken low steps pos i history → r.pos ≢ pos + 1 → ¬ AreStepsFrom low steps deltas
not_there low steps pos i history r deltas l e t n h = n (omega (arith, (step_at low steps deltas i r h l e).place, t.place))

pub no_delta : (low : ℕ) (steps : List ExactStepRow) (i : ℕ) (r : ExactStepRow) (deltas : List Delta) → i < length steps → r ≡ get_or steps i r → ((d : Delta) → ¬ IsDeltaText r.body d) → ¬ AreStepsFrom low steps deltas
no_delta low steps i r deltas l e n h = (let k = step_at low steps deltas i r h l e in n k.delta k.text)

pub all_taken : (low : ℕ) (steps : List ExactStepRow) (pos i : ℕ) (history : ExactHistory) → length steps ≤ i → AreTaken low steps pos i history → (history.future ≡ []) × AreStepsFrom low steps history.past
all_taken low steps pos i history l t = (t.future, subst (λ (xs : List ExactStepRow). AreStepsFrom low xs history.past) (take_all i steps l) t.past)

-- ---- some taken back
pub record AreBack (old : ExactHistory) (i : ℕ) (now : ExactHistory) : Type 0 where
  pub whole : now.past ++ now.future ≡ old.past ++ old.future
  pub count : length now.future ≡ length old.future + i
  pub past : length now.past + i ≡ length old.past

pub back_none : (old : ExactHistory) → AreBack old 0 old
back_none old = record { whole = refl; count = omega arith; past = omega arith }

pub history_made : (row : ProjectRow) (steps : List ExactStepRow) (all now : ExactHistory) → AreMarks row → length steps ≡ row.high - row.low → all.future ≡ [] → AreStepsFrom row.low steps all.past → now.past ++ now.future ≡ all.past ++ all.future → length now.future ≡ length all.future + (row.high - row.mark) → IsHistoryOf row steps now
history_made row steps all now m l f a w c = record {
  deltas = subst (AreStepsFrom row.low steps) (sym same) a;
  past = omega (arith, long, c, ap length f, l, m.low, m.mark);
  future = omega (arith, c, ap length f, m.mark);
}
  where
    same : now.past ++ now.future ≡ all.past
    same = w ∙ ap (λ xs. all.past ++ xs) f ∙ append-nil all.past

    long : length now.past + length now.future ≡ length steps
    long = omega (arith, length-append now.past now.future, ap length same, steps_long row.low steps all.past a)

pub history_long : (row : ProjectRow) (steps : List ExactStepRow) (history : ExactHistory) → IsHistoryOf row steps history → length steps ≡ row.high - row.low
history_long row steps history h = omega (arith, steps_long row.low steps (history.past ++ history.future) h.deltas, length-append history.past history.future, h.past, h.future)
