-- Which rows are others after a step, and that they stand for the project to which it leads.
use Rattle.std.proofs.Common.{◌≡◌, ℕ, zero, suc, ◌+◌, ◌-◌, ◌≤◌, inl, inr, List, [], ◌∷◌, ◌++◌, length, get_or, take, drop, refl, sym, ap, subst, ◌∙◌, arith, length-append, length-drop, append_assoc, append-nil}
use Rattle.std.specs.Prelude.{All, Contains, Option}
use Rattle.std.proofs.lemmas.List.Elements.{All-contains, Contains-get_or}
use Rattle.plane.specs.Segments.{IsHeld}
use Rattle.sheet.specs.Pattern.{ExactCrease, ExactPattern, IsPattern}
use Rattle.creases.proofs.callers.Members.{all_of}
use Rattle.pattern.specs.NativeText.{letter, seg_text}
use Rattle.pattern.specs.Deltas.{Fits, Leads, inverse_of}
use Rattle.pattern.specs.DeltaText.{IsListing, IsDeltaText}
use Rattle.pattern.specs.declared.delta.Delta.{Delta}
use Rattle.history.specs.Histories.{ExactHistory, pushed, last_thousand, IsBack}
use Rattle.projects.specs.Projects.{ExactProject, IsProject}
use Rattle.projects.specs.Steps.{StepFits, Stepped}
use Rattle.projects.specs.declared.step.Step.TheVariants as step
use Rattle.rows.specs.Marks.{IsDone}
use Rattle.rows.specs.Rows.{ExactCreaseRow, ExactStepRow, IsRowOf, IsSheetOf, AreCreasesOf, AreStepsFrom, RowsStandFor}
use Rattle.rows.specs.Changes.{RowsExchanged, IsStepRow, RowsDone, RowsUndone, RowsRedone}
use Rattle.rows.specs.declared.project.ProjectRow.{ProjectRow}
use Rattle.rows.specs.declared.project.SheetRow.{SheetRow}
use Rattle.rows.proofs.CreaseRows.{row_of_one, held_in}
use Rattle.rows.proofs.StepRows.{steps_long, steps_push}

abbrev AllHeld : List ExactCrease → Type 0
AllHeld creases = All (λ f. IsHeld f.seg) creases

-- ---- the rows of creases
row_made : (f : ExactCrease) → (r : ExactCreaseRow) × IsRowOf r f
row_made f = (record { seg = seg_text f.seg; colour = letter f.colour ∷ [] }, record { seg_is = refl; colour_is = refl })

pub exchanged : (old new : ExactPattern) (delta : Delta) (lines now : List ExactCreaseRow) → IsPattern old → Leads old delta new → AllHeld delta.removed → AreCreasesOf lines old.creases → RowsExchanged delta lines now → AreCreasesOf now new.creases
exchanged old new delta lines now p l h a e = record {
  keys = e.keys;
  formed = all_in (λ r. (f : ExactCrease) × Contains new.creases f × IsRowOf r f) now formed;
  complete = all_of (λ (f : ExactCrease). (r : ExactCreaseRow) × Contains now r × IsRowOf r f) new.creases complete;
}
  where
    formed : (r : ExactCreaseRow) → Contains now r → (f : ExactCrease) × Contains new.creases f × IsRowOf r f
    formed r c = elim ((e.rows r).0 c) [
      | inl k ↦ (let f = All-contains (λ (s : ExactCreaseRow). (g : ExactCrease) × Contains old.creases g × IsRowOf s g) lines r a.formed k.0 in
          (f.0, (l.creases f.0).1 (inl (f.1, λ d. k.1 (f.0, d, f.2))), f.2))
      | inr k ↦ (k.0, (l.creases k.0).1 (inr k.1), k.2)
    ]

    complete : (f : ExactCrease) → Contains new.creases f → (r : ExactCreaseRow) × Contains now r × IsRowOf r f
    complete f c = elim ((l.creases f).0 c) [
      | inl s ↦ (let k = All-contains (λ (g : ExactCrease). (r : ExactCreaseRow) × Contains lines r × IsRowOf r g) old.creases f a.complete s.0 in
          (k.0, (e.rows k.0).1 (inl (k.1, λ g. s.1 (subst (Contains delta.removed) (row_of_one k.0 g.0 f (All-contains (λ (x : ExactCrease). IsHeld x.seg) delta.removed g.0 h g.1) (held_in old f p s.0) g.2 k.2) g.1))), k.2))
      | inr d ↦ (let r = row_made f in (r.0, (e.rows r.0).1 (inr (f, d, r.1)), r.1))
    ]

    all_in : (P : ExactCreaseRow → Type 0) (rows : List ExactCreaseRow) → ((r : ExactCreaseRow) → Contains rows r → P r) → All P rows
    all_in P rows k = λ i d m. k (get_or rows i d) (Contains-get_or rows i d m)

-- ---- the rows of steps
steps_front : (pos : ℕ) (rows : List ExactStepRow) (xs ys : List Delta) → AreStepsFrom pos rows (xs ++ ys) → AreStepsFrom pos (take (length xs) rows) xs
steps_front pos rows [] ys h = tt
steps_front pos [] (x ∷ xs) ys h = absurd h
steps_front pos (r ∷ rows) (x ∷ xs) ys h = (h.0, h.1, steps_front (pos + 1) rows xs ys h.2)

steps_behind : (k pos : ℕ) (rows : List ExactStepRow) (deltas : List Delta) → AreStepsFrom pos rows deltas → k ≤ length rows → AreStepsFrom (pos + k) (drop k rows) (drop k deltas)
steps_behind zero pos rows deltas h l = subst (λ n. AreStepsFrom n rows deltas) same h
  where
    same : pos ≡ pos + 0
    same = omega arith
steps_behind (suc k) pos [] deltas h l = absurd (omega (arith, l))
steps_behind (suc k) pos (r ∷ rows) [] h l = absurd h
steps_behind (suc k) pos (r ∷ rows) (d ∷ deltas) h l = subst (λ n. AreStepsFrom n (drop k rows) (drop k deltas)) same (steps_behind k (pos + 1) rows deltas h.2 (omega (arith, l)))
  where
    same : (pos + 1) + k ≡ pos + suc k
    same = omega arith

-- a delta of which a row has the text
delta_read : (pos : ℕ) (rows : List ExactStepRow) (xs : List Delta) (d : Delta) (ys : List Delta) → AreStepsFrom pos rows (xs ++ d ∷ ys) → IsListing d.removed × IsListing d.added
delta_read pos [] [] d ys h = absurd h
delta_read pos [] (x ∷ xs) d ys h = absurd h
delta_read pos (r ∷ rows) [] d ys h = (h.1.removed, h.1.added)
delta_read pos (r ∷ rows) (x ∷ xs) d ys h = delta_read (pos + 1) rows xs d ys h.2

-- ---- a delta
fits_listed : (project : ExactProject) (delta : Delta) (later : ExactPattern) → IsPattern project.pattern → Fits project.pattern delta → Leads project.pattern delta later → IsListing delta.removed × IsListing delta.added
fits_listed project delta later p f l = (
  record { held = all_of (λ (g : ExactCrease). IsHeld g.seg) delta.removed (λ g c. held_in project.pattern g p (All-contains (λ (x : ExactCrease). Contains project.pattern.creases x) delta.removed g f.there c)); ascends = f.removed_ascend },
  record { held = all_of (λ (g : ExactCrease). IsHeld g.seg) delta.added (λ g c. held_in later g l.pattern ((l.creases g).1 (inr c))); ascends = f.added_ascend },
)

-- the number of steps that are given up
pub given_up : (before after : ProjectRow) (n : ℕ) → IsDone before after → before.low + n ≡ before.mark → (before.low + (after.low - before.low) ≡ after.low) × (after.low - before.low ≡ (n + 1) - 1000)
given_up before after n d e = (omega (arith, d.low, d.mark, e), omega (arith, d.low, d.mark, e))

steps_after : (before after : ProjectRow) (old new : List ExactStepRow) (history later : ExactHistory) (delta : Delta) (at : ExactStepRow) → AreStepsFrom before.low old (history.past ++ history.future) → before.low + length history.past ≡ before.mark → IsDone before after → IsStepRow at after delta → IsDeltaText at.body delta
    → new ≡ drop (after.low - before.low) (take (before.mark - before.low) old ++ at ∷ []) → later ≡ pushed history delta → AreStepsFrom after.low new (later.past ++ later.future)
steps_after before after old new history later delta at h e d s t n m =
    let n_is : before.mark - before.low ≡ length history.past = omega (arith, e) in
    let front : AreStepsFrom before.low (take (before.mark - before.low) old) history.past = subst (λ k. AreStepsFrom before.low (take k old) history.past) (sym n_is) (steps_front before.low old history.past history.future h) in
    let long = steps_long before.low (take (before.mark - before.low) old) history.past front in
    let more = steps_push before.low (take (before.mark - before.low) old) history.past at delta front (omega (arith, s.place, d.mark, e, long)) t in
    let up = given_up before after (length history.past) d e in
    let behind = steps_behind (after.low - before.low) before.low (take (before.mark - before.low) old ++ at ∷ []) (history.past ++ delta ∷ []) more (omega (arith, up.1, long, length-append (take (before.mark - before.low) old) (at ∷ []))) in
    let last : drop (after.low - before.low) (history.past ++ delta ∷ []) ≡ later.past ++ later.future = ap (λ k. drop k (history.past ++ delta ∷ [])) (given before after history delta up.1) ∙ sym (append-nil (last_thousand (history.past ++ delta ∷ []))) ∙ ap (λ (x : ExactHistory). x.past ++ x.future) (sym m) in
    subst (λ (xs : List ExactStepRow). AreStepsFrom after.low xs (later.past ++ later.future)) (sym n) (subst (AreStepsFrom after.low (drop (after.low - before.low) (take (before.mark - before.low) old ++ at ∷ []))) last (subst (λ k. AreStepsFrom k (drop (after.low - before.low) (take (before.mark - before.low) old ++ at ∷ [])) (drop (after.low - before.low) (history.past ++ delta ∷ []))) up.0 behind))
  where
    given : (before after : ProjectRow) (history : ExactHistory) (delta : Delta) → after.low - before.low ≡ (length history.past + 1) - 1000 → after.low - before.low ≡ length (history.past ++ delta ∷ []) - 1000
    given before after history delta k = omega (arith, k, length-append history.past (delta ∷ []))

pub rows_done : (delta : Delta) (row next : ProjectRow) (sheet : Option SheetRow) (creases now : List ExactCreaseRow) (steps new : List ExactStepRow) (project later : ExactProject)
    → RowsStandFor row sheet creases steps project → StepFits project (step.Do delta) → Stepped project (step.Do delta) later → IsProject later → RowsDone delta row next creases now steps new → RowsStandFor next sheet now new later
rows_done delta row next sheet creases now steps new project later s f t w r =
    let listed = fits_listed project delta later.pattern s.whole.pattern f t.leads.pattern in
    let up = given_up row next (length project.history.past) r.row s.past in
    let long : length later.history.past ≡ (length project.history.past + 1) - (next.low - row.low) = omega (arith, ap (λ (x : ExactHistory). length x.past) t.leads.history, length-drop (length (project.history.past ++ delta ∷ []) - 1000) (project.history.past ++ delta ∷ []), length-append project.history.past (delta ∷ []), up.1) in
    let none : length later.history.future ≡ 0 = ap (λ (x : ExactHistory). length x.future) t.leads.history in
    record {
      marks = record {
        rev = omega (arith, r.row.rev, s.rev, t.rev, w.rev);
        low = omega (arith, up.0, up.1, r.row.mark, s.past);
        mark = omega (arith, r.row.high);
        kept = omega (arith, up.0, up.1, r.row.mark, r.row.high, s.past);
        high = omega (arith, r.row.high, r.row.mark, r.row.rev, s.marks.mark, s.marks.high);
      };
      rev = omega (arith, t.rev, s.rev, r.row.rev);
      sheet = subst (IsSheetOf sheet) (sym t.leads.pattern.sheet) s.sheet;
      creases = exchanged project.pattern later.pattern delta creases now s.whole.pattern t.leads.pattern listed.0.held s.creases r.creases;
      deltas = steps_after row next steps new project.history later.history delta r.step s.deltas s.past r.row r.is (record { removed = listed.0; added = listed.1; text = r.is.text }) r.steps t.leads.history;
      past = omega (arith, long, up.0, up.1, s.past, r.row.mark);
      future = omega (arith, none, r.row.high);
      whole = w;
    }

-- ---- an undo and a redo
moved : (a b : List Delta) (d : Delta) → (a ++ d ∷ []) ++ b ≡ a ++ d ∷ b
moved a b d = append_assoc a (d ∷ []) b

-- the delta between two histories is one of which a row has the text
between_read : (pos : ℕ) (steps : List ExactStepRow) (later earlier : ExactHistory) → (b : IsBack later earlier) → AreStepsFrom pos steps (later.past ++ later.future) → (IsListing b.delta.removed × IsListing b.delta.added) × AreStepsFrom pos steps (earlier.past ++ earlier.future)
between_read pos steps later earlier b h =
    let apart : AreStepsFrom pos steps (earlier.past ++ b.delta ∷ later.future) = subst (AreStepsFrom pos steps) (ap (λ xs. xs ++ later.future) b.past ∙ moved earlier.past later.future b.delta) h in
    (delta_read pos steps earlier.past b.delta later.future apart, subst (λ xs. AreStepsFrom pos steps (earlier.past ++ xs)) (sym b.future) apart)

pub rows_undone : (row next : ProjectRow) (sheet : Option SheetRow) (creases now : List ExactCreaseRow) (steps : List ExactStepRow) (project later : ExactProject)
    → RowsStandFor row sheet creases steps project → Stepped project step.Undo later → IsProject later → RowsUndone project row next creases now → RowsStandFor next sheet now steps later
rows_undone row next sheet creases now steps project later s t w r =
    let back = t.leads.back in
    let read = between_read row.low steps project.history later.history back s.deltas in
    let long : length project.history.past ≡ length later.history.past + 1 = omega (arith, ap length back.past, length-append later.history.past (back.delta ∷ [])) in
    let more : length later.history.future ≡ length project.history.future + 1 = omega (arith, ap length back.future) in
    record {
      marks = record {
        rev = omega (arith, r.row.rev, s.rev, t.rev, w.rev);
        low = omega (arith, r.row.low, r.row.mark, s.past, long);
        mark = omega (arith, r.row.mark, r.row.high, s.marks.mark);
        kept = omega (arith, r.row.low, r.row.high, s.marks.kept);
        high = omega (arith, r.row.high, r.row.rev, s.marks.high);
      };
      rev = omega (arith, t.rev, s.rev, r.row.rev);
      sheet = subst (IsSheetOf sheet) (sym t.leads.pattern.sheet) s.sheet;
      creases = exchanged project.pattern later.pattern (inverse_of back.delta) creases now s.whole.pattern t.leads.pattern read.0.1.held s.creases (r.creases back.delta (later.history.past, back.past));
      deltas = subst (λ n. AreStepsFrom n steps (later.history.past ++ later.history.future)) (sym r.row.low) read.1;
      past = omega (arith, r.row.low, r.row.mark, s.past, long);
      future = omega (arith, r.row.mark, r.row.high, s.future, more);
      whole = w;
    }

-- the deltas of two histories of which one leads back to the other are the same
forth_read : (pos : ℕ) (steps : List ExactStepRow) (later earlier : ExactHistory) → (b : IsBack later earlier) → AreStepsFrom pos steps (earlier.past ++ earlier.future) → (IsListing b.delta.removed × IsListing b.delta.added) × AreStepsFrom pos steps (later.past ++ later.future)
forth_read pos steps later earlier b h =
    let apart : AreStepsFrom pos steps (earlier.past ++ b.delta ∷ later.future) = subst (λ xs. AreStepsFrom pos steps (earlier.past ++ xs)) b.future h in
    (delta_read pos steps earlier.past b.delta later.future apart, subst (AreStepsFrom pos steps) (sym (ap (λ xs. xs ++ later.future) b.past ∙ moved earlier.past later.future b.delta)) apart)

pub rows_redone : (row next : ProjectRow) (sheet : Option SheetRow) (creases now : List ExactCreaseRow) (steps : List ExactStepRow) (project later : ExactProject)
    → RowsStandFor row sheet creases steps project → Stepped project step.Redo later → IsProject later → RowsRedone project row next creases now → RowsStandFor next sheet now steps later
rows_redone row next sheet creases now steps project later s t w r =
    let forth = t.leads.forth in
    let read = forth_read row.low steps later.history project.history forth s.deltas in
    let long : length later.history.past ≡ length project.history.past + 1 = omega (arith, ap length forth.past, length-append project.history.past (forth.delta ∷ [])) in
    let less : length project.history.future ≡ length later.history.future + 1 = omega (arith, ap length forth.future) in
    record {
      marks = record {
        rev = omega (arith, r.row.rev, s.rev, t.rev, w.rev);
        low = omega (arith, r.row.low, r.row.mark, s.marks.low);
        mark = omega (arith, r.row.mark, r.row.high, s.future, less);
        kept = omega (arith, r.row.low, r.row.high, s.marks.kept);
        high = omega (arith, r.row.high, r.row.rev, s.marks.high);
      };
      rev = omega (arith, t.rev, s.rev, r.row.rev);
      sheet = subst (IsSheetOf sheet) (sym t.leads.pattern.sheet) s.sheet;
      creases = exchanged project.pattern later.pattern forth.delta creases now s.whole.pattern t.leads.pattern read.0.0.held s.creases (r.creases forth.delta (later.history.future, forth.future));
      deltas = subst (λ n. AreStepsFrom n steps (later.history.past ++ later.history.future)) (sym r.row.low) read.1;
      past = omega (arith, r.row.low, r.row.mark, s.past, long);
      future = omega (arith, r.row.mark, r.row.high, s.future, less);
      whole = w;
    }
