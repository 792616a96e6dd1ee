-- A text that is read line by line.
use Rattle.std.proofs.Common.{◌≡◌, ◌≢◌, ℕ, ◌+◌, List, [], ◌∷◌, ◌++◌, length, refl, sym, subst, ap, ◌∙◌, arith}
use Rattle.std.specs.Prelude.{Ok, Err}
use Rattle.std.proofs.lemmas.List.{append-nil, length_push}
use Rattle.std.proofs.lemmas.List.Elements.{All-nil, All-push}
use Rattle.sheet.specs.Pattern.{ExactCrease}
use Rattle.lines.specs.Lines.{IsFirstLine}
use Rattle.ports.specs.declared.stop.Stop.{Stop}
use Rattle.ports.specs.declared.stop.Stop.TheVariants as stop
use Rattle.ports.specs.Stops.{Answers}
use Rattle.cpfile.specs.CpDrawing.{AreTextLines, DrawsLine}
use Rattle.cpfile.specs.CpReading.{DrawnLine, IsDrawn, lines_of, creases_of, dropped_of, creases_by, dropped_by, AreDrawn, ReadsCp}
use Rattle.cpfile.specs.CpAxes.{Ruled}
use Rattle.cpfile.specs.CpSteps.{Tally, with_line, tally_of, IsReadUpTo, stop_at}
use Rattle.cpfile.specs.declared.bad.CpWhy.{CpWhy}
use Rattle.cpfile.specs.declared.drawn.CpLines.{CpLines}
use Rattle.cpfile.specs.declared.line.Drawn.{Drawn}
use Rattle.cpfile.specs.declared.line.Drawn.TheVariants as drawn
use Rattle.cpfile.proofs.TextLines.{behind_shorter, some_lines}

-- nothing is read at first
pub begun : (r : Ruled) (bytes : List ℕ) → IsReadUpTo r bytes bytes (record { creases = []; dropped = 0; lines = 0 })
begun r bytes = record { all = []; lines = λ later k. k; drawn = All-nil (IsDrawn r.lattice r.sheet); tally = refl; few = omega arith }

-- one line more
lines_push : (all : List DrawnLine) (d : DrawnLine) (later : List (List ℕ)) → lines_of (all ++ d ∷ []) ++ later ≡ lines_of all ++ d.line ∷ later
lines_push [] d later = refl
lines_push (x ∷ all) d later = ap (λ xs. x.line ∷ xs) (lines_push all d later)

creases_first : (x : Drawn) (cs : List ExactCrease) (d : Drawn) → creases_by x (cs ++ creases_by d []) ≡ creases_by x cs ++ creases_by d []
creases_first drawn.Nothing cs d = refl
creases_first drawn.Dropped cs d = refl
creases_first (drawn.Line f) cs d = refl

creases_push : (all : List DrawnLine) (d : DrawnLine) → creases_of (all ++ d ∷ []) ≡ creases_of all ++ creases_by d.drawn []
creases_push [] d = refl
creases_push (x ∷ all) d = ap (creases_by x.drawn) (creases_push all d) ∙ creases_first x.drawn (creases_of all) d.drawn

dropped_first : (x : Drawn) (n : ℕ) (d : Drawn) → dropped_by x (n + dropped_by d 0) ≡ dropped_by x n + dropped_by d 0
dropped_first drawn.Nothing n d = refl
dropped_first drawn.Dropped n d = omega arith
dropped_first (drawn.Line f) n d = refl

dropped_push : (all : List DrawnLine) (d : DrawnLine) → dropped_of (all ++ d ∷ []) ≡ dropped_of all + dropped_by d.drawn 0
dropped_push [] d = omega arith
dropped_push (x ∷ all) d = ap (dropped_by x.drawn) (dropped_push all d) ∙ dropped_first x.drawn (dropped_of all) d.drawn

with_is : (d : Drawn) (t : Tally) → with_line d t ≡ record { creases = t.creases ++ creases_by d []; dropped = t.dropped + dropped_by d 0; lines = t.lines + 1 }
with_is drawn.Nothing t = (let a = append-nil t.creases in let b : t.dropped + 0 ≡ t.dropped = omega arith in λ i. record { creases = sym a i; dropped = sym b i; lines = t.lines + 1 })
with_is drawn.Dropped t = (let a = append-nil t.creases in let b : t.dropped + 1 ≡ t.dropped + (0 + 1) = omega arith in λ i. record { creases = sym a i; dropped = b i; lines = t.lines + 1 })
with_is (drawn.Line f) t = (let b : t.dropped + 0 ≡ t.dropped = omega arith in λ i. record { creases = t.creases ++ f ∷ []; dropped = sym b i; lines = t.lines + 1 })

tally_push : (all : List DrawnLine) (d : DrawnLine) → with_line d.drawn (tally_of all) ≡ tally_of (all ++ d ∷ [])
tally_push all d =
    let a = creases_push all d in
    let b = dropped_push all d in
    let n : length all + 1 ≡ length (all ++ d ∷ []) = omega (arith, length_push all d) in
    with_is d.drawn (tally_of all) ∙ (λ i. record { creases = sym a i; dropped = sym b i; lines = n i })

lines_more : (d : Drawn) (t : Tally) → (with_line d t).lines ≡ t.lines + 1
lines_more drawn.Nothing t = refl
lines_more drawn.Dropped t = refl
lines_more (drawn.Line f) t = refl

pub read_more : (r : Ruled) (bytes rest line after : List ℕ) (t : Tally) (d : Drawn) → rest ≢ [] → IsFirstLine rest line after → DrawsLine r.lattice r.sheet line (Ok d)
    → IsReadUpTo r bytes rest t → IsReadUpTo r bytes after (with_line d t)
read_more r bytes rest line after t d n f k h =
    let x : DrawnLine = record { line = line; drawn = d } in
    let s = behind_shorter rest line after n f in
    let w = h.few in
    let m = lines_more d t in
    record {
      all = h.all ++ x ∷ [];
      lines = λ later a. subst (AreTextLines bytes) (sym (lines_push h.all x later)) (h.lines (line ∷ later) (n, (after, f, a)));
      drawn = All-push (IsDrawn r.lattice r.sheet) h.all x h.drawn k;
      tally = ap (with_line d) h.tally ∙ tally_push h.all x;
      few = omega arith;
    }

-- the text ends
pub read_all : (r : Ruled) (bytes rest : List ℕ) (t : Tally) (read : CpLines) → rest ≡ [] → read.lines ≡ t.creases → read.dropped ≡ t.dropped → IsReadUpTo r bytes rest t → AreDrawn r.lattice r.sheet bytes read
read_all r bytes rest t read e c d h = record {
  all = h.all;
  lines = subst (AreTextLines bytes) (append-nil (lines_of h.all)) (h.lines [] e);
  drawn = h.drawn;
  creases = c ∙ ap (λ (s : Tally). s.creases) h.tally;
  dropped = d ∙ ap (λ (s : Tally). s.dropped) h.tally;
}

-- a line is bad
pub read_bad : (r : Ruled) (bytes rest line after : List ℕ) (t : Tally) (number : ℕ) (s : Stop CpWhy) → rest ≢ [] → IsFirstLine rest line after → Answers (DrawsLine r.lattice r.sheet line) (Err s) → number ≡ t.lines + 1
    → IsReadUpTo r bytes rest t → Answers (ReadsCp r.lattice r.sheet bytes) (Err (stop_at number s))
read_bad r bytes rest line after t number stop.NoMemory n f k e h = tt
read_bad r bytes rest line after t number (stop.Why w) n f k e h =
    let a = some_lines after in
    record {
      before = h.all;
      line = line;
      after = a.0;
      lines = h.lines (line ∷ a.0) (n, (after, f, a.1));
      drawn = h.drawn;
      number = e ∙ ap (λ (s : Tally). s.lines + 1) h.tally;
      why = k;
    }
