-- Room for 5,462 fields is enough for 16,384 bytes: a line of a field has at least three.
use Rattle.std.proofs.Common.{◌≡◌, ◌∙◌, ◌≤◌, ◌<◌, ◌+◌, ◌*◌, ◌++◌, ℕ, List, [], ◌∷◌, length, refl, ap, arith, rules, lit≤}
use Rattle.std.specs.List.{flat_map, AllByRecursion}
use Rattle.std.proofs.lemmas.List.{length-append}
use Rattle.std.proofs.lemmas.List.Concat.{flat_map-cons}
use Rattle.std.proofs.lemmas.List.Elements.{recursion_from_All}
use Rattle.httparse.specs.Ascii.{colon}
use Rattle.httparse.specs.Grammar.{Field, IsField, LineEnd, crlf, lf, print_end, print_field, print_request, print_section}
use Rattle.httparse.specs.Spans.{RequestExceeds}

one_end : (e : LineEnd) → 1 ≤ length (print_end e)
one_end crlf = lit≤ tt
one_end lf = lit≤ tt

longer : (a b : List ℕ) → length b ≤ length (a ++ b)
longer a b = let e = length-append a b in omega (arith, e)

shorter : (a b : List ℕ) → length a ≤ length (a ++ b)
shorter a b = let e = length-append a b in omega (arith, e)

three : (f : Field) → IsField f → 3 ≤ length (print_field f)
three f is =
    let all = length-append (f.name ++ colon ∷ f.raw) (print_end f.end) in
    let front = length-append f.name (colon ∷ f.raw) in
    let name : 0 < length f.name = is.name.0 in
    let end = one_end f.end in
    let raw : 1 ≤ length (colon ∷ f.raw) = search rules in
    omega (arith, all, front, name, end, raw)

fields_long : (fs : List Field) → AllByRecursion IsField fs → 3 * length fs ≤ length (flat_map print_field fs)
fields_long [] all = lit≤ tt
fields_long (f ∷ fs) all =
    let here = three f all.0 in
    let more = fields_long fs all.1 in
    let e = ap length (flat_map-cons print_field f fs) ∙ length-append (print_field f) (flat_map print_field fs) in
    let n : length (f ∷ fs) ≡ length fs + 1 = search rules in
    omega (arith, here, more, e, n)

pub fits : (buf : List ℕ) → length buf ≤ 16384 → RequestExceeds 5462 buf → ⊥
unfolding print_request
fits buf short x =
    let front = x.0 in
    let h = x.3 in
    let reads = x.4 in
    let fields = fields_long h.fields (recursion_from_All IsField h.fields reads.0.fields) in
    let section : length (flat_map print_field h.fields) ≤ length (print_section h.fields h.last) = shorter (flat_map print_field h.fields) (print_end h.last) in
    let whole : length (print_section h.fields h.last) ≤ length (print_request h) = longer _ (print_section h.fields h.last) in
    let text = ap length reads.1 in
    let left = length-append front (print_end lf) in
    let right = length-append (print_request h) [] in
    let all = ap length x.2 ∙ length-append front x.1 in
    let few = x.5 in
    let last : length (print_end lf) ≡ 1 = refl in
    let none : length {A = ℕ} [] ≡ 0 = refl in
    omega (arith, short, fields, section, whole, text, left, right, all, few, last, none)
