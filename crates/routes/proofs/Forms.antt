-- A path that the table matches has the form of its page, and a path that has the form of a page is matched.
use Rattle.std.proofs.Common.{◌≡◌, ◌∙◌, ◌++◌, ℕ, refl, sym, ap, subst, codes, List, [], ◌∷◌, Option, Some, None, get_or, map, arith, inl, inr, ◌⊎◌, unwrap_or, append-nil}
use Rattle.std.proofs.lemmas.Option.{same_Some}
use Rattle.std.proofs.Math.ListN.{get_or-map}
use Rattle.matchit.specs.Rows.{Rows, prepend}
use Rattle.matchit.specs.Level.{IsText}
use Rattle.matchit.specs.Seek.{seek, first, or_else, param_step}
use Rattle.matchit.specs.Router.{RouteOf, rename, map_key}
use Rattle.matchit.proofs.RenameLemmas.{first-rename}
use Rattle.matchit.proofs.OnLiterals.{matchit_on_literals}
use Rattle.routes.specs.Table.{table}
use Rattle.routes.specs.Routes.{IsPart, project_path}
use Rattle.routes.specs.Forms.{IsNamed, HasForm}
use Rattle.routes.specs.declared.page.Page.{Page}
use Rattle.routes.specs.declared.page.Page.TheVariants.{Projects, Project, Faults, Pattern, Cp, Fold, Vertex, Edits, Sheet}
use Rattle.routes.proofs.Cuts.{part_slashless}
use Rattle.routes.proofs.Walk.{leaf, part_rows, either, after_prefix, with_prefix, ended, word_is, split, taken, taken_last, last_part, part_alone, part_followed, text_after}

abbrev Text : Type 0
Text = List ℕ

-- the table's rows, with numbers for the routes
abbrev height_rows : Rows
height_rows = prepend (256 ∷ []) (leaf 5)

abbrev sheet_rows : Rows
sheet_rows = part_rows height_rows None

abbrev f_rows : Rows
f_rows = prepend (codes "aults") (leaf 2) ++ prepend (codes "old") (leaf 3)

abbrev from_sheet : Rows
from_sheet = prepend (codes "sheet/") sheet_rows ++ prepend (codes "vertex") (leaf 6)

abbrev from_pattern : Rows
from_pattern = prepend (codes "pattern") (leaf 4) ++ from_sheet

abbrev from_f : Rows
from_f = prepend (codes "f") f_rows ++ from_pattern

abbrev from_edits : Rows
from_edits = prepend (codes "edits") (leaf 1) ++ from_f

abbrev word_rows : Rows
word_rows = prepend (codes "cp") (leaf 0) ++ from_edits

abbrev name_rows : Rows
name_rows = part_rows word_rows (Some 7)

abbrev end_rows : Rows
end_rows = prepend (codes "/") name_rows ++ leaf 8

abbrev all_rows : Rows
all_rows = prepend (codes "/projects") end_rows

abbrev pages : List Page
pages = Cp ∷ Edits ∷ Faults ∷ Fold ∷ Pattern ∷ Sheet ∷ Vertex ∷ Project ∷ Projects ∷ []

abbrev page_at : ℕ → Page
page_at k = get_or pages k Projects

-- one of the words after the name
word_form : (path name tail w : Text) → IsPart name → path ≡ codes "/projects/" ++ (name ++ (47 ∷ tail)) → tail ≡ w → IsNamed (47 ∷ w) path
word_form path name tail w part is e = record { name = name; part = part; whole = is ∙ ap (λ t. codes "/projects/" ++ (name ++ (47 ∷ t))) e }

words_form : (path name tail : Text) (k : ℕ) → IsText tail → IsPart name → path ≡ codes "/projects/" ++ (name ++ (47 ∷ tail)) → first word_rows tail ≡ Some k → HasForm (page_at k) path
words_form path name tail k text part is h = cp (either _ _ k (sym (split 99 (codes "p") (leaf 0) from_edits (omega arith) refl refl refl tail) ∙ h)) where
  at : (j : ℕ) → HasForm (page_at j) path → j ≡ k → HasForm (page_at k) path
  at j f e = subst (λ i. HasForm (page_at i) path) e f

  word : (w : Text) (j : ℕ) → IsText w → (IsNamed (47 ∷ w) path → HasForm (page_at j) path) → first (prepend w (leaf j)) tail ≡ Some k → HasForm (page_at k) path
  word w j small form g = let x = word_is w j tail k small g in at j (form (word_form path name tail w part is x.0)) x.1

  sheet : first (prepend (codes "sheet/") sheet_rows) tail ≡ Some k → HasForm (page_at k) path
  sheet g =
      let a = after_prefix (codes "sheet/") sheet_rows tail k (omega arith, (omega arith, (omega arith, (omega arith, (omega arith, (omega arith, tt)))))) g in
      let text1 : IsText a.0 = text_after (codes "sheet/") a.0 (subst IsText a.1 text) in
      elim (taken height_rows None a.0 k (omega arith) text1 a.2) [
        | inl x ↦ absurd (let e = x.1 in cc)
        | inr x ↦
            let w = x.0 in
            let t = x.1 in
            let text2 : IsText t = (text_after w (47 ∷ t) (subst IsText x.3 text1)).1 in
            let y = taken_last 5 t k text2 x.4 in
            at 5 (record { width = w; height = t; wide = x.2; high = y.0; named = word_form path name tail (codes "sheet/" ++ (w ++ (47 ∷ t))) part is (a.1 ∙ ap (λ z. codes "sheet/" ++ z) x.3) }) y.1
      ]

  vertex : (first (prepend (codes "sheet/") sheet_rows) tail ≡ Some k) ⊎ (first (prepend (codes "vertex") (leaf 6)) tail ≡ Some k) → HasForm (page_at k) path
  vertex (inl g) = sheet g
  vertex (inr g) = word (codes "vertex") 6 (omega arith, (omega arith, (omega arith, (omega arith, (omega arith, (omega arith, tt)))))) (λ f. f) g

  pattern : (first (prepend (codes "pattern") (leaf 4)) tail ≡ Some k) ⊎ (first from_sheet tail ≡ Some k) → HasForm (page_at k) path
  pattern (inl g) = word (codes "pattern") 4 (omega arith, (omega arith, (omega arith, (omega arith, (omega arith, (omega arith, (omega arith, tt))))))) (λ f. f) g
  pattern (inr g) = vertex (either _ _ k (sym (split 115 (codes "heet/") sheet_rows (prepend (codes "vertex") (leaf 6)) (omega arith) refl refl refl tail) ∙ g))

  two : (first (prepend (codes "f") f_rows) tail ≡ Some k) ⊎ (first from_pattern tail ≡ Some k) → HasForm (page_at k) path
  two (inl g) =
      let a = after_prefix (codes "f") f_rows tail k (omega arith, tt) g in
      elim (either _ _ k (sym (split 97 (codes "ults") (leaf 2) (prepend (codes "old") (leaf 3)) (omega arith) refl refl refl a.0) ∙ a.2)) [
        | inl x ↦ let y = word_is (codes "aults") 2 a.0 k (omega arith, (omega arith, (omega arith, (omega arith, (omega arith, tt))))) x in at 2 (word_form path name tail (codes "faults") part is (a.1 ∙ ap (λ z. codes "f" ++ z) y.0)) y.1
        | inr x ↦ let y = word_is (codes "old") 3 a.0 k (omega arith, (omega arith, (omega arith, tt))) x in at 3 (word_form path name tail (codes "fold") part is (a.1 ∙ ap (λ z. codes "f" ++ z) y.0)) y.1
      ]
  two (inr g) = pattern (either _ _ k (sym (split 112 (codes "attern") (leaf 4) from_sheet (omega arith) refl refl refl tail) ∙ g))

  edits : (first (prepend (codes "edits") (leaf 1)) tail ≡ Some k) ⊎ (first from_f tail ≡ Some k) → HasForm (page_at k) path
  edits (inl g) = word (codes "edits") 1 (omega arith, (omega arith, (omega arith, (omega arith, (omega arith, tt))))) (λ f. f) g
  edits (inr g) = two (either _ _ k (sym (split 102 [] f_rows from_pattern (omega arith) refl refl refl tail) ∙ g))

  cp : (first (prepend (codes "cp") (leaf 0)) tail ≡ Some k) ⊎ (first from_edits tail ≡ Some k) → HasForm (page_at k) path
  cp (inl g) = word (codes "cp") 0 (omega arith, (omega arith, tt)) (λ f. f) g
  cp (inr g) = edits (either _ _ k (sym (split 101 (codes "dits") (leaf 1) from_f (omega arith) refl refl refl tail) ∙ g))

top_form : (path : Text) (k : ℕ) → IsText path → first all_rows path ≡ Some k → HasForm (page_at k) path
unfolding seek
top_form path k text h =
    let a = after_prefix (codes "/projects") end_rows path k (omega arith, (omega arith, (omega arith, (omega arith, (omega arith, (omega arith, (omega arith, (omega arith, (omega arith, tt))))))))) h in
    go a.0 a.1 (text_after (codes "/projects") a.0 (subst IsText a.1 text)) a.2
  where
    go : (rest : Text) → path ≡ codes "/projects" ++ rest → IsText rest → first end_rows rest ≡ Some k → HasForm (page_at k) path
    go [] is text g = subst (λ i. HasForm (page_at i) path) (same_Some _ _ g) is
    go (b ∷ p) is text g =
        let a = after_prefix (codes "/") name_rows (b ∷ p) k (omega arith, tt) (sym (ended (prepend (codes "/") name_rows) 8 b p) ∙ g) in
        let text1 : IsText a.0 = text_after (codes "/") a.0 (subst IsText a.1 text) in
        let is_all : path ≡ codes "/projects/" ++ a.0 = is ∙ ap (λ t. codes "/projects" ++ t) a.1 in
        elim (taken word_rows (Some 7) a.0 k (omega arith) text1 a.2) [
          | inl x ↦ subst (λ i. HasForm (page_at i) path) (same_Some _ _ x.1) (record { name = a.0; part = x.0; whole = is_all ∙ ap (λ t. codes "/projects/" ++ t) (sym (append-nil a.0)) })
          | inr x ↦ words_form path x.0 x.1 k (text_after x.0 (47 ∷ x.1) (subst IsText x.3 text1)).1 x.2 (is_all ∙ ap (λ t. codes "/projects/" ++ t) x.3) x.4
        ]

-- ---- and the other way round

abbrev Found : Option ℕ → Type 0
Found o = (r : ℕ) × (o ≡ Some r)

-- rows under one first byte find nothing that the others find
behind : (x : ℕ) (w : Text) (a t : Rows) (path : Text) → seek 0 (prepend (x ∷ w) a ++ t) path ≡ or_else (seek 0 (prepend (x ∷ w) a) path) (seek 0 t path) → Found (seek 0 t path) → Found (seek 0 (prepend (x ∷ w) a ++ t) path)
behind x w a t path e f = pick (seek 0 (prepend (x ∷ w) a) path) e where
  pick : (o : Option ℕ) → seek 0 (prepend (x ∷ w) a ++ t) path ≡ or_else o (seek 0 t path) → Found (seek 0 (prepend (x ∷ w) a ++ t) path)
  pick None g = (f.0, g ∙ f.1)
  pick (Some r) g = (r, g)

before : (x : ℕ) (w : Text) (a t : Rows) (path : Text) → seek 0 (prepend (x ∷ w) a ++ t) path ≡ or_else (seek 0 (prepend (x ∷ w) a) path) (seek 0 t path) → Found (seek 0 (prepend (x ∷ w) a) path) → Found (seek 0 (prepend (x ∷ w) a ++ t) path)
before x w a t path e f = (f.0, e ∙ ap (λ o. or_else o (seek 0 t path)) f.1)

sheet_found : (w h : Text) → IsPart w → IsPart h → IsText (w ++ (47 ∷ h)) → Found (first word_rows (codes "sheet/" ++ (w ++ (47 ∷ h))))
sheet_found [] h p q text = absurd (p.some refl)
sheet_found (x ∷ w) [] p q text = absurd (q.some refl)
sheet_found (x ∷ w) (y ∷ h) p q text =
    let rest : Text = (x ∷ w) ++ (47 ∷ (y ∷ h)) in
    let path : Text = codes "sheet/" ++ rest in
    let last : first height_rows (y ∷ h) ≡ Some 5 = last_part 5 y h (text_after (x ∷ w) (47 ∷ (y ∷ h)) text).1.0 (part_slashless (y ∷ h) q) in
    let sizes : first sheet_rows rest ≡ Some 5 = part_followed height_rows None x w (y ∷ h) (omega arith) text.0 (part_slashless (x ∷ w) p) ∙ last in
    let own : Found (first (prepend (codes "sheet/") sheet_rows) path) = (5, with_prefix (codes "sheet/") sheet_rows rest (omega arith, (omega arith, (omega arith, (omega arith, (omega arith, (omega arith, tt)))))) ∙ sizes) in
    let a : Found (seek 0 from_sheet path) = before 115 (codes "heet/") sheet_rows (prepend (codes "vertex") (leaf 6)) path (split 115 (codes "heet/") sheet_rows (prepend (codes "vertex") (leaf 6)) (omega arith) refl refl refl path) own in
    let b : Found (seek 0 from_pattern path) = behind 112 (codes "attern") (leaf 4) from_sheet path (split 112 (codes "attern") (leaf 4) from_sheet (omega arith) refl refl refl path) a in
    let c : Found (seek 0 from_f path) = behind 102 [] f_rows from_pattern path (split 102 [] f_rows from_pattern (omega arith) refl refl refl path) b in
    let d : Found (seek 0 from_edits path) = behind 101 (codes "dits") (leaf 1) from_f path (split 101 (codes "dits") (leaf 1) from_f (omega arith) refl refl refl path) c in
    behind 99 (codes "p") (leaf 0) from_edits path (split 99 (codes "p") (leaf 0) from_edits (omega arith) refl refl refl path) d

-- a path of a project is looked for behind the slash
top_is : (p : Text) → first all_rows (codes "/projects/" ++ p) ≡ first name_rows p
top_is p =
    with_prefix (codes "/projects") end_rows (47 ∷ p) (omega arith, (omega arith, (omega arith, (omega arith, (omega arith, (omega arith, (omega arith, (omega arith, (omega arith, tt)))))))))
    ∙ ended (prepend (codes "/") name_rows) 8 47 p ∙ with_prefix (codes "/") name_rows p (omega arith, tt)

-- the name alone
alone_found : (name path : Text) → IsText path → IsPart name → path ≡ project_path name [] → Found (first all_rows path)
alone_found [] path text part is = absurd (part.some refl)
alone_found (x ∷ n) path text part is =
    let whole : path ≡ codes "/projects/" ++ (x ∷ n) = is ∙ ap (λ t. codes "/projects/" ++ t) (append-nil (x ∷ n)) in
    let small : IsText (x ∷ n) = text_after (codes "/projects/") (x ∷ n) (subst IsText whole text) in
    (7, ap (first all_rows) whole ∙ top_is (x ∷ n) ∙ part_alone word_rows (Some 7) x n (omega arith) small.0 (part_slashless (x ∷ n) part))

-- more behind the name
followed_found : (name tail path : Text) → IsText path → IsPart name → path ≡ project_path name (47 ∷ tail) → Found (first word_rows tail) → Found (first all_rows path)
followed_found [] tail path text part is f = absurd (part.some refl)
followed_found (x ∷ n) tail path text part is f =
    let small : IsText ((x ∷ n) ++ (47 ∷ tail)) = text_after (codes "/projects/") ((x ∷ n) ++ (47 ∷ tail)) (subst IsText is text) in
    (f.0, ap (first all_rows) is ∙ top_is ((x ∷ n) ++ (47 ∷ tail)) ∙ part_followed word_rows (Some 7) x n tail (omega arith) small.0 (part_slashless (x ∷ n) part) ∙ f.1)

words_found : (first word_rows (codes "faults") ≡ Some 2) × (first word_rows (codes "pattern") ≡ Some 4) × (first word_rows (codes "cp") ≡ Some 0) × (first word_rows (codes "fold") ≡ Some 3) × (first word_rows (codes "vertex") ≡ Some 6) × (first word_rows (codes "edits") ≡ Some 1)
unfolding seek param_step
words_found = (refl, refl, refl, refl, refl, refl)

end_found : first end_rows [] ≡ Some 8
unfolding seek
end_found = refl

named_found : (tail path : Text) (k : ℕ) → IsText path → IsNamed (47 ∷ tail) path → first word_rows tail ≡ Some k → Found (first all_rows path)
named_found tail path k text f e = followed_found f.name tail path text f.part f.whole (k, e)

form_found : (page : Page) (path : Text) → IsText path → HasForm page path → Found (first all_rows path)
form_found Projects path text f = (8, ap (first all_rows) f ∙ with_prefix (codes "/projects") end_rows [] (omega arith, (omega arith, (omega arith, (omega arith, (omega arith, (omega arith, (omega arith, (omega arith, (omega arith, tt))))))))) ∙ end_found)
form_found Project path text f = alone_found f.name path text f.part f.whole
form_found Faults path text f = named_found (codes "faults") path 2 text f words_found.0
form_found Pattern path text f = named_found (codes "pattern") path 4 text f words_found.1
form_found Cp path text f = named_found (codes "cp") path 0 text f words_found.2
form_found Fold path text f = named_found (codes "fold") path 3 text f words_found.3
form_found Vertex path text f = named_found (codes "vertex") path 6 text f words_found.4
form_found Edits path text f = named_found (codes "edits") path 1 text f words_found.5
form_found Sheet path text f =
    let n = f.named in
    let tail : Text = codes "sheet/" ++ (f.width ++ (47 ∷ f.height)) in
    let all : IsText (codes "/projects/" ++ (n.name ++ (47 ∷ tail))) = subst IsText n.whole text in
    let rest : IsText (47 ∷ tail) = text_after n.name (47 ∷ tail) (text_after (codes "/projects/") (n.name ++ (47 ∷ tail)) all) in
    followed_found n.name tail path text n.part n.whole (sheet_found f.width f.height f.wide f.high (text_after (codes "/sheet/") (f.width ++ (47 ∷ f.height)) rest))

-- ---- the table itself

routes : List (RouteOf Page)
unfolding matchit_on_literals table
routes = map (λ row. row.1) table

no_route : RouteOf Page
no_route = record { pattern = []; text = []; names = []; value = Projects }

table_is : table ≡ rename (λ k. get_or routes k no_route) all_rows
unfolding matchit_on_literals table routes
table_is = refl

values_are : map (λ r. r.value) routes ≡ pages
unfolding matchit_on_literals table routes
values_are = refl

value_at : (k : ℕ) → (get_or routes k no_route).value ≡ page_at k
unfolding no_route
value_at k = sym (get_or-map (λ r. r.value) routes k no_route) ∙ ap (λ ps. get_or ps k Projects) values_are

keyed : (o : Option ℕ) (route : RouteOf Page) → map_key (λ k. get_or routes k no_route) o ≡ Some route → (k : ℕ) × (o ≡ Some k) × (get_or routes k no_route ≡ route)
keyed None route h = absurd (let e = h in cc)
keyed (Some k) route h = (k, refl, some_route h) where
  some_route : {a b : RouteOf Page} → Some a ≡ Some b → a ≡ b
  some_route {a} h = ap (λ o. unwrap_or o a) h

-- what the table matches has the form of its page
pub has_form : (path : Text) (route : RouteOf Page) → IsText path → first table path ≡ Some route → HasForm route.value path
has_form path route text h =
    let k = keyed (first all_rows path) route (sym (ap (λ t. first t path) table_is ∙ first-rename (λ k. get_or routes k no_route) all_rows path) ∙ h) in
    subst (λ p. HasForm p path) (sym (value_at k.0) ∙ ap (λ r. r.value) k.2) (top_form path k.0 text k.1)

-- a path that has the form of a page is matched
pub is_found : (page : Page) (path : Text) → IsText path → HasForm page path → (route : RouteOf Page) × (first table path ≡ Some route)
is_found page path text f =
    let r = form_found page path text f in
    (get_or routes r.0 no_route, ap (λ t. first t path) table_is ∙ first-rename (λ k. get_or routes k no_route) all_rows path ∙ ap (map_key (λ k. get_or routes k no_route)) r.1)
