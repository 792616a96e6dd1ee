-- The FOLD text of a subdivision: one JSON object on one line, without blanks.
use Rattle.std.specs.Prelude.{◌≡◌, ℕ, ◌^◌, List, [], ◌∷◌, ◌++◌, codes, flat_map}
use Rattle.std.specs.List.{join_by}
use Rattle.exact.specs.Number.{ExactNumber}
use Rattle.exact.specs.Plane.{ExactPoint}
use Rattle.qroot2.specs.Text.{numeral, signed_text}
use Rattle.decimals.specs.DecimalText.{decimal_text}
use Rattle.decimals.specs.DecimalPoint.{AreDecimalPoints}
use Rattle.decimals.specs.declared.point.DecimalPoint.{DecimalPoint}
use Rattle.subdivide.specs.Subdivision.{ExactSubdivision}
use Rattle.subdivide.specs.declared.edge.Edge.{Edge}
use Rattle.subdivide.specs.declared.edge.EdgeKind.{EdgeKind}
use Rattle.subdivide.specs.declared.edge.EdgeKind.TheVariants as kind

-- each item behind a comma
abbrev pub rest_text : {X : Type 0} → (X → List ℕ) → List X → List ℕ
rest_text text = flat_map (λ x. 44 ∷ text x)

-- the items of a list in brackets, with a comma between each two
abbrev pub list_text : {X : Type 0} → (X → List ℕ) → List X → List ℕ
list_text text xs = 91 ∷ (join_by text (44 ∷ []) xs ++ 93 ∷ [])

-- [x,y]
abbrev pub coords_text : DecimalPoint → List ℕ
coords_text p = 91 ∷ (decimal_text p.x ++ 44 ∷ (decimal_text p.y ++ 93 ∷ []))

-- [from,to]
abbrev pub ends_text : Edge → List ℕ
ends_text e = 91 ∷ (numeral e.from ++ 44 ∷ (numeral e.to ++ 93 ∷ []))

-- the letter of what an edge lies on: B the border, M a mountain, V a valley, F an auxiliary crease
abbrev pub assignment_letter : EdgeKind → ℕ
assignment_letter kind.B = 66
assignment_letter kind.M = 77
assignment_letter kind.V = 86
assignment_letter kind.A = 70

-- that letter in quotes
abbrev pub assignment_text : Edge → List ℕ
assignment_text e = 34 ∷ assignment_letter e.kind ∷ 34 ∷ []

-- a,b,d of (a + b √2)/d
abbrev pub triple_text : ExactNumber → List ℕ
triple_text x = signed_text x.a ++ 44 ∷ (signed_text x.b ++ 44 ∷ numeral x.d)

-- the triples of x and of y
abbrev pub exact_text : ExactPoint → List ℕ
exact_text p = 91 ∷ (triple_text p.x ++ 44 ∷ (triple_text p.y ++ 93 ∷ []))

-- the keys that are the same in each text, and the name of the first list
abbrev pub head_text : List ℕ
head_text =
    codes "{\"file_spec\":1.1,\"file_creator\":\"oriedit\",\"file_classes\":[\"singleModel\"],"
    ++ codes "\"frame_classes\":[\"creasePattern\"],\"vertices_coords\":"

-- the object, where the coordinates of the vertices are those of places
abbrev pub fold_text : ExactSubdivision → List DecimalPoint → List ℕ
fold_text s places =
    head_text ++ (list_text coords_text places
    ++ (codes ",\"edges_vertices\":" ++ (list_text ends_text s.edges
    ++ (codes ",\"edges_assignment\":" ++ (list_text assignment_text s.edges
    ++ (codes ",\"q2:vertices_exact\":" ++ (list_text exact_text s.vertices
    ++ codes "}\n")))))))

-- where a vertex is at x, its coordinate is the whole part of 10^12·x, in units of 10^-12
abbrev pub AreFoldPlaces : ExactSubdivision → List DecimalPoint → Type 0
AreFoldPlaces s = AreDecimalPoints (10 ^ 12) 0 s.vertices

-- text is the FOLD text of s
pub record IsFoldText (s : ExactSubdivision) (text : List ℕ) : Type 0 where
  pub whole : (places : List DecimalPoint) × AreFoldPlaces s places × (fold_text s places ≡ text)
