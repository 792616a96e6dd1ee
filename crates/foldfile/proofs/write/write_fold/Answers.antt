use Rattle.std.proofs.Common.{List, ℕ, ◌≡◌, ◌++◌, ap, subst, ◌∙◌}
use Rattle.std.specs.Prelude.{codes}
use Rattle.decimals.specs.DecimalPoint.{AreDecimalPoints}
use Rattle.foldfile.specs.FoldText.{head_text, list_text, coords_text, ends_text, assignment_text, exact_text}
use Rattle.foldfile.proofs.Joined.{joined}
use Rattle.foldfile.proofs.write.write_fold.Goals as goal

-- a list that was appended, by another name
named : {X : Type 0} (spelt : X → List ℕ) (old new : List ℕ) (xs ys : List X)
    → new ≡ old ++ list_text spelt xs → xs ≡ ys → new ≡ old ++ list_text spelt ys
named spelt old new xs ys e f = e ∙ ap (λ zs. old ++ list_text spelt zs) f

pub returns : goal.returns
returns c =
    let s = c.args.subdivision.now in
    let places = c.in_ok-places.places.items in
    record {
      whole = (
        places,
        subst (λ vs. AreDecimalPoints 1000000000000 0 vs places) c.vertices.ensures.value c.in_ok-places.ensures.points,
        joined head_text
            (list_text coords_text places) (codes ",\"edges_vertices\":")
            (list_text ends_text s.edges) (codes ",\"edges_assignment\":")
            (list_text assignment_text s.edges) (codes ",\"q2:vertices_exact\":")
            (list_text exact_text s.vertices) (codes "}\n")
            _ _ _ _ _ _ _ _ _
            c.in_ok-text.ensures.items
            (named coords_text _ _ _ _ c.in_ok-put_list.ensures c.deref.ensures.value)
            c.in_ok-extend_from_slice.ensures.items
            (named ends_text _ _ _ _ c.in_ok-put_list-2.ensures c.edges.ensures.value)
            c.in_ok-extend_from_slice-2.ensures.items
            (named assignment_text _ _ _ _ c.in_ok-put_list-3.ensures c.edges-2.ensures.value)
            c.in_ok-extend_from_slice-3.ensures.items
            (named exact_text _ _ _ _ c.in_ok-put_list-4.ensures c.vertices-2.ensures.value)
            c.in_ok-extend_from_slice-4.ensures.items,
      );
    }
