use Rattle.std.proofs.Common.{◌≡◌, ◌<◌, ◌≤◌, ℕ, length, get_or, refl, sym, ap, subst, ◌∙◌, arith, Some}
use Rattle.std.specs.Prelude.{slice_get, List}
use Rattle.std.proofs.lemmas.Option.{slice_get-get_or}
use Rattle.subdivide.specs.Subdivision.{EdgePlaces}
use Rattle.subdivide.specs.Fans.{IsJoined, IsNoted}
use Rattle.subdivide.specs.declared.edge.EdgeKind.TheVariants as kind
use Rattle.subdivide.proofs.callers.FansHeld.{joined, held_more, held_still, all_held}
use Rattle.subdivide.proofs.stars.fans_of.Goals as goal
use Rattle.subdivide.proofs.stars.fans_of.Goals.{in-Some, in_default}

-- the edge at a place of a list that is that of the subdivision
read : (xs ys : List EdgePlaces) (n : ℕ) (d : EdgePlaces) → xs ≡ ys → n < length xs → slice_get ys n ≡ Some (get_or xs n d)
read xs ys n d e h = ap (λ z. slice_get z n) (sym e) ∙ slice_get-get_or xs n d h

pub note-requires-clause-joined : goal.note-requires-clause-joined
note-requires-clause-joined c =
    let e = c.edges-edge-items.ensures.value in
    subst (λ z. IsJoined z (get_or c.edges-edge-items.result.now c.loop-edge.edge-index (record { from = 0; to = 0; kind = kind.B }))) (sym c.vertices-vertices.ensures.value)
    (joined c.requires.0 c.args.cut.now c.requires.1 c.loop-edge.edge-index _ (read c.edges-edge-items.result.now c.args.cut.now.edges c.loop-edge.edge-index _ e (omega arith)))

pub loop-edge-preserved : goal.loop-edge-preserved
loop-edge-preserved c =
    let edge : EdgePlaces = get_or c.edges-edge-items.result.now c.loop-edge.edge-index (record { from = 0; to = 0; kind = kind.B }) in
    let e = read c.edges-edge-items.result.now c.args.cut.now.edges c.loop-edge.edge-index (record { from = 0; to = 0; kind = kind.B }) c.edges-edge-items.ensures.value (omega arith) in
    elim c.match-mark_of.branch [
      | in-Some w ↦ rw w.fans-is (held_more c.requires.0 c.args.cut.now c.loop-edge.edge-index edge c.loop-edge.fans.items w.note.new.fans.items c.requires.1 e
          (subst (λ z. IsNoted z edge c.loop-edge.fans.items w.note.new.fans.items) c.vertices-vertices.ensures.value w.note.ensures) c.loop-edge.invariant)
      | in_default w ↦ rw w.fans-is (held_still c.args.cut.now c.loop-edge.edge-index edge c.loop-edge.fans.items e (w.in_default.ensures.none refl) c.loop-edge.invariant)
    ]

pub returns : goal.returns
returns c = λ pattern is. all_held pattern c.args.cut.now c.loop-edge.edge-index c.loop-edge.fans.items is (ended c.loop-edge.edge-index c.edges-edge-items.result.now c.args.cut.now.edges c.edges-edge-items.ensures.value (omega arith) (omega arith)) c.loop-edge.invariant
  where
    ended : (n : ℕ) (xs ys : List EdgePlaces) → xs ≡ ys → n ≤ length xs → length xs ≤ n → n ≡ length ys
    ended n xs ys e h l = omega (arith, h, l, ap length e)
