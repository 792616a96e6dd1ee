use Rattle.std.proofs.Common.{◌≡◌, ℕ, ◌+◌, ◌<◌, ◌≤◌, length, refl, ap, ◌∙◌, ◌⊎◌, inl, inr, arith, w32}
use Rattle.std.specs.Prelude.{min}
use Rattle.std.proofs.lemmas.Bool.{cases_lt}
use Rattle.std.proofs.lemmas.Int.{to_z-of_z}
use Rattle.std.proofs.lemmas.Option.{slice_get_read}
use Rattle.subdivide.specs.Strips.{place_of, IsFromTo, IsReached}
use Rattle.subdivide.proofs.Standing.{looked_more, looked_as, reached_is}
use Rattle.subdivide.proofs.strips.Strips.reach_band.Goals as goal

-- places from one to before another
abbrev Between : ℕ → ℕ → ℕ → ℕ → Type 0
Between a b end p = (min a b ≤ p) × (p < end)

one_more : (a b end p : ℕ) → Between a b (end + 1) p → Between a b end p ⊎ (p ≡ end)
one_more a b end p h = elim (cases_lt p end) [ inl l ↦ inl (h.0, l) | inr l ↦ inr (omega (arith, h.1)) ]

pub loop-place-preserved : goal.loop-place-preserved
loop-place-preserved c =
    let from : ℕ = c.place-from.result in
    let to : ℕ = c.place-to.result in
    looked_more c.args.lines.now c.args.line (Between from to c.loop-place.place) (λ p. p ≡ c.loop-place.place) (Between from to (c.loop-place.place + 1))
    c.args.self.now c.loop-place.self c.look.new.self c.args.near.now.items c.loop-place.near.items c.look.new.near.items
    c.loop-place.invariant c.in_ok-look.ensures (one_more from to c.loop-place.place)

pub returns : goal.returns
returns c =
    let from : ℕ = c.place-from.result in
    let to : ℕ = c.place-to.result in
    looked_as c.args.lines.now c.args.line (Between from to c.loop-place.place) (IsReached c.args.self.now c.args.lines.now c.args.line c.args.row)
    c.args.self.now c.loop-place.self c.args.near.now.items c.loop-place.near.items c.loop-place.invariant
    (λ p g. (let k : IsFromTo from to p = reached_is c.args.self.now c.args.lines.now c.args.line c.args.row p c.index.result.now c.index-lines-line.result c.index-lines-line-2.result from to
    (slice_get_read c.args.self.now.bands.items (length c.args.self.now.bands.items) c.args.row c.index.result.now refl (omega (arith, c.requires.standing.bands.eight)) c.index.ensures)
    (slice_get_read c.args.lines.now (length c.args.lines.now) c.args.line c.index-lines-line.result refl c.requires.within c.index-lines-line.is)
    (slice_get_read c.args.lines.now (length c.args.lines.now) c.args.line c.index-lines-line-2.result refl c.requires.within c.index-lines-line-2.is)
    (c.place-from.ensures ∙ ap (place_of c.index.result.now) (to_z-of_z w32 c.mark.result (record { sfits = c.mark.type_inv }) ∙ c.mark.ensures))
    (c.place-to.ensures ∙ ap (place_of c.index.result.now) (to_z-of_z w32 c.mark-2.result (record { sfits = c.mark-2.type_inv }) ∙ c.mark-2.ensures)) g in
    (k.0, omega (arith, k.1))))
