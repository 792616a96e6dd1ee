use Rattle.std.proofs.Common.{◌≡◌, ◌++◌, ◌∷◌, [], length, refl, subst}
use Rattle.std.proofs.lemmas.Option.{slice_get_read}
use Rattle.subdivide.specs.declared.strips.Strip.{Strip}
use Rattle.subdivide.proofs.Standing.{standing_put, IsRewritten}
use Rattle.subdivide.proofs.strips.Strips.put.Goals as goal

pub returns : goal.returns
returns c =
    let place = c.own_place-place.result in
    let now : Strip = record { lines = c.push.new.self } in
    let written : IsRewritten place c.args.self.now (record { bands = c.args.self.now.bands; strips = Rattle.std.specs.Vec.with_item c.args.self.now.strips place now }) c.index_mut.result.now now = record {
      bands = refl;
      within = c.own_place-place.ensures.within;
      stood = slice_get_read c.args.self.now.strips.items (length c.args.self.now.strips.items) c.own_place-place.result c.index_mut.result.now refl c.own_place-place.ensures.within c.index_mut.ensures.value;
      items = refl;
    } in
    standing_put c.args.lines.now c.args.line place c.index-lines-line.result c.args.self.now _ c.index_mut.result.now now c.requires.standing
    (slice_get_read c.args.lines.now (length c.args.lines.now) c.args.line c.index-lines-line.result refl c.requires.within c.index-lines-line.is)
    c.own_place-place.ensures.own written (subst (λ k. c.push.new.self.items ≡ c.index_mut.result.now.lines.items ++ k ∷ []) c.requires.number c.in_ok-push.ensures.items)
