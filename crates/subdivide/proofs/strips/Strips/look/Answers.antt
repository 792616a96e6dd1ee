use Rattle.std.proofs.Common.{◌≡◌, ℕ, ◌<◌, ◌++◌, List, length, refl, ap, ◌∙◌, inl, inr, rules, Result, Ok, Err}
use Rattle.std.specs.Prelude.{slice_get, Some, OnOk, is_ok, if◌then◌else◌}
use Rattle.std.proofs.lemmas.List.Elements.{All-contains}
use Rattle.std.proofs.lemmas.Option.{slice_get_read}
use Rattle.subdivide.specs.Strips.{AreBelow}
use Rattle.subdivide.specs.declared.strips.Strip.{Strip}
use Rattle.subdivide.proofs.Standing.{IsRewritten, EndsBefore, ended_past, below_stood, kept_or, kept_all, looked_one}
use Rattle.subdivide.proofs.strips.Strips.look.Goals as goal

on_ok : {A E : Type 0} (r : Result A E) (P : Type 0) (xs ys zs : List ℕ) → zs ≡ (if is_ok r then xs ++ ys else xs) → (zs ≡ xs ++ ys → P) → OnOk r P
on_ok (Ok a) P xs ys zs e f = f e
on_ok (Err b) P xs ys zs e f = tt

pub returns : goal.returns
returns c =
    let n : ℕ = c.args.line in
    let was : Strip = c.index_mut-strip.result.now in
    let now : Strip = record { lines = c.retain.new.self } in
    let written : IsRewritten c.args.place c.args.self.now (record { bands = c.args.self.now.bands; strips = Rattle.std.specs.Vec.with_item c.args.self.now.strips c.args.place now }) was now = record {
      bands = refl;
      within = c.requires.place;
      stood = slice_get_read c.args.self.now.strips.items (length c.args.self.now.strips.items) c.args.place was refl c.requires.place c.index_mut-strip.ensures.value;
      items = refl;
    } in
    let read : slice_get c.args.lines.now n ≡ Some c.index-lines-line.result = slice_get_read c.args.lines.now (length c.args.lines.now) n c.index-lines-line.result refl c.requires.within c.index-lines-line.is in
    let below : AreBelow n was.lines.items = below_stood n c.args.place c.args.self.now _ was now written c.requires.earlier in
    on_ok c.extend_from_slice.result _ c.args.near.now.items c.deref.result.now c.extend_from_slice.new.self.items c.extend_from_slice.ensures.items
    (λ e. looked_one c.args.lines.now n c.args.place c.args.self.now _ was now c.args.near.now.items c.extend_from_slice.new.self.items written c.requires.earlier
    (kept_all _ (λ i. i < n) _ was.lines.items now.lines.items c.retain.ensures.filtered below) c.requires.below (e ∙ ap (λ z. c.args.near.now.items ++ z) c.deref.ensures.value)
    (λ i x. elim (kept_or _ (EndsBefore c.args.lines.now c.mark-start.result) _ (λ y b g k. search rules) was.lines.items now.lines.items c.retain.ensures.filtered i x) [
      | inl k ↦ inl k
      | inr q ↦ inr (ended_past c.args.lines.now n i c.mark-start.result c.index-lines-line.result c.requires.swept read c.mark-start.ensures (All-contains (λ j. j < n) was.lines.items i below x) q)
    ]))
