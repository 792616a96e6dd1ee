use Rattle.std.proofs.Common.{◌≡◌, ◌-◌, length, refl, inl, sym, subst, ◌∙◌}
use Rattle.std.specs.Prelude.{Some, slice_get}
use Rattle.std.proofs.lemmas.Bool.{false≢true}
use Rattle.subdivide.proofs.Ranked.{ended_push}
use Rattle.subdivide.proofs.ranks.put_last.Goals as goal

pub returns-then-ends_with : goal.returns-then-ends_with
returns-then-ends_with c = record {
  ends = subst (λ z. slice_get z (length z - 1) ≡ Some c.args.at.now) c.deref.ensures.value (c.ends_with.ensures.0 c.if-ends_with.true);
  is = inl refl;
}

pub returns : goal.returns
returns c = ended_push c.args.at.now c.args.list.now.items c.push.new.self.items
    (λ e. false≢true (sym c.if-ends_with.false ∙ c.ends_with.ensures.1 (subst (λ z. slice_get z (length z - 1) ≡ Some c.args.at.now) (sym c.deref.ensures.value) e)))
    c.in_ok-push.ensures.items
