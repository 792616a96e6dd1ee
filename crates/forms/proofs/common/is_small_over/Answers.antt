use Rattle.std.proofs.Common.{◌≡◌, true, false, sym, ◌∙◌}
use Rattle.forms.proofs.Small.{own_told, both_small, small_first, small_second, divides_of, no_multiple}
use Rattle.forms.proofs.common.is_small_over.Goals as goal

pub returns-then-d-own-ne0 : goal.returns-then-d-own-ne0
returns-then-d-own-ne0 c =
    let own : c.unsigned_abs-own.result ≡ c.args.n.now.d = own_told c.unsigned_abs-own.result c.d.result c.args.n.now c.unsigned_abs-own.ensures.value c.d.ensures.value c.d.ensures.canonical in
    (λ f. let g : false ≡ true = f in cc, λ s. absurd (no_multiple c.args.n.now.d c.unsigned_abs-own.result c.args.d own c.if-d-own-ne0.true (divides_of c.args.n.now c.args.d c.d.ensures.canonical c.requires.0 s)))

pub returns-then-stays_small : goal.returns-then-stays_small
returns-then-stays_small c =
    let own : c.unsigned_abs-own.result ≡ c.args.n.now.d = own_told c.unsigned_abs-own.result c.d.result c.args.n.now c.unsigned_abs-own.ensures.value c.d.ensures.value c.d.ensures.canonical in (
      λ f. both_small c.args.n.now c.args.d c.unsigned_abs-own.result c.a.result c.b.result c.d.ensures.canonical c.requires.0 own c.if-d-own-ne0.false c.a.ensures.value c.b.ensures.value
          (c.stays_small.ensures.0 c.if-stays_small.true) (c.stays_small-then-stays_small.ensures.0 f),
      λ s. c.stays_small-then-stays_small.ensures.1 (small_second c.args.n.now c.args.d c.unsigned_abs-own.result c.b.result c.d.ensures.canonical c.requires.0 own c.if-d-own-ne0.false c.b.ensures.value s),
    )

pub returns-else-stays_small : goal.returns-else-stays_small
returns-else-stays_small c =
    let own : c.unsigned_abs-own.result ≡ c.args.n.now.d = own_told c.unsigned_abs-own.result c.d.result c.args.n.now c.unsigned_abs-own.ensures.value c.d.ensures.value c.d.ensures.canonical in (
      λ f. let g : false ≡ true = sym c.if-stays_small.false ∙ f in cc,
      λ s. c.stays_small.ensures.1 (small_first c.args.n.now c.args.d c.unsigned_abs-own.result c.a.result c.d.ensures.canonical c.requires.0 own c.if-d-own-ne0.false c.a.ensures.value s),
    )
