use Rattle.pattern.specs.Deltas.{IsBetween}
use Rattle.pattern.proofs.callers.Leading.{between_fits, between_leads}
use Rattle.pattern.proofs.difference.between.Goals as goal

pub returns : goal.returns
returns c =
    let b : IsBetween c.args.old.now.creases c.args.new.now.creases (record { removed = c.in_ok-without.field-0; added = c.in_ok-without-2.field-0 }) = record { removed = c.in_ok-without.ensures.only; added = c.in_ok-without-2.ensures.only } in
    record {
      lists = b;
      fits = between_fits c.args.old.now c.args.new.now _ c.requires c.without-2.ensures.pattern b;
      leads = between_leads c.args.old.now c.args.new.now _ c.requires c.without-2.ensures.pattern b;
    }
