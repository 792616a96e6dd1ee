use Rattle.forms.proofs.callers.Marked.{leads_ahead}
use Rattle.forms.proofs.laws.segments_lead_ahead.Goals as goal

pub returns : goal.returns
returns c = leads_ahead
