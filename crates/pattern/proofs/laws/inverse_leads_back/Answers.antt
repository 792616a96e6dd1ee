use Rattle.pattern.proofs.callers.Leading.{inverse_fits, inverse_leads}
use Rattle.pattern.proofs.laws.inverse_leads_back.Goals as goal

pub returns : goal.returns
returns c = record { fits = inverse_fits; leads = inverse_leads }
