use Rattle.race_report.proofs.WordLaws.{leads_only, leads_all}
use Rattle.race_report.proofs.laws.places_lead_as_said.Goals as goal

pub returns-clause-only : goal.returns-clause-only
returns-clause-only c = leads_only

pub returns-clause-all : goal.returns-clause-all
returns-clause-all c = leads_all
