use Rattle.magnus_laws.proofs.Members.{member_multiple}
use Rattle.magnus_laws.proofs.rules.members_form_a_module.Goals as goal

pub returns-clause-multiple : goal.returns-clause-multiple
returns-clause-multiple c = member_multiple
