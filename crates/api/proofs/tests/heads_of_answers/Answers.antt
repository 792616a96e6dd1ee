use Rattle.api.proofs.Callers.{is_409}
use Rattle.api.proofs.tests.heads_of_answers.Goals as goal

pub write_head-requires : goal.write_head-requires
write_head-requires g c = is_409
