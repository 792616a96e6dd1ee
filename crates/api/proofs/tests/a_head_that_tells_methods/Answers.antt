use Rattle.api.proofs.Callers.{is_405}
use Rattle.api.proofs.tests.a_head_that_tells_methods.Goals as goal

pub write_head-requires : goal.write_head-requires
write_head-requires g c = is_405
