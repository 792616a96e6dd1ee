use Rattle.std.proofs.Common.{refl}
use Rattle.routes.proofs.CutPaths.{page_of, form_of}
use Rattle.routes.proofs.router.Routes.find.Goals as goal

pub returns-in-None : goal.returns-in-None
returns-in-None c route r = c.in-None.ensures.none refl (page_of route) (form_of c.args.path.now route r)
