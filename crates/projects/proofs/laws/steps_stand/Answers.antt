use Rattle.projects.proofs.Standing.{edit_stands, undo_stands, redo_stands}
use Rattle.projects.proofs.laws.steps_stand.Goals as goal

pub returns : goal.returns
returns c = record {
  edit = edit_stands;
  undo = λ project after entry h s. (let u = undo_stands project after entry h s in (u.earlier, u.split, u.stands));
  redo = λ project after entry p h s. (let r = redo_stands project after entry p h s in (r.later, r.split, r.stands));
}
