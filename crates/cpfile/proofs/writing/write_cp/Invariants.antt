use Rattle.std.proofs.Common.{◌≡◌, take}
use Rattle.cpfile.specs.CpText.{cp_lines}
use Rattle.cpfile.proofs.writing.write_cp.Given as goal

abbrev pub invariant-loop-edge : goal.invariant-loop-edge
invariant-loop-edge l = l.text.items ≡ cp_lines l.places.items (take l.edge-index l.subdivision.edges)
