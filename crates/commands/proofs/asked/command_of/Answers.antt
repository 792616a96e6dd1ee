use Rattle.commands.proofs.Steps.{by_verb}
use Rattle.commands.proofs.asked.command_of.Goals as goal

pub returns-in-New : goal.returns-in-New
returns-in-New c = by_verb _ _ c.in-New.is c.new.ensures

pub returns-in-List : goal.returns-in-List
returns-in-List c = by_verb _ _ c.in-List.is c.list.ensures

pub returns-in-Show : goal.returns-in-Show
returns-in-Show c = by_verb _ _ c.in-Show.is c.show.ensures

pub returns-in-Faults : goal.returns-in-Faults
returns-in-Faults c = by_verb _ _ c.in-Faults.is c.faults.ensures

pub returns-in-Vertex : goal.returns-in-Vertex
returns-in-Vertex c = by_verb _ _ c.in-Vertex.is c.vertex.ensures

pub returns-in-Pattern : goal.returns-in-Pattern
returns-in-Pattern c = by_verb _ _ c.in-Pattern.is c.pattern.ensures

pub returns-in-Cp : goal.returns-in-Cp
returns-in-Cp c = by_verb _ _ c.in-Cp.is c.cp.ensures

pub returns-in-Fold : goal.returns-in-Fold
returns-in-Fold c = by_verb _ _ c.in-Fold.is c.fold.ensures

pub returns-in-Draw : goal.returns-in-Draw
returns-in-Draw c = by_verb _ _ c.in-Draw.is c.draw.ensures

pub returns-in-Erase : goal.returns-in-Erase
returns-in-Erase c = by_verb _ _ c.in-Erase.is c.erase.ensures

pub returns-in-Recolour : goal.returns-in-Recolour
returns-in-Recolour c = by_verb _ _ c.in-Recolour.is c.recolour.ensures

pub returns-in-Flip : goal.returns-in-Flip
returns-in-Flip c = by_verb _ _ c.in-Flip.is c.flip.ensures

pub returns-in-Extend : goal.returns-in-Extend
returns-in-Extend c = by_verb _ _ c.in-Extend.is c.extend.ensures

pub returns-in-Bisect : goal.returns-in-Bisect
returns-in-Bisect c = by_verb _ _ c.in-Bisect.is c.bisect.ensures

pub returns-in-Mirror : goal.returns-in-Mirror
returns-in-Mirror c = by_verb _ _ c.in-Mirror.is c.mirror.ensures

pub returns-in-RabbitEar : goal.returns-in-RabbitEar
returns-in-RabbitEar c = by_verb _ _ c.in-RabbitEar.is c.rabbit_ear.ensures

pub returns-in-Import : goal.returns-in-Import
returns-in-Import c = by_verb _ _ c.in-Import.is c.import.ensures

pub returns-in-Undo : goal.returns-in-Undo
returns-in-Undo c = by_verb _ _ c.in-Undo.is c.undo.ensures

pub returns-in-Redo : goal.returns-in-Redo
returns-in-Redo c = by_verb _ _ c.in-Redo.is c.redo.ensures
