use Rattle.std.proofs.Common.{◌∙◌, ap, ◌++◌}
use Rattle.std.specs.Prelude.{codes, decimal}
use Rattle.api.specs.HeadText.{media_type}
use Rattle.api.proofs.Putting.{added}
use Rattle.api.proofs.answer_head.add_fields.Goals as goal

pub returns-clause-text : goal.returns-clause-text
returns-clause-text c =
    added c.args.lines.now.items (codes "Content-Type: ") (media_type c.args.json) (codes "\r\nContent-Length: ") (decimal c.args.length) (codes "\r\n")
    c.add.new.lines.items c.add-2.new.lines.items c.add-3.new.lines.items c.add-4.new.lines.items c.add-5.new.lines.items
    c.add.ensures.text (c.add-2.ensures.text ∙ ap (λ t. c.add.new.lines.items ++ t) c.media_type.ensures.text) c.add-3.ensures.text
    (c.add-4.ensures.text ∙ ap (λ t. c.add-3.new.lines.items ++ t) c.format.ensures.text) c.add-5.ensures.text
