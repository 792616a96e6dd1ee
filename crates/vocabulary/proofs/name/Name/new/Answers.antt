use Rattle.std.proofs.Common.{◌<◌, ◌++◌, ◌∷◌, [], get_or, sym, subst, ap, ◌∙◌}
use Rattle.std.proofs.lemmas.List.Elements.{All-more}
use Rattle.vocabulary.specs.Names.{IsNameByte}
use Rattle.vocabulary.proofs.NameBytes.{is_ascii, one_more}
use Rattle.vocabulary.proofs.name.Name.new.Goals as goal

pub loop-byte-preserved : goal.loop-byte-preserved
loop-byte-preserved c =
    let i = c.loop-byte.byte-index in
    let bytes = c.args.bytes.now in
    let is : IsNameByte (get_or bytes i 0) = c.is_name_byte.ensures.0 c.if-not-is_name_byte.false in
    let low : c.from.result < 128 = subst (λ b. b < 128) (sym c.from.ensures) (is_ascii (get_or bytes i 0) is) in
    record {
      text = one_more bytes i c.loop-byte.text.bytes c.push.new.self.bytes c.loop-byte-test.true c.loop-byte.invariant.text (c.push.ensures.ascii low ∙ ap (λ b. c.loop-byte.text.bytes ++ b ∷ []) c.from.ensures);
      each = All-more IsNameByte bytes i 0 c.loop-byte-test.true c.loop-byte.invariant.each is;
    }
