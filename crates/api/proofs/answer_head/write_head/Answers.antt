use Rattle.std.proofs.Common.{◌≡◌, ◌∙◌, ap, sym, subst, ◌++◌, List, ℕ, Bool}
use Rattle.std.specs.Prelude.{codes, Option, Some, None, option_map, Result, Ok, Err}
use Rattle.std.specs.Borrow.{Bor}
use Rattle.ports.specs.Streams.{Puts}
use Rattle.api.specs.HeadText.{status_line, fields_before, head_text}
use Rattle.api.proofs.Putting.{puts_more, puts_failed, three}
use Rattle.api.proofs.answer_head.write_head.Goals as goal

first : ℕ → Bool → ℕ → List ℕ
first status json len = status_line status ++ fields_before json len

told : (status : ℕ) (json : Bool) (len : ℕ) (methods : List ℕ)
    → (first status json len ++ codes "Allow: ") ++ (methods ++ (codes "\r\nConnection: close\r\n\r\n"))
    ≡ head_text status json len (Some methods)
unfolding first
told status json len methods = three (first status json len) (codes "Allow: ") methods (codes "\r\n") (codes "Connection: close\r\n\r\n")

by_allow : {T E : Type 0} (h l : Option (List ℕ)) (status : ℕ) (json : Bool) (len : ℕ) (allow : Option (Bor (List ℕ))) (a : Option (Bor (List ℕ))) (r : Result T E)
    → allow ≡ a → Puts h l (head_text status json len (option_map (λ m. m.now) a)) r → Puts h l (head_text status json len (option_map (λ m. m.now) allow)) r
by_allow h l status json len allow a r e p = subst (λ o. Puts h l (head_text status json len (option_map (λ m. m.now) o)) r) (sym e) p

pub returns-in-None-clause-bytes : goal.returns-in-None-clause-bytes
unfolding first
returns-in-None-clause-bytes g c =
    by_allow (g.W.Sink.held c.args.sink.now) (g.W.Sink.held c.put.new.self) c.args.status c.args.json c.args.length c.args.allow None c.put.result c.in-None.is
    (subst (λ t. Puts (g.W.Sink.held c.args.sink.now) (g.W.Sink.held c.put.new.self) t c.put.result)
    (c.as_slice.ensures.value ∙ c.add.ensures.text ∙ ap (λ u. u ++ codes "Connection: close\r\n\r\n") c.first_lines-lines.ensures.text) c.put.ensures.bytes)

pub returns-in_err-put-in-Some-clause-bytes : goal.returns-in_err-put-in-Some-clause-bytes
unfolding first
returns-in_err-put-in-Some-clause-bytes g c =
    let H = g.W.Sink.held c.args.sink.now in
    let L = g.W.Sink.held c.put-in-Some.new.self in
    let r = c.from_residual.result in
    let lines : c.as_slice-in-Some.result.now ≡ first c.args.status c.args.json c.args.length ++ codes "Allow: "
    = c.as_slice-in-Some.ensures.value ∙ c.add-in-Some.ensures.text ∙ ap (λ u. u ++ codes "Allow: ") c.first_lines-lines.ensures.text in
    by_allow H L c.args.status c.args.json c.args.length c.args.allow (Some c.in-Some.methods) r c.in-Some.is
    (subst (λ t. Puts H L t r) (told c.args.status c.args.json c.args.length c.in-Some.methods.now)
    (puts_failed H L (first c.args.status c.args.json c.args.length ++ codes "Allow: ") _ _ r (subst (λ t. Puts H L t (Err c.in_err-put-in-Some.field-0.0)) lines c.in_err-put-in-Some.ensures.bytes) c.from_residual.ensures.0))

pub returns-in_err-put-in-Some-2-clause-bytes : goal.returns-in_err-put-in-Some-2-clause-bytes
unfolding first
returns-in_err-put-in-Some-2-clause-bytes g c =
    let H = g.W.Sink.held c.args.sink.now in
    let K = g.W.Sink.held c.put-in-Some.new.self in
    let L = g.W.Sink.held c.put-in-Some-2.new.self in
    let r = c.from_residual-in_err-put-in-Some-2.result in
    let lines : c.as_slice-in-Some.result.now ≡ first c.args.status c.args.json c.args.length ++ codes "Allow: "
    = c.as_slice-in-Some.ensures.value ∙ c.add-in-Some.ensures.text ∙ ap (λ u. u ++ codes "Allow: ") c.first_lines-lines.ensures.text in
    by_allow H L c.args.status c.args.json c.args.length c.args.allow (Some c.in-Some.methods) r c.in-Some.is
    (subst (λ t. Puts H L t r) (told c.args.status c.args.json c.args.length c.in-Some.methods.now)
    (puts_more H K L (first c.args.status c.args.json c.args.length ++ codes "Allow: ") (c.in-Some.methods.now ++ codes "\r\nConnection: close\r\n\r\n") c.in_ok-put-in-Some.field-0 r
    (subst (λ t. Puts H K t (Ok c.in_ok-put-in-Some.field-0)) lines c.in_ok-put-in-Some.ensures.bytes)
    (puts_failed K L c.in-Some.methods.now _ _ r (subst (λ t. Puts K L t (Err c.in_err-put-in-Some-2.field-0.0)) c.as_bytes.ensures.value c.in_err-put-in-Some-2.ensures.bytes) c.from_residual-in_err-put-in-Some-2.ensures.0)))

pub returns-in_ok-put-in-Some-2-clause-bytes : goal.returns-in_ok-put-in-Some-2-clause-bytes
unfolding first
returns-in_ok-put-in-Some-2-clause-bytes g c =
    let H = g.W.Sink.held c.args.sink.now in
    let K = g.W.Sink.held c.put-in-Some.new.self in
    let J = g.W.Sink.held c.put-in-Some-2.new.self in
    let L = g.W.Sink.held c.put-in-Some-3.new.self in
    let r = c.put-in-Some-3.result in
    let lines : c.as_slice-in-Some.result.now ≡ first c.args.status c.args.json c.args.length ++ codes "Allow: "
    = c.as_slice-in-Some.ensures.value ∙ c.add-in-Some.ensures.text ∙ ap (λ u. u ++ codes "Allow: ") c.first_lines-lines.ensures.text in
    by_allow H L c.args.status c.args.json c.args.length c.args.allow (Some c.in-Some.methods) r c.in-Some.is
    (subst (λ t. Puts H L t r) (told c.args.status c.args.json c.args.length c.in-Some.methods.now)
    (puts_more H K L (first c.args.status c.args.json c.args.length ++ codes "Allow: ") (c.in-Some.methods.now ++ codes "\r\nConnection: close\r\n\r\n") c.in_ok-put-in-Some.field-0 r
    (subst (λ t. Puts H K t (Ok c.in_ok-put-in-Some.field-0)) lines c.in_ok-put-in-Some.ensures.bytes)
    (puts_more K J L c.in-Some.methods.now (codes "\r\nConnection: close\r\n\r\n") c.in_ok-put-in-Some-2.field-0 r
    (subst (λ t. Puts K J t (Ok c.in_ok-put-in-Some-2.field-0)) c.as_bytes.ensures.value c.in_ok-put-in-Some-2.ensures.bytes) c.put-in-Some-3.ensures.bytes)))
