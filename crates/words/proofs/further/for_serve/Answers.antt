use Rattle.std.proofs.Common.{rules, ◌≡◌, None, ◌∙◌, ap, codes, map, string_bytes, subst, sym}
use Rattle.clap.specs.Words.{first_of}
use Rattle.words.specs.Words.{AreForServe}
use Rattle.words.specs.Tasks.{maybe_text}
use Rattle.words.specs.Texts.{SpellServe}
use Rattle.words.specs.declared.argument.Argument.TheVariants as argument
use Rattle.words.proofs.Spelled.{given_by, no_port, serve_spelled, serve_given, some_too, is_some_of}
use Rattle.words.proofs.Served.{serve_found}
use Rattle.words.proofs.further.for_serve.Goals as goal

pub returns-then-is_none-clause-none : goal.returns-then-is_none-clause-none
returns-then-is_none-clause-none c = λ _ p n keep a.
    let none : maybe_text c.text_of.result ≡ None = search rules in
    no_port _ _ p n keep (given_by _ _ _ _ c.text_of.ensures) none a

pub returns-clause-some : goal.returns-clause-some
returns-clause-some c =
    some_too _ _ c.with_path.result (λ s f.
    subst (λ k. AreForServe (map string_bytes c.args.further.now) s.port s.connections (maybe_text k)) (sym f.1)
    (serve_given _ _ _ s.port s.connections (serve_found _ argument.Port _ (c.found-port.ensures ∙ ap (first_of (codes "port")) c.in-Ok.ensures.found)) (serve_found _ argument.Connections _ (c.found-connections.ensures ∙ ap (first_of (codes "connections")) c.in-Ok.ensures.found)) (maybe_text c.found-keep.result) (serve_found _ argument.Keep _ (c.found-keep.ensures ∙ ap (first_of (codes "keep")) c.in-Ok.ensures.found)) (c.are_given.ensures.0 c.if-not-are_given.false)
    (is_some_of (λ p n. SpellServe (maybe_text c.found-port.result) (maybe_text c.found-connections.result) p n) c.serve_by.result s.port s.connections f.0 c.serve_by.ensures.some))) c.with_path.ensures.some

pub returns-clause-none : goal.returns-clause-none
returns-clause-none c = λ e p n keep a.
    c.serve_by.ensures.none (c.with_path.ensures.none e) p n (serve_spelled _ _ _ p n (serve_found _ argument.Port _ (c.found-port.ensures ∙ ap (first_of (codes "port")) c.in-Ok.ensures.found)) (serve_found _ argument.Connections _ (c.found-connections.ensures ∙ ap (first_of (codes "connections")) c.in-Ok.ensures.found)) keep a)
