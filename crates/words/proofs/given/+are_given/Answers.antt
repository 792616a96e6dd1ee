use Rattle.std.proofs.Common.{rules, ◌≡◌, string_bytes, refl, subst}
use Rattle.std.specs.Prelude.{None}
use Rattle.words.specs.Grammar.{giving, IsTextOf}
use Rattle.words.specs.Tasks.{maybe_text}
use Rattle.words.proofs.Elements.{no_element}
use Rattle.words.proofs.GivenLists.{none_given, one_more, behind_first, left_out}
use Rattle.words.proofs.given.+are_given.Goals as goal

pub returns-in-None : goal.returns-in-None
returns-in-None t c =
    (λ e. absurd cc, λ a. let n = no_element string_bytes c.args.words.now (none_given _ _ (c.in-None.ensures.none refl) a) in search (rules, n))

pub returns-then-not-is_among : goal.returns-then-not-is_among
returns-then-not-is_among t c =
    let g = giving c.in-Some.first.argument c.in-Some.first.value.now in
    (λ e. absurd cc, λ a. let k = c.is_among.ensures.1 (behind_first _ _ _ g c.in-Some.ensures.some a).known in search (rules, k))

pub returns-then-is_some : goal.returns-then-is_some
returns-then-is_some t c =
    let g = giving c.in-Some.first.argument c.in-Some.first.value.now in (
      λ e. absurd cc,
      λ a.
          let b = behind_first _ _ _ g c.in-Some.ensures.some a in
          let r = b.give.1 in
          let n = left_out b.give.0 g.argument (maybe_text c.text_of.result) b.without (c.text_of.ensures b.give.0 r.written r.values) in
          search (rules, n),
    )

pub returns-else-is_some : goal.returns-else-is_some
returns-else-is_some t c =
    let g = giving c.in-Some.first.argument c.in-Some.first.value.now in
    let none : maybe_text c.text_of.result ≡ None = search rules in (
      λ e.
          let a = c.are_given.ensures.0 e in
          let r = a.1 in
          one_more _ _ _ g a c.in-Some.ensures.some (c.is_among.ensures.0 c.if-not-is_among.false) (subst (IsTextOf a.0 g.argument) none (c.text_of.ensures a.0 r.written r.values)),
      λ a. c.are_given.ensures.1 (behind_first _ _ _ g c.in-Some.ensures.some a).give,
    )
