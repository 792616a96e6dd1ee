use Rattle.std.proofs.Common.{◌≡◌, ◌-◌, take, ◌≤◌, [], ℕ, List, length, drop, refl, sym, ap, subst, arith, length-drop}
use Rattle.std.specs.Prelude.{Option, Some, None, IfSome, IsNone}
use Rattle.std.proofs.lemmas.List.{take_rest}
use Rattle.sheet.specs.Pattern.{ExactCrease}
use Rattle.pattern.specs.DeltaText.{minus_sign, plus_sign, entries_text}
use Rattle.pattern.specs.DeltaReader.{IsEntries}
use Rattle.pattern.proofs.callers.DeltaLines.{removed_entries, rest_is, whole_delta, one_entries}
use Rattle.pattern.proofs.native.delta.read_delta.Goals as goal

abbrev Found : Type 0
Found = Option (List ExactCrease × ℕ)

-- what an option that is known tells
told : (o : Found) (creases : List ExactCrease) (n : ℕ) (sign : ℕ) (text : List ℕ) → o ≡ Some (creases, n) → IfSome o (λ e. (e.1 ≤ length text) × IsEntries sign text e.0 (drop e.1 text)) → (n ≤ length text) × IsEntries sign text creases (drop n text)
told o creases n sign text e h = subst (λ (x : Found). IfSome x (λ e. (e.1 ≤ length text) × IsEntries sign text e.0 (drop e.1 text))) e h

-- the bytes from a place on
abbrev from : ℕ → List ℕ → List ℕ
from n text = take (length text - n) (drop n text)

missing : (o : Found) → o ≡ None → IsNone o
missing o e = subst (λ (x : Found). IsNone x) (sym e) refl

pub returns-in_default-clause-none : goal.returns-in_default-clause-none
returns-in_default-clause-none c = λ _ delta d. c.in_ok-removed.ensures.none (missing _ c.in_default.is) delta.removed (entries_text plus_sign delta.added) (removed_entries c.args.text.now delta d)

pub returns-in_default-2-clause-none : goal.returns-in_default-2-clause-none
returns-in_default-2-clause-none c = λ _ delta d.
    let removed = told _ c.in-Some.removed c.in-Some.start minus_sign c.args.text.now c.in-Some.is c.in_ok-removed.ensures.some in
    c.in_ok-added.ensures.none (missing _ c.in_default-2.is) delta.added [] (rest_is c.args.text.now (from c.in-Some.start c.args.text.now) (drop c.in-Some.start c.args.text.now) c.in-Some.removed delta (take_rest c.args.text.now c.in-Some.start) removed.1 d)

pub returns-then-end-rest-clause-none : goal.returns-then-end-rest-clause-none
returns-then-end-rest-clause-none c = λ _ delta d.
    let removed = told _ c.in-Some.removed c.in-Some.start minus_sign c.args.text.now c.in-Some.is c.in_ok-removed.ensures.some in
    let added = told _ c.in-Some-2.added c.in-Some-2.end plus_sign (from c.in-Some.start c.args.text.now) c.in-Some-2.is c.in_ok-added.ensures.some in
    let none = one_entries plus_sign (from c.in-Some.start c.args.text.now) c.in-Some-2.added delta.added (drop c.in-Some-2.end (from c.in-Some.start c.args.text.now)) [] added.1 (rest_is c.args.text.now (from c.in-Some.start c.args.text.now) (drop c.in-Some.start c.args.text.now) c.in-Some.removed delta (take_rest c.args.text.now c.in-Some.start) removed.1 d) in
    omega (arith, ap length none.1, length-drop c.in-Some-2.end (from c.in-Some.start c.args.text.now), c.if-end-rest.true)

pub returns-clause-some : goal.returns-clause-some
returns-clause-some c =
    let removed = told _ c.in-Some.removed c.in-Some.start minus_sign c.args.text.now c.in-Some.is c.in_ok-removed.ensures.some in
    let added = told _ c.in-Some-2.added c.in-Some-2.end plus_sign (from c.in-Some.start c.args.text.now) c.in-Some-2.is c.in_ok-added.ensures.some in
    whole_delta c.args.text.now (from c.in-Some.start c.args.text.now) c.in-Some.removed c.in-Some-2.added c.in-Some-2.end c.in-Some.start (take_rest c.args.text.now c.in-Some.start) removed.1 added.1 (omega (arith, c.if-end-rest.false))
