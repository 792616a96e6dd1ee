-- What a request asks for begins with the verb of a command.
use Rattle.std.proofs.Common.{◌≡◌, ◌++◌, ℕ, refl, List, [], ◌∷◌, inl}
use Rattle.vocabulary.specs.declared.verb.Verb.{Verb}
use Rattle.vocabulary.specs.declared.verb.Verb.TheVariants as verb
use Rattle.vocabulary.specs.Verbs.{verb_text}
use Rattle.routes.specs.Asking.{Asks, AsksProject}
use Rattle.routes.specs.FirstWords.{BeginsWithVerb}
use Rattle.vocabulary.specs.Revs.{rev_text}
use Rattle.routes.specs.declared.method.Method.{Method}
use Rattle.routes.specs.declared.method.Method.TheVariants as method
use Rattle.routes.specs.declared.route.Route.{Route}
use Rattle.routes.specs.declared.route.Route.TheVariants as route

abbrev Text : Type 0
Text = List ℕ

with_blank : (v : Verb) (rest text : Text) → text ≡ verb_text v ++ (32 ∷ rest) → BeginsWithVerb text
with_blank v rest text e = record { verb = v; behind = 32 ∷ rest; spelled = e; stops = inl (inl refl) }

project_begins : (name : Text) (m : Method) (text : Text) → AsksProject name m text → BeginsWithVerb text
project_begins name method.Get text a = with_blank verb.Show name text a
project_begins name method.Put text a = with_blank verb.New name text a
project_begins name method.Post text a = absurd a

pub begins : (r : Route) (m : Method) (query body text : Text) → Asks r m query body text → BeginsWithVerb text
begins route.Projects m query body text a = record { verb = verb.List; behind = []; spelled = a; stops = tt }
begins (route.Project name) m query body text a = project_begins name.now m text a
begins (route.Faults name) m query body text a = with_blank verb.Faults name.now text a
begins (route.Pattern name) m query body text a = with_blank verb.Pattern name.now text a
begins (route.Cp name) m query body text a = with_blank verb.Cp name.now text a
begins (route.Fold name) m query body text a = with_blank verb.Fold name.now text a
begins (route.Vertex name) m query body text a = with_blank verb.Vertex (name.now ++ (32 ∷ a.point)) text a.written
begins (route.Edits name) m query body text a =
    let e = a.edit.edit in
    with_blank e.verb ((name.now ++ rev_text a.edit.rev) ++ e.behind) text e.written
begins (route.Sheet name width height) m query body text a = with_blank verb.New (name.now ++ (32 ∷ (width.now ++ (32 ∷ height.now)))) text a
