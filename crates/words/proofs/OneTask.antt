-- Words ask for one thing.
use Rattle.std.proofs.Common.{◌≡◌, ℕ, ◌<◌, ◌^◌, List, Option, refl, sym, ap, subst, ◌∙◌, arith, lit<, inl}
use Rattle.std.proofs.lemmas.Fmt.{decimal_injective}
use Rattle.sheet.specs.Sheet.{ExactSheet}
use Rattle.sheet.proofs.callers.Sheets.{same_sheet}
use Rattle.lattice.specs.Lattice.{Measures}
use Rattle.words.specs.Grammar.{Given, Gives, IsTextOf, IsNumberOf}
use Rattle.words.specs.Tasks.{Task}
use Rattle.words.specs.Words.{AreForCheck, AreForScript, AreForGenerate, AreForServe, Names, Asks}
use Rattle.words.specs.declared.argument.Argument.{Argument}
use Rattle.words.specs.declared.argument.Argument.TheVariants as argument
use Rattle.words.proofs.Elements.{head, tail}
use Rattle.words.proofs.GivenLists.{one_list, one_text}
use Rattle.words.proofs.Numbers.{one_number}
use Rattle.words.proofs.FirstWords.{starts, cut_check, cut_script, cut_generate, cut_serve, check_script, check_generate, check_serve, script_generate, script_serve, generate_serve}

-- words give one list of values
one_given : (arguments : List Argument) (further : List (List ℕ)) (given others : List Given)
    → Gives arguments given further → Gives arguments others further → given ≡ others
one_given arguments further given others g h = one_list further given others g.written h.written g.values h.values

-- so the numbers and texts that they give are the same
same_number : (arguments : List Argument) (further : List (List ℕ)) (given others : List Given) (a : Argument) (most usual n m : ℕ)
    → Gives arguments given further → Gives arguments others further → most < 2 ^ 64
    → IsNumberOf given a most usual n → IsNumberOf others a most usual m → n ≡ m
same_number arguments further given others a most usual n m g h l x y =
    one_number given a most usual n m g.once l x (subst (λ gs. IsNumberOf gs a most usual m) (sym (one_given arguments further given others g h)) y)

same_text : (arguments : List Argument) (further : List (List ℕ)) (given others : List Given) (a : Argument) (v w : Option (List ℕ))
    → Gives arguments given further → Gives arguments others further → IsTextOf given a v → IsTextOf others a w → v ≡ w
same_text arguments further given others a v w g h x y =
    one_text given a v w g.once x (subst (λ gs. IsTextOf gs a w) (sym (one_given arguments further given others g h)) y)

same_lattice : (l m : Measures) → l.d ≡ m.d → l.k ≡ m.k → l.tol ≡ m.tol → l ≡ m
same_lattice l m p q r = λ i. record { d = p i; k = q i; tol = r i }

one_check : (further : List (List ℕ)) (l m : Measures) (s t : ExactSheet) → AreForCheck further l s → AreForCheck further m t
    → Task.Check l s ≡ Task.Check m t
one_check further l m s t a b =
    ap (λ x. Task.Check x s) (same_lattice l m (same argument.D 1024 64 l.d m.d (lit< tt) a.d b.d) (same argument.K 1024 128 l.k m.k (lit< tt) a.k b.k) (same argument.Tol 100000 1000 l.tol m.tol (lit< tt) a.tol b.tol))
    ∙ ap (λ x. Task.Check m x) (same_sheet s t (same argument.W 8 1 s.w t.w (lit< tt) a.w b.w) (same argument.H 8 1 s.h t.h (lit< tt) a.h b.h))
  where
    same : (o : Argument) (most usual n k : ℕ) → most < 2 ^ 64 → IsNumberOf a.given o most usual n → IsNumberOf b.given o most usual k → n ≡ k
    same o most usual n k = same_number _ further a.given b.given o most usual n k a.gives b.gives

one_script : (further : List (List ℕ)) (v w : Option (List ℕ)) → AreForScript further v → AreForScript further w
    → Task.Script v ≡ Task.Script w
one_script further v w a b =
    ap (λ x. Task.Script x) (same_text _ further a.given b.given argument.Keep v w a.gives b.gives a.kept b.kept)

one_generate : (further : List (List ℕ)) (seed other count many : ℕ) → AreForGenerate further seed count
    → AreForGenerate further other many → Task.Generate seed count ≡ Task.Generate other many
one_generate further seed other count many a b =
    let e = sym a.are ∙ b.are in
    let top : 100000 < 2 ^ 64 = lit< tt in
    let p = a.count_small in
    let q = b.count_small in
    ap (λ x. Task.Generate x count) (decimal_injective seed other a.seed_fits b.seed_fits (ap head e))
    ∙ ap (λ x. Task.Generate other x) (decimal_injective count many (omega (arith, p, top)) (omega (arith, q, top)) (ap (λ w. head (tail w)) e))

one_serve : (further : List (List ℕ)) (port at connections served : ℕ) (v w : Option (List ℕ))
    → AreForServe further port connections v → AreForServe further at served w
    → Task.Serve port connections v ≡ Task.Serve at served w
one_serve further port at connections served v w a b =
    ap (λ x. Task.Serve x connections v) (same_number _ further a.given b.given argument.Port 65535 0 port at a.gives b.gives (lit< tt) (inl a.at) (inl b.at))
    ∙ ap (λ x. Task.Serve at x v) (same_number _ further a.given b.given argument.Connections 1000000 18446744073709551615 connections served a.gives b.gives (lit< tt) a.served b.served)
    ∙ ap (λ x. Task.Serve at served x) (same_text _ further a.given b.given argument.Keep v w a.gives b.gives a.kept b.kept)

-- commands with the same words are the same
one_command : (words : List (List ℕ)) (t u : Task) → Names words t → Names words u → t ≡ u
one_command words Task.Usage u x y = absurd x
one_command words Task.Cut Task.Usage x y = absurd y
one_command words Task.Cut Task.Cut x y = refl
one_command words Task.Cut (Task.Check m t) x y = absurd (cut_check (sym (starts words Task.Cut x) ∙ starts words (Task.Check m t) y))
one_command words Task.Cut (Task.Script path) x y = absurd (cut_script (sym (starts words Task.Cut x) ∙ starts words (Task.Script path) y))
one_command words Task.Cut (Task.Generate other many) x y = absurd (cut_generate (sym (starts words Task.Cut x) ∙ starts words (Task.Generate other many) y))
one_command words Task.Cut (Task.Serve at served path) x y = absurd (cut_serve (sym (starts words Task.Cut x) ∙ starts words (Task.Serve at served path) y))
one_command words (Task.Check l s) Task.Usage x y = absurd y
one_command words (Task.Check l s) Task.Cut x y = absurd (cut_check (sym (sym (starts words (Task.Check l s) x) ∙ starts words Task.Cut y)))
one_command words (Task.Check l s) (Task.Check m t) (fs, e, x) (gs, f, y) =
    one_check gs l m s t (subst (λ fs. AreForCheck fs l s) (ap tail (sym e ∙ f)) x) y
one_command words (Task.Check l s) (Task.Script path) x y = absurd (check_script (sym (starts words (Task.Check l s) x) ∙ starts words (Task.Script path) y))
one_command words (Task.Check l s) (Task.Generate other many) x y = absurd (check_generate (sym (starts words (Task.Check l s) x) ∙ starts words (Task.Generate other many) y))
one_command words (Task.Check l s) (Task.Serve at served path) x y = absurd (check_serve (sym (starts words (Task.Check l s) x) ∙ starts words (Task.Serve at served path) y))
one_command words (Task.Script keep) Task.Usage x y = absurd y
one_command words (Task.Script keep) Task.Cut x y = absurd (cut_script (sym (sym (starts words (Task.Script keep) x) ∙ starts words Task.Cut y)))
one_command words (Task.Script keep) (Task.Check m t) x y = absurd (check_script (sym (sym (starts words (Task.Script keep) x) ∙ starts words (Task.Check m t) y)))
one_command words (Task.Script keep) (Task.Script path) (fs, e, x) (gs, f, y) =
    one_script gs keep path (subst (λ fs. AreForScript fs keep) (ap tail (sym e ∙ f)) x) y
one_command words (Task.Script keep) (Task.Generate other many) x y = absurd (script_generate (sym (starts words (Task.Script keep) x) ∙ starts words (Task.Generate other many) y))
one_command words (Task.Script keep) (Task.Serve at served path) x y = absurd (script_serve (sym (starts words (Task.Script keep) x) ∙ starts words (Task.Serve at served path) y))
one_command words (Task.Generate seed count) Task.Usage x y = absurd y
one_command words (Task.Generate seed count) Task.Cut x y = absurd (cut_generate (sym (sym (starts words (Task.Generate seed count) x) ∙ starts words Task.Cut y)))
one_command words (Task.Generate seed count) (Task.Check m t) x y = absurd (check_generate (sym (sym (starts words (Task.Generate seed count) x) ∙ starts words (Task.Check m t) y)))
one_command words (Task.Generate seed count) (Task.Script path) x y = absurd (script_generate (sym (sym (starts words (Task.Generate seed count) x) ∙ starts words (Task.Script path) y)))
one_command words (Task.Generate seed count) (Task.Generate other many) (fs, e, x) (gs, f, y) =
    one_generate gs seed other count many (subst (λ fs. AreForGenerate fs seed count) (ap tail (sym e ∙ f)) x) y
one_command words (Task.Generate seed count) (Task.Serve at served path) x y = absurd (generate_serve (sym (starts words (Task.Generate seed count) x) ∙ starts words (Task.Serve at served path) y))
one_command words (Task.Serve port connections keep) Task.Usage x y = absurd y
one_command words (Task.Serve port connections keep) Task.Cut x y = absurd (cut_serve (sym (sym (starts words (Task.Serve port connections keep) x) ∙ starts words Task.Cut y)))
one_command words (Task.Serve port connections keep) (Task.Check m t) x y = absurd (check_serve (sym (sym (starts words (Task.Serve port connections keep) x) ∙ starts words (Task.Check m t) y)))
one_command words (Task.Serve port connections keep) (Task.Script path) x y = absurd (script_serve (sym (sym (starts words (Task.Serve port connections keep) x) ∙ starts words (Task.Script path) y)))
one_command words (Task.Serve port connections keep) (Task.Generate other many) x y = absurd (generate_serve (sym (sym (starts words (Task.Serve port connections keep) x) ∙ starts words (Task.Generate other many) y)))
one_command words (Task.Serve port connections keep) (Task.Serve at served path) (fs, e, x) (gs, f, y) =
    one_serve gs port at connections served keep path (subst (λ fs. AreForServe fs port connections keep) (ap tail (sym e ∙ f)) x) y

-- words that are a command's ask for it alone
pub one_task : (words : List (List ℕ)) (t u : Task) → Asks words t → Asks words u → t ≡ u
one_task words Task.Usage Task.Usage x y = refl
one_task words Task.Usage Task.Cut x y = absurd (x Task.Cut y)
one_task words Task.Usage (Task.Check m t) x y = absurd (x (Task.Check m t) y)
one_task words Task.Usage (Task.Script path) x y = absurd (x (Task.Script path) y)
one_task words Task.Usage (Task.Generate other many) x y = absurd (x (Task.Generate other many) y)
one_task words Task.Usage (Task.Serve at served path) x y = absurd (x (Task.Serve at served path) y)
one_task words Task.Cut Task.Usage x y = absurd (y Task.Cut x)
one_task words Task.Cut Task.Cut x y = one_command words Task.Cut Task.Cut x y
one_task words Task.Cut (Task.Check m t) x y = one_command words Task.Cut (Task.Check m t) x y
one_task words Task.Cut (Task.Script path) x y = one_command words Task.Cut (Task.Script path) x y
one_task words Task.Cut (Task.Generate other many) x y = one_command words Task.Cut (Task.Generate other many) x y
one_task words Task.Cut (Task.Serve at served path) x y = one_command words Task.Cut (Task.Serve at served path) x y
one_task words (Task.Check l s) Task.Usage x y = absurd (y (Task.Check l s) x)
one_task words (Task.Check l s) Task.Cut x y = one_command words (Task.Check l s) Task.Cut x y
one_task words (Task.Check l s) (Task.Check m t) x y = one_command words (Task.Check l s) (Task.Check m t) x y
one_task words (Task.Check l s) (Task.Script path) x y = one_command words (Task.Check l s) (Task.Script path) x y
one_task words (Task.Check l s) (Task.Generate other many) x y = one_command words (Task.Check l s) (Task.Generate other many) x y
one_task words (Task.Check l s) (Task.Serve at served path) x y = one_command words (Task.Check l s) (Task.Serve at served path) x y
one_task words (Task.Script keep) Task.Usage x y = absurd (y (Task.Script keep) x)
one_task words (Task.Script keep) Task.Cut x y = one_command words (Task.Script keep) Task.Cut x y
one_task words (Task.Script keep) (Task.Check m t) x y = one_command words (Task.Script keep) (Task.Check m t) x y
one_task words (Task.Script keep) (Task.Script path) x y = one_command words (Task.Script keep) (Task.Script path) x y
one_task words (Task.Script keep) (Task.Generate other many) x y = one_command words (Task.Script keep) (Task.Generate other many) x y
one_task words (Task.Script keep) (Task.Serve at served path) x y = one_command words (Task.Script keep) (Task.Serve at served path) x y
one_task words (Task.Generate seed count) Task.Usage x y = absurd (y (Task.Generate seed count) x)
one_task words (Task.Generate seed count) Task.Cut x y = one_command words (Task.Generate seed count) Task.Cut x y
one_task words (Task.Generate seed count) (Task.Check m t) x y = one_command words (Task.Generate seed count) (Task.Check m t) x y
one_task words (Task.Generate seed count) (Task.Script path) x y = one_command words (Task.Generate seed count) (Task.Script path) x y
one_task words (Task.Generate seed count) (Task.Generate other many) x y = one_command words (Task.Generate seed count) (Task.Generate other many) x y
one_task words (Task.Generate seed count) (Task.Serve at served path) x y = one_command words (Task.Generate seed count) (Task.Serve at served path) x y
one_task words (Task.Serve port connections keep) Task.Usage x y = absurd (y (Task.Serve port connections keep) x)
one_task words (Task.Serve port connections keep) Task.Cut x y = one_command words (Task.Serve port connections keep) Task.Cut x y
one_task words (Task.Serve port connections keep) (Task.Check m t) x y = one_command words (Task.Serve port connections keep) (Task.Check m t) x y
one_task words (Task.Serve port connections keep) (Task.Script path) x y = one_command words (Task.Serve port connections keep) (Task.Script path) x y
one_task words (Task.Serve port connections keep) (Task.Generate other many) x y = one_command words (Task.Serve port connections keep) (Task.Generate other many) x y
one_task words (Task.Serve port connections keep) (Task.Serve at served path) x y = one_command words (Task.Serve port connections keep) (Task.Serve at served path) x y
