-- The words behind the first one and the texts that they give.
use Rattle.std.proofs.Common.{◌≡◌, ◌≢◌, ℕ, ◌<◌, ◌^◌, List, Option, Some, None, refl, sym, subst, arith, lit<}
use Rattle.std.specs.Prelude.{IfSome, decimal}
use Rattle.std.proofs.lemmas.List.Elements.{All-contains}
use Rattle.sheet.specs.Sheet.{ExactSheet}
use Rattle.lattice.specs.Lattice.{Measures, IsLattice}
use Rattle.words.specs.Grammar.{Given, giving, Gives, IsTextOf, IsGivenNumber}
use Rattle.words.specs.FirstGiven.{GiveTo, TextBy}
use Rattle.words.specs.Words.{check_arguments, script_arguments, serve_arguments, AreForCheck, AreForScript, AreForServe}
use Rattle.words.specs.Texts.{NumberFrom, SpellCheck, SpellsPort, SpellServe}
use Rattle.words.specs.declared.argument.Argument.{Argument}
use Rattle.words.specs.declared.argument.Argument.TheVariants as argument
use Rattle.words.proofs.GivenLists.{one_text}
use Rattle.words.proofs.Numbers.{AreOnce, number_of, number_from, one_from, in_range}

-- this is what words that give values to some of these arguments give to one
abbrev pub GivenBy : List Argument → List (List ℕ) → Argument → Option (List ℕ) → Type 0
GivenBy arguments words a text = (given : List Given) → Gives arguments given words → IsTextOf given a text

pub given_by : (arguments : List Argument) (words : List (List ℕ)) (a : Argument) (text : Option (List ℕ))
    → TextBy words a text → GivenBy arguments words a text
given_by arguments words a text t given g = t given g.written g.values

module _ (further : List (List ℕ)) (d k tol w h : Option (List ℕ)) (lattice : Measures) (sheet : ExactSheet)
    (by_d : GivenBy check_arguments further argument.D d) (by_k : GivenBy check_arguments further argument.K k)
    (by_tol : GivenBy check_arguments further argument.Tol tol) (by_w : GivenBy check_arguments further argument.W w)
    (by_h : GivenBy check_arguments further argument.H h) where
  pub check_spelled : AreForCheck further lattice sheet → SpellCheck d k tol w h lattice sheet
  check_spelled a = record {
    at_d = number_from a.given argument.D 1024 64 lattice.d d a.gives.once (by_d a.given a.gives) a.d;
    at_k = number_from a.given argument.K 1024 128 lattice.k k a.gives.once (by_k a.given a.gives) a.k;
    at_tol = number_from a.given argument.Tol 100000 1000 lattice.tol tol a.gives.once (by_tol a.given a.gives) a.tol;
    at_w = number_from a.given argument.W 8 1 sheet.w w a.gives.once (by_w a.given a.gives) a.w;
    at_h = number_from a.given argument.H 8 1 sheet.h h a.gives.once (by_h a.given a.gives) a.h;
    k_from = a.k_from;
  }

  pub check_given : GiveTo check_arguments further → SpellCheck d k tol w h lattice sheet → AreForCheck further lattice sheet
  check_given (given, g) s = record {
    given = given;
    gives = g;
    d = number_of given argument.D 1024 64 lattice.d d (by_d given g) s.at_d;
    k = number_of given argument.K 1024 128 lattice.k k (by_k given g) s.at_k;
    tol = number_of given argument.Tol 100000 1000 lattice.tol tol (by_tol given g) s.at_tol;
    w = number_of given argument.W 8 1 sheet.w w (by_w given g) s.at_w;
    h = number_of given argument.H 8 1 sheet.h h (by_h given g) s.at_h;
    k_from = s.k_from;
  }

-- numbers that texts spell are a lattice where others that they spell are
pub is_lattice : (d k tol w h : Option (List ℕ)) (x y z : ℕ) (lattice : Measures) (sheet : ExactSheet)
    → NumberFrom 1024 64 d (Some x) → NumberFrom 1024 128 k (Some y) → NumberFrom 100000 1000 tol (Some z)
    → SpellCheck d k tol w h lattice sheet → IsLattice (record { d = x; k = y; tol = z })
is_lattice d k tol w h x y z lattice sheet at_d at_k at_tol s =
    let a = in_range 1024 64 x d (omega arith) (omega arith) at_d in
    let b = in_range 1024 128 y k (omega arith) (omega arith) at_k in
    let c = in_range 100000 1000 z tol (omega arith) (omega arith) at_tol in
    let l : 1024 < 2 ^ 64 = lit< tt in
    let e = one_from 1024 64 x lattice.d d l at_d s.at_d in
    let f = one_from 1024 128 y lattice.k k l at_k s.at_k in
    let g = s.k_from in
    record { d_some = a.0; d_small = a.1; k_from = omega (arith, e, f, g); k_small = b.1; tol_some = c.0; tol_small = c.1 }

port_of : (given : List Given) (port : Option (List ℕ)) (p : ℕ) → IsTextOf given argument.Port port → SpellsPort port p
    → IsGivenNumber given argument.Port 65535 p
port_of given None p t s = absurd s
port_of given (Some text) p t s = (subst (λ x. IsTextOf given argument.Port (Some x)) (sym s.0) t, s.1, s.2)

port_spelled : (given : List Given) (port : Option (List ℕ)) (p : ℕ) → AreOnce given → IsTextOf given argument.Port port
    → IsGivenNumber given argument.Port 65535 p → SpellsPort port p
port_spelled given port p o t i = by port t where
  by : (q : Option (List ℕ)) → IsTextOf given argument.Port q → SpellsPort q p
  by q x = subst (λ y. SpellsPort y p) (one_text given argument.Port (Some (decimal p)) q o i.0 x) (refl, i.1, i.2)

module _ (further : List (List ℕ)) (port connections : Option (List ℕ)) (p n : ℕ)
    (by_port : GivenBy serve_arguments further argument.Port port)
    (by_connections : GivenBy serve_arguments further argument.Connections connections) where
  pub serve_spelled : (keep : Option (List ℕ)) → AreForServe further p n keep → SpellServe port connections p n
  serve_spelled keep a = record {
    at_port = port_spelled a.given port p a.gives.once (by_port a.given a.gives) a.at;
    at_connections = number_from a.given argument.Connections 1000000 18446744073709551615 n connections a.gives.once (by_connections a.given a.gives) a.served;
  }

  pub serve_given : (keep : Option (List ℕ)) → GivenBy serve_arguments further argument.Keep keep
      → GiveTo serve_arguments further → SpellServe port connections p n → AreForServe further p n keep
  serve_given keep by_keep (given, g) s = record {
    given = given;
    gives = g;
    at = port_of given port p (by_port given g) s.at_port;
    served = number_of given argument.Connections 1000000 18446744073709551615 n connections (by_connections given g) s.at_connections;
    kept = by_keep given g;
  }

pub some_too : {A : Type 0} (P Q : A → Type 0) (r : Option A) → ((a : A) → P a → Q a) → IfSome r P → IfSome r Q
some_too P Q None h p = p
some_too P Q (Some a) h p = h a p

pub script_given : (further : List (List ℕ)) (keep : Option (List ℕ)) → GivenBy script_arguments further argument.Keep keep
    → GiveTo script_arguments further → AreForScript further keep
script_given further keep by_keep (given, g) = record { given = given; gives = g; kept = by_keep given g }

pub is_some_of : {A B : Type 0} (P : A → B → Type 0) (r : Option (A × B)) (a : A) (b : B) → r ≡ Some (a, b)
    → IfSome r (λ x. P x.0 x.1) → P a b
is_some_of P r a b e p = subst (λ o. IfSome o (λ x. P x.0 x.1)) e p

-- the port has to be there
pub no_port : (further : List (List ℕ)) (text : Option (List ℕ)) (p n : ℕ) (keep : Option (List ℕ))
    → GivenBy serve_arguments further argument.Port text → text ≡ None → AreForServe further p n keep → ⊥
no_port further text p n keep b e a =
    All-contains (λ g. argument.Port ≢ g.argument) a.given (giving argument.Port (decimal p)) (subst (IsTextOf a.given argument.Port) e (b a.given a.gives)) a.at.0 refl
