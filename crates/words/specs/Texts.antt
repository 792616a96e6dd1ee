-- The settings of commands by the texts that are given to their arguments.
use Rattle.std.specs.Prelude.{◌≡◌, ◌≢◌, ℕ, ◌≤◌, List, [], ◌∷◌, Option, Some, None, decimal}
use Rattle.sheet.specs.Sheet.{ExactSheet}
use Rattle.lattice.specs.Lattice.{Measures}
use Rattle.words.specs.Grammar.{IsValue}

-- the number from 1 to `most` that a text spells, or the usual one where there is no text
abbrev pub NumberFrom : ℕ → ℕ → Option (List ℕ) → Option ℕ → Type 0
NumberFrom most usual None (Some n) = n ≡ usual
NumberFrom most usual None None = ⊥
NumberFrom most usual (Some text) (Some n) = (decimal n ≡ text) × (1 ≤ n) × (n ≤ most)
NumberFrom most usual (Some text) None = (n : ℕ) → 1 ≤ n → n ≤ most → decimal n ≢ text

-- the texts of the options of `check` spell this lattice and this sheet
pub record SpellCheck (d k tol w h : Option (List ℕ)) (lattice : Measures) (sheet : ExactSheet) : Type 0 where
  pub at_d : NumberFrom 1024 64 d (Some lattice.d)
  pub at_k : NumberFrom 1024 128 k (Some lattice.k)
  pub at_tol : NumberFrom 100000 1000 tol (Some lattice.tol)
  pub at_w : NumberFrom 8 1 w (Some sheet.w)
  pub at_h : NumberFrom 8 1 h (Some sheet.h)
  pub k_from : lattice.d ≤ lattice.k

-- a text that is there spells this port
abbrev pub SpellsPort : Option (List ℕ) → ℕ → Type 0
SpellsPort None port = ⊥
SpellsPort (Some text) port = (decimal port ≡ text) × (1 ≤ port) × (port ≤ 65535)

-- the texts of `serve` spell this port and this number of connections
pub record SpellServe (port connections : Option (List ℕ)) (p n : ℕ) : Type 0 where
  pub at_port : SpellsPort port p
  pub at_connections : NumberFrom 1000000 18446744073709551615 connections (Some n)

-- the texts of `generate` spell this seed and this number of turns
abbrev pub SpellsUpTo : ℕ → Option (List ℕ) → ℕ → Type 0
SpellsUpTo most None n = ⊥
SpellsUpTo most (Some text) n = (n ≤ most) × (decimal n ≡ text)

pub record SpellGenerate (seed count : Option (List ℕ)) (s n : ℕ) : Type 0 where
  pub at_seed : SpellsUpTo 18446744073709551615 seed s
  pub at_count : SpellsUpTo 100000 count n

-- the words are two values
abbrev pub AreTwo : List (List ℕ) → Type 0
AreTwo [] = ⊥
AreTwo (v ∷ []) = ⊥
AreTwo (v ∷ w ∷ []) = IsValue v × IsValue w
AreTwo (v ∷ w ∷ u ∷ words) = ⊥
