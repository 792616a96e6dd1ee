-- The ends of a line, or the first field that has not one near value.
use Rattle.std.proofs.Common.{◌≡◌, ℕ, [], ◌∷◌, ◌≤◌, ◌^◌, to_z, of_z, refl, sym, subst}
use Rattle.std.specs.Prelude.{ℤ, Result, Ok, Err, unsigned_abs}
use Rattle.std.specs.Result.{IsErrAnd}
use Rattle.std.specs.Int.{w128}
use Rattle.std.proofs.lemmas.List.Elements.{All-nil, All-cons}
use Rattle.exact.specs.Number.{ExactNumber}
use Rattle.ports.specs.declared.stop.Stop.{Stop}
use Rattle.ports.specs.declared.stop.Stop.TheVariants as stop
use Rattle.cpfile.specs.CpDrawing.{Coordinate, IsPlaced}
use Rattle.cpfile.specs.CpAxes.{ExactAxis, Ruled, Places, PlacesEnds}
use Rattle.cpfile.specs.declared.bad.CpWhy.{CpWhy}
use Rattle.cpfile.specs.declared.fields.Read.{Read}
use Rattle.cpfile.proofs.Capping.{held_units}

abbrev pub ruled : ExactAxis → ExactAxis → Ruled
ruled x y = record { lattice = x.lattice; sheet = record { w = x.length; h = y.length } }

abbrev on : ExactAxis → ℤ → Coordinate
on axis units = record { axis = axis.length; units = units }

pub ended_as : {A : Type 0} (o : Result A (Stop CpWhy)) (s : Stop CpWhy) (P : Result A (Stop CpWhy) → Type 0) → IsErrAnd o (λ e. e ≡ s) → P (Err s) → P o
ended_as (Ok x) s P h p = absurd h
ended_as (Err e) s P h p = subst (λ z. P (Err z)) (sym h) p

-- under the name that the axis and the units have
pub named : (x z : ExactAxis) (field : ℕ) (units : ℤ) (o : Result ExactNumber (Stop CpWhy)) → z ≡ x → unsigned_abs units ≤ 2 ^ 100 → Places z field (to_z w128 (of_z w128 units)) o → Places x field units o
named x z field units o e h p = subst (λ a. Places a field units o) e (subst (λ k. Places z field k o) (held_units units h) p)

-- y with the lattice of x
abbrev pub beside : ExactAxis → ExactAxis → ExactAxis
beside x y = record { lattice = x.lattice; length = y.length }

pub on_y : (x y : ExactAxis) → y.lattice ≡ x.lattice → y ≡ beside x y
on_y x y e = λ i. record { lattice = e i; length = y.length }

module _ (x y : ExactAxis) (read : Read) where
  pub first_x1 : (s : Stop CpWhy) → Places x 2 read.x1 (Err s) → PlacesEnds (ruled x y) read (Err s)
  first_x1 stop.NoMemory h = tt
  first_x1 (stop.Why w) h = λ f a. record {
    before = [];
    at = on x f.x1;
    after = on y f.y1 ∷ on x f.x2 ∷ on y f.y2 ∷ [];
    whole = refl;
    placed = All-nil (IsPlaced x.lattice);
    unplaced = h f.x1 a.x1;
  }

  module _ (u1 : ExactNumber) (h1 : Places x 2 read.x1 (Ok u1)) where
    pub first_y1 : (s : Stop CpWhy) → Places (beside x y) 3 read.y1 (Err s) → PlacesEnds (ruled x y) read (Err s)
    first_y1 stop.NoMemory h = tt
    first_y1 (stop.Why w) h = λ f a. record {
      before = on x f.x1 ∷ [];
      at = on y f.y1;
      after = on x f.x2 ∷ on y f.y2 ∷ [];
      whole = refl;
      placed = All-cons (IsPlaced x.lattice) (on x f.x1) [] (u1, h1 f.x1 a.x1) (All-nil (IsPlaced x.lattice));
      unplaced = h f.y1 a.y1;
    }

    module _ (v1 : ExactNumber) (k1 : Places (beside x y) 3 read.y1 (Ok v1)) where
      pub first_x2 : (s : Stop CpWhy) → Places x 4 read.x2 (Err s) → PlacesEnds (ruled x y) read (Err s)
      first_x2 stop.NoMemory h = tt
      first_x2 (stop.Why w) h = λ f a. record {
        before = on x f.x1 ∷ on y f.y1 ∷ [];
        at = on x f.x2;
        after = on y f.y2 ∷ [];
        whole = refl;
        placed = All-cons (IsPlaced x.lattice) (on x f.x1) (on y f.y1 ∷ []) (u1, h1 f.x1 a.x1) (All-cons (IsPlaced x.lattice) (on y f.y1) [] (v1, k1 f.y1 a.y1) (All-nil (IsPlaced x.lattice)));
        unplaced = h f.x2 a.x2;
      }

      module _ (u2 : ExactNumber) (h2 : Places x 4 read.x2 (Ok u2)) where
        pub first_y2 : (s : Stop CpWhy) → Places (beside x y) 5 read.y2 (Err s) → PlacesEnds (ruled x y) read (Err s)
        first_y2 stop.NoMemory h = tt
        first_y2 (stop.Why w) h = λ f a. record {
          before = on x f.x1 ∷ on y f.y1 ∷ on x f.x2 ∷ [];
          at = on y f.y2;
          after = [];
          whole = refl;
          placed = All-cons (IsPlaced x.lattice) (on x f.x1) (on y f.y1 ∷ on x f.x2 ∷ []) (u1, h1 f.x1 a.x1)
              (All-cons (IsPlaced x.lattice) (on y f.y1) (on x f.x2 ∷ []) (v1, k1 f.y1 a.y1) (All-cons (IsPlaced x.lattice) (on x f.x2) [] (u2, h2 f.x2 a.x2) (All-nil (IsPlaced x.lattice))));
          unplaced = h f.y2 a.y2;
        }

        pub all_placed : (v2 : ExactNumber) → Places (beside x y) 5 read.y2 (Ok v2)
            → PlacesEnds (ruled x y) read (Ok (record { x = u1; y = v1 }, record { x = u2; y = v2 }))
        all_placed v2 h = λ f a. record { x1 = h1 f.x1 a.x1; y1 = k1 f.y1 a.y1; x2 = h2 f.x2 a.x2; y2 = h f.y2 a.y2 }
