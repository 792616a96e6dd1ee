-- The rules of a layer order, and the rules over numbers_of.
use Rattle.std.proofs.Common.{◌≡◌, ◌≤◌, ◌<◌, ◌+◌, ◌%◌, ℕ, zero, suc, arith, refl, ap, sym, ◌∙◌, ◌⊎◌, inl, inr, List, length, get_or}
use Rattle.std.specs.Prelude.{pos}
use Rattle.std.proofs.lemmas.Bool.{cases_eq}
use Rattle.crimp.specs.Rules.{Rules}
use Rattle.layers.specs.declared.sector_list.Sector.{Sector}
use Rattle.layers.specs.Sectors.{sector_at}
use Rattle.layers.specs.LayerOrder.{place, before, height, IsLayerOrder}
use Rattle.layers.proofs.callers.Places.{before_lt, place_zero}
use Rattle.crimp.proofs.Partial.{Partial, Next}
use Rattle.crimp.proofs.Places.{inside_moved, between_moved}
use Rattle.crimp.proofs.PutIn.{get_or-height}

before_is : (n b c : ℕ) → b < n → c ≡ before n b → (b ≡ c + 1) ⊎ ((b ≡ 0) × (c + 1 ≡ n))
unfolding before
before_is n zero c h e = inr (refl, omega arith)
before_is n (suc b) c h e = inl (omega arith)

module _ (sectors : List Sector) (order : List ℕ) where
  -- a sector ends at the place of the crease behind it
  pub ends : place sectors (length sectors) ≡ pos 0 → (c d : ℕ) → Next (length sectors) c d → place sectors d ≡ place sectors (c + 1)
  ends closed c d l = elim (before_is (length sectors) d c l.0 l.1) [
    | inl e ↦ ap (place sectors) e
    | inr e ↦ ap (place sectors) e.0 ∙ place_zero sectors ∙ sym closed ∙ ap (place sectors) (sym e.1)
  ]

  pub rules_of : IsLayerOrder sectors order → Rules (λ a. a < length sectors) (Next (length sectors)) (place sectors) (λ i. (sector_at sectors i).mark) (height order)
  rules_of I = record {
    apart = λ a b h k e. sym (get_or-height order a (I.once.each a h)) ∙ ap (λ i. get_or order i 0) e ∙ get_or-height order b (I.once.each b k);
    agrees = λ a b l h k. rw l.1 (I.agrees b k);
    clear = λ a b c d l h k m j i g. I.clear b c k j (inside_moved refl refl (ends I.closes.closed c d m) i) (between_moved refl (ap (height order) l.1) refl g);
    nested = λ a b c d l h k m i j u s o. rw (l.1, m.1) (I.nested b d k j u s o);
  }

  pub after : (j : ℕ) → j < length sectors → (d : ℕ) × Next (length sectors) j d
  unfolding before
  after j k = elim (cases_eq (j + 1) (length sectors)) [
    | inl e ↦ (0, (omega arith, omega arith))
    | inr e ↦ (suc j, (omega arith, refl))
  ]

  pub order_of : length sectors % 2 ≡ 0 → 2 ≤ length sectors → place sectors (length sectors) ≡ pos 0 → Partial order (length sectors)
      → Rules (λ a. a < length sectors) (Next (length sectors)) (place sectors) (λ i. (sector_at sectors i).mark) (height order) → IsLayerOrder sectors order
  unfolding before
  order_of even some closed P R = record {
    closes = record { even = even; some = some; closed = closed };
    once = record { as_long = P.long; each = λ i h. let e = P.each i h in let f = P.long in omega arith };
    agrees = λ i h. R.agrees (before (length sectors) i) i (h, refl) (before_lt (length sectors) i h) h;
    clear = λ i j h k g b. R.clear (before (length sectors) i) i j (after j k).0 (h, refl) (before_lt (length sectors) i h) h (after j k).1 k (inside_moved refl refl (sym (ends closed j (after j k).0 (after j k).1)) g) b;
    nested = λ i j h k u s o. R.nested (before (length sectors) i) i (before (length sectors) j) j (h, refl) (before_lt (length sectors) i h) h (k, refl) (before_lt (length sectors) j k) k u s o;
  }
