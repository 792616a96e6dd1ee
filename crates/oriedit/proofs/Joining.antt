-- Units of a script that were answered, and more after them.
use Rattle.std.proofs.Common.{◌≡◌, ℕ, ◌+◌, List, [], ◌∷◌, ◌++◌, append_assoc, refl, sym, ap, subst, ◌∙◌, arith}
use Rattle.std.specs.Prelude.{Option, Some, None}
use Rattle.std.specs.List.{concat}
use Rattle.projects.specs.Tables.{Tables}
use Rattle.projects.specs.Entries.{Entries}
use Rattle.oriedit.specs.Outputs.{Gained}
use Rattle.oriedit.specs.Turns.{Turns, TurnTables}
use Rattle.oriedit.specs.Script.{Works, RoseBy, AreDone, AreAnswered, AreCutOff}

-- turns, and more after them
turns_more : (before mid after : Entries) (us vs ts rs : List (List ℕ)) (m n : ℕ) → Turns before us ts m mid
    → Turns mid vs rs n after → Turns before (us ++ vs) (ts ++ rs) (m + n) after
turns_more before mid after [] vs [] rs m n p q =
    let e : n ≡ m + n = omega (arith, p.0) in
    subst (λ k. Turns before vs rs k after) e (subst (λ x. Turns x vs rs n after) p.1 q)
turns_more before mid after [] vs (t ∷ ts) rs m n p q = absurd p
turns_more before mid after (u ∷ us) vs [] rs m n p q = absurd p
turns_more before mid after (u ∷ us) vs (t ∷ ts) rs m n p q =
    let e : m + n ≡ p.1 + (p.2 + n) = omega (arith, p.5) in
    (p.0, p.1, p.2 + n, p.3, turns_more p.0 mid after us vs ts rs p.2 n p.4 q, e)

tables_more : (before mid after : Tables) (us vs ts rs : List (List ℕ)) (m n : ℕ)
    → TurnTables before us ts m mid → TurnTables mid vs rs n after
    → TurnTables before (us ++ vs) (ts ++ rs) (m + n) after
tables_more before mid after us vs ts rs m n p q = λ entries s.
    let a = p entries s in
    let b = q a.0 a.1 in
    (b.0, b.1, turns_more entries a.0 b.0 us vs ts rs m n a.2 b.2)

pub rose_more : (a b c m n : ℕ) → RoseBy a b m → RoseBy b c n → RoseBy a c (m + n)
rose_more a b c m n p q = omega (arith, p, q)

pub gained_more : (a b c : Option (List ℕ)) (x y : List ℕ) → Gained a b x → Gained b c y → Gained a c (x ++ y)
gained_more None None None x y p q = tt
gained_more None None (Some w) x y p q = absurd q
gained_more None (Some v) c x y p q = absurd p
gained_more (Some u) None c x y p q = absurd p
gained_more (Some u) (Some v) None x y p q = absurd q
gained_more (Some u) (Some v) (Some w) x y p q = q ∙ ap (λ t. t ++ y) p ∙ append_assoc u x y

pub concat_more : (xs ys : List (List ℕ)) → concat (xs ++ ys) ≡ concat xs ++ concat ys
concat_more [] ys = refl
concat_more (x ∷ xs) ys = ap (λ t. x ++ t) (concat_more xs ys) ∙ sym (append_assoc x (concat xs) (concat ys))

done_more : (old mid new : Works) (C D : Type 0) → (D → C) → (us vs ts rs : List (List ℕ)) (m n : ℕ)
    → AreDone old C mid us ts m → AreDone mid D new vs rs n → AreDone old D new (us ++ vs) (ts ++ rs) (m + n)
done_more old mid new C D f us vs ts rs m n p q = record {
  told = λ before e clean.
      let a = p.told before e (f clean) in
      let b = q.told a.0 a.1.told clean in (
        b.0,
        record {
          told = b.1.told;
          tables = λ t. b.1.tables (a.1.tables t);
          holds = tables_more before a.0 b.0 us vs ts rs m n a.1.holds b.1.holds;
        },
      );
  counted = rose_more old.faults mid.faults new.faults m n p.counted q.counted;
}

pub answered_more : (old mid new : Works) (C D : Type 0) → (D → C) → (us vs : List (List ℕ))
    → AreAnswered old C mid us → AreAnswered mid D new vs → AreAnswered old D new (us ++ vs)
answered_more old mid new C D f us vs p q = record {
  texts = p.texts ++ q.texts;
  fails = p.fails + q.fails;
  done = done_more old mid new C D f us vs p.texts q.texts p.fails q.fails p.done q.done;
  written = subst (Gained old.held new.held) (sym (concat_more p.texts q.texts))
      (gained_more old.held mid.held new.held (concat p.texts) (concat q.texts) p.written q.written);
}

pub cut_off_more : (old mid new : Works) (C D : Type 0) → (D → C) → (us vs : List (List ℕ))
    → AreAnswered old C mid us → AreCutOff mid D new vs → AreCutOff old D new (us ++ vs)
cut_off_more old mid new C D f us vs p q =
    let texts : (p.texts ++ (q.texts ++ q.last ∷ [])) ≡ ((p.texts ++ q.texts) ++ q.last ∷ []) = sym (append_assoc p.texts q.texts (q.last ∷ [])) in
    let written = gained_more old.held mid.held new.held (concat p.texts) (concat q.texts ++ q.part) p.written q.written in
    let same : (concat p.texts ++ (concat q.texts ++ q.part)) ≡ (concat (p.texts ++ q.texts) ++ q.part) =
    sym (append_assoc (concat p.texts) (concat q.texts) q.part) ∙ ap (λ t. t ++ q.part) (sym (concat_more p.texts q.texts)) in
    record {
      texts = p.texts ++ q.texts;
      last = q.last;
      fails = p.fails + q.fails;
      done = subst (λ ts. AreDone old D new (us ++ vs) ts (p.fails + q.fails)) texts
          (done_more old mid new C D f us vs p.texts (q.texts ++ q.last ∷ []) p.fails q.fails p.done q.done);
      part = q.part;
      front = q.front;
      written = subst (Gained old.held new.held) same written;
    }
