use Rattle.std.proofs.Common.{arith, ◌≡◌, ◌<◌, ◌+◌, ◌∙◌, ap, length, ℕ, subst, get_or}
use Rattle.std.specs.Prelude.{IfSome, ℤ}
use Rattle.sheet.specs.declared.mark.Mark.{Mark}
use Rattle.layers.specs.LayerOrder.{before}
use Rattle.layers.specs.Sectors.{behind}
use Rattle.crimp.specs.Cycle.{Layered, numbers_of, IsCycle, Stop, Crimpable, crimped_at, no_entry}
use Rattle.crimp.proofs.OneStep.{cycle_after, shorter_after, total_after, fit, stands, order_long, done, goes}
use Rattle.crimp.proofs.crimping.+fold_up.Goals as goal

pub returns-then-count-lt4-clause-some : goal.returns-then-count-lt4-clause-some
returns-then-count-lt4-clause-some t c =
    subst (λ es. IfSome c.base.result (λ order. (x : ℕ → ℤ) (mark : ℕ → Mark) → IsCycle x mark es → Layered x mark (numbers_of es) order.items)) c.as_slice.ensures.value c.base.ensures.some

pub returns-then-count-lt4-clause-ends : goal.returns-then-count-lt4-clause-ends
returns-then-count-lt4-clause-ends t c = Stop c.args.entries.now.items (λ i K. let f = K.four in omega (arith, c.len-count.ensures.value, c.if-count-lt4.true))

pub returns-in_err-i-clause-ends : goal.returns-in_err-i-clause-ends
returns-in_err-i-clause-ends t c = Stop c.args.entries.now.items
    (λ i K. subst (λ es. (j : ℕ) → j < length es → Crimpable es j → ⊥) c.as_slice-2.ensures.value c.in_err-i.ensures.none i K.within K)

pub crimp-requires-clause-fits : goal.crimp-requires-clause-fits
crimp-requires-clause-fits t c = let i = c.in_ok-i.i in let K : Crimpable c.args.entries.now.items c.in_ok-i.i = subst (λ es. Crimpable es i) c.as_slice-2.ensures.value c.in_ok-i.ensures.some in
    fit c.args.entries.now.items (crimped_at c.args.entries.now.items c.in_ok-i.i) c.in_ok-i.i K (λ k. crimped_at c.args.entries.now.items c.in_ok-i.i) c.requires.cycle c.requires.total

pub fold_up-requires : goal.fold_up-requires
fold_up-requires t c = let i = c.in_ok-i.i in let K : Crimpable c.args.entries.now.items c.in_ok-i.i = subst (λ es. Crimpable es i) c.as_slice-2.ensures.value c.in_ok-i.ensures.some in
    let s : length c.crimp.new.entries.items + 2 ≡ length c.args.entries.now.items = shorter_after _ _ _ K c.crimp.ensures c.requires.cycle in
    (omega (arith, c.decreases), (cycle_after _ _ _ K c.crimp.ensures c.requires.cycle, total_after _ _ _ K c.crimp.ensures c.requires.cycle c.requires.total))

pub returns-in_err-order-clause-ends : goal.returns-in_err-order-clause-ends
returns-in_err-order-clause-ends t c = let i = c.in_ok-i.i in let K : Crimpable c.args.entries.now.items c.in_ok-i.i = subst (λ es. Crimpable es i) c.as_slice-2.ensures.value c.in_ok-i.ensures.some in
    goes _ _ _ K c.crimp.ensures _ (subst (λ es. (j : ℕ) → j < i → Crimpable es j → ⊥) c.as_slice-2.ensures.value c.in_ok-i.ensures.first) c.in_err-order.ensures.ends

pub put_back-requires-clause-stands : goal.put_back-requires-clause-stands
put_back-requires-clause-stands t c = let i = c.in_ok-i.i in let K : Crimpable c.args.entries.now.items c.in_ok-i.i = subst (λ es. Crimpable es i) c.as_slice-2.ensures.value c.in_ok-i.ensures.some in
    let h = stands _ _ _ K c.crimp.ensures c.in_ok-order.order.items c.in_ok-order.ensures.some c.requires.cycle in
    rw (c.as_slice-3.ensures.value, c.before-2.ensures.value, c.len-count.ensures.value) h

pub put_back-requires-clause-room : goal.put_back-requires-clause-room
put_back-requires-clause-room t c = let i = c.in_ok-i.i in let K : Crimpable c.args.entries.now.items c.in_ok-i.i = subst (λ es. Crimpable es i) c.as_slice-2.ensures.value c.in_ok-i.ensures.some in
    let h = order_long _ _ _ K c.crimp.ensures c.in_ok-order.order.items c.in_ok-order.ensures.some c.requires.cycle in
    let f = c.as_slice-2.ensures.fits in let e : length c.as_slice-2.result.now ≡ length c.args.entries.now.items = ap length c.as_slice-2.ensures.value in omega arith

pub returns-clause-some : goal.returns-clause-some
returns-clause-some t c = let i = c.in_ok-i.i in let K : Crimpable c.args.entries.now.items c.in_ok-i.i = subst (λ es. Crimpable es i) c.as_slice-2.ensures.value c.in_ok-i.ensures.some in
    done c.args.entries.now.items c.crimp.new.entries.items c.in_ok-i.i K c.crimp.ensures c.in_ok-order.order.items c.in_ok-order.ensures.some c.is_up-up.result c.put_back.new.order.items _ _ _ _
    (ap (λ es. (get_or es c.before-2.result no_entry).number) c.as_slice-3.ensures.value ∙ ap (λ k. (get_or c.args.entries.now.items k no_entry).number) (c.before-2.ensures.value ∙ ap (λ n. before n i) c.len-count.ensures.value))
    (ap (λ es. (get_or es i no_entry).number) c.as_slice-4.ensures.value)
    (ap (λ es. (get_or es c.behind.result no_entry).number) c.as_slice-5.ensures.value ∙ ap (λ k. (get_or c.args.entries.now.items k no_entry).number) (c.behind.ensures.value ∙ ap (λ n. behind n i) c.len-count.ensures.value))
    (ap (λ es. (get_or es i no_entry).mark) c.as_slice-4.ensures.value)
    c.is_up-up.ensures c.put_back.ensures.up c.put_back.ensures.down

pub returns-clause-ends : goal.returns-clause-ends
returns-clause-ends t c = let i = c.in_ok-i.i in let K : Crimpable c.args.entries.now.items c.in_ok-i.i = subst (λ es. Crimpable es i) c.as_slice-2.ensures.value c.in_ok-i.ensures.some in
    goes _ _ _ K c.crimp.ensures _ (subst (λ es. (j : ℕ) → j < i → Crimpable es j → ⊥) c.as_slice-2.ensures.value c.in_ok-i.ensures.first) c.in_ok-order.ensures.ends
