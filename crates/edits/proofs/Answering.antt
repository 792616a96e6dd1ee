-- Answers of calls that take memory, put together from those of the calls below.
use Rattle.std.proofs.Common.{◌≡◌, inl, inr, subst, sym}
use Rattle.std.specs.Prelude.{List, Result, Ok, Err, OnOk, IfErr}
use Rattle.ports.specs.declared.stop.Stop.{Stop}
use Rattle.ports.specs.declared.stop.Stop.TheVariants as stop
use Rattle.sheet.specs.Pattern.{ExactCrease}
use Rattle.edits.specs.Drafts.{ExactDraft}
use Rattle.edits.specs.Rules.{Unless, Then}
use Rattle.ports.specs.Stops.{Refuses}
use Rattle.edits.specs.Answers.{Answers}
use Rattle.edits.specs.declared.refusal.EditBad.{EditBad}

-- the last step gives the value
pub then_ok : {A B X : Type 0} (First : Result A EditBad → Type 0) (Next : A → Result B EditBad → Type 0) (r : Result X (Stop EditBad)) (a : A) (b : B) → First (Ok a) → OnOk r (Next a (Ok b)) → OnOk r (Then First Next (Ok b))
then_ok First Next (Ok u) a b f h = (a, f, h)
then_ok First Next (Err e) a b f h = tt

-- the last step refuses
pub then_err : {A B X : Type 0} (First : Result A EditBad → Type 0) (Next : A → Result B EditBad → Type 0) (r : Result X (Stop EditBad)) (a : A) → First (Ok a) → IfErr r (λ e. Refuses (Next a) e) → IfErr r (λ e. Refuses (Then First Next) e)
then_err First Next (Ok u) a f h = tt
then_err First Next (Err stop.NoMemory) a f h = tt
then_err First Next (Err (stop.Why e)) a f h = inr (a, f, h)

-- the first step refuses
pub first_err : {A B : Type 0} (First : Result A EditBad → Type 0) (Next : A → Result B EditBad → Type 0) (e : Stop EditBad) → Refuses First e → Refuses (Then First Next) e
first_err First Next stop.NoMemory h = tt
first_err First Next (stop.Why e) h = inl h

pub unless_ok : {A X : Type 0} (B : Type 0) (bad : EditBad) (Rest : Result A EditBad → Type 0) (r : Result X (Stop EditBad)) (a : A) → (¬ B) → OnOk r (Rest (Ok a)) → OnOk r (Unless B bad Rest (Ok a))
unless_ok B bad Rest (Ok u) a n h = inr (n, h)
unless_ok B bad Rest (Err e) a n h = tt

pub unless_err : {A X : Type 0} (B : Type 0) (bad : EditBad) (Rest : Result A EditBad → Type 0) (r : Result X (Stop EditBad)) → (¬ B) → IfErr r (λ e. Refuses Rest e) → IfErr r (λ e. Refuses (Unless B bad Rest) e)
unless_err B bad Rest (Ok u) n h = tt
unless_err B bad Rest (Err stop.NoMemory) n h = tt
unless_err B bad Rest (Err (stop.Why e)) n h = inr (n, h)

-- what the first step gives goes on
pub followed : {A : Type 0} (First : Result A EditBad → Type 0) (Next : A → Result (List ExactCrease) EditBad → Type 0) (r : Result ExactDraft (Stop EditBad)) (a : A) → First (Ok a) → Answers (Next a) r → Answers (Then First Next) r
followed First Next (Ok b) a f h = (a, f, h)
followed First Next (Err stop.NoMemory) a f h = tt
followed First Next (Err (stop.Why e)) a f h = inr (a, f, h)

-- the first step refuses, and its refusal is handed on
pub refused : {A : Type 0} (First : Result A EditBad → Type 0) (Next : A → Result (List ExactCrease) EditBad → Type 0) (r : Result ExactDraft (Stop EditBad)) (x : Stop EditBad) (e : EditBad) → r ≡ Err x → x ≡ stop.Why e → First (Err e) → Answers (Then First Next) r
refused First Next r x e is why h = subst (λ z. Answers (Then First Next) z) (sym is) (subst (λ y. Refuses (Then First Next) y) (sym why) (inl h))

pub stopped : {A : Type 0} (First : Result A EditBad → Type 0) (Next : A → Result (List ExactCrease) EditBad → Type 0) (r : Result ExactDraft (Stop EditBad)) (x : Stop EditBad) → r ≡ Err x → Refuses First x → Answers (Then First Next) r
stopped First Next r x is h = subst (λ z. Answers (Then First Next) z) (sym is) (first_err First Next x h)
