-- How the reading of a head ends without one.
use Rattle.std.proofs.Common.{◌≡◌, ◌≢◌, ◌∙◌, ℕ, ◌+◌, ◌≤◌, ◌<◌, List, [], ◌∷◌, ◌++◌, length, sym, ap, subst, refl, append-nil, length-append, arith, ◌⊎◌, inl, inr}
use Rattle.std.specs.Prelude.{Option, None, Result, Err, IsErrAnd}
use Rattle.std.proofs.lemmas.List.{nil_from_length}
use Rattle.std.proofs.lemmas.Result.{err_from_is_err_and}
use Rattle.ports.specs.declared.stop.Stop.{Stop}
use Rattle.ports.specs.declared.stop.Stop.TheVariants as stop
use Rattle.ports.specs.Stops.{Refuses}
use Rattle.ports.specs.Taken.{Gave, IsSpent}
use Rattle.httparse.specs.Grammar.{NeverHasRequest}
use Rattle.httparse.specs.declared.spans.HeaderSpan.{HeaderSpan}
use Rattle.httparse.specs.declared.spans.RequestSpans.{RequestSpans}
use Rattle.api.specs.declared.ask.AskEnd.{AskEnd}
use Rattle.api.specs.declared.ask.AskEnd.TheVariants.{Failed, Closed, Bad}
use Rattle.api.specs.declared.bad.BadWhy.{BadWhy}
use Rattle.api.specs.declared.bad.BadWhy.TheVariants as why
use Rattle.api.specs.Requests.{head_limit}
use Rattle.api.specs.Answers.{all_of, AskOf, IsRefused}
use Rattle.api.specs.Stages.{IsFault, IsOpen, Took, Ends, ReadsHead, refusal, cut_off}
use Rattle.ports.proofs.callers.Taken.{gave_more}
use Rattle.api.proofs.Heads.{all_spent, all_not_empty, broken, ended, endless}

pub fault_ends : (bytes : List ℕ) (end : Stop AskEnd) → IsFault end → Refuses (AskOf bytes) end
fault_ends bytes stop.NoMemory f = tt
fault_ends bytes (stop.Why Failed) f = tt
fault_ends bytes (stop.Why Closed) f = absurd f
fault_ends bytes (stop.Why (Bad bad)) f = absurd f

-- a take ends the reading
pub take_ends : (old mid new : Option (List ℕ)) (before got : List ℕ) (end : Stop AskEnd) → Gave old mid before → Gave mid new got → IsFault end → Ends old new end
take_ends old mid new before got end g h f = record { got = before ++ got; gave = gave_more old mid new before got g h; answer = fault_ends _ end f }

pub head_fails : (old mid new : Option (List ℕ)) (before bytes : List ℕ) (spans : List HeaderSpan) (end : Stop AskEnd) (r : Result RequestSpans (Stop AskEnd))
    → Gave old mid before → ((got : List ℕ) × Gave mid new got × IsFault end) → IsErrAnd r (λ e. e ≡ end) → ReadsHead old new bytes spans r
head_fails old mid new before bytes spans end r g h is =
    let p = err_from_is_err_and r is in
    subst (λ x. ReadsHead old new bytes spans x) (sym (p.1 ∙ ap Err p.2)) (take_ends old mid new before h.0 end g h.1 h.2)

-- these bytes are refused
pub refuses : (bytes : List ℕ) (w : BadWhy) → bytes ≢ [] → IsRefused bytes w None → Refuses (AskOf bytes) (refusal w)
refuses bytes w some is = record { some = some; status = refl; refused = is }

pub cut_ends : (old mid new : Option (List ℕ)) (before bytes : List ℕ) (most count : ℕ) → Gave old mid before → Took mid new before bytes most count
    → count ≡ 0 → length before < head_limit → (before ≡ []) ⊎ IsOpen before → Ends old new (cut_off bytes)
cut_ends old mid new before bytes most count g t none short begun =
    record { got = bytes; gave = subst (Gave old new) (sym t.added) (gave_more old mid new before t.piece g t.gave); answer = pick bytes same (t.ended none) } where
      same : bytes ≡ before
      same = t.added ∙ ap (λ p. before ++ p) (nil_from_length t.piece (t.size ∙ none)) ∙ append-nil before

      pick : (b : List ℕ) → b ≡ before → IsSpent new → Refuses (AskOf (all_of b new)) (cut_off b)
      pick [] e s = all_spent [] new s
      pick (x ∷ b) e s = refuses (all_of (x ∷ b) new) why.Head (all_not_empty (x ∷ b) new (λ q. cc))
          (ended (x ∷ b) new (omega (arith, ap length e)) (elim begun [ inl z ↦ absurd (let q = e ∙ z in cc) | inr o ↦ (subst (λ y. IsOpen y) (sym e) o).none ]) s, refl)

pub never_ends : (old mid new : Option (List ℕ)) (before bytes : List ℕ) (most count : ℕ) → Gave old mid before → Took mid new before bytes most count
    → (count ≡ 0 → ⊥) → length before + most ≤ head_limit → NeverHasRequest bytes → Ends old new (refusal why.Head)
never_ends old mid new before bytes most count g t some short never =
    let size = t.size in
    let bound = t.bound in
    let long = ap length t.added ∙ length-append before t.piece in
    record {
      got = bytes;
      gave = subst (Gave old new) (sym t.added) (gave_more old mid new before t.piece g t.gave);
      answer = refuses (all_of bytes new) why.Head
          (all_not_empty bytes new (λ e. let z = ap length e in some (omega (arith, z, long, size))))
          (broken bytes new (omega (arith, long, size, bound)) never, refl);
    }

pub full_ends : (old new : Option (List ℕ)) (bytes : List ℕ) → Gave old new bytes → length bytes ≡ head_limit
    → (bytes ≡ []) ⊎ IsOpen bytes → Ends old new (refusal why.HeadSize)
full_ends old new bytes g long begun =
    record {
      got = bytes;
      gave = g;
      answer = refuses (all_of bytes new) why.HeadSize (all_not_empty bytes new (λ e. let z = ap length e in absurd (omega (arith, z, long))))
          (elim begun [ inl e ↦ absurd (let z = ap length e in omega (arith, z, long)) | inr o ↦ inl (endless bytes new long o) ], refl);
    }
